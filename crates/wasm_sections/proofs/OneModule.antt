-- Bytes spell one module at most, and those that spell one have no fault.
use Rattle.std.proofs.Common.{◌≡◌, ℕ, ◌<◌, List, [], ◌∷◌, ◌++◌, length, take, drop, Result, Ok, Err, refl, sym, ap, subst, ◌∙◌, append_assoc, inl, inr, arith}
use Rattle.std.specs.Prelude.{max, IfOk, IfErr, MatchResult}
use Rattle.std.specs.Global.{Vec}
use Rattle.std.proofs.lemmas.List.{length-append, take_at}
use Rattle.wasm_code.specs.declared.fault.Cause.TheVariants as causes
use Rattle.wasm_code.specs.Number.{SpellsUnsigned}
use Rattle.wasm_sections.specs.declared.id.SectionId.{SectionId}
use Rattle.wasm_sections.specs.declared.id.SectionId.TheVariants as ids
use Rattle.wasm_sections.specs.declared.section.Section.{Section}
use Rattle.wasm_sections.specs.declared.fault.ModuleFault.{ModuleFault}
use Rattle.wasm_sections.specs.declared.fault.ModuleFault.TheVariants as faults
use Rattle.wasm_sections.specs.declared.fault.ModuleError.{ModuleError}
use Rattle.wasm_sections.specs.Id.{id_code, rank_of}
use Rattle.wasm_sections.specs.Section.{SpellsModule, IsLinkable, AreFinal}
use Rattle.wasm_sections.specs.Sections.{last_rank, FailsSection, SectionsStopAt, IsSectionFault}
use Rattle.wasm_sections.specs.Reader.{IsCounted}
use Rattle.wasm_sections.proofs.CountedLemmas.{one_counted, no_short, no_fail}
use Rattle.wasm_sections.specs.lemmas.IdLemmas.{one_id}
use Rattle.wasm_sections.specs.lemmas.PieceLemmas.{Piece, code_of, joined, AreCounted, AreSorted, all_placed, parts, last_of, last_is, of_module}

-- ---- one piece, one list of pieces

pub cons_is : (a b : ℕ) (s t : List ℕ) → a ∷ s ≡ b ∷ t → (a ≡ b) × (s ≡ t)
cons_is a b s t e = (cc, cc)

abbrev piece : SectionId → (size contents : List ℕ) → Piece
piece id size contents = record { id = id; size = size; contents = contents }

piece_is : (x y : Piece) → x.id ≡ y.id → x.size ≡ y.size → x.contents ≡ y.contents → x ≡ y
piece_is x y p q r = ap (λ (i : SectionId). piece i x.size x.contents) p ∙ ap (λ (l : List ℕ). piece y.id l x.contents) q ∙ ap (piece y.id y.size) r

pub next_is : (x y : Piece) (a b : List ℕ) → SpellsUnsigned 32 x.size (length x.contents) → SpellsUnsigned 32 y.size (length y.contents) →
    code_of x ++ a ≡ code_of y ++ b → (x ≡ y) × (a ≡ b)
next_is x y a b p q e =
    let c = cons_is (id_code x.id) (id_code y.id) (x.size ++ x.contents ++ a) (y.size ++ y.contents ++ b) e in
    let n = one_counted x.contents a y.contents b (x.size ++ x.contents ++ a) (record { size = x.size; parts = refl; counts = p })
    (record { size = y.size; parts = c.1; counts = q }) in
    let len : length x.size ≡ length y.size = omega (
      arith,
      ap length c.1,
      length-append (x.size ++ x.contents) a,
      length-append x.size x.contents,
      length-append (y.size ++ y.contents) b,
      length-append y.size y.contents,
      ap length n.0,
      ap length n.1,
    ) in
    let size : x.size ≡ y.size = sym (take_at x.size (x.contents ++ a) (length x.size) refl)
    ∙ ap (take (length x.size)) (sym (append_assoc x.size x.contents a) ∙ c.1 ∙ append_assoc y.size y.contents b)
    ∙ take_at y.size (y.contents ++ b) (length x.size) (sym len) in
    (piece_is x y (one_id x.id y.id c.0) size n.0, n.1)

same_pieces : (xs ys : List Piece) → AreCounted xs → AreCounted ys → joined xs ≡ joined ys → xs ≡ ys
same_pieces [] [] p q e = refl
same_pieces [] (y ∷ ys) p q e = absurd cc
same_pieces (x ∷ xs) [] p q e = absurd cc
same_pieces (x ∷ xs) (y ∷ ys) p q e =
    let n = next_is x y (joined xs) (joined ys) p.0 q.0 e in
    ap (λ (l : List Piece). x ∷ l) (same_pieces xs ys p.1 q.1 n.1) ∙ ap (λ (z : Piece). z ∷ ys) n.0

pub one_module : (bytes : List ℕ) (xs ys : List Section) → SpellsModule bytes xs → SpellsModule bytes ys → xs ≡ ys
one_module bytes xs ys p q =
    let u = of_module bytes xs p in
    let v = of_module bytes ys q in
    let e : joined u.pieces ≡ joined v.pieces = ap (drop 8) (sym u.bytes_are ∙ v.bytes_are) in
    u.are ∙ ap (all_placed 8) (same_pieces u.pieces v.pieces u.counted v.counted e) ∙ sym v.are

-- ---- no fault

-- what stands behind some pieces is pieces
pub record IsRest (last : ℕ) (back : List ℕ) : Type 0 where
  pub pieces : List Piece
  pub bytes : back ≡ joined pieces
  pub counted : AreCounted pieces
  pub sorted : AreSorted last pieces
  pub final : AreFinal (parts pieces)

pub rest_is : (ys xs : List Piece) (last : ℕ) (back : List ℕ) → AreCounted ys → AreCounted xs → AreSorted last xs → AreFinal (parts xs) →
    joined xs ≡ joined ys ++ back → IsRest (last_of last ys) back
rest_is [] xs last back q p sorted final e = record { pieces = xs; bytes = sym e; counted = p; sorted = sorted; final = final }
rest_is (y ∷ ys) [] last back q p sorted final e = absurd cc
rest_is (y ∷ ys) (x ∷ xs) last back q p sorted final e =
    let n = next_is x y (joined xs) (joined ys ++ back) p.0 q.0 (e ∙ append_assoc (code_of y) (joined ys) back) in
    rest_is ys xs (max last (rank_of y.id)) back q.1 p.1 (subst (λ (z : Piece). AreSorted (max last (rank_of z.id)) xs) n.0 sorted.1) final.1 n.1

-- the piece begins the bytes, and may stand there
pub record IsHere (last : ℕ) (x : Piece) (tail back : List ℕ) : Type 0 where
  pub bytes : back ≡ id_code x.id ∷ x.size ++ x.contents ++ tail
  pub counts : SpellsUnsigned 32 x.size (length x.contents)
  pub ordered : 0 < rank_of x.id → last < rank_of x.id
  pub final : x.id ≡ ids.Custom → IsLinkable x.contents → ⊥

-- behind the id
behind : (last : ℕ) (x : Piece) (tail back : List ℕ) (code : ℕ) (more : List ℕ) → IsHere last x tail back → back ≡ code ∷ more →
    (id_code x.id ≡ code) × IsCounted x.contents tail more
behind last x tail back code more h e =
    let c = cons_is (id_code x.id) code (x.size ++ x.contents ++ tail) more (sym h.bytes ∙ e) in
    (c.0, record { size = x.size; parts = sym c.1; counts = h.counts })

pub here_fails : (fault : ModuleFault) (last : ℕ) (x : Piece) (tail back : List ℕ) → IsHere last x tail back → FailsSection fault last back → ⊥
here_fails faults.UnknownSection last x tail back h s = s.unknown x.id (behind last x tail back s.first s.back h s.parts).0
here_fails faults.Truncated last x tail back h (inl s) =
    no_fail x.contents tail s.back causes.Truncated (behind last x tail back (id_code s.id) s.back h s.parts).1 s.fails
here_fails faults.Truncated last x tail back h (inr s) =
    no_short x.contents tail (s.size ++ s.back) (behind last x tail back (id_code s.id) (s.size ++ s.back) h s.parts).1 (record {
      size = s.size;
      back = s.back;
      count = s.count;
      parts = refl;
      counts = s.counts;
      short = s.short;
    })
here_fails faults.BadInteger last x tail back h s =
    no_fail x.contents tail s.back causes.BadInteger (behind last x tail back (id_code s.id) s.back h s.parts).1 s.fails
here_fails faults.OutOfOrder last x tail back h s =
    let b = behind last x tail back (id_code s.id) (s.size ++ s.contents ++ s.back) h s.parts in
    let same : rank_of x.id ≡ rank_of s.id = ap rank_of (one_id x.id s.id b.0) in
    let some : 0 < rank_of x.id = omega (arith, s.is.0) in
    omega (arith, h.ordered some, s.is.1)
here_fails faults.Linkable last x tail back h s =
    let b = behind last x tail back (id_code s.id) (s.size ++ s.contents ++ s.back) h s.parts in
    let c = one_counted x.contents tail s.contents s.back (s.size ++ s.contents ++ s.back) b.1
    (record { size = s.size; parts = refl; counts = s.counts }) in
    h.final (one_id x.id s.id b.0 ∙ s.is.0) (subst IsLinkable (sym c.0) s.is.1)
here_fails _ last x tail back h s = s

pub none_fails : (fault : ModuleFault) (last : ℕ) (back : List ℕ) → back ≡ [] → FailsSection fault last back → ⊥
none_fails faults.UnknownSection last back e s = let p = s.parts in absurd cc
none_fails faults.Truncated last back e (inl s) = let p = s.parts in absurd cc
none_fails faults.Truncated last back e (inr s) = let p = s.parts in absurd cc
none_fails faults.BadInteger last back e s = let p = s.parts in absurd cc
none_fails faults.OutOfOrder last back e s = let p = s.parts in absurd cc
none_fails faults.Linkable last back e s = let p = s.parts in absurd cc
none_fails _ last back e s = s

pub pieces_fail : (fault : ModuleFault) (last : ℕ) (back : List ℕ) (xs : List Piece) → back ≡ joined xs → AreCounted xs → AreSorted last xs →
    AreFinal (parts xs) → FailsSection fault last back → ⊥
pieces_fail fault last back [] e p sorted final s = none_fails fault last back e s
pieces_fail fault last back (x ∷ xs) e p sorted final s =
    here_fails fault last x (joined xs) back (record { bytes = e; counts = p.0; ordered = sorted.0; final = final.0 }) s

no_stop : (bytes : List ℕ) (xs : List Section) (fault : ModuleFault) (offset : ℕ) → SpellsModule bytes xs → SectionsStopAt bytes fault offset → ⊥
no_stop bytes xs fault offset p s =
    let u = of_module bytes xs p in
    let v = of_module s.front s.sections s.before in
    let e : joined u.pieces ≡ joined v.pieces ++ s.back = ap (drop 8) (sym u.bytes_are ∙ s.parts ∙ ap (λ (l : List ℕ). l ++ s.back) v.bytes_are) in
    let last : last_rank 0 s.sections ≡ last_of 0 v.pieces = ap (last_rank 0) v.are ∙ last_is v.pieces 8 0 in
    let r = rest_is v.pieces u.pieces 0 s.back v.counted u.counted u.sorted u.final e in
    pieces_fail fault (last_of 0 v.pieces) s.back r.pieces r.bytes r.counted r.sorted r.final (subst (λ (k : ℕ). FailsSection fault k s.back) last s.fails)

pub no_fault : (bytes : List ℕ) (xs : List Section) (fault : ModuleFault) (offset : ℕ) → SpellsModule bytes xs → IsSectionFault bytes fault offset →
    fault ≡ faults.Memory
no_fault bytes xs faults.Memory offset p s = refl
no_fault bytes xs faults.BadMagic offset p s = absurd (s.0 (0x01 ∷ 0x00 ∷ 0x00 ∷ 0x00 ∷ p.text, p.parts))
no_fault bytes xs faults.BadVersion offset p s = absurd (s.1 (p.text, p.parts))
no_fault bytes xs faults.UnknownSection offset p s = absurd (no_stop bytes xs faults.UnknownSection offset p s)
no_fault bytes xs faults.Truncated offset p s = absurd (no_stop bytes xs faults.Truncated offset p s)
no_fault bytes xs faults.BadInteger offset p s = absurd (no_stop bytes xs faults.BadInteger offset p s)
no_fault bytes xs faults.OutOfOrder offset p s = absurd (no_stop bytes xs faults.OutOfOrder offset p s)
no_fault bytes xs faults.Linkable offset p s = absurd (no_stop bytes xs faults.Linkable offset p s)
no_fault bytes xs _ offset p s = absurd s

pub only : (bytes : List ℕ) (r : Result (Vec Section) ModuleError) (xs : List Section) → IfOk r (λ v. SpellsModule bytes v.items) →
    IfErr r (λ e. IsSectionFault bytes e.kind e.offset)
    → SpellsModule bytes xs → MatchResult r (λ v. v.items ≡ xs) (λ e. e.kind ≡ faults.Memory)
only bytes (Ok v) xs found fault p = one_module bytes v.items xs found p
only bytes (Err e) xs found fault p = no_fault bytes xs e.kind e.offset p fault
