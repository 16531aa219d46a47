-- The pieces of a module and of the new bytes: they share those before the global section, and of the others only the global section and the code differ.
use Rattle.std.proofs.Common.{◌≡◌, inl, inr, ℕ, ◌+◌, ◌<◌, true, List, [], ◌∷◌, ◌++◌, length, drop, Option, None, refl, sym, ap, subst, ◌∙◌, append_assoc, arith}
use Rattle.std.specs.Prelude.{slice_range, map}
use Rattle.std.specs.List.{AllByRecursion}
use Rattle.std.proofs.lemmas.List.{length-append, append-nil}
use Rattle.wasm_types.specs.Module.{Module, merged}
use Rattle.wasm_types.specs.declared.types.PrimitiveTypeInfo.{PrimitiveTypeInfo}
use Rattle.wasm_types.specs.declared.types.PrimitiveTypeInfo.TheVariants as primitives
use Rattle.wasm_sections.specs.declared.id.SectionId.{SectionId}
use Rattle.wasm_sections.specs.declared.id.SectionId.TheVariants as ids
use Rattle.wasm_sections.specs.declared.section.Section.{Section}
use Rattle.wasm_sections.specs.declared.fault.ModuleError.{ModuleError}
use Rattle.wasm_sections.specs.Id.{id_code, rank_of}
use Rattle.wasm_sections.specs.Section.{preamble}
use Rattle.wasm_sections.specs.Find.{LackId}
use Rattle.wasm_sections.specs.Writing.{section_code}
use Rattle.wasm_sections.specs.lemmas.ChangeLemmas.{spliced}
use Rattle.wasm_sections.specs.lemmas.PieceLemmas.{Piece, code_of, joined, AreSorted, contents_at, end_at, placed, all_placed, of_module}
use Rattle.wasm_sections.specs.lemmas.PieceLemmas.{range_is, joined-append, length-code, end_is}
use Rattle.wasm_lists.specs.Globals.{SpellsGlobal, FailsGlobal}
use Rattle.wasm_lists.specs.Known.{Known, nothing_listed, IsWhole, IsKnown, SpellsKnown}
use Rattle.wasm_module.specs.Module.{Layout, IsModule}
use Rattle.wasm_module.specs.Rewritten.{new_globals, GrowsContents, code_section_with, IsRewritten}
use Rattle.wasm_module.proofs.PieceLemmas.{written, AreWhole, swapped, split}
use Rattle.wasm_module.proofs.AgainLemmas.{Short, AreNew}
use Rattle.wasm_module.proofs.GrownLemmas.{Growth, growth, growth_pieces, growth_global, growth_code, growth_new, Addition}
use Rattle.wasm_module.proofs.GrownLemmas.{addition, addition_pieces, addition_code, addition_new}
use Rattle.wasm_module.proofs.HeldLemmas.{HeldBy, LackPiece, held_none, held_before, held_at, held_there, lacks_before, lacks_from, lacks_again, lacks_pieces}
use Rattle.wasm_module.proofs.NewGlobalLemmas.{grown, grown_whole, new_whole}

-- ---- where a piece's contents stand

pub record IsPlaced (bytes : List ℕ) (u w : List Piece) (p : Piece) : Type 0 where
  pub before : List ℕ
  pub parts : bytes ≡ before ++ (p.contents ++ joined w)
  pub at : length before ≡ contents_at (8 + length (joined u)) p

pub is_placed : (bytes : List ℕ) (u w : List Piece) (p : Piece) → bytes ≡ preamble ++ joined (u ++ p ∷ w) → IsPlaced bytes u w p
is_placed bytes u w p e = record {
  before = (preamble ++ joined u) ++ id_code p.id ∷ p.size;
  parts = e ∙ ap (λ (l : List ℕ). preamble ++ l) (joined-append u (p ∷ w)) ∙ simp append_assoc;
  at = omega (arith, length-append (preamble ++ joined u) (id_code p.id ∷ p.size), length-append preamble (joined u));
}

text_of : (bytes : List ℕ) (u w : List Piece) (p : Piece) (s : Section) → bytes ≡ preamble ++ joined (u ++ p ∷ w) → s ≡ placed (8 + length (joined u)) p →
    slice_range bytes s.contents s.end ≡ p.contents
text_of bytes u w p s e is =
    let k = is_placed bytes u w p e in
    ap (λ (z : Section). slice_range bytes z.contents z.end) is
    ∙ range_is bytes k.before p.contents (joined w) (contents_at (8 + length (joined u)) p) (end_at (8 + length (joined u)) p) k.parts k.at refl

-- ---- the pieces again

abbrev pub AreSome : List PrimitiveTypeInfo → Type 0
AreSome more = AllByRecursion (λ t. t ≡ primitives.Empty → ⊥) more

abbrev pub HasGlobals : List Piece → Known PrimitiveTypeInfo → Type 0
HasGlobals ps k = HeldBy nothing_listed (SpellsKnown SpellsGlobal FailsGlobal) 8 ps ids.Global k

-- what stands from the global section on has no section with an id of a smaller rank
abbrev pub AreLate : List Piece → Type 0
AreLate ps = (id : SectionId) → 0 < rank_of id → rank_of id < 7 → LackPiece ps id

pub record ArePiecesAgain (bytes : List ℕ) (sections : List Section) (own : ℕ) (more : List PrimitiveTypeInfo) (code : Section) (c : List ℕ)
    (new : List ℕ) : Type 0 where
  pub first : List Piece
  pub old : List Piece
  pub fresh : List Piece
  pub x : Piece
  pub second : List Piece
  pub sections_are : sections ≡ all_placed 8 (first ++ (old ++ x ∷ second))
  pub bytes_are : bytes ≡ preamble ++ joined (first ++ (old ++ x ∷ second))
  pub sorted : AreSorted 0 (first ++ (old ++ x ∷ second))
  pub new_is : AreNew new (first ++ (fresh ++ written ids.Code c ∷ second))
  pub is_code : x.id ≡ ids.Code
  pub code_is : code ≡ placed (8 + length (joined (first ++ old))) x
  pub late : AreLate (old ++ x ∷ second)
  pub late_again : AreLate (fresh ++ written ids.Code c ∷ second)
  pub globals : (k : Known PrimitiveTypeInfo) → k.unknown ≡ None → own ≡ k.count → HasGlobals (first ++ (old ++ x ∷ second)) k →
      HasGlobals (first ++ (fresh ++ written ids.Code c ∷ second)) (grown k more)

known_whole : (k : Known PrimitiveTypeInfo) (start : ℕ) (text : List ℕ) → k.unknown ≡ None → SpellsKnown SpellsGlobal FailsGlobal start text k →
    IsWhole SpellsGlobal text k.count k.items
known_whole k start text e s = subst (IsKnown SpellsGlobal FailsGlobal start text k.count k.items) e s

none_grown : (k : Known PrimitiveTypeInfo) → k.unknown ≡ None → k ≡ grown k []
none_grown k e =
    let count : k.count ≡ k.count + 0 = omega arith in
    ap (λ (n : ℕ). record { count = n; items = k.items; unknown = k.unknown }) count
    ∙ ap (λ (l : List PrimitiveTypeInfo). record { count = k.count + 0; items = l; unknown = k.unknown }) (sym (append-nil k.items))
    ∙ ap (λ (o : Option ModuleError). record { count = k.count + 0; items = k.items ++ []; unknown = o }) e

-- no globals more
alone : (bytes : List ℕ) (info : Module) (layout : Layout) (n : ℕ) (contents new : List ℕ) → Short → IsModule bytes info layout →
    (r : IsRewritten bytes layout n contents [] new)
    → ArePiecesAgain bytes layout.sections layout.own_globals [] r.code (code_section_with bytes r.code r.entry contents) new
alone bytes info layout n contents new short m r =
    let c = code_section_with bytes r.code r.entry contents in
    let y = written ids.Code c in
    let v = of_module bytes layout.sections m.spells in
    let d = split r.code_is.before r.code_is.behind r.code 8 v.pieces (sym r.code_is.parts ∙ v.are) in
    let sorted = subst (AreSorted 0) d.parts v.sorted in
    let id : d.x.id ≡ ids.Code = sym (ap (λ (z : Section). z.id) d.is) ∙ r.code_is.has in
    let other : d.x.id ≡ ids.Custom → ⊥ = λ custom. absurd (cc (id, custom)) in
    let old : AreWhole v.pieces = record { counted = v.counted; sorted = v.sorted; final = v.final } in
    let swap = swapped d.first d.second d.x c other (short (length c) r.code_sized) (subst AreWhole d.parts old) in
    let whole = subst (λ (i : SectionId). AreWhole (d.first ++ written i c ∷ d.second)) id swap in
    let bytes_are : bytes ≡ preamble ++ joined (d.first ++ d.x ∷ d.second) = v.bytes_are ∙ ap (λ (l : List Piece). preamble ++ joined l) d.parts in
    let cstart : r.code.start ≡ 8 + length (joined d.first) = ap (λ (z : Section). z.start) d.is in
    let cend : r.code.end ≡ end_at (8 + length (joined d.first)) d.x = ap (λ (z : Section). z.end) d.is in
    let spelled = r.new_is ∙ ap (λ (l : List ℕ). l ++ section_code ids.Code c ++ drop r.code.end bytes) r.front_is
    ∙ spliced bytes (code_of d.x) d.first d.second y r.code.start r.code.end
    (bytes_are ∙ ap (λ (l : List ℕ). preamble ++ l) (joined-append d.first (d.x ∷ d.second))) cstart
    (omega (arith, cstart, cend, length-code d.x)) in
    let late : (id' : SectionId) → 0 < rank_of id' → rank_of id' < 12 → LackPiece (d.x ∷ d.second) id' = λ id' some lt.
    lacks_from d.first d.second d.x 0 id' sorted some (omega (arith, lt, ap rank_of id)) in
    let late_again : (id' : SectionId) → 0 < rank_of id' → rank_of id' < 12 → LackPiece (y ∷ d.second) id' = λ id' some lt.
    lacks_from d.first d.second y 0 id' whole.sorted some (omega (arith, lt)) in
    record {
      first = d.first;
      old = [];
      fresh = [];
      x = d.x;
      second = d.second;
      sections_are = v.are ∙ ap (all_placed 8) d.parts;
      bytes_are = bytes_are;
      sorted = sorted;
      new_is = record { spelled = spelled; whole = whole };
      is_code = id;
      code_is = d.is ∙ ap (λ (l : List Piece). placed (8 + length (joined l)) d.x) (sym (append-nil d.first));
      late = λ id' some lt. late id' some (omega (arith, lt));
      late_again = λ id' some lt. late_again id' some (omega (arith, lt));
      globals = λ k e same h. subst (HasGlobals (d.first ++ y ∷ d.second)) (none_grown k e)
          (held_before nothing_listed (SpellsKnown SpellsGlobal FailsGlobal) bytes ids.Global k d.first (d.x ∷ d.second) (y ∷ d.second) 8
          (late ids.Global (omega arith) (omega arith)) (late_again ids.Global (omega arith) (omega arith)) h);
    }

-- the global section grows
grows : (bytes : List ℕ) (layout : Layout) (n : ℕ) (contents : List ℕ) (t : PrimitiveTypeInfo) (ts : List PrimitiveTypeInfo) (new : List ℕ) → Short →
    AreSome (t ∷ ts) → (g : Growth bytes layout n contents t ts new)
    → ArePiecesAgain bytes layout.sections layout.own_globals (t ∷ ts) g.r.code (code_section_with bytes g.r.code g.r.entry contents) new
grows bytes layout n contents t ts new short some g =
    let c = code_section_with bytes g.r.code g.r.entry contents in
    let y = written ids.Code c in
    let fresh = written ids.Global g.g.contents in
    let a = g.a in
    let d = g.d in
    let pieces = growth_pieces bytes layout n contents t ts new g in
    let global_is = growth_global bytes layout n contents t ts new g in
    let is = growth_new bytes layout n contents t ts new g short in
    let sorted = subst (AreSorted 0) pieces g.v.sorted in
    let bytes_are : bytes ≡ preamble ++ joined (a.first ++ a.x ∷ (d.first ++ d.x ∷ d.second)) = g.v.bytes_are
    ∙ ap (λ (l : List Piece). preamble ++ joined l) pieces in
    let from : ℕ = 8 + length (joined a.first) in
    let place : end_at from a.x + length (joined d.first) ≡ 8 + length (joined (a.first ++ a.x ∷ d.first)) = omega (
      arith,
      end_is from a.x d.first,
      ap length (joined-append a.first (a.x ∷ d.first)),
      length-append (joined a.first) (joined (a.x ∷ d.first)),
    ) in
    let text = text_of bytes a.first (d.first ++ d.x ∷ d.second) a.x g.g.section bytes_are a.is in
    let grow = subst (λ (l : List ℕ). GrowsContents layout.own_globals l (t ∷ ts) g.g.contents) text g.g.grown in
    let counts = short (layout.own_globals + length (t ∷ ts)) g.g.few in
    let lack : LackPiece a.first ids.Global = subst (LackPiece a.first) global_is
    (lacks_before a.first (d.first ++ d.x ∷ d.second) a.x 0 sorted (omega (arith, ap rank_of global_is))) in
    record {
      first = a.first;
      old = a.x ∷ d.first;
      fresh = fresh ∷ d.first;
      x = d.x;
      second = d.second;
      sections_are = g.v.are ∙ ap (all_placed 8) pieces;
      bytes_are = bytes_are;
      sorted = sorted;
      new_is = is;
      is_code = growth_code bytes layout n contents t ts new g;
      code_is = d.is ∙ ap (λ (m : ℕ). placed m d.x) place;
      late = λ id some lt. lacks_from a.first (d.first ++ d.x ∷ d.second) a.x 0 id sorted some (omega (arith, lt, ap rank_of global_is));
      late_again = λ id some lt. lacks_from a.first (d.first ++ y ∷ d.second) fresh 0 id is.whole.sorted some (omega (arith, lt));
      globals = λ k e same h.
          let old = held_at nothing_listed (SpellsKnown SpellsGlobal FailsGlobal) bytes ids.Global k a.first (d.first ++ d.x
          ∷ d.second) a.x 8 global_is lack h in
          held_there nothing_listed (SpellsKnown SpellsGlobal FailsGlobal) bytes ids.Global (grown k (t ∷ ts)) a.first (d.first ++ y
          ∷ d.second) fresh 8 refl lack
          (grown_whole layout.own_globals a.x.contents g.g.contents (t ∷ ts) k grow counts some same (known_whole k _ a.x.contents e old));
    }

-- a global section stands between the others
adds : (bytes : List ℕ) (layout : Layout) (n : ℕ) (contents : List ℕ) (t : PrimitiveTypeInfo) (ts : List PrimitiveTypeInfo) (new : List ℕ) → Short →
    AreSome (t ∷ ts) → (g : Addition bytes layout n contents t ts new)
    → ArePiecesAgain bytes layout.sections layout.own_globals (t ∷ ts) g.r.code (code_section_with bytes g.r.code g.r.entry contents) new
adds bytes layout n contents t ts new short some g =
    let c = code_section_with bytes g.r.code g.r.entry contents in
    let y = written ids.Code c in
    let more = t ∷ ts in
    let fresh = written ids.Global (new_globals more) in
    let a = g.a in
    let d = g.d in
    let pieces = addition_pieces bytes layout n contents t ts new g in
    let code_id = addition_code bytes layout n contents t ts new g in
    let is = addition_new bytes layout n contents t ts new g short in
    let sections_are : layout.sections ≡ all_placed 8 (a.first ++ (d.first ++ d.x ∷ d.second)) = g.v.are ∙ ap (all_placed 8) pieces in
    let place : 8 + length (joined a.first) + length (joined d.first) ≡ 8 + length (joined (a.first ++ d.first)) = omega (
      arith,
      ap length (joined-append a.first d.first),
      length-append (joined a.first) (joined d.first),
    ) in
    let late_again : AreLate (fresh ∷ (d.first ++ y ∷ d.second)) = λ id some lt.
    lacks_from a.first (d.first ++ y ∷ d.second) fresh 0 id is.whole.sorted some (omega (arith, lt)) in
    let lack : LackPiece a.first ids.Global = lacks_before a.first (d.first ++ y ∷ d.second) fresh 0 is.whole.sorted (omega arith) in
    let none : LackPiece (a.first ++ (d.first ++ d.x ∷ d.second)) ids.Global = lacks_pieces (a.first ++ (d.first ++ d.x ∷ d.second)) 8 ids.Global
    (subst (λ (l : List Section). LackId l ids.Global) sections_are g.g.none) in
    let zero : length more ≡ 0 + length more = omega arith in
    let whole : IsWhole SpellsGlobal (new_globals more) (0 + length more) (map (merged true) more) =
    subst (λ (m : ℕ). IsWhole SpellsGlobal (new_globals more) m (map (merged true) more)) zero
    (new_whole more (short (length more) g.g.few) some) in
    let there : HasGlobals (a.first ++ fresh ∷ (d.first ++ y ∷ d.second)) (grown nothing_listed more) =
    held_there nothing_listed (SpellsKnown SpellsGlobal FailsGlobal) bytes ids.Global (grown nothing_listed more) a.first (d.first ++ y
    ∷ d.second) fresh 8 refl lack whole in
    record {
      first = a.first;
      old = d.first;
      fresh = fresh ∷ d.first;
      x = d.x;
      second = d.second;
      sections_are = sections_are;
      bytes_are = g.v.bytes_are ∙ ap (λ (l : List Piece). preamble ++ joined l) pieces;
      sorted = subst (AreSorted 0) pieces g.v.sorted;
      new_is = is;
      is_code = code_id;
      code_is = d.is ∙ ap (λ (m : ℕ). placed m d.x) place;
      late = λ id some lt. lacks_again d.first d.second y d.x id (sym code_id) (late_again id some lt).1;
      late_again = late_again;
      globals = λ k e same h.
          let is_none = held_none nothing_listed (SpellsKnown SpellsGlobal FailsGlobal) bytes ids.Global k (a.first ++ (d.first ++ d.x ∷ d.second)) 8 none h in
          subst (λ (j : Known PrimitiveTypeInfo). HasGlobals (a.first ++ fresh ∷ (d.first ++ y ∷ d.second)) (grown j more)) (sym is_none) there;
    }

pub pieces_again : (bytes : List ℕ) (info : Module) (layout : Layout) (n : ℕ) (contents : List ℕ) (more : List PrimitiveTypeInfo) (new : List ℕ) → Short →
    AreSome more → IsModule bytes info layout → (r : IsRewritten bytes layout n contents more new)
    → ArePiecesAgain bytes layout.sections layout.own_globals more r.code (code_section_with bytes r.code r.entry contents) new
pieces_again bytes info layout n contents [] new short some m r = alone bytes info layout n contents new short m r
pieces_again bytes info layout n contents (t ∷ ts) new short some m r =
    elim r.front_is [
      | inl g ↦ grows bytes layout n contents t ts new short some (growth bytes info layout n contents t ts new m r g)
      | inr g ↦ adds bytes layout n contents t ts new short some (addition bytes info layout n contents t ts new m r g)
    ]
