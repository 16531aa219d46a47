-- The new bytes are a module again.
use Rattle.std.proofs.Common.{◌≡◌, ℕ, ◌+◌, ◌<◌, ◌^◌, List, [], ◌∷◌, ◌++◌, length, take, drop, refl, sym, ap, subst, ◌∙◌, append_assoc, arith}
use Rattle.std.specs.Prelude.{max, slice_range}
use Rattle.std.proofs.lemmas.List.{length-append, append-nil}
use Rattle.wasm_code.specs.Number.{SpellsUnsigned}
use Rattle.wasm_code.specs.Code.{shortest}
use Rattle.wasm_types.specs.Module.{Module}
use Rattle.wasm_sections.specs.declared.id.SectionId.{SectionId}
use Rattle.wasm_sections.specs.declared.id.SectionId.TheVariants as ids
use Rattle.wasm_sections.specs.declared.section.Section.{Section}
use Rattle.wasm_sections.specs.Id.{rank_of}
use Rattle.wasm_sections.specs.Section.{SpellsModule, AreInOrder, section_parts_of, preamble}
use Rattle.wasm_sections.specs.Find.{end_of, AreBefore}
use Rattle.wasm_sections.specs.Writing.{section_code}
use Rattle.wasm_sections.specs.Laws.{SpellsParts}
use Rattle.wasm_sections.specs.lemmas.ChangeLemmas.{replaced}
use Rattle.wasm_sections.specs.lemmas.PieceLemmas.{Piece, code_of, joined, end_at, all_placed, part, parts}
use Rattle.wasm_sections.specs.lemmas.PieceLemmas.{parts_are, joined-append, parts-append, end_is}
use Rattle.wasm_module.specs.Module.{Layout, IsModule}
use Rattle.wasm_module.specs.Rewritten.{code_section_with, IsRewritten}
use Rattle.wasm_module.specs.Again.{AreSectionsAgain}
use Rattle.wasm_module.proofs.FindLemmas.{head_is, tail_is, ordered_behind}
use Rattle.wasm_module.proofs.PieceLemmas.{written, AreWhole, spell, swapped, IsCutTwice, rejoined}

abbrev pub Parts : Type 0
Parts = List (SectionId × List ℕ)

-- ---- the code section stands behind the global one

pub record IsBetween (before behind whole : List Section) (code : Section) (rest : List Section) : Type 0 where
  pub mid : List Section
  pub whole_is : whole ≡ before ++ mid
  pub behind_is : behind ≡ mid ++ code ∷ rest

pub behind_section : (gb gr cb cr : List Section) (g code : Section) (last : ℕ) → AreInOrder last (gb ++ g ∷ gr) → gb ++ g ∷ gr ≡ cb ++ code ∷ cr →
    0 < rank_of g.id → rank_of g.id < rank_of code.id → IsBetween (gb ++ g ∷ []) gr cb code cr
behind_section [] gr [] cr g code last o e some lt =
    let same = ap (λ (z : Section). rank_of z.id) (head_is g code gr cr e) in absurd (omega (arith, same))
behind_section [] gr (x ∷ cb) cr g code last o e some lt = record {
  mid = cb;
  whole_is = ap (λ (z : Section). z ∷ cb) (sym (head_is g x gr (cb ++ code ∷ cr) e));
  behind_is = tail_is g x gr (cb ++ code ∷ cr) e;
}
behind_section (x ∷ gb) gr [] cr g code last o e some lt =
    let above : max last (rank_of x.id) < rank_of g.id = ordered_behind gb gr g (max last (rank_of x.id)) o.1 some in
    let same = ap (λ (z : Section). rank_of z.id) (head_is x code (gb ++ g ∷ gr) cr e) in
    absurd (omega (arith, same, above))
behind_section (x ∷ gb) gr (y ∷ cb) cr g code last o e some lt =
    let b = behind_section gb gr cb cr g code (max last (rank_of x.id)) o.1 (tail_is x y (gb ++ g ∷ gr) (cb ++ code ∷ cr) e) some lt in
    record {
      mid = b.mid;
      whole_is = ap (λ (z : Section). z ∷ cb) (sym (head_is x y (gb ++ g ∷ gr) (cb ++ code ∷ cr) e)) ∙ ap (λ (l : List Section). x ∷ l) b.whole_is;
      behind_is = b.behind_is;
    }

pub behind_place : (pb pr cb cr : List Section) (code : Section) (rank : ℕ) → AreBefore rank pb → pb ++ pr ≡ cb ++ code ∷ cr → rank < rank_of code.id →
    IsBetween pb pr cb code cr
behind_place [] pr cb cr code rank b e lt = record { mid = cb; whole_is = refl; behind_is = e }
behind_place (x ∷ pb) pr [] cr code rank b e lt =
    let same = ap (λ (z : Section). rank_of z.id) (head_is x code (pb ++ pr) cr e) in absurd (omega (arith, same, b.0))
behind_place (x ∷ pb) pr (y ∷ cb) cr code rank b e lt =
    let r = behind_place pb pr cb cr code rank b.1 (tail_is x y (pb ++ pr) (cb ++ code ∷ cr) e) lt in
    record {
      mid = r.mid;
      whole_is = ap (λ (z : Section). z ∷ cb) (sym (head_is x y (pb ++ pr) (cb ++ code ∷ cr) e)) ∙ ap (λ (l : List Section). x ∷ l) r.whole_is;
      behind_is = r.behind_is;
    }

-- ---- pieces with a global section and another code section

pub joined_pieces : (first mid second : List Piece) (old : List ℕ) (x : Piece) (bytes : List ℕ) →
    bytes ≡ preamble ++ (joined first ++ (old ++ (joined mid ++ (code_of x ++ joined second)))) →
    bytes ≡ (preamble ++ joined first) ++ (old ++ (joined mid ++ (code_of x ++ joined second)))
joined_pieces first mid second old x bytes e = e ∙ sym (append_assoc preamble (joined first) (old ++ (joined mid ++ (code_of x ++ joined second))))

parts3 : (first mid second : List Piece) (g c : Piece) → parts (first ++ g ∷ (mid ++ c ∷ second)) ≡ parts first ++ part g ∷ (parts mid ++ part c ∷ parts second)
parts3 first mid second g c = parts-append first (g ∷ (mid ++ c ∷ second))
    ∙ ap (λ (l : Parts). parts first ++ part g ∷ l) (parts-append mid (c ∷ second))

-- the pieces spell the new bytes
pub record AreNew (new : List ℕ) (all : List Piece) : Type 0 where
  pub spelled : new ≡ preamble ++ joined all
  pub whole : AreWhole all

pub new_pieces : (bytes new : List ℕ) (from to start end : ℕ) (first mid second : List Piece) (old : List ℕ) (x : Piece) (gc c : List ℕ) →
    IsCutTwice bytes from to start end first mid second old x → AreWhole (first ++ written ids.Global gc ∷ (mid ++ x ∷ second)) → x.id ≡ ids.Code
    → SpellsUnsigned 32 (shortest (length c)) (length c)
    → new ≡ take from bytes ++ section_code ids.Global gc ++ slice_range bytes to start ++ section_code ids.Code c ++ drop end bytes
    → AreNew new (first ++ written ids.Global gc ∷ (mid ++ written ids.Code c ∷ second))
new_pieces bytes new from to start end first mid second old x gc c p whole id counts e =
    let g = written ids.Global gc in
    let y = written ids.Code c in
    let near = subst AreWhole (sym (append_assoc first (g ∷ mid) (x ∷ second))) whole in
    let other : x.id ≡ ids.Custom → ⊥ = λ custom. absurd (cc (id, custom)) in
    let swap = swapped (first ++ g ∷ mid) second x c other counts near in
    let done = subst (λ (i : SectionId). AreWhole ((first ++ g ∷ mid) ++ written i c ∷ second)) id swap in
    record {
      spelled = e ∙ rejoined bytes from to start end first mid second old x g y p;
      whole = subst AreWhole (append_assoc first (g ∷ mid) (y ∷ second)) done;
    }

pub again : (bytes new : List ℕ) (from to start end : ℕ) (first mid second : List Piece) (old : List ℕ) (x : Piece) (gc c : List ℕ) (s1 s2 s3 : List Section) →
    IsCutTwice bytes from to start end first mid second old x → AreNew new (first ++ written ids.Global gc ∷ (mid ++ written ids.Code c ∷ second))
    → s1 ≡ all_placed 8 first → s2 ≡ all_placed to mid → s3 ≡ all_placed end second
    → SpellsParts new ((section_parts_of bytes s1 ++ (ids.Global, gc) ∷ section_parts_of bytes s2) ++ (ids.Code, c) ∷ section_parts_of bytes s3)
again bytes new from to start end first mid second old x gc c s1 s2 s3 p a e1 e2 e3 =
    let g = written ids.Global gc in
    let y = written ids.Code c in
    let all = first ++ g ∷ (mid ++ y ∷ second) in
    let is = spell all new a.spelled a.whole in
    let front = preamble ++ joined first in
    let one : section_parts_of bytes s1 ≡ parts first = ap (section_parts_of bytes) e1
    ∙ parts_are first 8 bytes preamble (old ++ (joined mid ++ (code_of x ++ joined second)))
    (p.bytes_are ∙ append_assoc preamble (joined first) (old ++ (joined mid ++ (code_of x ++ joined second)))) refl in
    let at_mid : bytes ≡ (front ++ old) ++ (joined mid ++ (code_of x ++ joined second)) = p.bytes_are
    ∙ sym (append_assoc front old (joined mid ++ (code_of x ++ joined second))) in
    let mid_len : length (front ++ old) ≡ to = omega (arith, length-append front old, length-append preamble (joined first), p.from_is, p.to_is) in
    let two : section_parts_of bytes s2 ≡ parts mid = ap (section_parts_of bytes) e2
    ∙ parts_are mid to bytes (front ++ old) (code_of x ++ joined second) at_mid mid_len in
    let at_end : bytes ≡ (((front ++ old) ++ joined mid) ++ code_of x) ++ (joined second ++ []) = at_mid
    ∙ sym (append_assoc (front ++ old) (joined mid) (code_of x ++ joined second))
    ∙ sym (append_assoc ((front ++ old) ++ joined mid) (code_of x) (joined second))
    ∙ ap (λ (l : List ℕ). (((front ++ old) ++ joined mid) ++ code_of x) ++ l) (sym (append-nil (joined second))) in
    let end_len : length (((front ++ old) ++ joined mid) ++ code_of x) ≡ end = omega (
      arith,
      length-append ((front ++ old) ++ joined mid) (code_of x),
      length-append (front ++ old) (joined mid),
      mid_len,
      p.start_is,
      p.end_is,
    ) in
    let three : section_parts_of bytes s3 ≡ parts second = ap (section_parts_of bytes) e3
    ∙ parts_are second end bytes (((front ++ old) ++ joined mid) ++ code_of x) [] at_end end_len in
    let are : parts all ≡ (section_parts_of bytes s1 ++ (ids.Global, gc) ∷ section_parts_of bytes s2) ++ (ids.Code, c) ∷ section_parts_of bytes s3 =
    parts3 first mid second g y
    ∙ sym (append_assoc (parts first) (part g ∷ parts mid) (part y ∷ parts second))
    ∙ ap (λ (l : Parts). (l ++ part g ∷ parts mid) ++ part y ∷ parts second) (sym one)
    ∙ ap (λ (l : Parts). (section_parts_of bytes s1 ++ part g ∷ l) ++ part y ∷ parts second) (sym two)
    ∙ ap (λ (l : Parts). (section_parts_of bytes s1 ++ part g ∷ section_parts_of bytes s2) ++ part y ∷ l) (sym three) in
    subst (SpellsParts new) are is

-- ---- the three ways to write the bytes before the code

abbrev pub Short : Type 0
Short = (k : ℕ) → k < 2 ^ 32 → SpellsUnsigned 32 (shortest k) k

pub two_joined : (first mid second : List Piece) (x : Piece) →
    joined (first ++ (mid ++ x ∷ second)) ≡ joined first ++ (joined mid ++ (code_of x ++ joined second))
two_joined first mid second x = joined-append first (mid ++ x ∷ second) ∙ ap (λ (l : List ℕ). joined first ++ l) (joined-append mid (x ∷ second))

pub three_joined : (first mid second : List Piece) (g x : Piece) →
    joined (first ++ g ∷ (mid ++ x ∷ second)) ≡ joined first ++ (code_of g ++ (joined mid ++ (code_of x ++ joined second)))
three_joined first mid second g x = joined-append first (g ∷ (mid ++ x ∷ second))
    ∙ ap (λ (l : List ℕ). joined first ++ (code_of g ++ l)) (joined-append mid (x ∷ second))

pub ends_at : (u : List Piece) (start : ℕ) → end_of start (all_placed start u) ≡ start + length (joined u)
ends_at [] start = omega arith
ends_at (x ∷ u) start = ends_at u (end_at start x) ∙ end_is start x u

-- no globals more
pub alone : (bytes : List ℕ) (info : Module) (layout : Layout) (n : ℕ) (contents new : List ℕ) → Short → IsModule bytes info layout →
    IsRewritten bytes layout n contents [] new → AreSectionsAgain bytes layout n contents [] new
alone bytes info layout n contents new short m r =
    let cb = r.code_is.before in
    let cr = r.code_is.behind in
    let c = code_section_with bytes r.code r.entry contents in
    let e : new ≡ take r.code.start bytes ++ section_code ids.Code c ++ drop r.code.end bytes = r.new_is
    ∙ ap (λ (l : List ℕ). l ++ section_code ids.Code c ++ drop r.code.end bytes) r.front_is in
    let spelled = subst (SpellsModule bytes) r.code_is.parts m.spells in
    let other : r.code.id ≡ ids.Custom → ⊥ = λ custom. absurd (cc (r.code_is.has, custom)) in
    let is = replaced bytes c cb cr r.code spelled other (short (length c) r.code_sized) in
    let P : SectionId → Type 0 = λ i. SpellsParts (take r.code.start bytes ++ section_code i c ++ drop r.code.end bytes)
    (section_parts_of bytes cb ++ (i, c) ∷ section_parts_of bytes cr) in
    record {
      before = cb;
      code = r.code;
      behind = cr;
      sections_are = r.code_is.parts;
      is = r.code_is.has;
      entry = r.entry;
      entry_is = r.entry_is;
      front = section_parts_of bytes cb;
      front_is = refl;
      spells = subst (λ (b : List ℕ). SpellsParts b (section_parts_of bytes cb ++ (ids.Code, c) ∷ section_parts_of bytes cr)) (sym e)
          (subst P r.code_is.has is);
    }
