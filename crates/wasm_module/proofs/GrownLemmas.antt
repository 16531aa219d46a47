-- The new bytes are a module again, where globals were added: to the section that is there, or in one of their own.
use Rattle.std.proofs.Common.{◌≡◌, inl, inr, ℕ, ◌+◌, List, [], ◌∷◌, ◌++◌, length, drop, refl, sym, ap, subst, ◌∙◌, append_assoc, arith}
use Rattle.wasm_types.specs.Module.{Module}
use Rattle.wasm_types.specs.declared.types.PrimitiveTypeInfo.{PrimitiveTypeInfo}
use Rattle.wasm_sections.specs.declared.id.SectionId.{SectionId}
use Rattle.wasm_sections.specs.declared.id.SectionId.TheVariants as ids
use Rattle.wasm_sections.specs.declared.section.Section.{Section}
use Rattle.wasm_sections.specs.Id.{rank_of}
use Rattle.wasm_sections.specs.Section.{AreInOrder, section_parts_of, preamble}
use Rattle.wasm_sections.specs.Find.{end_of, AreBefore, AreBehind}
use Rattle.wasm_sections.specs.Writing.{section_code}
use Rattle.wasm_sections.specs.Laws.{SpellsParts}
use Rattle.wasm_sections.specs.lemmas.PieceLemmas.{IsModuleView, Piece, code_of, joined, end_at, all_placed, of_module}
use Rattle.wasm_sections.specs.lemmas.PieceLemmas.{parts_are, length-code, end_is}
use Rattle.wasm_module.specs.Module.{Layout, IsModule}
use Rattle.wasm_module.specs.Rewritten.{new_globals, GrowsGlobals, AddsGlobals, code_section_with, IsRewritten}
use Rattle.wasm_module.specs.Again.{AreSectionsAgain}
use Rattle.wasm_module.proofs.PieceLemmas.{written, AreWhole, swapped, inserted, IsCut, cut, IsSplit, split, IsCutTwice}
use Rattle.wasm_module.proofs.AgainLemmas.{IsBetween, behind_section, behind_place, joined_pieces, AreNew, new_pieces, again, Short}
use Rattle.wasm_module.proofs.AgainLemmas.{two_joined, three_joined, ends_at, alone}

-- the global section grows: how the old pieces are cut at it, and at the code section
pub record Growth (bytes : List ℕ) (layout : Layout) (n : ℕ) (contents : List ℕ) (t : PrimitiveTypeInfo) (ts : List PrimitiveTypeInfo)
    (new : List ℕ) : Type 0 where
  pub r : IsRewritten bytes layout n contents (t ∷ ts) new
  pub g : GrowsGlobals bytes layout (t ∷ ts) r.code.start r.front
  -- the sections between the two
  pub b : IsBetween (g.is.before ++ g.section ∷ []) g.is.behind r.code_is.before r.code r.code_is.behind
  pub v : IsModuleView bytes layout.sections
  pub a : IsSplit g.is.before (b.mid ++ r.code ∷ r.code_is.behind) g.section 8 v.pieces
  pub d : IsSplit b.mid r.code_is.behind r.code (end_at (8 + length (joined a.first)) a.x) a.second

module _ (bytes : List ℕ) (layout : Layout) (n : ℕ) (contents : List ℕ) (t : PrimitiveTypeInfo) (ts : List PrimitiveTypeInfo) (new : List ℕ)
    (k : Growth bytes layout n contents t ts new) where
  pub growth_pieces : k.v.pieces ≡ k.a.first ++ k.a.x ∷ (k.d.first ++ k.d.x ∷ k.d.second)
  growth_pieces = k.a.parts ∙ ap (λ (l : List Piece). k.a.first ++ k.a.x ∷ l) k.d.parts

  pub growth_global : k.a.x.id ≡ ids.Global
  growth_global = sym (ap (λ (z : Section). z.id) k.a.is) ∙ k.g.is.has

  pub growth_code : k.d.x.id ≡ ids.Code
  growth_code = sym (ap (λ (z : Section). z.id) k.d.is) ∙ k.r.code_is.has

  growth_place : IsCutTwice bytes k.g.section.start k.g.section.end k.r.code.start k.r.code.end k.a.first k.d.first k.d.second (code_of k.a.x) k.d.x
  growth_place =
      let a = k.a in
      let d = k.d in
      let from : ℕ = 8 + length (joined a.first) in
      let gstart : k.g.section.start ≡ from = ap (λ (z : Section). z.start) a.is in
      let gend : k.g.section.end ≡ end_at from a.x = ap (λ (z : Section). z.end) a.is in
      let cstart : k.r.code.start ≡ end_at from a.x + length (joined d.first) = ap (λ (z : Section). z.start) d.is in
      let cend : k.r.code.end ≡ end_at (end_at from a.x + length (joined d.first)) d.x = ap (λ (z : Section). z.end) d.is in
      record {
        bytes_are = joined_pieces a.first d.first d.second (code_of a.x) d.x bytes (k.v.bytes_are
            ∙ ap (λ (l : List Piece). preamble ++ joined l) growth_pieces
            ∙ ap (λ (l : List ℕ). preamble ++ l) (three_joined a.first d.first d.second a.x d.x));
        from_is = gstart;
        to_is = omega (arith, gstart, gend, length-code a.x);
        start_is = omega (arith, cstart, gend);
        end_is = omega (arith, cstart, cend, length-code d.x);
      }

  pub growth_new : Short → AreNew new (k.a.first ++ written ids.Global k.g.contents ∷
      (k.d.first ++ written ids.Code (code_section_with bytes k.r.code k.r.entry contents) ∷ k.d.second))
  growth_new short =
      let r = k.r in
      let a = k.a in
      let d = k.d in
      let c = code_section_with bytes r.code r.entry contents in
      let old : AreWhole k.v.pieces = record { counted = k.v.counted; sorted = k.v.sorted; final = k.v.final } in
      let whole = subst AreWhole growth_pieces old in
      let other : a.x.id ≡ ids.Custom → ⊥ = λ custom. absurd (cc (growth_global, custom)) in
      let swap = swapped a.first (d.first ++ d.x ∷ d.second) a.x k.g.contents other (short (length k.g.contents) k.g.sized) whole in
      let swap_is = subst (λ (i : SectionId). AreWhole (a.first ++ written i k.g.contents ∷ (d.first ++ d.x ∷ d.second))) growth_global swap in
      let e = r.new_is ∙ ap (λ (l : List ℕ). l ++ section_code ids.Code c ++ drop r.code.end bytes) k.g.front_is in
      new_pieces bytes new k.g.section.start k.g.section.end r.code.start r.code.end a.first d.first d.second (code_of a.x) d.x k.g.contents c growth_place
      swap_is growth_code (short (length c) r.code_sized) e

  pub growth_parts : Short → SpellsParts new ((section_parts_of bytes k.g.is.before ++ (ids.Global, k.g.contents) ∷ section_parts_of bytes k.b.mid) ++
      (ids.Code, code_section_with bytes k.r.code k.r.entry contents) ∷ section_parts_of bytes k.r.code_is.behind)
  growth_parts short =
      let r = k.r in
      let g = k.g in
      let c = code_section_with bytes r.code r.entry contents in
      let gend : g.section.end ≡ end_at (8 + length (joined k.a.first)) k.a.x = ap (λ (z : Section). z.end) k.a.is in
      let cend : r.code.end ≡ end_at (end_at (8 + length (joined k.a.first)) k.a.x + length (joined k.d.first)) k.d.x =
      ap (λ (z : Section). z.end) k.d.is in
      again bytes new g.section.start g.section.end r.code.start r.code.end k.a.first k.d.first k.d.second (code_of k.a.x) k.d.x g.contents c
      g.is.before k.b.mid r.code_is.behind growth_place (growth_new short) k.a.before_are
      (k.d.before_are ∙ ap (λ (m : ℕ). all_placed m k.d.first) (sym gend))
      (k.d.behind_are ∙ ap (λ (m : ℕ). all_placed m k.d.second) (sym cend))

  grows_at : Short → AreSectionsAgain bytes layout n contents (t ∷ ts) new
  grows_at short =
      let r = k.r in
      let g = k.g in
      record {
        before = r.code_is.before;
        code = r.code;
        behind = r.code_is.behind;
        sections_are = r.code_is.parts;
        is = r.code_is.has;
        entry = r.entry;
        entry_is = r.entry_is;
        front = section_parts_of bytes g.is.before ++ (ids.Global, g.contents) ∷ section_parts_of bytes k.b.mid;
        front_is = inl (record {
          before = g.is.before;
          section = g.section;
          behind = k.b.mid;
          sections_are = k.b.whole_is ∙ append_assoc g.is.before (g.section ∷ []) k.b.mid;
          is = g.is.has;
          contents = g.contents;
          grown = g.grown;
          parts_are = refl;
        });
        spells = growth_parts short;
      }

abbrev pub growth : (bytes : List ℕ) (info : Module) (layout : Layout) (n : ℕ) (contents : List ℕ) (t : PrimitiveTypeInfo) (ts : List PrimitiveTypeInfo)
    (new : List ℕ) → IsModule bytes info layout → (r : IsRewritten bytes layout n contents (t ∷ ts) new)
    → GrowsGlobals bytes layout (t ∷ ts) r.code.start r.front → Growth bytes layout n contents t ts new
growth bytes info layout n contents t ts new m r g =
    let cb = r.code_is.before in
    let cr = r.code_is.behind in
    let gb = g.is.before in
    let s = g.section in
    let grank = ap rank_of g.is.has in
    let crank = ap rank_of r.code_is.has in
    let b = behind_section gb g.is.behind cb cr s r.code 0 (subst (AreInOrder 0) g.is.parts m.spells.ordered) (sym g.is.parts ∙ r.code_is.parts)
    (omega (arith, grank)) (omega (arith, grank, crank)) in
    let v = of_module bytes layout.sections m.spells in
    let a = split gb (b.mid ++ r.code ∷ cr) s 8 v.pieces
    (sym (g.is.parts ∙ ap (λ (l : List Section). gb ++ s ∷ l) b.behind_is) ∙ v.are) in
    let d = split b.mid cr r.code (end_at (8 + length (joined a.first)) a.x) a.second a.behind_are in
    record { r = r; g = g; b = b; v = v; a = a; d = d }

-- a global section stands between the others: how the old pieces are cut at its place, and at the code section
pub record Addition (bytes : List ℕ) (layout : Layout) (n : ℕ) (contents : List ℕ) (t : PrimitiveTypeInfo) (ts : List PrimitiveTypeInfo)
    (new : List ℕ) : Type 0 where
  pub r : IsRewritten bytes layout n contents (t ∷ ts) new
  pub g : AddsGlobals bytes layout (t ∷ ts) r.code.start r.front
  -- the sections between the place and the code
  pub b : IsBetween g.is.before g.is.behind r.code_is.before r.code r.code_is.behind
  pub v : IsModuleView bytes layout.sections
  pub a : IsCut g.is.before (b.mid ++ r.code ∷ r.code_is.behind) 8 v.pieces
  pub d : IsSplit b.mid r.code_is.behind r.code (8 + length (joined a.first)) a.second

module _ (bytes : List ℕ) (layout : Layout) (n : ℕ) (contents : List ℕ) (t : PrimitiveTypeInfo) (ts : List PrimitiveTypeInfo) (new : List ℕ)
    (k : Addition bytes layout n contents t ts new) where
  pub addition_pieces : k.v.pieces ≡ k.a.first ++ (k.d.first ++ k.d.x ∷ k.d.second)
  addition_pieces = k.a.parts ∙ ap (λ (l : List Piece). k.a.first ++ l) k.d.parts

  pub addition_code : k.d.x.id ≡ ids.Code
  addition_code = sym (ap (λ (z : Section). z.id) k.d.is) ∙ k.r.code_is.has

  place_is : k.g.place ≡ 8 + length (joined k.a.first)
  place_is = k.g.is.at ∙ ap (end_of 8) k.a.before_are ∙ ends_at k.a.first 8

  addition_place : IsCutTwice bytes k.g.place k.g.place k.r.code.start k.r.code.end k.a.first k.d.first k.d.second [] k.d.x
  addition_place =
      let a = k.a in
      let d = k.d in
      let from : ℕ = 8 + length (joined a.first) in
      let at : k.g.place ≡ from = place_is in
      let cstart : k.r.code.start ≡ from + length (joined d.first) = ap (λ (z : Section). z.start) d.is in
      let cend : k.r.code.end ≡ end_at (from + length (joined d.first)) d.x = ap (λ (z : Section). z.end) d.is in
      record {
        bytes_are = joined_pieces a.first d.first d.second [] d.x bytes (k.v.bytes_are
            ∙ ap (λ (l : List Piece). preamble ++ joined l) addition_pieces
            ∙ ap (λ (l : List ℕ). preamble ++ l) (two_joined a.first d.first d.second d.x));
        from_is = at;
        to_is = omega arith;
        start_is = omega (arith, cstart, at);
        end_is = omega (arith, cstart, cend, length-code d.x);
      }

  pub addition_new : Short → AreNew new (k.a.first ++ written ids.Global (new_globals (t ∷ ts)) ∷
      (k.d.first ++ written ids.Code (code_section_with bytes k.r.code k.r.entry contents) ∷ k.d.second))
  addition_new short =
      let r = k.r in
      let a = k.a in
      let d = k.d in
      let c = code_section_with bytes r.code r.entry contents in
      let gc = new_globals (t ∷ ts) in
      let from : ℕ = 8 + length (joined a.first) in
      let old : AreWhole k.v.pieces = record { counted = k.v.counted; sorted = k.v.sorted; final = k.v.final } in
      let whole = subst AreWhole addition_pieces old in
      let behind_are : k.g.is.behind ≡ all_placed from (d.first ++ d.x ∷ d.second) = k.b.behind_is ∙ a.behind_are
      ∙ ap (all_placed from) d.parts in
      let insert = inserted a.first (d.first ++ d.x ∷ d.second) ids.Global gc from (λ custom. absurd cc) (short (length gc) k.g.sized)
      (subst (AreBefore (rank_of ids.Global)) a.before_are k.g.is.smaller) (subst (AreBehind (rank_of ids.Global)) behind_are k.g.is.greater) whole in
      let e = r.new_is ∙ ap (λ (l : List ℕ). l ++ section_code ids.Code c ++ drop r.code.end bytes) k.g.front_is in
      new_pieces bytes new k.g.place k.g.place r.code.start r.code.end a.first d.first d.second [] d.x gc c addition_place insert addition_code
      (short (length c) r.code_sized) e

  pub addition_parts : Short → SpellsParts new ((section_parts_of bytes k.g.is.before ++ (ids.Global, new_globals (t ∷ ts)) ∷ section_parts_of bytes k.b.mid) ++
      (ids.Code, code_section_with bytes k.r.code k.r.entry contents) ∷ section_parts_of bytes k.r.code_is.behind)
  addition_parts short =
      let r = k.r in
      let c = code_section_with bytes r.code r.entry contents in
      let cend : r.code.end ≡ end_at (8 + length (joined k.a.first) + length (joined k.d.first)) k.d.x = ap (λ (z : Section). z.end) k.d.is in
      again bytes new k.g.place k.g.place r.code.start r.code.end k.a.first k.d.first k.d.second [] k.d.x (new_globals (t ∷ ts)) c k.g.is.before
      k.b.mid r.code_is.behind addition_place (addition_new short) k.a.before_are
      (k.d.before_are ∙ ap (λ (m : ℕ). all_placed m k.d.first) (sym place_is))
      (k.d.behind_are ∙ ap (λ (m : ℕ). all_placed m k.d.second) (sym cend))

  adds_at : Short → AreSectionsAgain bytes layout n contents (t ∷ ts) new
  adds_at short =
      let r = k.r in
      record {
        before = r.code_is.before;
        code = r.code;
        behind = r.code_is.behind;
        sections_are = r.code_is.parts;
        is = r.code_is.has;
        entry = r.entry;
        entry_is = r.entry_is;
        front = section_parts_of bytes k.g.is.before ++ (ids.Global, new_globals (t ∷ ts)) ∷ section_parts_of bytes k.b.mid;
        front_is = inr (record { before = k.g.is.before; behind = k.b.mid; sections_are = k.b.whole_is; parts_are = refl });
        spells = addition_parts short;
      }

abbrev pub addition : (bytes : List ℕ) (info : Module) (layout : Layout) (n : ℕ) (contents : List ℕ) (t : PrimitiveTypeInfo) (ts : List PrimitiveTypeInfo)
    (new : List ℕ) → IsModule bytes info layout → (r : IsRewritten bytes layout n contents (t ∷ ts) new)
    → AddsGlobals bytes layout (t ∷ ts) r.code.start r.front → Addition bytes layout n contents t ts new
addition bytes info layout n contents t ts new m r g =
    let cb = r.code_is.before in
    let cr = r.code_is.behind in
    let p = g.is in
    let crank = ap rank_of r.code_is.has in
    let b = behind_place p.before p.behind cb cr r.code (rank_of ids.Global) p.smaller (sym p.parts ∙ r.code_is.parts) (omega (arith, crank)) in
    let v = of_module bytes layout.sections m.spells in
    let a = cut p.before (b.mid ++ r.code ∷ cr) 8 v.pieces
    (sym (p.parts ∙ ap (λ (l : List Section). p.before ++ l) b.behind_is) ∙ v.are) in
    let d = split b.mid cr r.code (8 + length (joined a.first)) a.second a.behind_are in
    record { r = r; g = g; b = b; v = v; a = a; d = d }

pub module_again : (bytes : List ℕ) (info : Module) (layout : Layout) (n : ℕ) (contents : List ℕ) (more : List PrimitiveTypeInfo) (new : List ℕ) → Short →
    IsModule bytes info layout → IsRewritten bytes layout n contents more new → AreSectionsAgain bytes layout n contents more new
module_again bytes info layout n contents [] new short m r = alone bytes info layout n contents new short m r
module_again bytes info layout n contents (t ∷ ts) new short m r =
    elim r.front_is [
      | inl g ↦ grows_at bytes layout n contents t ts new (growth bytes info layout n contents t ts new m r g) short
      | inr g ↦ adds_at bytes layout n contents t ts new (addition bytes info layout n contents t ts new m r g) short
    ]
