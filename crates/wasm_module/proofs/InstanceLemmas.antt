-- What instances of a module are made of, and of the module written anew or without some custom sections.
use Rattle.std.proofs.Common.{◌≡◌, ◌⊎◌, inl, inr, ℕ, ◌+◌, List, [], ◌∷◌, ◌++◌, length, Option, Some, None, refl, sym, ap, subst, ◌∙◌, append_assoc, arith}
use Rattle.std.specs.Prelude.{true, slice_range}
use Rattle.std.proofs.lemmas.Bool.{cases_eq}
use Rattle.std.proofs.lemmas.List.{append-nil, map-append}
use Rattle.wasm_code.specs.Number.{SpellsUnsigned}
use Rattle.wasm_code.specs.Code.{shortest}
use Rattle.wasm_types.specs.Module.{Module}
use Rattle.wasm_types.specs.declared.types.PrimitiveTypeInfo.{PrimitiveTypeInfo}
use Rattle.wasm_sections.specs.declared.id.SectionId.{SectionId}
use Rattle.wasm_sections.specs.declared.id.SectionId.TheVariants as ids
use Rattle.wasm_sections.specs.declared.section.Section.{Section}
use Rattle.wasm_sections.specs.Id.{id_code}
use Rattle.wasm_sections.specs.Section.{SpellsModule, section_parts_of}
use Rattle.wasm_sections.specs.Find.{LackId}
use Rattle.wasm_sections.specs.Laws.{SpellsParts}
use Rattle.wasm_sections.specs.lemmas.IdLemmas.{one_id}
use Rattle.wasm_lists.specs.Globals.{SpellsGlobal, FailsGlobal}
use Rattle.wasm_module.specs.Module.{Layout, Holds, IsModule}
use Rattle.wasm_module.specs.Rewritten.{globals_code, new_globals, GrowsContents, GrowsGlobals, AddsGlobals, code_section_with, IsRewritten}
use Rattle.wasm_module.specs.Again.{ArePartsWith, AreSectionsAgain}
use Rattle.wasm_module.specs.Instance.{is_read_whole, HasSection, CountsGlobals, HasOwnGlobals, Making, IsMadeOf, with_more_globals}
use Rattle.wasm_module.proofs.FindLemmas.{lists_at, lists_nothing}
use Rattle.wasm_module.proofs.CountLemmas.{one_count}
use Rattle.wasm_module.proofs.HeldLemmas.{next_holds}
use Rattle.wasm_module.proofs.RoomLemmas.{known_counted}
use Rattle.wasm_module.proofs.AgainLemmas.{Parts, Short}
use Rattle.wasm_module.proofs.GrownLemmas.{growth, growth_parts, addition, addition_parts, module_again}
use Rattle.wasm_module.proofs.StaysLemmas.{Stay, held_still}

-- ---- what sections hold, by their ids and contents

-- the first of these with the id contains a spelling of the value, or there is none and the value is `none`
abbrev HeldIn : {X : Type 0} → (none : X) → (List ℕ → X → Type 0) → Parts → SectionId → X → Type 0
HeldIn none Spells [] id x = x ≡ none
HeldIn none Spells (p ∷ ps) id x = ((p.0 ≡ id) × Spells p.1 x) ⊎ ((p.0 ≡ id → ⊥) × HeldIn none Spells ps id x)

parts-append : (bytes : List ℕ) (u w : List Section) → section_parts_of bytes (u ++ w) ≡ section_parts_of bytes u ++ section_parts_of bytes w
parts-append bytes u w = map-append (λ (s : Section). (s.id, slice_range bytes s.contents s.end)) u w

module _ {X : Type 0} (none : X) (Spells : List ℕ → X → Type 0) (id : SectionId) (x : X) where
  -- what the first with the id holds
  held_there : (bytes text : List ℕ) (before : List Section) (w : Parts) (i : SectionId) → i ≡ id → LackId before id → Spells text x →
      HeldIn none Spells (section_parts_of bytes before ++ (i, text) ∷ w) id x
  held_there bytes text [] w i is lack spells = inl (is, spells)
  held_there bytes text (s ∷ before) w i is lack spells = inr (lack.0, held_there bytes text before w i is lack.1 spells)

  held_nowhere : (bytes : List ℕ) (ss : List Section) → LackId ss id → x ≡ none → HeldIn none Spells (section_parts_of bytes ss) id x
  held_nowhere bytes [] lack e = e
  held_nowhere bytes (s ∷ ss) lack e = inr (lack.0, held_nowhere bytes ss lack.1 e)

  held_in : (bytes : List ℕ) (ss : List Section) → Holds none (λ start. Spells) bytes ss id x → HeldIn none Spells (section_parts_of bytes ss) id x
  held_in bytes ss (inl h) =
      let f = h.1 in
      subst (λ (l : Parts). HeldIn none Spells l id x)
      (sym (ap (section_parts_of bytes) f.parts ∙ parts-append bytes f.before (h.0 ∷ f.behind)))
      (held_there bytes (slice_range bytes h.0.contents h.0.end) f.before (section_parts_of bytes f.behind) h.0.id f.has f.none h.2)
  held_in bytes ss (inr h) = held_nowhere bytes ss h.0 h.1

  holds_in : (bytes : List ℕ) (ss : List Section) → HeldIn none Spells (section_parts_of bytes ss) id x → Holds none (λ start. Spells) bytes ss id x
  holds_in bytes [] h = inr (tt, h)
  holds_in bytes (s ∷ ss) (inl h) = inl (s, record { before = []; behind = ss; parts = refl; has = h.0; none = tt }, h.1)
  holds_in bytes (s ∷ ss) (inr h) = next_holds none (λ start. Spells) bytes id x s ss h.0 (holds_in bytes ss h.1)

  -- other contents of a section with another id
  held_beside : (u w : Parts) (i j : SectionId) (a b : List ℕ) → (i ≡ id → ⊥) → (j ≡ id → ⊥) → HeldIn none Spells (u ++ (i, a) ∷ w) id x →
      HeldIn none Spells (u ++ (j, b) ∷ w) id x
  held_beside [] w i j a b differ other (inl h) = absurd (differ h.0)
  held_beside [] w i j a b differ other (inr h) = inr (other, h.1)
  held_beside (p ∷ u) w i j a b differ other (inl h) = inl h
  held_beside (p ∷ u) w i j a b differ other (inr h) = inr (h.0, held_beside u w i j a b differ other h.1)

  -- a section more with another id
  held_around : (u w : Parts) (i : SectionId) (b : List ℕ) → (i ≡ id → ⊥) → HeldIn none Spells (u ++ w) id x → HeldIn none Spells (u ++ (i, b) ∷ w) id x
  held_around [] w i b differ h = inr (differ, h)
  held_around (p ∷ u) w i b differ (inl h) = inl h
  held_around (p ∷ u) w i b differ (inr h) = inr (h.0, held_around u w i b differ h.1)

  -- what is held by the parts that bytes spell is held by their sections
  spelled_holds : (new : List ℕ) (ps : Parts) (sections : List Section) → (p : SpellsParts new ps) → p.sections ≡ sections → HeldIn none Spells ps id x →
      Holds none (λ start. Spells) new sections id x
  spelled_holds new ps sections p same h =
      subst (λ (l : List Section). Holds none (λ start. Spells) new l id x) same
      (holds_in new p.sections (subst (λ (l : Parts). HeldIn none Spells l id x) (sym p.are) h))

  -- more globals before the code leave the other sections
  front_held : (bytes : List ℕ) (layout : Layout) (more : List PrimitiveTypeInfo) (before : List Section) (front rest : Parts) → (ids.Global ≡ id → ⊥) →
      ArePartsWith bytes layout more before front → HeldIn none Spells (section_parts_of bytes before ++ rest) id x → HeldIn none Spells (front ++ rest) id x
  front_held bytes layout [] before front rest differ e h = subst (λ (l : Parts). HeldIn none Spells (l ++ rest) id x) (sym e) h
  front_held bytes layout (t ∷ ts) before front rest differ (inl g) h =
      let first = section_parts_of bytes g.before in
      let behind = section_parts_of bytes g.behind in
      let text = slice_range bytes g.section.contents g.section.end in
      let was : section_parts_of bytes before ++ rest ≡ first ++ (g.section.id, text) ∷ (behind ++ rest) =
      ap (λ (l : List Section). section_parts_of bytes l ++ rest) g.sections_are
      ∙ ap (λ (l : Parts). l ++ rest) (parts-append bytes g.before (g.section ∷ g.behind))
      ∙ append_assoc first ((g.section.id, text) ∷ behind) rest in
      let now : front ++ rest ≡ first ++ (ids.Global, g.contents) ∷ (behind ++ rest) = ap (λ (l : Parts). l ++ rest) g.parts_are
      ∙ append_assoc first ((ids.Global, g.contents) ∷ behind) rest in
      subst (λ (l : Parts). HeldIn none Spells l id x) (sym now)
      (held_beside first (behind ++ rest) g.section.id ids.Global text g.contents (λ same. differ (sym g.is ∙ same)) differ
      (subst (λ (l : Parts). HeldIn none Spells l id x) was h))
  front_held bytes layout (t ∷ ts) before front rest differ (inr g) h =
      let first = section_parts_of bytes g.before in
      let behind = section_parts_of bytes g.behind in
      let was : section_parts_of bytes before ++ rest ≡ first ++ (behind ++ rest) =
      ap (λ (l : List Section). section_parts_of bytes l ++ rest) g.sections_are ∙ ap (λ (l : Parts). l ++ rest) (parts-append bytes g.before g.behind)
      ∙ append_assoc first behind rest in
      let now : front ++ rest ≡ first ++ (ids.Global, new_globals (t ∷ ts)) ∷ (behind ++ rest) = ap (λ (l : Parts). l ++ rest) g.parts_are
      ∙ append_assoc first ((ids.Global, new_globals (t ∷ ts)) ∷ behind) rest in
      subst (λ (l : Parts). HeldIn none Spells l id x) (sym now)
      (held_around first (behind ++ rest) ids.Global (new_globals (t ∷ ts)) differ (subst (λ (l : Parts). HeldIn none Spells l id x) was h))

  -- other contents of the code leave the other sections
  code_held : (bytes c : List ℕ) (before behind : List Section) (code : Section) (sections : List Section) → sections ≡ before ++ code ∷ behind →
      code.id ≡ ids.Code → (ids.Code ≡ id → ⊥) → Holds none (λ start. Spells) bytes sections id x
      → HeldIn none Spells (section_parts_of bytes before ++ (ids.Code, c) ∷ section_parts_of bytes behind) id x
  code_held bytes c before behind code sections e is differ h =
      let text = slice_range bytes code.contents code.end in
      let was : section_parts_of bytes sections ≡ section_parts_of bytes before ++ (code.id, text) ∷ section_parts_of bytes behind =
      ap (section_parts_of bytes) e
      ∙ parts-append bytes before (code ∷ behind) in
      held_beside (section_parts_of bytes before) (section_parts_of bytes behind) code.id ids.Code text c (λ same. differ (sym is ∙ same)) differ
      (subst (λ (l : Parts). HeldIn none Spells l id x) was (held_in bytes sections h))

  -- a module with another code entry and more globals holds in its other sections what it held
  again_held : (bytes : List ℕ) (layout : Layout) (n : ℕ) (contents : List ℕ) (more : List PrimitiveTypeInfo) (new : List ℕ)
      (sections : List Section) → (a : AreSectionsAgain bytes layout n contents more new) → a.spells.sections ≡ sections → (ids.Code ≡ id → ⊥)
      → (ids.Global ≡ id → ⊥) → Holds none (λ start. Spells) bytes layout.sections id x → Holds none (λ start. Spells) new sections id x
  again_held bytes layout n contents more new sections a same code global h =
      let c = code_section_with bytes a.code a.entry contents in
      spelled_holds new (a.front ++ (ids.Code, c) ∷ section_parts_of bytes a.behind) sections a.spells same
      (front_held bytes layout more a.before a.front ((ids.Code, c) ∷ section_parts_of bytes a.behind) global a.front_is
      (code_held bytes c a.before a.behind a.code layout.sections a.sections_are a.is code h))

-- ---- globals

abbrev Globals : Type 0
Globals = ℕ × List ℕ

abbrev more_globals : List PrimitiveTypeInfo → Globals → Globals
more_globals more g = (g.0 + length more, g.1 ++ globals_code more)

none_more : (g : Globals) → g ≡ more_globals [] g
none_more g =
    let count : g.0 ≡ g.0 + 0 = omega arith in
    ap (λ (n : ℕ). (n, g.1)) count ∙ ap (λ (l : List ℕ). (g.0 + 0, l)) (sym (append-nil g.1))

-- the number and the codes grow
counts_more : (own : ℕ) (text contents : List ℕ) (more : List PrimitiveTypeInfo) (g : Globals) → GrowsContents own text more contents →
    SpellsUnsigned 32 (shortest (own + length more)) (own + length more) → CountsGlobals text g → CountsGlobals contents (more_globals more g)
counts_more own text contents more g grown counts c =
    let same = one_count text grown.count grown.items c.size g.1 own g.0 grown.parts grown.counts c.parts c.counts in
    subst (λ (z : Globals). CountsGlobals contents (more_globals more z)) same (record {
      size = shortest (own + length more);
      parts = grown.new_is ∙ append_assoc (shortest (own + length more)) grown.items (globals_code more);
      counts = counts;
    })

module _ (bytes : List ℕ) (info : Module) (layout : Layout) (n : ℕ) (contents : List ℕ) (new : List ℕ) (sections : List Section) (g : Globals)
    (short : Short) (one : (ss : List Section) → SpellsModule new ss → ss ≡ sections) (m : IsModule bytes info layout)
    (held : HasOwnGlobals bytes layout.sections g) where
  grown_held : (t : PrimitiveTypeInfo) (ts : List PrimitiveTypeInfo) → (r : IsRewritten bytes layout n contents (t ∷ ts) new) →
      GrowsGlobals bytes layout (t ∷ ts) r.code.start r.front → HasOwnGlobals new sections (more_globals (t ∷ ts) g)
  grown_held t ts r w =
      let k = growth bytes info layout n contents t ts new m r w in
      let c = code_section_with bytes r.code r.entry contents in
      let first = section_parts_of bytes w.is.before in
      let mid = section_parts_of bytes k.b.mid in
      let rest = (ids.Code, c) ∷ section_parts_of bytes r.code_is.behind in
      let p = growth_parts bytes layout n contents t ts new k short in
      let text = slice_range bytes w.section.contents w.section.end in
      let was = lists_at (0, []) (λ start. CountsGlobals) bytes layout.sections ids.Global g w.section held w.is in
      let now = counts_more layout.own_globals text w.contents (t ∷ ts) g w.grown (short (layout.own_globals + length (t ∷ ts)) w.few) was in
      let there = held_there (0, []) CountsGlobals ids.Global (more_globals (t ∷ ts) g) bytes w.contents w.is.before (mid ++ rest) ids.Global refl
      w.is.none now in
      spelled_holds (0, []) CountsGlobals ids.Global (more_globals (t ∷ ts) g) new ((first ++ (ids.Global, w.contents) ∷ mid) ++ rest) sections p
      (one p.sections p.spells)
      (subst (λ (l : Parts). HeldIn (0, []) CountsGlobals l ids.Global (more_globals (t ∷ ts) g))
      (sym (append_assoc first ((ids.Global, w.contents) ∷ mid) rest)) there)

  added_held : (t : PrimitiveTypeInfo) (ts : List PrimitiveTypeInfo) → (r : IsRewritten bytes layout n contents (t ∷ ts) new) →
      AddsGlobals bytes layout (t ∷ ts) r.code.start r.front → HasOwnGlobals new sections (more_globals (t ∷ ts) g)
  added_held t ts r w =
      let more = t ∷ ts in
      let k = addition bytes info layout n contents t ts new m r w in
      let c = code_section_with bytes r.code r.entry contents in
      let first = section_parts_of bytes w.is.before in
      let mid = section_parts_of bytes k.b.mid in
      let rest = (ids.Code, c) ∷ section_parts_of bytes r.code_is.behind in
      let p = addition_parts bytes layout n contents t ts new k short in
      let none : g ≡ (0, []) = lists_nothing (0, []) (λ start. CountsGlobals) bytes layout.sections ids.Global g held w.none in
      let zero : length more ≡ 0 + length more = omega arith in
      let fresh : CountsGlobals (new_globals more) (more_globals more (0, [])) = record {
        size = shortest (length more);
        parts = refl;
        counts = subst (SpellsUnsigned 32 (shortest (length more))) zero (short (length more) w.few);
      } in
      let now = subst (λ (z : Globals). CountsGlobals (new_globals more) (more_globals more z)) (sym none) fresh in
      let there = held_there (0, []) CountsGlobals ids.Global (more_globals more g) bytes (new_globals more) w.is.before (mid ++ rest) ids.Global refl
      (lack_front w.is.before w.is.behind ids.Global (subst (λ (l : List Section). LackId l ids.Global) w.is.parts w.none)) now in
      spelled_holds (0, []) CountsGlobals ids.Global (more_globals more g) new ((first ++ (ids.Global, new_globals more) ∷ mid) ++ rest) sections p
      (one p.sections p.spells)
      (subst (λ (l : Parts). HeldIn (0, []) CountsGlobals l ids.Global (more_globals more g))
      (sym (append_assoc first ((ids.Global, new_globals more) ∷ mid) rest)) there)
    where
      lack_front : (u w : List Section) (id : SectionId) → LackId (u ++ w) id → LackId u id
      lack_front [] w id l = tt
      lack_front (s ∷ u) w id l = (l.0, lack_front u w id l.1)

  globals_held : (more : List PrimitiveTypeInfo) → IsRewritten bytes layout n contents more new → HasOwnGlobals new sections (more_globals more g)
  globals_held [] r =
      let a = module_again bytes info layout n contents [] new short m r in
      let c = code_section_with bytes a.code a.entry contents in
      let rest = (ids.Code, c) ∷ section_parts_of bytes a.behind in
      let here = code_held (0, []) CountsGlobals ids.Global g bytes c a.before a.behind a.code layout.sections a.sections_are a.is (λ same. absurd cc)
      held in
      subst (HasOwnGlobals new sections) (none_more g)
      (spelled_holds (0, []) CountsGlobals ids.Global g new (a.front ++ rest) sections a.spells (one a.spells.sections a.spells.spells)
      (subst (λ (l : Parts). HeldIn (0, []) CountsGlobals (l ++ rest) ids.Global g) (sym a.front_is) here))
  globals_held (t ∷ ts) r = elim r.front_is [ inl w ↦ grown_held t ts r w | inr w ↦ added_held t ts r w ]

-- ---- sections that are read whole

read_is : (id other : SectionId) → is_read_whole id ≡ true → (is_read_whole other ≡ true → ⊥) → other ≡ id → ⊥
read_is id other read unread same = unread (ap is_read_whole same ∙ read)

pub rewritten_is_made : (bytes : List ℕ) (info : Module) (layout : Layout) (n : ℕ) (contents : List ℕ) (more : List PrimitiveTypeInfo) (new : List ℕ)
    (sections : List Section) (making : Making) → Short → ((ss : List Section) → SpellsModule new ss → ss ≡ sections) → IsModule bytes info layout
    → IsRewritten bytes layout n contents more new → IsMadeOf bytes layout.sections making → IsMadeOf new sections (with_more_globals more making)
rewritten_is_made bytes info layout n contents more new sections making short one m r made =
    let a = module_again bytes info layout n contents more new short m r in
    record {
      contents_are = λ id read. again_held None (λ text contents. contents ≡ Some text) id (making.contents id) bytes layout n contents more new sections a
          (one a.spells.sections a.spells.spells) (read_is id ids.Code read (λ e. absurd cc)) (read_is id ids.Global read (λ e. absurd cc))
          (made.contents_are id read);
      globals_are = globals_held bytes info layout n contents new sections (making.count, making.globals) short one m made.globals_are more r;
    }

pub stripped_is_made : (bytes new : List ℕ) (sections left : List Section) (making : Making) → Stay bytes new sections left → IsMadeOf bytes sections making →
    IsMadeOf new left making
stripped_is_made bytes new sections left making stay made = record {
  contents_are = λ id read. held_still None (λ text contents. contents ≡ Some text) bytes new sections left id (making.contents id) stay
      (λ custom. read_is id ids.Custom read (λ e. absurd cc) (sym custom)) (made.contents_are id read);
  globals_are = held_still (0, []) CountsGlobals bytes new sections left ids.Global (making.count, making.globals) stay (λ custom. absurd cc)
      made.globals_are;
}

-- ---- each module is made of something

same_id : (i j : SectionId) → (i ≡ j) ⊎ (i ≡ j → ⊥)
same_id i j =
    elim (cases_eq (id_code i) (id_code j)) [
      | inl e ↦ inl (one_id i j e)
      | inr differ ↦ inr (λ same. differ (ap id_code same))
    ]

section_held : (bytes : List ℕ) (ss : List Section) (id : SectionId) → (contents : Option (List ℕ)) × HasSection bytes ss id contents
section_held bytes [] id = (None, inr (tt, refl))
section_held bytes (s ∷ ss) id =
    elim (same_id s.id id) [
      | inl is ↦ (
        Some (slice_range bytes s.contents s.end),
        inl (s, record { before = []; behind = ss; parts = refl; has = is; none = tt }, refl),
      )
      | inr differ ↦
          let h = section_held bytes ss id in
          (h.0, next_holds None (λ start text contents. contents ≡ Some text) bytes id h.0 s ss differ h.1)
    ]

own_globals_held : (bytes : List ℕ) (info : Module) (layout : Layout) → IsModule bytes info layout → (g : Globals) × HasOwnGlobals bytes layout.sections g
own_globals_held bytes info layout m =
    elim m.globals_are [
      | inl h ↦
          let c = known_counted SpellsGlobal FailsGlobal h.0.contents (slice_range bytes h.0.contents h.0.end) m.globals.count layout.own_globals
          m.globals.items m.globals.unknown h.2 m.own in
          ((layout.own_globals, c.items), inl (h.0, h.1, record { size = c.count; parts = c.parts; counts = c.counts }))
      | inr h ↦ ((0, []), inr (h.0, refl))
    ]

pub making_of : (bytes : List ℕ) (info : Module) (layout : Layout) → IsModule bytes info layout → (making : Making) × IsMadeOf bytes layout.sections making
making_of bytes info layout m =
    let g = own_globals_held bytes info layout m in (
      record { contents = λ id. (section_held bytes layout.sections id).0; count = g.0.0; globals = g.0.1 },
      record { contents_are = λ id read. (section_held bytes layout.sections id).1; globals_are = g.1 },
    )
