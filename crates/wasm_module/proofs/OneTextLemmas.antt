-- A module with other contents of a code entry and with more globals is one text.
use Rattle.std.proofs.Common.{◌≡◌, inl, inr, ℕ, ◌+◌, ◌<◌, List, [], ◌∷◌, ◌++◌, length, take, drop, sym, ap, ap₂, subst, ◌∙◌, arith}
use Rattle.std.specs.Prelude.{slice_range}
use Rattle.std.proofs.lemmas.Option.{same_Some}
use Rattle.wasm_code.specs.Code.{shortest}
use Rattle.wasm_types.specs.Module.{Module}
use Rattle.wasm_types.specs.declared.types.PrimitiveTypeInfo.{PrimitiveTypeInfo}
use Rattle.wasm_sections.specs.declared.section.Section.{Section}
use Rattle.wasm_sections.specs.declared.id.SectionId.{SectionId}
use Rattle.wasm_sections.specs.declared.id.SectionId.TheVariants as ids
use Rattle.wasm_sections.specs.Find.{IsFirstWith, IsPlaceOf, LackId}
use Rattle.wasm_sections.specs.Writing.{section_code}
use Rattle.wasm_lists.specs.declared.entries.Entry.{Entry}
use Rattle.wasm_lists.specs.Globals.{SpellsGlobal, FailsGlobal}
use Rattle.wasm_lists.specs.Known.{Known, nothing_listed, SpellsKnown}
use Rattle.wasm_module.specs.Limits.{HasTooManyGlobals, IsTooLarge}
use Rattle.wasm_module.specs.Limits.HasTooManyGlobals.{by_growth, by_number, from_nothing}
use Rattle.wasm_module.specs.Limits.IsTooLarge.{by_code, by_entry, by_globals}
use Rattle.wasm_module.specs.Module.{Layout, IsModule}
use Rattle.wasm_module.specs.Rewritten.{AddsGlobals, GrowsContents, GrowsGlobals, IsFront, IsRewritten, code_section_with, globals_code, new_globals}
use Rattle.wasm_module.proofs.CountLemmas.{one_count}
use Rattle.wasm_module.proofs.FindLemmas.{first_unique, lists_nothing, not_lacking}

-- a section has one place
abbrev pub OnePlace : Type 0
OnePlace = (sections : List Section) (id : SectionId) (place other : ℕ) → IsPlaceOf sections id place → IsPlaceOf sections id other → place ≡ other

-- ---- globals

one_contents : (own : ℕ) (old : List ℕ) (more : List PrimitiveTypeInfo) (new other : List ℕ) → GrowsContents own old more new →
    GrowsContents own old more other → new ≡ other
one_contents own old more new other a b =
    let same = ap (λ (z : ℕ × List ℕ). z.1) (one_count old a.count a.items b.count b.items own own a.parts a.counts b.parts b.counts) in
    a.new_is ∙ ap (λ (items : List ℕ). shortest (own + length more) ++ items ++ globals_code more) same ∙ sym b.new_is

module _ (bytes : List ℕ) (layout : Layout) (more : List PrimitiveTypeInfo) where
  -- what the section contains, wherever it is told
  grown_one : (s z : Section) (new other : List ℕ) → IsFirstWith layout.sections ids.Global s → IsFirstWith layout.sections ids.Global z →
      GrowsContents layout.own_globals (slice_range bytes s.contents s.end) more new →
      GrowsContents layout.own_globals (slice_range bytes z.contents z.end) more other → (s ≡ z) × (new ≡ other)
  grown_one s z new other p q a b =
      let same = first_unique layout.sections ids.Global s z p q in
      let there = subst (λ (k : Section). GrowsContents layout.own_globals (slice_range bytes k.contents k.end) more other) (sym same) b in
      (same, one_contents layout.own_globals (slice_range bytes s.contents s.end) more new other a there)

  grows_one : (to : ℕ) (front other : List ℕ) → GrowsGlobals bytes layout more to front → GrowsGlobals bytes layout more to other → front ≡ other
  grows_one to front other a b =
      let same = grown_one a.section b.section a.contents b.contents a.is b.is a.grown b.grown in
      a.front_is
      ∙ ap₂ (λ (s : Section) (text : List ℕ). take s.start bytes ++ section_code ids.Global text ++ slice_range bytes s.end to) same.0 same.1
      ∙ sym b.front_is

  adds_one : OnePlace → (to : ℕ) (front other : List ℕ) → AddsGlobals bytes layout more to front → AddsGlobals bytes layout more to other → front ≡ other
  adds_one one to front other a b =
      let same = one layout.sections ids.Global a.place b.place a.is b.is in
      a.front_is
      ∙ ap (λ (place : ℕ). take place bytes ++ section_code ids.Global (new_globals more) ++ slice_range bytes place to) same
      ∙ sym b.front_is

one_front : OnePlace → (bytes : List ℕ) (layout : Layout) (more : List PrimitiveTypeInfo) (to : ℕ) (front other : List ℕ) →
    IsFront bytes layout more to front → IsFront bytes layout more to other → front ≡ other
one_front one bytes layout [] to front other a b = a ∙ sym b
one_front one bytes layout (t ∷ ts) to front other (inl a) (inl b) = grows_one bytes layout (t ∷ ts) to front other a b
one_front one bytes layout (t ∷ ts) to front other (inl a) (inr b) = absurd (not_lacking layout.sections ids.Global a.section a.is b.none)
one_front one bytes layout (t ∷ ts) to front other (inr a) (inl b) = absurd (not_lacking layout.sections ids.Global b.section b.is a.none)
one_front one bytes layout (t ∷ ts) to front other (inr a) (inr b) = adds_one bytes layout (t ∷ ts) one to front other a b

-- ---- the module

module _ (one : OnePlace) (bytes : List ℕ) (layout : Layout) (n : ℕ) (contents : List ℕ) (more : List PrimitiveTypeInfo) where
  pub one_text : (new other : List ℕ) → IsRewritten bytes layout n contents more new → IsRewritten bytes layout n contents more other → new ≡ other
  one_text new other a b =
      let code = first_unique layout.sections ids.Code a.code b.code a.code_is b.code_is in
      let entry = same_Some a.entry b.entry (sym a.entry_is ∙ b.entry_is) in
      let there = subst (λ (s : Section). IsFront bytes layout more s.start b.front) (sym code) b.front_is in
      let front = one_front one bytes layout more a.code.start a.front b.front a.front_is there in
      a.new_is
      ∙ ap (λ (text : List ℕ). text ++ section_code ids.Code (code_section_with bytes a.code a.entry contents) ++ drop a.code.end bytes) front
      ∙ ap₂ (λ (s : Section) (e : Entry). b.front ++ section_code ids.Code (code_section_with bytes s e contents) ++ drop s.end bytes) code entry
      ∙ sym b.new_is

-- ---- or it is too large

module _ (bytes : List ℕ) (info : Module) (layout : Layout) (is : IsModule bytes info layout) where
  -- without a section there are no globals
  no_own : LackId layout.sections ids.Global → layout.own_globals ≡ 0
  no_own lack =
      is.own ∙ ap (λ (k : Known PrimitiveTypeInfo). k.count)
      (lists_nothing nothing_listed (SpellsKnown SpellsGlobal FailsGlobal) bytes layout.sections ids.Global is.globals is.globals_are lack)

  grows_fit : (more : List PrimitiveTypeInfo) (to : ℕ) (front : List ℕ) → GrowsGlobals bytes layout more to front → HasTooManyGlobals bytes layout more → ⊥
  grows_fit more to front a (by_number many) = omega (arith, many, a.few)
  grows_fit more to front a (by_growth g) =
      let same = grown_one bytes layout more a.section g.section a.contents g.contents a.is g.is a.grown g.grown in
      omega (arith, ap length same.1, a.sized, g.large)
  grows_fit more to front a (from_nothing g) = not_lacking layout.sections ids.Global a.section a.is g.none

  adds_fit : (more : List PrimitiveTypeInfo) (to : ℕ) (front : List ℕ) → AddsGlobals bytes layout more to front → HasTooManyGlobals bytes layout more → ⊥
  adds_fit more to front a (by_number many) = omega (arith, many, a.few, no_own a.none)
  adds_fit more to front a (by_growth g) = not_lacking layout.sections ids.Global g.section g.is a.none
  adds_fit more to front a (from_nothing g) = omega (arith, a.sized, g.large)

  front_fits : (more : List PrimitiveTypeInfo) (to : ℕ) (front : List ℕ) → IsFront bytes layout more to front → 0 < length more →
      HasTooManyGlobals bytes layout more → ⊥
  front_fits [] to front a some large = omega (arith, some)
  front_fits (t ∷ ts) to front (inl a) some large = grows_fit (t ∷ ts) to front a large
  front_fits (t ∷ ts) to front (inr a) some large = adds_fit (t ∷ ts) to front a large

  pub fits : (n : ℕ) (contents : List ℕ) (more : List PrimitiveTypeInfo) (new : List ℕ) → IsRewritten bytes layout n contents more new →
      IsTooLarge bytes layout n contents more → ⊥
  fits n contents more new a (by_entry large) = omega (arith, large, a.entry_sized)
  fits n contents more new a (by_code h) =
      let code = first_unique layout.sections ids.Code a.code h.code a.code_is h.code_is in
      let entry = same_Some a.entry h.entry (sym a.entry_is ∙ h.entry_is) in
      let same = ap₂ (λ (s : Section) (e : Entry). length (code_section_with bytes s e contents)) code entry in
      omega (arith, same, a.code_sized, h.large)
  fits n contents more new a (by_globals some large) = front_fits more a.code.start a.front a.front_is some large
