-- What sections contain in other bytes, where those that aren't custom contain what they did.
use Rattle.std.proofs.Common.{◌≡◌, inl, inr, ℕ, List, refl, sym, subst}
use Rattle.std.specs.Prelude.{slice_range}
use Rattle.wasm_sections.specs.declared.id.SectionId.{SectionId}
use Rattle.wasm_sections.specs.declared.id.SectionId.TheVariants as ids
use Rattle.wasm_sections.specs.declared.section.Section.{Section}
use Rattle.wasm_sections.specs.Find.{LackId}
use Rattle.wasm_sections.specs.Laws.{HasFirst}
use Rattle.wasm_module.specs.Module.{Holds}

-- the first section with an id contains what it did, and none is there where there was none
pub record Stay (bytes new : List ℕ) (sections left : List Section) : Type 0 where
  pub none : (id : SectionId) → LackId sections id → LackId left id
  pub first : (id : SectionId) (contents : List ℕ) → (id ≡ ids.Custom → ⊥) → HasFirst bytes sections id contents → HasFirst new left id contents

-- a section holds what it held, where that doesn't go by its offset
pub held_still : {X : Type 0} (none : X) (Spells : List ℕ → X → Type 0) (bytes new : List ℕ) (sections left : List Section) (id : SectionId) (x : X) →
    Stay bytes new sections left → (id ≡ ids.Custom → ⊥) → Holds none (λ start. Spells) bytes sections id x → Holds none (λ start. Spells) new left id x
held_still none Spells bytes new sections left id x stay other (inl h) =
    let f = stay.first id (slice_range bytes h.0.contents h.0.end) other (record { s = h.0; first = h.1; contains = refl }) in
    inl (f.s, f.first, subst (λ (l : List ℕ). Spells l x) (sym f.contains) h.2)
held_still none Spells bytes new sections left id x stay other (inr h) = inr (stay.none id h.0, h.1)
