-- A section's byte tells its id.
use Rattle.std.proofs.Common.{◌≡◌, ℕ, [], ◌∷◌, get_or, refl, sym, ap, ◌∙◌}
use Rattle.wasm_sections.specs.declared.id.SectionId.{SectionId}
use Rattle.wasm_sections.specs.declared.id.SectionId.TheVariants as ids
use Rattle.wasm_sections.specs.Id.{id_code}

abbrev id_at : ℕ → SectionId
id_at n = get_or
    (ids.Custom ∷ ids.Type ∷ ids.Import ∷ ids.Function ∷ ids.Table ∷ ids.Memory ∷ ids.Global ∷ ids.Export ∷
    ids.Start ∷ ids.Element ∷ ids.Code ∷ ids.Data ∷ ids.DataCount ∷ ids.Tag ∷ [])
    n ids.Custom

id_is : (id : SectionId) → id_at (id_code id) ≡ id
id_is ids.Custom = refl
id_is ids.Type = refl
id_is ids.Import = refl
id_is ids.Function = refl
id_is ids.Table = refl
id_is ids.Memory = refl
id_is ids.Global = refl
id_is ids.Export = refl
id_is ids.Start = refl
id_is ids.Element = refl
id_is ids.Code = refl
id_is ids.Data = refl
id_is ids.DataCount = refl
id_is ids.Tag = refl

pub one_id : (a b : SectionId) → id_code a ≡ id_code b → a ≡ b
one_id a b e = sym (id_is a) ∙ ap id_at e ∙ id_is b
