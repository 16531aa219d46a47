-- The section that begins bytes, or why none does.
use Rattle.std.proofs.Common.{◌≡◌, ℕ, ◌+◌, ◌-◌, ◌<◌, List, ◌∷◌, ◌++◌, length, refl, ap, ◌∙◌, arith}
use Rattle.std.proofs.lemmas.List.{length-append}
use Rattle.wasm_sections.specs.declared.id.SectionId.{SectionId}
use Rattle.wasm_sections.specs.declared.id.SectionId.TheVariants as ids
use Rattle.wasm_sections.specs.declared.section.Section.{Section}
use Rattle.wasm_sections.specs.Id.{id_code, rank_of}
use Rattle.wasm_sections.specs.Reader.{IsCounted, IsAllowed, IsAccepted}

-- all but the custom sections have a rank
pub has_rank : (id : SectionId) → (id ≡ ids.Custom → ⊥) → 0 < rank_of id
has_rank ids.Custom other = absurd (other refl)
has_rank ids.Type other = omega arith
has_rank ids.Import other = omega arith
has_rank ids.Function other = omega arith
has_rank ids.Table other = omega arith
has_rank ids.Memory other = omega arith
has_rank ids.Global other = omega arith
has_rank ids.Export other = omega arith
has_rank ids.Start other = omega arith
has_rank ids.Element other = omega arith
has_rank ids.Code other = omega arith
has_rank ids.Data other = omega arith
has_rank ids.DataCount other = omega arith
has_rank ids.Tag other = omega arith

-- the section of these parts
abbrev pub section_of : SectionId → (start contents end : ℕ) → Section
section_of id start contents end = record { id = id; start = start; contents = contents; end = end }

pub accepted : (last start : ℕ) (bytes rest contents after : List ℕ) (id : SectionId) → bytes ≡ id_code id ∷ rest → IsCounted contents after rest →
    IsAllowed last id contents
    → IsAccepted last start bytes (section_of id start (start + (length bytes - length after) - length contents) (start + (length bytes - length after))) after
accepted last start bytes rest contents after id e p allowed =
    let len : length rest ≡ length p.size + length contents + length after = omega (
      arith,
      ap length p.parts,
      length-append (p.size ++ contents) after,
      length-append p.size contents,
    ) in
    let long : length bytes ≡ 1 + length rest = omega (arith, ap length e) in
    record {
      next = record {
        size = p.size;
        contents = contents;
        back = after;
        parts = e ∙ ap (λ (r : List ℕ). id_code id ∷ r) p.parts;
        counts = p.counts;
        starts = refl;
        contents_at = omega arith;
        ends = omega arith;
        rest = refl;
      };
      allowed = allowed;
    }
