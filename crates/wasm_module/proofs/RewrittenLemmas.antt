-- A module with another code entry and more globals, from its parts.
use Rattle.std.proofs.Common.{◌≡◌, ℕ, ◌-◌, ◌<◌, ◌≤◌, ◌^◌, List, ◌∷◌, ◌++◌, length, drop, sym, ap, subst, ◌∙◌, append_assoc, arith}
use Rattle.std.proofs.Common.{length-append, length-take, length-drop}
use Rattle.std.specs.Prelude.{slice_range}
use Rattle.wasm_code.specs.Code.{shortest}
use Rattle.wasm_types.specs.declared.types.PrimitiveTypeInfo.{PrimitiveTypeInfo}
use Rattle.wasm_sections.specs.declared.section.Section.{Section}
use Rattle.wasm_sections.specs.declared.id.SectionId.{SectionId}
use Rattle.wasm_sections.specs.declared.id.SectionId.TheVariants as ids
use Rattle.wasm_sections.specs.Id.{id_code}
use Rattle.wasm_sections.specs.Writing.{section_code}
use Rattle.wasm_lists.specs.declared.entries.Entry.{Entry}
use Rattle.wasm_module.specs.Module.{Layout}
use Rattle.wasm_module.specs.Rewritten.{IsFront, code_section_with, IsRewritten}
use Rattle.wasm_module.specs.Limits.{IsTooLarge}
use Rattle.wasm_module.specs.Limits.IsTooLarge.{by_code}
use Rattle.wasm_module.specs.Room.{IsEntryOf, IsCodePlace, size_with}

-- ---- a section between other bytes, its head written before its contents

section_is : (id : SectionId) (before contents after head : List ℕ) (size : ℕ) → size ≡ length contents → head ≡ before ++ id_code id ∷ shortest size →
    head ++ (contents ++ after) ≡ before ++ section_code id contents ++ after
section_is id before contents after head size s h =
    sym (append_assoc head contents after) ∙ ap (λ (l : List ℕ). l ++ contents ++ after) h
    ∙ ap (λ (l : List ℕ). l ++ after) (append_assoc before (id_code id ∷ shortest size) contents)
    ∙ ap (λ (m : ℕ). before ++ (id_code id ∷ shortest m ++ contents) ++ after) s

-- ---- the code section

range_length : (bytes : List ℕ) (from to : ℕ) → from ≤ to → to ≤ length bytes → length (slice_range bytes from to) ≡ to - from
range_length bytes from to order inside = grind (arith, length-take, length-drop)

code_length : (bytes : List ℕ) (code : Section) (entry : Entry) (contents : List ℕ) (size : ℕ) → IsEntryOf bytes code.contents entry.start entry.end code.end →
    size ≡ length contents → size_with code entry size ≡ length (code_section_with bytes code entry contents)
code_length bytes code entry contents size placed e =
    let before = slice_range bytes code.contents entry.start in
    let behind = slice_range bytes entry.end code.end in
    let number = shortest (length contents) in
    let first = range_length bytes code.contents entry.start placed.first (omega (arith, placed.order, placed.last, placed.inside)) in
    let last = range_length bytes entry.end code.end placed.last placed.inside in
    ap (size_with code entry) e
    ∙ omega (arith, first, last, length-append (before ++ number ++ contents) behind, length-append (before ++ number) contents, length-append before number)

pub rewrites : (bytes : List ℕ) (layout : Layout) (n : ℕ) (body : List ℕ) (more : List PrimitiveTypeInfo) (code : Section) (entry : Entry)
    (front head new : List ℕ) (size whole : ℕ) → IsCodePlace bytes layout n code entry → size ≡ length body → size < 2 ^ 32
    → whole ≡ size_with code entry size → whole < 2 ^ 32 → IsFront bytes layout more code.start front
    → head ≡ front ++ id_code ids.Code ∷ shortest whole → new ≡ head ++ (code_section_with bytes code entry body ++ drop code.end bytes)
    → IsRewritten bytes layout n body more new
rewrites bytes layout n body more code entry front head new size whole place e small f sized is h w =
    let s = f ∙ code_length bytes code entry body size place.placed e in
    record {
      code = code;
      code_is = place.code_is;
      entry = entry;
      entry_is = place.entry_is;
      entry_sized = subst (λ (m : ℕ). m < 2 ^ 32) e small;
      code_sized = subst (λ (m : ℕ). m < 2 ^ 32) s sized;
      front = front;
      front_is = is;
      new_is = w ∙ section_is ids.Code front (code_section_with bytes code entry body) (drop code.end bytes) head whole s h;
    }

pub too_large : (bytes : List ℕ) (layout : Layout) (n : ℕ) (body : List ℕ) (more : List PrimitiveTypeInfo) (code : Section) (entry : Entry)
    (size : ℕ) → IsCodePlace bytes layout n code entry → size ≡ length body → 2 ^ 32 ≤ size_with code entry size
    → IsTooLarge bytes layout n body more
too_large bytes layout n body more code entry size place e large =
    let large' = subst (λ (m : ℕ). 2 ^ 32 ≤ m) (code_length bytes code entry body size place.placed e) large in
    by_code (record { code = code; code_is = place.code_is; entry = entry; entry_is = place.entry_is; large = large' })
