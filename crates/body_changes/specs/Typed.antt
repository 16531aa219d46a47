-- The types of the values that code leaves which needs nothing from what stands before it (WebAssembly Core Specification 3.0, Validation, Instructions,
-- Instruction Sequences; which references count as none: this project).
use Rattle.std.specs.Prelude.{◌≡◌, ◌-◌, nat_le, Bool, true, false, if◌then◌else◌, List, [], ◌∷◌, ◌++◌, length, take, drop, Option, Some, None, option_map}
use Rattle.std.specs.Prelude.{option_and_then}
use Rattle.wasm_code.specs.Instruction.{Instruction}
use Rattle.wasm_types.specs.declared.types.PrimitiveTypeInfo.{PrimitiveTypeInfo}
use Rattle.wasm_types.specs.declared.types.PrimitiveTypeInfo.TheVariants.{Empty}
use Rattle.wasm_execution.specs.Row.{list_of, instruction_types, instruction_count}
use Rattle.wasm_execution.specs.Values.{Context}
use Rattle.wasm_equivalence.specs.validation.StaysValid.{Pushes}

-- each type but that of references which are none of funcref and externref: all those are one type here, `Empty`
abbrev pub is_told_apart : PrimitiveTypeInfo → Bool
is_told_apart Empty = false
is_told_apart t = true

-- One such reference may not stand for another in a module, though their types are the same here; so an instruction that gives one counts as untyped.
abbrev pub told_apart : PrimitiveTypeInfo → Option (Option PrimitiveTypeInfo)
told_apart t = if is_told_apart t then Some (Some t) else None

abbrev pub keep : Option PrimitiveTypeInfo → Option (Option PrimitiveTypeInfo)
keep None = Some None
keep (Some t) = told_apart t

-- what the instruction gives on operands of these types, one type or none, where that is no such reference
abbrev pub told_types : Context → Instruction → List PrimitiveTypeInfo → Option (Option PrimitiveTypeInfo)
told_types context i ts = option_and_then keep (instruction_types context i ts)

-- the types behind an instruction, which finds its operands on top of these, the last one on top
abbrev pub told_types_behind : Context → Instruction → List PrimitiveTypeInfo → Option (List PrimitiveTypeInfo)
told_types_behind context i ts =
    let below = length ts - instruction_count context.info i in
    if nat_le (instruction_count context.info i) (length ts)
    then option_map (λ o. take below ts ++ list_of o) (told_types context i (drop below ts)) else None

-- the types behind instructions that stand together
abbrev pub told_types_after : Context → List Instruction → List PrimitiveTypeInfo → Option (List PrimitiveTypeInfo)
told_types_after context [] ts = Some ts
told_types_after context (i ∷ code) ts = option_and_then (told_types_after context code) (told_types_behind context i ts)

-- The code needs nothing from what stands before it, and leaves values of these types.
abbrev pub LeavesTypes : Context → List Instruction → List PrimitiveTypeInfo → Type 0
LeavesTypes context code ts = told_types_after context code [] ≡ Some ts

-- Such code pushes its types on every frame, by the standard's algorithm.
abbrev pub LeavingCodePushes : Type 0
LeavingCodePushes = (context : Context) (code : List Instruction) (ts : List PrimitiveTypeInfo) → LeavesTypes context code ts → Pushes context code [] ts
