-- Bodies of known operators alone, as `read_body` reads them, with other instructions in the place of some (this project).
use Rattle.std.specs.Prelude.{◌≡◌, ℕ, true, List}
use Rattle.wasm_code.specs.Instruction.{Instruction}
use Rattle.wasm_code.specs.Body.{are_known, SpellsBody}
use Rattle.wasm_code.specs.declared.operator.Operator.{Operator}
use Rattle.peephole_terms.specs.Spliced.{ReadsSpliced}

-- Where all operators of a body are known, so are those of the body in which instructions stand in the place of some of them.
abbrev pub KnownStayKnown : Type 0
KnownStayKnown =
    (input : List ℕ) (operators : List (Operator × ℕ)) (start end : ℕ) (code : List Instruction) (text : List ℕ)
    (r : ReadsSpliced input operators start end code text) →
    are_known operators ≡ true → SpellsBody 0 text r.again
