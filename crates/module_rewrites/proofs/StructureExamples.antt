-- The bytes of operators of a body by hand that ask more than they carry, and the labels among them.
use Rattle.std.proofs.Common.{◌≡◌, List, [], ◌∷◌, ℕ, arith, refl}
use Rattle.wasm_code.specs.declared.immediate.Imm.TheVariants.{Index}
use Rattle.wasm_code.specs.declared.operator.Operator.{Operator}
use Rattle.wasm_code.specs.declared.operator.Operator.TheVariants.{Instr, BrTable, End}
use Rattle.wasm_code.specs.Number.{SpellsUnsigned}
use Rattle.body_splices.specs.OwnBytes.{own_bytes}
use Rattle.module_rewrites.specs.Structure.{SpellsBranchTable, asking_operators}

-- local.get 0; br_table 1 0; end, where the last operand is the default label
abbrev body : List ℕ
body = 0x20 ∷ 0x00 ∷ 0x0e ∷ 0x01 ∷ 0x01 ∷ 0x00 ∷ 0x0b ∷ []

abbrev operators : List (Operator × ℕ)
operators = (Instr (record { row = 4; imm = Index 0 }), 0) ∷ (BrTable 1, 2) ∷ (End, 6) ∷ []

-- the branch by a table alone asks
asking_is : asking_operators (own_bytes body operators) ≡ (BrTable 1, 0x0e ∷ 0x01 ∷ 0x01 ∷ 0x00 ∷ []) ∷ []
asking_is = refl

one : SpellsUnsigned 32 (0x01 ∷ []) 1
one = record { group = omega arith; short = omega arith; is = refl; fits = omega arith }

none : SpellsUnsigned 32 (0x00 ∷ []) 0
none = record { group = omega arith; short = omega arith; is = refl; fits = omega arith }

-- to the label 1, or by default to 0
labels_are : SpellsBranchTable (0x0e ∷ 0x01 ∷ 0x01 ∷ 0x00 ∷ []) (1 ∷ []) 0
labels_are = record {
  count = 0x01 ∷ [];
  numbers = 0x01 ∷ 0x00 ∷ [];
  parts = refl;
  counts = one;
  spells = record {
    front = 0x01 ∷ [];
    back = 0x00 ∷ [];
    parts = refl;
    spells = one;
    rest = record { front = 0x00 ∷ []; back = []; parts = refl; spells = none; rest = refl };
  };
}
