-- What a node is: its place, its payload and its children; and its instruction (this project: a node's place is 12 more
-- than the row of its instruction, and below 12 for a node without one).
use Rattle.std.specs.Prelude.{◌≡◌, ℕ, ◌-◌, ◌==◌, nat_lt, length, Bool, true, false, List, Option, Some, None, if◌then◌else◌}
use Rattle.wasm_code.specs.Instruction.{Instruction, InRange}
use Rattle.wasm_code.specs.Table.{row_info_of}
use Rattle.wasm_code.specs.declared.table.RowInfo.{RowInfo}
use Rattle.peephole_lang.specs.declared.lang.Head.{Head}
use Rattle.peephole_lang.specs.declared.lang.Lang.{Lang}
use Rattle.peephole_lang.specs.Lang.{place_of, payload_of, ids_of, variant_child_count}
use Rattle.peephole_nodes.specs.Payload.{imm_of, is_writable}
use Rattle.peephole_lang.specs.Term.{Node, numbers_of}

abbrev pub head_of : Lang → Head
head_of l = record { place = place_of l; payload = payload_of l }

-- the places that the children name
abbrev pub children_of : Lang → List ℕ
children_of l = numbers_of (ids_of l)

abbrev pub node_of : Lang → Node Head
node_of l = record { head = head_of l; children = children_of l }

-- its numbers are of their types, and it has as many children as its variant
abbrev pub IsNode : Lang → Type 0
IsNode l = InRange (imm_of (payload_of l)) × (length (ids_of l) ≡ variant_child_count l)

-- the two nodes say the same, and have the same children
abbrev pub SameNode : Lang → Lang → Type 0
SameNode l m = (head_of m ≡ head_of l) × (ids_of m ≡ ids_of l)

-- ---- instructions

-- the instruction of a place and a payload: none below place 12, or where no instruction says the payload
abbrev pub instr_of_head : Head → Option Instruction
instr_of_head h =
    if nat_lt h.place 12 then None else
    if is_writable h.payload then Some (record { row = h.place - 12; imm = imm_of h.payload }) else None

-- the node's instruction
abbrev pub instr_of : Lang → Option Instruction
instr_of l = instr_of_head (head_of l)

-- that many children are as many as the operands, of which a row with None has any number
abbrev pub is_count : Option ℕ → ℕ → Bool
is_count None count = true
is_count (Some operands) count = operands == count

abbrev pub row_takes_count : Option RowInfo → ℕ → Bool
row_takes_count None count = false
row_takes_count (Some info) count = is_count info.operands count

-- the row takes that many children
abbrev pub takes_children : ℕ → ℕ → Bool
takes_children row count = row_takes_count (row_info_of row) count
