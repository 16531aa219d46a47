-- The graph of a block, and the operators that have none. This project's rule.
use Rattle.std.specs.Prelude.{ℕ, suc, ◌+◌, ◌-◌, ◌<◌, ◌≤◌, ◌≡◌, ◌↔◌, ◌⊎◌, ⊤, Bool, true, List, [], ◌∷◌, ◌++◌, length, None, Some, is_some, slice_get}
use Rattle.wasm_code.specs.Instruction.{Instruction}
use Rattle.wasm_code.specs.declared.operator.Operator.{Operator}
use Rattle.wasm_code.specs.declared.operator.Operator.TheVariants.{Instr}
use Rattle.mutate_base.specs.declared.error.Error.{Error}
use Rattle.mutate_base.specs.declared.error.Error.TheVariants.{Memory, TooLarge, UnknownFunction}
use Rattle.peephole_lang.specs.Node.{instr_of, children_of}
use Rattle.peephole_lang.specs.declared.lang.Lang.TheVariants.{Undef}
use Rattle.peephole_graphs.specs.declared.dfg.StackEntry.{StackEntry}
use Rattle.peephole_graphs.specs.Shape.{Shape, Judged, Fits, Unfit, Unknown, judge, AreFit, shapes_of_block}
use Rattle.peephole_graphs.specs.Tree.{full_size}
use Rattle.peephole_graphs.specs.Forest.{has, forest}
use Rattle.peephole_graphs.specs.Color.{color_after, color_at}
use Rattle.peephole_graphs.specs.Source.{Source, shapes_in}
use Rattle.peephole_graphs.specs.Entries.{Graph, forest_of, IsForest}

-- ---- limits

-- With each operator there are at most 2^32 operators and entry operands, so that the index of every entry has 32 bits; and its colour is
-- below that of a missing operand.
abbrev pub IsSmall : Bool → List Shape → Type 0
IsSmall preserving [] = ⊤
IsSmall preserving (s ∷ earlier) = IsSmall preserving earlier × (full_size (forest (s ∷ earlier)) ≤ 4294967296) × (color_after preserving earlier < 4294967295)

-- ---- entries

-- The entry is the operator with the number `n` in the block: its node has the operator's instruction, and it has the operator's colour.
abbrev pub IsOperator : Source → ℕ → StackEntry → Type 0
IsOperator s n e =
    (i : Instruction) × (at : ℕ) × (slice_get s.operators n ≡ Some (Instr i, at)) × (instr_of e.operator ≡ Some i)
    × (e.color ≡ color_at s.preserving (shapes_in s) n)

-- The entry is a missing operand.
abbrev pub IsMissing : StackEntry → Type 0
IsMissing e = (e.operator ≡ Undef) × (e.color ≡ 4294967295)

-- An entry is an operator of the block, or a missing operand of one.
abbrev pub IsStackEntryOf : Source → StackEntry → Type 0
IsStackEntryOf s e = (n : ℕ) × (n < length s.operators) × (e.operator_idx ≡ s.first + n) × (IsOperator s n e ⊎ IsMissing e)

-- the entry with the index `i` is the own entry of the operator with the body's index `k`
abbrev pub IsOwnEntry : List StackEntry → ℕ → ℕ → Type 0
IsOwnEntry entries k i = (e : StackEntry) × (slice_get entries i ≡ Some e) × (e.operator_idx ≡ k) × (is_some (instr_of e.operator) ≡ true)

-- ---- the graph

-- the graph of a block
pub record IsGraphOf (s : Source) (g : Graph) : Type 0 where
  pub fit : AreFit s.info s.operators
  pub small : IsSmall s.preserving (shapes_in s)
  -- children and parents make a forest, whose trees are those of the block
  pub forest_is : IsForest g.entries g.parents
  pub trees : forest_of s g ≡ forest (shapes_in s)
  -- what each entry is; a missing operand carries the operator that took it, and the operators never fall along the entries
  pub entry : (i : ℕ) (e : StackEntry) → slice_get g.entries i ≡ Some e → IsStackEntryOf s e
  pub taker : (p i : ℕ) (e d : StackEntry) → slice_get g.entries p ≡ Some e → slice_get g.entries i ≡ Some d →
      has i (children_of e.operator) ≡ true → IsMissing d → d.operator_idx ≡ e.operator_idx
  pub order : (i j : ℕ) (d e : StackEntry) → i ≤ j → slice_get g.entries i ≡ Some d → slice_get g.entries j ≡ Some e → d.operator_idx ≤ e.operator_idx
  -- every operator of the block is found, and nothing else; the last one at the last entry, a root
  pub finds : (k i : ℕ) → (g.own_entry k ≡ Some i) ↔ IsOwnEntry g.entries k i
  pub keys : (n : ℕ) → n < length s.operators → is_some (g.own_entry (s.first + n)) ≡ true
  pub last : (n : ℕ) → length s.operators ≡ suc n →
      (g.own_entry (s.first + n) ≡ Some (length g.entries - 1)) × (slice_get g.parents (length g.entries - 1) ≡ Some None)

-- ---- operators at fault

-- The first operator at fault, of which `P` holds with the block before it.
pub record FirstFault (s : Source) (P : List Shape → Judged → Type 0) : Type 0 where
  pub before : List (Operator × ℕ)
  pub at : Operator × ℕ
  pub rest : List (Operator × ℕ)
  pub whole : s.operators ≡ before ++ at ∷ rest
  pub fit : AreFit s.info before
  pub small : IsSmall s.preserving (shapes_of_block s.info before)
  pub fault : P (shapes_of_block s.info before) (judge s.info at.0)

-- an index or a colour that does not fit
abbrev pub ShapeDoesNotFit : Bool → List Shape → Judged → Type 0
ShapeDoesNotFit preserving block j = (s : Shape) × (j ≡ Fits s) × (IsSmall preserving (s ∷ block) → ⊥)

-- the first operator at fault is one that no graph holds
abbrev pub HasNoGraph : Source → Type 0
HasNoGraph s = FirstFault s (λ b j. j ≡ Unfit)

-- the first operator at fault is a call of the function with that index, which isn't there or has no type
abbrev pub CallsUnknown : Source → ℕ → Type 0
CallsUnknown s function = FirstFault s (λ b j. j ≡ Unknown function)

-- the first operator at fault has an index or a colour that does not fit
abbrev pub OperatorIsTooLarge : Source → Type 0
OperatorIsTooLarge s = FirstFault s (ShapeDoesNotFit s.preserving)

-- Why no graph was answered: at want of memory nothing is said, and no error is answered but these three.
abbrev pub IsRefused : Source → Error → Type 0
IsRefused s Memory = Unit {0}
IsRefused s TooLarge = OperatorIsTooLarge s
IsRefused s (UnknownFunction function) = CallsUnknown s function
IsRefused s _ = ⊥

-- What a builder keeps: whether the order of effects is to be preserved.
pub record Mode : Type 0 where
  pub preserving : Bool
