-- What the pass over a body keeps before its next operator (this project; the loop's own).
use Rattle.std.specs.Prelude.{◌≡◌, ℕ, ◌-◌, ◌+◌, ◌≤◌, ◌<◌, nat_lt, Bool, if◌then◌else◌, List, [], length, map, drop, Option, Some, None, slice_get}
use Rattle.std.specs.Option.{unwrap_or}
use Rattle.wasm_code.specs.Instruction.{Instruction}
use Rattle.wasm_code.specs.declared.operator.Operator.{Operator}
use Rattle.wasm_code.specs.declared.operator.Operator.TheVariants.{Instr}
use Rattle.wasm_types.specs.declared.types.PrimitiveTypeInfo.{PrimitiveTypeInfo}
use Rattle.wasm_execution.specs.Values.{Context}
use Rattle.wasm_execution.specs.IntegerRow.{integer_row, is_other}
use Rattle.wasm_execution.specs.Row.{instruction_types, instruction_count}
use Rattle.rewrite_rules.specs.Code.{row_writes, instruction_traps, writes, traps, asks}
use Rattle.body_rewrites.specs.declared.trees.Tree.{Tree}
use Rattle.body_rewrites.specs.declared.trees.Open.{Open}
use Rattle.body_rewrites.specs.Trees.{one_type, tree_after, Stands, IsTreeAt}

-- where the tree with that number begins; where there is none, behind all of them
abbrev pub start_of : List ℕ → (number at : ℕ) → ℕ
start_of starts number at = unwrap_or (slice_get starts number) at

-- The code from `start` up to here leaves these types: they are the last ones that are kept, and it begins where the first of their trees does.
pub record AreLast (o : Open) (start at : ℕ) (ts : List PrimitiveTypeInfo) : Type 0 where
  pub few : length ts ≤ length o.types.items
  pub last : drop (length o.types.items - length ts) o.types.items ≡ ts
  pub begins : start ≡ start_of o.starts.items (length o.starts.items - length ts) at

pub record AreOpen (context : Context) (operators : List (Operator × ℕ)) (at : ℕ) (o : Open) : Type 0 where
  pub aligned : length o.types.items ≡ length o.starts.items
  pub begun : (j s : ℕ) → slice_get o.starts.items j ≡ Some s → s < at
  -- from the start of each tree on they leave its type and those behind it
  pub leave : (j s : ℕ) → slice_get o.starts.items j ≡ Some s → (code : List Instruction) × Stands operators s at code ×
      (tree_after context code [] ≡ Some (drop j o.types.items))
  -- and all code that ends here and needs nothing from before it is some of these trees
  pub most : (s : ℕ) (code : List Instruction) (ts : List PrimitiveTypeInfo) → s ≤ at → Stands operators s at code →
      tree_after context code [] ≡ Some ts → AreLast o s at ts
  pub written_is : (s : ℕ) (code : List Instruction) → s ≤ at → Stands operators s at code → writes code ≡ nat_lt s o.written
  pub trapped_is : (s : ℕ) (code : List Instruction) → s ≤ at → Stands operators s at code → traps code ≡ nat_lt s o.trapped
  pub asked_is : (s : ℕ) (code : List Instruction) → s ≤ at → Stands operators s at code → asks code ≡ nat_lt s o.asked

-- Of each operator so far its tree is in the list, or none where it has none.
pub record AreTreesBefore (context : Context) (operators : List (Operator × ℕ)) (at : ℕ) (list : List (Option Tree)) : Type 0 where
  pub count : length list ≡ at
  pub each : (k : ℕ) (o : Option Tree) → slice_get list k ≡ Some o → IsTreeAt context operators k o

-- that instruction stands there
abbrev pub HasInstruction : List (Operator × ℕ) → ℕ → Instruction → Type 0
HasInstruction operators at i = slice_get (map (λ (o : Operator × ℕ). o.0) operators) at ≡ Some (Instr i)

-- behind the operator, where it does; else what was
abbrev pub behind_if : Bool → (at before : ℕ) → ℕ
behind_if does at before = if does then at + 1 else before

-- the second has the effects of the first
pub record HasEffectsOf (old new : Open) : Type 0 where
  pub written : new.written ≡ old.written
  pub trapped : new.trapped ≡ old.trapped
  pub asked : new.asked ≡ old.asked

-- and those of an instruction more
pub record HasNoted (i : Instruction) (at : ℕ) (old new : Open) : Type 0 where
  pub starts : new.starts ≡ old.starts
  pub types : new.types ≡ old.types
  pub written : new.written ≡ behind_if (row_writes (integer_row i)) at old.written
  pub trapped : new.trapped ≡ behind_if (instruction_traps i) at old.trapped
  pub asked : new.asked ≡ behind_if (is_other (integer_row i)) at old.asked

-- The instruction's operands are the trees behind the first `below`, and its own tree begins with the first of them.
pub record TreeIsTold (context : Context) (i : Instruction) (at : ℕ) (o : Open) (below : ℕ) (tree : Tree) : Type 0 where
  pub below_is : below + instruction_count context.info i ≡ length o.starts.items
  pub typed : one_type (instruction_types context i (drop below o.types.items)) ≡ Some tree.gives
  pub start_is : tree.start ≡ start_of o.starts.items below at
  pub writes_is : tree.writes ≡ nat_lt tree.start o.written
  pub traps_is : tree.traps ≡ nat_lt tree.start o.trapped
  pub asks_is : tree.asks ≡ nat_lt tree.start o.asked

-- so, or there are too few trees, or these are no operands of it
abbrev pub IsNextTree : Context → Instruction → (at : ℕ) → Open → Option (ℕ × Tree) → Type 0
IsNextTree context i at o (Some (below, tree)) = TreeIsTold context i at o below tree
IsNextTree context i at o None =
    (below : ℕ) → below + instruction_count context.info i ≡ length o.starts.items →
    one_type (instruction_types context i (drop below o.types.items)) ≡ None
