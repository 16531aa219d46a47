-- When a block in which a term stands for a whole tree runs as it did: in order, with a term that evaluates as the tree (this project).
use Rattle.std.specs.Prelude.{◌≡◌, ◌≢◌, ℕ, List, [], ◌∷◌, ◌++◌, map, true, Some, Ok}
use Rattle.std.specs.List.{All}
use Rattle.wasm_code.specs.Instruction.{Instruction}
use Rattle.wasm_code.specs.declared.operator.Operator.{Operator}
use Rattle.wasm_code.specs.declared.operator.Operator.TheVariants.{Instr}
use Rattle.wasm_types.specs.declared.types.PrimitiveTypeInfo.{PrimitiveTypeInfo}
use Rattle.peephole_lang.specs.declared.lang.Head.{Head}
use Rattle.peephole_lang.specs.Term.{Term, tree_at}
use Rattle.peephole_graphs.specs.Entries.{Graph}
use Rattle.peephole_graphs.specs.Forest.{IsInOrder}
use Rattle.peephole_graphs.specs.Layout.{entry_nodes}
use Rattle.wasm_execution.specs.Values.{Value, IsValue, types, Context, context_in, World, State, HasTypes, Stuck}
use Rattle.wasm_execution.specs.IntegerRow.{integer_row}
use Rattle.wasm_execution.specs.Machine.{run}
use Rattle.wasm_execution.specs.Agreement.{with_globals, SameOutcome}
use Rattle.wasm_execution.specs.Laws.{NamesIn, IsIntegerRow, in_world, ends_in_world}
use Rattle.peephole_terms.specs.NodeKind.{primitive_of}
use Rattle.peephole_terms.specs.Expansion.{Setting, requests_of}
use Rattle.peephole_terms.specs.Written.{Site, block_operators, block_shapes, is_written, term_code, written_block, written_body}
use Rattle.peephole_terms.specs.Agrees.{Agree}
use Rattle.peephole_terms.specs.StackCode.{words_for}

-- The term has the tree's types, and in every state means the same, with the words drawn; a tree of a graph draws none.
abbrev pub EvaluatesAs : (context : Context) (words : List ℕ) (tree t : Term Head) → Type 0
EvaluatesAs context words tree t = Agree context [] words tree t

abbrev pub and_instruction : Operator → List Instruction → List Instruction
and_instruction (Instr i) later = i ∷ later
and_instruction _ later = later

-- the instructions among operators, in order
abbrev pub instructions_in : List (Operator × ℕ) → List Instruction
instructions_in [] = []
instructions_in (o ∷ os) = and_instruction o.0 (instructions_in os)

-- The block is in order, the insertion point's operator is a root, and the term evaluates as its whole tree.
pub record Replaces (locals : List PrimitiveTypeInfo) (s : Setting) (site : Site) (graph : Graph) (t : Term Head) : Type 0 where
  pub order : IsInOrder (block_shapes s.info site)
  pub root : is_written s.info site ≡ true
  -- its own entry in the graph, whose tree is the one that is replaced; a tree that has types has no entry operand
  pub entry : ℕ
  pub own : graph.own_entry site.at ≡ Some entry
  pub evaluates : EvaluatesAs (context_in s.info locals) (words_for s t) (tree_at (entry_nodes graph.entries) entry) t

-- For all types of locals with which the term replaces the tree: wherever the block's own run ends or traps with the module's globals alone, the written
-- one does the same, apart from requested globals. Behind the module's globals the old run may find any values, and the new one values of the requested
-- types and any others behind these.
abbrev pub RunsAsBefore : Setting → Site → Graph → Term Head → (written : List Instruction) → Type 0
RunsAsBefore s site graph t written =
    let old = instructions_in (block_operators site) in
    (locals more : List PrimitiveTypeInfo) → Replaces locals s site graph t →
    (stack : List Value) (state : State) (others requested : List Value) → All IsValue stack → HasTypes (context_in s.info locals) state →
    types requested ≡ map primitive_of (requests_of t) ++ more → run old stack state ≢ Stuck →
    SameOutcome (run old stack (with_globals others state)) (run written stack (with_globals requested state))

-- ---- blocks of integer rows

-- an operator that is an integer row, whose variable, where it names one, is of the context
abbrev pub IsIntegerOperator : Context → Operator → Type 0
IsIntegerOperator context (Instr i) = IsIntegerRow (integer_row i) × NamesIn context (integer_row i)
IsIntegerOperator context _ = ⊥

abbrev pub IsIntegerBlock : Context → Site → Type 0
IsIntegerBlock context site = All (λ (o : Operator × ℕ). IsIntegerOperator context o.0) (block_operators site)

-- A block of integer rows that runs as before does so wherever its own run ends or traps with further values behind the module's globals; whether it
-- does with those globals alone need not be asked.
abbrev pub IntegerBlocksRunAsBefore : Type 0
IntegerBlocksRunAsBefore =
    (s : Setting) (site : Site) (graph : Graph) (t : Term Head) (written : List Instruction) → RunsAsBefore s site graph t written →
    let old = instructions_in (block_operators site) in
    (locals more : List PrimitiveTypeInfo) → Replaces locals s site graph t → IsIntegerBlock (context_in s.info locals) site →
    (stack : List Value) (state : State) (others requested : List Value) → All IsValue stack → HasTypes (context_in s.info locals) state →
    All IsValue others → types requested ≡ map primitive_of (requests_of t) ++ more → run old stack (with_globals others state) ≢ Stuck →
    SameOutcome (run old stack (with_globals others state)) (run written stack (with_globals requested state))

-- Such a block asks no world: in every world of the module, with every rest, its own run is the same, and leaves both as they are.
abbrev pub IntegerBlocksAskNoWorld : Type 0
IntegerBlocksAskNoWorld =
    (context : Context) (site : Site) → IsIntegerBlock context site →
    let old = instructions_in (block_operators site) in
    (stack : List Value) (state : State) (rest : ℕ) (w : World) → w.info ≡ state.world.info →
    run old stack (in_world rest w state) ≡ ends_in_world rest w (run old stack state)

-- ---- a written body

-- The sink has grown by the written body, whose block runs as before.
pub record AppendsSameRun (s : Setting) (site : Site) (graph : Graph) (t : Term Head) (old new : List ℕ) : Type 0 where
  pub code : List Instruction
  pub expands : term_code s site t ≡ Ok code
  pub appended : new ≡ old ++ written_body site (written_block s.info site code)
  pub runs : RunsAsBefore s site graph t (written_block s.info site code)
