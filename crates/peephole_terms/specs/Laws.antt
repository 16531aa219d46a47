-- What holds of written instructions, and of terms that stand for trees: this project's laws. Which opcode a name has: WebAssembly Core Specification,
-- Binary Format, Instructions.
use Rattle.std.specs.Prelude.{ℕ, ℤ, ◌≡◌, ◌⊎◌, ◌≤◌, ◌<◌, Bool, List, [], length, Some, Ok, Err, IsSome, FitsSigned, option_and_then}
use Rattle.std.specs.Int.{Width, w32, w64, int_wrapping_add}
use Rattle.wasm_code.specs.Instruction.{Instruction}
use Rattle.wasm_code.specs.Table.{HasOpcode}
use Rattle.wasm_code.specs.declared.immediate.Imm.{Imm}
use Rattle.wasm_code.specs.declared.immediate.Imm.TheVariants as imm
use Rattle.wasm_code.specs.declared.table.Opcode.TheVariants.{Byte}
use Rattle.wasm_types.specs.Module.{Module}
use Rattle.mutate_base.specs.declared.error.Error.{Error}
use Rattle.mutate_base.specs.declared.error.Error.TheVariants.{CannotUnfold, GlobalIndex}
use Rattle.peephole_lang.specs.declared.lang.Head.{Head}
use Rattle.peephole_lang.specs.Node.{instr_of_head}
use Rattle.peephole_lang.specs.Term.{Term, Terms, node}
use Rattle.peephole_graphs.specs.Entries.{Graph}
use Rattle.peephole_graphs.specs.Forest.{forest}
use Rattle.peephole_graphs.specs.GraphOf.{IsGraphOf}
use Rattle.peephole_graphs.specs.Tree.{Tree, instructions_of, instructions}
use Rattle.wasm_execution.specs.declared.integer.IntegerType.TheVariants as integer
use Rattle.wasm_execution.specs.Values.{State, then_run, Context}
use Rattle.wasm_execution.specs.IntegerRow.{row_types, integer_row}
use Rattle.wasm_execution.specs.Machine.{act}
use Rattle.peephole_terms.specs.declared.encoder.node_kind.NumberType.TheVariants as number
use Rattle.peephole_terms.specs.Expansion.{Setting, constant, rest_of, add_of, global_set_code, global_get_code, expansion_in, requests_of, draws_of, draws}
use Rattle.peephole_terms.specs.Typing.{types_of, types_in}
use Rattle.peephole_terms.specs.Meaning.{meaning_of, meaning}
use Rattle.peephole_terms.specs.ReadAgain.{KeepsTheTrees}
use Rattle.peephole_graphs.specs.TermOf.{IsTermOf}
use Rattle.peephole_terms.specs.Written.{Site, source_at, block_shapes, term_code, term_requests, written_block, after_block_term}

-- ---- instructions of nodes without a row

-- Their rows are those of the named instructions, by their opcodes.
pub record HaveTheirOpcodes : Type 0 where
  pub i32_const : (word : ℕ) (z : ℤ) → HasOpcode (constant number.I32 word).row (Byte 0x41) × HasOpcode (rest_of integer.I32 word z).row (Byte 0x41)
  pub i64_const : (word : ℕ) (z : ℤ) → HasOpcode (constant number.I64 word).row (Byte 0x42) × HasOpcode (rest_of integer.I64 word z).row (Byte 0x42)
  pub f32_const : (word : ℕ) → HasOpcode (constant number.F32 word).row (Byte 0x43)
  pub f64_const : (word : ℕ) → HasOpcode (constant number.F64 word).row (Byte 0x44)
  pub adds : HasOpcode (add_of integer.I32).row (Byte 0x6a) × HasOpcode (add_of integer.I64).row (Byte 0x7c)
  pub globals : (g : ℕ) → HasOpcode (global_set_code g).row (Byte 0x24) × HasOpcode (global_get_code g).row (Byte 0x23)

-- Two constants, numbers of the width, whose wrapping sum is `z`. `number` is the immediate of a constant of that width.
pub record AddUpTo (w : Width) (number : ℤ → Imm) (z : ℤ) (one other : Instruction) : Type 0 where
  pub a : ℤ
  pub b : ℤ
  pub one_is : one.imm ≡ number a
  pub other_is : other.imm ≡ number b
  pub a_fits : FitsSigned w a
  pub b_fits : FitsSigned w b
  pub sum : int_wrapping_add w a b ≡ z

-- The two constants of an unfold add up to the unfolded number, whatever word is drawn.
pub record UnfoldsAddUp : Type 0 where
  pub i32 : (word : ℕ) (z : ℤ) → FitsSigned w32 z → AddUpTo w32 (λ n. imm.I32 n) z (constant number.I32 word) (rest_of integer.I32 word z)
  pub i64 : (word : ℕ) (z : ℤ) → FitsSigned w64 z → AddUpTo w64 (λ n. imm.I64 n) z (constant number.I64 word) (rest_of integer.I64 word z)

-- ---- refusals

-- A term's expansion is refused where an unfold lacks its constant or a global's index doesn't fit, and for nothing else.
abbrev pub RefusesByName : Type 0
RefusesByName = (s : Setting) (t : Term Head) (e : Error) → expansion_in s t ≡ Err e → (e ≡ CannotUnfold) ⊎ (e ≡ GlobalIndex)

-- ---- terms that stand for trees

-- What a term is written as in every setting: these instructions, with no word drawn and no global asked for.
pub record IsAlwaysWrittenAs (t : Term Head) (code : List Instruction) : Type 0 where
  pub expands : (s : Setting) → expansion_in s t ≡ Ok code
  pub asks : requests_of t ≡ []
  pub draws : draws_of t ≡ []

-- A term that stands for a tree is written as the tree's instructions.
abbrev pub TreesAreWrittenAsTheyAre : Type 0
TreesAreWrittenAsTheyAre = (t : Term Head) (tree : Tree) → IsTermOf t tree → IsAlwaysWrittenAs t (instructions_of tree)

-- With the term at the insertion point a block is written as its own trees in postfix, with no word drawn and no global asked for.
pub record WritesItsOwnTrees (s : Setting) (site : Site) (t : Term Head) : Type 0 where
  pub code : List Instruction
  pub expands : term_code s site t ≡ Ok code
  pub trees : written_block s.info site code ≡ instructions (forest (block_shapes s.info site))
  pub asks : term_requests s.info site t ≡ []
  pub draws : after_block_term s site t ≡ s

-- So it is with the own tree of the operator at the insertion point, and with any term where that operator is no root.
abbrev pub OwnTreesAreKept : Type 0
OwnTreesAreKept =
    (s : Setting) (preserving : Bool) (site : Site) (graph : Graph) (t : Term Head) →
    IsGraphOf (source_at s.info preserving site) graph → KeepsTheTrees s.info site graph t → WritesItsOwnTrees s site t

-- Every operator of a block has its own entry in the block's graph.
abbrev pub OperatorsHaveEntries : Type 0
OperatorsHaveEntries =
    (info : Module) (preserving : Bool) (site : Site) (graph : Graph) → site.block.end ≤ length site.operators →
    IsGraphOf (source_at info preserving site) graph → (at : ℕ) → site.block.start ≤ at → at < site.block.end → IsSome (graph.own_entry at)

-- ---- nodes with an instruction

-- A node with an instruction is typed by its row on its children's types, and does with their values what the row does; it draws nothing itself.
pub record MeanByTheirRows : Type 0 where
  pub types : (context : Context) (h : Head) (kids : Terms Head) (i : Instruction) → instr_of_head h ≡ Some i →
      types_of context (node h kids) ≡ option_and_then (row_types context (integer_row i)) (types_in context kids)
  pub means : (words : List ℕ) (h : Head) (kids : Terms Head) (i : Instruction) (s : State) → instr_of_head h ≡ Some i →
      meaning_of words (node h kids) s ≡ then_run (meaning words kids s) (act (integer_row i))
  pub draws : (h : Head) (kids : Terms Head) (i : Instruction) → instr_of_head h ≡ Some i → draws_of (node h kids) ≡ draws kids
