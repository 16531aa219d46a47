-- A term's code in the place of some operators of a body: when the nodes of a tree stand there, what the body then is, and that whatever stands before and
-- behind runs as before. This project's rule.
use Rattle.std.specs.Prelude.{◌≡◌, ◌≢◌, ◌≤◌, ℕ, List, [], ◌∷◌, ◌++◌, map, take, drop, Option, Some, Ok, option_map, slice_range}
use Rattle.std.specs.List.{All}
use Rattle.wasm_code.specs.Body.{SpellsCode}
use Rattle.wasm_code.specs.Code.{code, codes}
use Rattle.wasm_code.specs.Instruction.{Instruction}
use Rattle.wasm_code.specs.declared.operator.Operator.{Operator}
use Rattle.wasm_code.specs.declared.operator.Operator.TheVariants.{Instr}
use Rattle.wasm_types.specs.declared.types.PrimitiveTypeInfo.{PrimitiveTypeInfo}
use Rattle.peephole_lang.specs.declared.lang.Head.{Head}
use Rattle.peephole_lang.specs.Node.{instr_of_head}
use Rattle.peephole_lang.specs.Term.{Term, Terms, absent, node, no_terms, ◌▸◌}
use Rattle.peephole_graphs.specs.Block.{BlockRange}
use Rattle.wasm_execution.specs.Values.{Value, IsValue, types, Context, context_in, State, HasTypes, Stuck}
use Rattle.wasm_execution.specs.Machine.{run}
use Rattle.wasm_execution.specs.Agreement.{with_globals, SameOutcome}
use Rattle.wasm_equivalence.specs.control.Function.{RunsAs}
use Rattle.wasm_equivalence.specs.validation.StaysValid.{ChecksAs}
use Rattle.wasm_equivalence.specs.control.Wider.{wider}
use Rattle.peephole_terms.specs.NodeKind.{primitive_of}
use Rattle.peephole_terms.specs.Expansion.{Setting, requests_of, expansion_in}
use Rattle.peephole_terms.specs.StackCode.{words_for}
use Rattle.peephole_terms.specs.OwnBytes.{own_bytes}
use Rattle.peephole_terms.specs.Written.{before_block, after_block, without_offsets}
use Rattle.peephole_terms.specs.SameRun.{EvaluatesAs, instructions_in}

-- ---- where a tree stands

-- the operator that a node is, where it has an instruction
abbrev pub operator_of_head : Head → Option Operator
operator_of_head h = option_map (λ i. Instr i) (instr_of_head h)

-- the operators that a term's nodes are, in postfix: none for a node without an instruction
abbrev mutual
  pub tree_operators : Term Head → List (Option Operator)
  tree_operators absent = []
  tree_operators (node h kids) = operators_of_trees kids ++ operator_of_head h ∷ []

  pub operators_of_trees : Terms Head → List (Option Operator)
  operators_of_trees no_terms = []
  operators_of_trees (t ▸ ts) = tree_operators t ++ operators_of_trees ts

-- what stands in the body
abbrev pub some_operator : Operator × ℕ → Option Operator
some_operator o = Some o.0

-- The body's operators from `start` to before `end` are the tree's nodes, in postfix.
abbrev pub StandsAt : List (Operator × ℕ) → (start end : ℕ) → Term Head → Type 0
StandsAt operators start end t = map some_operator (slice_range operators start end) ≡ tree_operators t

-- ---- the spliced body

-- the operators from `start` to before `end`, as a block's
abbrev pub range_as_block : (start end : ℕ) → BlockRange
range_as_block start end = record { start = start; end = end }

-- the body with these instructions in the place of the operators from `start` to before `end`; the bytes outside stay
abbrev pub spliced : List ℕ → List (Operator × ℕ) → (start end : ℕ) → List Instruction → List ℕ
spliced input operators start end code =
    before_block input operators (range_as_block start end) ++ (codes code ++ after_block input operators (range_as_block start end))

-- the instruction as an operator, with its code
abbrev pub spelling_of : Instruction → Operator × List ℕ
spelling_of i = (Instr i, code i)

-- instructions as operators, each with its code
abbrev pub coded : List Instruction → List (Operator × List ℕ)
coded is = map spelling_of is

-- The bytes are those of a body: the operators before, these instructions, and the operators behind, each with the bytes that it had.
pub record ReadsSpliced (input : List ℕ) (operators : List (Operator × ℕ)) (start end : ℕ) (code : List Instruction) (text : List ℕ) : Type 0 where
  pub again : List (Operator × ℕ)
  pub spells : SpellsCode 0 text again
  pub are :
      without_offsets again ≡ without_offsets (take start operators)
      ++ (map (λ (i : Instruction). Instr i) code ++ without_offsets (drop end operators))
  pub bytes_are : own_bytes text again ≡ take start (own_bytes input operators) ++ (coded code ++ drop end (own_bytes input operators))

-- ---- its runs

-- Whatever code stands before and behind: wherever the old code's run ends or traps with the module's globals alone, that of the new code does the same,
-- apart from requested globals: from every stack, in every state of the context's types. Behind the module's globals the old run may find any values, and
-- the new one values of the requested types and any others behind these.
abbrev pub KeepsEveryRun : Context → (new : Term Head) → (own code : List Instruction) → Type 0
KeepsEveryRun context new own code =
    (front back : List Instruction) (more : List PrimitiveTypeInfo) (stack : List Value) (state : State) (others requested : List Value) →
    All IsValue stack → HasTypes context state → types requested ≡ map primitive_of (requests_of new) ++ more →
    run ((front ++ own) ++ back) stack state ≢ Stuck →
    SameOutcome (run ((front ++ own) ++ back) stack (with_globals others state)) (run ((front ++ code) ++ back) stack (with_globals requested state))

-- So it is of the body's operators of every range round these, as of their block.
abbrev pub KeepsItsRun : Context → List (Operator × ℕ) → (start end : ℕ) → (new : Term Head) → (code : List Instruction) → Type 0
KeepsItsRun context operators start end new code =
    (from to : ℕ) → from ≤ start → end ≤ to →
    let old = instructions_in (slice_range operators from to) in
    let written = (instructions_in (slice_range operators from start) ++ code) ++ instructions_in (slice_range operators end to) in
    (more : List PrimitiveTypeInfo) (stack : List Value) (state : State) (others requested : List Value) →
    All IsValue stack → HasTypes context state → types requested ≡ map primitive_of (requests_of new) ++ more → run old stack state ≢ Stuck →
    SameOutcome (run old stack (with_globals others state)) (run written stack (with_globals requested state))

-- The new code is, by itself, what the old one was: it runs as that, and is valid wherever that was, with globals of the requested types behind the
-- module's, and any others behind these.
pub record DoesAsTree (context : Context) (new : Term Head) (own code : List Instruction) : Type 0 where
  pub runs : (more : List PrimitiveTypeInfo) → RunsAs context (map primitive_of (requests_of new) ++ more) own code
  pub checks : (input : List ℕ) (more : List PrimitiveTypeInfo) →
      ChecksAs context (wider input (map primitive_of (requests_of new) ++ more) context) own code

-- Whatever stands before and behind the code runs as before, and by itself it does as what stood there.
pub record RunsSpliced (s : Setting) (operators : List (Operator × ℕ)) (start end : ℕ) (t : Term Head) (code : List Instruction)
    (locals : List PrimitiveTypeInfo) : Type 0 where
  pub every : KeepsEveryRun (context_in s.info locals) t (instructions_in (slice_range operators start end)) code
  pub its : KeepsItsRun (context_in s.info locals) operators start end t code
  pub alone : DoesAsTree (context_in s.info locals) t (instructions_in (slice_range operators start end)) code

-- The sink has grown by the body with the term's code in the place of those operators: it is read again as the operators before, the code and the
-- operators behind; and where the operators were a tree that the term evaluates as, whatever the locals' types, it runs as before.
pub record AppendsSplicedTerm (s : Setting) (input : List ℕ) (operators : List (Operator × ℕ)) (start end : ℕ) (t : Term Head) (old new : List ℕ) :
    Type 0 where
  pub code : List Instruction
  pub expands : expansion_in s t ≡ Ok code
  pub appended : new ≡ old ++ spliced input operators start end code
  pub reads : ReadsSpliced input operators start end code (spliced input operators start end code)
  pub runs : (locals : List PrimitiveTypeInfo) (tree : Term Head) → StandsAt operators start end tree →
      EvaluatesAs (context_in s.info locals) (words_for s t) tree t → RunsSpliced s operators start end t code locals
