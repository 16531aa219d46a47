-- The written body: the bytes outside a block as they stood, and between them the code of the block's forest in postfix, in which a term stands for the
-- tree of the operator at the insertion point. This project's rule.
use Rattle.std.specs.Prelude.{◌≡◌, ◌≢◌, ℕ, ◌+◌, ◌-◌, ◌≤◌, ◌==◌, ◌||◌, ◌↔◌, Bool, true, false, List, [], ◌++◌, length, map, Option, Some}
use Rattle.std.specs.Prelude.{Result, Ok, Err, IfOk, if◌then◌else◌, slice_index, slice_range}
use Rattle.wasm_code.specs.Instruction.{Instruction}
use Rattle.wasm_code.specs.Code.{codes}
use Rattle.wasm_code.specs.Body.{SpellsCode}
use Rattle.wasm_code.specs.declared.operator.Operator.{Operator}
use Rattle.wasm_types.specs.Module.{Module}
use Rattle.mutate_base.specs.declared.error.Error.{Error}
use Rattle.mutate_base.specs.declared.error.Error.TheVariants.{NoMutationsApplicable}
use Rattle.peephole_lang.specs.declared.lang.Head.{Head}
use Rattle.peephole_lang.specs.Term.{Term}
use Rattle.peephole_graphs.specs.Block.{BlockRange}
use Rattle.peephole_graphs.specs.declared.shape.Shape.{Shape}
use Rattle.peephole_graphs.specs.Shape.{shapes_of_block}
use Rattle.peephole_graphs.specs.Source.{Source, source_of}
use Rattle.peephole_graphs.specs.Tree.{Trees, no_trees, entry, node, ◌▸◌, instructions_of}
use Rattle.peephole_graphs.specs.Forest.{forest, IsInOrder}
use Rattle.peephole_terms.specs.declared.encoder.request.ResourceRequest.{ResourceRequest}
use Rattle.peephole_terms.specs.Expansion.{Setting, Refuses, expansion_in, after_term, requests_of, request}

-- The instructions of the trees in postfix, those of the insertion point's tree replaced. The trees number operators from the block's first one on,
-- whose index in the body is `first`.
abbrev pub with_tree_replaced : (first at : ℕ) → List Instruction → Trees → List Instruction
with_tree_replaced first at code no_trees = []
with_tree_replaced first at code (entry m ▸ ts) = with_tree_replaced first at code ts
with_tree_replaced first at code (node i s kids ▸ ts) = (if first + i == at then code else instructions_of (node i s kids))
    ++ with_tree_replaced first at code ts

-- What a body is written at: the input, the operators of a body in it with their offsets, one of its blocks, and the insertion point, by its operator's
-- index in the body.
pub record Site : Type 0 where
  pub input : List ℕ
  pub operators : List (Operator × ℕ)
  pub block : BlockRange
  pub at : ℕ

abbrev pub site_at : List ℕ → List (Operator × ℕ) → BlockRange → ℕ → Site
site_at input operators block at = record { input = input; operators = operators; block = block; at = at }

-- the block's operators
abbrev pub block_operators : Site → List (Operator × ℕ)
block_operators site = slice_range site.operators site.block.start site.block.end

-- what its graph is made of
abbrev pub source_at : Module → (preserving : Bool) → Site → Source
source_at info preserving site = source_of info preserving site.operators site.block

-- its shapes, the last operator's first
abbrev pub block_shapes : Module → Site → List Shape
block_shapes info site = shapes_of_block info (block_operators site)

-- what the block is written as, with these instructions in the place of the insertion point's tree
abbrev pub written_block : Module → Site → List Instruction → List Instruction
written_block info site code = with_tree_replaced site.block.start site.at code (forest (block_shapes info site))

-- one of the trees is that of the operator with the body's index `at`
abbrev pub has_root : (first at : ℕ) → Trees → Bool
has_root first at no_trees = false
has_root first at (entry m ▸ ts) = has_root first at ts
has_root first at (node i s kids ▸ ts) = (first + i == at) || has_root first at ts

-- whether a term is written: only where the insertion point's tree stands for itself
abbrev pub is_written : Module → Site → Bool
is_written info site = has_root site.block.start site.at (forest (block_shapes info site))

-- the term's instructions, or none where it isn't written
abbrev pub term_code : Setting → Site → Term Head → Result (List Instruction) Error
term_code s site term = if is_written s.info site then expansion_in s term else Ok []

-- the globals that it asks for
abbrev pub term_requests : Module → Site → Term Head → List ResourceRequest
term_requests info site term = if is_written info site then map request (requests_of term) else []

-- what is left to be drawn
abbrev pub after_block_term : Setting → Site → Term Head → Setting
after_block_term s site term = if is_written s.info site then after_term s term else s

-- The setting that is left stands behind the term's last word, where the term is written, and otherwise where it stood.
abbrev pub StandsBehind : Setting → Site → Term Head → (left : Option Setting) → Type 0
StandsBehind s site term left = left ≡ Some (after_block_term s site term)

-- the operators alone
abbrev pub without_offsets : List (Operator × ℕ) → List Operator
without_offsets operators = map (λ (o : Operator × ℕ). o.0) operators

-- where an operator starts in the input
abbrev pub offset_of : List (Operator × ℕ) → ℕ → ℕ
offset_of operators i = slice_index (map (λ (o : Operator × ℕ). o.1) operators) i

-- the input from the body's first operator up to the block
abbrev pub before_block : List ℕ → List (Operator × ℕ) → BlockRange → List ℕ
before_block input operators block = slice_range input (offset_of operators 0) (offset_of operators block.start)

-- the input from the operator after the block through the one byte of the last operator
abbrev pub after_block : List ℕ → List (Operator × ℕ) → BlockRange → List ℕ
after_block input operators block = slice_range input (offset_of operators block.end) (offset_of operators (length operators - 1) + 1)

-- the body with the block written as these instructions
abbrev pub written_body : Site → List Instruction → List ℕ
written_body site code =
    before_block site.input site.operators site.block ++ (codes code ++ after_block site.input site.operators site.block)

-- The sink has grown by the body with the term.
pub record AppendsBody (s : Setting) (site : Site) (t : Term Head) (old new : List ℕ) : Type 0 where
  pub code : List Instruction
  pub expands : term_code s site t ≡ Ok code
  pub appended : new ≡ old ++ written_body site (written_block s.info site code)

-- Apart from a block out of order, the term's expansion refuses where it is written, or memory does.
abbrev pub RefusesBody : Setting → Site → Term Head → Error → Type 0
RefusesBody s site t e = e ≢ NoMutationsApplicable → Refuses (term_code s site t) e

-- Where the order is to be preserved, a block is refused exactly where it is out of order, and one that is written is in order.
pub record KeepsOrder {A : Type 0} (preserving : Bool) (block : List Shape) (answer : Result A Error) : Type 0 where
  pub refused : (answer ≡ Err NoMutationsApplicable) ↔ ((preserving ≡ true) × ¬ (IsInOrder block))
  pub in_order : IfOk answer (λ _. preserving ≡ true → IsInOrder block)

-- The operators are those of a body in the input, with their offsets.
pub record IsBodyIn (input : List ℕ) (operators : List (Operator × ℕ)) : Type 0 where
  pub from : ℕ
  pub to : ℕ
  pub ordered : from ≤ to
  pub inside : to ≤ length input
  pub spells : SpellsCode from (slice_range input from to) operators
