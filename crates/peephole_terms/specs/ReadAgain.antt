-- What a written body is when its bytes are read again. This project's rule.
use Rattle.std.specs.Prelude.{ℕ, ◌≡◌, ◌++◌, ◌⊎◌, List, Some, Ok, false}
use Rattle.wasm_code.specs.Instruction.{Instruction}
use Rattle.wasm_code.specs.Body.{SpellsCode}
use Rattle.wasm_code.specs.declared.operator.Operator.{Operator}
use Rattle.wasm_types.specs.Module.{Module}
use Rattle.peephole_lang.specs.declared.lang.Head.{Head}
use Rattle.peephole_lang.specs.Term.{Term, tree_at}
use Rattle.peephole_graphs.specs.Block.{IsBlockIn, IsBlockOf}
use Rattle.peephole_graphs.specs.Shape.{AreFit}
use Rattle.peephole_graphs.specs.Tree.{instructions, renumber}
use Rattle.peephole_graphs.specs.Entries.{Graph}
use Rattle.peephole_graphs.specs.Forest.{forest, IsInOrder}
use Rattle.peephole_graphs.specs.Layout.{entry_nodes}
use Rattle.peephole_terms.specs.Expansion.{Setting}
use Rattle.peephole_terms.specs.Written.{Site, site_at, block_operators, block_shapes, is_written, term_code, written_block, written_body}
use Rattle.peephole_terms.specs.Spliced.{ReadsSpliced}

-- The bytes are those of a body: the operators before the block, these instructions, and the operators behind the block.
abbrev pub ReadsAgain : Site → (code : List Instruction) → (text : List ℕ) → Type 0
ReadsAgain site code text = ReadsSpliced site.input site.operators site.block.start site.block.end code text

-- The sink has grown by a body that is read again as the site's with the term in its block.
pub record AppendsReadable (s : Setting) (site : Site) (t : Term Head) (old new : List ℕ) : Type 0 where
  pub code : List Instruction
  pub text : List ℕ
  pub expands : term_code s site t ≡ Ok code
  pub appended : new ≡ old ++ text
  pub reads : ReadsAgain site (written_block s.info site code) text

-- The term changes no tree: it isn't written, or it is the insertion point's own, as `get_expr` lays it out.
abbrev pub KeepsTheTrees : Module → Site → Graph → Term Head → Type 0
KeepsTheTrees info site graph term =
    (is_written info site ≡ false) ⊎ ((i : ℕ) × (graph.own_entry site.at ≡ Some i) × (term ≡ tree_at (entry_nodes graph.entries) i))

-- the same in another body
abbrev pub site_again : Site → (text : List ℕ) → List (Operator × ℕ) → Site
site_again site text again = site_at text again site.block site.at

-- The bytes are those of a body in which the block is read again the same.
pub record BlockIsReread (info : Module) (site : Site) (text : List ℕ) : Type 0 where
  pub again : List (Operator × ℕ)
  pub spells : SpellsCode 0 text again
  -- the block has the same range, and is an operator's block again where it was one; its operators fit
  pub there : IsBlockIn again site.block
  pub found : (n : ℕ) → IsBlockOf site.operators n site.block.start site.block.end → IsBlockOf again n site.block.start site.block.end
  pub fit : AreFit info (block_operators (site_again site text again))
  -- it has the same trees, their operators numbered by the new places, and is in order
  pub same : forest (block_shapes info (site_again site text again)) ≡ renumber 0 (forest (block_shapes info site))
  pub order : IsInOrder (block_shapes info (site_again site text again))
  -- written with its own trees, it leaves these bytes
  pub stays : written_body (site_again site text again) (instructions (forest (block_shapes info (site_again site text again)))) ≡ text

-- Where the term changes no tree, the sink has grown by a body in which the block is read again the same.
abbrev pub RereadsOwnTrees : Module → Site → Graph → Term Head → (old new : List ℕ) → Type 0
RereadsOwnTrees info site graph t old new =
    KeepsTheTrees info site graph t → (text : List ℕ) × (new ≡ old ++ text) × BlockIsReread info site text
