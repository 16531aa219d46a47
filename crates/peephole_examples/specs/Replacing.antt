-- A body in which a term stands for the tree of an operator, the whole way from bytes to bytes (this project).
use Rattle.std.specs.Prelude.{◌≡◌, ◌≤◌, ◌⊎◌, ℕ, List, length, Bool, true, Option, Ok, IfSome}
use Rattle.wasm_code.specs.Instruction.{Instruction}
use Rattle.wasm_code.specs.Body.{SpellsBody, IsFault}
use Rattle.wasm_code.specs.declared.operator.Operator.{Operator}
use Rattle.wasm_types.specs.Module.{Module}
use Rattle.mutate_base.specs.declared.error.Error.{Error}
use Rattle.mutate_base.specs.declared.error.Error.TheVariants.{NoMutationsApplicable}
use Rattle.peephole_lang.specs.declared.lang.Head.{Head}
use Rattle.peephole_lang.specs.Term.{Term}
use Rattle.peephole_graphs.specs.Entries.{Graph}
use Rattle.peephole_graphs.specs.Source.{source_of}
use Rattle.peephole_graphs.specs.Block.{BlockRange, IsBlockOf, IsDelimiterAt}
use Rattle.peephole_graphs.specs.Forest.{IsInOrder}
use Rattle.peephole_graphs.specs.GraphOf.{IsGraphOf, HasNoGraph, IsRefused}
use Rattle.peephole_terms.specs.declared.encoder.request.ResourceRequest.{ResourceRequest}
use Rattle.peephole_terms.specs.Expansion.{Setting, Refuses}
use Rattle.peephole_terms.specs.Written.{Site, site_at, block_shapes, term_code, term_requests, written_block, written_body}
use Rattle.peephole_terms.specs.SameRun.{RunsAsBefore}
use Rattle.peephole_examples.specs.declared.replacing.ReplaceError.{ReplaceError}
use Rattle.peephole_examples.specs.declared.replacing.ReplaceError.TheVariants.{Read, Write}

-- The input is a body, and the block is that of the operator at the insertion point.
pub record IsPoint (site : Site) : Type 0 where
  pub spelled : SpellsBody 0 site.input site.operators
  pub block_is : IsBlockOf site.operators site.at site.block.start site.block.end

-- The new body is the old one with the term in the place of the operator's tree, and its block runs as before where the term evaluates as that tree.
pub record IsReplaced (s : Setting) (preserving : Bool) (bytes : List ℕ) (point : ℕ) (t : Term Head) (body : List ℕ)
    (requests : List ResourceRequest) : Type 0 where
  pub operators : List (Operator × ℕ)
  pub block : BlockRange
  pub at : IsPoint (site_at bytes operators block point)
  pub code : List Instruction
  pub expands : term_code s (site_at bytes operators block point) t ≡ Ok code
  pub written : body ≡ written_body (site_at bytes operators block point) (written_block s.info (site_at bytes operators block point) code)
  pub asks : requests ≡ term_requests s.info (site_at bytes operators block point) t
  -- the block's graph
  pub graph : Graph
  pub graph_is : IsGraphOf (source_of s.info preserving operators block) graph
  pub runs : RunsAsBefore s (site_at bytes operators block point) graph t (written_block s.info (site_at bytes operators block point) code)

-- Nothing is there to be replaced: no operator has the number, or a delimiter has it, or its block has no graph.
pub record HasNothingToReplace (info : Option Module) (preserving : Bool) (bytes : List ℕ) (point : ℕ) : Type 0 where
  pub operators : List (Operator × ℕ)
  pub spelled : SpellsBody 0 bytes operators
  pub why :
      (length operators ≤ point) ⊎ (IsDelimiterAt operators point ⊎ (
      (block : BlockRange) × IsBlockOf operators point block.start block.end
      × IfSome info (λ info. HasNoGraph (source_of info preserving operators block))))

-- Why the block at the point was not written: its graph is refused, it is out of order while preserving, or the term's expansion is refused.
pub record IsNotWritten (s : Setting) (preserving : Bool) (bytes : List ℕ) (point : ℕ) (t : Term Head) (e : Error) : Type 0 where
  pub operators : List (Operator × ℕ)
  pub block : BlockRange
  pub at : IsPoint (site_at bytes operators block point)
  pub why :
      IsRefused (source_of s.info preserving operators block) e ⊎ (
      ((e ≡ NoMutationsApplicable) × ((preserving ≡ true) × ¬ (IsInOrder (block_shapes s.info (site_at bytes operators block point))))) ⊎
      Refuses (term_code s (site_at bytes operators block point) t) e)

-- Why there is no new body: the bytes are none, with their first fault, or the block was not written.
abbrev pub IsNotReplaced : Setting → Bool → List ℕ → (point : ℕ) → Term Head → ReplaceError → Type 0
IsNotReplaced s preserving bytes point t (Read fault) = IsFault 0 (length bytes) bytes fault.kind fault.offset
IsNotReplaced s preserving bytes point t (Write e) = IsNotWritten s preserving bytes point t e
