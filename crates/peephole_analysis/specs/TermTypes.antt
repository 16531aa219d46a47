-- The type of a term's result: that of its node, by the type of its first operand (this project).
use Rattle.std.specs.Prelude.{ℕ, List, Option, None, Result, Err}
use Rattle.std.specs.Result.{result_ok}
use Rattle.mutate_base.specs.declared.error.Error.{Error}
use Rattle.mutate_base.specs.declared.error.Error.TheVariants.{UnknownOperand}
use Rattle.wasm_types.specs.declared.types.PrimitiveTypeInfo.{PrimitiveTypeInfo}
use Rattle.peephole_lang.specs.Term.{Term, Terms, absent, node, no_terms, ◌▸◌, tree_at, nodes_of}
use Rattle.peephole_lang.specs.Node.{head_of, children_of}
use Rattle.peephole_lang.specs.declared.lang.Head.{Head}
use Rattle.peephole_lang.specs.declared.lang.Lang.{Lang}
use Rattle.peephole_analysis.specs.Analysis.{Analysis, head_type}

-- The type of an operand is not known where it is refused. Nothing is known of a term that is not there.
abbrev mutual
  pub term_type : Analysis → Term Head → Result PrimitiveTypeInfo Error
  term_type a absent = Err UnknownOperand
  term_type a (node h kids) = head_type a (first_term_type a kids) h

  pub first_term_type : Analysis → Terms Head → Option PrimitiveTypeInfo
  first_term_type a no_terms = None
  first_term_type a (t ▸ ts) = result_ok (term_type a t)

-- of the term at a place of an expression
abbrev pub type_of_node : Analysis → List Lang → ℕ → Result PrimitiveTypeInfo Error
type_of_node a expr i = term_type a (tree_at (nodes_of head_of children_of expr) i)

-- where it is known
abbrev pub known_type : Analysis → List Lang → ℕ → Option PrimitiveTypeInfo
known_type a expr i = result_ok (type_of_node a expr i)
