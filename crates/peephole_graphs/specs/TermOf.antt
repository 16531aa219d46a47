-- Terms that stand for the trees of a block's forest: with the same instructions, operand by operand. This project's law.
use Rattle.std.specs.Prelude.{ℕ, ◌<◌, ◌≡◌, ⊤, length, Some}
use Rattle.peephole_lang.specs.declared.lang.Head.{Head}
use Rattle.peephole_lang.specs.declared.lang.Lang.TheVariants.{Undef}
use Rattle.peephole_lang.specs.Node.{head_of, instr_of_head}
use Rattle.peephole_lang.specs.Term as term
use Rattle.peephole_lang.specs.Term.{Term, Terms, no_terms, ◌▸◌, tree_at}
use Rattle.peephole_graphs.specs.Tree as tree
use Rattle.peephole_graphs.specs.Tree.{Tree, Trees, entry, no_trees}
use Rattle.peephole_graphs.specs.Source.{Source}
use Rattle.peephole_graphs.specs.Entries.{Graph, entry_tree}
use Rattle.peephole_graphs.specs.GraphOf.{IsGraphOf}
use Rattle.peephole_graphs.specs.Layout.{entry_nodes}

-- An `Undef` node stands for an entry operand. For an operator stands a node with its instruction, over terms that stand for
-- the operands' trees, one for each.
abbrev mutual
  pub IsTermOf : Term Head → Tree → Type 0
  IsTermOf t (entry m) = t ≡ term.node (head_of Undef) no_terms
  IsTermOf (term.node h kids) (tree.node i s operands) = (instr_of_head h ≡ Some s.instr) × AreTermsOf kids operands
  IsTermOf term.absent (tree.node i s operands) = ⊥

  pub AreTermsOf : Terms Head → Trees → Type 0
  AreTermsOf no_terms no_trees = ⊤
  AreTermsOf (t ▸ ts) (tree.◌▸◌ u us) = IsTermOf t u × AreTermsOf ts us
  AreTermsOf _ _ = ⊥

-- the term of each entry of a block's graph stands for the entry's tree
abbrev pub HasTermsOfTrees : Type 0
HasTermsOfTrees = (s : Source) (g : Graph) → IsGraphOf s g → (i : ℕ) → i < length g.entries →
    IsTermOf (tree_at (entry_nodes g.entries) i) (entry_tree s g i)
