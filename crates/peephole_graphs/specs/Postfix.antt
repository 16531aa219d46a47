-- A walk over a tree in postfix: the turns that are left of it, the next one first. This project's rule.
use Rattle.std.specs.Prelude.{ℕ, List, [], ◌∷◌, ◌++◌, map}
use Rattle.peephole_graphs.specs.declared.postfix.Turn.{Turn}
use Rattle.peephole_graphs.specs.declared.postfix.Turn.TheVariants.{Child, Own}

-- the turns of a node that is entered: its children in order, and then the node itself
abbrev pub turns_of : ℕ → List ℕ → List Turn
turns_of node children = map (λ i. Child i) children ++ Own node ∷ []
