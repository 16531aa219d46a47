-- A step of the graph as it is built: an operator takes the last indexes of a stack, and entries of missing operands where
-- there are too few. Lists have the last one first. This project's rule, for the builder alone.
use Rattle.std.specs.Prelude.{ℕ, zero, suc, ◌+◌, ◌-◌, ◌++◌, take, drop, reverse, replicate, List, [], ◌∷◌, length, Option, None, Some, if◌then◌else◌}
use Rattle.peephole_graphs.specs.Shape.{Shape}
use Rattle.peephole_graphs.specs.Forest.{has}
use Rattle.peephole_graphs.specs.Graph.{GraphEntry, undef}

-- indexes from `first + count` down to `first`
abbrev pub down : ℕ → ℕ → List ℕ
down first zero = []
down first (suc count) = (first + count) ∷ down first count

-- the parent of each of the entries `is`
abbrev pub mark : ℕ → List ℕ → List (Option ℕ) → List (Option ℕ)
mark p is [] = []
mark p is (q ∷ earlier) = (if has (length earlier) is then Some p else q) ∷ mark p is earlier

-- a graph as it grows: its entries, their parents, and the indexes whose results no operator has taken yet
pub record GraphGrowth : Type 0 where
  pub nodes : List GraphEntry
  pub parents : List (Option ℕ)
  pub stack : List ℕ

-- the graph with the operator of a shape behind the others, which has the number `n` and the colour `c`
abbrev pub grown : GraphGrowth → Shape → ℕ → ℕ → GraphGrowth
grown g s n c =
    let more = s.operands - length g.stack in
    let own = length g.nodes + more in
    let taken = take s.operands g.stack in
    record {
      nodes = record { shape = Some s; children = down (length g.nodes) more ++ reverse taken; number = n; color = c } ∷ (replicate more (undef n) ++ g.nodes);
      parents = None ∷ (replicate more (Some own) ++ mark own taken g.parents);
      stack = if s.has_result then own ∷ drop s.operands g.stack else drop s.operands g.stack;
    }
