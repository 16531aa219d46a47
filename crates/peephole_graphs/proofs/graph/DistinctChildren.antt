-- No entry stands twice among an operator's children.
use Rattle.std.proofs.Common.{◌≡◌, ℕ, zero, suc, ◌+◌, ◌<◌, Bool, false, List, [], ◌∷◌, ◌++◌, length, arith}
use Rattle.std.specs.Prelude.{◌==◌, reverse, replicate}
use Rattle.std.specs.Bool.{nat_eq}
use Rattle.std.specs.List.{All, IsDistinct}
use Rattle.std.proofs.lemmas.Bool.{ne_eqb, cond_both}
use Rattle.std.proofs.lemmas.Bool.Decides.{nat_tests}
use Rattle.std.proofs.lemmas.List.Elements.{All-nil, All-cons, All-head, All-tail, All-append, All-replicate, All-weaker, recursion_from_All}
use Rattle.std.proofs.lemmas.List.Sorted.{IsPermutation-append_right, IsPermutation-reverse}
use Rattle.std.proofs.lemmas.Map.Keys.{IsDistinct-cons, IsDistinct-IsPermutation}
use Rattle.peephole_graphs.specs.Shape.{Shape}
use Rattle.peephole_graphs.specs.Graph.{GraphEntry, undef}
use Rattle.peephole_graphs.specs.Step.{down}
use Rattle.peephole_graphs.proofs.graph.StackGraph.{graph, is_graph, FallingIds, FallingIds-weaker, falls_below, taken_falls, more_of, taken_of}
use Rattle.peephole_graphs.proofs.graph.BlockGraph.{entry_at}

none_twice : IsDistinct nat_eq []
unfolding IsDistinct
none_twice = tt

-- missing operands fall, and taken entries fall below them
falling_distinct : (is : List ℕ) (n : ℕ) → FallingIds is n → IsDistinct nat_eq is
falling_distinct [] n h = none_twice
falling_distinct (i ∷ is) n h = IsDistinct-cons nat_eq i is (recursion_from_All (λ j. nat_eq i j ≡ false) is
    (All-weaker (λ j. j < i) (λ j. nat_eq i j ≡ false) (λ j l. ne_eqb i j (λ e. omega arith)) is (falls_below is i h.1))) (falling_distinct is i h.1)

down_falls : (first count : ℕ) (is : List ℕ) → FallingIds is first → FallingIds (down first count ++ is) (first + count)
down_falls first zero is h = FallingIds-weaker is first (first + 0) (omega arith) h
down_falls first (suc count) is h = (omega arith, down_falls first count is h)

children_distinct : (base count : ℕ) (taken : List ℕ) → FallingIds taken base → IsDistinct nat_eq (down base count ++ reverse taken)
children_distinct base count taken h =
    IsDistinct-IsPermutation nat_eq (λ x y. grind (arith, nat_tests)) (down base count ++ taken) (down base count ++ reverse taken)
    (IsPermutation-append_right (down base count) taken (reverse taken) (IsPermutation-reverse taken))
    (falling_distinct (down base count ++ taken) (base + count) (down_falls base count taken h))

abbrev HasOnce : GraphEntry → Type 0
HasOnce e = IsDistinct nat_eq e.children

all_once : (preserving : Bool) (block : List Shape) → All HasOnce (graph preserving block).nodes
all_once preserving [] = All-nil HasOnce
all_once preserving (s ∷ earlier) =
    let g = graph preserving earlier in
    let missing = replicate (more_of s g) (undef (length earlier)) in
    All-cons HasOnce _ (missing ++ g.nodes)
    (children_distinct (length g.nodes) (more_of s g) (taken_of s g) (taken_falls earlier g (is_graph preserving earlier) s.operands))
    (All-append HasOnce missing g.nodes (All-replicate HasOnce (more_of s g) (undef (length earlier)) none_twice) (all_once preserving earlier))

entry_once : (nodes : List GraphEntry) (p : ℕ) → All HasOnce nodes → HasOnce (entry_at nodes p)
entry_once [] p h = none_twice
entry_once (e ∷ earlier) p h = cond_both (length earlier == p) e (entry_at earlier p) HasOnce
    (λ w. All-head HasOnce e earlier h) (λ w. entry_once earlier p (All-tail HasOnce e earlier h))

pub children_once : (preserving : Bool) (block : List Shape) (p : ℕ) → IsDistinct nat_eq (entry_at (graph preserving block).nodes p).children
children_once preserving block p = entry_once (graph preserving block).nodes p (all_once preserving block)
