use Rattle.std.proofs.Common.{◌≡◌, drop}
use Rattle.std.specs.Prelude.{if◌then◌else◌, slice_index}
use Rattle.peephole_graphs.specs.Measures.{colors, size_kept, forward}
use Rattle.peephole_graphs.specs.Span.{lie_behind}
use Rattle.peephole_lang.specs.Term.{numbers_of}
use Rattle.peephole_graphs.proofs.span.lie_one_behind_another.Given as goal

abbrev pub invariant-loop-child : goal.invariant-loop-child
invariant-loop-child l = (if l.skips then forward (size_kept l.subtrees) (slice_index (colors l.entries)) l.at (numbers_of (drop l.child-index l.children))
    else lie_behind (size_kept l.subtrees) l.at (numbers_of (drop l.child-index l.children))) ≡ (if l.skips
    then forward (size_kept l.subtrees) (slice_index (colors l.entries)) l.from (numbers_of l.children)
    else lie_behind (size_kept l.subtrees) l.from (numbers_of l.children))
