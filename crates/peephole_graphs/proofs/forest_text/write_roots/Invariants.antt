use Rattle.std.proofs.Common.{Ok, string_bytes}
use Rattle.peephole_graphs.specs.ForestText.{AnswersAmong, HasLines}
use Rattle.peephole_graphs.proofs.text.ForestWalk.{first_lines}
use Rattle.peephole_graphs.proofs.forest_text.write_roots.Given as goal

abbrev pub invariant-loop-index : goal.invariant-loop-index
invariant-loop-index g l =
    HasLines (AnswersAmong g.F.Fn l.f l.entries) (string_bytes l.fn.text) (first_lines l.entries l.parents l.index) (Ok (string_bytes l.text))
