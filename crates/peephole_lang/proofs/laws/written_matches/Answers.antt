use Rattle.std.proofs.Common.{length, sym, ap, ◌∙◌}
use Rattle.peephole_lang.proofs.laws.written_matches.Goals as goal

pub returns : goal.returns
returns g c = λ l w e.
    (g.met.L.Language.matches_exactly l (g.L.Language.with_ids l w)).1
    (sym (g.met.L.Language.keeps_head l w), sym e ∙ ap length (sym (g.met.L.Language.has_written l w e)))
