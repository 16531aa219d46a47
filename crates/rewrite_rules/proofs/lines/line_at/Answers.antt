use Rattle.std.proofs.Common.{◌∙◌}
use Rattle.rewrite_rules.proofs.FindingLemmas.{found}
use Rattle.rewrite_rules.proofs.lines.line_at.Goals as goal

pub returns : goal.returns
returns c =
    let part = c.part_of-part in
    c.line_of.ensures ∙ found part.result c.args.number part.ensures.inside part.ensures.begins part.ensures.ends
