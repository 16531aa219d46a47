use Rattle.std.proofs.Common.{◌<◌}
use Rattle.std.proofs.lemmas.List.Elements.{All-map}
use Rattle.peephole_nodes.specs.declared.id.Id.{Id}
use Rattle.peephole_tests.proofs.terms.are_below.Goals as goal

pub returns : goal.returns
returns c h = All-map (λ k. k < c.args.place) (λ (id : Id). id.0) c.args.children.now (c.are_ids_below.ensures h)
