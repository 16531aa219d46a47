use Rattle.std.proofs.Common.{List, ℕ, [], Option, ap, ◌∙◌}
use Rattle.std.specs.Prelude.{slice_get}
use Rattle.std.specs.Option.{unwrap_or}
use Rattle.std.proofs.lemmas.Option.{slice_get-map}
use Rattle.peephole_nodes.specs.Variants.{variants}
use Rattle.peephole_nodes.specs.Fronts.{variant_front_of}
use Rattle.peephole_nodes.proofs.FrontLemmas.{same_fronts}
use Rattle.peephole_nodes.proofs.fronts.front_at.Goals as goal

pub returns : goal.returns
returns c =
    c.front_in.ensures
    ∙ ap (λ (fronts : List (List ℕ)). unwrap_or (slice_get fronts c.args.place) []) same_fronts
    ∙ ap (λ (front : Option (List ℕ)). unwrap_or front []) (slice_get-map variant_front_of variants c.args.place)
