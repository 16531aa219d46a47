use Rattle.std.proofs.Common.{length, drop}
use Rattle.std.proofs.lemmas.Bool.Decides.{Decides-eqb}
use Rattle.std.proofs.lemmas.Slice.Eq.{starts_is}
use Rattle.wasm_sections.proofs.debug.begins_with.Goals as goal

pub returns : goal.returns
returns c =
    let name = c.args.name.now in
    let front = c.args.front.now in
    let is = starts_is Decides-eqb name front c.starts_with.result c.starts_with.ensures.value in
    (λ t. (drop (length front) name, is.0 t), λ b. is.1 b.0 b.1)
