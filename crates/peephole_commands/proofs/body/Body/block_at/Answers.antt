use Rattle.std.proofs.Common.{◌≡◌, ℕ, ◌<◌, List, length, Option, Some, None, sym, ap, ◌∙◌}
use Rattle.std.specs.Prelude.{IfSome, IfNone}
use Rattle.wasm_code.specs.declared.operator.Operator.{Operator}
use Rattle.peephole_graphs.specs.Block.{BlockRange, IsBlockOf, IsDelimiterAt, FindsTheBlock, FindsNoBlock, block_at}
use Rattle.peephole_commands.specs.Body.{Contents}
use Rattle.peephole_commands.proofs.body.Body.block_at.Goals as goal

block_found : (os : List (Operator × ℕ)) (n : ℕ) (found : Option BlockRange) → n < length os → FindsTheBlock → FindsNoBlock →
    IfSome found (λ b. IsBlockOf os n b.start b.end) → IfNone found (IsDelimiterAt os n) → found ≡ block_at os n
block_found os n None l block none h k = sym ((none os n l).1 k)
block_found os n (Some b) l block none h k = sym ((block os n b).1 h)

pub returns : goal.returns
returns c =
    let same : c.as_slice.result.now ≡ c.args.self.now.operators = c.as_slice.ensures.value ∙ ap (λ (b : Contents). b.operators) c.self.view_is in
    let laws = c.blocks_are_found.ensures in
    let said = c.of_operator.ensures in
    rw same at (block_found c.as_slice.result.now c.args.point c.of_operator.result (rw same c.requires) laws.block laws.none said.block said.none)
