use Rattle.std.proofs.Common.{◌≡◌, ℕ, ◌+◌, ◌<◌, ◌≤◌, List, refl, sym, ap, ◌∙◌, arith}
use Rattle.std.specs.Prelude.{slice_get}
use Rattle.std.proofs.lemmas.Bool.{true_from_ne_false}
use Rattle.std.proofs.lemmas.Option.{same_Some}
use Rattle.peephole_graphs.specs.Block.{BlockRange, HasNoDelimiter, IsDelimiterAt, IsBlockOf}
use Rattle.peephole_graphs.proofs.BlockLemmas.{block_is_in}
use Rattle.wasm_code.specs.Operator.{is_delimiter}
use Rattle.wasm_code.specs.declared.operator.Operator.{Operator}
use Rattle.peephole_graphs.proofs.block.BBlock.of_operator.Goals as goal

delimiter : (operators : List (Operator × ℕ)) (index start : ℕ) → index < start →
    ((from : ℕ) → HasNoDelimiter operators from (index + 1) → start ≤ from) → IsDelimiterAt operators index
delimiter operators index start l longest o e = true_from_ne_false (is_delimiter o.0) (λ f. absurd (
    let h = longest index (λ k p a b s. let w : k ≡ index = omega arith in ap (λ (x : Operator × ℕ). is_delimiter x.0)
    (sym (same_Some o p (sym e ∙ (ap (slice_get operators) (sym w) ∙ s)))) ∙ f) in omega arith))

pub returns-then-start-index-clause-none : goal.returns-then-start-index-clause-none
returns-then-start-index-clause-none c = delimiter c.args.operators.now c.args.index _ c.if-start-index.true c.block_start-start.ensures.longest

block_is : (operators : List (Operator × ℕ)) (index start : ℕ) (b : BlockRange) → b ≡ record { start = start; end = index + 1 } →
    start ≤ index → HasNoDelimiter operators start (index + 1) → ((from : ℕ) → HasNoDelimiter operators from (index + 1) → start ≤ from) →
    IsBlockOf operators index b.start b.end
block_is operators index start b e l none longest = rw e (record { last = refl; some = l; none = none; longest = longest })

pub returns-clause-block : goal.returns-clause-block
returns-clause-block c = block_is _ _ _ _ c.between.ensures c.if-start-index.false c.block_start-start.ensures.none c.block_start-start.ensures.longest

pub returns-clause-inside : goal.returns-clause-inside
returns-clause-inside c = block_is_in _ _ _ c.requires
    (block_is _ _ _ _ c.between.ensures c.if-start-index.false c.block_start-start.ensures.none c.block_start-start.ensures.longest)
