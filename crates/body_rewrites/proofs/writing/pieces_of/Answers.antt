-- The next part is the first one of those that are left.
use Rattle.std.proofs.Common.{◌≡◌, ℕ, suc, ◌+◌, ◌<◌, List, [], ◌∷◌, ◌++◌, drop, map, length, get_or, Some, sym, ap, ap₂, ◌∙◌, subst, append_assoc, arith}
use Rattle.std.specs.List.{All}
use Rattle.std.proofs.Math.Seq.{drop-cons}
use Rattle.std.proofs.lemmas.List.Elements.{All-head, All-tail}
use Rattle.wasm_execution.specs.declared.integer.IntegerType.{IntegerType}
use Rattle.rewrite_rules.specs.declared.pattern.Part.{Part}
use Rattle.rewrite_rules.specs.declared.table.Step.{Step}
use Rattle.rewrite_rules.specs.declared.table.Step.TheVariants.{Operand}
use Rattle.rewrite_rules.specs.Table.{part_for, up_to_none, parts_for, PartIsInstruction}
use Rattle.rewrite_rules.specs.Numbers.{constant_at}
use Rattle.rewrite_rules.specs.Parts.{draws}
use Rattle.body_rewrites.specs.Writing.{piece_for, side_pieces}
use Rattle.body_rewrites.proofs.writing.pieces_of.Goals as goal

next_part : (t : IntegerType) (steps : List Step) (i : ℕ) (p : Part) → i < length steps → part_for t (get_or steps i (Operand 0)) ≡ Some p →
    parts_for t (drop i steps) ≡ p ∷ parts_for t (drop (suc i) steps)
next_part t steps i p l e =
    ap (parts_for t) (drop-cons steps i (Operand 0) l) ∙ ap (λ o. up_to_none (o ∷ map (part_for t) (drop (suc i) steps))) e

pub piece_of-requires : goal.piece_of-requires
piece_of-requires c =
    All-head PartIsInstruction c.in-Some.part (parts_for c.args.width (drop (suc c.loop-i.i) c.args.side.now))
    (subst (All PartIsInstruction)
    (next_part c.args.width c.args.side.now c.loop-i.i c.in-Some.part (omega (arith, c.loop-i-test.true, c.told-side)) (sym c.part.ensures ∙ c.in-Some.is))
    c.loop-i.invariant.2)

pub loop-i-preserved : goal.loop-i-preserved
loop-i-preserved c =
    let next : suc c.loop-i.i ≡ c.loop-i.i + 1 = omega arith in
    let width = c.args.width in
    let side = c.args.side.now in
    let part = c.in-Some.part in
    let old = c.loop-i.pieces.items in
    let pieces = λ (words : List ℕ) (parts : List Part). side_pieces c.args.place.now.operands (constant_at c.args.place.now.numbers) words parts in
    let here = piece_for c.args.place.now.operands (constant_at c.args.place.now.numbers) c.loop-i.words.now part in
    let rest = pieces (drop (draws part) c.loop-i.words.now) (parts_for width (drop (suc c.loop-i.i) side)) in
    let parts =
    next_part width side c.loop-i.i part (omega (arith, c.loop-i-test.true, c.told-side)) (sym c.part.ensures ∙ c.in-Some.is) in (
      c.loop-i.invariant.0
          ∙ (ap (λ ps. old ++ pieces c.loop-i.words.now ps) parts
          ∙ (sym (append_assoc old (here ∷ []) rest)
          ∙ ap₂ (λ a b. a ++ b) (ap (λ p. old ++ p ∷ []) (sym c.piece_of.ensures) ∙ sym c.push.ensures.items)
          (ap₂ (λ words i. pieces words (parts_for width (drop i side))) (sym c.words_after-words.ensures) next))),
      omega (arith, c.push.ensures.len, c.loop-i.invariant.1),
      subst (λ i. All PartIsInstruction (parts_for width (drop i side))) next
          (All-tail PartIsInstruction part (parts_for width (drop (suc c.loop-i.i) side)) (subst (All PartIsInstruction) parts c.loop-i.invariant.2)),
    )
