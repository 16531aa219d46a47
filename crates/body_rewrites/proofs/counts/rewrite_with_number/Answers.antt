-- By the lines of the rule.
use Rattle.std.proofs.Common.{List, length, sym, subst, ◌∙◌}
use Rattle.body_rewrites.specs.declared.asked.Asked.{Asked}
use Rattle.body_rewrites.specs.Asking.{all_asked, AreAsked}
use Rattle.body_rewrites.specs.Counting.{is_of, asked_of}
use Rattle.body_rewrites.specs.Listing.{AreThose, HasGrowth}
use Rattle.body_rewrites.specs.Places.{context_of}
use Rattle.body_rewrites.proofs.AskingLemmas.{is_asked, if_ok}
use Rattle.body_rewrites.proofs.CountingLemmas.{if_some, if_none}
use Rattle.body_rewrites.proofs.CountingBounds.{filter_asked, those_of_lines}
use Rattle.body_rewrites.proofs.counts.rewrite_with_number.Goals as goal

pub find_rewrite-requires-clause-lines : goal.find_rewrite-requires-clause-lines
find_rewrite-requires-clause-lines c =
    subst AreAsked (sym (c.as_slice.ensures.value ∙ c.in_ok-lines.ensures)) (filter_asked (is_of c.args.rule) all_asked is_asked)

pub returns-clause-some : goal.returns-clause-some
returns-clause-some c =
    let context = context_of c.args.body.now in
    let operators = c.args.body.now.operators.now in
    let lines = c.as_slice.ensures.value ∙ c.in_ok-lines.ensures in
    if_ok c.find_rewrite.result
    (λ o. if_some o (λ r found those are. found those
    (subst (λ (list : List Asked). AreThose (HasGrowth context operators c.args.growth) (asked_of list (length operators)) those) (sym lines)
    (those_of_lines context operators c.args.growth c.args.rule (length operators) those are)))) c.find_rewrite.ensures.some

pub returns-clause-none : goal.returns-clause-none
returns-clause-none c =
    let context = context_of c.args.body.now in
    let operators = c.args.body.now.operators.now in
    let lines = c.as_slice.ensures.value ∙ c.in_ok-lines.ensures in
    if_ok c.find_rewrite.result
    (λ o. if_none o (λ few those are. few those
    (subst (λ (list : List Asked). AreThose (HasGrowth context operators c.args.growth) (asked_of list (length operators)) those) (sym lines)
    (those_of_lines context operators c.args.growth c.args.rule (length operators) those are)))) c.find_rewrite.ensures.none
