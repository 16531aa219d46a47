use Rattle.std.proofs.Common.{◌≡◌, ap, ◌∙◌, lit<}
use Rattle.std.specs.Cmp.Lexicographic.{slice_cmp}
use Rattle.std.specs.Ordering.{nat_cmp}
use Rattle.std.proofs.lemmas.Str.Pattern.{ends_char, starts_text}
use Rattle.peephole_lang.specs.Fronts.{front_order}
use Rattle.peephole_lang.specs.laws.FrontLemmas.{front_equal, stands_without_dot, stands_elsewhere}
use Rattle.peephole_lang.proofs.names.compare.Goals as goal
use Rattle.peephole_lang.proofs.names.compare.Goals.{else-ends_with-via-then-ends_with+else-starts_with, else-ends_with-via-else-ends_with}

pub returns-then-starts_with : goal.returns-then-starts_with
returns-then-starts_with c =
    let dot = ends_char 46 _ _ c.ends_with.ensures.cases (lit< tt) in
    front_equal _ _ _ dot _ (starts_text _ _ _ c.starts_with.ensures.cases) c.if-ends_with.true c.if-starts_with.true
    ∙ ap (λ front. front_order front c.args.text.now) c.front_at-front.ensures

pub returns-else-ends_with : goal.returns-else-ends_with
returns-else-ends_with c =
    let dot = ends_char 46 _ _ c.ends_with.ensures.cases (lit< tt) in
    let front = c.front_at-front.result.now in
    let stands : slice_cmp nat_cmp front c.args.text.now ≡ front_order front c.args.text.now = elim c.else-ends_with.branch [
      | else-ends_with-via-then-ends_with+else-starts_with w ↦
          stands_elsewhere _ _ _ dot _ (starts_text _ _ _ w.starts_with.ensures.cases) w.if-starts_with.false
      | else-ends_with-via-else-ends_with w ↦ stands_without_dot _ _ _ dot w.if-ends_with.false
    ] in
    c.cmp.ensures ∙ stands ∙ ap (λ front. front_order front c.args.text.now) c.front_at-front.ensures
