-- By what the line is.
use Rattle.std.proofs.Common.{refl, sym, ap, subst, ◌∙◌}
use Rattle.rewrite_rules.specs.declared.table.Widths.{Widths}
use Rattle.body_rewrites.specs.Alone.{alone_growth}
use Rattle.body_rewrites.specs.Places.{context_of}
use Rattle.body_rewrites.specs.Rewrites.{MakesBy}
use Rattle.body_rewrites.proofs.MadeLemmas.{if_found}
use Rattle.body_rewrites.proofs.FormLemmas.{form_own, form_alone, growth_told, is_line, some_is, none_is}
use Rattle.body_rewrites.proofs.OwnFindLemmas.{tree_told}
use Rattle.body_rewrites.proofs.AloneLineApplies.{alone_some, alone_none}
use Rattle.body_rewrites.proofs.line_growth.line_growth.Goals as goal

pub returns-in-Own-clause-some : goal.returns-in-Own-clause-some
returns-in-Own-clause-some c =
    let context = context_of c.args.body.now in
    let operators = c.args.body.now.operators.now in
    let line = c.args.asked.now.line in
    let own = form_own line.row line.row.widths c.in-Own.own (sym c.in-Own.is ∙ c.requires.asked.form_is) in
    if_found c.own_growth.result _ _
    (λ kind is.
    let (change, makes, has) = is context refl c.requires.lists in
    record {
      change = change;
      makes = subst (λ (w : Widths). MakesBy context operators line c.args.at change w) (sym own) makes;
      growth_is = growth_told operators c.args.at change kind has;
    }) c.own_growth.ensures.some

pub returns-in-Alone-clause-some : goal.returns-in-Alone-clause-some
returns-in-Alone-clause-some c =
    let context = context_of c.args.body.now in
    let operators = c.args.body.now.operators.now in
    let line = c.args.asked.now.line in
    let (not_own, alone, twice) = form_alone line.row line.row.widths c.in-Alone.doubles (sym c.in-Alone.is ∙ c.requires.asked.form_is) in
    some_is c.alone_growth.result
    (λ kind e. alone_some c.types_are_told.ensures c.holes_are_told.ensures c.table_is_right.ensures line
    (is_line c.args.asked.now.number line c.requires.asked.line not_own) alone context operators c.args.at c.trees_leave.ensures
    c.lefts_are_instances.ensures c.tree_at.result
    (tree_told c.args.body.now.trees.now c.args.at c.tree_at.result c.tree_at.ensures context operators c.requires.lists.trees) kind
    (ap (λ d. alone_growth line.width d c.tree_at.result) (sym twice) ∙ (sym c.alone_growth.ensures ∙ e)))

pub returns-in-Alone-clause-none : goal.returns-in-Alone-clause-none
returns-in-Alone-clause-none c =
    let context = context_of c.args.body.now in
    let operators = c.args.body.now.operators.now in
    let line = c.args.asked.now.line in
    let (not_own, alone, twice) = form_alone line.row line.row.widths c.in-Alone.doubles (sym c.in-Alone.is ∙ c.requires.asked.form_is) in
    none_is c.alone_growth.result
    (λ e. alone_none c.types_are_told.ensures c.holes_are_told.ensures c.table_is_right.ensures line
    (is_line c.args.asked.now.number line c.requires.asked.line not_own) alone context operators c.args.at c.trees_leave.ensures
    c.sides_are_parts.ensures c.parts_are_the_code.ensures c.tree_at.result
    (tree_told c.args.body.now.trees.now c.args.at c.tree_at.result c.tree_at.ensures context operators c.requires.lists.trees)
    (ap (λ d. alone_growth line.width d c.tree_at.result) (sym twice) ∙ (sym c.alone_growth.ensures ∙ e)))
