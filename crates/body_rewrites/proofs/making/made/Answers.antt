-- By what the row is.
use Rattle.std.proofs.Common.{refl, sym, subst, ◌∙◌}
use Rattle.rewrite_rules.specs.declared.table.Widths.{Widths}
use Rattle.body_rewrites.specs.Places.{context_of}
use Rattle.body_rewrites.specs.Rewrites.{MakesBy}
use Rattle.body_rewrites.proofs.MadeLemmas.{if_found}
use Rattle.body_rewrites.proofs.making.made.Goals as goal

pub returns-in-Own-clause-some : goal.returns-in-Own-clause-some
returns-in-Own-clause-some c =
    if_found c.own_code.result _ _
    (λ code is.
    let (change, own, written) = is (context_of c.args.body.now) refl c.requires.lists in
    record {
      change = change;
      makes = subst (λ (w : Widths). MakesBy (context_of c.args.body.now) c.args.body.now.operators.now c.args.line.now c.args.at change w)
          (sym c.in-Own.is ∙ c.widths.ensures) own;
      written = written;
    }) c.own_code.ensures.some
