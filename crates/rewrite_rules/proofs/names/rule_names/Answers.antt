-- Line by line.
use Rattle.std.proofs.Common.{ℕ, List, Vec, sym, ap, ◌∙◌, arith}
use Rattle.std.specs.Prelude.{map}
use Rattle.std.specs.Borrow.{Bor}
use Rattle.std.specs.Global.{Global}
use Rattle.rewrite_rules.proofs.NameLemmas.{names_more, names_same, all_names}
use Rattle.rewrite_rules.proofs.names.rule_names.Goals as goal
use Rattle.rewrite_rules.proofs.names.rule_names.Goals.{in-Some+in_ok-push, in_default}

pub loop-index-preserved : goal.loop-index-preserved
loop-index-preserved c =
    let i = c.loop-index.index in
    let list = c.loop-index.list.items in
    elim c.match-name_at.branch [
      | in-Some+in_ok-push w ↦
          ap (λ (v : Vec (Bor (List ℕ)) Global). map (λ (t : Bor (List ℕ)). t.now) v.items) w.list-is
          ∙ names_more list w.push.new.self.items i _ w.in_ok-push.ensures.items (sym w.in-Some.ensures) c.loop-index.invariant
      | in_default w ↦
          ap (λ (v : Vec (Bor (List ℕ)) Global). map (λ (t : Bor (List ℕ)). t.now) v.items) w.list-is
          ∙ names_same list i (sym w.in_default.ensures) c.loop-index.invariant
    ]

pub returns : goal.returns
returns c = all_names c.loop-index.list.items c.loop-index.index (omega arith) c.loop-index.invariant
