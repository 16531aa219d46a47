-- A step down.
use Rattle.std.proofs.Common.{◌≡◌, ℕ, zero, suc, ◌+◌, ◌-◌, ◌<◌, ◌++◌, ◌∷◌, [], List, refl, sym, ap, arith, append_assoc}
use Rattle.std.proofs.lemmas.List.{map_push}
use Rattle.peephole_graphs.specs.Step.{down}
use Rattle.peephole_lang.specs.Term.{numbers_of}
use Rattle.peephole_nodes.specs.declared.id.Id.{Id}
use Rattle.peephole_graphs.proofs.growing.push_missing.Goals as goal

down_step : (b l : ℕ) → 0 < l → down b l ≡ (b + (l - 1)) ∷ down b (l - 1)
down_step b zero h = absurd (omega arith)
down_step b (suc l) h = let e : suc l - 1 ≡ l = omega arith in sym (ap (λ x. (b + x) ∷ down b x) e)

step : (ids ids' : List Id) (i : Id) (b l : ℕ) (all : List ℕ) → ids' ≡ ids ++ i ∷ [] → i.0 ≡ b + (l - 1) → 0 < l →
    numbers_of ids ++ down b l ≡ all → numbers_of ids' ++ down b (l - 1) ≡ all
step ids ids' i b l all e n h f =
    let pushed = map_push (λ (i : Id). i.0) ids i in
    let below = down_step b l h in
    grind (arith, append_assoc (numbers_of ids) (i.0 ∷ []) (down b (l - 1)))

pub loop-left-preserved : goal.loop-left-preserved
loop-left-preserved c = (
  step c.loop-left.ids.items c.push.new.self.items (record { 0 = c.args.base + (c.loop-left.left - 1) }) c.args.base c.loop-left.left
      (numbers_of c.args.ids.now.items ++ down c.args.base c.args.missing)
      c.in_ok-push.ensures.items refl (omega arith) c.loop-left.invariant.0,
  omega arith,
)
