-- What words choose makes something, and does one of the wanted things.
use Rattle.std.proofs.Common.{◌≡◌, ℕ, zero, suc, List, [], ◌∷◌, length, Some, inl, inr, sym, ap, subst, ◌∙◌}
use Rattle.std.specs.Prelude.{Contains, slice_get}
use Rattle.rand_core.specs.Stream.{Stream}
use Rattle.wasm_execution.specs.Values.{Context}
use Rattle.rewrite_rules.specs.declared.rule.Rule.{Rule}
use Rattle.body_rewrites.specs.declared.growth.Growth.{Growth}
use Rattle.body_rewrites.specs.declared.rewrite.Rewrite.{Rewrite}
use Rattle.body_rewrites.specs.Choice.{Chooses, HasOpen, IsOf, IsOpen}
use Rattle.body_rewrites.specs.Listing.{AreThose, IsWantedBy}
use Rattle.body_rewrites.specs.Rewrites.{IsMade, asked_below}
use Rattle.body_rewrites.specs.ThoseLemmas.{head_contained, tail_contained}
use Rattle.body_rewrites.proofs.StandsLemmas.{Operators}

one_of : {A : Type 0} (P : A → Type 0) (items those : List A) → AreThose P items those → (k : ℕ) (x : A) → slice_get those k ≡ Some x → P x
one_of P [] those e k x at = absurd (let none = ap (λ l. slice_get l k) e in cc)
one_of P (y ∷ ys) those (inr (n, rest)) k x at = one_of P ys those rest k x at
one_of P (y ∷ ys) those (inl (p, more, is, rest)) zero x at =
    let same : y ≡ x = (let e = sym (ap (λ l. slice_get l 0) is) ∙ at in cc) in
    subst P same p
one_of P (y ∷ ys) those (inl (p, more, is, rest)) (suc k) x at =
    one_of P ys more rest k x (sym (ap (λ l. slice_get l (suc k)) is) ∙ at)

one_item : {A : Type 0} (P : A → Type 0) (items those : List A) → AreThose P items those → (k : ℕ) (x : A) → slice_get those k ≡ Some x → Contains items x
one_item P [] those e k x at = absurd (let none = ap (λ l. slice_get l k) e in cc)
one_item P (y ∷ ys) those (inr (n, rest)) k x at = tail_contained y ys x (one_item P ys those rest k x at)
one_item P (y ∷ ys) those (inl (p, more, is, rest)) zero x at =
    let same : y ≡ x = (let e = sym (ap (λ l. slice_get l 0) is) ∙ at in cc) in
    subst (Contains (y ∷ ys)) same (head_contained y ys)
one_item P (y ∷ ys) those (inl (p, more, is, rest)) (suc k) x at =
    tail_contained y ys x (one_item P ys more rest k x (sym (ap (λ l. slice_get l (suc k)) is) ∙ at))

pub chosen_is_wanted : (context : Context) (stream : Stream) (rules : List Rule) (wanted : List Growth) (operators : Operators) (r : Rewrite) →
    Chooses context stream rules wanted operators r → IsWantedBy context operators rules wanted r
chosen_is_wanted context stream rules wanted operators r c =
    let one = c.draws_rewrite in
    let own = c.draws_rule in
    let kind = c.draws_growth in
    let is = one_of (IsOf context operators c.growth c.rule) (asked_below (length operators)) one.those one.are _ r one.is in
    record {
      growth = c.growth;
      listed = one_item (HasOpen context operators rules) wanted kind.those kind.are _ c.growth kind.is;
      has = is.0;
      of_rule = (c.rule, one_item (IsOpen context operators c.growth) rules own.those own.are _ c.rule own.is, is.1);
    }

pub chosen_is_made : (context : Context) (stream : Stream) (rules : List Rule) (wanted : List Growth) (operators : Operators) (r : Rewrite) →
    Chooses context stream rules wanted operators r → IsMade context operators r
chosen_is_made context stream rules wanted operators r c =
    let is = chosen_is_wanted context stream rules wanted operators r c in
    (is.has.change, is.has.made)
