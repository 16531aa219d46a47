-- Texts, one behind another.
use Rattle.std.proofs.Common.{◌≡◌, ℕ, suc, ◌+◌, ◌-◌, ◌≤◌, List, [], ◌++◌, Option, Some, None, Result, Ok, Err, refl, sym, ap, ◌∙◌, subst}
use Rattle.std.proofs.Common.{append_assoc, append-nil, arith}
use Rattle.std.specs.Prelude.{OnOk}
use Rattle.std.specs.Io.KnownBytes.{Appends}
use Rattle.module_commands.specs.Lists.{InTurn}

-- nothing was written
pub appends_nothing : (a : Option (List ℕ)) → Appends a a []
appends_nothing None = tt
appends_nothing (Some xs) = sym (append-nil xs)

-- one text behind another
pub appends_more : (a b c : Option (List ℕ)) (front own : List ℕ) → Appends a b front → Appends b c own → Appends a c (front ++ own)
appends_more None b c front own h k = tt
appends_more (Some xs) None c front own h k = absurd h
appends_more (Some xs) (Some ys) None front own h k = absurd k
appends_more (Some xs) (Some ys) (Some zs) front own h k = k ∙ (ap (λ (l : List ℕ). l ++ own) h ∙ append_assoc xs front own)

-- one text more
pub turn_more : (Tells : ℕ → List ℕ → Type 0) (from n : ℕ) (front own : List ℕ) → from ≤ n → InTurn Tells from (n - from) front → Tells n own →
    InTurn Tells from ((n + 1) - from) (front ++ own)
turn_more Tells from n front own l h k =
    let count : suc (n - from) ≡ (n + 1) - from = omega arith in
    let place : n ≡ from + (n - from) = omega arith in
    subst (λ (c : ℕ). InTurn Tells from c (front ++ own)) count (front, own, refl, h, subst (λ (m : ℕ). Tells m own) place k)

-- the same from the first one on
pub turn_next : (Tells : ℕ → List ℕ → Type 0) (n : ℕ) (front own : List ℕ) → InTurn Tells 0 n front → Tells n own → InTurn Tells 0 (n + 1) (front ++ own)
turn_next Tells n front own h k =
    let count : suc n ≡ n + 1 = omega arith in
    let place : n ≡ 0 + n = omega arith in
    subst (λ (c : ℕ). InTurn Tells 0 c (front ++ own)) count (front, own, refl, h, subst (λ (m : ℕ). Tells m own) place k)

-- what a call leaves where it succeeds
pub ok_map : {X E : Type 0} {P Q : Type 0} (r : Result X E) → (P → Q) → OnOk r P → OnOk r Q
ok_map (Ok x) f h = f h
ok_map (Err e) f h = h
