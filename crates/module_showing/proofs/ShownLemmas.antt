-- Texts, one behind another.
use Rattle.std.proofs.Common.{ℕ, List, ◌++◌, Option, Some, None, Result, Ok, Err, ap, ◌∙◌, append_assoc}
use Rattle.std.specs.Prelude.{OnOk}
use Rattle.std.specs.Io.KnownBytes.{Appends}

-- one text behind another
pub appends_more : (a b c : Option (List ℕ)) (front own : List ℕ) → Appends a b front → Appends b c own → Appends a c (front ++ own)
appends_more None b c front own h k = tt
appends_more (Some xs) None c front own h k = absurd h
appends_more (Some xs) (Some ys) None front own h k = absurd k
appends_more (Some xs) (Some ys) (Some zs) front own h k = k ∙ (ap (λ (l : List ℕ). l ++ own) h ∙ append_assoc xs front own)

-- what a call leaves where it succeeds
pub ok_map : {X E : Type 0} {P Q : Type 0} (r : Result X E) → (P → Q) → OnOk r P → OnOk r Q
ok_map (Ok x) f h = f h
ok_map (Err e) f h = h
