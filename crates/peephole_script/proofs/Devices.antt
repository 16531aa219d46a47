-- What one read after another consumes.
use Rattle.std.proofs.Common.{ℕ, List, ◌++◌, sym, ◌∙◌, ap, append_assoc, Some, None}
use Rattle.std.specs.Prelude.{Option}
use Rattle.std.specs.Io.KnownBytes.{Consumes}

pub consumes_append : (a b c : Option (List ℕ)) (xs ys : List ℕ) → Consumes a b xs → Consumes b c ys → Consumes a c (xs ++ ys)
consumes_append None b c xs ys h k = tt
consumes_append (Some us) None c xs ys h k = absurd h
consumes_append (Some us) (Some vs) None xs ys h k = absurd k
consumes_append (Some us) (Some vs) (Some ws) xs ys h k = h ∙ (ap (λ t. xs ++ t) k ∙ sym (append_assoc xs ys ws))
