-- An entry's parent, from a test whether there is none.
use Rattle.std.proofs.Common.{◌≡◌, ℕ, Bool, true, false, Option, Some, None, refl}
use Rattle.std.specs.Prelude.{is_some, not}
use Rattle.std.proofs.lemmas.Bool.{true≢false, false≢true}

pub no_parent : (q : Option ℕ) (b : Bool) → is_some q ≡ not b → b ≡ true → q ≡ None
no_parent None b e t = refl
no_parent (Some p) b e t = absurd (true≢false (rw t at e))

pub some_parent : (q : Option ℕ) (b : Bool) → is_some q ≡ not b → b ≡ false → (p : ℕ) × (q ≡ Some p)
some_parent (Some p) b e t = (p, refl)
some_parent None b e t = absurd (false≢true (rw t at e))
