-- The loops that pass over so many indices or fields.
use Rattle.std.proofs.Common.{◌≡◌, ℕ, suc, ◌+◌, ◌-◌, ◌<◌, ◌≤◌, List, Ok, Err, refl, arith}
use Rattle.wasm_code.specs.declared.fault.Cause.{Cause}
use Rattle.wasm_code.specs.Reader.{times_at}
use Rattle.wasm_code.specs.laws.GrammarLemmas.{Reader}

pub goes_on : {A : Type 0} (at : Reader A) (count i : ℕ) (bytes after : List ℕ) (x : A) → i < count → at bytes ≡ Ok (x, after) →
    times_at (count - i) at bytes ≡ times_at (count - (i + 1)) at after
unfolding times_at
goes_on at count i bytes after x lt e =
    let k : count - i ≡ suc (count - (i + 1)) = omega arith in
    rw (k, e) refl

pub fails : {A : Type 0} (at : Reader A) (count i : ℕ) (bytes : List ℕ) (cause : Cause) → i < count → at bytes ≡ Err cause →
    times_at (count - i) at bytes ≡ Err cause
unfolding times_at
fails at count i bytes cause lt e =
    let k : count - i ≡ suc (count - (i + 1)) = omega arith in
    rw (k, e) refl

pub done : {A : Type 0} (at : Reader A) (count i : ℕ) (bytes : List ℕ) → count ≤ i → times_at (count - i) at bytes ≡ Ok (tt, bytes)
unfolding times_at
done at count i bytes le = let k : count - i ≡ 0 = omega arith in rw k refl
