-- Labels of one byte, as they are spelled.
use Rattle.std.proofs.Common.{◌≡◌, ℕ, ◌<◌, ◌≤◌, ◌+◌, ◌%◌, ◌/◌, [], ◌∷◌, sym, ap, ap₂, ◌∙◌, arith}
use Rattle.std.specs.Prelude.{if◌then◌else◌, Bool}
use Rattle.std.proofs.lemmas.Bool.{lt-ltb, le-ltb}
use Rattle.wasm_code.specs.Code.{shortest, shortest_within}

-- one byte
pub one_byte : (label : ℕ) → label < 128 → label ∷ [] ≡ shortest label
unfolding shortest shortest_within
one_byte label h = sym (ap (λ (b : Bool). if b then label ∷ [] else (label % 128 + 128) ∷ shortest_within 8 (label / 128)) (lt-ltb label 128 h))

-- two, of which the first is the label
pub two_bytes : (label : ℕ) → 128 ≤ label → label < 256 → label ∷ 1 ∷ [] ≡ shortest label
unfolding shortest shortest_within
two_bytes label l h =
    sym (ap (λ (b : Bool). if b then label ∷ [] else (label % 128 + 128) ∷ shortest_within 8 (label / 128)) (le-ltb label 128 l)
    ∙ ap₂ (λ (x y : ℕ). x ∷ shortest_within 8 y) (let e : label % 128 + 128 ≡ label = omega arith in e) (let e : label / 128 ≡ 1 = omega arith in e))
