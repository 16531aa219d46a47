-- Grammars that the first byte tells apart (this project).
use Rattle.std.specs.Prelude.{◌≡◌, ℕ, List, [], ◌∷◌, Bool, true, false}
use Rattle.wasm_code.specs.declared.fault.Cause.{Cause}
use Rattle.wasm_code.specs.declared.fault.Cause.TheVariants.{Truncated}
use Rattle.wasm_code.specs.Grammar.{IsCode, FailsCode}

-- the one byte that begins something
abbrev pub IsMark : ℕ → List ℕ → Unit {0} → Type 0
IsMark mark = IsCode (λ _. mark)

-- there is no byte, or another one
abbrev pub FailsMark : ℕ → List ℕ → Cause → Type 0
FailsMark mark = FailsCode {A = Unit {0}} (λ _. mark)

-- one of two statements
abbrev pub OneOf : Bool → Type 0 → Type 0 → Type 0
OneOf true Yes No = Yes
OneOf false Yes No = No

-- A first byte that passes the test, and behind it what that byte asks for; or what begins with another byte.
abbrev pub ByFirst : {A : Type 0} → (ℕ → Bool) → (ℕ → List ℕ → A → Type 0) → (List ℕ → A → Type 0) → List ℕ → A → Type 0
ByFirst test Behind Other [] x = ⊥
ByFirst test Behind Other (b ∷ text) x = OneOf (test b) (Behind b text x) (Other (b ∷ text) x)

-- There is no byte, or what the first one asks for fails.
abbrev pub FailsByFirst : (ℕ → Bool) → (ℕ → List ℕ → Cause → Type 0) → (List ℕ → Cause → Type 0) → List ℕ → Cause → Type 0
FailsByFirst test FailsBehind FailsOther [] cause = cause ≡ Truncated
FailsByFirst test FailsBehind FailsOther (b ∷ bytes) cause = OneOf (test b) (FailsBehind b bytes cause) (FailsOther (b ∷ bytes) cause)
