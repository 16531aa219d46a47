-- Words for grammars over bytes (this project): what a list of bytes spells, and why bytes begin with no spelling.
use Rattle.std.specs.Prelude.{◌≡◌, ◌≢◌, ◌⊎◌, ℕ, zero, suc, ◌<◌, List, [], ◌∷◌, ◌++◌, length, Bool, true, false}
use Rattle.wasm_code.specs.declared.fault.Cause.{Cause}
use Rattle.wasm_code.specs.declared.fault.Cause.TheVariants.{Truncated, BadImmediate}

-- `Spells text x`: the bytes, all of them, spell x.
-- `Fails bytes cause`: no spelling begins the bytes, for that cause.

-- one byte, whichever it is
abbrev pub IsByte : List ℕ → ℕ → Type 0
IsByte text b = text ≡ b ∷ []

-- there is no byte
abbrev pub LacksByte : List ℕ → Cause → Type 0
LacksByte bytes cause = (bytes ≡ []) × (cause ≡ Truncated)

-- so many bytes, whichever they are
abbrev pub AreBytes : ℕ → List ℕ → List ℕ → Type 0
AreBytes n text bytes = (length text ≡ n) × (text ≡ bytes)

-- there are fewer bytes
abbrev pub LacksBytes : ℕ → List ℕ → Cause → Type 0
LacksBytes n bytes cause = (length bytes < n) × (cause ≡ Truncated)

-- the one byte that stands for x
abbrev pub IsCode : {A : Type 0} → (A → ℕ) → List ℕ → A → Type 0
IsCode code text x = text ≡ code x ∷ []

-- there is no byte, or the first one stands for nothing
abbrev pub FailsCode : {A : Type 0} → (A → ℕ) → List ℕ → Cause → Type 0
FailsCode {A} code [] cause = cause ≡ Truncated
FailsCode {A} code (b ∷ bytes) cause = (cause ≡ BadImmediate) × ((x : A) → code x ≢ b)

-- no bytes, for x
abbrev pub NoBytes : {A : Type 0} → A → List ℕ → A → Type 0
NoBytes x text y = (text ≡ []) × (x ≡ y)

-- that never fails
abbrev pub NeverFails : List ℕ → Cause → Type 0
NeverFails bytes cause = ⊥

-- nothing is spelled so
abbrev pub Never : {A : Type 0} → List ℕ → A → Type 0
Never text y = ⊥

-- that always fails: what stands before the bytes names nothing
abbrev pub NamesNothing : List ℕ → Cause → Type 0
NamesNothing bytes cause = cause ≡ BadImmediate

-- a spelling of some value, of which f makes y
pub record Of {A B : Type 0} (f : A → B) (Spells : List ℕ → A → Type 0) (text : List ℕ) (y : B) : Type 0 where
  pub value : A
  pub spells : Spells text value
  pub made : f value ≡ y

-- one of two grammars
abbrev pub Choose : {A : Type 0} → Bool → (List ℕ → A → Type 0) → (List ℕ → A → Type 0) → List ℕ → A → Type 0
Choose true Yes No text y = Yes text y
Choose false Yes No text y = No text y

-- a spelling of some value, and behind it what that value asks for
pub record Then {A B : Type 0} (First : List ℕ → A → Type 0) (Second : A → List ℕ → B → Type 0) (text : List ℕ) (y : B) : Type 0 where
  pub value : A
  pub front : List ℕ
  pub back : List ℕ
  pub parts : text ≡ front ++ back
  pub first : First front value
  pub second : Second value back y

-- a spelling of some value begins the bytes, and what that value asks for fails behind it
pub record FailsBehind {A : Type 0} (First : List ℕ → A → Type 0) (FailsSecond : A → List ℕ → Cause → Type 0) (bytes : List ℕ) (cause : Cause) : Type 0 where
  pub value : A
  pub front : List ℕ
  pub back : List ℕ
  pub parts : bytes ≡ front ++ back
  pub first : First front value
  pub second : FailsSecond value back cause

-- the first part fails, or the second part behind it
abbrev pub FailsThen : {A : Type 0} → (List ℕ → Cause → Type 0) → (List ℕ → A → Type 0) → (A → List ℕ → Cause → Type 0) → List ℕ → Cause → Type 0
FailsThen FailsFirst First FailsSecond bytes cause = FailsFirst bytes cause ⊎ FailsBehind First FailsSecond bytes cause

-- how the one fails that `Choose` takes of two grammars
abbrev pub FailsChosen : Bool → (List ℕ → Cause → Type 0) → (List ℕ → Cause → Type 0) → List ℕ → Cause → Type 0
FailsChosen true Yes No bytes cause = Yes bytes cause
FailsChosen false Yes No bytes cause = No bytes cause

-- so many spellings one after another, whose values aren't kept
abbrev pub Times : {A : Type 0} → ℕ → (List ℕ → A → Type 0) → List ℕ → Unit {0} → Type 0
Times zero Spells = NoBytes tt
Times (suc n) Spells = Then Spells (λ _. Times n Spells)

-- one of them fails behind those before it
abbrev pub FailsTimes : {A : Type 0} → ℕ → (List ℕ → Cause → Type 0) → (List ℕ → A → Type 0) → List ℕ → Cause → Type 0
FailsTimes zero Fails Spells = NeverFails
FailsTimes (suc n) Fails Spells = FailsThen Fails Spells (λ _. FailsTimes n Fails Spells)
