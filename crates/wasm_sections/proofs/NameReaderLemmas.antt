-- Each reading function reads what its grammar spells.
use Rattle.std.proofs.Common.{◌≡◌, ℕ, Bool, true, false, cond, List, ◌++◌, Ok, Err, refl, subst}
use Rattle.std.specs.Str.{IsUtf8, is_utf8}
use Rattle.std.proofs.lemmas.Str.{IsUtf8-from_is_utf8, is_utf8-from_IsUtf8}
use Rattle.wasm_code.specs.declared.fault.Cause.{Cause}
use Rattle.wasm_code.specs.declared.fault.Cause.TheVariants.{BadImmediate}
use Rattle.wasm_code.specs.laws.GrammarLemmas.{Reader, Exact, bind_ok, ok_is, exact_of, exact_then, byte_exact, bytes_exact}
use Rattle.wasm_code.specs.laws.NumberExact.{unsigned_exact}
use Rattle.wasm_sections.specs.Names.{SpellsSized, SpellsName, SpellsSubsection, SpellsNaming}
use Rattle.wasm_sections.specs.NameReader.{sized_at, name_text_at, subsection_at, naming_at}

-- the faults are those that reading gives
abbrev pub IsExact : {A : Type 0} → (List ℕ → A → Type 0) → Reader A → Type 0
IsExact Spells at = Exact Spells (λ bytes cause. at bytes ≡ Err cause) at

simply : {A : Type 0} {Spells : List ℕ → A → Type 0} {Fails : List ℕ → Cause → Type 0} {at : Reader A} → Exact Spells Fails at → IsExact Spells at
simply one = record { takes = one.takes; again = one.again; stops = λ bytes cause e. e; fails = λ bytes cause e. e }

pub sized_exact : IsExact SpellsSized sized_at
unfolding sized_at
sized_exact = simply (exact_then (unsigned_exact 32) bytes_exact)

checked : {A : Type 0} (b : Bool) (c : Cause) (x y : A) → cond b (Ok x) (Err c) ≡ Ok y → (b ≡ true) × (x ≡ y)
checked true c x y e = (refl, ok_is x y e)
checked false c x y e = absurd cc

name_takes : (bytes name rest : List ℕ) → name_text_at bytes ≡ Ok (name, rest) → (text : List ℕ) × (bytes ≡ text ++ rest) × SpellsName text name
unfolding name_text_at
name_takes bytes name rest e =
    let a = bind_ok (sized_at bytes) (λ x. cond (is_utf8 x.0) (Ok x) (Err BadImmediate)) (name, rest) e in
    let g = checked (is_utf8 a.0.0) BadImmediate a.0 (name, rest) a.2 in
    let t = sized_exact.takes bytes a.0.0 a.0.1 a.1 in
    subst (λ (x : List ℕ × List ℕ). (text : List ℕ) × (bytes ≡ text ++ x.1) × SpellsName text x.0) g.1
    (t.0, t.1, record { sized = t.2; utf8 = IsUtf8-from_is_utf8 a.0.0 g.0 })

name_again : (text rest name : List ℕ) → SpellsName text name → name_text_at (text ++ rest) ≡ Ok (name, rest)
unfolding name_text_at
name_again text rest name s = rw (sized_exact.again text rest name s.sized, is_utf8-from_IsUtf8 name s.utf8) refl

pub name_exact : IsExact SpellsName name_text_at
name_exact = record { takes = name_takes; again = name_again; stops = λ bytes cause e. e; fails = λ bytes cause e. e }

pub subsection_exact : IsExact SpellsSubsection subsection_at
unfolding subsection_at
subsection_exact = simply (exact_then byte_exact (λ id. exact_of (λ contents. (id, contents)) sized_exact))

pub naming_exact : IsExact SpellsNaming naming_at
unfolding naming_at
naming_exact = simply (exact_then (unsigned_exact 32) (λ index. exact_of (λ name. (index, name)) name_exact))

-- ---- the code

pub name_read : (bytes name rest : List ℕ) → sized_at bytes ≡ Ok (name, rest) → IsUtf8 name → name_text_at bytes ≡ Ok (name, rest)
unfolding name_text_at
name_read bytes name rest e text = rw (e, is_utf8-from_IsUtf8 name text) refl

refused : (name : List ℕ) (b : Bool) → is_utf8 name ≡ b → (IsUtf8 name → ⊥) → is_utf8 name ≡ false
refused name true e none = absurd (none (IsUtf8-from_is_utf8 name e))
refused name false e none = e

pub name_refused : (bytes name rest : List ℕ) → sized_at bytes ≡ Ok (name, rest) → (IsUtf8 name → ⊥) → name_text_at bytes ≡ Err BadImmediate
unfolding name_text_at
name_refused bytes name rest e none = rw (e, refused name (is_utf8 name) refl none) refl
