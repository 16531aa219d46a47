-- The first pair with a key, among those that bytes spell one after another.
use Rattle.std.proofs.Common.{◌≡◌, ℕ, ◌+◌, List, [], ◌∷◌, length, Ok, Err, refl, sym, ap, subst, ◌∙◌, arith}
use Rattle.wasm_code.specs.declared.fault.Cause.{Cause}
use Rattle.wasm_code.specs.laws.GrammarLemmas.{Reader, ok_is}
use Rattle.wasm_sections.specs.Names.{PairIsNext, LeadsTo}
use Rattle.wasm_sections.proofs.NameReaderLemmas.{IsExact}

-- the first value with the key stands behind so many pairs
pub record GoesOn (Spells : List ℕ → ℕ × List ℕ → Type 0) (key : ℕ) (value text : List ℕ) (number : ℕ) : Type 0 where
  pub before : List (ℕ × List ℕ)
  pub count : length before ≡ number
  pub leads : LeadsTo Spells key before text value

-- the rest stands behind so many pairs, none of which has the key: the first value is the same, and so many pairs nearer
pub record IsBehind (Spells : List ℕ → ℕ × List ℕ → Type 0) (key number : ℕ) (bytes rest : List ℕ) : Type 0 where
  pub to : (value : List ℕ) (n : ℕ) → GoesOn Spells key value bytes n → (m : ℕ) × (n ≡ number + m) × GoesOn Spells key value rest m
  pub from : (value : List ℕ) (m : ℕ) → GoesOn Spells key value rest m → GoesOn Spells key value bytes (number + m)

-- what is read is what is spelled first
next_is : {Spells : List ℕ → ℕ × List ℕ → Type 0} {Rest : List ℕ → Type 0} {at : Reader (ℕ × List ℕ)} → IsExact Spells at →
    (bytes rest : List ℕ) (one other : ℕ × List ℕ) → at bytes ≡ Ok (one, rest) → PairIsNext Spells Rest bytes other → (one ≡ other) × Rest rest
next_is {Spells} {Rest} {at} exact bytes rest one other e n =
    let again = exact.again n.front n.back other n.spelled in
    let same = ok_is (one, rest) (other, n.back) (sym e ∙ ap at n.parts ∙ again) in
    (ap (λ (x : (ℕ × List ℕ) × List ℕ). x.0) same, subst Rest (sym (ap (λ (x : (ℕ × List ℕ) × List ℕ). x.1) same)) n.rest)

pub first_is : {Spells : List ℕ → ℕ × List ℕ → Type 0} {at : Reader (ℕ × List ℕ)} → IsExact Spells at →
    (bytes rest value : List ℕ) (key : ℕ) → at bytes ≡ Ok ((key, value), rest) → GoesOn Spells key value bytes 0
first_is exact bytes rest value key e =
    let t = exact.takes bytes (key, value) rest e in
    record { before = []; count = refl; leads = record { front = t.0; back = rest; parts = t.1; spelled = t.2; rest = tt } }

-- no other value is the first
pub only_value : {Spells : List ℕ → ℕ × List ℕ → Type 0} {at : Reader (ℕ × List ℕ)} → IsExact Spells at →
    (bytes rest value other : List ℕ) (key : ℕ) (before : List (ℕ × List ℕ)) → at bytes ≡ Ok ((key, value), rest) →
    LeadsTo Spells key before bytes other → value ≡ other
only_value exact bytes rest value other key [] e n = ap (λ (x : ℕ × List ℕ). x.1) (next_is exact bytes rest (key, value) (key, other) e n).0
only_value exact bytes rest value other key (pair ∷ before) e n =
    absurd (n.0 (sym (ap (λ (x : ℕ × List ℕ). x.0) (next_is exact bytes rest (key, value) pair e n.1).0)))

-- where reading fails, none is
pub none_leads : {Spells : List ℕ → ℕ × List ℕ → Type 0} {at : Reader (ℕ × List ℕ)} → IsExact Spells at →
    (bytes value : List ℕ) (key : ℕ) (before : List (ℕ × List ℕ)) (cause : Cause) → at bytes ≡ Err cause → LeadsTo Spells key before bytes value → ⊥
none_leads {Spells} {at} exact bytes value key [] cause e n =
    let again = sym e ∙ ap at n.parts ∙ exact.again n.front n.back (key, value) n.spelled in absurd cc
none_leads {Spells} {at} exact bytes value key (pair ∷ before) cause e n =
    let again = sym e ∙ ap at n.1.parts ∙ exact.again n.1.front n.1.back pair n.1.spelled in absurd cc

-- ---- one pair more

step_to : {Spells : List ℕ → ℕ × List ℕ → Type 0} {at : Reader (ℕ × List ℕ)} → IsExact Spells at →
    (bytes rest value : List ℕ) (key : ℕ) (one : ℕ × List ℕ) (before : List (ℕ × List ℕ)) → at bytes ≡ Ok (one, rest) → (one.0 ≡ key → ⊥) →
    LeadsTo Spells key before bytes value → (after : List (ℕ × List ℕ)) × (length before ≡ 1 + length after) × LeadsTo Spells key after rest value
step_to exact bytes rest value key one [] e other n =
    absurd (other (ap (λ (x : ℕ × List ℕ). x.0) (next_is exact bytes rest one (key, value) e n).0))
step_to exact bytes rest value key one (pair ∷ before) e other n =
    (before, omega arith, (next_is exact bytes rest one pair e n.1).1)

pub goes_on : {Spells : List ℕ → ℕ × List ℕ → Type 0} {at : Reader (ℕ × List ℕ)} → IsExact Spells at →
    (all bytes rest : List ℕ) (key number : ℕ) (one : ℕ × List ℕ) → IsBehind Spells key number all bytes → at bytes ≡ Ok (one, rest) →
    (one.0 ≡ key → ⊥) → IsBehind Spells key (number + 1) all rest
goes_on {Spells} {at} exact all bytes rest key number one b e other = record {
  to = λ value n g.
      let h = b.to value n g in
      let k = h.2 in
      let s = step_to exact bytes rest value key one k.before e other k.leads in
      (length s.0, omega (arith, h.1, k.count, s.1), record { before = s.0; count = refl; leads = s.2 });
  from = λ value m g.
      let t = exact.takes bytes one rest e in
      let next : LeadsTo Spells key (one ∷ g.before) bytes value =
      (other, record { front = t.0; back = rest; parts = t.1; spelled = t.2; rest = g.leads }) in
      let h = b.from value (1 + m) (record { before = one ∷ g.before; count = omega (arith, g.count); leads = next }) in
      subst (GoesOn Spells key value all) (omega arith) h;
}
