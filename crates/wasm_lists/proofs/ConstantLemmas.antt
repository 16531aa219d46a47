-- Constant expressions are read exactly.
use Rattle.std.proofs.Common.{◌≡◌, inl, inr, ℕ, zero, suc, ◌<◌, eqb, Bool, true, false, cond, List, [], ◌∷◌, ◌++◌, length, Result, Ok, Err}
use Rattle.std.proofs.Common.{refl, sym, ap, ◌∙◌, arith}
use Rattle.std.proofs.lemmas.List.{length-append}
use Rattle.wasm_code.specs.declared.fault.Cause.{Cause}
use Rattle.wasm_code.specs.declared.fault.Cause.TheVariants.{Truncated, UnknownOpcode}
use Rattle.wasm_code.specs.Body.{is_end}
use Rattle.wasm_code.specs.Grammar.{Never, NeverFails, FailsChosen, FailsThen}
use Rattle.wasm_code.specs.Operator.{Spells, Fails}
use Rattle.wasm_code.specs.Reader.{◌>>=◌, opcode_at, operator_at}
use Rattle.wasm_code.specs.laws.GrammarLemmas.{Exact, bind_ok, bind_err, err_is, exact_ends, exact_of, exact_then, exact_choose, exact_times, exact_at}
use Rattle.wasm_code.specs.laws.NumberExact.{unsigned_exact}
use Rattle.wasm_lists.specs.Constants.{indices_behind, is_making, SpellsMaking, FailsMaking, NamesNoOperator, SpellsConstant, FailsConstant}
use Rattle.wasm_lists.specs.Constants.{EndsWithin, FailsWithin, SpellsInitialiser, FailsInitialiser}
use Rattle.wasm_lists.specs.ValueReader.{chosen_by_first_at, heap_type_or_index_at, making_at, constant_operator_at, end_at, initialiser_at}
use Rattle.wasm_lists.proofs.FirstLemmas.{exact_first}
use Rattle.wasm_lists.proofs.ValueLemmas.{heap_type_exact}

abbrev Answer : Type 0
Answer = Result (Unit {0} × List ℕ) Cause

-- ---- operators that make references

-- that always fails, since what stands before is no opcode
none_exact : {A : Type 0} → Exact {A = A} Never NamesNoOperator (λ bytes. Err UnknownOpcode)
none_exact {A} = record {
  takes = λ bytes x rest e. absurd cc;
  again = λ text rest x s. absurd s;
  stops = λ bytes cause e. sym (err_is {A = A × List ℕ} UnknownOpcode cause e);
  fails = λ bytes cause s. rw s refl;
}

making_exact : Exact SpellsMaking FailsMaking making_at
unfolding making_at
making_exact = exact_then (unsigned_exact 32) (λ n. exact_choose (is_making n) (exact_times (unsigned_exact 32) (indices_behind n)) none_exact)

-- an operator takes a byte or more
some_byte : (text : List ℕ) (ended : Bool) → SpellsConstant text ended → 0 < length text
some_byte [] ended s = absurd s
some_byte (b ∷ text) ended s = omega arith

no_operator : operator_at [] ≡ Err Truncated
unfolding operator_at opcode_at
no_operator = refl

-- at most so many operators, or else the bytes are cut off
abbrev FailsLimit : ℕ → List ℕ → Cause → Type 0
FailsLimit zero bytes cause = Truncated ≡ cause
FailsLimit (suc n) bytes cause = FailsThen FailsConstant SpellsConstant (λ ended. FailsChosen ended NeverFails (FailsLimit n)) bytes cause

none_within : Exact (EndsWithin zero) (FailsLimit zero) (end_at zero)
unfolding end_at
none_within = record {
  takes = λ bytes x rest e. absurd cc;
  again = λ text rest x s. absurd s;
  stops = λ bytes cause e. err_is {A = Unit {0} × List ℕ} Truncated cause e;
  fails = λ bytes cause f. rw (sym f) refl;
}

module _ (operators : Exact Spells Fails operator_at) where
  pub constant_exact : Exact SpellsConstant FailsConstant constant_operator_at
  unfolding constant_operator_at
  constant_exact =
      exact_at same (exact_first (λ b. eqb b 0xd0) (λ _. exact_of (λ _. false) heap_type_exact)
      (exact_first (λ b. eqb b 0xfb) (λ _. exact_of (λ _. false) making_exact) (exact_of is_end operators) Truncated (rw no_operator refl)) Truncated refl)
    where
      same : (bytes : List ℕ) → chosen_by_first_at (λ b. eqb b 0xd0) (λ _ rest. heap_type_or_index_at rest >>= λ t. Ok (false, t.1))
          (chosen_by_first_at (λ b. eqb b 0xfb) (λ _ rest. making_at rest >>= λ x. Ok (false, x.1))
          (λ rest. operator_at rest >>= λ x. Ok (is_end x.0, x.1))) bytes
          ≡ constant_operator_at bytes
      same [] = refl
      same (b ∷ bytes) = refl

  pub shrinks : (bytes : List ℕ) (ended : Bool) (rest : List ℕ) → constant_operator_at bytes ≡ Ok (ended, rest) → length rest < length bytes
  shrinks bytes ended rest e =
      let t = constant_exact.takes bytes ended rest e in
      omega (arith, ap length t.1, length-append t.0 rest, some_byte t.0 ended t.2)

  end_exact : (n : ℕ) → Exact (EndsWithin n) (FailsLimit n) (end_at n)
  unfolding end_at
  end_exact zero = none_within
  end_exact (suc n) = exact_then constant_exact (λ ended. exact_choose ended (exact_ends tt) (end_exact n))

  -- ---- any number of operators is enough that is more than there are bytes

  step_same : (a b : ℕ) (v : Bool) (rest : List ℕ) → end_at a rest ≡ end_at b rest
      → cond v (let y : Answer = Ok (tt, rest) in y) (end_at a rest) ≡ cond v (Ok (tt, rest)) (end_at b rest)
  step_same a b true rest e = refl
  step_same a b false rest e = e

  read_same : (a b : ℕ) (r : Result (Bool × List ℕ) Cause) → ((x : Bool) (rest : List ℕ) → r ≡ Ok (x, rest) → end_at a rest ≡ end_at b rest)
      → (r >>= λ x. cond x.0 (Ok (tt, x.1)) (end_at a x.1)) ≡ (r >>= λ x. cond x.0 (Ok (tt, x.1)) (end_at b x.1))
  read_same a b (Err cause) same = refl
  read_same a b (Ok x) same = step_same a b x.0 x.1 (same x.0 x.1 refl)

  pub enough : (a b : ℕ) (bytes : List ℕ) → length bytes < a → length bytes < b → end_at a bytes ≡ end_at b bytes
  unfolding end_at
  enough zero b bytes la lb = absurd (omega (arith, la))
  enough (suc a) zero bytes la lb = absurd (omega (arith, lb))
  enough (suc a) (suc b) bytes la lb = read_same a b (constant_operator_at bytes) (λ x rest e.
      let less = shrinks bytes x rest e in
      enough a b rest (omega (arith, la, less)) (omega (arith, lb, less)))

  step_ok : (a b : ℕ) (v : Bool) (rest : List ℕ) (y : Unit {0} × List ℕ) → (end_at a rest ≡ Ok y → end_at b rest ≡ Ok y) →
      cond v (Ok (tt, rest)) (end_at a rest) ≡ Ok y → cond v (Ok (tt, rest)) (end_at b rest) ≡ Ok y
  step_ok a b true rest y later e = e
  step_ok a b false rest y later e = later e

  enough_ok : (a b : ℕ) (bytes : List ℕ) (y : Unit {0} × List ℕ) → length bytes < b → end_at a bytes ≡ Ok y → end_at b bytes ≡ Ok y
  unfolding end_at
  enough_ok zero b bytes y lb e = absurd cc
  enough_ok (suc a) zero bytes y lb e = absurd (omega (arith, lb))
  enough_ok (suc a) (suc b) bytes y lb e =
      let x = bind_ok (constant_operator_at bytes) (λ x. cond x.0 (Ok (tt, x.1)) (end_at a x.1)) y e in
      let less = shrinks bytes x.0.0 x.0.1 x.1 in
      rw x.1 (step_ok a b x.0.0 x.0.1 y (enough_ok a b x.0.1 y (omega (arith, lb, less))) x.2)

  step_stops : (n : ℕ) (v : Bool) (rest : List ℕ) (cause : Cause) → (end_at n rest ≡ Err cause → FailsWithin n rest cause) →
      cond v (Ok (tt, rest)) (end_at n rest) ≡ Err cause → FailsChosen v NeverFails (FailsWithin n) rest cause
  step_stops n true rest cause later e = absurd cc
  step_stops n false rest cause later e = later e

  end_stops : (n : ℕ) (bytes : List ℕ) (cause : Cause) → length bytes < n → end_at n bytes ≡ Err cause → FailsWithin n bytes cause
  unfolding end_at
  end_stops zero bytes cause lt e = absurd (omega (arith, lt))
  end_stops (suc n) bytes cause lt e =
      elim (bind_err (constant_operator_at bytes) (λ x. cond x.0 (Ok (tt, x.1)) (end_at n x.1)) cause e) [
        | inl here ↦ inl (constant_exact.stops bytes cause here)
        | inr there ↦
            let t = constant_exact.takes bytes there.0.0 there.0.1 there.1 in
            let less = shrinks bytes there.0.0 there.0.1 there.1 in
            inr (record {
              value = there.0.0;
              front = t.0;
              back = there.0.1;
              parts = t.1;
              first = t.2;
              second = step_stops n there.0.0 there.0.1 cause (end_stops n there.0.1 cause (omega (arith, lt, less))) there.2;
            })
      ]

  step_fails : (m n : ℕ) (v : Bool) (rest : List ℕ) (cause : Cause) → (FailsWithin n rest cause → end_at m rest ≡ Err cause) →
      FailsChosen v NeverFails (FailsWithin n) rest cause → cond v (Ok (tt, rest)) (end_at m rest) ≡ Err cause
  step_fails m n true rest cause later f = absurd f
  step_fails m n false rest cause later f = later f

  end_fails : (n m : ℕ) (bytes : List ℕ) (cause : Cause) → length bytes < m → FailsWithin n bytes cause → end_at m bytes ≡ Err cause
  unfolding end_at
  end_fails zero m bytes cause lt f = absurd f
  end_fails (suc n) zero bytes cause lt f = absurd (omega (arith, lt))
  end_fails (suc n) (suc m) bytes cause lt (inl here) = rw (constant_exact.fails bytes cause here) refl
  end_fails (suc n) (suc m) bytes cause lt (inr there) =
      let x : constant_operator_at bytes ≡ Ok (there.value, there.back) =
      ap constant_operator_at there.parts ∙ constant_exact.again there.front there.back there.value there.first in
      let less = shrinks bytes there.value there.back x in
      rw x (step_fails m n there.value there.back cause (end_fails n m there.back cause (omega (arith, lt, less))) there.second)

  pub initialiser_exact : Exact SpellsInitialiser FailsInitialiser initialiser_at
  unfolding initialiser_at
  initialiser_exact = record {
    takes = λ bytes x rest e.
        let t = (end_exact (suc (length bytes))).takes bytes x rest e in
        (t.0, t.1, record { most = suc (length bytes); spells = t.2 });
    again = λ text rest x s.
        enough_ok s.most (suc (length (text ++ rest))) (text ++ rest) (x, rest) (omega arith) ((end_exact s.most).again text rest x s.spells);
    stops = λ bytes cause e. record { most = suc (length bytes); fails = end_stops (suc (length bytes)) bytes cause (omega arith) e };
    fails = λ bytes cause f. end_fails f.most (suc (length bytes)) bytes cause (omega arith) f.fails;
  }

  -- ---- the loop

  pub goes_on : (bytes : List ℕ) (ended : Bool) (rest : List ℕ) → constant_operator_at bytes ≡ Ok (ended, rest) → ended ≡ false →
      initialiser_at rest ≡ initialiser_at bytes
  unfolding initialiser_at end_at
  goes_on bytes ended rest e more =
      let less = shrinks bytes ended rest e in
      rw (e, more) (enough (suc (length rest)) (length bytes) rest (omega arith) less)

pub ends : (bytes : List ℕ) (ended : Bool) (rest : List ℕ) → constant_operator_at bytes ≡ Ok (ended, rest) → ended ≡ true →
    initialiser_at bytes ≡ Ok (tt, rest)
unfolding initialiser_at end_at
ends bytes ended rest e last = rw (e, last) refl

pub fails : (bytes : List ℕ) (cause : Cause) → constant_operator_at bytes ≡ Err cause → initialiser_at bytes ≡ Err cause
unfolding initialiser_at end_at
fails bytes cause e = rw e refl
