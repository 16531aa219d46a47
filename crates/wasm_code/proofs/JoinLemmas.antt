-- Lists of operators whose spellings are joined, moved or cut.
use Rattle.std.proofs.Common.{◌≡◌, ℕ, ◌+◌, List, [], ◌∷◌, ◌++◌, length, refl, sym, ap, subst, ◌∙◌, append_assoc, arith}
use Rattle.std.proofs.lemmas.List.{length-append}
use Rattle.wasm_code.specs.declared.operator.Operator.{Operator}
use Rattle.wasm_code.specs.Body.{SpellsAll, AreSpelled, bytes_of, with_offsets, move_by, IsCut}

pub all_joined : (start : ℕ) (xs : List (Operator × List ℕ)) → AreSpelled xs → SpellsAll (with_offsets start xs) start (bytes_of xs)
all_joined start [] s = refl
all_joined start (x ∷ xs) s = record {
  front = x.1;
  back = bytes_of xs;
  parts = refl;
  offset = refl;
  spells = s.0;
  rest = all_joined (start + length x.1) xs s.1;
}

pub all_append : (xs ys : List (Operator × ℕ)) (start : ℕ) (a b : List ℕ) → SpellsAll xs start a → SpellsAll ys (start + length a) b →
    SpellsAll (xs ++ ys) start (a ++ b)
all_append [] ys start a b p q =
    let same : b ≡ a ++ b = ap (λ (t : List ℕ). t ++ b) (sym p) in
    let at : start + length a ≡ start = omega (arith, ap length p) in
    subst (λ (n : ℕ). SpellsAll ys n (a ++ b)) at (subst (SpellsAll ys (start + length a)) same q)
all_append (x ∷ xs) ys start a b p q =
    let at : start + length a ≡ start + length p.front + length p.back = omega (arith, ap length p.parts, length-append p.front p.back) in
    record {
      front = p.front;
      back = p.back ++ b;
      parts = ap (λ (t : List ℕ). t ++ b) p.parts ∙ append_assoc p.front p.back b;
      offset = p.offset;
      spells = p.spells;
      rest = all_append xs ys (start + length p.front) p.back b p.rest (subst (λ (n : ℕ). SpellsAll ys n b) at q);
    }

pub all_shifted : (xs : List (Operator × ℕ)) (start by : ℕ) (text : List ℕ) → SpellsAll xs start text → SpellsAll (move_by by xs) (start + by) text
all_shifted [] start by text p = p
all_shifted (x ∷ xs) start by text p =
    let at : start + length p.front + by ≡ start + by + length p.front = omega arith in
    record {
      front = p.front;
      back = p.back;
      parts = p.parts;
      offset = ap (λ (k : ℕ). k + by) p.offset;
      spells = p.spells;
      rest = subst (λ (n : ℕ). SpellsAll (move_by by xs) n p.back) at (all_shifted xs (start + length p.front) by p.back p.rest);
    }

pub all_cut : (xs ys : List (Operator × ℕ)) (start : ℕ) (text : List ℕ) → SpellsAll (xs ++ ys) start text → IsCut xs ys start text
all_cut [] ys start text p =
    let at : start ≡ start + 0 = omega arith in
    record { front = []; back = text; parts = refl; first = refl; second = subst (λ (n : ℕ). SpellsAll ys n text) at p }
all_cut (x ∷ xs) ys start text p =
    let c = all_cut xs ys (start + length p.front) p.back p.rest in
    let at : start + length p.front + length c.front ≡ start + length (p.front ++ c.front) = omega (arith, length-append p.front c.front) in
    record {
      front = p.front ++ c.front;
      back = c.back;
      parts = p.parts ∙ ap (λ (t : List ℕ). p.front ++ t) c.parts ∙ sym (append_assoc p.front c.front c.back);
      first = record { front = p.front; back = c.front; parts = refl; offset = p.offset; spells = p.spells; rest = c.first };
      second = subst (λ (n : ℕ). SpellsAll ys n c.back) at c.second;
    }
