-- The values before the next operator: what is kept of them is right, and stays so; and the operator's unit.
use Rattle.std.proofs.Common.{◌≡◌, ℕ, suc, ◌+◌, ◌-◌, ◌<◌, ◌≤◌, ◌⊎◌, inl, inr, List, [], ◌∷◌, ◌++◌, length, take, drop, Option, Some, None}
use Rattle.std.proofs.Common.{refl, sym, ap, ap₂, ◌∙◌, subst, length-append, arith}
use Rattle.std.specs.Prelude.{min}
use Rattle.std.proofs.lemmas.Bool.{cases_lt}
use Rattle.std.proofs.lemmas.List.{drop-append-le, drop-drop, drop-take, drop_all, get_or_past, length-drop, length-take-le, take-append-drop}
use Rattle.wasm_code.specs.Instruction.{Instruction}
use Rattle.wasm_types.specs.declared.types.PrimitiveTypeInfo.{PrimitiveTypeInfo}
use Rattle.wasm_execution.specs.Row.{list_of, instruction_count}
use Rattle.wasm_execution.specs.Values.{Context}
use Rattle.body_changes.specs.declared.units.Unit.{Unit}
use Rattle.body_changes.specs.Pass.{value_start_of, start_where, takes_of, AreLastValues, AreValues, IsCodeLeaving, IsNextUnit, UnitIsTold}
use Rattle.body_changes.specs.Replacing.{HasInstruction, IsClosed}
use Rattle.body_changes.specs.Typed.{told_types}
use Rattle.body_changes.specs.Units.{AreSeveral, AreTaken, IsUnit}
use Rattle.body_changes.proofs.KeptLemmas.{kept_start}
use Rattle.body_changes.proofs.StandLemmas.{Operators, Types, closed_code, code_before, code_behind, code_of_closed, is_behind, no_code, none_left}

module _ (context : Context) (operators : Operators) (at : ℕ) (starts : List ℕ) (types : Types) (h : AreValues context operators at starts types) where
  begun : (j : ℕ) → value_start_of starts j at ≤ at
  begun j =
      let l = h.sorted j (j + length starts) (omega arith) in
      let past = get_or_past starts (j + length starts) at (omega arith) in
      omega arith

  -- the code of some of the values, one behind another
  between : (j k : ℕ) (t : PrimitiveTypeInfo) (ts : Types) → j ≤ k → t ∷ ts ++ drop k types ≡ drop j types →
      IsClosed context operators (value_start_of starts j at) (value_start_of starts k at) (t ∷ ts)
  between j k t ts le parts =
      closed_code context operators (value_start_of starts j at) (value_start_of starts k at) t ts (h.sorted j k le)
      (code_before context operators (value_start_of starts j at) (value_start_of starts k at) at (t ∷ ts) (drop k types) (h.sorted j k le) (begun k)
      (subst (IsCodeLeaving context operators (value_start_of starts j at) at) (sym parts) (h.leave j)) (h.leave k))

  module _ (i : Instruction) (has : HasInstruction operators at i) where
    abbrev count : ℕ
    count = instruction_count context.info i

    -- The code up to the operator, which leaves its operands on top.
    record Over (s : ℕ) (us : Types) : Type 0 where
      number : ℕ
      few : number + count ≤ length types
      begins : s ≤ value_start_of starts number at
      gives : Option PrimitiveTypeInfo
      typed : told_types context i (drop (length types - count) types) ≡ Some gives
      left : us ≡ drop number (take (length types - count) types) ++ list_of gives

    over : (s : ℕ) (us : Types) → s ≤ at → IsCodeLeaving context operators s (at + 1) us → Over s us
    over s us le c =
        let b = is_behind context operators s at i us le has c in
        let m = h.most s b.types le b.front in
        let few = m.few in
        let enough = b.given.enough in
        let long : length (drop m.number types) ≡ length b.types = ap length m.last in
        let size = length-drop m.number types in
        let n = length b.types - instruction_count context.info i in
        let place : m.number + n ≡ length types - instruction_count context.info i = omega arith in
        let operands : drop n b.types ≡ drop (length types - instruction_count context.info i) types =
        ap (drop n) (sym m.last)
        ∙ (drop-drop n m.number types ∙ ap (λ n. drop n types) place) in
        record {
          number = m.number;
          few = omega arith;
          begins = m.begins;
          gives = b.given.gives;
          typed = ap (told_types context i) (sym operands) ∙ b.given.typed;
          left = b.given.left ∙ ap (λ xs. xs ++ list_of b.given.gives) (ap (take n) (sym m.last)
              ∙ (sym (drop-take m.number n types) ∙ ap (λ k. drop m.number (take k types)) place));
        }

    -- where it has no unit
    pub no_unit : IsNextUnit context i at starts types None → (s : ℕ) (us : Types) → IsClosed context operators s (at + 1) us → ⊥
    no_unit next s us c =
        let inside = c.some in
        let v = over s us (omega arith) (code_of_closed context operators s (at + 1) us c) in
        let few = v.few in
        let aligned = h.aligned in
        let below = length types - instruction_count context.info i in
        let nothing = next below (omega arith) in
        let typed = v.typed in
        absurd (cc (nothing, typed))

    -- where it has one
    module _ (below : ℕ) (unit : Unit) (told : UnitIsTold context i at starts types below unit) where
      sum : below + count ≡ length starts
      sum = told.below_is

      place : length types - count ≡ below
      place = let s = sum in let a = h.aligned in omega arith

      within : below ≤ length types
      within = let s = sum in let a = h.aligned in omega arith

      -- the code of the values from the j-th on, with the instruction behind it
      code_from : (j : ℕ) → j ≤ below →
          IsClosed context operators (value_start_of starts j at) (at + 1) (drop j (take below types) ++ list_of unit.gives)
      code_from j le =
          let w = within in
          let long = length-take-le below types w in
          let parts : drop j types ≡ drop j (take below types) ++ drop below types =
          ap (drop j) (sym (take-append-drop below types)) ∙ drop-append-le j (take below types) (drop below types) (omega arith) in
          code_behind context operators (value_start_of starts j at) at i (drop j (take below types)) (drop below types) unit.gives (begun j) has told.typed
          (subst (IsCodeLeaving context operators (value_start_of starts j at) at) parts (h.leave j))

      closed : IsClosed context operators unit.start (at + 1) (list_of unit.gives)
      closed =
          let w = within in
          let long = length-take-le below types w in
          let none : drop below (take below types) ≡ [] = drop_all below (take below types) (omega arith) in
          subst (λ s. IsClosed context operators s (at + 1) (list_of unit.gives)) (sym told.start_is)
          (subst (λ ts. IsClosed context operators (value_start_of starts below at) (at + 1) (ts ++ list_of unit.gives)) none (code_from below (omega arith)))

      shortest : (k : ℕ) (ts : Types) → IsClosed context operators k (at + 1) ts → k ≤ unit.start
      shortest k ts c =
          let inside = c.some in
          let v = over k ts (omega arith) (code_of_closed context operators k (at + 1) ts c) in
          let few = v.few in
          let s = sum in
          let a = h.aligned in
          let begins = v.begins in
          let order = h.sorted v.number below (omega arith) in
          let is = told.start_is in
          omega arith

      -- ---- its operands

      -- the last one, if there are some
      abbrev last_at : ℕ
      last_at = length starts - min count 1

      -- the values from one of the operands on
      operands_from : (n : ℕ) (ops : Types) → ops ≡ drop below types → drop (below + n) types ≡ drop n ops
      operands_from n ops e = sym (drop-drop n below types) ∙ ap (drop n) (sym e)

      size : (ops : Types) → ops ≡ drop below types → length ops ≡ count
      size ops e = let s = sum in let a = h.aligned in let l = length-drop below types in ap length e ∙ omega arith

      last_start : (k : ℕ) → last_at ≡ k → unit.last ≡ value_start_of starts k at
      last_start k e = told.last_is ∙ ap (λ n. value_start_of starts n at) e

      last_closed : (k : ℕ) (t : PrimitiveTypeInfo) → last_at ≡ k → drop k types ≡ t ∷ [] → IsClosed context operators unit.last at (t ∷ [])
      last_closed k t e d =
          subst (λ s. IsClosed context operators s at (t ∷ [])) (sym (last_start k e))
          (closed_code context operators (value_start_of starts k at) at t [] (begun k)
          (subst (IsCodeLeaving context operators (value_start_of starts k at) at) d (h.leave k)))

      before_last : (k : ℕ) (t : PrimitiveTypeInfo) (ts : Types) → last_at ≡ k → below ≤ k → t ∷ ts ++ drop k types ≡ drop below types →
          IsClosed context operators unit.start unit.last (t ∷ ts)
      before_last k t ts e le parts =
          subst (λ s. IsClosed context operators s unit.last (t ∷ ts)) (sym told.start_is)
          (subst (λ s. IsClosed context operators (value_start_of starts below at) s (t ∷ ts)) (sym (last_start k e)) (between below k t ts le parts))

      several_at : (t : PrimitiveTypeInfo) (rest : Types) (n : ℕ) (x : PrimitiveTypeInfo) → n + 1 ≡ length rest → drop n rest ≡ x ∷ [] →
          t ∷ rest ≡ drop below types → AreSeveral context operators unit.start unit.last at count
      several_at t rest n x long one e =
          let s = sum in
          let all = size (t ∷ rest) e in
          let k = below + suc n in
          let is_last : last_at ≡ k = omega arith in
          let there : drop k types ≡ drop n rest = operands_from (suc n) (t ∷ rest) e in
          let parts : t ∷ take n rest ++ drop n rest ≡ t ∷ rest = ap (λ ts. t ∷ ts) (take-append-drop n rest) in
          let l = length-take-le n rest (omega arith) in
          record {
            types = t ∷ take n rest;
            count_is = omega arith;
            others = before_last k t (take n rest) is_last (omega arith) (ap (λ ts. t ∷ take n rest ++ ts) there ∙ (parts ∙ e));
            type = x;
            one = last_closed k x is_last (there ∙ one);
          }

      several : (t : PrimitiveTypeInfo) (rest : Types) → 1 ≤ length rest → t ∷ rest ≡ drop below types →
          AreSeveral context operators unit.start unit.last at count
      several t rest some e =
          let long = length-drop (length rest - 1) rest in
          let (x, one) = the_one (drop (length rest - 1) rest) (omega arith) in
          several_at t rest (length rest - 1) x (omega arith) one e
        where
          the_one : (xs : Types) → length xs ≡ 1 → (x : PrimitiveTypeInfo) × (xs ≡ x ∷ [])
          the_one [] e = absurd (omega arith)
          the_one (x ∷ []) e = (x, refl)
          the_one (x ∷ y ∷ xs) e = absurd (omega arith)

      taken : (ops : Types) → ops ≡ drop below types → AreTaken context operators unit.start unit.last at count (takes_of ops)
      taken [] e =
          let s = sum in
          let n = size [] e in
          record {
            not_one = λ one. omega arith;
            not_two = λ two. omega arith;
            none = λ z. (
              told.start_is ∙ get_or_past starts below at (omega arith),
              last_start last_at refl ∙ get_or_past starts last_at at (omega arith),
            );
            several = λ some. absurd (omega arith);
          }
      taken (t ∷ []) e =
          let s = sum in
          let n = size (t ∷ []) e in (
            sym n,
            last_start below (omega arith) ∙ sym told.start_is,
            subst (λ k. IsClosed context operators k at (t ∷ [])) (sym told.start_is)
                (closed_code context operators (value_start_of starts below at) at t [] (begun below)
                (subst (IsCodeLeaving context operators (value_start_of starts below at) at) (sym e) (h.leave below))),
          )
      taken (t ∷ u ∷ []) e =
          let s = sum in
          let n = size (t ∷ u ∷ []) e in
          let k = below + 1 in
          let there : drop k types ≡ u ∷ [] = operands_from 1 (t ∷ u ∷ []) e in
          let is_last : last_at ≡ k = omega arith in (
            sym n,
            record {
              first = before_last k t [] is_last (omega arith) (ap (λ ts. t ∷ ts) there ∙ e);
              last = last_closed k u is_last there;
            },
          )
      taken (t ∷ u ∷ v ∷ ts) e =
          let s = sum in
          let n = size (t ∷ u ∷ v ∷ ts) e in
          record {
            not_one = λ one. omega arith;
            not_two = λ two. omega arith;
            none = λ z. absurd (omega arith);
            several = λ some. several t (u ∷ v ∷ ts) (omega arith) e;
          }

      -- no value begins later than the last one does
      latest : (k : ℕ) (t : PrimitiveTypeInfo) (ts : Types) → IsClosed context operators k at (t ∷ ts) → k ≤ unit.last
      latest k t ts c =
          let inside = c.some in
          let m = h.most k (t ∷ ts) (omega arith) (code_of_closed context operators k at (t ∷ ts) c) in
          let left = length-drop m.number types in
          let long : length (drop m.number types) ≡ length (t ∷ ts) = ap length m.last in
          let a = h.aligned in
          let begins = m.begins in
          let order = h.sorted m.number last_at (omega arith) in
          let is = last_start last_at refl in
          omega arith

      pub has_unit : IsUnit context operators at unit
      has_unit = record {
        is = record { closed = closed; shortest = shortest };
        instruction = i;
        has = has;
        taken = subst (AreTaken context operators unit.start unit.last at count) (sym told.takes_is) (taken (drop below types) refl);
        latest = latest;
      }

      -- ---- the values behind it

      abbrev new_starts : List ℕ
      new_starts = take below starts ++ start_where unit.gives unit.start

      abbrev new_types : Types
      new_types = take below types ++ list_of unit.gives

      low : below ≤ length new_types
      low =
          let l = length-append (take below types) (list_of unit.gives) in
          let m = length-take-le below types within in
          omega arith

      same_length : length new_types ≡ length new_starts
      same_length =
          let s = sum in
          length-append (take below types) (list_of unit.gives)
          ∙ (ap₂ (λ m n. m + n) (length-take-le below types within ∙ sym (length-take-le below starts (omega arith))) (one_of unit.gives unit.start)
          ∙ sym (length-append (take below starts) (start_where unit.gives unit.start)))
        where
          one_of : (o : Option PrimitiveTypeInfo) (s : ℕ) → length (list_of o) ≡ length (start_where o s)
          one_of (Some t) s = refl
          one_of None s = refl

      kept : (j : ℕ) → j < length new_types → value_start_of new_starts j (at + 1) ≡ value_start_of starts j at
      kept j l =
          let s = sum in
          let m = same_length in
          kept_start starts below j at (at + 1) unit.start unit.gives (omega arith) told.start_is (omega arith)

      past : (j : ℕ) → length new_types ≤ j → value_start_of new_starts j (at + 1) ≡ at + 1
      past j l = let m = same_length in get_or_past new_starts j (at + 1) (omega arith)

      left_from : (j : ℕ) → j ≤ below → drop j new_types ≡ drop j (take below types) ++ list_of unit.gives
      left_from j le = let l = length-take-le below types within in drop-append-le j (take below types) (list_of unit.gives) (omega arith)

      sorted_behind : (j k : ℕ) → j ≤ k → value_start_of new_starts j (at + 1) ≤ value_start_of new_starts k (at + 1)
      sorted_behind j k le = go (cases_lt j (length new_types)) (cases_lt k (length new_types))
        where
          go : (j < length new_types) ⊎ (length new_types ≤ j) → (k < length new_types) ⊎ (length new_types ≤ k) →
              value_start_of new_starts j (at + 1) ≤ value_start_of new_starts k (at + 1)
          go (inl a) (inl b) = let x = kept j a in let y = kept k b in let l = h.sorted j k le in omega arith
          go (inl a) (inr b) = let x = kept j a in let y = past k b in let l = begun j in omega arith
          go (inr a) (inl b) = absurd (omega arith)
          go (inr a) (inr b) = let x = past j a in let y = past k b in omega arith

      few_behind : (j : ℕ) → j < length new_types → j ≤ below
      few_behind j l =
          let m = length-append (take below types) (list_of unit.gives) in
          let n = length-take-le below types within in
          let o = at_most_one unit.gives in
          omega arith
        where
          at_most_one : (o : Option PrimitiveTypeInfo) → length (list_of o) ≤ 1
          at_most_one (Some t) = omega arith
          at_most_one None = omega arith

      leave_behind : (j : ℕ) → IsCodeLeaving context operators (value_start_of new_starts j (at + 1)) (at + 1) (drop j new_types)
      leave_behind j = go (cases_lt j (length new_types))
        where
          go : (j < length new_types) ⊎ (length new_types ≤ j) →
              IsCodeLeaving context operators (value_start_of new_starts j (at + 1)) (at + 1) (drop j new_types)
          go (inl l) =
              let le = few_behind j l in
              subst (λ s. IsCodeLeaving context operators s (at + 1) (drop j new_types)) (sym (kept j l))
              (subst (IsCodeLeaving context operators (value_start_of starts j at) (at + 1)) (sym (left_from j le))
              (code_of_closed context operators (value_start_of starts j at) (at + 1) (drop j (take below types) ++ list_of unit.gives) (code_from j le)))
          go (inr l) =
              subst (λ s. IsCodeLeaving context operators s (at + 1) (drop j new_types)) (sym (past j l))
              (subst (IsCodeLeaving context operators (at + 1) (at + 1)) (sym (drop_all j new_types l)) (no_code context operators (at + 1)))

      most_behind : (s : ℕ) (ts : Types) → s ≤ at + 1 → IsCodeLeaving context operators s (at + 1) ts → AreLastValues new_starts new_types s (at + 1) ts
      most_behind s ts le c = go (cases_lt s (at + 1))
        where
          begins : (j : ℕ) → s ≤ at → s ≤ value_start_of starts j at → s ≤ value_start_of new_starts j (at + 1)
          begins j a b = either (cases_lt j (length new_types))
            where
              either : (j < length new_types) ⊎ (length new_types ≤ j) → s ≤ value_start_of new_starts j (at + 1)
              either (inl l) = let k = kept j l in omega arith
              either (inr l) = let k = past j l in omega arith

          go : (s < at + 1) ⊎ (at + 1 ≤ s) → AreLastValues new_starts new_types s (at + 1) ts
          go (inl l) =
              let inside : s ≤ at = omega arith in
              let v = over s ts inside c in
              let few = v.few in
              let p = place in
              let le : v.number ≤ below = omega arith in
              let bound = low in
              let one : v.gives ≡ unit.gives = same_gives v.gives unit.gives (sym v.typed
              ∙ (ap (λ n. told_types context i (drop n types)) p ∙ told.typed)) in
              record {
                number = v.number;
                few = omega arith;
                last = left_from v.number le
                    ∙ (ap₂ (λ n o. drop v.number (take n types) ++ list_of o) (sym p) (sym one) ∙ sym v.left);
                begins = begins v.number inside v.begins;
              }
            where
              same_gives : (a b : Option PrimitiveTypeInfo) → ◌≡◌ {A = Option (Option PrimitiveTypeInfo)} (Some a) (Some b) → a ≡ b
              same_gives a b e = cc
          go (inr l) =
              let same : s ≡ at + 1 = omega arith in
              let empty = none_left context operators (at + 1) ts (subst (λ n. IsCodeLeaving context operators n (at + 1) ts) same c) in
              let p = past (length new_types) (omega arith) in
              record {
                number = length new_types;
                few = omega arith;
                last = drop_all (length new_types) new_types (omega arith) ∙ empty;
                begins = omega arith;
              }

      pub values_behind : AreValues context operators (at + 1) (take below starts ++ start_where unit.gives unit.start)
          (take below types ++ list_of unit.gives)
      values_behind = record { aligned = same_length; sorted = sorted_behind; leave = leave_behind; most = most_behind }
