-- Code that takes operands from any frame, and leaves values in their place: operands are popped one by one.
use Rattle.std.proofs.Common.{◌≡◌, ℕ, zero, suc, ◌-◌, ◌≤◌, Bool, true, false, List, [], ◌∷◌, ◌++◌, length, take, drop, Option, Some, None}
use Rattle.std.proofs.Common.{refl, sym, ap, ap₂, ◌∙◌, arith, inl, inr, append_assoc}
use Rattle.std.specs.Prelude.{◌⊎◌, ◌&&◌, ◌||◌, ◌==◌, nat_le, replicate, if◌then◌else◌, option_map, option_and_then}
use Rattle.std.proofs.lemmas.Bool.{eqb-true, eq-eqb}
use Rattle.std.proofs.Math.Dec.{leb-zero, leb-suc-suc, leb-suc-zero}
use Rattle.std.proofs.lemmas.List.{append-nil, length-append}
use Rattle.wasm_code.specs.Instruction.{Instruction}
use Rattle.wasm_types.specs.declared.types.PrimitiveTypeInfo.{PrimitiveTypeInfo}
use Rattle.wasm_execution.specs.OtherRow.{Operand, typed, OtherType, names_in, other_type}
use Rattle.wasm_execution.specs.Values.{type_number, same_type, same_types, accept, Context}
use Rattle.wasm_execution.specs.declared.integer.IntegerType.{IntegerType}
use Rattle.wasm_execution.specs.Integer.{IntegerOperator}
use Rattle.wasm_execution.specs.IntegerRow.{constant, operation, other, if_typed, typed_operand_count, integer_row}
use Rattle.wasm_execution.specs.Values.{type_of}
use Rattle.wasm_execution.specs.RowLemmas.{same_type_self}
use Rattle.wasm_equivalence.specs.validation.Algorithm.{OperandEntry, may_be, all_may_be, operand_takes, take_all, known, other_entries}
use Rattle.wasm_equivalence.specs.validation.Algorithm.{row_entries, Frame, can_pop, popped, with_pushed, check_row, check_code}
use Rattle.wasm_equivalence.specs.validation.StaysValid.{with_types}
use Rattle.rewrite_rules.proofs.ExactLemmas.{fixed_operands}

-- ---- lists

-- a list is empty, or has a last one
pub cut_last : {A : Type 0} (xs : List A) → (xs ≡ []) ⊎ ((ys : List A) × (y : A) × (xs ≡ ys ++ y ∷ []))
cut_last [] = inl refl
cut_last {A = A} (x ∷ xs) = go (cut_last xs)
  where
    go : (xs ≡ []) ⊎ ((ys : List A) × (y : A) × (xs ≡ ys ++ y ∷ [])) → (x ∷ xs ≡ []) ⊎ ((ys : List A) × (y : A) × (x ∷ xs ≡ ys ++ y ∷ []))
    go (inl e) = inr ([], x, ap (λ l. x ∷ l) e)
    go (inr (ys, y, e)) = inr (x ∷ ys, y, ap (λ l. x ∷ l) e)

drop_front : {A : Type 0} (m : ℕ) (xs : List A) (y : A) → m ≤ length xs → drop m (xs ++ y ∷ []) ≡ drop m xs ++ y ∷ []
drop_front zero xs y l = refl
drop_front (suc m) [] y l = absurd (omega arith)
drop_front (suc m) (x ∷ xs) y l = drop_front m xs y (omega arith)

take_front : {A : Type 0} (m : ℕ) (xs : List A) (y : A) → m ≤ length xs → take m (xs ++ y ∷ []) ≡ take m xs
take_front zero xs y l = refl
take_front (suc m) [] y l = absurd (omega arith)
take_front (suc m) (x ∷ xs) y l = ap (λ l. x ∷ l) (take_front m xs y (omega arith))

drop_none : {A : Type 0} (xs : List A) → drop (length xs) xs ≡ []
drop_none [] = refl
drop_none (x ∷ xs) = drop_none xs

take_whole : {A : Type 0} (xs : List A) → take (length xs) xs ≡ xs
take_whole [] = refl
take_whole (x ∷ xs) = ap (λ l. x ∷ l) (take_whole xs)

one_more : {A : Type 0} (n : ℕ) (x : A) → replicate (suc n) x ≡ replicate n x ++ x ∷ []
one_more zero x = refl
one_more (suc n) x = ap (λ l. x ∷ l) (one_more n x)

-- ---- operands

pub same_turned : (t u : PrimitiveTypeInfo) → same_type t u ≡ same_type u t
same_turned t u = turned (type_number t) (type_number u)
  where
    turned : (n m : ℕ) → (n == m) ≡ (m == n)
    turned n m = go (n == m) refl (m == n) refl
      where
        go : (a : Bool) → (n == m) ≡ a → (b : Bool) → (m == n) ≡ b → a ≡ b
        go true e true f = refl
        go true e false f = sym (eq-eqb m n (sym (eqb-true n m e))) ∙ f
        go false e true f = sym e ∙ eq-eqb n m (sym (eqb-true m n f))
        go false e false f = refl

pub accept_same : (ts us : List PrimitiveTypeInfo) → accept (fixed_operands ts) us ≡ same_types us ts
accept_same [] [] = refl
accept_same [] (u ∷ us) = refl
accept_same (t ∷ ts) [] = refl
accept_same (t ∷ ts) (u ∷ us) = ap₂ (λ a b. a && b) (same_turned t u) (accept_same ts us)

may_take : (es : List OperandEntry) (ts : List PrimitiveTypeInfo) → all_may_be es ts ≡ take_all (fixed_operands ts) es
may_take [] [] = refl
may_take [] (t ∷ ts) = refl
may_take (e ∷ es) [] = refl
may_take (e ∷ es) (t ∷ ts) = ap₂ (λ a b. a && b) (one e) (may_take es ts)
  where
    one : (e : OperandEntry) → may_be e t ≡ operand_takes (typed (Some t)) e
    one (Some u) = same_turned u t
    one None = refl

taken_behind : (os : List Operand) (o : Operand) (es : List OperandEntry) (e : OperandEntry) →
    take_all (os ++ o ∷ []) (es ++ e ∷ []) ≡ (take_all os es && operand_takes o e)
taken_behind [] o [] e = only (operand_takes o e)
  where
    only : (b : Bool) → (b && true) ≡ b
    only true = refl
    only false = refl
taken_behind [] o (d ∷ es) e = ap (λ b. operand_takes o d && b) (none es) ∙ never (operand_takes o d)
  where
    none : (es : List OperandEntry) → take_all [] (es ++ e ∷ []) ≡ false
    none [] = refl
    none (c ∷ es) = refl

    never : (b : Bool) → (b && false) ≡ false
    never true = refl
    never false = refl
taken_behind (p ∷ os) o [] e = ap (λ b. operand_takes p e && b) (none os) ∙ never (operand_takes p e)
  where
    none : (os : List Operand) → take_all (os ++ o ∷ []) [] ≡ false
    none [] = refl
    none (q ∷ os) = refl

    never : (b : Bool) → (b && false) ≡ false
    never true = refl
    never false = refl
taken_behind (p ∷ os) o (d ∷ es) e = ap (λ b. operand_takes p d && b) (taken_behind os o es e)
    ∙ grouped (operand_takes p d) (take_all os es) (operand_takes o e)
  where
    grouped : (a b c : Bool) → (a && (b && c)) ≡ ((a && b) && c)
    grouped true b c = refl
    grouped false b c = refl

-- ---- frames

-- the frame with other operands
abbrev pub on : Frame → List OperandEntry → Frame
on f es = record f { operands = es }

-- what takes these operands from the frame, and leaves values of these types, where it has them
abbrev pub taken : List Operand → List PrimitiveTypeInfo → Frame → Option Frame
taken os us f =
    if can_pop (length os) f then option_map (with_pushed (length os) f) (if_typed (take_all os (popped (length os) f)) (known us)) else None

-- the code does so on every frame
abbrev pub Takes : Context → List Instruction → List Operand → List PrimitiveTypeInfo → Type 0
Takes context code os us = (f : Frame) → check_code context code f ≡ taken os us f

-- what takes nothing
popped_none : (f : Frame) (es : List OperandEntry) → popped 0 (on f es) ≡ []
popped_none f es =
    let none : 0 - length es ≡ 0 = omega arith in
    let all : length es - 0 ≡ length es = omega arith in
    ap₂ (λ (n m : ℕ). replicate n None ++ drop m es) none all ∙ drop_none es

taken_none : (us : List PrimitiveTypeInfo) (f : Frame) (es : List OperandEntry) → taken [] us (on f es) ≡ Some (on f (es ++ known us))
taken_none us f es =
    let all : length es - 0 ≡ length es = omega arith in
    ap (λ b. if b || f.unreachable then option_map (with_pushed 0 (on f es)) (if_typed (take_all [] (popped 0 (on f es))) (known us)) else None)
    (leb-zero (length es))
    ∙ ap₂ (λ (ps fs : List OperandEntry). option_map (λ (ds : List OperandEntry). on f (fs ++ ds)) (if_typed (take_all [] ps) (known us)))
    (popped_none f es)
    (ap (λ (m : ℕ). take m es) all ∙ take_whole es)

pub pushed_none : (us : List PrimitiveTypeInfo) (f : Frame) → taken [] us f ≡ Some (with_types us f)
pushed_none us f = taken_none us f f.operands

-- the last operand first, and then the others
taken_last : (os : List Operand) (o : Operand) (us : List PrimitiveTypeInfo) (f : Frame) (es : List OperandEntry) (e : OperandEntry) →
    taken (os ++ o ∷ []) us (on f (es ++ e ∷ [])) ≡ (if operand_takes o e then taken os us (on f es) else None)
taken_last os o us f es e =
    let n = length os in
    let k = length (os ++ o ∷ []) in
    let l = length (es ++ e ∷ []) in
    let more : k ≡ suc n = length-append os (o ∷ []) ∙ omega arith in
    let longer : l ≡ suc (length es) = length-append es (e ∷ []) ∙ omega arith in
    let few : k - l ≡ n - length es = omega (arith, more, longer) in
    let rest : l - k ≡ length es - n = omega (arith, more, longer) in
    let within : length es - n ≤ length es = omega arith in
    let F = on f (es ++ e ∷ []) in
    let can : can_pop k F ≡ can_pop n (on f es) = ap (λ b. b || f.unreachable) (ap₂ nat_le more longer ∙ leb-suc-suc n (length es)) in
    let pops : popped k F ≡ popped n (on f es) ++ e ∷ [] =
    ap₂ (λ (m j : ℕ). replicate m None ++ drop j (es ++ e ∷ [])) few rest
    ∙ (ap (λ (ds : List OperandEntry). replicate (n - length es) None ++ ds) (drop_front (length es - n) es e within)
    ∙ sym (append_assoc (replicate (n - length es) None) (drop (length es - n) es) (e ∷ []))) in
    let stay : take (l - k) (es ++ e ∷ []) ≡ take (length es - n) es =
    ap (λ (m : ℕ). take m (es ++ e ∷ [])) rest ∙ take_front (length es - n) es e within in
    ap₂ (λ (b : Bool) (ps : List OperandEntry). if b then option_map (with_pushed k F) (if_typed (take_all (os ++ o ∷ []) ps) (known us)) else None) can pops
    ∙ (ap₂ (λ (a : Bool) (fs : List OperandEntry). if can_pop n (on f es) then option_map (λ (ds : List OperandEntry). on f (fs ++ ds))
    (if_typed a (known us)) else None)
    (taken_behind os o (popped n (on f es)) e) stay
    ∙ by_both (can_pop n (on f es)) (take_all os (popped n (on f es))) (operand_takes o e))
  where
    by_both : (b a c : Bool) →
        (if b then option_map (with_pushed (length os) (on f es)) (if_typed (a && c) (known us)) else None)
        ≡ (if c then (if b then option_map (with_pushed (length os) (on f es)) (if_typed a (known us)) else None) else None)
    by_both true true true = refl
    by_both true true false = refl
    by_both true false true = refl
    by_both true false false = refl
    by_both false a true = refl
    by_both false a false = refl

-- where there is none, it is unknown if the code is never reached
taken_empty : (os : List Operand) (o : Operand) (us : List PrimitiveTypeInfo) (f : Frame) →
    taken (os ++ o ∷ []) us (on f []) ≡ (if f.unreachable then (if operand_takes o None then taken os us (on f []) else None) else None)
taken_empty os o us f =
    let n = length os in
    let k = length (os ++ o ∷ []) in
    let more : k ≡ suc n = length-append os (o ∷ []) ∙ omega arith in
    ap (λ (j : ℕ). if can_pop j (on f []) then option_map (with_pushed j (on f []))
    (if_typed (take_all (os ++ o ∷ []) (popped j (on f []))) (known us)) else None) more
    ∙ by_reached f.unreachable refl
  where
    n : ℕ
    n = length os

    F : Frame
    F = on f []

    pops : popped (suc n) F ≡ popped n F ++ None ∷ []
    pops =
        let one : suc n - 0 ≡ suc n = omega arith in
        let all : n - 0 ≡ n = omega arith in
        let over : 0 - suc n ≡ 0 = omega arith in
        let under : 0 - n ≡ 0 = omega arith in
        let bare : List OperandEntry → List OperandEntry = λ ps. ps ++ None ∷ [] in
        ap₂ (λ (m j : ℕ). replicate m None ++ drop {A = OperandEntry} j []) one over
        ∙ (append-nil (replicate (suc n) None)
        ∙ (one_more n None
        ∙ ap bare (sym (ap₂ (λ (m j : ℕ). replicate m None ++ drop {A = OperandEntry} j []) all under ∙ append-nil (replicate n None)))))

    pushed : (m : ℕ) → with_pushed m F (known us) ≡ on f (known us)
    pushed m = let over : 0 - m ≡ 0 = omega arith in ap (λ (j : ℕ). on f (take {A = OperandEntry} j [] ++ known us)) over

    by_takes : (a c : Bool) →
        option_map (with_pushed (suc n) F) (if_typed (a && c) (known us)) ≡ (if c then option_map (with_pushed n F) (if_typed a (known us)) else None)
    by_takes true true = ap (λ (g : Frame). Some g) (pushed (suc n) ∙ sym (pushed n))
    by_takes true false = refl
    by_takes false true = refl
    by_takes false false = refl

    can : f.unreachable ≡ true → can_pop n F ≡ true
    can e = ap (λ b. nat_le n 0 || b) e ∙ or_true (nat_le n 0)
      where
        or_true : (b : Bool) → (b || true) ≡ true
        or_true true = refl
        or_true false = refl

    by_reached : (b : Bool) → f.unreachable ≡ b →
        (if can_pop (suc n) F then option_map (with_pushed (suc n) F) (if_typed (take_all (os ++ o ∷ []) (popped (suc n) F)) (known us)) else None)
        ≡ (if b then (if operand_takes o None then taken os us F else None) else None)
    by_reached true e =
        ap₂ (λ (b : Bool) (ps : List OperandEntry). if b then option_map (with_pushed (suc n) F) (if_typed (take_all (os ++ o ∷ []) ps) (known us)) else None)
        (ap (λ b. b || f.unreachable) (leb-suc-zero n) ∙ e) pops
        ∙ (ap (λ a. option_map (with_pushed (suc n) F) (if_typed a (known us))) (taken_behind os o (popped n F) None)
        ∙ (by_takes (take_all os (popped n F)) (operand_takes o None)
        ∙ ap (λ b. if operand_takes o None then (if b then option_map (with_pushed n F) (if_typed (take_all os (popped n F)) (known us)) else None)
        else None) (sym (can e))))
    by_reached false e = ap (λ b. if b then option_map (with_pushed (suc n) F) (if_typed (take_all (os ++ o ∷ []) (popped (suc n) F)) (known us)) else None)
        (ap (λ b. b || f.unreachable) (leb-suc-zero n) ∙ e)

-- ---- instructions

module _ (context : Context) where
  some_last : {A : Type 0} (o : Option A) → option_and_then (λ x. Some x) o ≡ o
  some_last (Some x) = refl
  some_last None = refl

  -- an instruction of which the machine says nothing itself
  pub other_takes : (i : Instruction) (t : OtherType) → integer_row i ≡ other i → other_type (names_in context.info i.imm) i ≡ Some t →
      Takes context (i ∷ []) t.operands t.results
  other_takes i t own e f =
      some_last (check_row context (integer_row i) f)
      ∙ (ap (λ r. check_row context r f) own
      ∙ ap (λ (o : Option OtherType). if can_pop (typed_operand_count o) f then option_map (with_pushed (typed_operand_count o) f)
      (option_and_then (other_entries (popped (typed_operand_count o) f)) o) else None) e)

  -- an operator on whole numbers
  pub operation_takes : (i : Instruction) (g : IntegerOperator) → integer_row i ≡ operation g →
      Takes context (i ∷ []) (fixed_operands g.operands) (type_of g.result ∷ [])
  operation_takes i g own f =
      let n = length g.operands in
      some_last (check_row context (integer_row i) f)
      ∙ (ap (λ r. check_row context r f) own
      ∙ (ap (λ b. if can_pop n f then option_map (with_pushed n f) (if_typed b (known (type_of g.result ∷ []))) else None) (may_take (popped n f) g.operands)
      ∙ ap (λ (k : ℕ). if can_pop k f then option_map (with_pushed k f)
      (if_typed (take_all (fixed_operands g.operands) (popped k f)) (known (type_of g.result ∷ []))) else None)
      (sym (count g.operands))))
    where
      count : (ts : List PrimitiveTypeInfo) → length (fixed_operands ts) ≡ length ts
      count [] = refl
      count (t ∷ ts) = ap suc (count ts)

  -- a constant
  pub constant_pushes : (i : Instruction) (t : IntegerType) (n : ℕ) → integer_row i ≡ constant t n →
      (f : Frame) → check_code context (i ∷ []) f ≡ Some (with_types (type_of t ∷ []) f)
  constant_pushes i t n own f =
      some_last (check_row context (integer_row i) f)
      ∙ (ap (λ r. check_row context r f) own
      ∙ (ap (λ (ps : List OperandEntry). if can_pop 0 f then option_map (with_pushed 0 f) (row_entries context (constant t n) ps) else None)
      (popped_none f f.operands)
      ∙ (ap (λ (ps : List OperandEntry). if can_pop 0 f then option_map (with_pushed 0 f) (if_typed (take_all [] ps) (known (type_of t ∷ []))) else None)
      (sym (popped_none f f.operands))
      ∙ taken_none (type_of t ∷ []) f f.operands)))

  -- ---- one behind another

  pub check_both : (a b : List Instruction) (f : Frame) → check_code context (a ++ b) f ≡ option_and_then (check_code context b) (check_code context a f)
  check_both [] b f = refl
  check_both (i ∷ a) b f = go (check_row context (integer_row i) f) (check_both a b)
    where
      go : (o : Option Frame) → ((g : Frame) → check_code context (a ++ b) g ≡ option_and_then (check_code context b) (check_code context a g)) →
          option_and_then (check_code context (a ++ b)) o ≡ option_and_then (check_code context b) (option_and_then (check_code context a) o)
      go (Some g) next = next g
      go None next = refl

  -- behind what leaves values, code that takes these
  pub taken_pushed : (a b : List Instruction) (os : List Operand) (ts us : List PrimitiveTypeInfo) → Takes context a os ts →
      ((f : Frame) → check_code context b (with_types ts f) ≡ Some (with_types us f)) → Takes context (a ++ b) os us
  taken_pushed a b os ts us h k f =
      check_both a b f
      ∙ (ap (option_and_then (check_code context b)) (h f)
      ∙ go (can_pop (length os) f) (take_all os (popped (length os) f)))
    where
      go : (c d : Bool) →
          option_and_then (check_code context b) (if c then option_map (with_pushed (length os) f) (if_typed d (known ts)) else None)
          ≡ (if c then option_map (with_pushed (length os) f) (if_typed d (known us)) else None)
      go true true = k (on f (take (length f.operands - length os) f.operands))
      go true false = refl
      go false d = refl

  -- on top of what is left, the last operand is there
  module _ (b : List Instruction) (os : List Operand) (u : PrimitiveTypeInfo) (vs : List PrimitiveTypeInfo)
      (takes_u : Takes context b (os ++ typed (Some u) ∷ []) vs) where
    on_left : (f : Frame) (es : List OperandEntry) → check_code context b (on f (es ++ Some u ∷ [])) ≡ taken os vs (on f es)
    on_left f es =
        takes_u (on f (es ++ Some u ∷ []))
        ∙ (taken_last os (typed (Some u)) vs f es (Some u)
        ∙ ap (λ c. if c then taken os vs (on f es) else None) (same_type_self u))

    -- code that leaves the last operand in the place of another
    pub taken_through : (a : List Instruction) (t : PrimitiveTypeInfo) → Takes context a (typed (Some t) ∷ []) (u ∷ []) →
        Takes context (a ++ b) (os ++ typed (Some t) ∷ []) vs
    taken_through a t h f = go (cut_last f.operands)
      where
        by_last : (es : List OperandEntry) (e : OperandEntry) (c : Bool) →
            option_and_then (check_code context b) (if c then taken [] (u ∷ []) (on f es) else None) ≡ (if c then taken os vs (on f es) else None)
        by_last es e true = ap (option_and_then (check_code context b)) (taken_none (u ∷ []) f es) ∙ on_left f es
        by_last es e false = refl

        by_reached : (c : Bool) →
            option_and_then (check_code context b) (if c then taken [] (u ∷ []) (on f []) else None) ≡ (if c then taken os vs (on f []) else None)
        by_reached c = by_last [] None c

        at : (es : List OperandEntry) → f.operands ≡ es → check_code context (a ++ b) (on f es) ≡ taken (os ++ typed (Some t) ∷ []) vs (on f es) →
            check_code context (a ++ b) f ≡ taken (os ++ typed (Some t) ∷ []) vs f
        at es e is = ap (λ (ds : List OperandEntry). check_code context (a ++ b) (on f ds)) e
            ∙ (is ∙ ap (λ (ds : List OperandEntry). taken (os ++ typed (Some t) ∷ []) vs (on f ds)) (sym e))

        go : (f.operands ≡ []) ⊎ ((es : List OperandEntry) × (e : OperandEntry) × (f.operands ≡ es ++ e ∷ [])) →
            check_code context (a ++ b) f ≡ taken (os ++ typed (Some t) ∷ []) vs f
        go (inl e) = at [] e
            (check_both a b (on f [])
            ∙ (ap (option_and_then (check_code context b)) (h (on f []) ∙ taken_empty [] (typed (Some t)) (u ∷ []) f)
            ∙ (by_reached f.unreachable ∙ sym (taken_empty os (typed (Some t)) vs f))))
        go (inr (es, e, is)) = at (es ++ e ∷ []) is
            (check_both a b (on f (es ++ e ∷ []))
            ∙ (ap (option_and_then (check_code context b)) (h (on f (es ++ e ∷ [])) ∙ taken_last [] (typed (Some t)) (u ∷ []) f es e)
            ∙ (by_last es e (operand_takes (typed (Some t)) e) ∙ sym (taken_last os (typed (Some t)) vs f es e))))

    -- code that pushes the last operand
    pub taken_under : (a : List Instruction) → ((f : Frame) → check_code context a f ≡ Some (with_types (u ∷ []) f)) → Takes context (a ++ b) os vs
    taken_under a h f =
        check_both a b f ∙ (ap (option_and_then (check_code context b)) (h f) ∙ on_left f f.operands)

  -- and where it takes that alone, it leaves its values in its place
  pub pushed_by : (b : List Instruction) (t : PrimitiveTypeInfo) (us : List PrimitiveTypeInfo) → Takes context b (typed (Some t) ∷ []) us →
      (f : Frame) → check_code context b (with_types (t ∷ []) f) ≡ Some (with_types us f)
  pushed_by b t us h f = on_left b [] t us h f f.operands ∙ taken_none us f f.operands
