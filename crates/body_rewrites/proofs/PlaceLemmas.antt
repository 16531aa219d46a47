-- Where a pattern that is found is a line's place, and that no place is forgotten.
use Rattle.std.proofs.Common.{◌≡◌, ℕ, zero, suc, ◌+◌, ◌-◌, ◌%◌, ◌^◌, ◌<◌, ◌≤◌, Bool, true, false, List, [], Option, Some, None, refl, sym}
use Rattle.std.proofs.Common.{ap, ap₂, subst, ◌∙◌, arith}
use Rattle.std.specs.Prelude.{◌&&◌, ◌==◌, nat_lt, get_or, length, option_map, reverse, slice_get}
use Rattle.std.specs.Option.{option_flatten}
use Rattle.std.proofs.lemmas.Bool.{and_parts}
use Rattle.std.proofs.lemmas.Option.{slice_get-map, slice_get_past}
use Rattle.std.proofs.lemmas.List.{get_or_past, reverse-reverse}
use Rattle.wasm_code.specs.Instruction.{Instruction}
use Rattle.wasm_types.specs.declared.types.PrimitiveTypeInfo.{PrimitiveTypeInfo}
use Rattle.wasm_execution.specs.declared.integer.IntegerType.{IntegerType}
use mir.Val.{bits}
use Rattle.wasm_execution.specs.Values.{width_of, Context}
use Rattle.rewrite_rules.specs.declared.order.Effects.{Effects}
use Rattle.rewrite_rules.specs.declared.pattern.Part.{Part}
use Rattle.rewrite_rules.specs.declared.table.Step.{Step}
use Rattle.rewrite_rules.specs.declared.table.Condition as asked
use Rattle.rewrite_rules.specs.declared.table.Condition.TheVariants.{BelowWidth, Power, Mask, Turns}
use Rattle.rewrite_rules.specs.declared.pattern.Number.TheVariants.{Slot}
use Rattle.rewrite_rules.specs.Line.{all_hold}
use Rattle.rewrite_rules.specs.Laws.{TableIsRight}
use Rattle.rewrite_rules.specs.Pattern.{holes}
use Rattle.rewrite_rules.specs.Parts.{parts_code, PartsAreTheCode}
use Rattle.rewrite_rules.specs.Holes.{HolesAreTold}
use Rattle.rewrite_rules.specs.Numbers.{constant_at, low, lowest_bit}
use Rattle.rewrite_rules.specs.Order.{is_in, effect_at}
use Rattle.rewrite_rules.specs.Instance.{Applies}
use Rattle.rewrite_rules.specs.Operands.{IsTypeIn}
use Rattle.rewrite_rules.specs.Table.{parts_for, conditions_for, SidesAreParts}
use Rattle.rewrite_rules.specs.Applying.{effects_of, IsFormed, AreFoundInHoles}
use Rattle.body_rewrites.specs.declared.places.Line.{Line}
use Rattle.body_rewrites.specs.declared.places.Place.{Place}
use Rattle.body_rewrites.specs.Trees.{Stands}
use Rattle.body_rewrites.specs.Cutting.{AreCut}
use Rattle.body_rewrites.specs.Matching.{is_own, operand_at, operand_code, slots_told, begin_of, AreAlike, IsMatch, HasSomeMatch, LeftsAreInstances}
use Rattle.body_rewrites.specs.Operands.{has_hole}
use Rattle.body_rewrites.specs.Places.{IsLine, meant, IsPlaceOfLine, IsFoundPlaceOf, left_parts, hole_operands_in, hole_places_told}
use Rattle.body_rewrites.specs.Places.{place_told, HoleIsKnown, AreKnown}
use Rattle.body_rewrites.proofs.StandsLemmas.{Operators}
use Rattle.body_rewrites.proofs.FoundLemmas.{one_cut, code_found, number_found}
use Rattle.body_rewrites.proofs.LeftRowLemmas.{IsPlainLeft, plain_left, asks_slot, slot_in, hole_some}
use Rattle.body_rewrites.proofs.OperandLemmas.{StandsIn, tree_there, operand_stands, nothing_there}
use Rattle.body_rewrites.proofs.SplitLemmas.{IsCutSo, cut_of}
use Rattle.body_rewrites.proofs.CodeLemmas.{begins_before}

-- ---- conditions

asked_alike : (t : IntegerType) (c d : ℕ → ℕ) (k : Option asked.Condition) (steps : List Step) → asks_slot k steps ≡ true →
    ((n : ℕ) → is_own (Slot n) ≡ true → slot_in n steps ≡ true → low t (c n) ≡ low t (d n)) →
    all_hold c (conditions_for t k) ≡ all_hold d (conditions_for t k)
asked_alike t c d None steps e same = refl
asked_alike t c d (Some (BelowWidth i)) steps e same =
    let (own, is) = and_parts (is_own (Slot i)) (slot_in i steps) e in
    ap (λ n. nat_lt n (bits (width_of t)) && true) (same i own is)
asked_alike t c d (Some (Power i)) steps e same =
    let (own, is) = and_parts (is_own (Slot i)) (slot_in i steps) e in
    ap (λ n. (2 ^ lowest_bit t n == n) && true) (same i own is)
asked_alike t c d (Some (Mask i)) steps e same =
    let (own, is) = and_parts (is_own (Slot i)) (slot_in i steps) e in
    ap (λ n. (nat_lt n (2 ^ bits (width_of t) - 1) && (2 ^ lowest_bit t (n + 1) == n + 1)) && true) (same i own is)
asked_alike t c d (Some (Turns i j)) steps e same =
    let (first, second) = and_parts (is_own (Slot i) && slot_in i steps) (is_own (Slot j) && slot_in j steps) e in
    let (own, is) = and_parts (is_own (Slot i)) (slot_in i steps) first in
    let (other, there) = and_parts (is_own (Slot j)) (slot_in j steps) second in
    ap₂ (λ n m. ((n % bits (width_of t) + m % bits (width_of t)) % bits (width_of t) == 0) && true) (same i own is) (same j other there)

-- ---- the line of a row

pub formed : TableIsRight → (line : Line) → IsLine line → IsFormed line.row line.width
formed right line is =
    right.formed is.number line.row is.row_is is.place (meant line)
    (slice_get-map _ _ is.place ∙ ap (option_map _) is.width_is)

module _ (right : TableIsRight) (holes_are : HolesAreTold) (line : Line) (is : IsLine line) (parts : List Part)
    (parts_are : reverse parts ≡ parts_for line.width line.row.left) where
  plain : IsPlainLeft line.row line.width parts
  plain = plain_left is.number line.row is.row_is line.width parts parts_are

  has : (n : ℕ) → is_in (holes (meant line).left) n ≡ has_hole parts n
  has n = ap (λ ns. is_in ns n) (holes_are line.row line.width (formed right line is)).0 ∙ plain.holes_are n

  few : (n : ℕ) → is_in (holes (meant line).left) n ≡ true → n < 3
  few n e = plain.few n (sym (ap (λ ns. is_in ns n) (holes_are line.row line.width (formed right line is)).0) ∙ e)

  -- from the third hole on there is none
  past : (n : ℕ) → 3 ≤ n → is_in (holes (meant line).left) n ≡ false
  past n l = go (is_in (holes (meant line).left) n) refl
    where
      go : (b : Bool) → is_in (holes (meant line).left) n ≡ b → is_in (holes (meant line).left) n ≡ false
      go true e =
          let k = few n e in
          absurd (omega arith)
      go false e = e

  module _ (context : Context) (operators : Operators) (sides : SidesAreParts) (codes : PartsAreTheCode) (end start : ℕ) (y : ℕ → List Instruction)
      (nums : List ℕ) (p : IsPlaceOfLine context operators (meant line) start end y nums) where
    -- the parts stand there
    cut_so : IsCutSo context operators y (constant_at nums) parts start end
    cut_so =
        let stands = subst (Stands operators start end)
        (codes y (constant_at nums) [] (meant line).left
        ∙ ap (parts_code y (constant_at nums) []) ((sides is.number line.row is.row_is is.place line.width is.width_is).0 ∙ sym parts_are)) p.stands in
        cut_of context operators y (constant_at nums) parts start end p.inside p.ordered plain.none_drawn (λ n e. p.trees n (has n ∙ e)) stands

    pub match_of : HasSomeMatch context operators parts end
    match_of = (cut_so.starts, nums, y, record { cut = cut_so.cut; alike = cut_so.alike })

    module _ (starts : List ℕ) (cut : AreCut context operators parts starts end) where
      alike : AreAlike operators y (constant_at nums) parts starts end
      alike =
          subst (λ l. AreAlike operators y (constant_at nums) parts l end) (one_cut context operators parts cut_so.starts starts end cut_so.cut cut)
          cut_so.alike

      same_code : (n : ℕ) (b : Bool) → has_hole parts n ≡ b → operand_code operators parts starts end n ≡ y n
      same_code n true e = code_found context operators line.width y nums n parts starts end alike (sym (hole_some n parts) ∙ e)
      same_code n false e = nothing_there context operators n parts starts end cut e ∙ sym (p.elsewhere n (has n ∙ e))

      -- it applies to what is found there
      pub applies_to : (found : List ℕ) → IsMatch context operators parts starts end (operand_code operators parts starts end) found →
          Applies context (meant line) (operand_code operators parts starts end) (constant_at found)
      applies_to found m =
          let same : y ≡ operand_code operators parts starts end = λ i. λ n. sym (same_code n (has_hole parts n) refl) i in
          let there = subst (λ z. Applies context (meant line) z (constant_at nums)) same p.applies in
          record {
            type = there.type;
            numeric = there.numeric;
            leave = there.leave;
            as_asked = asked_alike line.width (constant_at found) (constant_at nums) line.row.condition line.row.left plain.asks
                (λ n own there.
                sym (number_found context operators line.width (operand_code operators parts starts end) found n parts starts end cut m.alike plain.own
                (plain.slots n there))
                ∙ number_found context operators line.width y nums n parts starts end cut alike plain.own (plain.slots n there))
                ∙ there.as_asked;
            moves = there.moves;
            exact = there.exact;
          }

  module _ (context : Context) (operators : Operators) (starts : List ℕ) (end : ℕ) (cut : AreCut context operators parts starts end) where
    abbrev pub x : ℕ → List Instruction
    x = operand_code operators parts starts end

    none_elsewhere : (n : ℕ) → is_in (holes (meant line).left) n ≡ false → x n ≡ []
    none_elsewhere n e = nothing_there context operators n parts starts end cut (sym (has n) ∙ e)

    -- ---- what is known of what stands there

    module _ (types : List (Option PrimitiveTypeInfo)) (effects : List Effects) (known : AreKnown context operators parts starts end types effects) where
      of_code : (n : ℕ) (b : Bool) (t : Option PrimitiveTypeInfo) (e : Effects) → has_hole parts n ≡ b → HoleIsKnown context (x n) b t e → e ≡ effects_of (x n)
      of_code n b (Some t) e k (f, g, h) = h
      of_code n b None e k (f, g) = g ∙ sym (ap effects_of (none_elsewhere n (has n ∙ (k ∙ f))))

      typed : (n : ℕ) (b : Bool) (t : Option PrimitiveTypeInfo) (e : Effects) → HoleIsKnown context (x n) b t e → IsTypeIn context (x n) b t
      typed n b (Some t) e (f, g, h) = (f, g)
      typed n b None e (f, g) = f

      inside : (n : ℕ) → n < 3 → IsTypeIn context (x n) (has_hole parts n) (option_flatten (slice_get types n)) × (effect_at effects n ≡ effects_of (x n))
      inside n l =
          let k = known.each n l in (
            typed n (has_hole parts n) (option_flatten (slice_get types n)) (effect_at effects n) k,
            of_code n (has_hole parts n) (option_flatten (slice_get types n)) (effect_at effects n) refl k,
          )

      outside : (n : ℕ) → 3 ≤ n → IsTypeIn context (x n) (has_hole parts n) (option_flatten (slice_get types n)) × (effect_at effects n ≡ effects_of (x n))
      outside n l =
          let none = past n l in (
            subst (λ o. IsTypeIn context (x n) (has_hole parts n) (option_flatten o)) (sym (slice_get_past types n (omega (arith, known.types_count, l))))
                (sym (has n) ∙ none),
            get_or_past effects n (record { writes = false; traps = false; asks = false }) (omega (arith, known.effects_count, l))
                ∙ sym (ap effects_of (none_elsewhere n none)),
          )

      anywhere : (n : ℕ) → IsTypeIn context (x n) (has_hole parts n) (option_flatten (slice_get types n)) × (effect_at effects n ≡ effects_of (x n))
      anywhere zero = inside 0 (omega arith)
      anywhere (suc zero) = inside 1 (omega arith)
      anywhere (suc (suc zero)) = inside 2 (omega arith)
      anywhere (suc (suc (suc n))) = outside (suc (suc (suc n))) (omega arith)

      pub are_found : (exact : Bool) → exact ≡ context.info.exact → AreFoundInHoles context x line.row line.width types effects exact
      are_found exact is = record {
        types_are = λ n. subst (λ b. IsTypeIn context (x n) b (option_flatten (slice_get types n))) (sym (has n)) (anywhere n).0;
        effects_are = λ n. (anywhere n).1;
        exact_is = is;
      }

    -- ---- the place

    same_operands : (n : ℕ) → x n ≡ hole_operands_in operators
        (hole_places_told parts starts end) n
    same_operands zero = refl
    same_operands (suc zero) = refl
    same_operands (suc (suc zero)) = refl
    same_operands (suc (suc (suc n))) = none_elsewhere (suc (suc (suc n))) (past (suc (suc (suc n))) (omega arith))

    place_at : LeftsAreInstances → end ≤ length operators → (numbers : List ℕ) → IsMatch context operators parts starts end x numbers →
        Applies context (meant line) x (constant_at numbers) →
        IsPlaceOfLine context operators (meant line) (begin_of starts end) end (hole_operands_in operators (hole_places_told parts starts end)) numbers
    place_at lefts l numbers match applies =
        let there : IsPlaceOfLine context operators (meant line) (begin_of starts end) end x numbers =
        record {
          ordered = begins_before context operators parts starts end cut;
          inside = l;
          stands = lefts.code is.number line.row is.row_is is.place line.width is.width_is parts parts_are context operators starts end x numbers match;
          trees = λ n e. tree_there context operators n parts starts end (sym (has n) ∙ e) cut;
          elsewhere = none_elsewhere;
          applies = applies;
        } in
        subst (λ z. IsPlaceOfLine context operators (meant line) (begin_of starts end) end z numbers) (λ i. λ n. same_operands n i) there

    pub is_place : LeftsAreInstances → end ≤ length operators → (place : Place) → place ≡ place_told operators parts starts end →
        IsMatch context operators parts starts end x place.numbers → Applies context (meant line) x (constant_at place.numbers) →
        IsFoundPlaceOf context operators line end place
    is_place lefts l place told match applies = record {
      is = subst (λ (p : Place). IsPlaceOfLine context operators (meant line) p.start end (hole_operands_in operators p.operands) p.numbers) (sym told)
          (place_at lefts l (place_told operators parts starts end).numbers
          (subst (λ (p : Place). IsMatch context operators parts starts end x p.numbers) told match)
          (subst (λ (p : Place). Applies context (meant line) x (constant_at p.numbers)) told applies));
      starts = starts;
      cut = subst (λ ps. AreCut context operators ps starts end) left cut;
      place_is = told ∙ ap (λ ps. place_told operators ps starts end) left;
    }
      where
        left : parts ≡ left_parts line
        left = sym (reverse-reverse parts) ∙ ap reverse parts_are

-- ---- of what is found

pub one_place_of : (context : Context) (operators : Operators) (line : Line) (end : ℕ) (p q : Place) → IsFoundPlaceOf context operators line end p →
    IsFoundPlaceOf context operators line end q → p ≡ q
one_place_of context operators line end p q a b =
    a.place_is
    ∙ (ap (λ ks. place_told operators (left_parts line) ks end) (one_cut context operators (left_parts line) a.starts b.starts end a.cut b.cut)
    ∙ sym b.place_is)

pub operand_found : TableIsRight → HolesAreTold → (context : Context) (operators : Operators) (line : Line) (end : ℕ) (place : Place) → IsLine line →
    IsFoundPlaceOf context operators line end place → (n : ℕ) → is_in (holes (meant line).left) n ≡ true →
    StandsIn operators end (get_or place.operands n (0, 0)) (hole_operands_in operators place.operands n)
operand_found right holes_are context operators line end place is found n e =
    subst (λ (p : Place). StandsIn operators end (get_or p.operands n (0, 0)) (hole_operands_in operators p.operands n)) (sym found.place_is)
    (subst (λ p. StandsIn operators end p (hole_operands_in operators (hole_places_told (left_parts line) found.starts end) n)) (at n e)
    (subst (StandsIn operators end (operand_at (left_parts line) found.starts end n)) (same n)
    (operand_stands context operators n (left_parts line) found.starts end
    (sym (has right holes_are line is (left_parts line) (reverse-reverse (parts_for line.width line.row.left)) n) ∙ e) found.cut)))
  where
    at : (n : ℕ) → is_in (holes (meant line).left) n ≡ true →
        operand_at (left_parts line) found.starts end n ≡ get_or (hole_places_told (left_parts line) found.starts end) n (0, 0)
    at zero e = refl
    at (suc zero) e = refl
    at (suc (suc zero)) e = refl
    at (suc (suc (suc n))) e =
        let l = few right holes_are line is (left_parts line) (reverse-reverse (parts_for line.width line.row.left)) (suc (suc (suc n))) e in
        absurd (omega arith)

    same : (n : ℕ) → operand_code operators (left_parts line) found.starts end n ≡
        hole_operands_in operators (hole_places_told (left_parts line) found.starts end) n
    same n =
        same_operands right holes_are line is (left_parts line) (reverse-reverse (parts_for line.width line.row.left)) context operators found.starts end
        found.cut n

pub told_is : (operators : Operators) (parts : List Part) (starts : List ℕ) (end start : ℕ) (operands : List (ℕ × ℕ)) (numbers : List ℕ) →
    start ≡ begin_of starts end → operands ≡ hole_places_told parts starts end → numbers ≡ slots_told operators parts starts →
    ◌≡◌ {A = Place} (record { start = start; operands = operands; numbers = numbers }) (place_told operators parts starts end)
told_is operators parts starts end start operands numbers a b c = λ i. record { start = a i; operands = b i; numbers = c i }
