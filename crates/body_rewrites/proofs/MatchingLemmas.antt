-- What stands where the parts of a pattern stand.
use Rattle.std.proofs.Common.{◌≡◌, ℕ, zero, suc, ◌+◌, ◌-◌, ◌<◌, ◌≤◌, false, List, [], ◌∷◌, ◌++◌, length, map, take, drop, Some, refl, sym}
use Rattle.std.proofs.Common.{ap, subst, ◌∙◌, arith}
use Rattle.std.specs.Prelude.{option_map, slice_get, slice_range, slice_index_or, if◌then◌else◌}
use Rattle.std.proofs.lemmas.List.{length-map, length-take, length-drop}
use Rattle.std.proofs.lemmas.Option.{slice_get-map}
use Rattle.wasm_code.specs.Instruction.{Instruction}
use Rattle.wasm_code.specs.declared.operator.Operator.{Operator}
use Rattle.wasm_code.specs.declared.operator.Operator.TheVariants.{Instr}
use Rattle.rewrite_rules.specs.declared.pattern.Part.{Part}
use Rattle.body_rewrites.specs.Trees.{Stands}
use Rattle.body_rewrites.specs.Matching.{is_hole, is_slot, operand_at, operators_in, number_at, slot_at, HaveSame, HaveSameCode}
use Rattle.body_rewrites.proofs.StandsLemmas.{Operators, stands_snoc}

-- ---- constants

pub slot_past : (operators : Operators) (ps : List Part) (ks : List ℕ) (i n : ℕ) (d : Part) → length ks ≡ length ps → i < length ps →
    is_slot (slice_index_or ps i d) n ≡ false →
    slot_at operators (drop i ps) (drop i ks) n ≡ slot_at operators (drop (i + 1) ps) (drop (i + 1) ks) n
slot_past operators [] ks i n d e l other = absurd (omega arith)
slot_past operators (p ∷ ps) [] i n d e l other = absurd (omega arith)
slot_past operators (p ∷ ps) (k ∷ ks) zero n d e l other = ap (λ b. if b then number_at operators k else slot_at operators ps ks n) other
slot_past operators (p ∷ ps) (k ∷ ks) (suc i) n d e l other =
    slot_past operators ps ks i n d (omega arith) (omega arith) other
    ∙ ap (λ j. slot_at operators (drop j (p ∷ ps)) (drop j (k ∷ ks)) n) (let s : suc (i + 1) ≡ suc i + 1 = omega arith in s)

-- ---- operands

pub operand_past : (ps : List Part) (ks : List ℕ) (i at n : ℕ) (d : Part) → length ks ≡ length ps → i < length ps →
    is_hole (slice_index_or ps i d) n ≡ false →
    operand_at (drop i ps) (drop i ks) at n ≡ operand_at (drop (i + 1) ps) (drop (i + 1) ks) (slice_index_or ks i 0) n
operand_past [] ks i at n d e l other = absurd (omega arith)
operand_past (p ∷ ps) [] i at n d e l other = absurd (omega arith)
operand_past (p ∷ ps) (k ∷ ks) zero at n d e l other = ap (λ b. if b then (k, at) else operand_at ps ks k n) other
operand_past (p ∷ ps) (k ∷ ks) (suc i) at n d e l other =
    operand_past ps ks i at n d (omega arith) (omega arith) other
    ∙ ap (λ j. operand_at (drop j (p ∷ ps)) (drop j (k ∷ ks)) (slice_index_or ks i 0) n) (let s : suc (i + 1) ≡ suc i + 1 = omega arith in s)

-- ---- ranges

pub length_in : (operators : Operators) (a b : ℕ) → b ≤ length operators → length (operators_in operators a b) ≡ b - a
length_in operators a b l =
    length-map (slice_range operators a b) (λ (o : Operator × ℕ). o.0)
    ∙ (length-take (b - a) (drop a operators) ∙ (let e = length-drop a operators in omega arith))

get_drop : {X : Type 0} (xs : List X) (a i : ℕ) → slice_get (drop a xs) i ≡ slice_get xs (a + i)
get_drop xs zero i = ap (slice_get xs) (let e : i ≡ 0 + i = omega arith in e)
get_drop [] (suc a) i = refl
get_drop (x ∷ xs) (suc a) i = get_drop xs a i ∙ ap (slice_get (x ∷ xs)) (let e : suc (a + i) ≡ suc a + i = omega arith in e)

get_take : {X : Type 0} (xs : List X) (n i : ℕ) → i < n → slice_get (take n xs) i ≡ slice_get xs i
get_take xs zero i l = absurd (omega arith)
get_take [] (suc n) i l = refl
get_take (x ∷ xs) (suc n) zero l = refl
get_take (x ∷ xs) (suc n) (suc i) l = get_take xs n i (omega arith)

pub same_length : (operators : Operators) (one other : ℕ × ℕ) → one.1 ≤ length operators → other.1 ≤ length operators →
    HaveSameCode operators one other → other.1 - other.0 ≡ one.1 - one.0
same_length operators one other l m (code, a, b) =
    let x = length_in operators one.0 one.1 l in
    let y = length_in operators other.0 other.1 m in
    sym y ∙ (ap length (b ∙ sym a) ∙ x)

pub one_more_same : (operators : Operators) (a b i : ℕ) → HaveSameCode operators (a, a + i) (b, b + i) → HaveSame operators (a + i) (b + i) →
    HaveSameCode operators (a, a + (i + 1)) (b, b + (i + 1))
one_more_same operators a b i (code, h, k) (x, p, q) =
    let at : a + i + 1 ≡ a + (i + 1) = omega arith in
    let bt : b + i + 1 ≡ b + (i + 1) = omega arith in (
      code ++ x ∷ [],
      subst (λ n. Stands operators a n (code ++ x ∷ [])) at (stands_snoc operators a (a + i) code x (omega arith) p h),
      subst (λ n. Stands operators b n (code ++ x ∷ [])) bt (stands_snoc operators b (b + i) code x (omega arith) q k),
    )

-- the operator at an index of a range
pub entry_in : (operators : Operators) (a b i : ℕ) → i < b - a → slice_get (operators_in operators a b) i ≡
    slice_get (map (λ (o : Operator × ℕ). o.0) operators) (a + i)
entry_in operators a b i l =
    slice_get-map (λ (o : Operator × ℕ). o.0) (slice_range operators a b) i
    ∙ (ap (option_map (λ (o : Operator × ℕ). o.0)) (get_take (drop a operators) (b - a) i l ∙ get_drop operators a i)
    ∙ sym (slice_get-map (λ (o : Operator × ℕ). o.0) operators (a + i)))

abbrev instr_of : Instruction → Operator
instr_of i = Instr i

pub one_there : (code : List Instruction) (i : ℕ) → i < length code → (x : Instruction) × (slice_get (map instr_of code) i ≡ Some (Instr x))
one_there [] i l = absurd (omega arith)
one_there (x ∷ code) zero l = (x, refl)
one_there (x ∷ code) (suc i) l = one_there code i (omega arith)

pub have_same_at : (operators : Operators) (one other : ℕ × ℕ) (i : ℕ) → one.1 ≤ length operators → other.1 ≤ length operators → i < one.1 - one.0 →
    HaveSameCode operators one other → HaveSame operators (one.0 + i) (other.0 + i)
have_same_at operators one other i l m inside (code, h, k) =
    let count : length code ≡ one.1 - one.0 = sym (length-map code instr_of) ∙ (ap length (sym h) ∙ length_in operators one.0 one.1 l) in
    let same = same_length operators one other l m (code, h, k) in
    let (x, e) = one_there code i (omega (arith, count, inside)) in (
      x,
      sym (entry_in operators one.0 one.1 i inside) ∙ (ap (λ os. slice_get os i) h ∙ e),
      sym (entry_in operators other.0 other.1 i (omega (arith, same, inside))) ∙ (ap (λ os. slice_get os i) k ∙ e),
    )
