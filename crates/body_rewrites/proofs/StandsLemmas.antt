-- Code that stands in a body, with one operator more, and its types and effects.
use Rattle.std.proofs.Common.{◌≡◌, ℕ, zero, suc, ◌+◌, ◌-◌, ◌≤◌, Bool, true, false, List, [], ◌∷◌, ◌++◌, length, map, take, drop, Option}
use Rattle.std.proofs.Common.{Some, None, refl, sym, ap, ap₂, ◌∙◌, arith}
use Rattle.std.specs.Prelude.{◌||◌, nat_le, if◌then◌else◌, option_map, option_and_then, slice_get, slice_range}
use Rattle.std.proofs.lemmas.Bool.{le-leb, leb-true}
use Rattle.std.proofs.lemmas.List.{map-append, drop-drop}
use Rattle.std.proofs.Math.Seq.{take-add}
use Rattle.wasm_code.specs.Instruction.{Instruction}
use Rattle.wasm_code.specs.declared.operator.Operator.{Operator}
use Rattle.wasm_code.specs.declared.operator.Operator.TheVariants.{Instr}
use Rattle.wasm_types.specs.declared.types.PrimitiveTypeInfo.{PrimitiveTypeInfo}
use Rattle.wasm_execution.specs.Values.{Context}
use Rattle.wasm_execution.specs.IntegerRow.{integer_row, is_other}
use Rattle.wasm_execution.specs.Row.{instruction_types, instruction_count}
use Rattle.wasm_execution.specs.RowLemmas.{map_some}
use Rattle.rewrite_rules.specs.Code.{row_writes, writes, instruction_traps, traps, asks}
use Rattle.body_rewrites.specs.Trees.{one_type, tree_behind, tree_after, Stands}
use Rattle.body_rewrites.specs.Open.{HasInstruction}

abbrev pub Operators : Type 0
Operators = List (Operator × ℕ)

abbrev pub Types : Type 0
Types = List PrimitiveTypeInfo

-- ---- places

none_between : {X : Type 0} (xs : List X) (s : ℕ) → slice_range xs s s ≡ []
none_between xs s = ap (λ n. take n (drop s xs)) (let e : s - s ≡ 0 = omega arith in e)

pub one_at : {X : Type 0} (xs : List X) (k : ℕ) (x : X) → slice_get xs k ≡ Some x → take 1 (drop k xs) ≡ x ∷ []
one_at [] k x e = absurd cc
one_at (y ∷ xs) zero x e = ap (λ z. z ∷ []) (let same : y ≡ x = cc in same)
one_at (y ∷ xs) (suc k) x e = one_at xs k x e

pub range_snoc : {X : Type 0} (xs : List X) (s at : ℕ) (x : X) → s ≤ at → slice_get xs at ≡ Some x → slice_range xs s (at + 1) ≡ slice_range xs s at ++ x ∷ []
range_snoc xs s at x le e =
    let more : at + 1 - s ≡ at - s + 1 = omega arith in
    let whole : s + (at - s) ≡ at = omega arith in
    ap (λ n. take n (drop s xs)) more
    ∙ (take-add (at - s) 1 (drop s xs)
    ∙ ap (λ l. take (at - s) (drop s xs) ++ l) (ap (take 1) (drop-drop (at - s) s xs ∙ ap (λ n. drop n xs) whole) ∙ one_at xs at x e))

-- ---- code

abbrev operator_of : Instruction → Operator
operator_of i = Instr i

pub nothing_stands : (operators : Operators) (s : ℕ) (code : List Instruction) → Stands operators s s code → code ≡ []
nothing_stands operators s code h = none code (sym (ap (map (λ (o : Operator × ℕ). o.0)) (none_between operators s)) ∙ h)
  where
    none : (code : List Instruction) → [] ≡ map operator_of code → code ≡ []
    none [] e = refl
    none (i ∷ code) e = absurd cc

pub stands_nothing : (operators : Operators) (s : ℕ) → Stands operators s s []
stands_nothing operators s = ap (map (λ (o : Operator × ℕ). o.0)) (none_between operators s)

-- the operator with its offset
pub entry_of : (operators : Operators) (at : ℕ) (o : Operator) → slice_get (map (λ (p : Operator × ℕ). p.0) operators) at ≡ Some o →
    (offset : ℕ) × (slice_get operators at ≡ Some (o, offset))
entry_of [] at o e = absurd cc
entry_of (p ∷ ps) zero o e = (p.1, ap (λ (q : Operator). Some (q, p.1)) (let same : p.0 ≡ o = cc in same))
entry_of (p ∷ ps) (suc at) o e = entry_of ps at o e

pub operator_of_entry : (operators : Operators) (at : ℕ) (o : Operator) (offset : ℕ) → slice_get operators at ≡ Some (o, offset) →
    slice_get (map (λ (p : Operator × ℕ). p.0) operators) at ≡ Some o
operator_of_entry [] at o offset e = absurd cc
operator_of_entry (p ∷ ps) zero o offset e = ap (option_map (λ (q : Operator × ℕ). q.0)) e
operator_of_entry (p ∷ ps) (suc at) o offset e = operator_of_entry ps at o offset e

pub stands_snoc : (operators : Operators) (s at : ℕ) (code : List Instruction) (i : Instruction) → s ≤ at → HasInstruction operators at i →
    Stands operators s at code → Stands operators s (at + 1) (code ++ i ∷ [])
stands_snoc operators s at code i le here h =
    let (offset, has) = entry_of operators at (Instr i) here in
    ap (map (λ (o : Operator × ℕ). o.0)) (range_snoc operators s at (Instr i, offset) le has)
    ∙ (map-append (λ (o : Operator × ℕ). o.0) (slice_range operators s at) ((Instr i, offset) ∷ [])
    ∙ (ap (λ (l : List Operator). l ++ Instr i ∷ []) h ∙ sym (map-append operator_of code (i ∷ []))))

-- the code up to the operator before, and the instruction of the last one
pub record Snoc (operators : Operators) (s at : ℕ) (code : List Instruction) : Type 0 where
  pub front : List Instruction
  pub last : Instruction
  pub parts : code ≡ front ++ last ∷ []
  pub stands : Stands operators s at front
  pub has : HasInstruction operators at last

last_of : (xs : List Operator) (y : Operator) (code : List Instruction) → xs ++ y ∷ [] ≡ map operator_of code →
    (front : List Instruction) × (i : Instruction) × (code ≡ front ++ i ∷ []) × (xs ≡ map operator_of front) × (y ≡ Instr i)
last_of [] y [] e = absurd cc
last_of [] y (i ∷ []) e = ([], i, refl, refl, cc)
last_of [] y (i ∷ j ∷ code) e = absurd cc
last_of (x ∷ xs) y [] e = absurd cc
last_of (x ∷ xs) y (i ∷ code) e =
    let (front, j, a, b, c) = last_of xs y code (cc) in
    let first : x ≡ Instr i = cc in
    (i ∷ front, j, ap (λ l. i ∷ l) a, ap₂ (λ z zs. z ∷ zs) first b, c)

pub snoc_of : (operators : Operators) (s at : ℕ) (o : Operator) (offset : ℕ) (code : List Instruction) → s ≤ at → slice_get operators at ≡ Some (o, offset) →
    Stands operators s (at + 1) code → Snoc operators s at code
snoc_of operators s at o offset code le has h =
    let (front, i, a, b, c) = last_of (map (λ (p : Operator × ℕ). p.0) (slice_range operators s at)) o code
    (sym (map-append (λ (p : Operator × ℕ). p.0) (slice_range operators s at) ((o, offset) ∷ []))
    ∙ (sym (ap (map (λ (p : Operator × ℕ). p.0)) (range_snoc operators s at (o, offset) le has)) ∙ h)) in
    record { front = front; last = i; parts = a; stands = b; has = operator_of_entry operators at o offset has ∙ ap (λ (p : Operator). Some p) c }

-- ---- types

pub after_snoc : (context : Context) (code : List Instruction) (i : Instruction) (ts : Types) →
    tree_after context (code ++ i ∷ []) ts ≡ option_and_then (tree_behind context i) (tree_after context code ts)
after_snoc context [] i ts = last (tree_behind context i ts)
  where
    last : (o : Option Types) → option_and_then (tree_after context []) o ≡ o
    last (Some us) = refl
    last None = refl
after_snoc context (j ∷ code) i ts = go (tree_behind context j ts) (after_snoc context code i)
  where
    go : (o : Option Types) → ((us : Types) → tree_after context (code ++ i ∷ []) us ≡ option_and_then (tree_behind context i) (tree_after context code us)) →
        option_and_then (tree_after context (code ++ i ∷ [])) o ≡ option_and_then (tree_behind context i) (option_and_then (tree_after context code) o)
    go (Some us) next = next us
    go None next = refl

-- there are as many types as the instruction takes, and it gives one on these
pub record Given (context : Context) (i : Instruction) (ts us : Types) : Type 0 where
  pub gives : PrimitiveTypeInfo
  pub enough : instruction_count context.info i ≤ length ts
  pub typed : one_type (instruction_types context i (drop (length ts - instruction_count context.info i) ts)) ≡ Some gives
  pub left : us ≡ take (length ts - instruction_count context.info i) ts ++ gives ∷ []

pub given : (context : Context) (i : Instruction) (ts us : Types) → tree_behind context i ts ≡ Some us → Given context i ts us
given context i ts us e = go (nat_le (instruction_count context.info i) (length ts)) refl e
  where
    below : ℕ
    below = length ts - instruction_count context.info i

    go : (b : Bool) → nat_le (instruction_count context.info i) (length ts) ≡ b →
        (if b then option_map (λ t. take below ts ++ t ∷ []) (one_type (instruction_types context i (drop below ts))) else None) ≡ Some us →
        Given context i ts us
    go true k e =
        let (t, a, b) = map_some (λ t. take below ts ++ t ∷ []) (one_type (instruction_types context i (drop below ts))) us e in
        record { gives = t; enough = leb-true (instruction_count context.info i) (length ts) k; typed = a; left = sym b }
    go false k e = absurd cc

pub gives_one : (context : Context) (i : Instruction) (ts : Types) (t : PrimitiveTypeInfo) → instruction_count context.info i ≤ length ts →
    one_type (instruction_types context i (drop (length ts - instruction_count context.info i) ts)) ≡ Some t →
    tree_behind context i ts ≡ Some (take (length ts - instruction_count context.info i) ts ++ t ∷ [])
gives_one context i ts t le e =
    let below = length ts - instruction_count context.info i in
    ap (λ b. if b then option_map (λ t. take below ts ++ t ∷ []) (one_type (instruction_types context i (drop below ts))) else None)
    (le-leb (instruction_count context.info i) (length ts) le)
    ∙ ap (option_map (λ t. take below ts ++ t ∷ [])) e

-- ---- effects

either_last : {A : Type 0} (f : A → Bool) (g : List A → Bool) → ((x : A) (xs : List A) → g (x ∷ xs) ≡ (f x || g xs)) → g [] ≡ false →
    (xs : List A) (y : A) → g (xs ++ y ∷ []) ≡ (g xs || f y)
either_last f g step nil [] y = step y [] ∙ (ap (λ b. f y || b) nil ∙ turn (f y) ∙ sym (ap (λ b. b || f y) nil))
  where
    turn : (b : Bool) → (b || false) ≡ (false || b)
    turn true = refl
    turn false = refl
either_last f g step nil (x ∷ xs) y =
    step x (xs ++ y ∷ []) ∙ (ap (λ b. f x || b) (either_last f g step nil xs y) ∙ (group (f x) (g xs) (f y) ∙ sym (ap (λ b. b || f y) (step x xs))))
  where
    group : (a b c : Bool) → (a || (b || c)) ≡ ((a || b) || c)
    group true b c = refl
    group false b c = refl

pub writes_last : (code : List Instruction) (i : Instruction) → writes (code ++ i ∷ []) ≡ (writes code || row_writes (integer_row i))
writes_last code i = either_last (λ i. row_writes (integer_row i)) writes (λ x xs. refl) refl code i

pub traps_last : (code : List Instruction) (i : Instruction) → traps (code ++ i ∷ []) ≡ (traps code || instruction_traps i)
traps_last code i = either_last instruction_traps traps (λ x xs. refl) refl code i

pub asks_last : (code : List Instruction) (i : Instruction) → asks (code ++ i ∷ []) ≡ (asks code || is_other (integer_row i))
asks_last code i = either_last (λ i. is_other (integer_row i)) asks (λ x xs. refl) refl code i
