-- An operator has one tree at most.
use Rattle.std.proofs.Common.{◌≡◌, ℕ, ◌+◌, ◌-◌, ◌<◌, ◌≤◌, List, [], ◌∷◌, ◌++◌, length, map, take, drop, Option, Some, None, refl, sym, ap}
use Rattle.std.proofs.Common.{ap₂, ◌∙◌, subst, append_assoc, length-append, arith}
use Rattle.std.specs.Prelude.{option_and_then, slice_range}
use Rattle.std.proofs.lemmas.List.{map-append, length-map, length-drop, length-take-le, drop-drop, take_at, drop_at}
use Rattle.std.proofs.Math.Seq.{take-add}
use Rattle.wasm_code.specs.Instruction.{Instruction}
use Rattle.wasm_code.specs.declared.operator.Operator.{Operator}
use Rattle.wasm_code.specs.declared.operator.Operator.TheVariants.{Instr}
use Rattle.wasm_execution.specs.Values.{Context}
use Rattle.wasm_execution.specs.Row.{instruction_types, instruction_count}
use Rattle.wasm_execution.specs.RowLemmas.{and_then_some}
use Rattle.body_rewrites.specs.Trees.{one_type, tree_behind, tree_after, Stands}
use Rattle.body_rewrites.proofs.StandsLemmas.{Operators, Types, given, gives_one}

-- ---- code in two parts

pub range_split : {X : Type 0} (xs : List X) (s m e : ℕ) → s ≤ m → m ≤ e → slice_range xs s e ≡ slice_range xs s m ++ slice_range xs m e
range_split xs s m e le l =
    let whole : e - s ≡ m - s + (e - m) = omega arith in
    let place : s + (m - s) ≡ m = omega arith in
    ap (λ n. take n (drop s xs)) whole
    ∙ (take-add (m - s) (e - m) (drop s xs)
    ∙ ap (λ y. take (m - s) (drop s xs) ++ take (e - m) y) (drop-drop (m - s) s xs ∙ ap (λ n. drop n xs) place))

abbrev operator_of : Instruction → Operator
operator_of i = Instr i

-- instructions that are those operators, in two parts
halves : (xs ys : List Operator) (code : List Instruction) → xs ++ ys ≡ map operator_of code →
    (front : List Instruction) × (back : List Instruction) × (code ≡ front ++ back) × (xs ≡ map operator_of front) × (ys ≡ map operator_of back)
halves [] ys code e = ([], code, refl, refl, e)
halves (x ∷ xs) ys [] e = absurd cc
halves (x ∷ xs) ys (i ∷ code) e =
    let (front, back, a, b, c) = halves xs ys code (cc) in
    let first : x ≡ Instr i = cc in
    (i ∷ front, back, ap (λ l. i ∷ l) a, ap₂ (λ z zs. z ∷ zs) first b, c)

pub record Split (operators : Operators) (s m e : ℕ) (code : List Instruction) : Type 0 where
  pub front : List Instruction
  pub back : List Instruction
  pub parts : code ≡ front ++ back
  pub first : Stands operators s m front
  pub second : Stands operators m e back

pub split : (operators : Operators) (s m e : ℕ) (code : List Instruction) → s ≤ m → m ≤ e → Stands operators s e code → Split operators s m e code
split operators s m e code le l h =
    let f = λ (o : Operator × ℕ). o.0 in
    let (front, back, a, b, c) = halves (map f (slice_range operators s m)) (map f (slice_range operators m e)) code
    (sym (map-append f (slice_range operators s m) (slice_range operators m e)) ∙ (sym (ap (map f) (range_split operators s m e le l)) ∙ h)) in
    record { front = front; back = back; parts = a; first = b; second = c }

same_code : (code other : List Instruction) → map operator_of code ≡ map operator_of other → code ≡ other
same_code [] [] e = refl
same_code [] (j ∷ other) e = absurd cc
same_code (i ∷ code) [] e = absurd cc
same_code (i ∷ code) (j ∷ other) e =
    let same : i ≡ j = cc in
    ap₂ (λ x xs. x ∷ xs) same (same_code code other (cc))

-- one code stands there
pub one_code : (operators : Operators) (s e : ℕ) (code other : List Instruction) → Stands operators s e code → Stands operators s e other → code ≡ other
one_code operators s e code other a b = same_code code other (sym a ∙ b)

-- nothing stands only between a place and itself
pub nothing_between : (operators : Operators) (s m : ℕ) → s ≤ m → m ≤ length operators → Stands operators s m [] → s ≡ m
nothing_between operators s m le l h =
    let count : length (slice_range operators s m) ≡ 0 = sym (length-map (slice_range operators s m) (λ (o : Operator × ℕ). o.0)) ∙ ap length h in
    let rest : length (drop s operators) ≡ length operators - s = length-drop s operators in
    let taken : length (slice_range operators s m) ≡ m - s = length-take-le (m - s) (drop s operators) (omega arith) in
    omega arith

-- ---- types

module _ (context : Context) where
  pub after_append : (a b : List Instruction) (ts : Types) → tree_after context (a ++ b) ts ≡ option_and_then (tree_after context b) (tree_after context a ts)
  after_append [] b ts = refl
  after_append (i ∷ a) b ts = go (tree_behind context i ts) (after_append a b)
    where
      go : (o : Option Types) → ((us : Types) → tree_after context (a ++ b) us ≡ option_and_then (tree_after context b) (tree_after context a us)) →
          option_and_then (tree_after context (a ++ b)) o ≡ option_and_then (tree_after context b) (option_and_then (tree_after context a) o)
      go (Some us) next = next us
      go None next = refl

  -- above other types
  behind_above : (i : Instruction) (below ts us : Types) → tree_behind context i ts ≡ Some us → tree_behind context i (below ++ ts) ≡ Some (below ++ us)
  behind_above i below ts us e =
      let g = given context i ts us e in
      let n = instruction_count context.info i in
      let enough = g.enough in
      let long : length (below ++ ts) ≡ length below + length ts = length-append below ts in
      let front : length (below ++ ts) - n ≡ length below + (length ts - n) = omega arith in
      let operands : drop (length (below ++ ts) - n) (below ++ ts) ≡ drop (length ts - n) ts =
      ap (λ k. drop k (below ++ ts)) front
      ∙ (sym (drop-drop (length ts - n) (length below) (below ++ ts)) ∙ ap (drop (length ts - n)) (drop_at below ts (length below) refl)) in
      let kept : take (length (below ++ ts) - n) (below ++ ts) ≡ below ++ take (length ts - n) ts =
      ap (λ k. take k (below ++ ts)) front
      ∙ (take-add (length below) (length ts - n) (below ++ ts)
      ∙ ap₂ (λ x y. x ++ take (length ts - n) y) (take_at below ts (length below) refl) (drop_at below ts (length below) refl)) in
      gives_one context i (below ++ ts) g.gives (omega arith) (ap (λ l. one_type (instruction_types context i l)) operands ∙ g.typed)
      ∙ ap (λ l. Some l) (ap (λ l. l ++ g.gives ∷ []) kept ∙ (append_assoc below (take (length ts - n) ts) (g.gives ∷ []) ∙ ap (λ l. below ++ l) (sym g.left)))

  pub after_above : (code : List Instruction) (below ts us : Types) → tree_after context code ts ≡ Some us →
      tree_after context code (below ++ ts) ≡ Some (below ++ us)
  after_above [] below ts us e = ap (λ (o : Option Types). above_all o) e
    where
      above_all : Option Types → Option Types
      above_all (Some l) = Some (below ++ l)
      above_all None = None
  after_above (i ∷ code) below ts us e =
      let (ms, k, l) = and_then_some (tree_after context code) (tree_behind context i ts) us e in
      ap (option_and_then (tree_after context code)) (behind_above i below ts ms k) ∙ after_above code below ms us l

  -- code that leaves nothing is none
  pub leaves_some : (code : List Instruction) (us : Types) → tree_after context code us ≡ Some [] → code ≡ []
  leaves_some [] us e = refl
  leaves_some (i ∷ code) us e =
      let (ms, k, l) = and_then_some (tree_after context code) (tree_behind context i us) [] e in
      let g = given context i us ms k in
      let long : length ms ≡ length (take (length us - instruction_count context.info i) us) + 1 =
      ap length g.left ∙ length-append (take (length us - instruction_count context.info i) us) (g.gives ∷ []) in
      let some = some_left code ms [] (omega arith) l in
      absurd (omega arith)
    where
      some_left : (code : List Instruction) (ts us : Types) → 0 < length ts → tree_after context code ts ≡ Some us → 0 < length us
      some_left [] ts us l e = let same : ts ≡ us = cc in subst (λ x. 0 < length x) same l
      some_left (j ∷ code) ts us l e =
          let (ms, k, m) = and_then_some (tree_after context code) (tree_behind context j ts) us e in
          let g = given context j ts ms k in
          let long : length ms ≡ length (take (length ts - instruction_count context.info j) ts) + 1 =
          ap length g.left ∙ length-append (take (length ts - instruction_count context.info j) ts) (g.gives ∷ []) in
          some_left code ms us (omega arith) m
