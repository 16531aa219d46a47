-- The trees before the next operator: what is kept of them is right, and stays so.
use Rattle.std.proofs.Common.{◌≡◌, ℕ, zero, suc, ◌+◌, ◌-◌, ◌<◌, ◌≤◌, ◌⊎◌, inl, inr, Bool, true, false, List, [], ◌∷◌, ◌++◌, length}
use Rattle.std.proofs.Common.{drop, Option, Some, None, refl, sym, ap, ◌∙◌, subst, arith}
use Rattle.std.specs.Prelude.{◌||◌, nat_lt, slice_get}
use Rattle.std.proofs.lemmas.Bool.{cases_lt, lt-ltb, ltb-false, le-ltb}
use Rattle.std.proofs.lemmas.List.{drop-drop}
use Rattle.wasm_code.specs.Instruction.{Instruction}
use Rattle.wasm_code.specs.declared.operator.Operator.{Operator}
use Rattle.wasm_code.specs.declared.operator.Operator.TheVariants.{Instr}
use Rattle.wasm_types.specs.declared.types.PrimitiveTypeInfo.{PrimitiveTypeInfo}
use Rattle.wasm_execution.specs.Values.{Context}
use Rattle.wasm_execution.specs.IntegerRow.{integer_row, is_other}
use Rattle.wasm_execution.specs.Row.{instruction_types, instruction_count}
use Rattle.wasm_execution.specs.RowLemmas.{and_then_some}
use Rattle.rewrite_rules.specs.Code.{row_writes, writes, instruction_traps, traps, asks}
use Rattle.body_rewrites.specs.declared.trees.Open.{Open}
use Rattle.body_rewrites.specs.Trees.{one_type, tree_behind, tree_after, Stands, IsTree}
use Rattle.body_rewrites.specs.Open.{start_of, AreLast, AreOpen, HasInstruction, behind_if, HasEffectsOf, HasNoted, IsNextTree}
use Rattle.body_rewrites.proofs.StandsLemmas.{Operators, Types, nothing_stands, stands_nothing, entry_of, snoc_of, after_snoc, Given, given}
use Rattle.body_rewrites.proofs.StandsLemmas.{writes_last, traps_last, asks_last}

-- ---- nothing open

none_last : (o : Open) → o.starts.items ≡ [] → o.types.items ≡ [] → (at : ℕ) → AreLast o at at []
none_last o starts types at = record {
  few = omega arith;
  last = ap (λ ts. drop (length ts - 0) ts) types;
  begins = sym (ap (λ ss. start_of ss (length ss - 0) at) starts);
}

-- ---- effects

-- the place is behind the operator, or before
pub cut : (s at : ℕ) → s ≤ at + 1 → (s ≡ at + 1) ⊎ (s ≤ at)
cut s at le = go (cases_lt s (at + 1))
  where
    go : (s < at + 1) ⊎ (at + 1 ≤ s) → (s ≡ at + 1) ⊎ (s ≤ at)
    go (inl l) = inr (omega arith)
    go (inr l) = inl (omega arith)

-- one instruction stands there
instruction_in : Instruction → Option Operator → Instruction
instruction_in i (Some (Instr j)) = j
instruction_in i o = i

one_instruction : (operators : Operators) (at : ℕ) (i j : Instruction) → HasInstruction operators at i → HasInstruction operators at j → i ≡ j
unfolding instruction_in
one_instruction operators at i j a b = ap (instruction_in i) (sym a ∙ b)

module _ (operators : Operators) (at : ℕ) (does : List Instruction → Bool) (none : does [] ≡ false) where
  -- code that stands there does that exactly where it begins before the mark
  abbrev Marked : (mark at : ℕ) → Type 0
  Marked mark at = (s : ℕ) (code : List Instruction) → s ≤ at → Stands operators s at code → does code ≡ nat_lt s mark

  -- the mark isn't behind
  within : (mark : ℕ) → Marked mark at → mark ≤ at
  within mark m = ltb-false at mark (sym (m at [] (omega arith) (stands_nothing operators at)) ∙ none)

  nothing_behind : (mark : ℕ) → mark ≤ at + 1 → (s : ℕ) (code : List Instruction) → s ≡ at + 1 → Stands operators s (at + 1) code → does code ≡ nat_lt s mark
  nothing_behind mark low s code e h =
      let nothing : code ≡ [] = nothing_stands operators s code (subst (λ n. Stands operators s n code) (sym e) h) in
      ap does nothing ∙ (none ∙ sym (le-ltb s mark (omega arith)))

  -- no code reaches over the operator
  marked_behind : (mark : ℕ) → Marked mark at → ((s : ℕ) (code : List Instruction) → s ≤ at → Stands operators s (at + 1) code → ⊥) → Marked mark (at + 1)
  marked_behind mark m none_there s code le h = go (cut s at le)
    where
      go : (s ≡ at + 1) ⊎ (s ≤ at) → does code ≡ nat_lt s mark
      go (inl e) = let low = within mark m in nothing_behind mark (omega arith) s code e h
      go (inr l) = absurd (none_there s code l h)

  -- the operator is an instruction, which does that or not
  marked_more : (i : Instruction) (b : Bool) → HasInstruction operators at i → ((code : List Instruction) → does (code ++ i ∷ []) ≡ (does code || b)) →
      (mark : ℕ) → Marked mark at → Marked (behind_if b at mark) (at + 1)
  marked_more i b here last mark m s code le h = go (cut s at le)
    where
      entry : (offset : ℕ) × (slice_get operators at ≡ Some (Instr i, offset))
      entry = entry_of operators at (Instr i) here

      bound : (b : Bool) → behind_if b at mark ≤ at + 1
      bound true = omega arith
      bound false = let low = within mark m in omega arith

      marked : (b : Bool) → s ≤ at → (nat_lt s mark || b) ≡ nat_lt s (behind_if b at mark)
      marked true l = or_true (nat_lt s mark) ∙ sym (lt-ltb s (at + 1) (omega arith))
        where
          or_true : (c : Bool) → (c || true) ≡ true
          or_true true = refl
          or_true false = refl
      marked false l = or_false (nat_lt s mark)
        where
          or_false : (c : Bool) → (c || false) ≡ c
          or_false true = refl
          or_false false = refl

      go : (s ≡ at + 1) ⊎ (s ≤ at) → does code ≡ nat_lt s (behind_if b at mark)
      go (inl e) = nothing_behind (behind_if b at mark) (bound b) s code e h
      go (inr l) =
          let k = snoc_of operators s at (Instr i) entry.0 code l entry.1 h in
          let same : k.last ≡ i = one_instruction operators at k.last i k.has here in
          ap does (k.parts ∙ ap (λ j. k.front ++ j ∷ []) same)
          ∙ (last k.front ∙ (ap (λ c. c || b) (m s k.front l k.stands) ∙ marked b l))

-- all three marks
pub record AreMarked (operators : Operators) (at : ℕ) (o : Open) : Type 0 where
  pub written : Marked operators at writes refl o.written at
  pub trapped : Marked operators at traps refl o.trapped at
  pub asked : Marked operators at asks refl o.asked at

-- ---- the next operator

module _ (context : Context) (operators : Operators) (at : ℕ) (o : Open) (h : AreOpen context operators at o) where
  pub marks : AreMarked operators at o
  marks = record { written = h.written_is; trapped = h.trapped_is; asked = h.asked_is }

  -- no tree is left behind an operator that no typed code reaches over
  pub closed : (new : Open) → new.starts.items ≡ [] → new.types.items ≡ [] →
      ((s : ℕ) (code : List Instruction) (ts : Types) → s ≤ at → Stands operators s (at + 1) code → tree_after context code [] ≡ Some ts → ⊥) →
      AreMarked operators (at + 1) new → AreOpen context operators (at + 1) new
  closed new starts types none m = record {
    aligned = ap length types ∙ sym (ap length starts);
    begun = λ j s e. absurd (no_start j s e);
    leave = λ j s e. absurd (no_start j s e);
    most = λ s code ts le st e. at_end s code ts st e (cut s at le);
    written_is = m.written;
    trapped_is = m.trapped;
    asked_is = m.asked;
  }
    where
      no_start : (j s : ℕ) → slice_get new.starts.items j ≡ Some s → ⊥
      no_start j s e = nothing j (ap (λ l. slice_get l j) (sym starts) ∙ e)
        where
          nothing : (j : ℕ) → slice_get {X = ℕ} [] j ≡ Some s → ⊥
          nothing zero e = cc
          nothing (suc j) e = cc

      at_end : (s : ℕ) (code : List Instruction) (ts : Types) → Stands operators s (at + 1) code → tree_after context code [] ≡ Some ts →
          (s ≡ at + 1) ⊎ (s ≤ at) → AreLast new s (at + 1) ts
      at_end s code ts st e (inr l) = absurd (none s code ts l st e)
      at_end s code ts st e (inl k) =
          let nothing : code ≡ [] = nothing_stands operators s code (subst (λ n. Stands operators s n code) (sym k) st) in
          let empty : [] ≡ ts = same_list (ap (λ c. tree_after context c []) (sym nothing) ∙ e) in
          subst (λ l. AreLast new s (at + 1) l) empty (subst (λ n. AreLast new n (at + 1) []) (sym k) (none_last new starts types (at + 1)))
        where
          same_list : ◌≡◌ {A = Option Types} (Some []) (Some ts) → [] ≡ ts
          same_list e = cc

  -- the operator is no instruction
  pub no_code : at < length operators → ((i : Instruction) → HasInstruction operators at i → ⊥) →
      (s : ℕ) (code : List Instruction) → s ≤ at → Stands operators s (at + 1) code → ⊥
  no_code inside differs s code le st =
      let (p, has) = there operators at inside in
      let k = snoc_of operators s at p.0 p.1 code le has st in
      differs k.last k.has
    where
      there : (xs : Operators) (n : ℕ) → n < length xs → (p : Operator × ℕ) × (slice_get xs n ≡ Some p)
      there [] n l = absurd (omega arith)
      there (x ∷ xs) zero l = (x, refl)
      there (x ∷ xs) (suc n) l = there xs n (omega arith)

  pub unmarked : ((s : ℕ) (code : List Instruction) → s ≤ at → Stands operators s (at + 1) code → ⊥) → (new : Open) → HasEffectsOf o new →
      AreMarked operators (at + 1) new
  unmarked none new e = record {
    written = subst (λ n. Marked operators at writes refl n (at + 1)) (sym e.written) (marked_behind operators at writes refl o.written h.written_is none);
    trapped = subst (λ n. Marked operators at traps refl n (at + 1)) (sym e.trapped) (marked_behind operators at traps refl o.trapped h.trapped_is none);
    asked = subst (λ n. Marked operators at asks refl n (at + 1)) (sym e.asked) (marked_behind operators at asks refl o.asked h.asked_is none);
  }

  -- it is one, and the types of code up to it are of the trees that are kept
  pub record Over (i : Instruction) (s : ℕ) (code : List Instruction) (us : Types) : Type 0 where
    pub front : List Instruction
    pub parts : code ≡ front ++ i ∷ []
    pub stands : Stands operators s at front
    pub types : Types
    pub typed : tree_after context front [] ≡ Some types
    pub last : AreLast o s at types
    pub given : Given context i types us

  pub over : (i : Instruction) → HasInstruction operators at i → (s : ℕ) (code : List Instruction) (us : Types) → s ≤ at → Stands operators s (at + 1) code →
      tree_after context code [] ≡ Some us → Over i s code us
  over i has s code us le st e =
      let (offset, entry) = entry_of operators at (Instr i) has in
      let k = snoc_of operators s at (Instr i) offset code le entry st in
      let same = one_instruction operators at k.last i k.has has in
      let parts : code ≡ k.front ++ i ∷ [] = k.parts ∙ ap (λ j. k.front ++ j ∷ []) same in
      let whole = sym (after_snoc context k.front i []) ∙ (ap (λ c. tree_after context c []) (sym parts) ∙ e) in
      let (ts, a, b) = and_then_some (tree_behind context i) (tree_after context k.front []) us whole in
      record {
        front = k.front;
        parts = parts;
        stands = k.stands;
        types = ts;
        typed = a;
        last = h.most s k.front ts le k.stands a;
        given = given context i ts us b;
      }

  module _ (i : Instruction) (has : HasInstruction operators at i) (mid : Open) (noted : HasNoted i at o mid) where
    pub starts_are : mid.starts.items ≡ o.starts.items
    starts_are = ap (λ v. v.items) noted.starts

    pub types_are : mid.types.items ≡ o.types.items
    types_are = ap (λ v. v.items) noted.types

    pub marked : (new : Open) → HasEffectsOf mid new → AreMarked operators (at + 1) new
    marked new e = record {
      written = subst (λ n. Marked operators at writes refl n (at + 1)) (sym (e.written ∙ noted.written))
          (marked_more operators at writes refl i (row_writes (integer_row i)) has (λ code. writes_last code i) o.written h.written_is);
      trapped = subst (λ n. Marked operators at traps refl n (at + 1)) (sym (e.trapped ∙ noted.trapped))
          (marked_more operators at traps refl i (instruction_traps i) has (λ code. traps_last code i) o.trapped h.trapped_is);
      asked = subst (λ n. Marked operators at asks refl n (at + 1)) (sym (e.asked ∙ noted.asked))
          (marked_more operators at asks refl i (is_other (integer_row i)) has (λ code. asks_last code i) o.asked h.asked_is);
    }

    -- the operands of the instruction in code up to it are the last of all types
    pub operands_are : (s : ℕ) (code : List Instruction) (us : Types) (v : Over i s code us) →
        drop (length v.types - instruction_count context.info i) v.types
        ≡ drop (length o.types.items - instruction_count context.info i) o.types.items
    operands_are s code us v =
        let n = instruction_count context.info i in
        let enough = v.given.enough in
        let few = v.last.few in
        let whole : length o.types.items - length v.types + (length v.types - n) ≡ length o.types.items - n = omega arith in
        ap (drop (length v.types - n)) (sym v.last.last)
        ∙ (drop-drop (length v.types - n) (length o.types.items - length v.types) o.types.items ∙ ap (λ k. drop k o.types.items) whole)

    -- where it has no tree
    pub no_types : IsNextTree context i at mid None → (s : ℕ) (code : List Instruction) (us : Types) → s ≤ at → Stands operators s (at + 1) code →
        tree_after context code [] ≡ Some us → ⊥
    no_types next s code us le st e =
        let n = instruction_count context.info i in
        let v = over i has s code us le st e in
        let enough = v.given.enough in
        let few = v.last.few in
        let aligned = h.aligned in
        let below = length o.types.items - n in
        let sum : below + n ≡ length mid.starts.items = let k = ap length starts_are in omega arith in
        let nothing = next below sum in
        let typed : one_type (instruction_types context i (drop below o.types.items)) ≡ Some v.given.gives =
        ap (λ l. one_type (instruction_types context i l)) (sym (operands_are s code us v)) ∙ v.given.typed in
        differ (sym (ap (λ l. one_type (instruction_types context i (drop below l))) types_are) ∙ nothing) typed
      where
        differ : {A : Type 0} {x : Option A} {a : A} → x ≡ None → x ≡ Some a → ⊥
        differ e f = cc

-- ---- the first operator

pub nothing_open : (context : Context) (operators : Operators) (o : Open) → o.starts.items ≡ [] → o.types.items ≡ [] → o.written ≡ 0 → o.trapped ≡ 0 →
    o.asked ≡ 0 → AreOpen context operators 0 o
nothing_open context operators o starts types w t a = record {
  aligned = ap length types ∙ sym (ap length starts);
  begun = λ j s e. absurd (no_item s j (ap (λ l. slice_get l j) (sym starts) ∙ e));
  leave = λ j s e. absurd (no_item s j (ap (λ l. slice_get l j) (sym starts) ∙ e));
  most = λ s code ts le st e. at_start s code ts (let z : s ≡ 0 = omega arith in z) st e;
  written_is = λ s code le st. no_mark writes refl s code (let z : s ≡ 0 = omega arith in z) st o.written w;
  trapped_is = λ s code le st. no_mark traps refl s code (let z : s ≡ 0 = omega arith in z) st o.trapped t;
  asked_is = λ s code le st. no_mark asks refl s code (let z : s ≡ 0 = omega arith in z) st o.asked a;
}
  where
    no_item : (s j : ℕ) → slice_get {X = ℕ} [] j ≡ Some s → ⊥
    no_item s zero e = cc
    no_item s (suc j) e = cc

    nothing : (s : ℕ) (code : List Instruction) → s ≡ 0 → Stands operators s 0 code → code ≡ []
    nothing s code z st = nothing_stands operators s code (subst (λ n. Stands operators s n code) (sym z) st)

    no_mark : (does : List Instruction → Bool) → does [] ≡ false → (s : ℕ) (code : List Instruction) → s ≡ 0 → Stands operators s 0 code → (mark : ℕ) →
        mark ≡ 0 → does code ≡ nat_lt s mark
    no_mark does none s code z st mark m = ap does (nothing s code z st) ∙ (none ∙ sym (le-ltb s mark (omega (arith, m))))

    at_start : (s : ℕ) (code : List Instruction) (ts : Types) → s ≡ 0 → Stands operators s 0 code → tree_after context code [] ≡ Some ts → AreLast o s 0 ts
    at_start s code ts z st e =
        let empty : [] ≡ ts = same_list (ap (λ c. tree_after context c []) (sym (nothing s code z st)) ∙ e) in
        subst (λ l. AreLast o s 0 l) empty (subst (λ n. AreLast o n 0 []) (sym z) (none_last o starts types 0))
      where
        same_list : ◌≡◌ {A = Option Types} (Some []) (Some ts) → [] ≡ ts
        same_list e = cc

-- no tree, with the operands behind these
pub none_told : (context : Context) (i : Instruction) (at : ℕ) (o : Open) (below : ℕ) → below + instruction_count context.info i ≡ length o.starts.items →
    one_type (instruction_types context i (drop below o.types.items)) ≡ None → IsNextTree context i at o None
none_told context i at o below sum none other same =
    ap (λ n. one_type (instruction_types context i (drop n o.types.items))) (let e : other ≡ below = omega arith in e) ∙ none

-- where the operator has no tree
pub no_tree : (context : Context) (operators : Operators) (at : ℕ) →
    ((s : ℕ) (code : List Instruction) (us : Types) → s ≤ at → Stands operators s (at + 1) code → tree_after context code [] ≡ Some us → ⊥) →
    (start : ℕ) (t : PrimitiveTypeInfo) → IsTree context operators start at t → ⊥
no_tree context operators at none start t is = none start is.code (t ∷ []) is.ordered is.stands is.typed
