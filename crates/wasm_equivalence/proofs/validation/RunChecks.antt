-- Valid code is never stuck.
use Rattle.std.proofs.Common.{◌≡◌, ℕ, ◌-◌, ◌≤◌, Bool, true, false, List, [], ◌∷◌, ◌++◌, length, take, drop, Option, Some, None, refl, sym}
use Rattle.std.proofs.Common.{ap, ap₂, ◌∙◌, subst, arith, append_assoc}
use Rattle.std.specs.Prelude.{◌||◌, nat_le, replicate, option_map, if◌then◌else◌}
use Rattle.std.specs.List.{All}
use Rattle.std.proofs.lemmas.Bool.{leb-true}
use Rattle.std.proofs.lemmas.List.{take-map, drop-map, map-append, take_at, drop_at, take-append-drop, length-map, length-drop}
use Rattle.std.proofs.lemmas.List.Elements.{All-take, All-drop, All-append}
use Rattle.wasm_code.specs.Instruction.{Instruction}
use Rattle.wasm_types.specs.Module.{Module}
use Rattle.wasm_types.specs.declared.types.PrimitiveTypeInfo.{PrimitiveTypeInfo}
use Rattle.wasm_execution.specs.Values.{Value, IsValue, types, Context, State, HasTypes, Outcome, Ends, Traps, Stuck, then_run, above}
use Rattle.wasm_execution.specs.IntegerRow.{IntegerRow, operand_count, row_types, integer_row}
use Rattle.wasm_execution.specs.Machine.{act, step, run}
use Rattle.wasm_execution.specs.Agreement.{EndsTyped}
use Rattle.wasm_execution.specs.OutcomeLemmas.{types_append, length_types}
use Rattle.wasm_execution.specs.RowLemmas.{and_then_some, map_some, step_at}
use Rattle.wasm_execution.specs.TypeLemmas.{act_typed}
use Rattle.wasm_equivalence.specs.validation.Algorithm.{OperandEntry, known, row_entries, Frame, can_pop, popped, with_pushed, check_row, check_code}
use Rattle.wasm_equivalence.specs.validation.Sound.{HasValues, EndsIn, ValidCodeRuns}
use Rattle.wasm_equivalence.proofs.validation.RowChecks.{known_checks}

pub known_append : (ts us : List PrimitiveTypeInfo) → known (ts ++ us) ≡ known ts ++ known us
known_append ts us = map-append (λ (t : PrimitiveTypeInfo). Some t) ts us

pub known_drop : (n : ℕ) (vs : List Value) → drop n (known (types vs)) ≡ known (types (drop n vs))
known_drop n vs =
    drop-map (λ (t : PrimitiveTypeInfo). Some t) n (types vs) ∙ ap known (drop-map (λ (v : Value). v.type) n vs)

pub known_take : (n : ℕ) (vs : List Value) → take n (known (types vs)) ≡ known (types (take n vs))
known_take n vs =
    take-map (λ (t : PrimitiveTypeInfo). Some t) n (types vs) ∙ ap known (take-map (λ (v : Value). v.type) n vs)

pub known_count : (vs : List Value) → length (known (types vs)) ≡ length vs
known_count vs = length-map (types vs) (λ (t : PrimitiveTypeInfo). Some t) ∙ length_types vs

-- what a frame with values pops: its last ones
pub record Pops (f : Frame) (vs : List Value) (n : ℕ) : Type 0 where
  pub enough : n ≤ length vs
  pub popped_are : popped n f ≡ known (types (drop (length vs - n) vs))
  pub left : (es : List OperandEntry) → with_pushed n f es ≡ record f { operands = known (types (take (length vs - n) vs)) ++ es }

or_false : (b c : Bool) → c ≡ false → b || c ≡ true → b ≡ true
or_false true c e h = refl
or_false false true e h = absurd cc
or_false false false e h = h

pub pops : (f : Frame) (vs : List Value) (n : ℕ) → HasValues f vs → can_pop n f ≡ true → Pops f vs n
pops f vs n h e =
    let count : length f.operands ≡ length vs = ap length h.operands_are ∙ known_count vs in
    let l : n ≤ length f.operands = leb-true n (length f.operands) (or_false (nat_le n (length f.operands)) f.unreachable h.reached e) in
    let none : n - length f.operands ≡ 0 = omega arith in
    record {
      enough = omega arith;
      popped_are = ap (λ (k : ℕ). replicate k None ++ drop (length f.operands - n) f.operands) none ∙
          (ap₂ (λ (k : ℕ) (es : List OperandEntry). drop (k - n) es) count h.operands_are ∙ known_drop (length vs - n) vs);
      left = λ es. ap (λ (x : List OperandEntry). record f { operands = x ++ es })
          (ap₂ (λ (k : ℕ) (x : List OperandEntry). take (k - n) x) count h.operands_are ∙ known_take (length vs - n) vs);
    }

pub if_some : {A : Type 0} (b : Bool) (o : Option A) (x : A) → (if b then o else None) ≡ Some x → (b ≡ true) × (o ≡ Some x)
if_some true o x e = (refl, e)
if_some false o x e = absurd cc

module _ (context : Context) where
  -- one row, as it is checked and as it runs
  record Steps (row : IntegerRow) (f g : Frame) (below vs : List Value) (s : State) : Type 0 where
    rest : List Value
    operands : List Value
    results : List PrimitiveTypeInfo
    values : All IsValue operands
    kept : All IsValue (below ++ rest)
    gives : row_types context row (types operands) ≡ Some results
    steps : step row (below ++ vs) s ≡ above (below ++ rest) (act row operands s)
    next : g ≡ record f { operands = known (types rest) ++ known results }

  row_steps : (row : IntegerRow) (f g : Frame) (below vs : List Value) (s : State) → check_row context row f ≡ Some g → HasValues f vs →
      All IsValue (below ++ vs) → HasTypes context s → Steps row f g below vs s
  row_steps row f g below vs s e h a typed =
      let n = operand_count context.info row in
      let (can, b) = if_some (can_pop n f) (option_map (with_pushed n f) (row_entries context row (popped n f))) g e in
      let p = pops f vs n h can in
      let k = length vs - n in
      let (rs, c, d) = map_some (with_pushed n f) (row_entries context row (popped n f)) g b in
      let there : option_map known (row_types context row (types (drop k vs))) ≡ Some rs =
      sym (known_checks context row (types (drop k vs))) ∙ (ap (row_entries context row) (sym p.popped_are) ∙ c) in
      let (us, u, v) = map_some known (row_types context row (types (drop k vs))) rs there in
      let whole : below ++ vs ≡ (below ++ take k vs) ++ drop k vs =
      ap (λ (x : List Value). below ++ x) (sym (take-append-drop k vs)) ∙ sym (append_assoc below (take k vs) (drop k vs)) in
      let count : operand_count s.world.info row ≡ length (drop k vs) =
      ap (λ (m : Module). operand_count m row) typed.info_is ∙
      (let l = p.enough in let q : n ≡ length vs - (length vs - n) = omega arith in q) ∙ sym (length-drop k vs) in
      let split : All IsValue ((below ++ take k vs) ++ drop k vs) = subst (All IsValue) whole a in
      record {
        rest = take k vs;
        operands = drop k vs;
        results = us;
        values = back (below ++ take k vs) (drop k vs) split;
        kept = front (below ++ take k vs) (drop k vs) split;
        gives = u;
        steps = ap (λ (x : List Value). step row x s) whole ∙ step_at row (below ++ take k vs) (drop k vs) s count;
        next = sym d ∙ (p.left rs ∙ ap (λ (x : List OperandEntry). record f { operands = known (types (take k vs)) ++ x }) (sym v));
      }
    where
      front : (xs ys : List Value) → All IsValue (xs ++ ys) → All IsValue xs
      front xs ys h = subst (All IsValue) (take_at xs ys (length xs) refl) (All-take IsValue (length xs) (xs ++ ys) h)

      back : (xs ys : List Value) → All IsValue (xs ++ ys) → All IsValue ys
      back xs ys h = subst (All IsValue) (drop_at xs ys (length xs) refl) (All-drop IsValue (length xs) (xs ++ ys) h)

  frame_values : (f g : Frame) (rest ws : List Value) (results : List PrimitiveTypeInfo) → f.unreachable ≡ false →
      g ≡ record f { operands = known (types rest) ++ known results } → types ws ≡ results → HasValues g (rest ++ ws)
  frame_values f g rest ws results e next typed = record {
    operands_are = ap (λ (x : Frame). x.operands) next ∙ (ap (λ (ts : List PrimitiveTypeInfo). known (types rest) ++ known ts) (sym typed) ∙
        (sym (known_append (types rest) (types ws)) ∙ ap known (sym (types_append rest ws))));
    reached = ap (λ (x : Frame). x.unreachable) next ∙ e;
  }

  code_runs : (code : List Instruction) (f g : Frame) (below vs : List Value) (s : State) → check_code context code f ≡ Some g →
      HasValues f vs → All IsValue (below ++ vs) → HasTypes context s → EndsIn context below g (run code (below ++ vs) s)
  code_runs [] f g below vs s e h a typed =
      let is : f ≡ g = cc in (vs, refl, subst (λ x. HasValues x vs) is h, a, typed)
  code_runs (i ∷ code) f g below vs s e h a typed =
      let row = integer_row i in
      let (d, b, c) = and_then_some (check_code context code) (check_row context row f) g e in
      let r = row_steps row f d below vs s b h a typed in
      subst (λ o. EndsIn context below g (then_run o (run code))) (sym r.steps)
      (go d (act row r.operands s) r.rest r.results c (λ ws t. frame_values f d r.rest ws r.results h.reached r.next t) r.kept
      (act_typed typed row r.operands r.results r.values r.gives) (code_runs code d g below))
    where
      go : (d : Frame) (o : Outcome) (rest : List Value) (results : List PrimitiveTypeInfo) → check_code context code d ≡ Some g →
          ((ws : List Value) → types ws ≡ results → HasValues d (rest ++ ws)) → All IsValue (below ++ rest) → EndsTyped context results o →
          ((vs : List Value) (s : State) → check_code context code d ≡ Some g → HasValues d vs → All IsValue (below ++ vs) → HasTypes context s →
          EndsIn context below g (run code (below ++ vs) s)) →
          EndsIn context below g (then_run (above (below ++ rest) o) (run code))
      go d (Ends ws t) rest results c values kept typed next =
          let same : (below ++ rest) ++ ws ≡ below ++ (rest ++ ws) = append_assoc below rest ws in
          subst (λ x. EndsIn context below g (run code x t)) (sym same)
          (next (rest ++ ws) t c (values ws typed.0) (subst (All IsValue) same (All-append IsValue (below ++ rest) ws kept typed.1)) typed.2)
      go d (Traps cause gs q) rest results c values kept typed next = tt
      go d Stuck rest results c values kept typed next = typed

pub valid_code : ValidCodeRuns
valid_code context = code_runs context
