-- Code that may not write leaves the state as it is, and code that may not trap ends.
use Rattle.std.proofs.Common.{◌≡◌, ℕ, Bool, true, false, List, [], ◌∷◌, ◌++◌, length, map, Option, Some, None, refl, sym, ap, ap₂, ◌∙◌, subst}
use Rattle.std.specs.Prelude.{◌==◌, if◌then◌else◌, ⊤, option_map}
use Rattle.std.specs.List.{All}
use Rattle.std.proofs.lemmas.Bool.{or_parts, true≢false}
use Rattle.std.proofs.lemmas.List.{append-nil, length-map}
use Rattle.std.proofs.lemmas.List.Elements.{All-nil}
use Rattle.wasm_code.specs.Instruction.{Instruction}
use Rattle.wasm_code.specs.Table.{row_at, opcode_in}
use Rattle.wasm_code.specs.declared.immediate.Imm.{Imm}
use Rattle.wasm_code.specs.declared.immediate.Imm.TheVariants as imm
use Rattle.wasm_code.specs.declared.immediate.ValType.{ValType}
use Rattle.wasm_code.specs.declared.immediate.ValType.TheVariants as val
use Rattle.wasm_code.specs.declared.table.Opcode.{Opcode}
use Rattle.wasm_code.specs.declared.table.Opcode.TheVariants.{Byte, Fc, Fd}
use Rattle.wasm_types.specs.declared.types.PrimitiveTypeInfo.{PrimitiveTypeInfo}
use Rattle.wasm_execution.specs.declared.integer.IntegerType.{IntegerType}
use Rattle.wasm_execution.specs.declared.integer.IntegerType.TheVariants as integer
use Rattle.wasm_execution.specs.declared.operation.Binary.{Binary}
use Rattle.wasm_execution.specs.declared.operation.Binary.TheVariants.{Add, Sub, Mul, DivS, DivU, RemS, RemU, And, Or, Xor, Shl, ShrS, ShrU, Rotl, Rotr}
use Rattle.wasm_execution.specs.declared.operation.Operation.{Operation}
use Rattle.wasm_execution.specs.declared.operation.Operation.TheVariants as operation
use Rattle.wasm_execution.specs.Opcode.{operation_of}
use Rattle.wasm_execution.specs.Operation.{binary_of, operator_of}
use Rattle.wasm_execution.specs.OperationLemmas.{bare_operator_is}
use Rattle.wasm_execution.specs.OtherRow.{changes}
use Rattle.wasm_execution.specs.Row.{byte_of, instruction_byte}
use Rattle.wasm_execution.specs.Values.{width_of, Value, IsValue, types, Context, Answer, Gives, Fails, IsAnswer, State, HasTypes}
use Rattle.wasm_execution.specs.Values.{own_globals, further_globals, local, global, read, Outcome, Ends, Traps, Stuck, then_run, above}
use Rattle.wasm_execution.specs.Integer.{IntegerOperator, binary_value, select_operator}
use Rattle.wasm_execution.specs.IntegerRow as row
use Rattle.wasm_execution.specs.IntegerRow.{IntegerRow, bare_row, bare_operator, byte_row, variable_row, typed_select, opcode_row}
use Rattle.wasm_execution.specs.IntegerRow.{row_or_other, row_types, integer_row}
use Rattle.wasm_execution.specs.Machine.{division_trap_cause, number_or_trap, read_of, answered, effect, act, step, run}
use Rattle.wasm_execution.specs.Agreement.{EndsTyped}
use Rattle.wasm_execution.specs.StateLemmas.{own_is, others_none}
use Rattle.wasm_execution.specs.RowLemmas.{and_then_some, row_types_count}
use Rattle.wasm_execution.specs.TypeLemmas.{sound_answer, act_at}
use Rattle.rewrite_rules.specs.Code.{types_behind, types_after, Leaves, row_writes, writes, binary_traps, operation_traps, any_traps}
use Rattle.rewrite_rules.specs.Code.{operation_by, row_traps, instruction_traps, traps}
use Rattle.rewrite_rules.proofs.CodeLemmas.{above_none, behind, found, step_typed, leaves_typed}

-- ---- code that writes nothing

-- where it ends the state is this one, and where it traps the globals and the rest are this one's
abbrev pub IsStill : State → Outcome → Type 0
IsStill s (Ends vs m) = m ≡ s
IsStill s (Traps c gs r) = (gs ≡ own_globals s) × (r ≡ s.rest)
IsStill s Stuck = ⊤

module _ {context : Context} {s : State} (h : HasTypes context s) where
  answered_still : (i : Instruction) (rs : List PrimitiveTypeInfo) (o : Answer) (others : List Value) → others ≡ [] →
      IsAnswer s.world.info i rs s.globals s.rest o → changes i ≡ false → IsStill s (answered o others s)
  answered_still i rs (Gives us gs r) others e a w =
      let k = a.4 w in
      ap₂ (λ (x : List Value) (y : ℕ). record s { globals = x; rest = y }) (ap₂ (λ (x y : List Value). x ++ y) k.0 e ∙ append-nil s.globals) k.1
  answered_still i rs (Fails c gs r) others e a w = let k = a.3 w in (k.0 ∙ sym (own_is h), k.1)

  effect_still : (r : IntegerRow) (vs : List Value) (rs : List PrimitiveTypeInfo) → All IsValue vs → row_types context r (types vs) ≡ Some rs →
      row_writes r ≡ false → IsStill s (effect r vs s)
  effect_still (row.constant t n) vs rs hv e w = refl
  effect_still (row.operation f) vs rs hv e w = go (f.value (map (λ v. v.number) vs))
    where
      go : (o : Option ℕ) → IsStill s (number_or_trap f.result o (division_trap_cause (map (λ v. v.number) vs)) s)
      go (Some n) = refl
      go None = (refl, refl)
  effect_still (row.get x) vs rs hv e w = go (read x s)
    where
      go : (o : Option Value) → IsStill s (read_of o s)
      go (Some v) = refl
      go None = tt
  effect_still (row.set x) vs rs hv e w = absurd (true≢false w)
  effect_still (row.tee x) vs rs hv e w = absurd (true≢false w)
  effect_still row.discard vs rs hv e w = refl
  effect_still row.select (v ∷ u ∷ c ∷ vs) rs hv e w = refl
  effect_still row.select (v ∷ u ∷ []) rs hv e w = tt
  effect_still row.select (v ∷ []) rs hv e w = tt
  effect_still row.select [] rs hv e w = tt
  effect_still row.nop vs rs hv e w = refl
  effect_still (row.other i) vs rs hv e w =
      answered_still i rs (s.world.answer i vs (own_globals s) s.rest) _ (others_none h i vs (own_globals s)) (sound_answer h i vs rs hv e) w

above_still : (vs : List Value) (o : Outcome) (s : State) → IsStill s o → IsStill s (above vs o)
above_still vs (Ends us m) s h = h
above_still vs (Traps c gs r) s h = h
above_still vs Stuck s h = tt

module _ (context : Context) where
  still_run : (code : List Instruction) (ts us : List PrimitiveTypeInfo) → types_after context code ts ≡ Some us → writes code ≡ false →
      (stack : List Value) (s : State) → HasTypes context s → All IsValue stack → types stack ≡ ts → IsStill s (run code stack s)
  still_run [] ts us e w stack s h v t = refl
  still_run (i ∷ code) ts us e w stack s h v t =
      let (ms, a, b) = and_then_some (types_after context code) (types_behind context i ts) us e in
      let k = behind context i ts ms a in
      let p = or_parts (row_writes (integer_row i)) (writes code) w in
      let f = found context i ts ms k s h stack v t in
      let o = act (integer_row i) f.back s in
      let still : IsStill s (step (integer_row i) stack s) =
      subst (IsStill s) (sym (f.does [] ∙ above_none (above f.front o)))
      (above_still f.front o s (subst (IsStill s) (sym (act_at h (integer_row i) f.back k.results f.typed))
      (effect_still h (integer_row i) f.back k.results f.back_values f.typed p.0))) in
      then_still ms (step (integer_row i) stack s) s (step_typed context i ts ms k s h stack v t) still
      (λ vs hv ty. still_run code ms us b p.1 vs s h hv ty)
    where
      then_still : (ms : List PrimitiveTypeInfo) (o : Outcome) (s : State) → EndsTyped context ms o → IsStill s o →
          ((vs : List Value) → All IsValue vs → types vs ≡ ms → IsStill s (run code vs s)) → IsStill s (then_run o (run code))
      then_still ms (Ends vs m) s k w next = subst (λ x. IsStill s (run code vs x)) (sym w) (next vs k.1 k.0)
      then_still ms (Traps c gs r) s k w next = w
      then_still ms Stuck s k w next = tt

  pub still_code : (code : List Instruction) (t : PrimitiveTypeInfo) → Leaves context code t → writes code ≡ false → (s : State) → HasTypes context s →
      IsStill s (run code [] s)
  still_code code t e w s h = still_run code [] (t ∷ []) e w [] s h (All-nil IsValue) refl

-- ---- operators that have a value on all numbers

-- the operator gives a number
abbrev pub HasValue : Option ℕ → Type 0
HasValue o = (n : ℕ) × (o ≡ Some n)

binary_has : (t : IntegerType) (f : Binary) (n m : ℕ) → binary_traps f ≡ false → HasValue (binary_value (width_of t) (binary_of f) n m)
binary_has t Add n m e = (_, refl)
binary_has t Sub n m e = (_, refl)
binary_has t Mul n m e = (_, refl)
binary_has t DivS n m e = absurd (true≢false e)
binary_has t DivU n m e = absurd (true≢false e)
binary_has t RemS n m e = absurd (true≢false e)
binary_has t RemU n m e = absurd (true≢false e)
binary_has t And n m e = (_, refl)
binary_has t Or n m e = (_, refl)
binary_has t Xor n m e = (_, refl)
binary_has t Shl n m e = (_, refl)
binary_has t ShrS n m e = (_, refl)
binary_has t ShrU n m e = (_, refl)
binary_has t Rotl n m e = (_, refl)
binary_has t Rotr n m e = (_, refl)

-- on one operand it gives a number, whatever that is
on_one_has : (f : Operation) (ns : List ℕ) → length ns ≡ 1 → ((n : ℕ) → HasValue ((operator_of f).value (n ∷ []))) → HasValue ((operator_of f).value ns)
on_one_has f [] l k = absurd cc
on_one_has f (n ∷ []) l k = k n
on_one_has f (n ∷ m ∷ ns) l k = absurd cc

on_two_has : (f : Operation) (ns : List ℕ) → length ns ≡ 2 → ((n m : ℕ) → HasValue ((operator_of f).value (n ∷ m ∷ []))) →
    HasValue ((operator_of f).value ns)
on_two_has f [] l k = absurd cc
on_two_has f (n ∷ []) l k = absurd cc
on_two_has f (n ∷ m ∷ []) l k = k n m
on_two_has f (n ∷ m ∷ j ∷ ns) l k = absurd cc

pub has_value : (f : Operation) (ns : List ℕ) → operation_traps f ≡ false → length ns ≡ length (operator_of f).operands → HasValue ((operator_of f).value ns)
has_value (operation.Eqz t) ns e l = on_one_has (operation.Eqz t) ns l (λ n. (_, refl))
has_value (operation.Compare t c) ns e l = on_two_has (operation.Compare t c) ns l (λ n m. (_, refl))
has_value (operation.Unary t u) ns e l = on_one_has (operation.Unary t u) ns l (λ n. (_, refl))
has_value (operation.Binary t f) ns e l = on_two_has (operation.Binary t f) ns l (λ n m. binary_has t f n m e)
has_value operation.WrapI64 ns e l = on_one_has operation.WrapI64 ns l (λ n. (_, refl))
has_value operation.ExtendI32S ns e l = on_one_has operation.ExtendI32S ns l (λ n. (_, refl))
has_value operation.ExtendI32U ns e l = on_one_has operation.ExtendI32U ns l (λ n. (_, refl))
has_value (operation.Extend8S t) ns e l = on_one_has (operation.Extend8S t) ns l (λ n. (_, refl))
has_value (operation.Extend16S t) ns e l = on_one_has (operation.Extend16S t) ns l (λ n. (_, refl))
has_value operation.Extend32S ns e l = on_one_has operation.Extend32S ns l (λ n. (_, refl))

-- ---- code that doesn't trap

-- it doesn't trap
abbrev pub NoTrap : Outcome → Type 0
NoTrap (Traps c gs r) = ⊥
NoTrap o = ⊤

-- it ends: it neither traps nor is stuck
abbrev pub HasEnded : Outcome → Type 0
HasEnded (Ends vs s) = ⊤
HasEnded o = ⊥

pub ended : (context : Context) (ts : List PrimitiveTypeInfo) (o : Outcome) → EndsTyped context ts o → NoTrap o → HasEnded o
ended context ts (Ends vs s) h n = tt
ended context ts (Traps c gs r) h n = n
ended context ts Stuck h n = h

select_has : (t : IntegerType) (ns : List ℕ) → length ns ≡ 3 → HasValue ((select_operator t).value ns)
select_has t [] l = absurd cc
select_has t (n ∷ []) l = absurd cc
select_has t (n ∷ m ∷ []) l = absurd cc
select_has t (n ∷ m ∷ k ∷ []) l = (_, refl)
select_has t (n ∷ m ∷ k ∷ j ∷ ns) l = absurd cc

typed_has : (v : ValType) (f : IntegerOperator) → typed_select v ≡ Some (row.operation f) → (ns : List ℕ) → length ns ≡ length f.operands →
    HasValue (f.value ns)
typed_has val.I32 f e = let is : select_operator integer.I32 ≡ f = cc in subst (λ g. (ns : List ℕ) → length ns ≡ length g.operands → HasValue (g.value ns)) is
    (select_has integer.I32)
typed_has val.I64 f e = let is : select_operator integer.I64 ≡ f = cc in subst (λ g. (ns : List ℕ) → length ns ≡ length g.operands → HasValue (g.value ns)) is
    (select_has integer.I64)
typed_has val.F32 f e = absurd cc
typed_has val.F64 f e = absurd cc
typed_has val.V128 f e = absurd cc
typed_has val.FuncRef f e = absurd cc
typed_has val.ExternRef f e = absurd cc

bare_is : (byte : ℕ) (f : IntegerOperator) → bare_row byte ≡ Some (row.operation f) → bare_operator byte ≡ Some f
bare_is byte f e = go (byte == 0x01) (byte == 0x1a) (byte == 0x1b) (bare_operator byte) e
  where
    go : (p q r : Bool) (o : Option IntegerOperator) →
        (if p then Some row.nop else (if q then Some row.discard else (if r then Some row.select else row.operator_row o))) ≡ Some (row.operation f) →
        o ≡ Some f
    go true q r o e = absurd cc
    go false true r o e = absurd cc
    go false false true o e = absurd cc
    go false false false (Some g) e = cc
    go false false false None e = absurd cc

bare_has : (byte : ℕ) (f : IntegerOperator) → any_traps (operation_of byte) ≡ false → bare_row byte ≡ Some (row.operation f) → (ns : List ℕ) →
    length ns ≡ length f.operands → HasValue (f.value ns)
bare_has byte f n e = go (operation_of byte) n (sym (bare_operator_is byte) ∙ bare_is byte f e)
  where
    go : (o : Option Operation) → any_traps o ≡ false → option_map operator_of o ≡ Some f → (ns : List ℕ) → length ns ≡ length f.operands →
        HasValue (f.value ns)
    go (Some g) n k =
        let is : operator_of g ≡ f = cc in
        subst (λ (h : IntegerOperator). (ns : List ℕ) → length ns ≡ length h.operands → HasValue (h.value ns)) is (λ ns l. has_value g ns n l)
    go None n k = absurd cc

variable_no : (byte index : ℕ) (f : IntegerOperator) → variable_row byte index ≡ Some (row.operation f) → ⊥
variable_no byte index f e = go (byte == 0x20) (byte == 0x21) (byte == 0x22) (byte == 0x23) (byte == 0x24) e
  where
    go : (p q r s t : Bool) → (if p then Some (row.get (local index)) else (if q then Some (row.set (local index)) else
        (if r then Some (row.tee (local index)) else (if s then Some (row.get (global index)) else
        (if t then Some (row.set (global index)) else None))))) ≡ Some (row.operation f) → ⊥
    go true q r s t e = cc
    go false true r s t e = cc
    go false false true s t e = cc
    go false false false true t e = cc
    go false false false false true e = cc
    go false false false false false e = cc

constant_no : (b : Bool) (t : IntegerType) (n : ℕ) (f : IntegerOperator) → (if b then Some (row.constant t n) else None) ≡ Some (row.operation f) → ⊥
constant_no true t n f e = cc
constant_no false t n f e = cc

byte_has : (byte : ℕ) (i : Imm) (f : IntegerOperator) → any_traps (operation_by i (Some byte)) ≡ false → byte_row byte i ≡ Some (row.operation f) →
    (ns : List ℕ) → length ns ≡ length f.operands → HasValue (f.value ns)
byte_has byte imm.Nothing f n e = bare_has byte f n e
byte_has byte (imm.Index k) f n e = absurd (variable_no byte k f e)
byte_has byte (imm.I32 z) f n e = absurd (constant_no (byte == 0x41) integer.I32 _ f e)
byte_has byte (imm.I64 z) f n e = absurd (constant_no (byte == 0x42) integer.I64 _ f e)
byte_has byte (imm.Val t) f n e = go (byte == 0x1c) e
  where
    go : (b : Bool) → (if b then typed_select t else None) ≡ Some (row.operation f) → (ns : List ℕ) → length ns ≡ length f.operands → HasValue (f.value ns)
    go true e = typed_has t f e
    go false e = absurd cc
byte_has byte i f n e = absurd cc

operation_has : (i : Instruction) (f : IntegerOperator) → any_traps (operation_by i.imm (instruction_byte i)) ≡ false → integer_row i ≡ row.operation f →
    (ns : List ℕ) → length ns ≡ length f.operands → HasValue (f.value ns)
unfolding integer_row
operation_has i f n e = go (opcode_in (row_at i.row)) n (is_row (opcode_row (opcode_in (row_at i.row)) i.imm) e)
  where
    is_row : (o : Option IntegerRow) → row_or_other i o ≡ row.operation f → o ≡ Some (row.operation f)
    is_row (Some r) e = ap (λ x. Some x) e
    is_row None e = absurd cc

    go : (o : Option Opcode) → any_traps (operation_by i.imm (byte_of o)) ≡ false → opcode_row o i.imm ≡ Some (row.operation f) → (ns : List ℕ) →
        length ns ≡ length f.operands → HasValue (f.value ns)
    go (Some (Byte byte)) n e = byte_has byte i.imm f n e
    go (Some (Fc k)) n e = absurd cc
    go (Some (Fd k)) n e = absurd cc
    go None n e = absurd cc

module _ {context : Context} {s : State} (h : HasTypes context s) where
  effect_ends : (i : Instruction) (r : IntegerRow) (vs : List Value) (rs : List PrimitiveTypeInfo) → integer_row i ≡ r → All IsValue vs →
      row_types context r (types vs) ≡ Some rs → any_traps (operation_by i.imm (instruction_byte i)) ≡ false → row_traps r ≡ false →
      NoTrap (effect r vs s)
  effect_ends i (row.constant t n) vs rs k hv e n' w = tt
  effect_ends i (row.operation f) vs rs k hv e n w =
      let count : length (map (λ (v : Value). v.number) vs) ≡ length f.operands =
      length-map vs (λ v. v.number) ∙ (sym (length-map vs (λ v. v.type)) ∙ sym (row_types_count context (row.operation f) (types vs) rs e)) in
      let (m, is) = operation_has i f n k (map (λ v. v.number) vs) count in
      subst (λ (o : Option ℕ). NoTrap (number_or_trap f.result o (division_trap_cause (map (λ v. v.number) vs)) s)) (sym is) tt
  effect_ends i (row.get x) vs rs k hv e n w = go (read x s)
    where
      go : (o : Option Value) → NoTrap (read_of o s)
      go (Some v) = tt
      go None = tt
  effect_ends i (row.set x) (v ∷ vs) rs k hv e n w = tt
  effect_ends i (row.set x) [] rs k hv e n w = tt
  effect_ends i (row.tee x) (v ∷ vs) rs k hv e n w = tt
  effect_ends i (row.tee x) [] rs k hv e n w = tt
  effect_ends i row.discard vs rs k hv e n w = tt
  effect_ends i row.select (v ∷ u ∷ c ∷ vs) rs k hv e n w = tt
  effect_ends i row.select (v ∷ u ∷ []) rs k hv e n w = tt
  effect_ends i row.select (v ∷ []) rs k hv e n w = tt
  effect_ends i row.select [] rs k hv e n w = tt
  effect_ends i row.nop vs rs k hv e n w = tt
  effect_ends i (row.other j) vs rs k hv e n w =
      go (s.world.answer j vs (own_globals s) s.rest) (sound_answer h j vs rs hv e)
    where
      go : (a : Answer) → IsAnswer s.world.info j rs s.globals s.rest a →
          NoTrap (answered a (s.world.others j vs (own_globals s) s.rest (further_globals s)) s)
      go (Gives us gs r) a = tt
      go (Fails c gs r) a = absurd (true≢false (sym a.0 ∙ w))

above_ends : (vs : List Value) (o : Outcome) → NoTrap o → NoTrap (above vs o)
above_ends vs (Ends us m) h = tt
above_ends vs (Traps c gs r) h = h
above_ends vs Stuck h = tt

module _ (context : Context) where
  run_ends : (code : List Instruction) (ts us : List PrimitiveTypeInfo) → types_after context code ts ≡ Some us → traps code ≡ false →
      (stack : List Value) (s : State) → HasTypes context s → All IsValue stack → types stack ≡ ts → NoTrap (run code stack s)
  run_ends [] ts us e w stack s h v t = tt
  run_ends (i ∷ code) ts us e w stack s h v t =
      let (ms, a, b) = and_then_some (types_after context code) (types_behind context i ts) us e in
      let k = behind context i ts ms a in
      let p = or_parts (instruction_traps i) (traps code) w in
      let q = or_parts (any_traps (operation_by i.imm (instruction_byte i))) (row_traps (integer_row i)) p.0 in
      let f = found context i ts ms k s h stack v t in
      let o = act (integer_row i) f.back s in
      let ends : NoTrap (step (integer_row i) stack s) =
      subst NoTrap (sym (f.does [] ∙ above_none (above f.front o)))
      (above_ends f.front o (subst NoTrap (sym (act_at h (integer_row i) f.back k.results f.typed))
      (effect_ends h i (integer_row i) f.back k.results refl f.back_values f.typed q.0 q.1))) in
      then_ends ms (step (integer_row i) stack s) (step_typed context i ts ms k s h stack v t) ends
      (λ vs m hm hv ty. run_ends code ms us b p.1 vs m hm hv ty)
    where
      then_ends : (ms : List PrimitiveTypeInfo) (o : Outcome) → EndsTyped context ms o → NoTrap o →
          ((vs : List Value) (m : State) → HasTypes context m → All IsValue vs → types vs ≡ ms → NoTrap (run code vs m)) → NoTrap (then_run o (run code))
      then_ends ms (Ends vs m) k w next = next vs m k.2 k.1 k.0
      then_ends ms (Traps c gs r) k w next = w
      then_ends ms Stuck k w next = tt

  pub code_ends : (code : List Instruction) (t : PrimitiveTypeInfo) → Leaves context code t → traps code ≡ false → (s : State) → HasTypes context s →
      HasEnded (run code [] s)
  code_ends code t e w s h =
      ended context (t ∷ []) (run code [] s) (leaves_typed context code t s e h) (run_ends code [] (t ∷ []) e w [] s h (All-nil IsValue) refl)
