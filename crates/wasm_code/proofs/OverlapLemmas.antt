-- Where a known operator and another one begin the same bytes, the same follows both.
use Rattle.std.proofs.Common.{◌≡◌, ◌⊎◌, inl, inr, ℕ, ℤ, pos, negsuc, zero, suc, ◌-◌, ◌<◌, ◌≤◌, Bool, true, false, cond, eqb, List, [], ◌∷◌}
use Rattle.std.proofs.Common.{◌++◌, Option, Some, None, Result, Ok, Err, refl, sym, ap, subst, ◌∙◌, arith}
use Rattle.std.proofs.lemmas.Bool.{eqb-true, ne_eqb, le-ltb, lt-ltb}
use Rattle.wasm_code.specs.declared.fault.Cause.{Cause}
use Rattle.wasm_code.specs.declared.fault.Cause.TheVariants.{UnknownOpcode}
use Rattle.wasm_code.specs.declared.immediate.ValType.{ValType}
use Rattle.wasm_code.specs.declared.immediate.ValType.TheVariants.{I32, I64, F32, F64, V128, FuncRef, ExternRef}
use Rattle.wasm_code.specs.declared.immediate.HeapType.{HeapType}
use Rattle.wasm_code.specs.declared.immediate.HeapType.TheVariants.{Abstract}
use Rattle.wasm_code.specs.declared.immediate.AbstractHeapType.TheVariants.{Func, Extern}
use Rattle.wasm_code.specs.declared.immediate.BlockType.{BlockType}
use Rattle.wasm_code.specs.declared.immediate.BlockType.TheVariants.{Empty, Value, FuncType}
use Rattle.wasm_code.specs.declared.table.Opcode.{Opcode}
use Rattle.wasm_code.specs.declared.table.Opcode.TheVariants as opcode
use Rattle.wasm_code.specs.declared.table.Kind.TheVariants as kind
use Rattle.wasm_code.specs.declared.immediate.Imm.{Imm}
use Rattle.wasm_code.specs.declared.immediate.Imm.TheVariants as imm
use Rattle.wasm_code.specs.declared.table.Row.{Row}
use Rattle.wasm_code.specs.declared.table.ResultKind.TheVariants as results
use Rattle.wasm_code.specs.declared.operator.Operator.{Operator}
use Rattle.wasm_code.specs.declared.operator.Operator.TheVariants as op
use Rattle.wasm_code.specs.declared.parse.Form.{Form}
use Rattle.wasm_code.specs.declared.parse.Form.TheVariants as form
use Rattle.wasm_code.specs.declared.other.Other.{Other}
use Rattle.wasm_code.specs.declared.other.Other.TheVariants.{Byte, Fb, Fe}
use Rattle.wasm_code.specs.declared.other.Shape.{Shape}
use Rattle.wasm_code.specs.declared.other.Shape.TheVariants as shape
use Rattle.wasm_code.specs.Number.{SpellsSigned}
use Rattle.wasm_code.specs.Immediate.{val_type_code, heap_type_code}
use Rattle.wasm_code.specs.Table.{row_at, table}
use Rattle.wasm_code.specs.Finding.{row_with}
use Rattle.wasm_code.specs.Other.{is_abstract, is_type, is_reference_type_byte, is_catching_byte, byte_shape, shape_of}
use Rattle.wasm_code.specs.Dense.{dense_row}
use Rattle.wasm_code.specs.Reader.{◌>>=◌}
use Rattle.wasm_code.specs.Reader as reader
use Rattle.wasm_code.specs.laws.GrammarLemmas.{ok_is, bind_ok}
use Rattle.wasm_code.specs.laws.NumberExact.{signed_exact}
use Rattle.wasm_code.specs.laws.ValTypeLemmas.{val_type_named, listed}
use Rattle.wasm_code.proofs.BlockTypeLemmas.{first_byte}
use Rattle.wasm_code.proofs.TableLemmas.{not_led, with_opcode}

abbrev Parsed : Type 0
Parsed = Result (Unit {0} × List ℕ) Cause

abbrev rest_at : List ℕ → Parsed
rest_at r = Ok (tt, r)

-- ---- what the known types take, the wider ones take too

type_plain : (t : ValType) → is_type (val_type_code t) ≡ true
type_plain I32 = refl
type_plain I64 = refl
type_plain F32 = refl
type_plain F64 = refl
type_plain V128 = refl
type_plain FuncRef = refl
type_plain ExternRef = refl

type_not_forty : (t : ValType) → eqb (val_type_code t) 64 ≡ false
type_not_forty I32 = refl
type_not_forty I64 = refl
type_not_forty F32 = refl
type_not_forty F64 = refl
type_not_forty V128 = refl
type_not_forty FuncRef = refl
type_not_forty ExternRef = refl

-- a value type of one byte
named_plain : (b : ℕ) (t : ValType) → reader.val_type_of b ≡ Some t → is_type b ≡ true
named_plain b t e = ap is_type (sym (val_type_named b t e)) ∙ type_plain t

val_by : (b : ℕ) (bytes : List ℕ) (o : Option ValType) (t : ValType) (r : List ℕ) → reader.val_type_of b ≡ o → reader.named_at o bytes ≡ Ok (t, r) →
    reader.any_val_type_at (b ∷ bytes) ≡ rest_at r
unfolding reader.any_val_type_at
val_by b bytes None t r is e = absurd cc
val_by b bytes (Some u) t r is e =
    let p = ok_is (u, bytes) (t, r) e in
    rw (named_plain b u is) (ap (λ (q : ValType × List ℕ). rest_at q.1) p)

val_wider : (bytes : List ℕ) (t : ValType) (r : List ℕ) → reader.val_type_at bytes ≡ Ok (t, r) → reader.any_val_type_at bytes ≡ rest_at r
unfolding reader.val_type_at
val_wider [] t r e = absurd cc
val_wider (b ∷ bytes) t r e = val_by b bytes (reader.val_type_of b) t r refl e

times_wider : (n : ℕ) (bytes r : List ℕ) → reader.times_at n reader.val_type_at bytes ≡ rest_at r → reader.times_at n reader.any_val_type_at bytes ≡ rest_at r
unfolding reader.times_at
times_wider zero bytes r e = e
times_wider (suc n) bytes r e =
    let a = bind_ok (reader.val_type_at bytes) (λ x. reader.times_at n reader.val_type_at x.1) (tt, r) e in
    rw (val_wider bytes a.0.0 a.0.1 a.1) (times_wider n a.0.1 r a.2)

first_wider : (n : ℕ) (bytes : List ℕ) (first : Option ValType) (r : List ℕ) → reader.first_at n bytes ≡ Ok (first, r) →
    reader.times_at n reader.any_val_type_at bytes ≡ rest_at r
unfolding reader.times_at reader.first_at
first_wider zero bytes first r e = let p = ok_is (None, bytes) (first, r) e in ap (λ (q : Option ValType × List ℕ). rest_at q.1) p
first_wider (suc n) bytes first r e =
    let some : eqb (suc n) 0 ≡ false = ne_eqb (suc n) 0 (λ e. absurd cc) in
    let less : suc n - 1 ≡ n = omega arith in
    let e' = rw (some, less) at e in
    let a = bind_ok (reader.val_type_at bytes) (λ t. reader.times_at n reader.val_type_at t.1 >>= λ rest. Ok (Some t.0, rest.1)) (first, r) e' in
    let b = bind_ok (reader.times_at n reader.val_type_at a.0.1) (λ rest. Ok (Some a.0.0, rest.1)) (first, r) a.2 in
    let p = ok_is (Some a.0.0, b.0.1) (first, r) b.2 in
    rw (val_wider bytes a.0.0 a.0.1 a.1) (times_wider n a.0.1 b.0.1 b.1 ∙ ap (λ (q : Option ValType × List ℕ). rest_at q.1) p)

types_wider : (bytes : List ℕ) (x : ℕ × Option ValType) (r : List ℕ) → reader.types_at bytes ≡ Ok (x, r) → reader.any_types_at bytes ≡ rest_at r
unfolding reader.types_at reader.any_types_at
types_wider bytes x r e =
    let a = bind_ok (reader.unsigned_at 32 bytes) (λ n. reader.first_at n.0 n.1 >>= λ first. Ok ((n.0, first.0), first.1)) (x, r) e in
    let b = bind_ok (reader.first_at a.0.0 a.0.1) (λ first. Ok ((a.0.0, first.0), first.1)) (x, r) a.2 in
    let p = ok_is ((a.0.0, b.0.0), b.0.1) (x, r) b.2 in
    rw a.1 (first_wider a.0.0 a.0.1 b.0.0 b.0.1 b.1 ∙ ap (λ (q : (ℕ × Option ValType) × List ℕ). rest_at q.1) p)

heap_plain : (t : HeapType) → is_abstract (heap_type_code t) ≡ true
heap_plain (Abstract Func) = refl
heap_plain (Abstract Extern) = refl

heap_named : (b : ℕ) (t : HeapType) → reader.heap_type_of b ≡ Some t → heap_type_code t ≡ b
unfolding reader.heap_type_of
heap_named b t e =
    let code = heap_type_code in
    listed code _ b 112 t (Abstract Func) _ refl refl e (λ e. listed code _ b 111 t (Abstract Extern) _ refl refl e (λ e. absurd cc))

heap_by : (b : ℕ) (bytes : List ℕ) (o : Option HeapType) (t : HeapType) (r : List ℕ) → reader.heap_type_of b ≡ o → reader.named_at o bytes ≡ Ok (t, r) →
    reader.any_heap_type_at (b ∷ bytes) ≡ rest_at r
unfolding reader.any_heap_type_at
heap_by b bytes None t r is e = absurd cc
heap_by b bytes (Some u) t r is e =
    let p = ok_is (u, bytes) (t, r) e in
    let plain : is_abstract b ≡ true = ap is_abstract (sym (heap_named b u is)) ∙ heap_plain u in
    rw plain (ap (λ (q : HeapType × List ℕ). rest_at q.1) p)

heap_wider : (bytes : List ℕ) (t : HeapType) (r : List ℕ) → reader.heap_type_at bytes ≡ Ok (t, r) → reader.any_heap_type_at bytes ≡ rest_at r
unfolding reader.heap_type_at
heap_wider [] t r e = absurd cc
heap_wider (b ∷ bytes) t r e = heap_by b bytes (reader.heap_type_of b) t r refl e

-- a byte that begins a number not below zero is no type
no_type : (b : ℕ) → (b < 64) ⊎ (128 ≤ b) → (is_type b ≡ false) × (is_reference_type_byte b ≡ false)
no_type b (inl h) = rw (lt-ltb b 105 (omega arith), ne_eqb b 99 (omega arith), ne_eqb b 100 (omega arith)) (refl, refl)
no_type b (inr h) = rw (
  le-ltb b 105 (omega arith),
  le-ltb b 117 (omega arith),
  le-ltb b 123 (omega arith),
  le-ltb b 128 (omega arith),
  ne_eqb b 99 (omega arith),
  ne_eqb b 100 (omega arith),
) (refl, refl)

begins_group : (b : ℕ) (bytes after : List ℕ) (n : ℕ) → reader.signed_at 33 (b ∷ bytes) ≡ Ok (pos n, after) → (b < 64) ⊎ (128 ≤ b)
begins_group b bytes after n e = let t = (signed_exact 33).takes (b ∷ bytes) (pos n) after e in by_text t.0 t.1 t.2
  where
    by_text : (text : List ℕ) → b ∷ bytes ≡ text ++ after → SpellsSigned 33 text (pos n) → (b < 64) ⊎ (128 ≤ b)
    by_text [] parts s = absurd s.group
    by_text (c ∷ text) parts s =
        let same : c ≡ b = cc in
        subst (λ (d : ℕ). (d < 64) ⊎ (128 ≤ d)) same (first_byte c text n s)

index_wider : (b : ℕ) (bytes : List ℕ) (z : ℤ) (after : List ℕ) (t : BlockType) (r : List ℕ) → eqb b 64 ≡ false →
    reader.signed_at 33 (b ∷ bytes) ≡ Ok (z, after) → reader.func_type_at z after ≡ Ok (t, r) → reader.any_block_type_at (b ∷ bytes) ≡ rest_at r
unfolding reader.any_block_type_at reader.type_index_at
index_wider b bytes (pos n) after t r plain e f =
    let none = no_type b (begins_group b bytes after n e) in
    let p = ok_is (FuncType n, after) (t, r) f in
    rw (plain, none.0, none.1, e) (ap (λ (q : BlockType × List ℕ). rest_at q.1) p)
index_wider b bytes (negsuc n) after t r plain e f = absurd cc

block_by_type : (b : ℕ) (bytes : List ℕ) (o : Option ValType) (t : BlockType) (r : List ℕ) → eqb b 64 ≡ false → reader.val_type_of b ≡ o →
    reader.block_type_of o (b ∷ bytes) bytes ≡ Ok (t, r) → reader.any_block_type_at (b ∷ bytes) ≡ rest_at r
unfolding reader.block_type_of reader.any_block_type_at
block_by_type b bytes (Some u) t r plain is e =
    let p = ok_is (Value u, bytes) (t, r) e in
    rw (plain, named_plain b u is) (ap (λ (q : BlockType × List ℕ). rest_at q.1) p)
block_by_type b bytes None t r plain is e =
    let z = bind_ok (reader.signed_at 33 (b ∷ bytes)) (λ z. reader.func_type_at z.0 z.1) (t, r) e in
    index_wider b bytes z.0.0 z.0.1 t r plain z.1 z.2

block_by : (v : Bool) (b : ℕ) (bytes : List ℕ) (t : BlockType) (r : List ℕ) → eqb b 64 ≡ v →
    cond v (Ok (Empty, bytes)) (reader.block_type_of (reader.val_type_of b) (b ∷ bytes) bytes) ≡ Ok (t, r) → reader.any_block_type_at (b ∷ bytes) ≡ rest_at r
unfolding reader.any_block_type_at
block_by true b bytes t r is e =
    let p = ok_is (Empty, bytes) (t, r) e in
    rw is (ap (λ (q : BlockType × List ℕ). rest_at q.1) p)
block_by false b bytes t r is e = block_by_type b bytes (reader.val_type_of b) t r is refl e

block_wider : (bytes : List ℕ) (t : BlockType) (r : List ℕ) → reader.block_type_at bytes ≡ Ok (t, r) → reader.any_block_type_at bytes ≡ rest_at r
unfolding reader.block_type_at
block_wider [] t r e = absurd cc
block_wider (b ∷ bytes) t r e = block_by (eqb b 64) b bytes t r refl e

-- ---- a known operator and another one with the same opcode

abbrev pub Told : Type 0
Told = Result (Operator × List ℕ) Cause

pub not_both : {A : Type 0} (r : Result A Cause) (c : Cause) (x : A) → r ≡ Err c → r ≡ Ok x → ⊥
not_both r c x e f = absurd cc

-- where nothing has the form, nothing is read
no_form : (d : Option Form) (bytes : List ℕ) (x : Operator × List ℕ) → d ≡ None → reader.formed_at d bytes ≡ Ok x → ⊥
no_form d bytes x none e = not_both (reader.formed_at d bytes) UnknownOpcode x (ap (λ (c : Option Form). reader.formed_at c bytes) none) e

-- where both are read behind that opcode, the same follows them
abbrev Agrees : ℕ → Shape → Type 0
Agrees b s = (bytes : List ℕ) (x : Operator) (r q : List ℕ) → reader.formed_at (reader.form_of (opcode.Byte b)) bytes ≡ Ok (x, r) →
    reader.shape_at s bytes ≡ Ok (tt, q) →
    r ≡ q

same_rest : (r q : List ℕ) → rest_at r ≡ rest_at q → r ≡ q
same_rest r q e = let p = ok_is (tt, r) (tt, q) e in ap (λ (x : Unit {0} × List ℕ). x.1) p

-- no known operator has the opcode
unknown : (b : ℕ) (s : Shape) → reader.form_of (opcode.Byte b) ≡ None → Agrees b s
unknown b s none bytes x r q e f = absurd (no_form (reader.form_of (opcode.Byte b)) bytes (x, r) none e)

-- the known operator is a block of some kind
block_agrees : (b : ℕ) (f : Form) (made : BlockType → Operator) → reader.form_of (opcode.Byte b) ≡ Some f →
    ((bytes : List ℕ) → reader.behind_at f bytes ≡ (reader.block_type_at bytes >>= λ t. Ok (made t.0, t.1))) → Agrees b shape.Block
unfolding reader.shape_at
block_agrees b f made is behind bytes x r q e g =
    let e' : (reader.block_type_at bytes >>= λ t. Ok (made t.0, t.1)) ≡ Ok (x, r) =
    sym (behind bytes) ∙ ap (λ (d : Option Form). reader.formed_at d bytes) (sym is) ∙ e in
    let a = bind_ok (reader.block_type_at bytes) (λ t. Ok (made t.0, t.1)) (x, r) e' in
    let p = ok_is (made a.0.0, a.0.1) (x, r) a.2 in
    same_rest r q (ap (λ (y : Operator × List ℕ). rest_at y.1) (sym p) ∙ sym (block_wider bytes a.0.0 a.0.1 a.1) ∙ g)

agrees_2 : Agrees 2 shape.Block
unfolding reader.form_of reader.behind_at
agrees_2 = block_agrees 2 form.Block (λ t. op.Block t) refl (λ bytes. refl)

agrees_3 : Agrees 3 shape.Block
unfolding reader.form_of reader.behind_at
agrees_3 = block_agrees 3 form.Loop (λ t. op.Loop t) refl (λ bytes. refl)

agrees_4 : Agrees 4 shape.Block
unfolding reader.form_of reader.behind_at
agrees_4 = block_agrees 4 form.If (λ t. op.If t) refl (λ bytes. refl)

select_form : reader.form_of (opcode.Byte 28) ≡ Some form.TypedSelect
unfolding reader.form_of
select_form = refl

agrees_28 : Agrees 28 shape.Types
unfolding reader.shape_at reader.behind_at
agrees_28 bytes x r q e g =
    let e' : (reader.types_at bytes >>= λ t. Ok (reader.select_of t.0.0 t.0.1, t.1)) ≡ Ok (x, r) =
    ap (λ (d : Option Form). reader.formed_at d bytes) (sym select_form) ∙ e in
    let a = bind_ok (reader.types_at bytes) (λ t. Ok (reader.select_of t.0.0 t.0.1, t.1)) (x, r) e' in
    let p = ok_is (reader.select_of a.0.0.0 a.0.0.1, a.0.1) (x, r) a.2 in
    same_rest r q (ap (λ (y : Operator × List ℕ). rest_at y.1) (sym p) ∙ sym (types_wider bytes a.0.0 a.0.1 a.1) ∙ g)

-- the row of a null reference
abbrev null_row : Row
null_row = record { opcode = opcode.Byte 208; kind = kind.Heap; info = record { operands = Some 0; result = results.Immediate; change = 0 } }

null_there : row_at 168 ≡ Some null_row
unfolding row_at table
null_there = refl

null_form : reader.form_of (opcode.Byte 208) ≡ Some (form.Row 168 null_row)
unfolding reader.form_of
null_form = ap reader.row_form (with_opcode 168 null_row (opcode.Byte 208) null_there refl)

agrees_208 : Agrees 208 shape.Heap
unfolding reader.shape_at reader.behind_at reader.imm_at
agrees_208 bytes x r q e g =
    let made : HeapType → Operator = λ t. op.Instr (record { row = 168; imm = imm.Heap t }) in
    let e' : ((reader.heap_type_at bytes >>= λ t. Ok (imm.Heap t.0, t.1)) >>= λ i. Ok (op.Instr (record { row = 168; imm = i.0 }), i.1)) ≡ Ok (x, r) =
    ap (λ (d : Option Form). reader.formed_at d bytes) (sym null_form) ∙ e in
    let a = bind_ok (reader.heap_type_at bytes >>= λ t. Ok (imm.Heap t.0, t.1)) (λ i. Ok (op.Instr (record { row = 168; imm = i.0 }), i.1)) (x, r) e' in
    let b = bind_ok (reader.heap_type_at bytes) (λ t. Ok (imm.Heap t.0, t.1)) a.0 a.1 in
    let p = ok_is (op.Instr (record { row = 168; imm = a.0.0 }), a.0.1) (x, r) a.2 in
    let o = ok_is (imm.Heap b.0.0, b.0.1) a.0 b.2 in
    same_rest r q (ap (λ (y : Operator × List ℕ). rest_at y.1) (sym p) ∙ ap (λ (y : Imm × List ℕ). rest_at y.1) (sym o)
    ∙ sym (heap_wider bytes b.0.0 b.0.1 b.1) ∙ g)

-- no row has the opcode, nor any form of a control operator
unled : (b : ℕ) → reader.byte_form b ≡ reader.row_form (row_with (opcode.Byte b)) → dense_row (opcode.Byte b) ≡ None → reader.form_of (opcode.Byte b) ≡ None
unfolding reader.form_of
unled b is none = is ∙ ap reader.row_form (not_led (opcode.Byte b) none)

some_shape : (s t : Shape) → Some s ≡ Some t → s ≡ t
some_shape s t e = cc

step : (v : Bool) (b k : ℕ) (s t : Shape) (more : Option Shape) → eqb b k ≡ v → cond v (Some s) more ≡ Some t → Agrees k s →
    (more ≡ Some t → Agrees b t) → Agrees b t
step true b k s t more is e here go = subst (λ (u : Shape). Agrees b u) (some_shape s t e) (subst (λ (c : ℕ). Agrees c s) (sym (eqb-true b k is)) here)
step false b k s t more is e here go = go e

byte_agrees : (b : ℕ) (t : Shape) → byte_shape b ≡ Some t → Agrees b t
unfolding dense_row
byte_agrees b t e =
    step _ b 2 shape.Block t _ refl e agrees_2 (λ e. step _ b 3 shape.Block t _ refl e agrees_3 (λ e. step _ b 4 shape.Block t _ refl e agrees_4
    (λ e. step _ b 6 shape.Block t _ refl e (unknown 6 _ (unled 6 refl refl)) (λ e. step _ b 7 shape.Index t _ refl e (unknown 7 _ (unled 7 refl refl))
    (λ e. step _ b 8 shape.Index t _ refl e (unknown 8 _ (unled 8 refl refl)) (λ e. step _ b 9 shape.Index t _ refl e (unknown 9 _ (unled 9 refl refl))
    (λ e. step _ b 10 shape.Nothing t _ refl e (unknown 10 _ (unled 10 refl refl)) (λ e. step _ b 18 shape.Index t _ refl e (unknown 18 _ (unled 18 refl refl))
    (λ e. step _ b 19 shape.Pair t _ refl e (unknown 19 _ (unled 19 refl refl)) (λ e. step _ b 20 shape.Index t _ refl e (unknown 20 _ (unled 20 refl refl))
    (λ e. step _ b 21 shape.Index t _ refl e (unknown 21 _ (unled 21 refl refl)) (λ e. step _ b 24 shape.Index t _ refl e (unknown 24 _ (unled 24 refl refl))
    (λ e. step _ b 25 shape.Nothing t _ refl e (unknown 25 _ (unled 25 refl refl)) (λ e. step _ b 28 shape.Types t _ refl e agrees_28
    (λ e. step _ b 31 shape.Catches t _ refl e (unknown 31 _ (unled 31 refl refl)) (λ e. step _ b 208 shape.Heap t _ refl e agrees_208
    (λ e. step _ b 211 shape.Nothing t _ refl e (unknown 211 _ (unled 211 refl refl))
    (λ e. step _ b 212 shape.Nothing t _ refl e (unknown 212 _ (unled 212 refl refl))
    (λ e. step _ b 213 shape.Index t _ refl e (unknown 213 _ (unled 213 refl refl))
    (λ e. step _ b 214 shape.Index t _ refl e (unknown 214 _ (unled 214 refl refl))
    (λ e. absurd cc)))))))))))))))))))))

-- ---- both are read from the same bytes

shape_behind : (b : ℕ) (d : Option Shape) (bytes : List ℕ) (x : Operator) (r : List ℕ) (o : Other) (q : List ℕ) → byte_shape b ≡ d →
    reader.formed_at (reader.form_of (opcode.Byte b)) bytes ≡ Ok (x, r) → reader.shaped_at d (Byte b) bytes ≡ Ok (o, q) → r ≡ q
shape_behind b None bytes x r o q is e f = absurd cc
shape_behind b (Some s) bytes x r o q is e f =
    let a = bind_ok (reader.shape_at s bytes) (λ rest. Ok (Byte b, rest.1)) (o, q) f in
    let p = ok_is (Byte b, a.0.1) (o, q) a.2 in
    let s' : reader.shape_at s bytes ≡ Ok (tt, q) = a.1 ∙ ap (λ (y : Other × List ℕ). rest_at y.1) p in
    byte_agrees b s is bytes x r q e s'

caught_behind : (v : Bool) (b : ℕ) (bytes : List ℕ) (x : Operator) (r : List ℕ) (o : Other) (q : List ℕ) →
    reader.formed_at (reader.form_of (opcode.Byte b)) bytes ≡ Ok (x, r) → reader.shaped_at (cond v None (byte_shape b)) (Byte b) bytes ≡ Ok (o, q) → r ≡ q
caught_behind true b bytes x r o q e f = absurd cc
caught_behind false b bytes x r o q e f = shape_behind b (byte_shape b) bytes x r o q refl e f

none_251 : reader.form_of (opcode.Byte 251) ≡ None
unfolding dense_row
none_251 = unled 251 refl refl

none_254 : reader.form_of (opcode.Byte 254) ≡ None
unfolding dense_row
none_254 = unled 254 refl refl

not_at : (b : ℕ) (bytes : List ℕ) (x : Operator) (r : List ℕ) → reader.form_of (opcode.Byte b) ≡ None →
    reader.formed_at (reader.form_of (opcode.Byte b)) bytes ≡ Ok (x, r) → ⊥
not_at b bytes x r none e = no_form (reader.form_of (opcode.Byte b)) bytes (x, r) none e

not_shaped : (b : ℕ) (bytes : List ℕ) (o : Other) (q : List ℕ) → shape_of (Byte b) ≡ None → reader.shaped_at (shape_of (Byte b)) (Byte b) bytes ≡ Ok (o, q) → ⊥
not_shaped b bytes o q none e =
    not_both (reader.shaped_at (shape_of (Byte b)) (Byte b) bytes) UnknownOpcode (o, q) (ap (λ (d : Option Shape). reader.shaped_at d (Byte b) bytes) none) e

-- the two readings of a byte, each by what the byte is
abbrev opcode_by : (fc fd : Bool) → ℕ → List ℕ → Result (Opcode × List ℕ) Cause
opcode_by fc fd b bytes =
    cond fc (reader.unsigned_at 32 bytes >>= λ n. Ok (opcode.Fc n.0, n.1))
    (cond fd (reader.unsigned_at 32 bytes >>= λ n. Ok (opcode.Fd n.0, n.1)) (Ok (opcode.Byte b, bytes)))

abbrev known_by : (fc fd : Bool) → ℕ → List ℕ → Told
known_by fc fd b bytes = opcode_by fc fd b bytes >>= λ o. reader.formed_at (reader.form_of o.0) o.1

abbrev other_opcode_by : (fb fe : Bool) → ℕ → List ℕ → Result (Other × List ℕ) Cause
other_opcode_by fb fe b bytes =
    cond fb (reader.unsigned_at 32 bytes >>= λ n. Ok (Fb n.0, n.1))
    (cond fe (reader.unsigned_at 32 bytes >>= λ n. Ok (Fe n.0, n.1)) (Ok (Byte b, bytes)))

abbrev other_by : (fb fe : Bool) → ℕ → List ℕ → Result (Other × List ℕ) Cause
other_by fb fe b bytes = other_opcode_by fb fe b bytes >>= λ o. reader.shaped_at (shape_of o.0) o.0 o.1

agree_by : (fc fd fb fe : Bool) (b : ℕ) (bytes : List ℕ) (x : Operator) (r : List ℕ) (o : Other) (q : List ℕ) → eqb b 252 ≡ fc → eqb b 253 ≡ fd →
    eqb b 251 ≡ fb → eqb b 254 ≡ fe → known_by fc fd b bytes ≡ Ok (x, r) → other_by fb fe b bytes ≡ Ok (o, q) → r ≡ q
agree_by false false false false b bytes x r o q c d h k e f = caught_behind (is_catching_byte b) b bytes x r o q e f
agree_by false false true fe b bytes x r o q c d h k e f =
    absurd (not_at b bytes x r (ap (λ (n : ℕ). reader.form_of (opcode.Byte n)) (eqb-true b 251 h) ∙ none_251) e)
agree_by false false false true b bytes x r o q c d h k e f =
    absurd (not_at b bytes x r (ap (λ (n : ℕ). reader.form_of (opcode.Byte n)) (eqb-true b 254 k) ∙ none_254) e)
agree_by true fd false false b bytes x r o q c d h k e f =
    absurd (not_shaped b bytes o q (ap (λ (n : ℕ). shape_of (Byte n)) (eqb-true b 252 c)) f)
agree_by false true false false b bytes x r o q c d h k e f =
    absurd (not_shaped b bytes o q (ap (λ (n : ℕ). shape_of (Byte n)) (eqb-true b 253 d)) f)
agree_by true fd true fe b bytes x r o q c d h k e f = absurd (omega (arith, eqb-true b 252 c, eqb-true b 251 h))
agree_by false true true fe b bytes x r o q c d h k e f = absurd (omega (arith, eqb-true b 253 d, eqb-true b 251 h))
agree_by true fd false true b bytes x r o q c d h k e f = absurd (omega (arith, eqb-true b 252 c, eqb-true b 254 k))
agree_by false true false true b bytes x r o q c d h k e f = absurd (omega (arith, eqb-true b 253 d, eqb-true b 254 k))

-- where a known operator and another one begin the bytes, the same follows them
pub agree : (bytes : List ℕ) (x : Operator) (r : List ℕ) (o : Other) (q : List ℕ) → reader.operator_at bytes ≡ Ok (x, r) →
    reader.other_at bytes ≡ Ok (o, q) → r ≡ q
unfolding reader.operator_at reader.opcode_at reader.other_at reader.other_opcode_at
agree [] x r o q e f = absurd cc
agree (b ∷ bytes) x r o q e f = agree_by (eqb b 252) (eqb b 253) (eqb b 251) (eqb b 254) b bytes x r o q refl refl refl refl e f
