-- The code of an instruction spells it, and no spelling of it has fewer bytes.
use Rattle.std.proofs.Common.{◌≡◌, ℕ, ℤ, pos, negsuc, neg_ℤ, ◌≤ℤ◌, ◌<ℤ◌, zero, suc, ◌+◌, ◌-◌, ◌^◌, ◌<◌, ◌≤◌, Bool, true, false, eqb, ltb}
use Rattle.std.proofs.Common.{List, [], ◌∷◌, ◌++◌, length, Option, Some, None, FitsSigned, refl, sym, ap, subst, ◌∙◌, append_assoc, arith}
use Rattle.std.proofs.Common.{inl, inr}
use Rattle.std.specs.Int.{w32, w64, w128, to_le_bytes, from_le_bytes, cast_signed, cast_unsigned}
use Rattle.std.proofs.lemmas.Bool.{lt-ltb, le-ltb, ltb-true, ltb-false, ne_eqb, eq-eqb, cases_eq}
use Rattle.std.proofs.lemmas.List.{length-append}
use Rattle.std.proofs.lemmas.Nat.{from_le_bytes-to_le_bytes_4, from_le_bytes-to_le_bytes_8}
use Rattle.std.proofs.lemmas.Int.{ints, to_z-of_z}
use Rattle.wasm_code.specs.declared.table.Kind.{Kind}
use Rattle.wasm_code.specs.declared.table.Kind.TheVariants as kind
use Rattle.wasm_code.specs.declared.table.Opcode.{Opcode}
use Rattle.wasm_code.specs.declared.table.Opcode.TheVariants.{Byte, Fc, Fd}
use Rattle.wasm_code.specs.declared.table.Row.{Row}
use Rattle.wasm_code.specs.declared.immediate.ValType.{ValType}
use Rattle.wasm_code.specs.declared.immediate.MemArg.{MemArg}
use Rattle.wasm_code.specs.declared.immediate.Imm.{Imm}
use Rattle.wasm_code.specs.declared.immediate.Imm.TheVariants as imm
use Rattle.wasm_code.specs.declared.operator.Operator.TheVariants as op
use Rattle.wasm_code.specs.Table.{row_at}
use Rattle.wasm_code.specs.Instruction.{Instruction, is_of_kind, fits_row, MemArgInRange, InRange, IsInstruction}
use Rattle.wasm_code.specs.Grammar.{NoBytes, Never, Of, Choose, Then}
use Rattle.wasm_code.specs.Number.{IsGroup, SpellsUnsigned, SpellsSigned}
use Rattle.wasm_code.specs.Immediate.{val_type_code, SpellsOffset, SpellsMemArg, SpellsPair, SpellsFirst, SpellsTypes, SpellsImm}
use Rattle.wasm_code.specs.Operator.{SpellsOpcode, Spells}
use Rattle.wasm_code.specs.Code.{shortest, shortest_signed, memarg_code, v128_code, opcode_code, row_code, imm_code, code}
use Rattle.wasm_code.proofs.ShortestLemmas.{shortest_last}
use Rattle.wasm_code.proofs.CodeNumbers.{shortest_spells, shortest_least, shortest_signed_spells, shortest_signed_least}
use Rattle.wasm_code.proofs.TableLemmas.{FitsOpcode, fits_at}

-- ---- the code is a spelling

spells_32 : (n : ℕ) → n < 2 ^ 32 → SpellsUnsigned 32 (shortest n) n
spells_32 n lt = shortest_spells 32 n (omega arith) (omega arith) lt

spells_64 : (n : ℕ) → n < 2 ^ 64 → SpellsUnsigned 64 (shortest n) n
spells_64 n lt = shortest_spells 64 n (omega arith) (omega arith) lt

spells_signed_32 : (z : ℤ) → neg_ℤ (pos (2 ^ 31)) ≤ℤ z → z <ℤ pos (2 ^ 31) → SpellsSigned 32 (shortest_signed z) z
spells_signed_32 z low high = shortest_signed_spells 32 z (omega arith) (omega arith) low high

spells_signed_64 : (z : ℤ) → neg_ℤ (pos (2 ^ 63)) ≤ℤ z → z <ℤ pos (2 ^ 63) → SpellsSigned 64 (shortest_signed z) z
spells_signed_64 z low high = shortest_signed_spells 64 z (omega arith) (omega arith) low high

-- the index of a memory, and an offset
abbrev Indexed : ℕ → List ℕ → MemArg → Type 0
Indexed n = Then (SpellsUnsigned 32) (λ memory. SpellsOffset (n - 64) memory)

abbrev BehindAlign : (plain indexed : Bool) → ℕ → List ℕ → MemArg → Type 0
BehindAlign plain indexed n = Choose plain (SpellsOffset n 0) (Choose indexed (Indexed n) Never)

memarg_spells : (m : MemArg) → m.align < 64 → MemArgInRange m → SpellsMemArg (memarg_code m) m
unfolding memarg_code
memarg_spells m align range =
    elim (cases_eq m.memory 0) [
      | inl none ↦
          let same : record { offset = m.offset; align = m.align; memory = 0 } ≡ m = ap (λ (k : ℕ). let r : MemArg = record {
            offset = m.offset;
            align = m.align;
            memory = k;
          } in r) (sym none) in
          rw (eq-eqb m.memory 0 none) (record {
            value = m.align;
            front = shortest m.align;
            back = shortest m.offset;
            parts = refl;
            first = spells_32 m.align (omega (arith, align));
            second = subst (λ (v : Bool). BehindAlign v (ltb m.align 128) m.align (shortest m.offset) m) (sym (lt-ltb m.align 64 align))
                (record { value = m.offset; spells = spells_64 m.offset range.1; made = same });
          })
      | inr some ↦
          let n = m.align + 64 in
          let same : record { offset = m.offset; align = n - 64; memory = m.memory } ≡ m = ap (λ (k : ℕ). let r : MemArg = record {
            offset = m.offset;
            align = k;
            memory = m.memory;
          } in r) (omega arith) in
          let behind : Indexed n (shortest m.memory ++ shortest m.offset) m = record {
            value = m.memory;
            front = shortest m.memory;
            back = shortest m.offset;
            parts = refl;
            first = spells_32 m.memory range.0;
            second = record { value = m.offset; spells = spells_64 m.offset range.1; made = same };
          } in
          rw (ne_eqb m.memory 0 some, append_assoc (shortest n) (shortest m.memory) (shortest m.offset)) (record {
            value = n;
            front = shortest n;
            back = shortest m.memory ++ shortest m.offset;
            parts = refl;
            first = spells_32 n (omega (arith, align));
            second = subst (λ (v : Bool). BehindAlign v (ltb n 128) n (shortest m.memory ++ shortest m.offset) m) (sym (le-ltb n 64 (omega arith)))
                (subst (λ (v : Bool). BehindAlign false v n (shortest m.memory ++ shortest m.offset) m)
                (sym (lt-ltb n 128 (omega (arith, align)))) behind);
          })
    ]

le_bytes_16 : (n : ℕ) → n < 2 ^ 128 → from_le_bytes w128 (to_le_bytes w128 n) ≡ n
le_bytes_16 n lt = omega (arith, lt)

v128_length : (z : ℤ) → length (v128_code z) ≡ 16
unfolding v128_code
v128_length z = refl

v128_fits : (z : ℤ) → (neg_ℤ (pos (2 ^ 127)) ≤ℤ z) × (z <ℤ pos (2 ^ 127)) → cast_unsigned w128 z < 2 ^ 128
v128_fits (pos n) range = omega (arith, ints, range.1)
v128_fits (negsuc n) range = omega arith

v128_fits_signed : (z : ℤ) → (neg_ℤ (pos (2 ^ 127)) ≤ℤ z) × (z <ℤ pos (2 ^ 127)) → FitsSigned w128 z
v128_fits_signed (pos n) range = record { sfits = omega (arith, ints, range.1) }
v128_fits_signed (negsuc n) range = record { sfits = omega (arith, ints, range.0) }

pub v128_same : (z : ℤ) → (neg_ℤ (pos (2 ^ 127)) ≤ℤ z) × (z <ℤ pos (2 ^ 127)) → cast_signed w128 (from_le_bytes w128 (v128_code z)) ≡ z
unfolding v128_code
v128_same z range =
    ap (λ (n : ℕ). cast_signed w128 n) (le_bytes_16 (cast_unsigned w128 z) (v128_fits z range)) ∙ to_z-of_z w128 z (v128_fits_signed z range)

one_type : (t : ValType) → SpellsTypes (1 ∷ val_type_code t ∷ []) (1, Some t)
one_type t = record {
  value = 1;
  front = 1 ∷ [];
  back = val_type_code t ∷ [];
  parts = refl;
  first = record { group = omega arith; short = omega arith; is = refl; fits = omega arith };
  second = record {
    value = Some t;
    spells = record {
      value = t;
      front = val_type_code t ∷ [];
      back = [];
      parts = refl;
      first = refl;
      second = record { value = tt; spells = (refl, refl); made = refl };
    };
    made = refl;
  };
}

imm_spells : (k : Kind) (i : Imm) → is_of_kind k i ≡ true → InRange i → SpellsImm k (imm_code i) i
unfolding imm_code
imm_spells kind.Nothing imm.Nothing e r = (refl, refl)
imm_spells kind.Index (imm.Index n) e r = record { value = n; spells = spells_32 n r; made = refl }
imm_spells kind.Pair (imm.Pair a b) e r =
    let second : Of (λ (n : ℕ). (a, n)) (SpellsUnsigned 32) (shortest b) (a, b) = record { value = b; spells = spells_32 b r.1; made = refl } in
    let pair : SpellsPair (shortest a ++ shortest b) (a, b) = record {
      value = a;
      front = shortest a;
      back = shortest b;
      parts = refl;
      first = spells_32 a r.0;
      second = second;
    } in
    record { value = (a, b); spells = pair; made = refl }
imm_spells kind.Mem (imm.Mem m) e r = record { value = m; spells = memarg_spells m (ltb-true _ _ e) r; made = refl }
imm_spells kind.MemLane (imm.MemLane m lane) e r = record {
  value = m;
  front = memarg_code m;
  back = lane ∷ [];
  parts = refl;
  first = memarg_spells m (ltb-true _ _ e) r.0;
  second = record { value = lane; spells = refl; made = refl };
}
imm_spells kind.Lane (imm.Lane lane) e r = record { value = lane; spells = refl; made = refl }
imm_spells kind.I32 (imm.I32 z) e r = record { value = z; spells = spells_signed_32 z r.0 r.1; made = refl }
imm_spells kind.I64 (imm.I64 z) e r = record { value = z; spells = spells_signed_64 z r.0 r.1; made = refl }
imm_spells kind.F32 (imm.F32 bits) e r = record {
  value = to_le_bytes w32 bits;
  spells = (refl, refl);
  made = ap (λ (n : ℕ). imm.F32 n) (from_le_bytes-to_le_bytes_4 bits r);
}
imm_spells kind.F64 (imm.F64 bits) e r = record {
  value = to_le_bytes w64 bits;
  spells = (refl, refl);
  made = ap (λ (n : ℕ). imm.F64 n) (from_le_bytes-to_le_bytes_8 bits r);
}
imm_spells kind.V128 (imm.V128 z) e r = record {
  value = v128_code z;
  spells = (v128_length z, refl);
  made = ap (λ (y : ℤ). imm.V128 y) (v128_same z r);
}
imm_spells kind.Shuffle (imm.Shuffle lanes) e r = record { value = lanes; spells = (r.0, refl); made = refl }
imm_spells kind.Heap (imm.Heap t) e r = record { value = t; spells = refl; made = refl }
imm_spells kind.Val (imm.Val t) e r = one_type t
imm_spells _ _ e r = absurd cc

abbrev SpellsFc : List ℕ → Opcode → Type 0
SpellsFc = Of (λ n. Fc n) (SpellsUnsigned 32)

abbrev SpellsFd : List ℕ → Opcode → Type 0
SpellsFd = Of (λ n. Fd n) (SpellsUnsigned 32)

opcode_spells : (o : Opcode) → FitsOpcode o → SpellsOpcode (opcode_code o) o
unfolding opcode_code
opcode_spells (Byte b) f = record {
  value = b;
  front = b ∷ [];
  back = [];
  parts = refl;
  first = refl;
  second = subst (λ (v : Bool). Choose v SpellsFc (Choose (eqb b 253) SpellsFd (NoBytes (Byte b))) [] (Byte b)) (sym (ne_eqb b 252 f.0))
      (subst (λ (v : Bool). Choose v SpellsFd (NoBytes (Byte b)) [] (Byte b)) (sym (ne_eqb b 253 f.1)) (refl, refl));
}
opcode_spells (Fc n) f = record {
  value = 252;
  front = 252 ∷ [];
  back = shortest n;
  parts = refl;
  first = refl;
  second = record { value = n; spells = spells_32 n f; made = refl };
}
opcode_spells (Fd n) f = record {
  value = 253;
  front = 253 ∷ [];
  back = shortest n;
  parts = refl;
  first = refl;
  second = record { value = n; spells = spells_32 n f; made = refl };
}

spells_in : (o : Option Row) (r : ℕ) (i : Imm) → row_at r ≡ o → fits_row o i ≡ true → InRange i →
    Spells (row_code o ++ imm_code i) (op.Instr (record { row = r; imm = i }))
spells_in None r i at fits range = absurd cc
spells_in (Some row) r i at fits range = record {
  value = row.opcode;
  front = opcode_code row.opcode;
  back = imm_code i;
  parts = refl;
  first = opcode_spells row.opcode (fits_at r row at);
  second = record { row = row; at = at; opcode = refl; imm = imm_spells row.kind i fits range };
}

-- The code of an instruction spells it.
pub code_spells : (i : Instruction) → IsInstruction i → Spells (code i) (op.Instr i)
unfolding code
code_spells i is = spells_in (row_at i.row) i.row i.imm refl is.kind is.in_range

-- ---- no spelling is shorter

least_32 : (n : ℕ) (text : List ℕ) → SpellsUnsigned 32 text n → length (shortest n) ≤ length text
least_32 n text s = shortest_least 32 n text (omega arith) s

least_64 : (n : ℕ) (text : List ℕ) → SpellsUnsigned 64 text n → length (shortest n) ≤ length text
least_64 n text s = shortest_least 64 n text (omega arith) s

-- a number other than 0 behind 64 to 127 has one form; memory 0 is shorter without its index
indexed_least : (n memory offset : ℕ) (front middle back : List ℕ) → 64 ≤ n → n < 128 → SpellsUnsigned 32 front n → SpellsUnsigned 32 middle memory →
    SpellsUnsigned 64 back offset
    → length (memarg_code (record { offset = offset; align = n - 64; memory = memory })) ≤ length front + (length middle + length back)
unfolding memarg_code
indexed_least n memory offset front middle back low high first second third =
    elim (cases_eq memory 0) [
      | inl none ↦
          let align = ap length (shortest_last (n - 64) (omega arith)) in
          let one = ap length (shortest_last n high) in
          rw (eq-eqb memory 0 none) (omega (
            arith,
            length-append (shortest (n - 64)) (shortest offset),
            align,
            one,
            least_32 n front first,
            least_64 offset back third,
          ))
      | inr some ↦
          let again : n - 64 + 64 ≡ n = omega arith in
          rw (ne_eqb memory 0 some, again)
          (omega (
            arith,
            length-append (shortest n ++ shortest memory) (shortest offset),
            length-append (shortest n) (shortest memory),
            least_32 n front first,
            least_32 memory middle second,
            least_64 offset back third,
          ))
    ]

memarg_behind : (plain indexed : Bool) (n : ℕ) (front back : List ℕ) (m : MemArg) → ltb n 64 ≡ plain → ltb n 128 ≡ indexed →
    SpellsUnsigned 32 front n → BehindAlign plain indexed n back m → length (memarg_code m) ≤ length front + length back
unfolding memarg_code
memarg_behind true indexed n front back m small below first s =
    subst (λ (k : MemArg). length (memarg_code k) ≤ length front + length back) s.made (omega (
      arith,
      length-append (shortest n) (shortest s.value),
      least_32 n front first,
      least_64 s.value back s.spells,
    ))
memarg_behind false true n front back m small below first s =
    let low : 64 ≤ n = ltb-false n 64 small in
    let high : n < 128 = ltb-true n 128 below in
    let t = indexed_least n s.value s.second.value front s.front s.back low high first s.first s.second.spells in
    subst (λ (k : MemArg). length (memarg_code k) ≤ length front + length back) s.second.made
    (omega (arith, t, ap length s.parts, length-append s.front s.back))
memarg_behind false false n front back m small below first s = absurd s

memarg_least : (m : MemArg) (text : List ℕ) → SpellsMemArg text m → length (memarg_code m) ≤ length text
memarg_least m text s = omega (
  arith,
  memarg_behind (ltb s.value 64) (ltb s.value 128) s.value s.front s.back m refl refl s.first s.second,
  ap length s.parts,
  length-append s.front s.back,
)

pair_least : (p : ℕ × ℕ) (text : List ℕ) → SpellsPair text p → length (shortest p.0 ++ shortest p.1) ≤ length text
pair_least p text s =
    subst (λ (q : ℕ × ℕ). length (shortest q.0 ++ shortest q.1) ≤ length text) s.second.made
    (omega (
      arith,
      length-append (shortest s.value) (shortest s.second.value),
      least_32 s.value s.front s.first,
      least_32 s.second.value s.back s.second.spells,
      ap length s.parts,
      length-append s.front s.back,
    ))

group_some : (text : List ℕ) → IsGroup text → 1 ≤ length text
group_some [] g = absurd g
group_some (b ∷ text) g = omega arith

first_some : (n : ℕ) (text : List ℕ) (first : Option ValType) → n ≡ 1 → SpellsFirst n text first → 1 ≤ length text
first_some zero text first e s = absurd cc
first_some (suc n) text first e s = omega (arith, ap length s.first, ap length s.parts, length-append s.front s.back)

types_some : (t : ValType) (text : List ℕ) → SpellsTypes text (1, Some t) → 2 ≤ length text
types_some t text s =
    let one : s.value ≡ 1 = ap (λ (p : ℕ × Option ValType). p.0) s.second.made in
    omega (
      arith,
      group_some s.front s.first.group,
      first_some s.value s.back s.second.value one s.second.spells,
      ap length s.parts,
      length-append s.front s.back,
    )

imm_least : (k : Kind) (i : Imm) (text : List ℕ) → SpellsImm k text i → length (imm_code i) ≤ length text
unfolding imm_code
imm_least kind.Nothing i text s = subst (λ (j : Imm). length (imm_code j) ≤ length text) s.1 (omega arith)
imm_least kind.Index i text s = subst (λ (j : Imm). length (imm_code j) ≤ length text) s.made (least_32 s.value text s.spells)
imm_least kind.Pair i text s = subst (λ (j : Imm). length (imm_code j) ≤ length text) s.made (pair_least s.value text s.spells)
imm_least kind.Mem i text s = subst (λ (j : Imm). length (imm_code j) ≤ length text) s.made (memarg_least s.value text s.spells)
imm_least kind.MemLane i text s =
    subst (λ (j : Imm). length (imm_code j) ≤ length text) s.second.made
    (omega (
      arith,
      memarg_least s.value s.front s.first,
      length-append (memarg_code s.value) (s.second.value ∷ []),
      ap length s.second.spells,
      ap length s.parts,
      length-append s.front s.back,
    ))
imm_least kind.Lane i text s = subst (λ (j : Imm). length (imm_code j) ≤ length text) s.made (omega (arith, ap length s.spells))
imm_least kind.I32 i text s = subst (λ (j : Imm). length (imm_code j) ≤ length text) s.made
    (shortest_signed_least 32 s.value text (omega arith) s.spells)
imm_least kind.I64 i text s = subst (λ (j : Imm). length (imm_code j) ≤ length text) s.made
    (shortest_signed_least 64 s.value text (omega arith) s.spells)
imm_least kind.F32 i text s = subst (λ (j : Imm). length (imm_code j) ≤ length text) s.made (omega (arith, s.spells.0))
imm_least kind.F64 i text s = subst (λ (j : Imm). length (imm_code j) ≤ length text) s.made (omega (arith, s.spells.0))
imm_least kind.V128 i text s = subst (λ (j : Imm). length (imm_code j) ≤ length text) s.made
    (omega (arith, s.spells.0, v128_length (cast_signed w128 (from_le_bytes w128 s.value))))
imm_least kind.Shuffle i text s = subst (λ (j : Imm). length (imm_code j) ≤ length text) s.made (omega (arith, ap length s.spells.1))
imm_least kind.Heap i text s = subst (λ (j : Imm). length (imm_code j) ≤ length text) s.made (omega (arith, ap length s.spells))
imm_least kind.Val (imm.Val t) text s = types_some t text s
imm_least kind.Val _ text s = absurd s

numbered : (v : Bool) (b : ℕ) (o : Opcode) (back : List ℕ) → Choose v SpellsFd (NoBytes (Byte b)) back o → length (opcode_code o) ≤ suc (length back)
unfolding opcode_code
numbered true b o back s = subst (λ (p : Opcode). length (opcode_code p) ≤ suc (length back)) s.made (omega (arith, least_32 s.value back s.spells))
numbered false b o back s = subst (λ (p : Opcode). length (opcode_code p) ≤ suc (length back)) s.1 (omega arith)

opcode_behind : (v : Bool) (b : ℕ) (o : Opcode) (back : List ℕ) → Choose v SpellsFc (Choose (eqb b 253) SpellsFd (NoBytes (Byte b))) back o →
    length (opcode_code o) ≤ suc (length back)
unfolding opcode_code
opcode_behind true b o back s = subst (λ (p : Opcode). length (opcode_code p) ≤ suc (length back)) s.made
    (omega (arith, least_32 s.value back s.spells))
opcode_behind false b o back s = numbered (eqb b 253) b o back s

opcode_least : (o : Opcode) (text : List ℕ) → SpellsOpcode text o → length (opcode_code o) ≤ length text
opcode_least o text s =
    let behind = opcode_behind (eqb s.value 252) s.value o s.back s.second in
    omega (arith, behind, ap length s.parts, length-append s.front s.back, ap length s.first)

-- No spelling of an instruction has fewer bytes than its code.
pub code_least : (i : Instruction) (text : List ℕ) → Spells text (op.Instr i) → length (code i) ≤ length text
unfolding code
code_least i text s =
    let o = opcode_least s.value s.front s.first in
    let o' : length (opcode_code s.second.row.opcode) ≤ length s.front = rw s.second.opcode o in
    let m = imm_least s.second.row.kind i.imm s.back s.second.imm in
    rw s.second.at (omega (
      arith,
      o',
      m,
      ap length s.parts,
      length-append s.front s.back,
      length-append (opcode_code s.second.row.opcode)
          (imm_code i.imm),
    ))
