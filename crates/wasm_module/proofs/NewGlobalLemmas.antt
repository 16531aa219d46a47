-- The code of a global spells it, and lists of globals grow.
use Rattle.std.proofs.Common.{◌≡◌, ℕ, zero, suc, pos, ◌+◌, true, false, List, [], ◌∷◌, ◌++◌, length, Some, None, refl, sym, ap, subst, ◌∙◌, append_assoc, arith}
use Rattle.std.specs.Prelude.{map}
use Rattle.std.specs.List.{AllByRecursion}
use Rattle.std.specs.Int.{w32, w64, w128, from_le_bytes, cast_signed}
use Rattle.std.proofs.lemmas.Int.{ints}
use Rattle.std.proofs.lemmas.List.{length-append, length-map}
use Rattle.wasm_code.specs.Number.{SpellsUnsigned, SpellsSigned}
use Rattle.wasm_code.specs.Code.{shortest}
use Rattle.wasm_code.specs.Immediate.{SpellsImm}
use Rattle.wasm_code.specs.Operator.{Spells, SpellsOpcode}
use Rattle.wasm_code.specs.Reader.{unsigned_at}
use Rattle.wasm_code.specs.Table.{table, row_at}
use Rattle.wasm_code.specs.declared.immediate.Imm.{Imm}
use Rattle.wasm_code.specs.declared.immediate.Imm.TheVariants as imm
use Rattle.wasm_code.specs.declared.operator.Operator.TheVariants as op
use Rattle.wasm_code.specs.declared.table.Opcode.{Opcode}
use Rattle.wasm_code.specs.declared.table.Opcode.TheVariants.{Byte, Fd}
use Rattle.wasm_code.specs.declared.table.Row.{Row}
use Rattle.wasm_code.specs.laws.NumberExact.{unsigned_exact}
use Rattle.wasm_types.specs.declared.types.PrimitiveTypeInfo.{PrimitiveTypeInfo}
use Rattle.wasm_types.specs.declared.types.PrimitiveTypeInfo.TheVariants as primitives
use Rattle.wasm_types.specs.Module.{merged}
use Rattle.wasm_lists.specs.ValueTypes.{SpellsPrimitive}
use Rattle.wasm_lists.specs.Constants.{SpellsConstant}
use Rattle.wasm_lists.specs.Globals.{SpellsGlobal}
use Rattle.wasm_lists.specs.Known.{Known, IsWhole}
use Rattle.wasm_lists.specs.List.{Each}
use Rattle.wasm_module.specs.Rewritten.{zeros, global_of, global_code, globals_code, new_globals, GrowsContents}
use Rattle.wasm_module.proofs.CountLemmas.{rest_is}

-- ---- one global

row_spells : (front text : List ℕ) (o : Opcode) (r : ℕ) (row : Row) (i : Imm) → SpellsOpcode front o → row_at r ≡ Some row → row.opcode ≡ o →
    SpellsImm row.kind text i → Spells (front ++ text) (op.Instr (record { row = r; imm = i }))
row_spells front text o r row i s at is by_kind = record {
  value = o;
  front = front;
  back = text;
  parts = refl;
  first = s;
  second = record { row = row; at = at; opcode = is; imm = by_kind };
}

end_spells : SpellsConstant (0x0b ∷ []) true
end_spells = record {
  value = op.End;
  spells = record {
    value = Byte 0x0b;
    front = 0x0b ∷ [];
    back = [];
    parts = refl;
    first = record { value = 0x0b; front = 0x0b ∷ []; back = []; parts = refl; first = refl; second = (refl, refl) };
    second = (refl, refl);
  };
  made = refl;
}

-- a type, a mark that it may be written, one instruction and the end
global_spells : (byte : ℕ) (type : PrimitiveTypeInfo) (start : List ℕ) → SpellsPrimitive (byte ∷ []) type → SpellsConstant start false →
    SpellsGlobal (global_of byte start) type
global_spells byte type start t s = record {
  value = type;
  front = byte ∷ 0x01 ∷ [];
  back = start ++ 0x0b ∷ [];
  parts = refl;
  first = record {
    value = type;
    front = byte ∷ [];
    back = 0x01 ∷ [];
    parts = refl;
    first = t;
    second = record { value = true; spells = refl; made = refl };
  };
  second = record {
    value = tt;
    spells = record {
      most = 2;
      spells = record {
        value = false;
        front = start;
        back = 0x0b ∷ [];
        parts = refl;
        first = s;
        second = record {
          value = true;
          front = 0x0b ∷ [];
          back = [];
          parts = refl;
          first = end_spells;
          second = (refl, refl);
        };
      };
    };
    made = refl;
  };
}

zero_spells : SpellsSigned 32 (0 ∷ []) (pos 0)
zero_spells = record { group = omega arith; short = omega arith; is = refl; low = omega (arith, ints); high = omega (arith, ints) }

long_zero_spells : SpellsSigned 64 (0 ∷ []) (pos 0)
long_zero_spells = record { group = omega arith; short = omega arith; is = refl; low = omega (arith, ints); high = omega (arith, ints) }

new_global : (t : PrimitiveTypeInfo) → (t ≡ primitives.Empty → ⊥) → SpellsGlobal (global_code t) (merged true t)
unfolding row_at table
new_global primitives.I32 some =
    let s = row_spells (0x41 ∷ []) (0x00 ∷ []) (Byte 0x41) 36 _ (imm.I32 (pos 0))
    (record { value = 0x41; front = 0x41 ∷ []; back = []; parts = refl; first = refl; second = (refl, refl) }) refl refl
    (record { value = pos 0; spells = zero_spells; made = refl }) in
    global_spells 0x7f primitives.I32 (0x41 ∷ 0x00 ∷ []) (refl, refl) (record { value = op.Instr _; spells = s; made = refl })
new_global primitives.I64 some =
    let s = row_spells (0x42 ∷ []) (0x00 ∷ []) (Byte 0x42) 37 _ (imm.I64 (pos 0))
    (record { value = 0x42; front = 0x42 ∷ []; back = []; parts = refl; first = refl; second = (refl, refl) }) refl refl
    (record { value = pos 0; spells = long_zero_spells; made = refl }) in
    global_spells 0x7e primitives.I64 (0x42 ∷ 0x00 ∷ []) (refl, refl) (record { value = op.Instr _; spells = s; made = refl })
new_global primitives.F32 some =
    let s = row_spells (0x43 ∷ []) (zeros 4) (Byte 0x43) 38 _ (imm.F32 (from_le_bytes w32 (zeros 4)))
    (record { value = 0x43; front = 0x43 ∷ []; back = []; parts = refl; first = refl; second = (refl, refl) }) refl refl
    (record { value = zeros 4; spells = (refl, refl); made = refl }) in
    global_spells 0x7d primitives.F32 (0x43 ∷ zeros 4) (refl, refl) (record { value = op.Instr _; spells = s; made = refl })
new_global primitives.F64 some =
    let s = row_spells (0x44 ∷ []) (zeros 8) (Byte 0x44) 39 _ (imm.F64 (from_le_bytes w64 (zeros 8)))
    (record { value = 0x44; front = 0x44 ∷ []; back = []; parts = refl; first = refl; second = (refl, refl) }) refl refl
    (record { value = zeros 8; spells = (refl, refl); made = refl }) in
    global_spells 0x7c primitives.F64 (0x44 ∷ zeros 8) (refl, refl) (record { value = op.Instr _; spells = s; made = refl })
new_global primitives.V128 some =
    let s = row_spells (0xfd ∷ 0x0c ∷ []) (zeros 16) (Fd 12) 201 _ (imm.V128 (cast_signed w128 (from_le_bytes w128 (zeros 16))))
    (record {
      value = 0xfd;
      front = 0xfd ∷ [];
      back = 0x0c ∷ [];
      parts = refl;
      first = refl;
      second = record { value = 12; spells = record { group = omega arith; short = omega arith; is = refl; fits = omega arith }; made = refl };
    }) refl refl
    (record { value = zeros 16; spells = (refl, refl); made = refl }) in
    global_spells 0x7b primitives.V128 (0xfd ∷ 0x0c ∷ zeros 16) (refl, refl) (record { value = op.Instr _; spells = s; made = refl })
new_global primitives.FuncRef some =
    global_spells 0x70 primitives.Empty (0xd0 ∷ 0x70 ∷ []) (record { value = tt; spells = (refl, refl); made = refl })
    (record { value = tt; spells = (refl, refl); made = refl })
new_global primitives.ExternRef some =
    global_spells 0x6f primitives.Empty (0xd0 ∷ 0x6f ∷ []) (record { value = tt; spells = (refl, refl); made = refl })
    (record { value = tt; spells = (refl, refl); made = refl })
new_global primitives.Empty some = absurd (some refl)

-- ---- lists of globals

each_new : (ts : List PrimitiveTypeInfo) → AllByRecursion (λ t. t ≡ primitives.Empty → ⊥) ts →
    Each (length ts) SpellsGlobal (globals_code ts) (map (merged true) ts)
each_new [] some = (refl, refl)
each_new (t ∷ ts) some = record {
  value = merged true t;
  front = global_code t;
  back = globals_code ts;
  parts = refl;
  first = new_global t some.0;
  second = record { value = map (merged true) ts; spells = each_new ts some.1; made = refl };
}

each_append : {A : Type 0} (Spells : List ℕ → A → Type 0) (n m k : ℕ) (a b : List ℕ) (xs ys : List A) → k ≡ n + m → Each n Spells a xs → Each m Spells b ys →
    Each k Spells (a ++ b) (xs ++ ys)
each_append {A} Spells zero m k a b xs ys e p q =
    let number : m ≡ k = omega arith in
    subst (λ (l : List ℕ). Each k Spells (l ++ b) (xs ++ ys)) (sym p.0) (subst (λ (l : List A). Each k Spells b (l ++ ys)) p.1
    (subst (λ (j : ℕ). Each j Spells b ys) number q))
each_append {A} Spells (suc n) m zero a b xs ys e p q = absurd (omega arith)
each_append {A} Spells (suc n) m (suc k) a b xs ys e p q = record {
  value = p.value;
  front = p.front;
  back = p.back ++ b;
  parts = ap (λ (l : List ℕ). l ++ b) p.parts ∙ append_assoc p.front p.back b;
  first = p.first;
  second = record {
    value = p.second.value ++ ys;
    spells = each_append Spells n m k p.back b p.second.value ys (omega arith) p.second.spells q;
    made = ap (λ (l : List A). l ++ ys) p.second.made;
  };
}

each_length : {A : Type 0} (Spells : List ℕ → A → Type 0) (n : ℕ) (text : List ℕ) (xs : List A) → Each n Spells text xs → n ≡ length xs
each_length Spells zero text xs p = ap length p.1
each_length Spells (suc n) text xs p =
    let less = each_length Spells n p.back p.second.value p.second.spells in omega (arith, less, ap length p.second.made)

-- the known globals, and more behind them
abbrev pub grown : Known PrimitiveTypeInfo → List PrimitiveTypeInfo → Known PrimitiveTypeInfo
grown k more = record { count = k.count + length more; items = k.items ++ map (merged true) more; unknown = None }

pub grown_whole : (own : ℕ) (old new : List ℕ) (more : List PrimitiveTypeInfo) (k : Known PrimitiveTypeInfo) → GrowsContents own old more new →
    SpellsUnsigned 32 (shortest (own + length more)) (own + length more) → AllByRecursion (λ t. t ≡ primitives.Empty → ⊥) more → own ≡ k.count
    → IsWhole SpellsGlobal old k.count k.items → IsWhole SpellsGlobal new (k.count + length more) (k.items ++ map (merged true) more)
grown_whole own old new more k g counts some same w =
    let s = w.list in
    let number : s.value ≡ length k.items = each_length SpellsGlobal s.value s.back k.items s.second in
    let reads = ap (unsigned_at 32) s.parts ∙ (unsigned_exact 32).again s.front s.back s.value s.first in
    let rest : s.back ≡ g.items = rest_is old g.count g.items s.back s.value own reads g.parts g.counts in
    let items = subst (λ (l : List ℕ). Each s.value SpellsGlobal l k.items) rest s.second in
    record {
      list = record {
        value = own + length more;
        front = shortest (own + length more);
        back = g.items ++ globals_code more;
        parts = g.new_is ∙ append_assoc (shortest (own + length more)) g.items (globals_code more);
        first = counts;
        second = each_append SpellsGlobal s.value (length more) (own + length more) g.items (globals_code more) k.items (map (merged true) more)
            (omega (arith, same, number, w.counted)) items (each_new more some);
      };
      counted = omega (arith, w.counted, length-append k.items (map (merged true) more), length-map more (merged true));
    }

pub new_whole : (more : List PrimitiveTypeInfo) → SpellsUnsigned 32 (shortest (length more)) (length more) →
    AllByRecursion (λ t. t ≡ primitives.Empty → ⊥) more → IsWhole SpellsGlobal (new_globals more) (length more) (map (merged true) more)
new_whole more counts some = record {
  list = record {
    value = length more;
    front = shortest (length more);
    back = globals_code more;
    parts = refl;
    first = counts;
    second = each_new more some;
  };
  counted = sym (length-map more (merged true));
}
