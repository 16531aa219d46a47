-- For each type of payload, that its text is read back (this project).
use Rattle.std.proofs.Common.{◌≡◌, ℕ, ◌^◌, ◌<◌, eqb, List, [], ◌∷◌, length, Ok, Err, Result, refl, ap, ◌∙◌, arith}
use Rattle.std.specs.Prelude.{if◌then◌else◌}
use Rattle.std.specs.List.{AllByRecursion}
use Rattle.std.specs.Option.{ok_or}
use Rattle.std.proofs.lemmas.Bool.{eq-eqb}
use Rattle.wasm_code.specs.declared.immediate.ValType.{ValType}
use Rattle.wasm_code.specs.declared.immediate.ValType.TheVariants as val
use Rattle.wasm_code.specs.ValType.{val_type_name}
use Rattle.peephole_payloads.specs.PayloadText as text
use Rattle.peephole_payloads.specs.PayloadText.{and_then}
use Rattle.peephole_payloads.specs.declared.payload.RefType.{RefType}
use Rattle.peephole_payloads.specs.declared.payload.RefType.TheVariants.{Func, Extern}
use Rattle.peephole_payloads.specs.declared.payload.MemArg.{MemArg}
use Rattle.peephole_payloads.specs.declared.payload.MemArgLane.{MemArgLane}
use Rattle.peephole_payloads.specs.declared.payload.Shuffle.{Shuffle}
use Rattle.peephole_payloads.specs.declared.payload.TableCopy.{TableCopy}
use Rattle.peephole_payloads.specs.declared.payload.MemoryCopy.{MemoryCopy}
use Rattle.peephole_payloads.specs.declared.payload.TableInit.{TableInit}
use Rattle.peephole_payloads.specs.declared.payload.MemoryInit.{MemoryInit}
use Rattle.peephole_payloads.specs.declared.term_error.TermError.{TermError}
use Rattle.peephole_payloads.specs.declared.term_error.TermError.TheVariants.{BadBits, WrongLanes}
use Rattle.peephole_payloads.specs.laws.HexLemmas.{hex_back}
use Rattle.peephole_payloads.specs.laws.ReadBackLemmas.{parts_back, pair_back, mem_arg_back, lane_back, lanes_back, all_small}

pub f32_back : (bits : ℕ) → bits < 2 ^ 32 → text.read_f32 (text.f32_text bits) ≡ Ok bits
f32_back bits fits = ap (λ o. ok_or o BadBits) (hex_back 7 bits (omega arith) (omega arith))

pub f64_back : (bits : ℕ) → bits < 2 ^ 64 → text.read_f64 (text.f64_text bits) ≡ Ok bits
f64_back bits fits = ap (λ o. ok_or o BadBits) (hex_back 15 bits (omega arith) (omega arith))

pub ref_type_back : (x : RefType) → text.read_ref_type (text.ref_type_text x) ≡ Ok x
ref_type_back Func = refl
ref_type_back Extern = refl

pub val_type_back : (x : ValType) → text.read_val_type (val_type_name x) ≡ Ok x
val_type_back val.I32 = refl
val_type_back val.I64 = refl
val_type_back val.F32 = refl
val_type_back val.F64 = refl
val_type_back val.V128 = refl
val_type_back val.FuncRef = refl
val_type_back val.ExternRef = refl

pub mem_arg_reads_back : (x : MemArg) → x.static_offset < 2 ^ 64 → x.align < 2 ^ 8 → x.mem < 2 ^ 32 → text.read_mem_arg (text.mem_arg_text x) ≡ Ok x
mem_arg_reads_back x = mem_arg_back x.static_offset x.align x.mem

pub mem_lane_back : (x : MemArgLane) → x.memarg.static_offset < 2 ^ 64 → x.memarg.align < 2 ^ 8 → x.memarg.mem < 2 ^ 32 → x.lane < 2 ^ 8 →
    text.read_mem_arg_lane (text.mem_arg_lane_text x) ≡ Ok x
mem_lane_back x = lane_back x.memarg.static_offset x.memarg.align x.memarg.mem x.lane

abbrev Made : List ℕ → Result Shuffle TermError
Made ns = if eqb (length ns) 16 then Ok (record { indices = ns }) else Err WrongLanes

lanes_of : (ns : List ℕ) → length ns ≡ 16 → AllByRecursion (λ n. n < 256) ns → text.read_lanes (text.dot_parts (text.dotted ns)) ≡ Ok ns
lanes_of [] long fits = absurd (omega arith)
lanes_of (n ∷ ns) long fits = ap text.read_lanes (parts_back n ns (all_small (n ∷ ns) fits)) ∙ lanes_back (n ∷ ns) fits

pub shuffle_back : (x : Shuffle) → length x.indices ≡ 16 → AllByRecursion (λ n. n < 256) x.indices → text.read_shuffle (text.shuffle_text x) ≡ Ok x
shuffle_back x long fits =
    ap (λ r. and_then r Made) (lanes_of x.indices long fits)
    ∙ ap (λ b. if b then Ok (record { indices = x.indices }) else Err WrongLanes) (eq-eqb (length x.indices) 16 long)

pub table_copy_back : (x : TableCopy) → x.src < 2 ^ 32 → x.dst < 2 ^ 32 → text.read_table_copy (text.table_copy_text x) ≡ Ok x
table_copy_back x low high = ap (λ r. and_then r (λ p. Ok (record { src = p.0; dst = p.1 }))) (pair_back x.src x.dst low high)

pub memory_copy_back : (x : MemoryCopy) → x.src < 2 ^ 32 → x.dst < 2 ^ 32 → text.read_memory_copy (text.memory_copy_text x) ≡ Ok x
memory_copy_back x low high = ap (λ r. and_then r (λ p. Ok (record { src = p.0; dst = p.1 }))) (pair_back x.src x.dst low high)

pub table_init_back : (x : TableInit) → x.table < 2 ^ 32 → x.segment < 2 ^ 32 → text.read_table_init (text.table_init_text x) ≡ Ok x
table_init_back x low high = ap (λ r. and_then r (λ p. Ok (record { table = p.0; segment = p.1 }))) (pair_back x.table x.segment low high)

pub memory_init_back : (x : MemoryInit) → x.memory < 2 ^ 32 → x.segment < 2 ^ 32 → text.read_memory_init (text.memory_init_text x) ≡ Ok x
memory_init_back x low high = ap (λ r. and_then r (λ p. Ok (record { memory = p.0; segment = p.1 }))) (pair_back x.memory x.segment low high)
