-- The texts of payloads, and what a text reads as (this project).
use Rattle.std.specs.Prelude.{ℕ, ◌-◌, ◌==◌, ◌&&◌, List, [], ◌∷◌, ◌++◌, length, take, replicate, false, Option, Some, None, Result, Ok, Err}
use Rattle.std.specs.Prelude.{codes, if◌then◌else◌, slice_index_or}
use Rattle.std.specs.Char.{is_digit}
use Rattle.std.specs.Fmt.{decimal, digits}
use Rattle.std.specs.List.{slice_split, flat_map, find, list_all}
use Rattle.std.specs.Option.{ok_or}
use Rattle.std.specs.Str.{bytes_eq}
use Rattle.std.specs.Str.Parse.{digits_value}
use Rattle.wasm_code.specs.declared.immediate.ValType.{ValType}
use Rattle.wasm_code.specs.declared.immediate.ValType.TheVariants as val
use Rattle.wasm_code.specs.ValType.{val_type_name}
use Rattle.peephole_payloads.specs.Number.{read_unsigned}
use Rattle.peephole_payloads.specs.declared.payload.RefType.{RefType}
use Rattle.peephole_payloads.specs.declared.payload.RefType.TheVariants.{Func, Extern}
use Rattle.peephole_payloads.specs.declared.payload.MemArg.{MemArg}
use Rattle.peephole_payloads.specs.declared.payload.MemArgLane.{MemArgLane}
use Rattle.peephole_payloads.specs.declared.payload.Shuffle.{Shuffle}
use Rattle.peephole_payloads.specs.declared.payload.TableCopy.{TableCopy}
use Rattle.peephole_payloads.specs.declared.payload.MemoryCopy.{MemoryCopy}
use Rattle.peephole_payloads.specs.declared.payload.TableInit.{TableInit}
use Rattle.peephole_payloads.specs.declared.payload.MemoryInit.{MemoryInit}
use Rattle.peephole_payloads.specs.declared.term_error.TermError.{TermError}
use Rattle.peephole_payloads.specs.declared.term_error.TermError.TheVariants.{MissingInfo, TooMuchInfo, BadInteger, WrongLanes, BadBits, BadRefType, BadValType}

-- ---- writing

-- a number in hexadecimal digits, with zeros in front of it where they are fewer than `count`
abbrev pub hex_text : ℕ → ℕ → List ℕ
hex_text count n = replicate (count - length (digits 16 false n)) 48 ++ digits 16 false n

-- of the bits of a float
abbrev pub f32_text : ℕ → List ℕ
f32_text bits = hex_text 8 bits

abbrev pub f64_text : ℕ → List ℕ
f64_text bits = hex_text 16 bits

abbrev pub ref_type_text : RefType → List ℕ
ref_type_text Func = codes "func"
ref_type_text Extern = codes "extern"

-- numbers, with a dot in front of each but the first
abbrev pub dotted : List ℕ → List ℕ
dotted [] = []
dotted (n ∷ ns) = decimal n ++ flat_map (λ m. 46 ∷ decimal m) ns

abbrev pub mem_arg_text : MemArg → List ℕ
mem_arg_text m = dotted (m.static_offset ∷ m.align ∷ m.mem ∷ [])

abbrev pub mem_arg_lane_text : MemArgLane → List ℕ
mem_arg_lane_text m = dotted (m.memarg.static_offset ∷ m.memarg.align ∷ m.memarg.mem ∷ m.lane ∷ [])

abbrev pub shuffle_text : Shuffle → List ℕ
shuffle_text s = dotted s.indices

abbrev pub table_copy_text : TableCopy → List ℕ
table_copy_text x = dotted (x.src ∷ x.dst ∷ [])

abbrev pub memory_copy_text : MemoryCopy → List ℕ
memory_copy_text x = dotted (x.src ∷ x.dst ∷ [])

abbrev pub table_init_text : TableInit → List ℕ
table_init_text x = dotted (x.table ∷ x.segment ∷ [])

abbrev pub memory_init_text : MemoryInit → List ℕ
memory_init_text x = dotted (x.memory ∷ x.segment ∷ [])

-- ---- reading

-- what f makes of the value, or the refusal
abbrev pub and_then : {A B : Type 0} → Result A TermError → (A → Result B TermError) → Result B TermError
and_then (Ok x) f = f x
and_then (Err e) f = Err e

-- the number that so many hexadecimal digits write, of either case
abbrev pub read_hex : ℕ → List ℕ → Option ℕ
read_hex count text = if (length text == count) && list_all (λ c. is_digit c 16) text then Some (digits_value 16 text) else None

-- the bits of a float of that type
abbrev pub read_f32 : List ℕ → Result ℕ TermError
read_f32 text = ok_or (read_hex 8 text) BadBits

abbrev pub read_f64 : List ℕ → Result ℕ TermError
read_f64 text = ok_or (read_hex 16 text) BadBits

abbrev pub read_ref_type : List ℕ → Result RefType TermError
read_ref_type text = if bytes_eq text (codes "func") then Ok Func else (if bytes_eq text (codes "extern") then Ok Extern else Err BadRefType)

abbrev pub val_types : List ValType
val_types = val.I32 ∷ val.I64 ∷ val.F32 ∷ val.F64 ∷ val.V128 ∷ val.FuncRef ∷ val.ExternRef ∷ []

-- the value type with that name
abbrev pub read_val_type : List ℕ → Result ValType TermError
read_val_type text = ok_or (find (λ t. bytes_eq (val_type_name t) text) val_types) BadValType

-- what stands between the dots of a text
abbrev pub dot_parts : List ℕ → List (List ℕ)
dot_parts text = slice_split (λ c. c == 46) text

-- the number of that many bits in the first part, and the parts behind it
abbrev pub first_number : ℕ → List (List ℕ) → Result (ℕ × List (List ℕ)) TermError
first_number width [] = Err MissingInfo
first_number width (part ∷ more) = and_then (ok_or (read_unsigned width part) BadInteger) (λ n. Ok (n, more))

-- the value, if no part is left
abbrev pub with_no_more : {A : Type 0} → A → List (List ℕ) → Result A TermError
with_no_more x [] = Ok x
with_no_more x (part ∷ more) = Err TooMuchInfo

-- two numbers of 32 bits
abbrev pub read_pair : List (List ℕ) → Result (ℕ × ℕ) TermError
read_pair parts = and_then (first_number 32 parts) (λ a. and_then (first_number 32 a.1) (λ b. with_no_more (a.0, b.0) b.1))

abbrev pub read_table_copy : List ℕ → Result TableCopy TermError
read_table_copy text = and_then (read_pair (dot_parts text)) (λ p. Ok (record { src = p.0; dst = p.1 }))

abbrev pub read_memory_copy : List ℕ → Result MemoryCopy TermError
read_memory_copy text = and_then (read_pair (dot_parts text)) (λ p. Ok (record { src = p.0; dst = p.1 }))

abbrev pub read_table_init : List ℕ → Result TableInit TermError
read_table_init text = and_then (read_pair (dot_parts text)) (λ p. Ok (record { table = p.0; segment = p.1 }))

abbrev pub read_memory_init : List ℕ → Result MemoryInit TermError
read_memory_init text = and_then (read_pair (dot_parts text)) (λ p. Ok (record { memory = p.0; segment = p.1 }))

-- a memory argument of three parts
abbrev pub read_mem_parts : List (List ℕ) → Result MemArg TermError
read_mem_parts parts =
    and_then (first_number 64 parts) (λ a. and_then (first_number 8 a.1) (λ b. and_then (first_number 32 b.1) (λ c.
    with_no_more (record { static_offset = a.0; align = b.0; mem = c.0 }) c.1)))

abbrev pub read_mem_arg : List ℕ → Result MemArg TermError
read_mem_arg text = read_mem_parts (dot_parts text)

-- the lane, and then the memory argument of the parts in front of it
abbrev pub read_lane_behind : List (List ℕ) → List ℕ → Result MemArgLane TermError
read_lane_behind parts last = and_then (ok_or (read_unsigned 8 last) BadInteger)
    (λ n. and_then (read_mem_parts parts) (λ m. Ok (record { memarg = m; lane = n })))

-- the lane is the last part
abbrev pub read_lane_parts : List (List ℕ) → Result MemArgLane TermError
read_lane_parts parts = read_lane_behind (take (length parts - 1) parts) (slice_index_or parts (length parts - 1) [])

abbrev pub read_mem_arg_lane : List ℕ → Result MemArgLane TermError
read_mem_arg_lane text = read_lane_parts (dot_parts text)

-- a number of 8 bits in each part
abbrev pub read_lanes : List (List ℕ) → Result (List ℕ) TermError
read_lanes [] = Ok []
read_lanes (part ∷ more) = and_then (ok_or (read_unsigned 8 part) BadInteger) (λ n. and_then (read_lanes more) (λ ns. Ok (n ∷ ns)))

-- sixteen of them
abbrev pub read_shuffle : List ℕ → Result Shuffle TermError
read_shuffle text = and_then (read_lanes (dot_parts text)) (λ ns. if length ns == 16 then Ok (record { indices = ns }) else Err WrongLanes)
