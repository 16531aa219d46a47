-- The code of an operator: one byte, or a prefix and a number (WebAssembly Core Specification 3.0, Binary Format, Instructions); and the family of one that
-- can't be read, by the proposal that brought it (this project).
use Rattle.std.specs.Prelude.{◌==◌, ◌&&◌, ◌||◌, if◌then◌else◌, nat_le, ℕ, ◌/◌, ◌%◌, Bool, false, List, [], ◌∷◌, ◌++◌, drop, codes, decimal}
use Rattle.std.specs.Prelude.{Option, Some, None, Result, Ok, Err}
use Rattle.std.specs.Fmt.{digit_glyph}
use Rattle.wasm_code.specs.Reader.{unsigned_at}
use Rattle.wasm_code.specs.declared.fault.Cause.{Cause}
use Rattle.module_rewrites.specs.declared.operator_code.Family.{Family}
use Rattle.module_rewrites.specs.declared.operator_code.Family.TheVariants.{Exceptions, TypedReferences, GarbageCollection, Atomics, Other}
use Rattle.module_rewrites.specs.declared.operator_code.OperatorCode.{OperatorCode}
use Rattle.module_rewrites.specs.declared.operator_code.OperatorCode.TheVariants.{Byte, Prefixed}

-- ---- codes

-- a number stands behind it, with which it names an operator
abbrev pub is_prefix : (byte : ℕ) → Bool
is_prefix byte = nat_le 0xfb byte && nat_le byte 0xfe

-- the prefix with the number that was read behind it
abbrev pub prefixed : (byte : ℕ) → Result (ℕ × List ℕ) Cause → Option OperatorCode
prefixed byte (Ok number) = Some (Prefixed byte number.0)
prefixed byte (Err cause) = None

-- the code that bytes begin with: a prefix and an unsigned number of 32 bits, or else one byte
abbrev pub code_of : List ℕ → Option OperatorCode
code_of [] = None
code_of (byte ∷ bytes) = if is_prefix byte then prefixed byte (unsigned_at 32 bytes) else Some (Byte byte)

-- the same from an offset on
abbrev pub code_at : (bytes : List ℕ) → (offset : ℕ) → Option OperatorCode
code_at bytes offset = code_of (drop offset bytes)

-- the two digits of a byte to the base 16
unfoldable pub two_digits : (byte : ℕ) → List ℕ
two_digits byte = digit_glyph false (byte / 16) ∷ digit_glyph false (byte % 16) ∷ []

-- the code's text
abbrev pub code_text : OperatorCode → List ℕ
code_text (Byte byte) = codes "0x" ++ two_digits byte
code_text (Prefixed prefix number) = codes "0x" ++ (two_digits prefix ++ (codes " " ++ decimal number))

-- ---- families

-- those of one byte: `try` to `throw_ref`, `delegate`, `catch_all`, `try_table`; `block`, `loop`, `if`, `call_ref`, `select`, `ref.null`, `ref.as_non_null`,
-- `br_on_null`, `br_on_non_null`; `ref.eq`
abbrev pub byte_family : (byte : ℕ) → Family
byte_family byte =
    if (nat_le 0x06 byte && nat_le byte 0x0a) || byte == 0x18 || byte == 0x19 || byte == 0x1f then Exceptions
    else if (nat_le 0x02 byte && nat_le byte 0x04) || byte == 0x14 || byte == 0x1c || byte == 0xd0 || (nat_le 0xd4 byte && nat_le byte 0xd6) then
    TypedReferences
    else if byte == 0xd3 then GarbageCollection
    else Other

-- those behind a prefix
abbrev pub prefix_family : (prefix : ℕ) → Family
prefix_family prefix = if prefix == 0xfb then GarbageCollection else if prefix == 0xfe then Atomics else Other

-- the family of the code, where the operator can't be read
abbrev pub unreadable_code_family : OperatorCode → Family
unreadable_code_family (Byte byte) = byte_family byte
unreadable_code_family (Prefixed prefix number) = prefix_family prefix

-- its name
abbrev pub family_name : Family → List ℕ
family_name Exceptions = codes "exceptions"
family_name TypedReferences = codes "typed references"
family_name GarbageCollection = codes "garbage collection"
family_name Atomics = codes "atomics"
family_name Other = codes "other"
