-- Operators that are neither instructions of the table nor control operators of `Operator`: tail calls, exceptions, typed references, garbage
-- collection, atomics, and those whose types are of these (WebAssembly Core Specification 3.0, Binary Format, Types and Instructions; of 3.0 the legacy
-- exceptions: its document on legacy exception handling; atomics: the threads proposal). What stands behind their opcodes isn't kept.
use Rattle.std.specs.Prelude.{◌≡◌, nat_lt, ℕ, ℤ, pos, negsuc, ◌==◌, List, ◌∷◌, Bool, true, false, if◌then◌else◌, Option, Some, None}
use Rattle.wasm_code.specs.declared.fault.Cause.{Cause}
use Rattle.wasm_code.specs.declared.fault.Cause.TheVariants.{UnknownOpcode}
use Rattle.wasm_code.specs.declared.other.Other.{Other}
use Rattle.wasm_code.specs.declared.other.Other.TheVariants.{Byte, Fb, Fe}
use Rattle.wasm_code.specs.declared.other.Shape.{Shape}
use Rattle.wasm_code.specs.declared.other.Shape.TheVariants as shape
use Rattle.wasm_code.specs.Grammar.{IsByte, LacksByte, NoBytes, NeverFails, Never, NamesNothing, Of, Choose, FailsChosen, Then, FailsThen, Times, FailsTimes}
use Rattle.wasm_code.specs.Number.{SpellsUnsigned, SpellsSigned, FailsUnsigned, FailsSigned}
use Rattle.wasm_code.specs.Immediate.{SpellsPair, FailsPair, SpellsMemArg, FailsMemArg}

-- ---- types

-- an abstract heap type: exn, array, struct, i31, eq, any, extern, func, none, noextern, nofunc, noexn
abbrev pub is_abstract : ℕ → Bool
is_abstract b = if nat_lt b 0x69 then false else nat_lt b 0x75

-- a value type of one byte: a reference that may be null to one of these, or v128, f64, f32, i64, i32
abbrev pub is_type : ℕ → Bool
is_type b = if nat_lt b 0x69 then false else if nat_lt b 0x75 then true else if nat_lt b 0x7b then false else nat_lt b 0x80

-- a reference that may be null, or that may not, to the heap type that follows
abbrev pub is_reference_type_byte : ℕ → Bool
is_reference_type_byte b = if b == 0x63 then true else b == 0x64

-- a spelling that begins with that byte, without it
abbrev pub Behind : {A : Type 0} → ℕ → (List ℕ → A → Type 0) → List ℕ → A → Type 0
Behind b Spells text x = Spells (b ∷ text) x

-- how one fails that begins with that byte
abbrev pub FailsFrom : ℕ → (List ℕ → Cause → Type 0) → List ℕ → Cause → Type 0
FailsFrom b Fails bytes cause = Fails (b ∷ bytes) cause

-- a number that isn't below zero
abbrev pub NotBelow : ℤ → List ℕ → Unit {0} → Type 0
NotBelow (pos n) = NoBytes tt
NotBelow (negsuc n) = Never

-- a number below zero names no type
abbrev pub FailsBelow : ℤ → List ℕ → Cause → Type 0
FailsBelow (pos n) = NeverFails
FailsBelow (negsuc n) = NamesNothing

-- the index of a type: a signed number of 33 bits that isn't below zero
abbrev pub SpellsTypeIndex : List ℕ → Unit {0} → Type 0
SpellsTypeIndex = Then (SpellsSigned 33) NotBelow

-- no such number begins the bytes
abbrev pub FailsTypeIndex : List ℕ → Cause → Type 0
FailsTypeIndex = FailsThen (FailsSigned 33) (SpellsSigned 33) FailsBelow

-- an abstract heap type, or the index of a type
abbrev pub SpellsAnyHeapType : List ℕ → Unit {0} → Type 0
SpellsAnyHeapType = Then IsByte (λ b. Choose (is_abstract b) (NoBytes tt) (Behind b SpellsTypeIndex))

-- there is no byte, or it begins neither
abbrev pub FailsAnyHeapType : List ℕ → Cause → Type 0
FailsAnyHeapType = FailsThen LacksByte IsByte (λ b. FailsChosen (is_abstract b) NeverFails (FailsFrom b FailsTypeIndex))

-- a value type of one byte, or a reference type with its heap type
abbrev pub SpellsAnyValType : List ℕ → Unit {0} → Type 0
SpellsAnyValType = Then IsByte (λ b. Choose (is_type b) (NoBytes tt) (Choose (is_reference_type_byte b) SpellsAnyHeapType Never))

-- there is no byte, or it begins neither, or the heap type fails
abbrev pub FailsAnyValType : List ℕ → Cause → Type 0
FailsAnyValType = FailsThen LacksByte IsByte (λ b. FailsChosen (is_type b) NeverFails (FailsChosen (is_reference_type_byte b) FailsAnyHeapType NamesNothing))

-- the type of a block: the byte 40, a value type, or the index of a function type
abbrev pub SpellsAnyBlockType : List ℕ → Unit {0} → Type 0
SpellsAnyBlockType = Then IsByte (λ b. Choose (b == 0x40) (NoBytes tt)
    (Choose (is_type b) (NoBytes tt) (Choose (is_reference_type_byte b) SpellsAnyHeapType (Behind b SpellsTypeIndex))))

-- there is no byte, or it begins none of these
abbrev pub FailsAnyBlockType : List ℕ → Cause → Type 0
FailsAnyBlockType = FailsThen LacksByte IsByte (λ b. FailsChosen (b == 0x40) NeverFails
    (FailsChosen (is_type b) NeverFails (FailsChosen (is_reference_type_byte b) FailsAnyHeapType (FailsFrom b FailsTypeIndex))))

-- ---- lists

-- a count, and as many value types
abbrev pub SpellsAnyTypes : List ℕ → Unit {0} → Type 0
SpellsAnyTypes = Then (SpellsUnsigned 32) (λ n. Times n SpellsAnyValType)

-- the count fails, or one of the value types
abbrev pub FailsAnyTypes : List ℕ → Cause → Type 0
FailsAnyTypes = FailsThen (FailsUnsigned 32) (SpellsUnsigned 32) (λ n. FailsTimes n FailsAnyValType SpellsAnyValType)

-- a catch clause: the byte 0 or 1, the index of a tag and a label; or the byte 2 or 3, and a label
abbrev pub SpellsCatch : List ℕ → Unit {0} → Type 0
SpellsCatch = Then IsByte (λ b. Choose (nat_lt b 2) (Of (λ _. tt) SpellsPair) (Choose (nat_lt b 4) (Of (λ _. tt) (SpellsUnsigned 32)) Never))

-- there is no byte, it is none of these, or a number behind it fails
abbrev pub FailsCatch : List ℕ → Cause → Type 0
FailsCatch = FailsThen LacksByte IsByte (λ b. FailsChosen (nat_lt b 2) FailsPair (FailsChosen (nat_lt b 4) (FailsUnsigned 32) NamesNothing))

-- a block type, a count, and as many catch clauses
abbrev pub SpellsCatches : List ℕ → Unit {0} → Type 0
SpellsCatches = Then SpellsAnyBlockType (λ _. Then (SpellsUnsigned 32) (λ n. Times n SpellsCatch))

-- the block type fails, or the count, or one of the clauses
abbrev pub FailsCatches : List ℕ → Cause → Type 0
FailsCatches = FailsThen FailsAnyBlockType SpellsAnyBlockType (λ _. FailsThen (FailsUnsigned 32) (SpellsUnsigned 32) (λ n. FailsTimes n FailsCatch SpellsCatch))

-- a cast that branches: a byte of two flags, a label, and two heap types
abbrev pub SpellsCast : List ℕ → Unit {0} → Type 0
SpellsCast = Then IsByte (λ b. Choose (nat_lt b 4) (Then (SpellsUnsigned 32) (λ _. Then SpellsAnyHeapType (λ _. SpellsAnyHeapType))) Never)

-- there is no byte, it has other flags, or what stands behind it fails
abbrev pub FailsCast : List ℕ → Cause → Type 0
FailsCast = FailsThen LacksByte IsByte (λ b. FailsChosen (nat_lt b 4) (FailsThen (FailsUnsigned 32) (SpellsUnsigned 32)
    (λ _. FailsThen FailsAnyHeapType SpellsAnyHeapType (λ _. FailsAnyHeapType))) NamesNothing)

-- the byte 0
abbrev pub SpellsZero : List ℕ → Unit {0} → Type 0
SpellsZero = Then IsByte (λ b. Choose (b == 0) (NoBytes tt) Never)

-- there is no byte, or another one
abbrev pub FailsZero : List ℕ → Cause → Type 0
FailsZero = FailsThen LacksByte IsByte (λ b. FailsChosen (b == 0) NeverFails NamesNothing)

-- ---- by shape

-- The bytes have the shape.
abbrev pub SpellsShape : Shape → List ℕ → Unit {0} → Type 0
SpellsShape shape.Nothing = NoBytes tt
SpellsShape shape.Index = Of (λ _. tt) (SpellsUnsigned 32)
SpellsShape shape.Pair = Of (λ _. tt) SpellsPair
SpellsShape shape.Mem = Of (λ _. tt) SpellsMemArg
SpellsShape shape.Zero = SpellsZero
SpellsShape shape.Heap = SpellsAnyHeapType
SpellsShape shape.Types = SpellsAnyTypes
SpellsShape shape.Block = SpellsAnyBlockType
SpellsShape shape.Catches = SpellsCatches
SpellsShape shape.Cast = SpellsCast

-- Nothing of the shape begins the bytes.
abbrev pub FailsShape : Shape → List ℕ → Cause → Type 0
FailsShape shape.Nothing = NeverFails
FailsShape shape.Index = FailsUnsigned 32
FailsShape shape.Pair = FailsPair
FailsShape shape.Mem = FailsMemArg
FailsShape shape.Zero = FailsZero
FailsShape shape.Heap = FailsAnyHeapType
FailsShape shape.Types = FailsAnyTypes
FailsShape shape.Block = FailsAnyBlockType
FailsShape shape.Catches = FailsCatches
FailsShape shape.Cast = FailsCast

-- ---- the table of shapes

-- behind an opcode of one byte
abbrev pub byte_shape : ℕ → Option Shape
byte_shape b =
    if b == 0x02 then Some shape.Block  -- block
    else if b == 0x03 then Some shape.Block  -- loop
    else if b == 0x04 then Some shape.Block  -- if
    else if b == 0x06 then Some shape.Block  -- try (legacy)
    else if b == 0x07 then Some shape.Index  -- catch (legacy)
    else if b == 0x08 then Some shape.Index  -- throw
    else if b == 0x09 then Some shape.Index  -- rethrow (legacy)
    else if b == 0x0a then Some shape.Nothing  -- throw_ref
    else if b == 0x12 then Some shape.Index  -- return_call
    else if b == 0x13 then Some shape.Pair  -- return_call_indirect
    else if b == 0x14 then Some shape.Index  -- call_ref
    else if b == 0x15 then Some shape.Index  -- return_call_ref
    else if b == 0x18 then Some shape.Index  -- delegate (legacy)
    else if b == 0x19 then Some shape.Nothing  -- catch_all (legacy)
    else if b == 0x1c then Some shape.Types  -- select with types
    else if b == 0x1f then Some shape.Catches  -- try_table
    else if b == 0xd0 then Some shape.Heap  -- ref.null
    else if b == 0xd3 then Some shape.Nothing  -- ref.eq
    else if b == 0xd4 then Some shape.Nothing  -- ref.as_non_null
    else if b == 0xd5 then Some shape.Index  -- br_on_null
    else if b == 0xd6 then Some shape.Index  -- br_on_non_null
    else None

-- behind the byte FB and a number
abbrev pub fb_shape : ℕ → Option Shape
fb_shape n =
    if nat_lt n 2 then Some shape.Index  -- struct.new, struct.new_default
    else if nat_lt n 6 then Some shape.Pair  -- struct.get to struct.set
    else if nat_lt n 8 then Some shape.Index  -- array.new, array.new_default
    else if nat_lt n 11 then Some shape.Pair  -- array.new_fixed, array.new_data, array.new_elem
    else if nat_lt n 15 then Some shape.Index  -- array.get to array.set
    else if nat_lt n 16 then Some shape.Nothing  -- array.len
    else if nat_lt n 17 then Some shape.Index  -- array.fill
    else if nat_lt n 20 then Some shape.Pair  -- array.copy, array.init_data, array.init_elem
    else if nat_lt n 24 then Some shape.Heap  -- ref.test and ref.cast, of references that may be null or not
    else if nat_lt n 26 then Some shape.Cast  -- br_on_cast, br_on_cast_fail
    else if nat_lt n 31 then Some shape.Nothing  -- any.convert_extern, extern.convert_any, ref.i31, i31.get_s, i31.get_u
    else None

-- behind the byte FE and a number
abbrev pub fe_shape : ℕ → Option Shape
fe_shape n =
    if nat_lt n 3 then Some shape.Mem  -- memory.atomic.notify, wait32, wait64
    else if nat_lt n 4 then Some shape.Zero  -- atomic.fence
    else if nat_lt n 16 then None
    else if nat_lt n 79 then Some shape.Mem  -- i32.atomic.load to i64.atomic.rmw32.cmpxchg_u
    else None

-- an operator that catches exceptions, or stands where one has been caught: try, catch, rethrow, delegate, catch_all, try_table
abbrev pub is_catching_byte : ℕ → Bool
is_catching_byte b =
    if b == 0x06 then true else if b == 0x07 then true else if b == 0x09 then true else if b == 0x18 then true else if b == 0x19 then true
    else b == 0x1f

-- the same by the opcode
abbrev pub is_catching : Other → Bool
is_catching (Byte b) = is_catching_byte b
is_catching o = false

-- Behind an opcode that is read; none where no such operator has it. Those that catch exceptions aren't read: a run goes on behind them from inside a
-- piece, of which `wasm_equivalence` says nothing yet.
abbrev pub shape_of : Other → Option Shape
shape_of (Byte b) = if is_catching_byte b then None else byte_shape b
shape_of (Fb n) = fb_shape n
shape_of (Fe n) = fe_shape n

-- ---- operators

-- a byte, and behind FB and FE a number
abbrev pub SpellsOtherOpcode : List ℕ → Other → Type 0
SpellsOtherOpcode = Then IsByte (λ b.
    Choose (b == 0xfb) (Of (λ n. Fb n) (SpellsUnsigned 32))
    (Choose (b == 0xfe) (Of (λ n. Fe n) (SpellsUnsigned 32)) (NoBytes (Byte b))))

-- there is no byte, or the number behind FB or FE fails
abbrev pub FailsOtherOpcode : List ℕ → Cause → Type 0
FailsOtherOpcode = FailsThen LacksByte IsByte (λ b.
    FailsChosen (b == 0xfb) (FailsUnsigned 32)
    (FailsChosen (b == 0xfe) (FailsUnsigned 32) NeverFails))

-- the opcode's shape behind it; nothing where it has none
abbrev pub SpellsShaped : Option Shape → Other → List ℕ → Other → Type 0
SpellsShaped None o = Never
SpellsShaped (Some s) o = Of (λ _. o) (SpellsShape s)

-- the opcode has no shape, or that fails behind it
abbrev pub FailsShaped : Option Shape → List ℕ → Cause → Type 0
FailsShaped None bytes cause = cause ≡ UnknownOpcode
FailsShaped (Some s) bytes cause = FailsShape s bytes cause

-- The bytes spell an operator with that opcode.
abbrev pub SpellsOther : List ℕ → Other → Type 0
SpellsOther = Then SpellsOtherOpcode (λ o. SpellsShaped (shape_of o) o)

-- No such operator begins the bytes, for that cause.
abbrev pub FailsOther : List ℕ → Cause → Type 0
FailsOther = FailsThen FailsOtherOpcode SpellsOtherOpcode (λ o. FailsShaped (shape_of o))
