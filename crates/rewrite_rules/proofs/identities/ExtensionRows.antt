-- The rows on low bits that are read as signed are right.
use Rattle.std.proofs.Common.{◌≡◌, ℕ, ◌-◌, ◌%◌, ◌^◌, ◌≤◌, arith}
use Rattle.std.specs.Prelude.{bit_and}
use Rattle.std.specs.Int.{Width, w8, w16, w32, w64}
use mir.Val.{bits}
use Rattle.wasm_types.specs.declared.types.PrimitiveTypeInfo.{PrimitiveTypeInfo}
use Rattle.wasm_types.specs.declared.types.PrimitiveTypeInfo.TheVariants.{I32, I64}
use Rattle.wasm_execution.specs.Integer.{signed_into}
use Rattle.rewrite_rules.specs.declared.table.integers.TheConstants.{EXTENSIONS, EXTENSION_MASKS, EXTENSION_MOVES}
use Rattle.rewrite_rules.specs.Line.{IsRight}
use Rattle.rewrite_rules.specs.Table.{rows_of}
use Rattle.rewrite_rules.proofs.identities.RowLemmas.{AtRows, ◌▸◌}
use Rattle.rewrite_rules.proofs.identities.LaneMoveIdentities.{Moves, onward, homeward}
use Rattle.rewrite_rules.proofs.identities.ExtensionNumbers.{half_of_signed}
use Rattle.rewrite_rules.proofs.identities.ExtensionIdentities.{low_8_in_32, low_16_in_32, low_8_in_64, low_16_in_64}
use Rattle.rewrite_rules.proofs.identities.ExtensionIdentities.{low_8_of_16, low_8_of_half, low_16_of_half, same_low, masked_low, same_masked}
use Rattle.rewrite_rules.proofs.identities.ExtensionIdentities.{read_8_as_16_in_32, read_8_as_16_in_64, read_8_as_32_in_64, read_16_as_32_in_64}
use Rattle.rewrite_rules.proofs.identities.ExtensionIdentities.{wrapped_8, wrapped_16, widened_8, widened_16}

-- ---- extended once more

-- behind `v`, to as many bits, or fewer, `u`
abbrev narrowed : (t : PrimitiveTypeInfo) (w u v : Width) → ((n : ℕ) → signed_into v w n % 2 ^ bits w % 2 ^ bits u ≡ n % 2 ^ bits u) → Moves t
narrowed t w u v k = record {
  left = λ n. signed_into u w (signed_into v w n % 2 ^ bits w) % 2 ^ bits w;
  right = λ n. signed_into u w n % 2 ^ bits w;
  same = λ n l. same_low u w (signed_into v w n % 2 ^ bits w) n (k n);
}

-- behind `v`, to more bits
abbrev widened : (t : PrimitiveTypeInfo) (w u v : Width) →
    ((n : ℕ) → signed_into u w (signed_into v w n % 2 ^ bits w) % 2 ^ bits w ≡ signed_into v w n % 2 ^ bits w) → Moves t
widened t w u v k = record {
  left = λ n. signed_into u w (signed_into v w n % 2 ^ bits w) % 2 ^ bits w;
  right = λ n. signed_into v w n % 2 ^ bits w;
  same = λ n l. k n;
}

low_8_by_16_in_32 : (n : ℕ) → signed_into w16 w32 n % 2 ^ 32 % 2 ^ 8 ≡ n % 2 ^ 8
low_8_by_16_in_32 n = low_8_of_16 (signed_into w16 w32 n % 2 ^ 32) n (low_16_in_32 n)

low_8_by_16_in_64 : (n : ℕ) → signed_into w16 w64 n % 2 ^ 64 % 2 ^ 8 ≡ n % 2 ^ 8
low_8_by_16_in_64 n = low_8_of_16 (signed_into w16 w64 n % 2 ^ 64) n (low_16_in_64 n)

low_8_by_32_in_64 : (n : ℕ) → signed_into w32 w64 n % 2 ^ 64 % 2 ^ 8 ≡ n % 2 ^ 8
low_8_by_32_in_64 n = low_8_of_half (signed_into w32 w64 n % 2 ^ 64) n (half_of_signed n)

low_16_by_32_in_64 : (n : ℕ) → signed_into w32 w64 n % 2 ^ 64 % 2 ^ 16 ≡ n % 2 ^ 16
low_16_by_32_in_64 n = low_16_of_half (signed_into w32 w64 n % 2 ^ 64) n (half_of_signed n)

pub extensions_right : AtRows IsRight (rows_of EXTENSIONS)
extensions_right =
    onward I32 (narrowed I32 w32 w8 w8 low_8_in_32)
    ▸ onward I32 (narrowed I32 w32 w8 w16 low_8_by_16_in_32)
    ▸ onward I32 (widened I32 w32 w16 w8 read_8_as_16_in_32)
    ▸ onward I32 (narrowed I32 w32 w16 w16 low_16_in_32)
    ▸ onward I64 (narrowed I64 w64 w8 w8 low_8_in_64)
    ▸ onward I64 (narrowed I64 w64 w8 w16 low_8_by_16_in_64)
    ▸ onward I64 (narrowed I64 w64 w8 w32 low_8_by_32_in_64)
    ▸ onward I64 (widened I64 w64 w16 w8 read_8_as_16_in_64)
    ▸ onward I64 (narrowed I64 w64 w16 w16 low_16_in_64)
    ▸ onward I64 (narrowed I64 w64 w16 w32 low_16_by_32_in_64)
    ▸ onward I64 (widened I64 w64 w32 w8 read_8_as_32_in_64)
    ▸ onward I64 (widened I64 w64 w32 w16 read_16_as_32_in_64)
    ▸ homeward I32 (narrowed I32 w32 w8 w8 low_8_in_32)
    ▸ homeward I32 (narrowed I32 w32 w8 w16 low_8_by_16_in_32)
    ▸ homeward I32 (widened I32 w32 w16 w8 read_8_as_16_in_32)
    ▸ homeward I32 (narrowed I32 w32 w16 w16 low_16_in_32)
    ▸ homeward I64 (narrowed I64 w64 w8 w8 low_8_in_64)
    ▸ homeward I64 (narrowed I64 w64 w8 w16 low_8_by_16_in_64)
    ▸ homeward I64 (narrowed I64 w64 w8 w32 low_8_by_32_in_64)
    ▸ homeward I64 (widened I64 w64 w16 w8 read_8_as_16_in_64)
    ▸ homeward I64 (narrowed I64 w64 w16 w16 low_16_in_64)
    ▸ homeward I64 (narrowed I64 w64 w16 w32 low_16_by_32_in_64)
    ▸ homeward I64 (widened I64 w64 w32 w8 read_8_as_32_in_64)
    ▸ homeward I64 (widened I64 w64 w32 w16 read_16_as_32_in_64)
    ▸ homeward I64 (narrowed I64 w64 w32 w32 half_of_signed)
    ▸ tt

-- ---- masks

-- of what is masked
abbrev of_masked : (t : PrimitiveTypeInfo) (w v : Width) → 2 ^ bits v ≤ 2 ^ bits w → Moves t
of_masked t w v few = record {
  left = λ n. signed_into v w (bit_and n (2 ^ bits v - 1) % 2 ^ bits w) % 2 ^ bits w;
  right = λ n. signed_into v w n % 2 ^ bits w;
  same = λ n l. same_low v w (bit_and n (2 ^ bits v - 1) % 2 ^ bits w) n (masked_low (bits w) (bits v) n few);
}

-- and masked
abbrev then_masked : (t : PrimitiveTypeInfo) (w v : Width) → ((n : ℕ) → signed_into v w n % 2 ^ bits w % 2 ^ bits v ≡ n % 2 ^ bits v) → Moves t
then_masked t w v k = record {
  left = λ n. bit_and (signed_into v w n % 2 ^ bits w) (2 ^ bits v - 1) % 2 ^ bits w;
  right = λ n. bit_and n (2 ^ bits v - 1) % 2 ^ bits w;
  same = λ n l. same_masked (bits w) (bits v) (signed_into v w n % 2 ^ bits w) n (k n);
}

pub extension_masks_right : AtRows IsRight (rows_of EXTENSION_MASKS)
extension_masks_right =
    onward I32 (of_masked I32 w32 w8 (omega arith))
    ▸ onward I32 (of_masked I32 w32 w16 (omega arith))
    ▸ onward I64 (of_masked I64 w64 w8 (omega arith))
    ▸ onward I64 (of_masked I64 w64 w16 (omega arith))
    ▸ onward I64 (of_masked I64 w64 w32 (omega arith))
    ▸ homeward I32 (of_masked I32 w32 w8 (omega arith))
    ▸ homeward I32 (of_masked I32 w32 w16 (omega arith))
    ▸ homeward I64 (of_masked I64 w64 w8 (omega arith))
    ▸ homeward I64 (of_masked I64 w64 w16 (omega arith))
    ▸ homeward I64 (of_masked I64 w64 w32 (omega arith))
    ▸ onward I32 (then_masked I32 w32 w8 low_8_in_32)
    ▸ onward I32 (then_masked I32 w32 w16 low_16_in_32)
    ▸ onward I64 (then_masked I64 w64 w8 low_8_in_64)
    ▸ onward I64 (then_masked I64 w64 w16 low_16_in_64)
    ▸ onward I64 (then_masked I64 w64 w32 half_of_signed)
    ▸ homeward I32 (then_masked I32 w32 w8 low_8_in_32)
    ▸ homeward I32 (then_masked I32 w32 w16 low_16_in_32)
    ▸ homeward I64 (then_masked I64 w64 w8 low_8_in_64)
    ▸ homeward I64 (then_masked I64 w64 w16 low_16_in_64)
    ▸ homeward I64 (then_masked I64 w64 w32 half_of_signed)
    ▸ tt

-- ---- wrapped and widened

-- before a number is wrapped, and behind that
abbrev before_wrap : (v : Width) → ((n : ℕ) → signed_into v w64 n % 2 ^ 64 % 2 ^ 32 ≡ signed_into v w32 (n % 2 ^ 32) % 2 ^ 32) → Moves I64
before_wrap v k = record {
  left = λ n. signed_into v w64 n % 2 ^ 64 % 2 ^ 32;
  right = λ n. signed_into v w32 (n % 2 ^ 32) % 2 ^ 32;
  same = λ n l. k n;
}

-- before one is extended, and behind that
abbrev before_widening : (v : Width) →
    ((n : ℕ) → signed_into w32 w64 (signed_into v w32 n % 2 ^ 32) % 2 ^ 64 ≡ signed_into v w64 (n % 2 ^ 64) % 2 ^ 64) → Moves I32
before_widening v k = record {
  left = λ n. signed_into w32 w64 (signed_into v w32 n % 2 ^ 32) % 2 ^ 64;
  right = λ n. signed_into v w64 (n % 2 ^ 64) % 2 ^ 64;
  same = λ n l. k n;
}

pub extension_moves_right : AtRows IsRight (rows_of EXTENSION_MOVES)
extension_moves_right =
    onward I64 (before_wrap w8 wrapped_8)
    ▸ onward I64 (before_wrap w16 wrapped_16)
    ▸ homeward I64 (before_wrap w8 wrapped_8)
    ▸ homeward I64 (before_wrap w16 wrapped_16)
    ▸ onward I32 (before_widening w8 widened_8)
    ▸ onward I32 (before_widening w16 widened_16)
    ▸ homeward I32 (before_widening w8 widened_8)
    ▸ homeward I32 (before_widening w16 widened_16)
    ▸ tt
