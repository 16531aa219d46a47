-- What is written of a number in a column.
use Rattle.std.proofs.Common.{◌≡◌, ℕ, zero, suc, ◌-◌, ◌^◌, List, [], ◌∷◌, ◌++◌, length, replicate, false, decimal, refl, ap, append-nil, arith}
use Rattle.std.specs.Char.{encode_utf8}
use Rattle.std.specs.Fmt.{char_count, format_spec, padded_integral}
use Rattle.std.specs.List.{repeat}
use Rattle.module_commands.specs.Lines.{left_aligned, right_aligned}

spaces : (n : ℕ) → repeat {A = ℕ} n (32 ∷ []) ≡ replicate n 32
spaces zero = refl
spaces (suc n) = ap (λ l. 32 ∷ l) (spaces n)

spaces_behind : (given count : ℕ) (digits : List ℕ) → given ≡ count → digits ++ replicate count 32 ≡ digits ++ repeat {A = ℕ} given (32 ∷ [])
spaces_behind given count digits same = rw (same, spaces count)

spaces_before : (given rest count : ℕ) (digits : List ℕ) → given ≡ count → rest ≡ 0 →
    replicate count 32 ++ digits ≡ (((repeat {A = ℕ} given (32 ∷ []) ++ []) ++ []) ++ []) ++ (digits ++ repeat {A = ℕ} rest (32 ∷ []))
spaces_before given rest count digits same none = rw (same, none, spaces count) (simp append-nil)

pub left_is : (width n : ℕ) → left_aligned width n ≡ padded_integral (format_spec 32 1 0 width (2 ^ 64 - 1)) false [] (decimal n)
unfolding left_aligned padded_integral char_count encode_utf8
left_is width n =
    let digits : List ℕ = decimal n in
    spaces_behind (width - length digits - 0 - 0 - 0) (width - length digits) digits (omega arith)

pub right_is : (width n : ℕ) → right_aligned width n ≡ padded_integral (format_spec 32 3 0 width (2 ^ 64 - 1)) false [] (decimal n)
unfolding right_aligned padded_integral char_count encode_utf8
right_is width n =
    let digits : List ℕ = decimal n in
    let padding : ℕ = width - length digits - 0 - 0 in
    spaces_before padding (padding - padding) (width - length digits) digits (omega arith) (omega arith)
