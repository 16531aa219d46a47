-- The words behind a command's name (this project's rules).
use Rattle.std.specs.Prelude.{◌≡◌, ◌⊎◌, MatchResult, Vec, ℕ, Bool, true, false, List, [], ◌∷◌, length, codes, nat_lt, Option, Some, None, Result, if◌then◌else◌}
use Rattle.std.specs.List.{before_first, after_first, position_or_len}
use Rattle.std.specs.Str.{bytes_eq}
use Rattle.wasm_types.specs.Types.{type_name}
use Rattle.wasm_types.specs.declared.types.PrimitiveTypeInfo.{PrimitiveTypeInfo}
use Rattle.wasm_types.specs.declared.types.PrimitiveTypeInfo.TheVariants.{I32, I64, F32, F64, V128, FuncRef, ExternRef}
use Rattle.wasm_types.specs.declared.types.ElementType.{ElementType}
use Rattle.wasm_types.specs.declared.types.ElementType.TheVariants.{Func, Extern}
use Rattle.peephole_script.specs.declared.fault.Fault.{Fault}
use Rattle.peephole_script.specs.declared.fault.Fault.TheVariants as fault

-- a value for each word, where each word has one
abbrev pub cons_some : {A : Type 0} → Option A → Option (List A) → Option (List A)
cons_some None xs = None
cons_some (Some x) None = None
cons_some (Some x) (Some xs) = Some (x ∷ xs)

-- a value for each of the words; none at all where one word has none
abbrev pub all_of : {A : Type 0} → (List ℕ → Option A) → List (List ℕ) → Option (List A)
all_of f [] = Some []
all_of f (word ∷ words) = cons_some (f word) (all_of f words)

-- the first of the types that has the name
abbrev pub type_named_in : List PrimitiveTypeInfo → List ℕ → Option PrimitiveTypeInfo
type_named_in [] word = None
type_named_in (t ∷ ts) word = if bytes_eq word (type_name t) then Some t else type_named_in ts word

-- the type of a name, where it is a value's: `empty` is none
abbrev pub type_of : List ℕ → Option PrimitiveTypeInfo
type_of word = type_named_in (I32 ∷ I64 ∷ F32 ∷ F64 ∷ V128 ∷ FuncRef ∷ ExternRef ∷ []) word

-- `32` or `64`: whether it is 64
abbrev pub is_64 : List ℕ → Option Bool
is_64 word = if bytes_eq word (codes "32") then Some false else if bytes_eq word (codes "64") then Some true else None

-- `func` or `extern`
abbrev pub element_of : List ℕ → Option ElementType
element_of word = if bytes_eq word (codes "func") then Some Func else if bytes_eq word (codes "extern") then Some Extern else None

-- `yes` or `no`: whether it is yes
abbrev pub is_yes : List ℕ → Option Bool
is_yes word = if bytes_eq word (codes "yes") then Some true else if bytes_eq word (codes "no") then Some false else None

-- whether a word is the arrow of a function's type
abbrev pub is_arrow : List ℕ → Bool
is_arrow word = bytes_eq word (codes "->")

-- the words before the first arrow, and those behind it
abbrev pub parts_of : List (List ℕ) → Option (List (List ℕ) × List (List ℕ))
parts_of words =
    if nat_lt (position_or_len is_arrow words) (length words) then Some (before_first is_arrow words, after_first is_arrow words) else None

-- a call that reads arguments found these values, or that no memory was left
abbrev pub Argument : {T A : Type 0} → Option (List T) → Result (Vec T A) Fault → Type 0
Argument found result = MatchResult result (λ values. found ≡ Some values.items) (λ f. (f ≡ fault.Memory) ⊎ ((f ≡ fault.BadArgument) × (found ≡ None)))
