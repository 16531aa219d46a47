-- Types by their names, and the words on both sides of an arrow.
use Rattle.std.proofs.Common.{◌≡◌, ◌≢◌, ℕ, ◌+◌, ◌-◌, ◌<◌, ◌≤◌, Bool, false, not, cond, List, [], ◌∷◌, length, take, drop, refl, ap, ◌∙◌, arith, Some, None, Bor}
use Rattle.std.specs.Prelude.{position, codes}
use Rattle.std.specs.List.{position_or_len}
use Rattle.std.specs.Str.{bytes_eq}
use Rattle.std.proofs.lemmas.Slice.Eq.{bytes_eq-Decides}
use Rattle.std.proofs.lemmas.Bool.Decides.{nat_tests, same_from_decides}
use Rattle.std.proofs.lemmas.Grind.{common_steps}
use Rattle.std.proofs.lemmas.List.{take-map, drop-map}
use Rattle.wasm_types.specs.Types.{type_name}
use Rattle.wasm_types.specs.declared.types.PrimitiveTypeInfo.{PrimitiveTypeInfo}
use Rattle.wasm_types.specs.declared.types.PrimitiveTypeInfo.TheVariants as type
use Rattle.peephole_script.specs.Arguments.{type_of, is_arrow, parts_of}
use Rattle.peephole_script.specs.Text.{texts}

-- ---- types

differs : (xs ys : List ℕ) → xs ≢ ys → bytes_eq xs ys ≡ false
differs xs ys other = same_from_decides (bytes_eq xs ys) false (bytes_eq-Decides xs ys) (λ e. absurd cc, λ e. absurd (other e))

-- no type has the name
pub type_none : (word : List ℕ) → ((t : PrimitiveTypeInfo) → word ≢ type_name t) → None ≡ type_of word
type_none word h =
    rw (
      differs word (codes "i32") (h type.I32),
      differs word (codes "i64") (h type.I64),
      differs word (codes "f32") (h type.F32),
      differs word (codes "f64") (h type.F64),
      differs word (codes "v128") (h type.V128),
      differs word (codes "funcref") (h type.FuncRef),
      differs word (codes "externref") (h type.ExternRef),
    ) refl

-- ---- the arrow

position_or_len-texts : (p : List ℕ → Bool) (words : List (Bor (List ℕ))) → position_or_len p (texts words) ≡ position_or_len (λ word. p word.now) words
position_or_len-texts p [] = refl
position_or_len-texts p (word ∷ words) = ap (λ t. cond (not (p word.now)) (1 + t) 0) (position_or_len-texts p words)

found_at : {X : Type 0} (p : X → Bool) (xs : List X) (at : ℕ) → position p xs ≡ Some at → (position_or_len p xs ≡ at) × (at < length xs)
found_at p xs at h = grind (arith, nat_tests)

not_found : {X : Type 0} (p : X → Bool) (xs : List X) → position p xs ≡ None → length xs ≤ position_or_len p xs
not_found p xs h = grind (arith, nat_tests)

split_at : (words : List (List ℕ)) (at : ℕ) → position_or_len is_arrow words ≡ at → at < length words →
    parts_of words ≡ Some (take at words, drop (at + 1) words)
split_at words at h k = grind (arith, nat_tests)

split_none : (words : List (List ℕ)) → length words ≤ position_or_len is_arrow words → parts_of words ≡ None
split_none words h = grind (arith, nat_tests)

length-texts : (words : List (Bor (List ℕ))) → length (texts words) ≡ length words
length-texts words = grind (arith, common_steps)

rest_whole : (words : List (Bor (List ℕ))) (n : ℕ) → take (length words - n) (drop n words) ≡ drop n words
rest_whole words n = grind (arith, common_steps)

pub arrow_found : (words : List (Bor (List ℕ))) (at : ℕ) → position (λ word. is_arrow word.now) words ≡ Some at →
    parts_of (texts words) ≡ Some (texts (take at words), texts (take (length words - (at + 1)) (drop (at + 1) words)))
arrow_found words at h =
    let k = found_at (λ (word : Bor (List ℕ)). is_arrow word.now) words at h in
    let e : position_or_len is_arrow (texts words) ≡ at = position_or_len-texts is_arrow words ∙ k.0 in
    let l : at < length (texts words) = omega (arith, length-texts words, k.1) in
    let a : take at (texts words) ≡ texts (take at words) = take-map (λ (word : Bor (List ℕ)). word.now) at words in
    let b : drop (at + 1) (texts words) ≡ texts (drop (at + 1) words) = drop-map (λ (word : Bor (List ℕ)). word.now) (at + 1) words in
    let d : texts (take (length words - (at + 1)) (drop (at + 1) words)) ≡ texts (drop (at + 1) words) = ap texts (rest_whole words (at + 1)) in
    split_at (texts words) at e l ∙ cc

pub arrow_none : (words : List (Bor (List ℕ))) → position (λ word. is_arrow word.now) words ≡ None → parts_of (texts words) ≡ None
arrow_none words h =
    split_none (texts words) (omega (
      arith,
      length-texts words,
      position_or_len-texts is_arrow words,
      not_found (λ (word : Bor (List ℕ)). is_arrow word.now) words h,
    ))
