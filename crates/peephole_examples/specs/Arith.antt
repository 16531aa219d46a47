-- Numbers, their negatives and sums, as nodes and as texts: `num.1`, `neg`, `add`, `sum` (this project).
use Rattle.std.specs.Prelude.{◌≡◌, ℕ, ◌==◌, ◌^◌, ℤ, pos, neg_ℤ, ◌≤ℤ◌, ◌<ℤ◌, nat_eq, List, [], ◌++◌, length, Bool, true, false, Option, Some}
use Rattle.std.specs.Prelude.{None, Result, Ok, Err, codes, if◌then◌else◌, refl}
use Rattle.std.specs.Bool.{Decides}
use Rattle.std.specs.Cmp.{IsEquivalence, unsigned_Decides, signed_Decides}
use Rattle.std.specs.Ordering.{int_eq}
use Rattle.std.specs.Cmp.Lexicographic.{pointwise}
use Rattle.std.specs.Fmt.{signed_decimal}
use Rattle.std.specs.Option.{ok_or}
use Rattle.std.specs.Vec.{with_items}
use Rattle.std.proofs.Common.{true≢false, ap, sym, lit≤}
use Rattle.peephole_payloads.specs.declared.term_error.TermError.{TermError}
use Rattle.peephole_payloads.specs.declared.term_error.TermError.TheVariants.{InvalidToken, ExpectedZeroChildren, ExpectedChildren, BadInteger}
use Rattle.peephole_nodes.specs.declared.id.Id.{Id}
use Rattle.peephole_lang.specs.Language.{IsAlike, IsSame, alike_equivalence}
use Rattle.peephole_payloads.specs.Number.{read_signed}
use Rattle.peephole_payloads.specs.laws.NumberBack.{signed_in_range_back}
use Rattle.peephole_lang.specs.Term.{numbers_of}
use Rattle.peephole_lang.specs.Names.{rest_after}
use Rattle.peephole_nodes.specs.View.{childless}
use Rattle.peephole_nodes.specs.Written.{ids_written, any_written}
use Rattle.peephole_examples.specs.declared.arith.Arith.{Arith}
use Rattle.peephole_examples.specs.declared.arith.Arith.TheVariants.{Num, Neg, Add, Sum}
use Rattle.peephole_examples.specs.declared.arith.ArithHead.{ArithHead}
use Rattle.peephole_examples.specs.declared.arith.ArithHead.TheVariants as head

-- what a node is, apart from its children
abbrev pub arithmetic_head : Arith → ArithHead
arithmetic_head (Num z) = head.Num z
arithmetic_head (Neg _) = head.Neg
arithmetic_head (Add _) = head.Add
arithmetic_head (Sum _) = head.Sum

-- the children of a node, in their order; a number has none
abbrev pub arithmetic_ids : Arith → List Id
arithmetic_ids (Num _) = []
arithmetic_ids (Neg children) = children
arithmetic_ids (Add children) = children
arithmetic_ids (Sum children) = children.items

-- the children, each by the number of its node or class
abbrev pub arithmetic_children : Arith → List ℕ
arithmetic_children a = numbers_of (arithmetic_ids a)

-- the node with other children; a number stays as it is
abbrev pub arithmetic_with_ids : Arith → List Id → Arith
arithmetic_with_ids (Num z) _ = Num z
arithmetic_with_ids (Neg _) w = Neg w
arithmetic_with_ids (Add _) w = Add w
arithmetic_with_ids (Sum children) w = Sum (with_items children w)

-- equal, but for how much memory a list of children keeps for more
abbrev pub IsEqualArithmetic : Arith → Arith → Type 0
IsEqualArithmetic (Sum a) (Sum b) = a.items ≡ b.items
IsEqualArithmetic a b = a ≡ b

-- a number has 32 bits with its sign; a negative has one child, `add` two, and `sum` any number of them
abbrev pub IsArithmeticNode : Arith → Type 0
IsArithmeticNode (Num z) = (neg_ℤ (pos (2 ^ 31)) ≤ℤ z) × (z <ℤ pos (2 ^ 31))
IsArithmeticNode (Neg children) = length children ≡ 1
IsArithmeticNode (Add children) = length children ≡ 2
IsArithmeticNode (Sum _) = Unit {0}

-- the same head and as many children, whichever they are
abbrev pub arith_matches : Arith → Arith → Bool
arith_matches (Num z) (Num y) = int_eq z y
arith_matches (Neg a) (Neg b) = length a == length b
arith_matches (Add a) (Add b) = length a == length b
arith_matches (Sum a) (Sum b) = length a.items == length b.items
arith_matches _ _ = false

-- ---- texts

-- the text of what a node is
abbrev pub arithmetic_head_text : ArithHead → List ℕ
arithmetic_head_text (head.Num z) = codes "num." ++ signed_decimal z
arithmetic_head_text head.Neg = codes "neg"
arithmetic_head_text head.Add = codes "add"
arithmetic_head_text head.Sum = codes "sum"

-- a node's text, which doesn't tell its children
abbrev pub arithmetic_text : Arith → List ℕ
arithmetic_text a = arithmetic_head_text (arithmetic_head a)

-- the head of a number that was read, or its refusal
abbrev pub head_of_number : Result ℤ TermError → Result ArithHead TermError
head_of_number (Ok z) = Ok (head.Num z)
head_of_number (Err e) = Err e

-- the head of the number that the digits write, or the refusal
abbrev pub read_number : List ℕ → Result ArithHead TermError
read_number digits = head_of_number (ok_or (read_signed 32 digits) BadInteger)

-- what stands behind `num.`, where that begins the text: digits, and no children
abbrev pub read_num : Option (List ℕ) → ℕ → Result ArithHead TermError
read_num None count = Err InvalidToken
read_num (Some digits) count = if count == 0 then read_number digits else Err ExpectedZeroChildren

-- the head, where there are as many children as it takes
abbrev pub head_with_count : ArithHead → ℕ → ℕ → Result ArithHead TermError
head_with_count h wanted count = if count == wanted then Ok h else Err (ExpectedChildren wanted)

-- the head that the text reads as, given that many children, or the first refusal
abbrev pub arithmetic_reads : List ℕ → ℕ → Result ArithHead TermError
arithmetic_reads text count =
    if pointwise nat_eq text (codes "neg") then head_with_count head.Neg 1 count
    else if pointwise nat_eq text (codes "add") then head_with_count head.Add 2 count
    else if pointwise nat_eq text (codes "sum") then Ok head.Sum
    else read_num (rest_after (codes "num.") text) count

-- a node's text is its head's
pub says : (a b : Arith) → arithmetic_head a ≡ arithmetic_head b → arithmetic_text a ≡ arithmetic_text b
says a b e = ap arithmetic_head_text e

-- a node reads back from its text, given as many children as it has
pub reads_back : (a : Arith) → IsArithmeticNode a → arithmetic_reads (arithmetic_text a) (length (arithmetic_ids a)) ≡ Ok (arithmetic_head a)
reads_back (Num z) fits = rw (signed_in_range_back 32 z (lit≤ tt) fits.0 fits.1) refl
reads_back (Neg _) given = rw given refl
reads_back (Add _) given = rw given refl
reads_back (Sum _) fits = refl

-- what a node is and its children decide the node
pub determined : (a b : Arith) → arithmetic_head a ≡ arithmetic_head b → arithmetic_ids a ≡ arithmetic_ids b → IsEqualArithmetic a b
determined (Num z) (Num y) says same = cc
determined (Neg a) (Neg b) says same = ap (λ (w : List Id). Neg w) same
determined (Add a) (Add b) says same = ap (λ (w : List Id). Add w) same
determined (Sum a) (Sum b) says same = same
determined _ _ says same = absurd cc

-- and equal nodes say the same, and have the same children
pub equal_says : (a b : Arith) → IsEqualArithmetic a b → IsSame arithmetic_head arithmetic_ids a b
equal_says (Sum a) (Sum b) e = (refl, sym e)
equal_says a b e = (ap arithmetic_head (sym e), ap arithmetic_ids (sym e))

-- ---- children that are written

-- other children leave the head as it is
pub keeps_head : (a : Arith) (w : List Id) → arithmetic_head (arithmetic_with_ids a w) ≡ arithmetic_head a
keeps_head (Num _) w = refl
keeps_head (Neg _) w = refl
keeps_head (Add _) w = refl
keeps_head (Sum _) w = refl

-- as many children as before are those that the node then has
pub has_written : (a : Arith) (w : List Id) → length w ≡ length (arithmetic_ids a) → arithmetic_ids (arithmetic_with_ids a w) ≡ w
has_written (Num _) w e = ids_written childless w e
has_written (Neg _) w e = refl
has_written (Add _) w e = refl
has_written (Sum children) w e = any_written children w e

-- ---- matching

-- nodes that match have the same head and as many children
matches_says : (a b : Arith) → arith_matches a b ≡ true → IsAlike arithmetic_head arithmetic_ids a b
matches_says (Num z) (Num y) e = (ap (λ k. head.Num k) ((signed_Decides z y).0 e), refl)
matches_says (Neg a) (Neg b) e = (refl, (unsigned_Decides (length a) (length b)).0 e)
matches_says (Add a) (Add b) e = (refl, (unsigned_Decides (length a) (length b)).0 e)
matches_says (Sum a) (Sum b) e = (refl, (unsigned_Decides (length a.items) (length b.items)).0 e)
matches_says _ _ e = absurd (true≢false (sym e))

-- and such nodes match
alike_matches : (a b : Arith) → IsAlike arithmetic_head arithmetic_ids a b → arith_matches a b ≡ true
alike_matches (Num z) (Num y) s = (signed_Decides z y).1 (let same = s.0 in cc)
alike_matches (Neg a) (Neg b) s = (unsigned_Decides (length a) (length b)).1 s.1
alike_matches (Add a) (Add b) s = (unsigned_Decides (length a) (length b)).1 s.1
alike_matches (Sum a) (Sum b) s = (unsigned_Decides (length a.items) (length b.items)).1 s.1
alike_matches _ _ s = let same = s.0 in absurd cc

-- so nodes match where they are alike, and nowhere else
pub matches_exactly : (a b : Arith) → Decides (arith_matches a b) (IsAlike arithmetic_head arithmetic_ids a b)
matches_exactly a b = (matches_says a b, alike_matches a b)

-- matching is an equivalence, as being alike is
pub matches_equivalence : IsEquivalence arith_matches
matches_equivalence = alike_equivalence arithmetic_head arithmetic_ids arith_matches matches_exactly
