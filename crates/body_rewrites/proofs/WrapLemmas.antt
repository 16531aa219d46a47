-- Operators of wrapped code: as pieces, and where they stand in a body.
use Rattle.std.proofs.Common.{◌≡◌, ℕ, zero, suc, ◌+◌, ◌-◌, ◌%◌, ◌^◌, ◌<◌, ◌≤◌, ◌&&◌, not, Bool, false, List, [], ◌∷◌, ◌++◌, length, take}
use Rattle.std.proofs.Common.{drop, Some, refl, sym, ap, ap₂, subst, ◌∙◌, arith, append_assoc, append-nil}
use Rattle.std.specs.Prelude.{slice_get, slice_range}
use Rattle.std.specs.List.{All}
use Rattle.std.proofs.Math.Nat.{mod-lt, mod-mod}
use Rattle.std.proofs.lemmas.List.{length-append}
use Rattle.std.proofs.lemmas.List.Elements.{All-cons}
use Rattle.wasm_code.specs.Instruction.{Instruction}
use Rattle.wasm_code.specs.declared.immediate.ValType.{ValType}
use Rattle.wasm_code.specs.declared.operator.Operator.{Operator}
use Rattle.wasm_code.specs.declared.operator.Operator.TheVariants.{Instr, End}
use Rattle.body_splices.specs.declared.piece.Piece.{Piece}
use Rattle.body_splices.specs.declared.piece.Piece.TheVariants.{Kept}
use Rattle.body_splices.specs.OwnBytes.{none_of, without_offsets}
use Rattle.body_splices.specs.Splice.{IsPieceIn}
use Rattle.body_splices.specs.Laws.{piece_operators, pieces_operators}
use Rattle.wasm_execution.specs.declared.integer.IntegerType.TheVariants as integer
use Rattle.wasm_equivalence.specs.control.Standard.{asks_beyond}
use Rattle.rewrite_rules.specs.declared.wrap.Wrap.{Wrap}
use Rattle.rewrite_rules.specs.declared.wrap.Wrap.TheVariants.{InBlock, InLoop, InIf, InElse, LeaveBlock, LeaveOver, LeaveDead, MayLeave, SurelyLeave, Once}
use Rattle.rewrite_rules.specs.declared.wrap.WrapItem.{WrapItem}
use Rattle.rewrite_rules.specs.declared.wrap.WrapItem.TheVariants as item
use Rattle.rewrite_rules.specs.Instance.{constant_code}
use Rattle.rewrite_rules.specs.Wrap.{front_of, back_of, IsItem, AreItems}
use Rattle.body_rewrites.specs.Matching.{operators_in}
use Rattle.body_rewrites.specs.Own.{HasItem, HaveItems, item_piece, item_pieces}
use Rattle.body_rewrites.proofs.StandsLemmas.{Operators}
use Rattle.body_rewrites.proofs.AlikeLemmas.{by_low}
use Rattle.body_rewrites.proofs.MatchingLemmas.{length_in}
use Rattle.body_rewrites.proofs.WritingLemmas.{range_alone}

-- ---- how many there are

pub front_some : (w : Wrap) → 0 < length (front_of w)
front_some InBlock = omega arith
front_some InLoop = omega arith
front_some InIf = omega arith
front_some InElse = omega arith
front_some LeaveBlock = omega arith
front_some LeaveOver = omega arith
front_some LeaveDead = omega arith
front_some MayLeave = omega arith
front_some SurelyLeave = omega arith
front_some Once = omega arith

pub back_some : (w : Wrap) → 0 < length (back_of w)
back_some InBlock = omega arith
back_some InLoop = omega arith
back_some InIf = omega arith
back_some InElse = omega arith
back_some LeaveBlock = omega arith
back_some LeaveOver = omega arith
back_some LeaveDead = omega arith
back_some MayLeave = omega arith
back_some SurelyLeave = omega arith
back_some Once = omega arith

pub few_items : (w : Wrap) → length (front_of w) + length (back_of w) ≤ 6
few_items InBlock = omega arith
few_items InLoop = omega arith
few_items InIf = omega arith
few_items InElse = omega arith
few_items LeaveBlock = omega arith
few_items LeaveOver = omega arith
few_items LeaveDead = omega arith
few_items MayLeave = omega arith
few_items SurelyLeave = omega arith
few_items Once = omega arith

-- ---- as pieces

-- the number of a constant counts by its low bits
low_constant : (n : ℕ) → constant_code integer.I32 n ≡ constant_code integer.I32 (n % 2 ^ 32)
low_constant n = by_low integer.I32 n (n % 2 ^ 32) (sym (mod-mod n (2 ^ 32)))

-- the operator that an item is
abbrev pub item_operator : ValType → (word : ℕ) → WrapItem → List Operator
item_operator t word i = piece_operators [] (item_piece t word i)

pub items_are : (os : List Operator) (t : ValType) (word : ℕ) (is : List WrapItem) → AreItems is t (pieces_operators os (item_pieces t word is))
items_are os t word [] = tt
items_are os t word (item.Block ∷ is) = (refl, items_are os t word is)
items_are os t word (item.Loop ∷ is) = (refl, items_are os t word is)
items_are os t word (item.If ∷ is) = (refl, items_are os t word is)
items_are os t word (item.Else ∷ is) = (refl, items_are os t word is)
items_are os t word (item.End ∷ is) = (refl, items_are os t word is)
items_are os t word (item.Branch ∷ is) = (refl, items_are os t word is)
items_are os t word (item.BranchIf ∷ is) = (refl, items_are os t word is)
items_are os t word (item.Unreachable ∷ is) = (refl, items_are os t word is)
items_are os t word (item.Zero ∷ is) = (refl, items_are os t word is)
items_are os t word (item.NonZero ∷ is) =
    let few : word % (2 ^ 32 - 1) < 2 ^ 32 - 1 = mod-lt word (omega arith) in
    ((word % (2 ^ 32 - 1), omega (arith, few), refl), items_are os t word is)
items_are os t word (item.Any ∷ is) =
    let few : word % 2 ^ 32 < 2 ^ 32 = mod-lt word (omega arith) in
    ((word % 2 ^ 32, few, ap (λ (i : Instruction). Instr i) (low_constant word)), items_are os t word is)

pub items_within : (operators : Operators) (t : ValType) (word : ℕ) (is : List WrapItem) (ps : List Piece) → All (IsPieceIn operators) ps →
    All (IsPieceIn operators) (item_pieces t word is ++ ps)
items_within operators t word [] ps h = h
items_within operators t word (i ∷ is) ps h =
    All-cons (IsPieceIn operators) (item_piece t word i) (item_pieces t word is ++ ps) (within i) (items_within operators t word is ps h)
  where
    within : (i : WrapItem) → IsPieceIn operators (item_piece t word i)
    within item.Block = tt
    within item.Loop = tt
    within item.If = tt
    within item.Else = tt
    within item.End = tt
    within item.Branch = tt
    within item.BranchIf = tt
    within item.Unreachable = tt
    within item.Zero = tt
    within item.NonZero = tt
    within item.Any = tt

pub pieces_append : (os : List Operator) (ps qs : List Piece) → pieces_operators os (ps ++ qs) ≡ pieces_operators os ps ++ pieces_operators os qs
pieces_append os [] qs = refl
pieces_append os (p ∷ ps) qs =
    ap (λ (l : List Operator). piece_operators os p ++ l) (pieces_append os ps qs)
    ∙ sym (append_assoc (piece_operators os p) (pieces_operators os ps) (pieces_operators os qs))

-- ---- operators that are items

pub items_length : (is : List WrapItem) (t : ValType) (os : List Operator) → AreItems is t os → length os ≡ length is
items_length [] t [] h = refl
items_length [] t (o ∷ os) h = absurd h
items_length (i ∷ is) t [] h = absurd h
items_length (i ∷ is) t (o ∷ os) h = ap suc (items_length is t os h.1)

-- none of them asks more than it carries
item_unasked : (i : WrapItem) (t : ValType) (o : Operator) → IsItem i t o → asks_beyond o ≡ false
item_unasked item.Block t o h = ap asks_beyond h
item_unasked item.Loop t o h = ap asks_beyond h
item_unasked item.If t o h = ap asks_beyond h
item_unasked item.Else t o h = ap asks_beyond h
item_unasked item.End t o h = ap asks_beyond h
item_unasked item.Branch t o h = ap asks_beyond h
item_unasked item.BranchIf t o h = ap asks_beyond h
item_unasked item.Unreachable t o h = ap asks_beyond h
item_unasked item.Zero t o h = ap asks_beyond h
item_unasked item.NonZero t o (n, few, h) = ap asks_beyond h
item_unasked item.Any t o (n, few, h) = ap asks_beyond h

pub items_unasked : (is : List WrapItem) (t : ValType) (os rest : List Operator) → AreItems is t os →
    none_of asks_beyond (os ++ rest) ≡ none_of asks_beyond rest
items_unasked [] t [] rest h = refl
items_unasked [] t (o ∷ os) rest h = absurd h
items_unasked (i ∷ is) t [] rest h = absurd h
items_unasked (i ∷ is) t (o ∷ os) rest h =
    ap (λ (b : Bool). not b && none_of asks_beyond (os ++ rest)) (item_unasked i t o h.0) ∙ items_unasked is t os rest h.1

-- ---- where they stand

take_next : {X : Type 0} (xs : List X) (k n : ℕ) (x : X) → slice_get xs k ≡ Some x → take (suc n) (drop k xs) ≡ x ∷ take n (drop (suc k) xs)
take_next [] k n x e = absurd cc
take_next (y ∷ xs) zero n x e = ap (λ z. z ∷ take n xs) (let same : y ≡ x = cc in same)
take_next (y ∷ xs) (suc k) n x e = take_next xs k n x e

take_there : {X : Type 0} (xs : List X) (k n : ℕ) (x : X) → slice_get xs k ≡ Some x → take (suc n) (drop k xs) ≡ x ∷ take n (drop (k + 1) xs)
take_there xs k n x e = let next : suc k ≡ k + 1 = omega arith in take_next xs k n x e ∙ ap (λ m. x ∷ take n (drop m xs)) next

pub items_stand : (operators : Operators) (start : ℕ) (is : List WrapItem) (t : ValType) → HaveItems operators start is t →
    AreItems is t (take (length is) (drop start (without_offsets operators)))
items_stand operators start [] t h = tt
items_stand operators start (i ∷ is) t h =
    subst (AreItems (i ∷ is) t) (sym (take_there (without_offsets operators) start (length is) h.0.operator h.0.has))
    (h.0.is, items_stand operators (start + 1) is t h.1)

-- ---- counts

pub wrapped_sizes : (os : List Operator) (start at : ℕ) (w : Wrap) (t : ValType) (word : ℕ) →
    length (pieces_operators os (item_pieces t word (front_of w) ++ Kept start (at + 1) ∷ item_pieces t word (back_of w)))
    ≡ length (front_of w) + (length (slice_range os start (at + 1)) + length (back_of w))
wrapped_sizes os start at w t word =
    let front = item_pieces t word (front_of w) in
    let back = item_pieces t word (back_of w) in
    let before = items_length (front_of w) t (pieces_operators os front) (items_are os t word (front_of w)) in
    let behind = items_length (back_of w) t (pieces_operators os back) (items_are os t word (back_of w)) in
    ap length (pieces_append os front (Kept start (at + 1) ∷ back))
    ∙ (length-append (pieces_operators os front) (slice_range os start (at + 1) ++ pieces_operators os back)
    ∙ ap₂ (λ (n m : ℕ). n + m) before
    (length-append (slice_range os start (at + 1)) (pieces_operators os back)
    ∙ ap (λ (n : ℕ). length (slice_range os start (at + 1)) + n) behind))

pub wrapped_count : (operators : Operators) (start at : ℕ) (w : Wrap) (t : ValType) (word : ℕ) →
    length (operators_in operators start (at + 1)) ≡ at + 1 - start →
    length (pieces_operators (without_offsets operators) (item_pieces t word (front_of w) ++ Kept start (at + 1) ∷ item_pieces t word (back_of w)))
    ≡ length (front_of w) + (at + 1 - start + length (back_of w))
wrapped_count operators start at w t word kept =
    wrapped_sizes (without_offsets operators) start at w t word
    ∙ ap (λ (n : ℕ). length (front_of w) + (n + length (back_of w))) (ap length (range_alone operators start (at + 1)) ∙ kept)

pub inner_count : (operators : Operators) (from end : ℕ) → from ≤ end → end ≤ length operators →
    length (pieces_operators (without_offsets operators) (Kept from end ∷ [])) ≡ end - from
inner_count operators from end ordered inside =
    ap length (append-nil (slice_range (without_offsets operators) from end) ∙ range_alone operators from end) ∙ length_in operators from end inside

-- ---- the last of them is an end

-- the last item of each
last_end : (operators : Operators) (end at : ℕ) (t : ValType) → at ≡ end → HasItem operators end item.End t →
    slice_get (without_offsets operators) at ≡ Some End
last_end operators end at t e h = ap (slice_get (without_offsets operators)) e ∙ (h.has ∙ ap (λ (o : Operator). Some o) h.is)

pub ends_with_end : (operators : Operators) (w : Wrap) (t : ValType) (end at : ℕ) → end + length (back_of w) ≡ at + 1 →
    HaveItems operators end (back_of w) t → slice_get (without_offsets operators) at ≡ Some End
ends_with_end operators InBlock t end at e h = last_end operators end at t (omega (arith, e)) h.0
ends_with_end operators InLoop t end at e h = last_end operators end at t (omega (arith, e)) h.0
ends_with_end operators InIf t end at e h = last_end operators (end + 1 + 1) at t (omega (arith, e)) h.1.1.0
ends_with_end operators InElse t end at e h = last_end operators end at t (omega (arith, e)) h.0
ends_with_end operators LeaveBlock t end at e h = last_end operators (end + 1) at t (omega (arith, e)) h.1.0
ends_with_end operators LeaveOver t end at e h = last_end operators (end + 1) at t (omega (arith, e)) h.1.0
ends_with_end operators LeaveDead t end at e h = last_end operators (end + 1 + 1) at t (omega (arith, e)) h.1.1.0
ends_with_end operators MayLeave t end at e h = last_end operators (end + 1 + 1) at t (omega (arith, e)) h.1.1.0
ends_with_end operators SurelyLeave t end at e h = last_end operators (end + 1 + 1 + 1) at t (omega (arith, e)) h.1.1.1.0
ends_with_end operators Once t end at e h = last_end operators (end + 1 + 1) at t (omega (arith, e)) h.1.1.0
