-- A node's type is that of the operand that decides it, and without one it is decided by the node alone.
use Rattle.std.proofs.Common.{◌≡◌, ℕ, ◌<◌, ◌≤◌, map, List, [], ◌∷◌, length, get_or, Option, Some, None, Bool, true, false, refl, sym, ap, subst, ◌∙◌, arith}
use Rattle.std.specs.Prelude.{nat_lt, ◌-◌, Result, Ok, All, IfSome, slice_get, if◌then◌else◌}
use Rattle.std.specs.Result.{result_ok}
use Rattle.std.proofs.lemmas.Option.{same_Some, slice_get-get_or}
use Rattle.std.proofs.lemmas.Bool.{cond-false, ne_eqb}
use Rattle.std.proofs.lemmas.List.{length-reverse, length-map}
use Rattle.std.proofs.lemmas.List.Elements.{All-head}
use Rattle.wasm_code.specs.Table.{row_info_of}
use Rattle.wasm_code.specs.declared.immediate.Imm.{Imm}
use Rattle.wasm_code.specs.declared.table.ResultKind.{ResultKind}
use Rattle.wasm_code.specs.declared.table.ResultKind.TheVariants as by
use Rattle.wasm_code.specs.declared.table.RowInfo.{RowInfo}
use Rattle.mutate_base.specs.declared.error.Error.{Error}
use Rattle.wasm_types.specs.declared.types.PrimitiveTypeInfo.{PrimitiveTypeInfo}
use Rattle.peephole_nodes.specs.Payload.{imm_of}
use Rattle.peephole_nodes.specs.declared.id.Id.{Id}
use Rattle.peephole_lang.specs.Lang.{place_of, payload_of, ids_of}
use Rattle.peephole_lang.specs.Node.{head_of, children_of}
use Rattle.peephole_lang.specs.laws.PlaceLemmas.{tree_is, at_place, children_in}
use Rattle.peephole_lang.specs.Term.{Term, absent, node, Node, AreBelow, nodes_of, numbers_of, pick, tree_at, term_of}
use Rattle.peephole_lang.specs.declared.lang.Head.{Head}
use Rattle.peephole_lang.specs.declared.lang.Lang.{Lang}
use Rattle.peephole_analysis.specs.Analysis.{Analysis, or_refusal, result_type, row_type, head_type, first_type, returning_type}
use Rattle.peephole_analysis.specs.Deciding.{deciding_by, deciding_in, deciding_operand}
use Rattle.peephole_analysis.specs.TermTypes.{term_type, first_term_type, type_of_node, known_type}

found_or : (t : Option PrimitiveTypeInfo) (e : Error) → result_ok (or_refusal t e) ≡ t
found_or None e = refl
found_or (Some t) e = refl

never : {A : Type 0} {x : A} → None ≡ Some x → ⊥
never e = cc

never' : {A : Type 0} {x : A} → Some x ≡ None → ⊥
never' e = cc

-- ---- the operand decides

by_kind : (a : Analysis) (i : Imm) (kind : ResultKind) (ids : List Id) (c : ℕ) (at : ℕ → Term Head) → deciding_by kind ids ≡ Some c →
    result_ok (result_type a (first_term_type a (pick at (numbers_of ids))) i kind) ≡ result_ok (term_type a (at c))
by_kind a i by.First (id ∷ ids) c at e = found_or _ _ ∙ ap (λ n. result_ok (term_type a (at n))) (same_Some _ _ e)
by_kind a i by.First [] c at e = absurd (never e)
by_kind a i by.Nothing ids c at e = absurd (never e)
by_kind a i (by.Fixed t) ids c at e = absurd (never e)
by_kind a i by.Local ids c at e = absurd (never e)
by_kind a i by.Global ids c at e = absurd (never e)
by_kind a i by.Call ids c at e = absurd (never e)
by_kind a i by.Memory ids c at e = absurd (never e)
by_kind a i by.Table ids c at e = absurd (never e)
by_kind a i by.Element ids c at e = absurd (never e)
by_kind a i by.Immediate ids c at e = absurd (never e)

by_row : (a : Analysis) (i : Imm) (row : Option RowInfo) (ids : List Id) (c : ℕ) (at : ℕ → Term Head) → deciding_in row ids ≡ Some c →
    result_ok (row_type a (first_term_type a (pick at (numbers_of ids))) i row) ≡ result_ok (term_type a (at c))
by_row a i None ids c at e = absurd (never e)
by_row a i (Some row) ids c at e = by_kind a i row.result ids c at e

by_place : (a : Analysis) (rowless : Bool) (t : PrimitiveTypeInfo) (i : Imm) (row : Option RowInfo) (ids : List Id) (c : ℕ) (at : ℕ → Term Head) →
    (if rowless then None else deciding_in row ids) ≡ Some c →
    result_ok (if rowless then Ok t else row_type a (first_term_type a (pick at (numbers_of ids))) i row) ≡ result_ok (term_type a (at c))
by_place a true t i row ids c at e = absurd (never e)
by_place a false t i row ids c at e = by_row a i row ids c at e

first_below : (i : ℕ) (kind : ResultKind) (ids : List Id) (c : ℕ) → deciding_by kind ids ≡ Some c → All (λ k. k < i) (numbers_of ids) → c < i
first_below i by.First (id ∷ ids) c e all = subst (λ k. k < i) (same_Some _ _ e) (All-head (λ k. k < i) id.0 (numbers_of ids) all)
first_below i by.First [] c e all = absurd (never e)
first_below i by.Nothing ids c e all = absurd (never e)
first_below i (by.Fixed t) ids c e all = absurd (never e)
first_below i by.Local ids c e all = absurd (never e)
first_below i by.Global ids c e all = absurd (never e)
first_below i by.Call ids c e all = absurd (never e)
first_below i by.Memory ids c e all = absurd (never e)
first_below i by.Table ids c e all = absurd (never e)
first_below i by.Element ids c e all = absurd (never e)
first_below i by.Immediate ids c e all = absurd (never e)

first_below_row : (i : ℕ) (row : Option RowInfo) (ids : List Id) (c : ℕ) → deciding_in row ids ≡ Some c → All (λ k. k < i) (numbers_of ids) → c < i
first_below_row i None ids c e all = absurd (never e)
first_below_row i (Some row) ids c e all = first_below i row.result ids c e all

first_below_place : (i : ℕ) (rowless : Bool) (row : Option RowInfo) (ids : List Id) (c : ℕ) → (if rowless then None else deciding_in row ids)
    ≡ Some c → All (λ k. k < i) (numbers_of ids) → c < i
first_below_place i true row ids c e all = absurd (never e)
first_below_place i false row ids c e all = first_below_row i row ids c e all

-- the term at a place is that of its node
at_node : (xs : List Lang) (i : ℕ) (l : Lang) → AreBelow (nodes_of head_of children_of xs) → i < length xs → l ≡ get_or xs i l →
    tree_at (nodes_of head_of children_of xs) i ≡ node (head_of l) (pick (tree_at (nodes_of head_of children_of xs)) (children_of l))
at_node xs i l below there is = tree_is (at_place head_of children_of xs i l there is) below

-- the operand that decides stands below, and its type is the node's
pub decides : (a : Analysis) (xs : List Lang) (i : ℕ) (l : Lang) (c : ℕ) → AreBelow (nodes_of head_of children_of xs) → i < length xs →
    l ≡ get_or xs i l →
    deciding_operand l ≡ Some c → known_type a xs c ≡ known_type a xs i
decides a xs i l c below there is e =
    let ns = nodes_of head_of children_of xs in
    sym (ap (λ t. result_ok (term_type a t)) (at_node xs i l below there is)
    ∙ by_place a (nat_lt (place_of l) 12) _ (imm_of (payload_of l)) (row_info_of (place_of l - 12)) (ids_of l) c (tree_at ns) e)

pub decides_below : (xs : List Lang) (i : ℕ) (l : Lang) (c : ℕ) → AreBelow (nodes_of head_of children_of xs) → i < length xs → l ≡ get_or xs i l →
    deciding_operand l ≡ Some c → c < i
decides_below xs i l c below there is e =
    first_below_place i (nat_lt (place_of l) 12) (row_info_of (place_of l - 12)) (ids_of l) c e
    (children_in (at_place head_of children_of xs i l there is) below)

-- ---- the node alone decides

alone_kind : (a : Analysis) (i : Imm) (kind : ResultKind) (ids : List Id) (at : ℕ → Term Head) → deciding_by kind ids ≡ None →
    result_type a (first_term_type a (pick at (numbers_of ids))) i kind ≡ result_type a (first_type (λ id. None) ids) i kind
alone_kind a i by.First (id ∷ ids) at e = absurd (never' e)
alone_kind a i by.First [] at e = refl
alone_kind a i by.Nothing ids at e = refl
alone_kind a i (by.Fixed t) ids at e = refl
alone_kind a i by.Local ids at e = refl
alone_kind a i by.Global ids at e = refl
alone_kind a i by.Call ids at e = refl
alone_kind a i by.Memory ids at e = refl
alone_kind a i by.Table ids at e = refl
alone_kind a i by.Element ids at e = refl
alone_kind a i by.Immediate ids at e = refl

alone_row : (a : Analysis) (i : Imm) (row : Option RowInfo) (ids : List Id) (at : ℕ → Term Head) → deciding_in row ids ≡ None →
    row_type a (first_term_type a (pick at (numbers_of ids))) i row ≡ row_type a (first_type (λ id. None) ids) i row
alone_row a i None ids at e = refl
alone_row a i (Some row) ids at e = alone_kind a i row.result ids at e

alone_place : (a : Analysis) (rowless : Bool) (t : PrimitiveTypeInfo) (i : Imm) (row : Option RowInfo) (ids : List Id) (at : ℕ → Term Head) →
    (if rowless then None else deciding_in row ids) ≡ None →
    (if rowless then Ok t else row_type a (first_term_type a (pick at (numbers_of ids))) i row)
    ≡ (if rowless then Ok t else row_type a (first_type (λ id. None) ids) i row)
alone_place a true t i row ids at e = refl
alone_place a false t i row ids at e = alone_row a i row ids at e

-- a node that no operand decides has its type whatever is known of its operands
pub alone : (a : Analysis) (xs : List Lang) (i : ℕ) (l : Lang) → AreBelow (nodes_of head_of children_of xs) → i < length xs → l ≡ get_or xs i l →
    deciding_operand l ≡ None → returning_type a (λ id. None) l ≡ type_of_node a xs i
alone a xs i l below there is e =
    let ns = nodes_of head_of children_of xs in
    sym (ap (λ t. term_type a t) (at_node xs i l below there is)
    ∙ alone_place a (nat_lt (place_of l) 12) _ (imm_of (payload_of l)) (row_info_of (place_of l - 12)) (ids_of l) (tree_at ns) e)

-- ---- the root

first_known : (a : Analysis) (ids : List Id) (at : ℕ → Term Head) → first_term_type a (pick at (numbers_of ids))
    ≡ first_type (λ id. result_ok (term_type a (at id))) ids
first_known a [] at = refl
first_known a (id ∷ ids) at = refl

-- a node's type by those of the expression's nodes is that of its term
pub by_types : (a : Analysis) (xs : List Lang) (i : ℕ) (l : Lang) → AreBelow (nodes_of head_of children_of xs) → i < length xs → l ≡ get_or xs i l →
    returning_type a (known_type a xs) l ≡ type_of_node a xs i
by_types a xs i l below there is =
    let ns = nodes_of head_of children_of xs in
    sym (ap (λ t. term_type a t) (at_node xs i l below there is)
    ∙ ap (λ first. head_type a first (head_of l)) (first_known a (ids_of l) (tree_at ns)))

-- ---- places

absent_at : (ns : List (Node Head)) (i : ℕ) → length ns ≤ i → tree_at ns i ≡ absent
absent_at [] i past = refl
absent_at (n ∷ earlier) i past = cond-false _ _ _ (ne_eqb (length earlier) i (omega arith)) ∙ absent_at earlier i (omega arith)

-- nothing is known past the last node
pub unknown : (a : Analysis) (xs : List Lang) (i : ℕ) → length xs ≤ i → known_type a xs i ≡ None
unknown a xs i past =
    let view : Lang → Node Head = λ l. record { head = head_of l; children = children_of l } in
    let turned = length-reverse (map view xs) in
    let mapped = length-map xs view in
    ap (λ t. result_ok (term_type a t)) (absent_at (nodes_of head_of children_of xs) i (omega arith))

-- what is read at a place is the node there
pub read_at : (P : Lang → Type 0) (xs : List Lang) (i : ℕ) (l : Lang) → i < length xs → l ≡ get_or xs i l → P l → IfSome (slice_get xs i) P
read_at P xs i l there is p = subst (λ found. IfSome found P) (sym (slice_get-get_or xs i l there)) (subst P is p)

pub at_read : (P : Lang → Type 0) (xs : List Lang) (i : ℕ) (l : Lang) → i < length xs → l ≡ get_or xs i l → IfSome (slice_get xs i) P → P l
at_read P xs i l there is p = subst P (sym is) (subst (λ found. IfSome found P) (slice_get-get_or xs i l there) p)

-- ---- what the code answers; `nodes` are those of the expression

nodes_below : (nodes expr : List Lang) → nodes ≡ expr → AreBelow (nodes_of head_of children_of expr) → AreBelow (nodes_of head_of children_of nodes)
nodes_below nodes expr same below = subst (λ xs. AreBelow (nodes_of head_of children_of xs)) (sym same) below

-- the type of the node that alone decides is known where that of the node above is
pub told : (a : Analysis) (nodes expr : List Lang) (place from : ℕ) (l : Lang) (found : Result PrimitiveTypeInfo Error) → nodes ≡ expr →
    AreBelow (nodes_of head_of children_of expr) → place < length nodes → known_type a nodes place ≡ known_type a nodes from →
    IfSome (slice_get nodes place) (λ l. deciding_operand l ≡ None) → l ≡ get_or nodes place l → found ≡ returning_type a (λ id. None) l →
    result_ok found ≡ known_type a expr from
told a nodes expr place from l found same below there known none is call =
    ap result_ok (call ∙ alone a nodes place l (nodes_below nodes expr same below) there is
    (at_read (λ l. deciding_operand l ≡ None) nodes place l there is none))
    ∙ (known ∙ ap (λ xs. known_type a xs from) same)

pub of_root : (a : Analysis) (nodes expr : List Lang) (l : Lang) (found : Result PrimitiveTypeInfo Error) → nodes ≡ expr →
    AreBelow (nodes_of head_of children_of expr) → 0 < length expr → l ≡ get_or nodes (length nodes - 1) l →
    found ≡ returning_type a (known_type a expr) l →
    found ≡ term_type a (term_of head_of children_of expr)
of_root a nodes expr l found same below some is call =
    call ∙ by_types a expr (length expr - 1) l below (omega arith) (subst (λ xs. l ≡ get_or xs (length xs - 1) l) same is)
