-- What stands at an operator where a line applies.
use Rattle.std.proofs.Common.{Some, ◌≡◌, ℕ, suc, ◌+◌, ◌≤◌, Bool, true, false, List, [], ◌∷◌, refl, sym, ap, subst, ◌∙◌, arith}
use Rattle.std.specs.Prelude.{slice_get, ◌&&◌, nat_le, nat_lt, if◌then◌else◌}
use Rattle.std.proofs.lemmas.Bool.{le-leb, leb-true, false≢true}
use Rattle.wasm_code.specs.Instruction.{Instruction}
use Rattle.wasm_code.specs.declared.immediate.Imm.{Imm}
use Rattle.wasm_code.specs.declared.operator.Operator.{Operator}
use Rattle.wasm_types.specs.declared.types.PrimitiveTypeInfo.{PrimitiveTypeInfo}
use Rattle.wasm_types.specs.declared.types.PrimitiveTypeInfo.TheVariants as primitive
use Rattle.body_splices.specs.OwnBytes.{without_offsets}
use Rattle.wasm_execution.specs.declared.integer.IntegerType.TheVariants as integer
use Rattle.wasm_execution.specs.Values.{Context}
use Rattle.rewrite_rules.specs.declared.pattern.Part.{Part}
use Rattle.rewrite_rules.specs.declared.pattern.Part.TheVariants.{Hole, Constant, Drawn, Apply}
use Rattle.rewrite_rules.specs.declared.pattern.Operator.TheVariants.{Whole}
use Rattle.rewrite_rules.specs.declared.table.Own as own_rules
use Rattle.rewrite_rules.specs.declared.table.Own.TheVariants.{Unfold, ThroughGlobal, WithNop, Fold, Forget, TeeToSet, DropNop, SetToTee}
use Rattle.rewrite_rules.specs.declared.table.Own.TheVariants.{Access as Accesses, Wrap as Wraps, Unwrap as Unwraps}
use Rattle.rewrite_rules.specs.declared.table.Own.TheVariants.{SelectToIf, IfToSelect, TestCondition, DropConditionTest, DoubleCondition}
use Rattle.rewrite_rules.specs.declared.table.Own.TheVariants.{DropDoubleCondition, PutDead, DropDead}
use Rattle.rewrite_rules.specs.declared.table.Own.TheVariants.{BoundIndex, DropIndexBound, BrIfToIf, IfToBrIf}
use Rattle.rewrite_rules.specs.declared.table.Widths.{Widths}
use Rattle.rewrite_rules.specs.declared.table.Widths.TheVariants.{Both, Only, Any, Operands, Own}
use Rattle.rewrite_rules.specs.declared.access.AccessKind.{AccessKind}
use Rattle.rewrite_rules.specs.declared.access.AccessKind.TheVariants.{Load, Store, Constant}
use Rattle.rewrite_rules.specs.declared.access.Conversion.{Conversion}
use Rattle.rewrite_rules.specs.declared.access.Conversion.TheVariants.{Nothing, By, With}
use Rattle.rewrite_rules.specs.Access.{conversion_size, left_code, code_with, side_code}
use Rattle.rewrite_rules.specs.Instance.{row_number, constant_code, operator_code}
use Rattle.rewrite_rules.specs.Beside.{nop_code, drop_code, get_local, tee_local}
use Rattle.rewrite_rules.specs.Flow.{ne_code, eqz_code, select_code}
use Rattle.body_rewrites.specs.declared.own.Made.{Made}
use Rattle.body_rewrites.specs.declared.own.Made.TheVariants as made
use Rattle.body_rewrites.specs.declared.places.Line.{Line}
use Rattle.body_rewrites.specs.declared.root.Root.{Root}
use Rattle.body_rewrites.specs.declared.root.Root.TheVariants.{Classes, Tree, Any as Anything}
use Rattle.body_rewrites.specs.Changes.{Change}
use Rattle.body_rewrites.specs.Cutting.{IsTreeTold, HasPart, AreCut}
use Rattle.body_rewrites.specs.Open.{HasInstruction}
use Rattle.body_rewrites.specs.Own.{Rewrites}
use Rattle.body_rewrites.specs.OwnSites.{StandFrom}
use Rattle.body_rewrites.specs.Places.{left_parts}
use Rattle.body_rewrites.specs.Rewrites.{MakesBy, Makes, IsLineChange}
use Rattle.body_rewrites.specs.declared.asked.Asked.{Asked}
use Rattle.body_rewrites.specs.declared.here.Here.{Here}
use Rattle.body_rewrites.specs.Asking.{IsAskedSo, IsHere}
use Rattle.body_rewrites.specs.Roots.{class_of, class_in, class_told, IsClassAt, one_row, part_root, first_root, side_root, access_root}
use Rattle.body_rewrites.specs.Roots.{own_root, root_by, root_of, HasRoot, fits}
use Rattle.body_rewrites.specs.Trees.{IsTree}
use Rattle.body_rewrites.proofs.AccessLemmas.{access_start}
use Rattle.body_rewrites.proofs.OwnAccessLemmas.{they_stand_from}
use Rattle.body_rewrites.proofs.StandsLemmas.{Operators}
use Rattle.body_rewrites.proofs.WrapLemmas.{ends_with_end}
use Rattle.body_rewrites.proofs.FlowLemmas.{leave_class}
use Rattle.body_rewrites.proofs.IndexLemmas.{bound_selects}
use Rattle.body_rewrites.proofs.OperationCodeLemmas.{operation_class}
use Rattle.body_rewrites.proofs.OwnAloneLemmas.{folded_at}

class_small : (row : ℕ) → class_of row ≤ 446
class_small row = go (nat_lt row 446) refl
  where
    go : (b : Bool) → nat_lt row 446 ≡ b → (if b then row else 446) ≤ 446
    go true e = let l = leb-true (suc row) 446 e in omega arith
    go false e = omega arith

module _ (context : Context) (operators : Operators) (at : ℕ) where
  -- ---- a line

  tree_ends : (start : ℕ) (last : ℕ) (t : PrimitiveTypeInfo) → at + 1 ≡ suc last → IsTree context operators start last t → HasRoot context operators at Tree
  tree_ends start last t ends tree =
      let same : last ≡ at = omega arith in
      (start, t, subst (λ n. IsTree context operators start n t) same tree)

  stands_here : (k : ℕ) (i : Instruction) → at + 1 ≡ suc k → HasInstruction operators k i → HasInstruction operators at i
  stands_here k i ends has =
      let same : k ≡ at = omega arith in
      subst (λ n. HasInstruction operators n i) same has

  -- an instruction of such a class stands there
  abbrev InClasses : (class : ℕ) → Root → Type 0
  InClasses class (Classes first last) = (first ≤ class) × (class ≤ last)
  InClasses class r = ⊥

  has_class : (r : Root) (i : Instruction) → HasInstruction operators at i → InClasses (class_of i.row) r → HasRoot context operators at r
  has_class (Classes first last) i has (from, to) =
      let same : class_told operators at ≡ class_of i.row = ap class_in has in
      (subst (λ n. first ≤ n) (sym same) from, subst (λ n. n ≤ last) (sym same) to)
  has_class Tree i has h = absurd h
  has_class Anything i has h = absurd h

  part_at : (p : Part) (k : ℕ) → HasPart context operators p k (at + 1) → HasRoot context operators at (part_root p)
  part_at (Hole n) k (last, t, ends, tree) = tree_ends k last t ends tree
  part_at (Constant integer.I32 e) k (n, i, ends, has, (small, is)) =
      has_class (Classes 36 36) (constant_code integer.I32 n) (subst (HasInstruction operators at) is (stands_here k i ends has)) (omega arith, omega arith)
  part_at (Constant integer.I64 e) k (n, i, ends, has, (small, is)) =
      has_class (Classes 37 37) (constant_code integer.I64 n) (subst (HasInstruction operators at) is (stands_here k i ends has)) (omega arith, omega arith)
  part_at (Drawn t) k h = absurd h
  part_at (Apply o) k (ends, has) =
      has_class (one_row (row_number o)) (operator_code o) (stands_here k (operator_code o) ends has) (omega arith, omega arith)

  first_at : (ps : List Part) (ks : List ℕ) → AreCut context operators ps ks (at + 1) → HasRoot context operators at (first_root ps)
  first_at [] ks c = tt
  first_at (p ∷ ps) [] c = absurd c
  first_at (p ∷ ps) (k ∷ ks) (h, c) = part_at p k h

  line_at : (line : Line) (change : Change) → IsLineChange context operators line at change → HasRoot context operators at (first_root (left_parts line))
  line_at line change h = first_at (left_parts line) h.is.starts h.is.cut

  -- ---- a rule beside the table

  -- the last instruction of a load or a store with a conversion
  side_ends : (kind : AccessKind) (row : ℕ) (c : Conversion) (start : ℕ) (m : Imm) → start + conversion_size c ≡ at →
      StandFrom operators start (side_code kind (record { row = row; conversion = c }) m) →
      HasRoot context operators at (side_root kind (record { row = row; conversion = c }))
  side_ends Load row Nothing start m e h =
      let ends : at + 1 ≡ suc start = omega (arith, e) in
      has_class (one_row row) (code_with row m) (stands_here start (code_with row m) ends h.0) (omega arith, omega arith)
  side_ends Constant row Nothing start m e h =
      let ends : at + 1 ≡ suc start = omega (arith, e) in
      has_class (one_row row) (code_with row m) (stands_here start (code_with row m) ends h.0) (omega arith, omega arith)
  side_ends Load row (By o) start m e h =
      let ends : at + 1 ≡ suc (start + 1) = omega (arith, e) in
      has_class (one_row (row_number o)) (operator_code o) (stands_here (start + 1) (operator_code o) ends h.1.0) (omega arith, omega arith)
  side_ends Constant row (By o) start m e h =
      let ends : at + 1 ≡ suc (start + 1) = omega (arith, e) in
      has_class (one_row (row_number o)) (operator_code o) (stands_here (start + 1) (operator_code o) ends h.1.0) (omega arith, omega arith)
  side_ends Load row (With t n o) start m e h =
      let ends : at + 1 ≡ suc (start + 1 + 1) = omega (arith, e) in
      has_class (one_row (row_number o)) (operator_code o) (stands_here (start + 1 + 1) (operator_code o) ends h.1.1.0) (omega arith, omega arith)
  side_ends Constant row (With t n o) start m e h =
      let ends : at + 1 ≡ suc (start + 1 + 1) = omega (arith, e) in
      has_class (one_row (row_number o)) (operator_code o) (stands_here (start + 1 + 1) (operator_code o) ends h.1.1.0) (omega arith, omega arith)
  side_ends Store row Nothing start m e h =
      let ends : at + 1 ≡ suc start = omega (arith, e) in
      has_class (one_row row) (code_with row m) (stands_here start (code_with row m) ends h.0) (omega arith, omega arith)
  side_ends Store row (By o) start m e h =
      let ends : at + 1 ≡ suc (start + 1) = omega (arith, e) in
      has_class (one_row row) (code_with row m) (stands_here (start + 1) (code_with row m) ends h.1.0) (omega arith, omega arith)
  side_ends Store row (With t n o) start m e h =
      let ends : at + 1 ≡ suc (start + 1 + 1) = omega (arith, e) in
      has_class (one_row row) (code_with row m) (stands_here (start + 1 + 1) (code_with row m) ends h.1.1.0) (omega arith, omega arith)

  own_at : (own : own_rules.Own) (start : ℕ) (m : Made) → Rewrites context operators own start at m → HasRoot context operators at (own_root own)
  own_at Unfold start (made.Sum integer.I32 n) (e, h) = has_class (Classes 36 37) (constant_code integer.I32 n) h.has (omega arith, omega arith)
  own_at Unfold start (made.Sum integer.I64 n) (e, h) = has_class (Classes 36 37) (constant_code integer.I64 n) h.has (omega arith, omega arith)
  own_at ThroughGlobal start (made.Global t g) (tree, number, first, few) = (start, t, tree)
  own_at WithNop start made.Nop (t, tree) = (start, t, tree)
  own_at Fold start (made.Constant t n) f =
      has_class (Classes 40 446) (operator_code (Whole f.operation)) (folded_at operators start at t n f)
      (operation_class f.operation, class_small (row_number (Whole f.operation)))
  own_at Forget start made.Nothing h = has_class (Classes 2 2) drop_code h.dropped (omega arith, omega arith)
  own_at TeeToSet start (made.SetAndGet n) (e, h) = has_class (Classes 6 6) (tee_local n) h (omega arith, omega arith)
  own_at DropNop start made.Nothing (e, h) = has_class (Classes 0 0) nop_code h (omega arith, omega arith)
  own_at SetToTee start (made.Tee n) (e, h, g) = has_class (Classes 4 4) (get_local n) g (omega arith, omega arith)
  own_at (Accesses n) start (made.Access a w) f =
      subst (λ o. HasRoot context operators at (access_root o)) (sym f.listed)
      (side_ends a.kind a.left.row a.left.conversion start f.immediate (access_start context operators n start at a w f)
      (they_stand_from operators (left_code a f.immediate) start (at + 1) f.ends f.stands))
  own_at (Wraps w) start (made.Wrapped v t) (e, room, u, n, tree) = (start, u, tree)
  own_at (Unwraps w) start (made.Inner from end) h =
      let none : class_told operators at ≡ 446 = ap class_in (ends_with_end operators w h.value end at h.ends h.behind) in
      (omega (arith, none), omega (arith, none))
  own_at SelectToIf start (made.Conditional v condition) (room, h) = has_class (Classes 3 3) select_code h.selects (omega arith, omega arith)
  own_at IfToSelect start made.Selected h =
      let none : class_told operators at ≡ 446 =
      ap class_in (ap (slice_get (without_offsets operators)) (sym h.ends) ∙ (h.choice.closes.has ∙ ap (λ (o : Operator). Some o) h.choice.closes.is)) in
      (omega (arith, none), omega (arith, none))
  own_at TestCondition start made.Tested h = (start, primitive.I32, h.tree)
  own_at DropConditionTest start (made.Inner from end) (e, h) = has_class (Classes 42 42) ne_code h.second (omega arith, omega arith)
  own_at DoubleCondition start made.DoublyTested h = (start, primitive.I32, h.tree)
  own_at DropDoubleCondition start (made.Inner from end) (e, h) = has_class (Classes 40 40) eqz_code h.second (omega arith, omega arith)
  own_at PutDead start made.Dead (e, h) =
      let none : class_told operators at ≡ 446 = ap class_in h.leave.has ∙ leave_class h.leave.operator h.leave.leaves in
      (omega (arith, none), omega (arith, none))
  own_at DropDead start made.Nothing h = has_class (Classes 2 2) drop_code h.dropped (omega arith, omega arith)
  own_at BoundIndex start (made.Bounded count) h = (start, primitive.I32, h.tree)
  own_at DropIndexBound start (made.Inner from end) (e, h) =
      has_class (Classes 3 3) select_code (bound_selects context operators start at end h) (omega arith, omega arith)
  own_at BrIfToIf start (made.InConditional label) (e, room, h) = let none = ap class_in h.branch in (omega (arith, none), omega (arith, none))
  own_at IfToBrIf start (made.BranchIf label) h = let none = ap class_in h.closes in (omega (arith, none), omega (arith, none))
  own_at own start m h = absurd h

  -- ---- what makes something has its root there

  makes_by : (line : Line) (change : Change) (widths : Widths) → MakesBy context operators line at change widths →
      HasRoot context operators at (root_by line widths)
  makes_by line change (Own own) h = own_at own h.site.start h.site.made h.rewrites
  makes_by line change Both h = line_at line change h
  makes_by line change (Only t) h = line_at line change h
  makes_by line change Any h = line_at line change h
  makes_by line change (Operands a b c) h = line_at line change h

  both_true : (a b : Bool) → a ≡ true → b ≡ true → (a && b) ≡ true
  both_true true b e h = h
  both_true false b e h = absurd cc

  -- and that fits
  module _ (class : ℕ) (is_class : IsClassAt operators at class) (is_tree : Bool)
      (told : IsTreeTold context operators at is_tree) where
    root_fits : (root : Root) → HasRoot context operators at root → fits class is_tree root ≡ true
    root_fits (Classes first last) (from, to) =
        both_true (nat_le first class) (nat_le class last) (le-leb first class (omega arith)) (le-leb class last (omega arith))
    root_fits Tree (start, t, tree) = go is_tree told
      where
        go : (b : Bool) → IsTreeTold context operators at b → b ≡ true
        go true none = refl
        go false none = absurd (none start t tree)
    root_fits Anything h = refl

    pub makes_fits : (line : Line) (change : Change) → Makes context operators line at change → fits class is_tree (root_of line) ≡ true
    makes_fits line change h = root_fits (root_of line) (makes_by line change line.row.widths h)

-- what doesn't fit makes nothing
pub unfit : (context : Context) (operators : Operators) (here : Here) → IsHere context operators here → (asked : Asked) → IsAskedSo asked →
    fits here.class here.is_tree asked.root ≡ false → (change : Change) → Makes context operators asked.line here.at change → ⊥
unfit context operators here is asked so off change made =
    false≢true
    (sym off
    ∙ (ap (fits here.class here.is_tree) so.root_is
    ∙ makes_fits context operators here.at here.class is.class_is here.is_tree is.tree_is asked.line change made))
