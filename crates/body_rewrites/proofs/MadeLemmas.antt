-- What a row makes may stand in the place of what stood there; and what a body with it is.
use Rattle.std.proofs.Common.{◌≡◌, ℕ, ◌+◌, ◌-◌, ◌<◌, List, [], ◌∷◌, ◌++◌, length, map, drop, Option, Some, refl, sym, ap, subst, ◌∙◌, arith}
use Rattle.std.specs.Prelude.{slice_get, slice_range, IfSome, None, OnOk, Result, Ok, Err}
use Rattle.std.proofs.lemmas.List.{length-append, length-drop, length-map, length-take}
use Rattle.std.proofs.Math.Nat.{min-le_right}
use Rattle.std.proofs.lemmas.Option.{same_Some, slice_get_within}
use Rattle.wasm_code.specs.Instruction.{Instruction}
use Rattle.wasm_code.specs.declared.operator.Operator.{Operator}
use Rattle.wasm_code.specs.declared.operator.Operator.TheVariants.{Instr}
use Rattle.body_splices.specs.OwnBytes.{IsBodyIn}
use Rattle.body_splices.specs.Splice.{IsRangeIn}
use Rattle.wasm_execution.specs.declared.integer.IntegerType.{IntegerType}
use Rattle.wasm_execution.specs.Values.{Context}
use Rattle.rewrite_rules.specs.declared.table.Own.{Own}
use Rattle.rewrite_rules.specs.declared.table.Own.TheVariants.{Unfold, ThroughGlobal, WithNop, Fold, Forget, TeeToSet, DropNop, SetToTee}
use Rattle.rewrite_rules.specs.declared.table.Own.TheVariants.{Access as Accesses, Wrap as Wraps, Unwrap as Unwraps}
use Rattle.rewrite_rules.specs.declared.table.Own.TheVariants.{SelectToIf, IfToSelect, TestCondition, DropConditionTest, DoubleCondition}
use Rattle.rewrite_rules.specs.declared.table.Own.TheVariants.{DropDoubleCondition, PutDead, DropDead}
use Rattle.rewrite_rules.specs.declared.table.Own.TheVariants.{BoundIndex, DropIndexBound, BrIfToIf, IfToBrIf}
use Rattle.rewrite_rules.specs.declared.table.Widths.{Widths}
use Rattle.rewrite_rules.specs.declared.table.Widths.TheVariants as widths
use Rattle.rewrite_rules.specs.Beside.{constants}
use Rattle.rewrite_rules.specs.Instance.{constant_code, operator_code}
use Rattle.rewrite_rules.specs.declared.pattern.Operator.TheVariants.{Whole}
use Rattle.rewrite_rules.specs.Table.{widths_in}
use Rattle.body_rewrites.specs.declared.own.Made.{Made}
use Rattle.body_rewrites.specs.declared.own.Made.TheVariants as made
use Rattle.body_rewrites.specs.declared.places.Line.{Line}
use Rattle.body_rewrites.specs.Open.{HasInstruction}
use Rattle.body_rewrites.specs.Own.{IsFolded, Rewrites, OwnChangesMayStand}
use Rattle.body_rewrites.specs.Places.{IsLine}
use Rattle.body_rewrites.specs.Changes.{Change, MayStand}
use Rattle.body_rewrites.specs.Writing.{by_line}
use Rattle.body_rewrites.specs.LineChanges.{LineChangesMayStand}
use Rattle.body_rewrites.specs.Rewrites.{IsLineChange, asked_widths, MakesBy, IsAsked, IsLineOf}
use Rattle.body_rewrites.specs.declared.rewrite.Rewrite.{Rewrite}
use Rattle.body_rewrites.specs.MadeLaws.{ChangesMayStand}
use Rattle.body_rewrites.proofs.FlowLemmas.{there_inside}
use Rattle.body_rewrites.proofs.IndexLemmas.{bound_inside}
use Rattle.body_rewrites.proofs.AccessLemmas.{access_inside}
use Rattle.body_rewrites.proofs.StandsLemmas.{Operators}
use Rattle.body_rewrites.proofs.PlaceLemmas.{one_place_of}

-- ---- something stands behind what is rewritten

pub range_is_in : (context : Context) (input : List ℕ) (operators : Operators) (at : ℕ) (change : Change) → IsBodyIn input operators →
    at < length operators → MayStand context operators at change → IsRangeIn operators change.start (at + 1)
range_is_in context input operators at change body inside may =
    record { ordered = omega (arith, may.ordered); inside = may.followed inside body.spells.last }

-- ---- the operator is one of the body

abbrev instr_of : Instruction → Operator
instr_of i = Instr i

instruction_inside : (operators : Operators) (at : ℕ) (i : Instruction) → HasInstruction operators at i → at < length operators
instruction_inside operators at i h =
    let l = slice_get_within (map (λ (o : Operator × ℕ). o.0) operators) at (Instr i) h in
    omega (arith, l, length-map operators (λ (o : Operator × ℕ). o.0))

folded_inside : (operators : Operators) (start at : ℕ) (t : IntegerType) (n : ℕ) → IsFolded operators start at t n → at < length operators
folded_inside operators start at t n f =
    let code = constants f.operands ++ operator_code (Whole f.operation) ∷ [] in
    let count = sym (length-map (slice_range operators start (at + 1)) (λ (o : Operator × ℕ). o.0)) ∙ (ap length f.stands ∙ length-map code instr_of) in
    let parts = length-append (constants f.operands) (operator_code (Whole f.operation) ∷ []) in
    let constants_count = length-map f.operands (λ (c : IntegerType × ℕ). constant_code c.0 c.1) in
    let taken = length-take (at + 1 - start) (drop start operators) in
    let few = min-le_right (at + 1 - start) (length (drop start operators)) in
    let left = length-drop start operators in
    omega (arith, count, parts, constants_count, taken, few, left, f.ends)

own_inside : (context : Context) (operators : Operators) (own : Own) (start at : ℕ) (m : Made) → Rewrites context operators own start at m →
    at < length operators
own_inside context operators Unfold start at (made.Sum t n) (e, c) = instruction_inside operators at _ c.has
own_inside context operators ThroughGlobal start at (made.Global t g) (tree, number, e, small) = tree.inside
own_inside context operators WithNop start at made.Nop (t, tree) = tree.inside
own_inside context operators Fold start at (made.Constant t n) f = folded_inside operators start at t n f
own_inside context operators Forget start at made.Nothing f = instruction_inside operators at _ f.dropped
own_inside context operators TeeToSet start at (made.SetAndGet n) (e, h) = instruction_inside operators at _ h
own_inside context operators DropNop start at made.Nothing (e, h) = instruction_inside operators at _ h
own_inside context operators SetToTee start at (made.Tee n) (e, h, g) = instruction_inside operators at _ g
own_inside context operators (Accesses n) start at (made.Access a w) f = access_inside context operators n start at a w f
own_inside context operators (Wraps w) start at (made.Wrapped v t) (e, room, u, n, tree) = tree.inside
own_inside context operators (Unwraps w) start at (made.Inner from end) h = let l = h.inside in omega arith
own_inside context operators SelectToIf start at (made.Conditional v condition) (room, h) = there_inside operators at _ h.selects
own_inside context operators IfToSelect start at made.Selected h = let l = h.inside in omega (arith, l)
own_inside context operators TestCondition start at made.Tested h = h.tree.inside
own_inside context operators DropConditionTest start at (made.Inner from end) (e, h) = there_inside operators at _ h.second
own_inside context operators DoubleCondition start at made.DoublyTested h = h.tree.inside
own_inside context operators DropDoubleCondition start at (made.Inner from end) (e, h) = there_inside operators at _ h.second
own_inside context operators PutDead start at made.Dead (e, h) = there_inside operators at h.leave.operator h.leave.has
own_inside context operators DropDead start at made.Nothing h = there_inside operators at _ h.dropped
own_inside context operators BoundIndex start at (made.Bounded count) h = h.tree.inside
own_inside context operators DropIndexBound start at (made.Inner from end) (e, h) = bound_inside context operators start at end h
own_inside context operators BrIfToIf start at (made.InConditional label) (e, room, h) = there_inside operators at _ h.branch
own_inside context operators IfToBrIf start at (made.BranchIf label) h = there_inside operators at _ h.closes
own_inside context operators own start at m r = absurd r

line_inside : (context : Context) (operators : Operators) (line : Line) (at : ℕ) (change : Change) → IsLineChange context operators line at change →
    at < length operators
line_inside context operators line at change is = let l = is.is.is.inside in omega arith

one_line_change : (context : Context) (operators : Operators) (line : Line) (at : ℕ) (change other : Change) → IsLineChange context operators line at change →
    IsLineChange context operators line at other → change ≡ other
one_line_change context operators line at change other a b =
    a.change_is ∙ (ap (by_line line) (one_place_of context operators line (at + 1) a.place b.place a.is b.is) ∙ sym b.change_is)

-- ---- by a row

module _ (lines : LineChangesMayStand) (owns : OwnChangesMayStand) where
  stand_by : (context : Context) (operators : Operators) (number : ℕ) (line : Line) (at : ℕ) (change : Change) (w : Widths) → IsAsked number line →
      (slice_get (widths_in w) ≡ slice_get (asked_widths w)) → line.row.widths ≡ w → IsLineChange context operators line at change →
      MayStand context operators at change
  stand_by context operators number line at change w asked same e is =
      let width = ap (λ (f : ℕ → Option IntegerType). f asked.place) (ap (λ v. slice_get (widths_in v)) e
      ∙ (same ∙ ap (λ v. slice_get (asked_widths v)) (sym e))) in
      let line_is : IsLine line = record { number = number; row_is = asked.row_is; place = asked.place; width_is = width ∙ asked.width_is } in
      subst (MayStand context operators at) (sym is.change_is) (lines context operators line at is.place line_is is.is)

  stand : (context : Context) (operators : Operators) (number : ℕ) (line : Line) (at : ℕ) (change : Change) (w : Widths) → IsAsked number line →
      line.row.widths ≡ w → MakesBy context operators line at change w → MayStand context operators at change
  stand context operators number line at change widths.Both asked e is = stand_by context operators number line at change widths.Both asked refl e is
  stand context operators number line at change (widths.Only t) asked e is =
      stand_by context operators number line at change (widths.Only t) asked refl e is
  stand context operators number line at change widths.Any asked e is = stand_by context operators number line at change widths.Any asked refl e is
  stand context operators number line at change (widths.Operands a b c) asked e is =
      stand_by context operators number line at change (widths.Operands a b c) asked refl e is
  stand context operators number line at change (widths.Own own) asked e is = owns.stand context operators own at change is

  inside_by : (context : Context) (operators : Operators) (line : Line) (at : ℕ) (change : Change) (w : Widths) → MakesBy context operators line at change w →
      at < length operators
  inside_by context operators line at change widths.Both is = line_inside context operators line at change is
  inside_by context operators line at change (widths.Only t) is = line_inside context operators line at change is
  inside_by context operators line at change widths.Any is = line_inside context operators line at change is
  inside_by context operators line at change (widths.Operands a b c) is = line_inside context operators line at change is
  inside_by context operators line at change (widths.Own own) is = own_inside context operators own is.site.start at is.site.made is.rewrites

  one_by : (context : Context) (operators : Operators) (line : Line) (at : ℕ) (change other : Change) (w : Widths) →
      MakesBy context operators line at change w → MakesBy context operators line at other w → change ≡ other
  one_by context operators line at change other widths.Both a b = one_line_change context operators line at change other a b
  one_by context operators line at change other (widths.Only t) a b = one_line_change context operators line at change other a b
  one_by context operators line at change other widths.Any a b = one_line_change context operators line at change other a b
  one_by context operators line at change other (widths.Operands a b c) d e = one_line_change context operators line at change other d e
  one_by context operators line at change other (widths.Own own) a b = owns.one context operators own at change other a b

  pub changes_may_stand : ChangesMayStand
  changes_may_stand = record {
    stand = λ context operators number line at change asked is. stand context operators number line at change line.row.widths asked refl is;
    inside = λ context operators line at change is. inside_by context operators line at change line.row.widths is;
    one = λ context operators line at change other a b. one_by context operators line at change other line.row.widths a b;
  }

-- ---- what is put

pub on_ok : {A B : Type 0} (r : Result A B) (P Q : Type 0) → (P → Q) → OnOk r P → OnOk r Q
on_ok (Ok x) P Q f h = f h
on_ok (Err e) P Q f h = h

-- a rewrite has one line
pub same_line : (r : Rewrite) (line other : Line) → IsLineOf r line → IsLineOf r other → line ≡ other
same_line r line other (a, f) (b, g) =
    let row : line.row ≡ other.row = same_Some line.row other.row (sym a.row_is ∙ b.row_is) in
    let width : line.width ≡ other.width = f ∙ sym g in
    λ i. record { row = row i; width = width i }

-- ---- what is answered

pub if_found : {A : Type 0} (o : Option A) (P Q : A → Type 0) → ((x : A) → P x → Q x) → IfSome o P → IfSome o Q
if_found (Some x) P Q f h = f x h
if_found None P Q f h = tt
