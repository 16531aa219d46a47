-- What is written is what is made, and there is nothing else to make.
use Rattle.std.proofs.Common.{ℕ, zero, suc, ◌+◌, ◌^◌, ◌<◌, ◌≤◌, [], ◌∷◌, length, refl, arith}
use Rattle.std.specs.Prelude.{IfNone, Option, Some, None}
use Rattle.wasm_code.specs.Instruction.{Instruction}
use Rattle.wasm_code.specs.declared.immediate.Imm.{Imm}
use Rattle.wasm_execution.specs.Values.{Context}
use Rattle.wasm_execution.specs.declared.integer.IntegerType.{IntegerType}
use Rattle.wasm_execution.specs.declared.integer.IntegerType.TheVariants as integer
use Rattle.rewrite_rules.specs.declared.access.AccessKind.{AccessKind}
use Rattle.rewrite_rules.specs.declared.access.AccessKind.TheVariants.{Load, Store, Constant}
use Rattle.rewrite_rules.specs.declared.access.Conversion.{Conversion}
use Rattle.rewrite_rules.specs.declared.access.Conversion.TheVariants.{Nothing, By, With}
use Rattle.rewrite_rules.specs.Access.{AccessesAreFormed, IsFormedConversion, IsOfRow, side_code}
use Rattle.rewrite_rules.specs.Instance.{constant_code}
use Rattle.rewrite_rules.specs.Beside.{nop_code, drop_code, get_local, tee_local}
use Rattle.body_rewrites.specs.declared.changes.NewCode.{NewCode}
use Rattle.rewrite_rules.specs.declared.table.Own.{Own}
use Rattle.rewrite_rules.specs.declared.table.Own.TheVariants.{Unfold, ThroughGlobal, WithNop, Fold, Forget, TeeToSet, DropNop, SetToTee}
use Rattle.rewrite_rules.specs.declared.table.Own.TheVariants.{Access as Accesses, Wrap as Wraps, Unwrap as Unwraps}
use Rattle.rewrite_rules.specs.declared.table.Own.TheVariants.{SelectToIf, IfToSelect, TestCondition, DropConditionTest, DoubleCondition}
use Rattle.rewrite_rules.specs.declared.table.Own.TheVariants.{DropDoubleCondition, PutDead, DropDead}
use Rattle.rewrite_rules.specs.declared.table.Own.TheVariants.{BoundIndex, DropIndexBound, BrIfToIf, IfToBrIf}
use Rattle.body_rewrites.specs.declared.own.Made.{Made}
use Rattle.body_rewrites.specs.declared.own.Made.TheVariants as made
use Rattle.body_rewrites.specs.declared.own.Site.{Site}
use Rattle.body_rewrites.specs.Open.{HasInstruction}
use Rattle.body_rewrites.specs.Changes.{Change, IsWritten}
use Rattle.body_rewrites.specs.Own.{Rewrites, made_pieces, made_asks, change_of, IsOwnChange}
use Rattle.body_rewrites.specs.OwnSites.{AreOfRows, IsNewCode, IsWritable}
use Rattle.body_rewrites.proofs.AccessLemmas.{access_inside}
use Rattle.body_rewrites.proofs.OwnRowLemmas.{i32_const_row, i64_const_row}
use Rattle.body_rewrites.proofs.StandsLemmas.{Operators}
use Rattle.body_rewrites.proofs.FlowLemmas.{there_inside}
use Rattle.body_rewrites.proofs.IndexLemmas.{bound_inside}
use Rattle.body_rewrites.proofs.OwnAloneLemmas.{folded_at}

inside : (operators : Operators) (at : ℕ) (i : Instruction) → HasInstruction operators at i → at < length operators
inside [] at i h = absurd cc
inside (o ∷ operators) zero i h = omega arith
inside (o ∷ operators) (suc at) i h = let l = inside operators at i h in omega arith

module _ (context : Context) (operators : Operators) (at : ℕ) where
  within : (own : Own) (start : ℕ) (m : Made) → Rewrites context operators own start at m → at < length operators
  within Unfold start (made.Sum t n) (e, c) = inside operators at (constant_code t n) c.has
  within ThroughGlobal start (made.Global t g) (tree, number, index, small) = tree.inside
  within WithNop start made.Nop (t, tree) = tree.inside
  within Fold start (made.Constant t n) f = inside operators at _ (folded_at operators start at t n f)
  within Forget start made.Nothing f = inside operators at drop_code f.dropped
  within TeeToSet start (made.SetAndGet n) (e, h) = inside operators at (tee_local n) h
  within DropNop start made.Nothing (e, h) = inside operators at nop_code h
  within SetToTee start (made.Tee n) (e, h, g) = inside operators at (get_local n) g
  within (Accesses n) start (made.Access a w) f = access_inside context operators n start at a w f
  within (Wraps w) start (made.Wrapped v t) (e, room, u, n, tree) = tree.inside
  within (Unwraps w) start (made.Inner from end) h = let l = h.inside in omega arith
  within SelectToIf start (made.Conditional v condition) (room, h) = there_inside operators at _ h.selects
  within IfToSelect start made.Selected h = let l = h.inside in omega (arith, l)
  within TestCondition start made.Tested h = h.tree.inside
  within DropConditionTest start (made.Inner from end) (e, h) = there_inside operators at _ h.second
  within DoubleCondition start made.DoublyTested h = h.tree.inside
  within DropDoubleCondition start (made.Inner from end) (e, h) = there_inside operators at _ h.second
  within PutDead start made.Dead (e, h) = there_inside operators at h.leave.operator h.leave.has
  within DropDead start made.Nothing h = there_inside operators at _ h.dropped
  within BoundIndex start (made.Bounded count) h = h.tree.inside
  within DropIndexBound start (made.Inner from end) (e, h) = bound_inside context operators start at end h
  within BrIfToIf start (made.InConditional label) (e, room, h) = there_inside operators at _ h.branch
  within IfToBrIf start (made.BranchIf label) h = there_inside operators at _ h.closes
  within own start m r = absurd r

  pub none_behind : length operators ≤ at → (own : Own) (change : Change) → IsOwnChange context operators own at change → ⊥
  none_behind far own change is = let l = within own is.site.start is.site.made is.rewrites in omega arith

  pub is_change : (own : Own) (site : Site) (word : ℕ) (code : NewCode) → Rewrites context operators own site.start at site.made →
      IsNewCode site.start (made_pieces site.start at site.made word) (made_asks site.made) code →
      (change : Change) × IsOwnChange context operators own at change × IsWritten change word code
  is_change own site word code r is = (
    change_of at site,
    record { site = site; rewrites = r; is = refl },
    record { start_is = is.start_is; pieces_are = is.pieces_are; asks_are = is.asks_are },
  )

-- ---- what is made is written

constant_fits : (t : IntegerType) (n : ℕ) → IsOfRow (constant_code t n).row (constant_code t n).imm
constant_fits integer.I32 n = i32_const_row _
constant_fits integer.I64 n = i64_const_row _

side_fits : (kind : AccessKind) (row : ℕ) (c : Conversion) (m : Imm) → IsOfRow row m → IsFormedConversion c →
    AreOfRows (side_code kind (record { row = row; conversion = c }) m)
side_fits Load row Nothing m h g = (h, tt)
side_fits Constant row Nothing m h g = (h, tt)
side_fits Load row (By o) m h g = (h, (g, tt))
side_fits Constant row (By o) m h g = (h, (g, tt))
side_fits Load row (With t n o) m h g = (h, (constant_fits t n, (g, tt)))
side_fits Constant row (With t n o) m h g = (h, (constant_fits t n, (g, tt)))
side_fits Store row Nothing m h g = (h, tt)
side_fits Store row (By o) m h g = (g, (h, tt))
side_fits Store row (With t n o) m h g = (constant_fits t n, (g, (h, tt)))

module _ (formed : AccessesAreFormed) (context : Context) (operators : Operators) (at : ℕ) where
  label_fits : (own : Own) (start label : ℕ) → Rewrites context operators own start at (made.InConditional label) → label + 1 < 2 ^ 8
  label_fits BrIfToIf start label (e, room, h) = h.fits
  label_fits own start label r = absurd r

  pub is_writable : (own : Own) (start : ℕ) (m : Made) → Rewrites context operators own start at m → IsWritable m
  is_writable (Accesses n) start (made.Access a w) f =
      let h = formed n a f.listed in
      side_fits a.kind a.right.row a.right.conversion w (h.right_row f.immediate w f.written_is f.fits.kind) h.right_operators
  is_writable Unfold start (made.Access a w) r = absurd r
  is_writable ThroughGlobal start (made.Access a w) r = absurd r
  is_writable WithNop start (made.Access a w) r = absurd r
  is_writable Fold start (made.Access a w) r = absurd r
  is_writable Forget start (made.Access a w) r = absurd r
  is_writable TeeToSet start (made.Access a w) r = absurd r
  is_writable DropNop start (made.Access a w) r = absurd r
  is_writable SetToTee start (made.Access a w) r = absurd r
  is_writable (Wraps v) start (made.Access a w) r = absurd r
  is_writable (Unwraps v) start (made.Access a w) r = absurd r
  is_writable SelectToIf start (made.Access a w) r = absurd r
  is_writable IfToSelect start (made.Access a w) r = absurd r
  is_writable TestCondition start (made.Access a w) r = absurd r
  is_writable DropConditionTest start (made.Access a w) r = absurd r
  is_writable DoubleCondition start (made.Access a w) r = absurd r
  is_writable DropDoubleCondition start (made.Access a w) r = absurd r
  is_writable PutDead start (made.Access a w) r = absurd r
  is_writable DropDead start (made.Access a w) r = absurd r
  is_writable BoundIndex start (made.Access a w) r = absurd r
  is_writable DropIndexBound start (made.Access a w) r = absurd r
  is_writable BrIfToIf start (made.Access a w) r = absurd r
  is_writable IfToBrIf start (made.Access a w) r = absurd r
  is_writable own start made.Nothing r = tt
  is_writable own start (made.Constant t n) r = tt
  is_writable own start (made.Sum t n) r = tt
  is_writable own start made.Nop r = tt
  is_writable own start (made.Global t g) r = tt
  is_writable own start (made.SetAndGet n) r = tt
  is_writable own start (made.Tee n) r = tt
  is_writable own start (made.Wrapped w t) r = tt
  is_writable own start (made.Inner from end) r = tt
  is_writable own start (made.Conditional v condition) r = tt
  is_writable own start made.Selected r = tt
  is_writable own start made.Tested r = tt
  is_writable own start made.DoublyTested r = tt
  is_writable own start made.Dead r = tt
  is_writable own start (made.Bounded count) r = tt
  is_writable own start (made.InConditional label) r = label_fits own start label r
  is_writable own start (made.BranchIf label) r = tt

pub if_none : {A : Type 0} (o : Option A) (P Q : Type 0) → (P → Q) → IfNone o P → IfNone o Q
if_none (Some x) P Q f h = tt
if_none None P Q f h = f h
