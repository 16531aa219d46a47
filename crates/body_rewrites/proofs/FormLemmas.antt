-- What a line is, by its form.
use Rattle.std.proofs.Common.{◌≡◌, ℕ, ◌+◌, ◌-◌, Bool, true, false, length, Option, Some, None, refl, sym, ap, ◌∙◌}
use Rattle.std.specs.Prelude.{if◌then◌else◌, ⊤, slice_get, IfSome, IfNone}
use Rattle.body_splices.specs.OwnBytes.{without_offsets}
use Rattle.body_splices.specs.Laws.{pieces_operators}
use Rattle.wasm_execution.specs.Values.{Context}
use Rattle.rewrite_rules.specs.declared.table.Own as own_rules
use Rattle.rewrite_rules.specs.declared.table.Row.{Row}
use Rattle.rewrite_rules.specs.declared.table.Widths.{Widths}
use Rattle.rewrite_rules.specs.declared.table.Widths.TheVariants.{Both, Only, Any, Operands, Own}
use Rattle.rewrite_rules.specs.Table.{widths_in}
use Rattle.body_rewrites.specs.declared.asked.Form.TheVariants as form
use Rattle.body_rewrites.specs.declared.growth.Growth.{Growth}
use Rattle.body_rewrites.specs.declared.growth.Growth.TheVariants.{Shrinks, Keeps, Grows}
use Rattle.body_rewrites.specs.declared.places.Line.{Line}
use Rattle.body_rewrites.specs.Alone.{are_alone, doubles, form_by}
use Rattle.body_rewrites.specs.Changes.{Change}
use Rattle.body_rewrites.specs.Growth.{IsGrowth, HasGrowth}
use Rattle.body_rewrites.specs.Places.{IsLine}
use Rattle.body_rewrites.specs.Rewrites.{asked_widths, growth_by_sizes, growth_of, IsAsked, IsLineChange, MakesBy}
use Rattle.body_rewrites.proofs.StandsLemmas.{Operators}
use Rattle.body_rewrites.proofs.GrowingLemmas.{shrinks, keeps, grows}

-- ---- rules beside the table, and lines

-- the widths are none of a rule beside the table
abbrev pub IsNotOwn : Widths → Type 0
IsNotOwn (Own o) = ⊥
IsNotOwn w = ⊤

pub makes_by : (context : Context) (operators : Operators) (line : Line) (at : ℕ) (change : Change) (w : Widths) → IsNotOwn w →
    IsLineChange context operators line at change → MakesBy context operators line at change w
makes_by context operators line at change Both e h = h
makes_by context operators line at change (Only t) e h = h
makes_by context operators line at change Any e h = h
makes_by context operators line at change (Operands a b c) e h = h
makes_by context operators line at change (Own o) e h = absurd e

pub made_by : (context : Context) (operators : Operators) (line : Line) (at : ℕ) (change : Change) (w : Widths) → IsNotOwn w →
    MakesBy context operators line at change w → IsLineChange context operators line at change
made_by context operators line at change Both e h = h
made_by context operators line at change (Only t) e h = h
made_by context operators line at change Any e h = h
made_by context operators line at change (Operands a b c) e h = h
made_by context operators line at change (Own o) e h = absurd e

same_widths : (w : Widths) → IsNotOwn w → widths_in w ≡ asked_widths w
same_widths Both e = refl
same_widths (Only t) e = refl
same_widths Any e = refl
same_widths (Operands a b c) e = refl
same_widths (Own o) e = absurd e

pub is_line : (number : ℕ) (line : Line) → IsAsked number line → IsNotOwn line.row.widths → IsLine line
is_line number line asked not_own = record {
  number = number;
  row_is = asked.row_is;
  place = asked.place;
  width_is = ap (λ ws. slice_get ws asked.place) (same_widths line.row.widths not_own) ∙ asked.width_is;
}

-- ---- by the form

-- the types of the operands are told
abbrev pub has_types : Widths → Bool
has_types (Operands a b c) = true
has_types w = false

-- It is asked by its operand's tree: the left side is that operand alone, whose type the width tells.
pub record IsAskedAlone (row : Row) (w : Widths) : Type 0 where
  pub left : are_alone row.left ≡ true
  pub untyped : has_types w ≡ false

module _ (row : Row) where
  pub form_own : (w : Widths) (o : own_rules.Own) → form.Own o ≡ form_by row w → w ≡ Own o
  form_own Both o e = go (are_alone row.left) e
    where
      go : (b : Bool) → form.Own o ≡ (if b then form.Alone (doubles row) else form.Other) → Both ≡ Own o
      go true e = absurd cc
      go false e = absurd cc
  form_own (Only t) o e = go (are_alone row.left) e
    where
      go : (b : Bool) → form.Own o ≡ (if b then form.Alone (doubles row) else form.Other) → Only t ≡ Own o
      go true e = absurd cc
      go false e = absurd cc
  form_own (Operands a b c) o e = absurd cc
  form_own Any o e = go (are_alone row.left) e
    where
      go : (b : Bool) → form.Own o ≡ (if b then form.Alone (doubles row) else form.Other) → Any ≡ Own o
      go true e = absurd cc
      go false e = absurd cc
  form_own (Own p) o e = let same : p ≡ o = cc in ap (λ q. Own q) same

  alone_cases : (d b : Bool) → are_alone row.left ≡ b → form.Alone d ≡ (if b then form.Alone (doubles row) else form.Other) →
      (are_alone row.left ≡ true) × (d ≡ doubles row)
  alone_cases d true h e = (h, cc)
  alone_cases d false h e = absurd cc

  pub form_alone : (w : Widths) (d : Bool) → form.Alone d ≡ form_by row w → IsNotOwn w × IsAskedAlone row w × (d ≡ doubles row)
  form_alone Both d e = let (a, b) = alone_cases d (are_alone row.left) refl e in (tt, record { left = a; untyped = refl }, b)
  form_alone (Only t) d e = let (a, b) = alone_cases d (are_alone row.left) refl e in (tt, record { left = a; untyped = refl }, b)
  form_alone (Operands a b c) d e = absurd cc
  form_alone Any d e = let (a, b) = alone_cases d (are_alone row.left) refl e in (tt, record { left = a; untyped = refl }, b)
  form_alone (Own o) d e = absurd cc

-- ---- what a change does to the number of operators

as_told : (kind : Growth) (new old : ℕ) → IsGrowth kind new old → kind ≡ growth_by_sizes old new
as_told Shrinks new old h = shrinks old new h
as_told Keeps new old h = keeps old new h
as_told Grows new old h = grows old new h

pub growth_told : (operators : Operators) (at : ℕ) (change : Change) (kind : Growth) → HasGrowth operators at change kind →
    growth_of operators at change ≡ kind
growth_told operators at change kind h =
    sym (as_told kind (length (pieces_operators (without_offsets operators) (change.pieces 0))) (at + 1 - change.start) (h 0))

-- ---- what is known of an answer

pub some_is : {A : Type 0} {P : A → Type 0} (o : Option A) → ((x : A) → o ≡ Some x → P x) → IfSome o P
some_is (Some x) f = f x refl
some_is None f = tt

pub none_is : {A : Type 0} {P : Type 0} (o : Option A) → (o ≡ None → P) → IfNone o P
none_is (Some x) f = tt
none_is None f = f refl
