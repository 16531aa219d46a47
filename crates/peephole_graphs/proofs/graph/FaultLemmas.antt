-- The first fault among operators, by the function and by the relations.
use Rattle.std.proofs.Common.{◌≡◌, ℕ, List, [], ◌∷◌, ◌++◌, Bool, true, false, Option, Some, None, refl, sym, ap, subst, ◌∙◌, arith, append_assoc, cond}
use Rattle.std.specs.Prelude.{reverse}
use Rattle.std.specs.Bool.{Decides}
use Rattle.std.specs.Option.{option_or}
use Rattle.std.proofs.lemmas.Bool.{false≢true, false_from_ne_true}
use Rattle.std.proofs.lemmas.Bool.Decides.{nat_tests}
use Rattle.std.proofs.lemmas.List.{reverse-append, reverse-reverse}
use Rattle.std.proofs.lemmas.List.Elements.{All-head, All-nil, All-push}
use Rattle.wasm_code.specs.declared.operator.Operator.{Operator}
use Rattle.wasm_types.specs.Module.{Module}
use Rattle.peephole_graphs.specs.Shape.{Shape, Judged, Fits, Unfit, Unknown, judge, IsFit, AreFit, shapes_of_block}
use Rattle.peephole_graphs.specs.GraphOf.{IsSmall, FirstFault, ShapeDoesNotFit}
use Rattle.peephole_graphs.specs.Faults.{Fault, held_by_none, calls_unknown, too_large, has_room, fault_behind, fault_among, block_fault_of, HasNoFault}
use Rattle.peephole_graphs.specs.Faults.{FindsNoGraph, FindsUnknown, FindsTooLarge}
use Rattle.peephole_graphs.proofs.Lists.{all_left, all_right}
use Rattle.peephole_graphs.proofs.BuilderLemmas.{block_push}
use Rattle.peephole_graphs.specs.Source.{Source}

abbrev Operators : Type 0
Operators = List (Operator × ℕ)

-- ---- room

roomy : (preserving : Bool) (block : List Shape) (s : Shape) → IsSmall preserving block →
    Decides (has_room preserving block s) (IsSmall preserving (s ∷ block))
roomy preserving block s small = (
  λ e. (small, grind (arith, nat_tests), grind (arith, nat_tests)),
  λ h. let size = h.1 in let color = h.2 in grind (arith, nat_tests),
)

room_fault : (b : Bool) (f : Fault) → cond b None (Some too_large) ≡ Some f → (b ≡ false) × (f ≡ too_large)
room_fault true f h = absurd cc
room_fault false f h = (refl, cc)

room_free : (b : Bool) → ◌≡◌ {A = Option Fault} (cond b None (Some too_large)) None → b ≡ true
room_free true h = refl
room_free false h = absurd cc

or_none : (f g : Option Fault) → option_or f g ≡ None → (f ≡ None) × (g ≡ None)
or_none None g h = (refl, h)
or_none (Some f) g h = absurd cc

turned : (o : Operator × ℕ) (earlier : Operators) → reverse (o ∷ earlier) ≡ reverse earlier ++ o ∷ []
turned o earlier = reverse-append (o ∷ []) earlier

-- ---- operators, the last one first

module _ (info : Module) (preserving : Bool) where
  abbrev Fit : Operator × ℕ → Type 0
  Fit o = IsFit (judge info o.0)

  abbrev FitsAndIsSmall : Operators → Type 0
  FitsAndIsSmall os = AreFit info os × IsSmall preserving (shapes_of_block info os)

  -- operators that fit and are small have no fault
  none_among : (xs : Operators) → FitsAndIsSmall (reverse xs) → fault_among info preserving xs ≡ None
  none_among [] h = refl
  none_among (o ∷ earlier) h =
      let k = subst FitsAndIsSmall (turned o earlier) h in
      let front = all_left Fit (reverse earlier) (o ∷ []) k.0 in
      go (judge info o.0) refl (All-head Fit o [] (all_right Fit (reverse earlier) (o ∷ []) k.0)) k.1 (λ small. none_among earlier (front, small))
    where
      go : (j : Judged) → judge info o.0 ≡ j → IsFit j → IsSmall preserving (shapes_of_block info (reverse earlier ++ o ∷ [])) →
          (IsSmall preserving (shapes_of_block info (reverse earlier)) → fault_among info preserving earlier ≡ None) →
          option_or (fault_among info preserving earlier) (fault_behind preserving (shapes_of_block info (reverse earlier)) j) ≡ None
      go (Fits s) e f m older =
          let block = shapes_of_block info (reverse earlier) in
          let k : IsSmall preserving (s ∷ block) = subst (IsSmall preserving) (block_push info (reverse earlier) o s e) m in
          ap (λ (r : Option Fault). option_or r (fault_behind preserving block (Fits s))) (older k.0)
          ∙ ap (λ (b : Bool). cond b None (Some too_large)) ((roomy preserving block s k.0).1 k)
      go Unfit e f m older = absurd f
      go (Unknown function) e f m older = absurd f

  -- and the other way round
  fits_among : (xs : Operators) → fault_among info preserving xs ≡ None → FitsAndIsSmall (reverse xs)
  fits_among [] h = (All-nil Fit, tt)
  fits_among (o ∷ earlier) h =
      let p = or_none (fault_among info preserving earlier) _ h in
      subst FitsAndIsSmall (sym (turned o earlier)) (last (judge info o.0) refl p.1 (fits_among earlier p.0))
    where
      last : (j : Judged) → judge info o.0 ≡ j → fault_behind preserving (shapes_of_block info (reverse earlier)) j ≡ None →
          FitsAndIsSmall (reverse earlier) → FitsAndIsSmall (reverse earlier ++ o ∷ [])
      last (Fits s) e n older = (
        All-push Fit (reverse earlier) o older.0 (subst IsFit (sym e) tt),
        subst (IsSmall preserving) (sym (block_push info (reverse earlier) o s e))
            ((roomy preserving (shapes_of_block info (reverse earlier)) s older.1).0 (room_free _ n)),
      )
      last Unfit e n older = absurd cc
      last (Unknown function) e n older = absurd cc

  -- a fault stays the first one, whatever follows
  stays : (later earlier : Operators) (f : Fault) → fault_among info preserving earlier ≡ Some f → fault_among info preserving (later ++ earlier) ≡ Some f
  stays [] earlier f h = h
  stays (o ∷ later) earlier f h = ap (λ (q : Option Fault). option_or q (fault_behind preserving
      (shapes_of_block info (reverse (later ++ earlier))) (judge info o.0))) (stays later earlier f h)

  -- ---- the first operator at fault, wherever the operators stand

  abbrev HasFault : Fault → Operators → Type 0
  HasFault f os = FirstFault (record { info = info; preserving = preserving; first = 0; operators = os })
      (λ block j. fault_behind preserving block j ≡ Some f)

  found_again : (f : Fault) (os : Operators) → HasFault f os → block_fault_of info preserving os ≡ Some f
  found_again f os h =
      let back = reverse-reverse h.before in
      let none = none_among (reverse h.before) (subst FitsAndIsSmall (sym back) (h.fit, h.small)) in
      let here : fault_among info preserving (h.at ∷ reverse h.before) ≡ Some f =
      ap (λ (q : Option Fault). option_or q (fault_behind preserving (shapes_of_block info (reverse (reverse h.before))) (judge info h.at.0))) none
      ∙ (ap (λ (x : Operators). fault_behind preserving (shapes_of_block info x) (judge info h.at.0)) back ∙ h.fault) in
      let parts : reverse os ≡ reverse h.rest ++ (h.at ∷ reverse h.before) =
      ap reverse h.whole ∙ (reverse-append h.before (h.at ∷ h.rest) ∙ (ap (λ (x : Operators). x ++ reverse h.before) (turned h.at h.rest)
      ∙ append_assoc (reverse h.rest) (h.at ∷ []) (reverse h.before))) in
      ap (fault_among info preserving) parts ∙ stays (reverse h.rest) (h.at ∷ reverse h.before) f here

  fault_found : (f : Fault) (xs : Operators) → fault_among info preserving xs ≡ Some f → HasFault f (reverse xs)
  fault_found f [] h = absurd cc
  fault_found f (o ∷ earlier) h = subst (HasFault f) (sym (turned o earlier)) (go (fault_among info preserving earlier) refl h (fault_found f earlier))
    where
      go : (q : Option Fault) → fault_among info preserving earlier ≡ q →
          option_or q (fault_behind preserving (shapes_of_block info (reverse earlier)) (judge info o.0)) ≡ Some f →
          (fault_among info preserving earlier ≡ Some f → HasFault f (reverse earlier)) → HasFault f (reverse earlier ++ o ∷ [])
      go None e w older =
          let fits = fits_among earlier e in
          record { before = reverse earlier; at = o; rest = []; whole = refl; fit = fits.0; small = fits.1; fault = w }
      go (Some g) e w older =
          let h = older (e ∙ w) in
          record {
            before = h.before;
            at = h.at;
            rest = h.rest ++ o ∷ [];
            whole = ap (λ (x : Operators). x ++ o ∷ []) h.whole ∙ append_assoc h.before (h.at ∷ h.rest) (o ∷ []);
            fit = h.fit;
            small = h.small;
            fault = h.fault;
          }

-- the same first operator, with something else said of it
said_otherwise : (s : Source) (first : ℕ) (P Q : List Shape → Judged → Type 0) →
    ((block : List Shape) (j : Judged) → IsSmall s.preserving block → P block j → Q block j) → FirstFault s P →
    FirstFault (record { info = s.info; preserving = s.preserving; first = first; operators = s.operators }) Q
said_otherwise s first P Q f h = record {
  before = h.before;
  at = h.at;
  rest = h.rest;
  whole = h.whole;
  fit = h.fit;
  small = h.small;
  fault = f (shapes_of_block s.info h.before) (judge s.info h.at.0) h.small h.fault;
}

-- ---- each fault

unfit_is : (preserving : Bool) (block : List Shape) (j : Judged) → fault_behind preserving block j ≡ Some held_by_none → j ≡ Unfit
unfit_is preserving block Unfit h = refl
unfit_is preserving block (Unknown function) h = absurd cc
unfit_is preserving block (Fits s) h = let e = (room_fault (has_room preserving block s) held_by_none h).1 in absurd cc

unknown_is : (preserving : Bool) (block : List Shape) (j : Judged) (function : ℕ) →
    fault_behind preserving block j ≡ Some (calls_unknown function) → j ≡ Unknown function
unknown_is preserving block Unfit function h = absurd cc
unknown_is preserving block (Unknown other) function h = let same : other ≡ function = cc in ap Unknown same
unknown_is preserving block (Fits s) function h =
    let e = (room_fault (has_room preserving block s) (calls_unknown function) h).1 in absurd cc

large_is : (preserving : Bool) (block : List Shape) (j : Judged) → fault_behind preserving block j ≡ Some too_large → ShapeDoesNotFit preserving block j
large_is preserving block Unfit h = absurd cc
large_is preserving block (Unknown other) h = absurd cc
large_is preserving block (Fits s) h = (s, refl, λ small. false≢true (sym (room_fault _ _ h).0 ∙ (roomy preserving block s small.0).1 small))

large_found : (preserving : Bool) (block : List Shape) (j : Judged) → IsSmall preserving block → ShapeDoesNotFit preserving block j →
    fault_behind preserving block j ≡ Some too_large
large_found preserving block j small h =
    let r = false_from_ne_true (has_room preserving block h.0) (λ e. h.2 ((roomy preserving block h.0 small).0 e)) in
    ap (fault_behind preserving block) h.1 ∙ ap (λ (b : Bool). cond b None (Some too_large)) r

is_found : (s : Source) (f : Fault) (P : List Shape → Judged → Type 0) →
    ((block : List Shape) (j : Judged) → IsSmall s.preserving block → P block j → fault_behind s.preserving block j ≡ Some f) →
    FirstFault s P → block_fault_of s.info s.preserving s.operators ≡ Some f
is_found s f P g h = found_again s.info s.preserving f s.operators (said_otherwise s 0 P (λ block j. fault_behind s.preserving block j ≡ Some f) g h)

says : (s : Source) (f : Fault) (P : List Shape → Judged → Type 0) →
    ((block : List Shape) (j : Judged) → IsSmall s.preserving block → fault_behind s.preserving block j ≡ Some f → P block j) →
    block_fault_of s.info s.preserving s.operators ≡ Some f → FirstFault s P
says s f P g h = said_otherwise (record { info = s.info; preserving = s.preserving; first = 0; operators = s.operators }) s.first
    (λ block j. fault_behind s.preserving block j ≡ Some f) P g (subst (HasFault s.info s.preserving f) (reverse-reverse s.operators)
    (fault_found s.info s.preserving f (reverse s.operators) h))

-- ---- the laws

pub has_no_fault : HasNoFault
has_no_fault info preserving os = (
  λ h. subst (FitsAndIsSmall info preserving) (reverse-reverse os) (fits_among info preserving (reverse os) h),
  λ h. none_among info preserving (reverse os) (subst (FitsAndIsSmall info preserving) (sym (reverse-reverse os)) h),
)

pub finds_no_graph : FindsNoGraph
finds_no_graph s = (
  says s held_by_none (λ block j. j ≡ Unfit) (λ block j small h. unfit_is s.preserving block j h),
  is_found s held_by_none (λ block j. j ≡ Unfit) (λ block j small h. ap (fault_behind s.preserving block) h),
)

pub finds_unknown : FindsUnknown
finds_unknown s function = (
  says s (calls_unknown function) (λ block j. j ≡ Unknown function) (λ block j small h. unknown_is s.preserving block j function h),
  is_found s (calls_unknown function) (λ block j. j ≡ Unknown function) (λ block j small h. ap (fault_behind s.preserving block) h),
)

pub finds_too_large : FindsTooLarge
finds_too_large s = (
  says s too_large (ShapeDoesNotFit s.preserving) (λ block j small h. large_is s.preserving block j h),
  is_found s too_large (ShapeDoesNotFit s.preserving) (large_found s.preserving),
)
