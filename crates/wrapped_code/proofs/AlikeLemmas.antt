-- A body with the same structural operators as another one, whose pieces do the same wherever a run comes to, does as that.
use Rattle.std.proofs.Common.{◌≡◌, ℕ, zero, suc, Bool, true, false, List, [], ◌∷◌, ◌++◌, length, refl, sym, ap, ap₂, ◌∙◌, subst}
use Rattle.std.specs.Prelude.{map, if◌then◌else◌}
use Rattle.wasm_code.specs.Instruction.{Instruction}
use Rattle.wasm_code.specs.declared.operator.Operator.{Operator}
use Rattle.wasm_code.specs.declared.operator.Operator.TheVariants as op
use Rattle.wasm_types.specs.Module.{Module}
use Rattle.wasm_types.specs.declared.types.PrimitiveTypeInfo.{PrimitiveTypeInfo}
use Rattle.wasm_execution.specs.Values.{Value, Context, State, HasTypes}
use Rattle.wasm_execution.specs.Agreement.{with_globals}
use Rattle.wasm_execution.specs.StateLemmas.{none_of}
use Rattle.wasm_equivalence.specs.control.Function.{structural, piece, Reached, At, Done, Control, pass, stands_at, visit, visits, lap}
use Rattle.wasm_equivalence.specs.control.Function.{runs, FollowsEnd, EndsAlike}
use Rattle.wasm_equivalence.specs.control.Standard.{Beyond, by_asked, standard}
use Rattle.wasm_equivalence.specs.control.Wider.{wider_module, wider}
use Rattle.wasm_equivalence.specs.modules.Program.{Body, function_context}
use Rattle.wasm_equivalence.specs.hosts.Embedder.{DoesAs}
use Rattle.wasm_equivalence.specs.validation.Sound.{IsValid, HasTargets, HasDeeds, TargetsStay, DeedsStay}
use Rattle.wrapped_code.proofs.UnwrapLemmas.{no_globals, none_more}

-- ---- pieces

pub coded_first : (code : List Instruction) (rest : List Operator) → piece (map (λ (i : Instruction). op.Instr i) code ++ rest) 0 ≡ code ++ piece rest 0
coded_first [] rest = refl
coded_first (i ∷ code) rest = ap (λ is. i ∷ is) (coded_first code rest)

pub coded_later : (code : List Instruction) (rest : List Operator) (k : ℕ) →
    piece (map (λ (i : Instruction). op.Instr i) code ++ rest) (suc k) ≡ piece rest (suc k)
coded_later [] rest k = refl
coded_later (i ∷ code) rest k = coded_later code rest k

-- ---- runs

-- where each pass does the same and keeps what is asked for, so do runs
module _ (control : Control) (old new : List Operator) (P : Reached → Type 0) (keeps : (p : Reached) → P p → P (pass control old p))
    (same : (p : Reached) → P p → pass control old p ≡ pass control new p) where
  abbrev Both : (p q : Reached) → Type 0
  Both p q = P p × (p ≡ q)

  visit_both : (k : ℕ) (p : Reached) → P p → Both (visit control old k p) (visit control new k p)
  visit_both k p h = go (stands_at p k)
    where
      go : (b : Bool) → Both (if b then pass control old p else p) (if b then pass control new p else p)
      go true = (keeps p h, same p h)
      go false = (h, refl)

  visits_both : (k : ℕ) (p : Reached) → P p → Both (visits control old k p) (visits control new k p)
  visits_both zero p h = visit_both 0 p h
  visits_both (suc k) p h =
      let x = visits_both k p h in
      let y = visit_both (suc k) (visits control old k p) x.0 in
      (y.0, y.1 ∙ ap (visit control new (suc k)) x.1)

  pub runs_same : structural old ≡ structural new → (fuel : ℕ) (p : Reached) → P p → runs control old fuel p ≡ runs control new fuel p
  runs_same e zero p h = refl
  runs_same e (suc fuel) p h =
      let x = visits_both (length (structural old)) p h in
      runs_same e fuel (lap control old p) x.0 ∙
      ap (runs control new fuel) (x.1 ∙ ap (λ (os : List Operator). visits control new (length os) p) e)

-- ---- functions

-- one function does as another where it comes to the same ends and is valid where that is, and so do what its operators come to
pub record EndsSame (m : Module) (input : List ℕ) (b : Body) (old new : List Operator) : Type 0 where
  pub ends : (results : List PrimitiveTypeInfo) (beyond : Beyond) (fuel : ℕ) (s : State) → HasTypes (function_context m b) s →
      FollowsEnd [] (runs (standard m results (structural old) (by_asked (structural old) beyond)) old fuel (At 0 [] [] s))
      (runs (standard m results (structural new) (by_asked (structural new) beyond)) new fuel (At 0 [] [] s))
  pub valid : (results : List PrimitiveTypeInfo) (beyond : Beyond) → IsValid (function_context m b) results (by_asked (structural old) beyond) old →
      IsValid (wider input [] (function_context m b)) results (by_asked (structural new) beyond) new
  pub targets : (beyond : Beyond) → HasTargets m (structural old) (by_asked (structural old) beyond) →
      HasTargets m (structural new) (by_asked (structural new) beyond)
  pub deeds : (results : List PrimitiveTypeInfo) (beyond : Beyond) → HasDeeds m results (structural old) (by_asked (structural old) beyond) →
      HasDeeds m results (structural new) (by_asked (structural new) beyond)

-- the same where it has the same structural operators and runs
pub record RunsSame (m : Module) (input : List ℕ) (b : Body) (old new : List Operator) : Type 0 where
  pub structure : structural old ≡ structural new
  pub same : (results : List PrimitiveTypeInfo) (beyond : Beyond) (fuel : ℕ) (s : State) → HasTypes (function_context m b) s →
      runs (standard m results (structural old) (by_asked (structural old) beyond)) old fuel (At 0 [] [] s) ≡
      runs (standard m results (structural old) (by_asked (structural old) beyond)) new fuel (At 0 [] [] s)
  pub valid : (results : List PrimitiveTypeInfo) (beyond : Beyond) → IsValid (function_context m b) results (by_asked (structural old) beyond) old →
      IsValid (wider input [] (function_context m b)) results (by_asked (structural new) beyond) new

module _ (targets_stay : TargetsStay) (deeds_stay : DeedsStay) (m : Module) (input : List ℕ) (old new : Body) (old_body new_body : List Operator)
    (params_are : old.params ≡ new.params) (locals_are : old.locals ≡ new.locals) (old_is : old.operators ≡ old_body)
    (new_is : new.operators ≡ new_body) where
  abbrev context : Context
  context = function_context m old

  module _ (w : EndsSame m input old old_body new_body) where
    alike : (results : List PrimitiveTypeInfo) (beyond : Beyond) →
        EndsAlike context [] (standard m results (structural old_body) (by_asked (structural old_body) beyond))
        (standard m results (structural new_body) (by_asked (structural new_body) beyond)) old_body new_body
    alike results beyond fuel requested s typed e z =
        let first : Reached = runs (standard m results (structural old_body) (by_asked (structural old_body) beyond)) old_body fuel (At 0 [] [] s) in
        let second : State → Reached =
        λ s. runs (standard m results (structural new_body) (by_asked (structural new_body) beyond)) new_body fuel (At 0 [] [] s) in
        subst (λ (more : List Value). FollowsEnd more first (second (with_globals more s))) (sym (none_of requested e))
        (subst (λ (x : State). FollowsEnd [] first (second x)) (sym (no_globals s)) (w.ends results beyond fuel s typed))

    pub ends_does : DoesAs m input [] old new
    ends_does = record {
      params_are = params_are;
      locals_are = locals_are;
      alike = λ results beyond. subst (λ (x : List Operator × List Operator). EndsAlike context []
          (standard m results (structural x.0) (by_asked (structural x.0) beyond)) (standard m results (structural x.1) (by_asked (structural x.1) beyond))
          x.0 x.1) are (alike results beyond);
      valid = λ results beyond. subst (λ (x : List Operator × List Operator). IsValid context results (by_asked (structural x.0) beyond) x.0 →
          IsValid (wider input [] context) results (by_asked (structural x.1) beyond) x.1) are (w.valid results beyond);
      targets = λ beyond. subst (λ (x : List Operator × List Operator). HasTargets m (structural x.0) (by_asked (structural x.0) beyond) →
          HasTargets (wider_module input [] m) (structural x.1) (by_asked (structural x.1) beyond)) are
          (λ h. targets_stay m input [] (structural new_body) (by_asked (structural new_body) beyond) (w.targets beyond h));
      deeds = λ results beyond. subst (λ (x : List Operator × List Operator). HasDeeds m results (structural x.0) (by_asked (structural x.0) beyond) →
          HasDeeds (wider_module input [] m) results (structural x.1) (by_asked (structural x.1) beyond)) are
          (λ h. deeds_stay m input [] results (structural new_body) (by_asked (structural new_body) beyond) (w.deeds results beyond h));
    }
      where
        are : ◌≡◌ {A = List Operator × List Operator} (old_body, new_body) (old.operators, new.operators)
        are = ap₂ (λ (x y : List Operator). (x, y)) (sym old_is) (sym new_is)

  pub same_does : RunsSame m input old old_body new_body → DoesAs m input [] old new
  same_does w =
      ends_does (record {
        ends = λ results beyond fuel s typed.
            let control : List Operator → Control = λ os. standard m results os (by_asked os beyond) in
            let first : Reached = runs (control (structural old_body)) old_body fuel (At 0 [] [] s) in
            subst (λ (os : List Operator). FollowsEnd [] first (runs (control os) new_body fuel (At 0 [] [] s))) w.structure
            (subst (λ (x : Reached). FollowsEnd [] first x) (w.same results beyond fuel s typed) (go first));
        valid = w.valid;
        targets = λ beyond. subst (λ (os : List Operator). HasTargets m os (by_asked os beyond)) w.structure;
        deeds = λ results beyond. subst (λ (os : List Operator). HasDeeds m results os (by_asked os beyond)) w.structure;
      })
    where
      go : (p : Reached) → FollowsEnd [] p p
      go (At k labels stack s) = ([], refl, sym (no_globals s))
      go (Done o) = ([], refl, sym (none_more o))
