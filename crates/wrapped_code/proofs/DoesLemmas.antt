-- A function in which instructions were replaced by wrapped code does as it did, and so does its module.
use Rattle.std.proofs.Common.{◌≡◌, ℕ, List, [], ◌∷◌, ◌++◌, Some, refl, sym, ap, ap₂, ◌∙◌, subst}
use Rattle.std.specs.Prelude.{map}
use Rattle.std.proofs.lemmas.Option.{same_Some}
use Rattle.wasm_code.specs.Instruction.{Instruction}
use Rattle.wasm_code.specs.declared.operator.Operator.{Operator}
use Rattle.wasm_code.specs.declared.operator.Operator.TheVariants as op
use Rattle.wasm_types.specs.Module.{Module}
use Rattle.wasm_types.specs.declared.types.PrimitiveTypeInfo.{PrimitiveTypeInfo}
use Rattle.wasm_execution.specs.Values.{Context}
use Rattle.wasm_equivalence.specs.control.Function.{structural, EndsAlike}
use Rattle.wasm_equivalence.specs.modules.Program.{Body, function_context}
use Rattle.wasm_equivalence.specs.control.Standard.{Beyond, by_asked, standard}
use Rattle.wasm_equivalence.specs.validation.Sound.{IsValid, HasTargets, HasDeeds, TargetsStay, DeedsStay}
use Rattle.wasm_equivalence.specs.validation.StaysValid.{MoreGlobalsCheckAlike}
use Rattle.wasm_equivalence.specs.control.Wider.{wider_module, wider}
use Rattle.wasm_equivalence.specs.control.Laws.{StandardControlIsSound}
use Rattle.wasm_equivalence.specs.hosts.Embedder.{DoesAs, Functions, with_operators, with_function, DoAsFunctions}
use Rattle.wasm_equivalence.specs.hosts.EmbedderLaws.{OneFunctionRewritten, ValidModulesDoMore, ValidModulesStayValid}
use Rattle.wrapped_code.specs.Wrapped.{written}
use Rattle.wrapped_code.specs.Handlers.{none_handle}
use Rattle.wrapped_code.specs.Laws.{Wraps, WrappedCodeDoes, WrappedModulesDoMore, WrappedModulesStayValid}
use Rattle.wrapped_code.proofs.PlaceLemmas.{bones, past, coded_structure, written_structure, bones_append, past_counts, count, front_structure}
use Rattle.wrapped_code.proofs.HandlerLemmas.{NoHandler, no_handler}
use Rattle.wrapped_code.proofs.TableLemmas.{no_tables}
use Rattle.wrapped_code.proofs.BetweenLemmas.{targets_with, deeds_with}
use Rattle.wrapped_code.proofs.WrapLemmas.{wrapped_alike}
use Rattle.wrapped_code.proofs.CheckLemmas.{wrapped_valid}

-- ---- a function

module _ (law : StandardControlIsSound) (alike_law : MoreGlobalsCheckAlike) (targets_stay : TargetsStay) (deeds_stay : DeedsStay) (m : Module)
    (input : List ℕ) (more : List PrimitiveTypeInfo) (old new : Body) (w : Wraps m input more old new) where
  abbrev context : Context
  context = function_context m old

  abbrev old_body : List Operator
  old_body = w.front ++ (map (λ (i : Instruction). op.Instr i) (w.head ∷ w.own) ++ w.back)

  abbrev new_body : List Operator
  new_body = w.front ++ written w.code w.back

  unhandled : NoHandler (structural old_body)
  unhandled = no_handler old_body (ap none_handle (sym w.old_is) ∙ w.unhandled)

  abbrev xs : List Operator
  xs = structural w.front

  abbrev middle : List Operator
  middle = bones w.code []

  abbrev ys : List Operator
  ys = structural w.back

  abbrev n : ℕ
  n = count w.front

  old_structure : structural old_body ≡ xs ++ ys
  old_structure =
      front_structure w.front (map (λ (i : Instruction). op.Instr i) (w.head ∷ w.own) ++ w.back) ∙
      ap (λ os. xs ++ os) (coded_structure (w.head ∷ w.own) w.back)

  new_structure : structural new_body ≡ xs ++ (middle ++ ys)
  new_structure =
      front_structure w.front (written w.code w.back) ∙ ap (λ os. xs ++ os) (written_structure w.code w.back ∙ bones_append w.code [] ys)

  alike : (results : List PrimitiveTypeInfo) (beyond : Beyond) →
      EndsAlike context more (standard m results (structural old_body) (by_asked (structural old_body) beyond))
      (standard m results (structural new_body) (by_asked (structural new_body) beyond)) old_body new_body
  alike results beyond = wrapped_alike context law more results beyond w.front w.back (w.head ∷ w.own) w.code w.runs unhandled

  valid : (results : List PrimitiveTypeInfo) (beyond : Beyond) → IsValid context results (by_asked (structural old_body) beyond) old_body →
      IsValid (wider input more context) results (by_asked (structural new_body) beyond) new_body
  valid results beyond = wrapped_valid alike_law input more context results beyond w.front w.back w.head w.own w.code w.checks

  targets : (beyond : Beyond) → HasTargets m (structural old_body) (by_asked (structural old_body) beyond) →
      HasTargets (wider_module input more m) (structural new_body) (by_asked (structural new_body) beyond)
  targets beyond h =
      targets_stay m input more (structural new_body) (by_asked (structural new_body) beyond)
      (subst (λ (os : List Operator). HasTargets m os (by_asked os beyond)) (sym new_structure)
      (targets_with xs middle ys n (past w.code 0) refl (past_counts w.code []) (no_tables w.code []) m beyond
      (subst (λ (os : List Operator). HasTargets m os (by_asked os beyond)) old_structure h)))

  deeds : (results : List PrimitiveTypeInfo) (beyond : Beyond) → HasDeeds m results (structural old_body) (by_asked (structural old_body) beyond) →
      HasDeeds (wider_module input more m) results (structural new_body) (by_asked (structural new_body) beyond)
  deeds results beyond h =
      deeds_stay m input more results (structural new_body) (by_asked (structural new_body) beyond)
      (subst (λ (os : List Operator). HasDeeds m results os (by_asked os beyond)) (sym new_structure)
      (deeds_with xs middle ys n (past w.code 0) refl (past_counts w.code []) (no_tables w.code []) m beyond results (subst NoHandler old_structure unhandled)
      (subst (λ (os : List Operator). HasDeeds m results os (by_asked os beyond)) old_structure h)))

  does_same : DoesAs m input more old new
  does_same = record {
    params_are = w.params_are;
    locals_are = w.locals_are;
    alike = λ results beyond. subst (λ (x : List Operator × List Operator). EndsAlike context more
        (standard m results (structural x.0) (by_asked (structural x.0) beyond)) (standard m results (structural x.1) (by_asked (structural x.1) beyond))
        x.0 x.1) are (alike results beyond);
    valid = λ results beyond. subst (λ (x : List Operator × List Operator). IsValid context results (by_asked (structural x.0) beyond) x.0 →
        IsValid (wider input more context) results (by_asked (structural x.1) beyond) x.1) are (valid results beyond);
    targets = λ beyond. subst (λ (x : List Operator × List Operator). HasTargets m (structural x.0) (by_asked (structural x.0) beyond) →
        HasTargets (wider_module input more m) (structural x.1) (by_asked (structural x.1) beyond)) are (targets beyond);
    deeds = λ results beyond. subst (λ (x : List Operator × List Operator). HasDeeds m results (structural x.0) (by_asked (structural x.0) beyond) →
        HasDeeds (wider_module input more m) results (structural x.1) (by_asked (structural x.1) beyond)) are (deeds results beyond);
  }
    where
      are : ◌≡◌ {A = List Operator × List Operator} (old_body, new_body) (old.operators, new.operators)
      are = ap₂ (λ (x y : List Operator). (x, y)) (sym w.old_is) (sym w.new_is)

pub wrapped_does : StandardControlIsSound → MoreGlobalsCheckAlike → TargetsStay → DeedsStay → WrappedCodeDoes
wrapped_does law alike_law targets_stay deeds_stay m input more old new w = does_same law alike_law targets_stay deeds_stay m input more old new w

-- ---- a module

all_do : WrappedCodeDoes → OneFunctionRewritten → (m : Module) (input : List ℕ) (more : List PrimitiveTypeInfo) (functions : Functions) (f : ℕ)
    (b : Body) (operators : List Operator) → functions f ≡ Some b → Wraps m input more b (with_operators operators b) →
    DoAsFunctions m input more functions (with_function functions f operators)
all_do law one m input more functions f b operators e w =
    one m input more functions f operators
    (λ c k. let same : b ≡ c = same_Some b c (sym e ∙ k) in
    subst (λ (x : Body). DoesAs m input more x (with_operators operators x)) same (law m input more b (with_operators operators b) w))

pub wrapped_more : WrappedCodeDoes → OneFunctionRewritten → ValidModulesDoMore → WrappedModulesDoMore
wrapped_more law one more_law m input more e beyonds functions f b operators sound valid at w =
    more_law m input more e beyonds functions (with_function functions f operators) sound valid
    (all_do law one m input more functions f b operators at w)

pub wrapped_stays : WrappedCodeDoes → OneFunctionRewritten → ValidModulesStayValid → WrappedModulesStayValid
wrapped_stays law one valid_law m input more beyonds functions f b operators valid at w =
    valid_law m input more beyonds functions (with_function functions f operators) valid (all_do law one m input more functions f b operators at w)
