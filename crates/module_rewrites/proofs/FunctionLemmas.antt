-- A function of a module: what is spelled at its entry.
use Rattle.std.proofs.Common.{◌≡◌, ℕ, ◌+◌, List, Some, sym, subst, ◌∙◌}
use Rattle.std.specs.Prelude.{slice_get, slice_range}
use Rattle.std.proofs.lemmas.Option.{same_Some}
use Rattle.wasm_code.specs.Body.{SpellsCode}
use Rattle.wasm_code.specs.declared.operator.Operator.{Operator}
use Rattle.wasm_types.specs.Module.{Module}
use Rattle.wasm_types.specs.declared.types.PrimitiveTypeInfo.{PrimitiveTypeInfo}
use Rattle.wasm_lists.specs.declared.entries.Entry.{Entry}
use Rattle.wasm_lists.specs.Locals.{SpellsLocals}
use Rattle.wasm_module.specs.Module.{Layout}
use Rattle.module_rewrites.specs.Function.{IsFunction, parameters_of}

-- what a function's entry spells, with the entry and the parameters that were found
pub spelled_there : (bytes : List ℕ) (info : Module) (layout : Layout) (n : ℕ) (entry : Entry) (params : List PrimitiveTypeInfo) (contents : List ℕ)
    → slice_get layout.entries n ≡ Some entry → parameters_of info (layout.imported_functions + n) ≡ Some params
    → contents ≡ slice_range bytes entry.contents entry.end
    → (locals : List PrimitiveTypeInfo) (expression : ℕ) (operators : List (Operator × ℕ)) → IsFunction bytes info layout n locals expression operators
    → SpellsLocals params entry.contents contents locals expression × SpellsCode expression (slice_range bytes expression entry.end) operators
spelled_there bytes info layout n entry params contents at pars are locals expression operators f =
    let same : f.entry ≡ entry = same_Some _ _ (sym f.is.at ∙ at) in
    let alike : f.params ≡ params = same_Some _ _ (sym f.is.parameters ∙ pars) in (
      subst (λ (text : List ℕ). SpellsLocals params entry.contents text locals expression) (sym are)
          (subst (λ (e : Entry). SpellsLocals params e.contents (slice_range bytes e.contents e.end) locals expression) same
          (subst (λ (ps : List PrimitiveTypeInfo). SpellsLocals ps f.entry.contents (slice_range bytes f.entry.contents f.entry.end) locals expression)
          alike f.locals_are)),
      subst (λ (e : Entry). SpellsCode expression (slice_range bytes expression e.end) operators) same f.body,
    )
