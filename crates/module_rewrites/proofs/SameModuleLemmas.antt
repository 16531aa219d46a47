-- Other bytes that are the same module do what it does.
use Rattle.std.proofs.Common.{◌≡◌, ℕ, Bool, ◌+◌, List, [], ◌++◌, Some, arith, refl, sym, ap, ap₂, subst, ◌∙◌, append-nil}
use Rattle.std.specs.Prelude.{slice_get, slice_range}
use Rattle.std.proofs.lemmas.Option.{same_Some}
use Rattle.wasm_code.specs.declared.operator.Operator.{Operator}
use Rattle.wasm_types.specs.Module.{Module}
use Rattle.wasm_types.specs.declared.types.PrimitiveTypeInfo.{PrimitiveTypeInfo}
use Rattle.wasm_sections.specs.Debug.{IsWithoutDebug}
use Rattle.wasm_sections.specs.Section.{SpellsModule}
use Rattle.wasm_sections.specs.declared.section.Section.{Section}
use Rattle.wasm_lists.specs.declared.entries.Entry.{Entry}
use Rattle.wasm_module.specs.Instance.{Making, IsMadeOf, with_more_globals}
use Rattle.wasm_module.specs.Module.{Layout, IsModule}
use Rattle.wasm_module.specs.Reread.{HasContents}
use Rattle.wasm_module.specs.SameModule.{IsSameModule}
use Rattle.wasm_equivalence.specs.hosts.Embedder.{Functions, Beyonds}
use Rattle.wasm_equivalence.specs.control.Wider.{wider_module}
use Rattle.body_splices.specs.Laws.{OwnBytesStay}
use Rattle.module_rewrites.specs.DoesAsBefore.{AreFunctions, IsModuleAfter, DoesAsBefore}
use Rattle.module_rewrites.specs.Function.{KnowsIndices, parameters_of}
use Rattle.module_rewrites.specs.Structure.{HasAsking, HasLabels, AreLabelled, texts_of}
use Rattle.module_rewrites.proofs.DoesAsBeforeLemmas.{OfPrograms, do_as_before}
use Rattle.module_rewrites.proofs.ReadAgainLemmas.{get_as_long, function_moved, asking_moved}

module _ (law : OfPrograms) (stay : OwnBytesStay) {bytes : List ℕ} {info : Module} {layout : Layout} {new : List ℕ}
    (s : IsSameModule bytes info layout new) where
  abbrev other : Module
  other = wider_module new [] info

  indices : KnowsIndices layout → KnowsIndices s.again
  indices h = record { imports = s.imports.0 h.imports; globals = s.globals.0 h.globals }

  indices_back : KnowsIndices s.again → KnowsIndices layout
  indices_back h = record { imports = s.imports.1 h.imports; globals = s.globals.1 h.globals }

  same_parameters : (k : ℕ) → parameters_of other (s.again.imported_functions + k) ≡ parameters_of info (layout.imported_functions + k)
  same_parameters k = ap (λ (i : ℕ). parameters_of info (i + k)) s.imported

  are_there : (functions : Functions) → AreFunctions bytes info layout functions → AreFunctions new other s.again functions
  are_there functions are f b is =
      let own = are f b is in
      let h = own.function in
      record {
        n = own.n;
        index = own.index ∙ ap (λ (i : ℕ). i + own.n) (sym s.imported);
        params = own.params;
        function = function_moved bytes info layout new other s.again own.n (b.params ++ b.locals) b.operators (indices h.is.is.indices)
            (same_parameters own.n) h (s.entries own.n h.is.entry h.is.is.at);
      }

  contents_back : (k : ℕ) (entry : Entry) → slice_get s.again.entries k ≡ Some entry →
      HasContents bytes layout.entries k (slice_range new entry.contents entry.end)
  contents_back k entry here =
      let (old, at) = get_as_long s.again.entries layout.entries k entry s.count here in
      let there = s.entries k old at in
      let same : there.entry ≡ entry = same_Some _ _ (sym there.at ∙ here) in
      record { entry = old; at = at; text_is = sym (there.text_is ∙ ap (λ (e : Entry). slice_range new e.contents e.end) same) }

  had_before : (k : ℕ) (texts : List (Operator × List ℕ)) → HasAsking new other s.again k texts → HasAsking bytes info layout k texts
  had_before k texts h =
      asking_moved stay new other s.again bytes info layout k texts (indices_back h.is.is.indices) (sym (same_parameters k)) h
      (contents_back k h.is.entry h.is.is.at)

  labels_there : (beyonds : Beyonds) → AreLabelled bytes info layout beyonds → AreLabelled new other s.again beyonds
  labels_there beyonds labelled k texts h =
      subst (λ (i : ℕ). HasLabels (texts_of texts) (beyonds (i + k))) (sym s.imported) (labelled k texts (had_before k texts h))

  made_there : ((making : Making) → IsMadeOf bytes layout.sections making → IsMadeOf new s.again.sections making) →
      (making : Making) → IsMadeOf bytes layout.sections making → IsMadeOf new s.again.sections (with_more_globals [] making)
  made_there alike making is =
      subst (IsMadeOf new s.again.sections) (ap₂ (λ (n : ℕ) (x : List ℕ). record making { count = n; globals = x })
      (let none : making.count ≡ making.count + 0 = omega arith in none) (sym (append-nil making.globals))) (alike making is)

  pub same_does : ((making : Making) → IsMadeOf bytes layout.sections making → IsMadeOf new s.again.sections making) → (functions : Functions) →
      AreFunctions bytes info layout functions → IsModuleAfter bytes info layout functions new
  same_does alike functions are = record {
    more = [];
    again = s.again;
    is = subst (λ (gs : List PrimitiveTypeInfo). IsModule new (record info { input = new; globals = gs }) s.again) (sym (append-nil info.globals)) s.is;
    functions = functions;
    are = are_there functions are;
    after = do_as_before law info new [] functions functions (law.themselves info new [] functions);
    imported = s.imported;
    indices = indices_back;
    asking = had_before;
    labels = labels_there;
    unread = λ n entry at cannot. s.entries n entry at;
    made = made_there alike;
  }

-- as the bytes themselves are
itself : {bytes : List ℕ} {info : Module} {layout : Layout} → IsModule bytes info layout → IsSameModule bytes info layout bytes
itself {bytes} {info} {layout} is = record {
  again = layout;
  is = subst (λ (b : List ℕ). IsModule bytes (record info { input = b }) layout) is.input is;
  imported = refl;
  count = refl;
  imports = (λ e. e, λ e. e);
  globals = (λ e. e, λ e. e);
  entries = λ k old at. record { entry = old; at = at; text_is = refl };
}

pub does_itself : OfPrograms → OwnBytesStay → (exact : Bool) (bytes : List ℕ) → DoesAsBefore exact bytes bytes
unfolding itself
does_itself law stay exact bytes = record {
  functions = λ info layout old is mark are. same_does law stay (itself is) (λ making m. m) old are;
}

-- what is known of modules without their sections for debuggers
pub record OfStripped : Type 0 where
  pub one : (bytes : List ℕ) (xs ys : List Section) → SpellsModule bytes xs → SpellsModule bytes ys → xs ≡ ys
  pub same : (bytes : List ℕ) (info : Module) (layout : Layout) (new : List ℕ) → IsModule bytes info layout → IsWithoutDebug bytes layout.sections new →
      IsSameModule bytes info layout new
  pub made : (bytes new : List ℕ) (sections left : List Section) (making : Making) → IsWithoutDebug bytes sections new → SpellsModule new left →
      IsMadeOf bytes sections making → IsMadeOf new left making

pub does_stripped : OfPrograms → OwnBytesStay → OfStripped → (exact : Bool) (bytes new : List ℕ) (sections : List Section) →
    SpellsModule bytes sections → IsWithoutDebug bytes sections new → DoesAsBefore exact bytes new
does_stripped law stay of exact bytes new sections spells without = record {
  functions = λ info layout old is mark are.
      let there : IsWithoutDebug bytes layout.sections new =
      subst (λ (ss : List Section). IsWithoutDebug bytes ss new) (of.one bytes sections layout.sections spells is.spells) without in
      let s = of.same bytes info layout new is there in
      same_does law stay s (λ making made. of.made bytes new layout.sections s.again.sections making there s.is.spells made) old are;
}
