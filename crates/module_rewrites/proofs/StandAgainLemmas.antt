-- The functions of a module that was read again with another body in one of its code entries.
use Rattle.std.proofs.Common.{◌≡◌, ℕ, ◌+◌, inl, inr, Bool, if◌then◌else◌, List, ◌++◌, Option, Some, None, refl, sym, ap, ap₂, subst, ◌∙◌, arith}
use Rattle.std.specs.Prelude.{◌≢◌, option_map, slice_get, slice_range}
use Rattle.std.proofs.lemmas.Bool.Decides.{eqb_tells}
use Rattle.std.proofs.lemmas.Option.{same_Some}
use Rattle.wasm_code.specs.Body.{SpellsAll}
use Rattle.wasm_code.specs.declared.operator.Operator.{Operator}
use Rattle.wasm_types.specs.Module.{Module}
use Rattle.wasm_types.specs.declared.types.PrimitiveTypeInfo.{PrimitiveTypeInfo}
use Rattle.wasm_lists.specs.Locals.{SpellsLocals}
use Rattle.wasm_lists.specs.declared.entries.Entry.{Entry}
use Rattle.wasm_module.specs.Module.{Layout}
use Rattle.wasm_module.specs.Reread.{HasContents}
use Rattle.wasm_equivalence.specs.hosts.Embedder.{Functions, Beyonds, with_operators, with_function}
use Rattle.wasm_equivalence.specs.modules.Program.{Body}
use Rattle.wasm_equivalence.specs.control.Wider.{wider_module}
use Rattle.body_splices.specs.OwnBytes.{own_bytes, without_offsets}
use Rattle.module_rewrites.specs.Structure.{asking_operators, HasAsking, HasLabels, AreLabelled, texts_of}
use Rattle.module_rewrites.specs.Function.{IsFunction}
use Rattle.module_rewrites.specs.ReadAgain.{HasFunction, IsReadAgain}
use Rattle.module_rewrites.specs.DoesAsBefore.{IsBodyOf, AreFunctions, CannotRead}
use Rattle.module_rewrites.specs.StandAgain.{FunctionsStandAgain}

-- that a text has one reading
pub record OneReading : Type 0 where
  pub locals : (params : List PrimitiveTypeInfo) (start : ℕ) (text : List ℕ) (types others : List PrimitiveTypeInfo) (expression place : ℕ) →
      SpellsLocals params start text types expression → SpellsLocals params start text others place → (types ≡ others) × (expression ≡ place)
  pub operators : (xs ys : List (Operator × ℕ)) (start : ℕ) (text : List ℕ) → SpellsAll xs start text → SpellsAll ys start text → xs ≡ ys

-- ---- one function has one reading

pub one_body : OneReading → (bytes : List ℕ) (info : Module) (layout : Layout) (n : ℕ) (locals types : List PrimitiveTypeInfo) (expression other : ℕ)
    (operators located : List (Operator × ℕ)) → IsFunction bytes info layout n locals expression operators →
    IsFunction bytes info layout n types other located → (locals ≡ types) × (operators ≡ located)
one_body one bytes info layout n locals types expression other operators located f g =
    let entry : g.entry ≡ f.entry = same_Some _ _ (sym g.is.at ∙ f.is.at) in
    let params : g.params ≡ f.params = same_Some _ _ (sym g.is.parameters ∙ f.is.parameters) in
    let there : SpellsLocals f.params f.entry.contents (slice_range bytes f.entry.contents f.entry.end) types other =
    subst (λ (p : Entry × List PrimitiveTypeInfo). SpellsLocals p.1 p.0.contents (slice_range bytes p.0.contents p.0.end) types other)
    (ap₂ (λ (e : Entry) (ps : List PrimitiveTypeInfo). (e, ps)) entry params) g.locals_are in
    let (same, place) = one.locals f.params f.entry.contents (slice_range bytes f.entry.contents f.entry.end) locals types expression other
    f.locals_are there in
    let all : SpellsAll located expression (slice_range bytes expression f.entry.end) =
    subst (λ (p : ℕ × Entry). SpellsAll located p.0 (slice_range bytes p.0 p.1.end)) (ap₂ (λ (k : ℕ) (e : Entry). (k, e)) (sym place) entry) g.body.all in
    (same, one.operators operators located expression (slice_range bytes expression f.entry.end) f.body.all all)

one_function : OneReading → (bytes : List ℕ) (info : Module) (layout : Layout) (n : ℕ) (locals types : List PrimitiveTypeInfo) (expression : ℕ)
    (operators : List (Operator × ℕ)) (body : List Operator) → IsFunction bytes info layout n locals expression operators →
    HasFunction bytes info layout n types body → (locals ≡ types) × (without_offsets operators ≡ body)
one_function one bytes info layout n locals types expression operators body f h =
    let (same, located) = one_body one bytes info layout n locals types expression h.expression operators h.located f h.is in
    (same, ap without_offsets located ∙ h.are)

-- so have its operators that ask more
one_asking : OneReading → (bytes : List ℕ) (info : Module) (layout : Layout) (n : ℕ) (xs ys : List (Operator × List ℕ)) →
    HasAsking bytes info layout n xs → HasAsking bytes info layout n ys → xs ≡ ys
one_asking one bytes info layout n xs ys f g =
    let (same, located) = one_body one bytes info layout n f.locals g.locals f.expression g.expression f.located g.located f.is g.is in
    sym f.are ∙ (ap (λ (os : List (Operator × ℕ)). asking_operators (own_bytes bytes os)) located ∙ g.are)

-- ---- a function with another body among the others

module _ (one : OneReading) {bytes : List ℕ} {info : Module} {layout : Layout} {n : ℕ} {locals : List PrimitiveTypeInfo} {expression : ℕ}
    {operators : List (Operator × ℕ)} {written : List Operator} {more : List PrimitiveTypeInfo} {new : List ℕ}
    (function : IsFunction bytes info layout n locals expression operators) (r : IsReadAgain bytes info layout n locals written more new) where
  abbrev pub index : ℕ
  index = layout.imported_functions + n

  -- what the function had
  pub own_body : (b : Body) → IsBodyOf bytes info layout index b → (locals ≡ b.params ++ b.locals) × (without_offsets operators ≡ b.operators)
  own_body b h =
      let same : h.n ≡ n = let e = h.index in omega (arith, e) in
      let there = subst (λ (k : ℕ). HasFunction bytes info layout k (b.params ++ b.locals) b.operators) same h.function in
      one_function one bytes info layout n locals (b.params ++ b.locals) expression operators b.operators function there

  -- operators that ask more had their bytes before
  pub had_before : (k : ℕ) (texts : List (Operator × List ℕ)) → HasAsking new (wider_module new more info) r.again k texts →
      HasAsking bytes info layout k texts
  had_before k texts h = elim (eqb_tells k n) [
    | inl (is, same) ↦
        let here = subst (λ (i : ℕ). HasAsking new (wider_module new more info) r.again i texts) same h in
        let alike : r.asking ≡ texts =
        one_asking one new (wider_module new more info) r.again n r.asking texts r.has here in
        subst (λ (i : ℕ). HasAsking bytes info layout i texts) (sym same) (subst (HasAsking bytes info layout n) alike r.had)
    | inr (is, differ) ↦ (r.others_have k texts differ).1 h
  ]

  pub labels_stay : (beyonds : Beyonds) → AreLabelled bytes info layout beyonds → AreLabelled new (wider_module new more info) r.again beyonds
  labels_stay beyonds labelled k texts h =
      subst (λ (i : ℕ). HasLabels (texts_of texts) (beyonds (i + k))) (sym r.imported) (labelled k texts (had_before k texts h))

  pub unread_stay : (k : ℕ) (entry : Entry) → slice_get layout.entries k ≡ Some entry → CannotRead bytes info layout k →
      HasContents new r.again.entries k (slice_range bytes entry.contents entry.end)
  unread_stay k entry at cannot = elim (eqb_tells k n) [
    | inl (is, same) ↦ absurd (subst (CannotRead bytes info layout) same cannot locals expression operators function)
    | inr (is, differ) ↦ r.contents k entry differ at
  ]

  module _ (old : Functions) (are : AreFunctions bytes info layout old) where
    pub all_functions : AreFunctions new (wider_module new more info) r.again (with_function old index written)
    all_functions f b k = elim (eqb_tells f index) [
      | inl (is, same) ↦
          let there : option_map (with_operators written) (old f) ≡ Some b =
          subst (λ (x : Bool). (if x then option_map (with_operators written) (old f) else old f) ≡ Some b) is k in
          go (old f) refl there same
      | inr (is, differ) ↦
          let there : old f ≡ Some b =
          subst (λ (x : Bool). (if x then option_map (with_operators written) (old f) else old f) ≡ Some b) is k in
          other (are f b there) differ
    ]
      where
        go : (o : Option Body) → old f ≡ o → option_map (with_operators written) o ≡ Some b → f ≡ index →
            IsBodyOf new (wider_module new more info) r.again f b
        go None k e same = absurd cc
        go (Some c) k e same =
            let own = are f c k in
            let number : own.n ≡ n = let i = own.index in omega (arith, i, same) in
            let (locals, operators) = one_function one bytes info layout n locals (c.params ++ c.locals) expression operators c.operators function
            (subst (λ (x : ℕ). HasFunction bytes info layout x (c.params ++ c.locals) c.operators) number own.function) in
            subst (IsBodyOf new (wider_module new more info) r.again f) (same_Some (with_operators written c) b e) (record {
              n = n;
              index = same ∙ ap (λ (x : ℕ). x + n) (sym r.imported);
              params = own.params;
              function = subst (λ (ts : List PrimitiveTypeInfo). HasFunction new (wider_module new more info) r.again n ts written) locals
                  r.function;
            })

        other : IsBodyOf bytes info layout f b → f ≢ index → IsBodyOf new (wider_module new more info) r.again f b
        other own differ = record {
          n = own.n;
          index = own.index ∙ ap (λ (x : ℕ). x + own.n) (sym r.imported);
          params = own.params;
          function = (r.others own.n (b.params ++ b.locals) b.operators
              (λ e. differ (own.index ∙ ap (λ (x : ℕ). layout.imported_functions + x) e))).0 own.function;
        }

-- ---- all of it

pub stand_again : OneReading → FunctionsStandAgain
stand_again one bytes info layout n locals expression located operators more new f r old are = record {
  functions = all_functions one f r old are;
  own = own_body one f r;
  labels = labels_stay one f r;
}
