-- A changed module is valid where it was.
use Rattle.std.proofs.Common.{◌≡◌, ℕ, ◌+◌, inl, inr, Bool, false, if◌then◌else◌, List, [], ◌∷◌, ◌++◌, Option, Some, None, refl, sym, ap, ap₂, subst, ◌∙◌}
use Rattle.std.proofs.Common.{append-nil}
use Rattle.std.specs.Prelude.{⊤, option_map}
use Rattle.std.proofs.lemmas.Bool.Decides.{eqb_tells}
use Rattle.rand_core.specs.Stream.{Stream}
use Rattle.wasm_code.specs.declared.operator.Operator.{Operator}
use Rattle.wasm_types.specs.Module.{Module}
use Rattle.wasm_types.specs.declared.types.PrimitiveTypeInfo.{PrimitiveTypeInfo}
use Rattle.wasm_module.specs.Module.{Layout, IsModule}
use Rattle.wasm_execution.specs.Values.{context_in}
use Rattle.wasm_equivalence.specs.control.Function.{structural}
use Rattle.wasm_equivalence.specs.control.Standard.{by_asked}
use Rattle.wasm_equivalence.specs.control.Wider.{wider_module, wider}
use Rattle.wasm_equivalence.specs.hosts.Embedder.{Functions, Beyonds, arity_at, IsValidFunction, AreValid, with_operators, with_function}
use Rattle.wasm_equivalence.specs.modules.Program.{Body, function_context}
use Rattle.wasm_equivalence.specs.validation.Sound.{IsValid, HasDeeds, HasTargets, ValidBodiesStayValid, TargetsStay, DeedsStay}
use Rattle.wasm_equivalence.specs.validation.StaysValid.{StaysValid, MoreGlobalsCheckAlike}
use Rattle.body_splices.specs.OwnBytes.{without_offsets}
use Rattle.module_rewrites.specs.DoesAsBefore.{AreFunctions, IsBodyOf}
use Rattle.module_rewrites.specs.StandAgain.{FunctionsStandAgain, StandAgain}
use Rattle.module_rewrites.specs.Structure.{AreLabelled}
use Rattle.module_changes.specs.Changed.{MakesChange}
use Rattle.module_changes.specs.Chosen.{ChoosesOne}
use Rattle.module_changes.specs.Scope.{Choice, Scope}
use Rattle.module_changes.specs.Spliced.{SplicesOne}
use Rattle.module_changes.specs.Times.{ChoosesEachChange}
use Rattle.module_changes.specs.Valid.{with_bytes, IsValidAfter, SameKind, StaysValidModule}
use Rattle.module_changes.specs.declared.entry.MadeChange.{MadeChange}

-- ---- what is known

pub record OfValidity : Type 0 where
  pub one : (bytes : List ℕ) (info other : Module) (layout place : Layout) → IsModule bytes info layout → IsModule bytes other place →
      info.exact ≡ other.exact → (info ≡ other) × (layout ≡ place)
  pub again : FunctionsStandAgain
  pub bodies : ValidBodiesStayValid
  pub targets : TargetsStay
  pub deeds : DeedsStay
  pub more : MoreGlobalsCheckAlike

-- ---- functions that stay valid

-- the second one is of the same kind, and valid where the first one is
record Stays (m : Module) (input : List ℕ) (old new : Body) : Type 0 where
  pub params_are : old.params ≡ new.params
  pub locals_are : old.locals ≡ new.locals
  pub stays : StaysValid (function_context m old) (wider input [] (function_context m old)) old.operators new.operators

abbrev BothStay : Module → (input : List ℕ) → Option Body → Option Body → Type 0
BothStay m input (Some old) (Some new) = Stays m input old new
BothStay m input None None = ⊤
BothStay m input old new = ⊥

same_kind : (m : Module) (input : List ℕ) (o n : Option Body) → BothStay m input o n → SameKind o n
same_kind m input (Some old) (Some new) s = (s.params_are, s.locals_are)
same_kind m input None None s = tt
same_kind m input (Some old) None s = s
same_kind m input None (Some new) s = s

stays_itself : OfValidity → (m : Module) (input : List ℕ) (o : Option Body) → BothStay m input o o
stays_itself law m input None = tt
stays_itself law m input (Some b) =
    record { params_are = refl; locals_are = refl; stays = law.more (function_context m b) input [] b.operators }

valid_after : OfValidity → (m : Module) (input : List ℕ) (old new : Functions) (beyonds : Beyonds) → ((f : ℕ) → BothStay m input (old f) (new f)) →
    AreValid m old beyonds → AreValid (wider_module input [] m) new beyonds
valid_after law m input old new beyonds same valid f c k = go (old f) refl (subst (BothStay m input (old f)) k (same f))
  where
    go : (o : Option Body) → old f ≡ o → BothStay m input o (Some c) → IsValidFunction (wider_module input [] m) f (beyonds f) c
    go None x d = absurd d
    go (Some b) x d =
        let v = valid f b x in
        let ends = (arity_at m f).ends in
        let structure = d.stays.structure in
        let locals : b.params ++ b.locals ≡ c.params ++ c.locals = ap₂ (λ (xs ys : List PrimitiveTypeInfo). xs ++ ys) d.params_are d.locals_are in
        record {
          params_are = sym d.params_are ∙ v.params_are;
          valid = subst (λ (os : List Operator). IsValid (context_in (wider_module input [] m) (c.params ++ c.locals)) ends (by_asked os (beyonds f))
              c.operators)
              structure
              (subst (λ (ts : List PrimitiveTypeInfo).
              IsValid (context_in (wider_module input [] m) ts) ends (by_asked (structural b.operators) (beyonds f)) c.operators) locals
              (law.bodies (function_context m b) input [] ends (by_asked (structural b.operators) (beyonds f)) b.operators c.operators v.valid d.stays));
          targets = subst (λ (os : List Operator). HasTargets (wider_module input [] m) os (by_asked os (beyonds f))) structure
              (law.targets m input [] (structural b.operators) (by_asked (structural b.operators) (beyonds f)) v.targets);
          deeds = subst (λ (os : List Operator). HasDeeds (wider_module input [] m) ends os (by_asked os (beyonds f))) structure
              (law.deeds m input [] ends (structural b.operators) (by_asked (structural b.operators) (beyonds f)) v.deeds);
        }

-- ---- a changed function among the others

module _ (law : OfValidity) {choice : Choice} {bytes : List ℕ} {info : Module} {layout : Layout} {words : List ℕ} {n : ℕ} {made : MadeChange}
    {new : List ℕ} (m : MakesChange choice bytes info layout words n made new) (old : Functions) (are : AreFunctions bytes info layout old) where
  abbrev written : List Operator
  written = without_offsets m.writes.code.replaced.spliced.again

  abbrev index : ℕ
  index = layout.imported_functions + n

  stand : StandAgain bytes info layout n m.writes.locals (without_offsets m.writes.operators) written [] new m.again.again old
  stand = law.again bytes info layout n m.writes.locals m.writes.expression m.writes.operators written [] new m.writes.function m.again old are

  changed_stays : (b : Body) → IsBodyOf bytes info layout index b → Stays info new b (with_operators written b)
  changed_stays b h =
      let (locals, operators) = stand.own b h in
      record {
        params_are = refl;
        locals_are = refl;
        stays = subst (λ (p : List PrimitiveTypeInfo × List Operator). StaysValid (context_in info p.0) (wider new [] (context_in info p.0)) p.1 written)
            (ap₂ (λ (ts : List PrimitiveTypeInfo) (os : List Operator). (ts, os)) locals operators) (m.writes.code.replaced.valid new []);
      }

  both_stay : (f : ℕ) → BothStay info new (old f) (with_function old index written f)
  both_stay f = elim (eqb_tells f index) [
    | inl (is, same) ↦
        subst (λ (x : Bool). BothStay info new (old f) (if x then option_map (with_operators written) (old f) else old f)) (sym is)
        (own (old f) refl same)
    | inr (is, differ) ↦
        subst (λ (x : Bool). BothStay info new (old f) (if x then option_map (with_operators written) (old f) else old f)) (sym is)
        (stays_itself law info new (old f))
  ]
    where
      own : (o : Option Body) → old f ≡ o → f ≡ index → BothStay info new o (option_map (with_operators written) o)
      own None k e = tt
      own (Some b) k e = changed_stays b (subst (λ (x : ℕ). IsBodyOf bytes info layout x b) e (are f b k))

  is_valid_after : IsValidAfter bytes info layout old new
  is_valid_after = record {
    again = m.again.again;
    is = m.again.is;
    functions = with_function old index written;
    are = stand.functions;
    same = λ f. same_kind info new (old f) (with_function old index written f) (both_stay f);
    valid = λ beyonds valid. valid_after law info new old (with_function old index written) beyonds both_stay valid;
    labels = stand.labels;
    imported = m.again.imported;
    indices = m.again.indices.0;
  }

-- whatever words and code to be copied there are
pub made_stays : OfValidity → {choice : Choice} (bytes new : List ℕ) (read : Module) (place : Layout) {words : List ℕ} {n : ℕ} {made : MadeChange} →
    IsModule bytes read place → read.exact ≡ false → MakesChange choice bytes read place words n made new → StaysValidModule bytes new
made_stays law {choice} bytes new read place {words} {n} {made} known exact m =
    record { functions = λ info layout old is mark are. go info layout old is mark are }
  where
    go : (info : Module) (layout : Layout) (old : Functions) → IsModule bytes info layout → info.exact ≡ false → AreFunctions bytes info layout old →
        IsValidAfter bytes info layout old new
    go info layout old is mark are =
        let (infos, layouts) = law.one bytes read info place layout known is (exact ∙ sym mark) in
        is_valid_after law
        (subst (λ (p : Module × Layout). MakesChange choice bytes p.0 p.1 words n made new)
        (ap₂ (λ (i : Module) (l : Layout). (i, l)) infos layouts) m) old are

pub one_stays : OfValidity → (scope : Scope) (bytes new : List ℕ) (s after : Stream) (made : MadeChange) → ChoosesOne scope bytes s made new after →
    StaysValidModule bytes new
one_stays law scope bytes new s after made m =
    made_stays law bytes new m.info m.layout m.is m.exact m.chooses.chooses.makes

pub spliced_stays : OfValidity → (scope : Scope) (bytes other new : List ℕ) (s after : Stream) (made : MadeChange) →
    SplicesOne scope bytes other s made new after → StaysValidModule bytes new
spliced_stays law scope bytes other new s after made m =
    made_stays law bytes new m.are.info m.are.layout m.are.is m.are.exact m.chooses.chooses.makes

-- ---- one after another

twice : (info : Module) (b c : List ℕ) → with_bytes c (with_bytes b info) ≡ with_bytes c info
twice info b c = ap (λ (gs : List PrimitiveTypeInfo). record info { input = c; globals = gs }) (append-nil (info.globals ++ []))

kinds_follow : (o m n : Option Body) → SameKind o m → SameKind m n → SameKind o n
kinds_follow (Some o) (Some m) (Some n) s t = (s.0 ∙ t.0, s.1 ∙ t.1)
kinds_follow None None None s t = tt
kinds_follow (Some o) None n s t = absurd s
kinds_follow None (Some m) n s t = absurd s
kinds_follow None None (Some n) s t = absurd t
kinds_follow (Some o) (Some m) None s t = absurd t

pub stays_follow : (a b c : List ℕ) → StaysValidModule a b → StaysValidModule b c → StaysValidModule a c
stays_follow a b c h k = record { functions = λ info layout old is mark are. go info layout old mark (h.functions info layout old is mark are) }
  where
    go : (info : Module) (layout : Layout) (old : Functions) → info.exact ≡ false → IsValidAfter a info layout old b → IsValidAfter a info layout old c
    go info layout old mark x =
        let y = k.functions (with_bytes b info) x.again x.functions x.is mark x.are in
        let both = twice info b c in
        record {
          again = y.again;
          is = subst (λ (m : Module). IsModule c m y.again) both y.is;
          functions = y.functions;
          are = subst (λ (m : Module). AreFunctions c m y.again y.functions) both y.are;
          same = λ f. kinds_follow (old f) (x.functions f) (y.functions f) (x.same f) (y.same f);
          valid = λ beyonds v. subst (λ (m : Module). AreValid m y.functions beyonds) both (y.valid beyonds (x.valid beyonds v));
          labels = λ beyonds l. subst (λ (m : Module). AreLabelled c m y.again beyonds) both (y.labels beyonds (x.labels beyonds l));
          imported = y.imported ∙ x.imported;
          indices = λ i. x.indices (y.indices i);
        }

-- ---- as it is

same_bytes : (bytes : List ℕ) (info : Module) (layout : Layout) → IsModule bytes info layout → info ≡ with_bytes bytes info
same_bytes bytes info layout is = λ i. record info { input = is.input i; globals = sym (append-nil info.globals) i }

kinds_same : (o : Option Body) → SameKind o o
kinds_same None = tt
kinds_same (Some b) = (refl, refl)

pub stays_as_it_is : (bytes : List ℕ) → StaysValidModule bytes bytes
stays_as_it_is bytes = record { functions = λ info layout old is mark are. go info layout old is are }
  where
    go : (info : Module) (layout : Layout) (old : Functions) → IsModule bytes info layout → AreFunctions bytes info layout old →
        IsValidAfter bytes info layout old bytes
    go info layout old is are =
        let same = same_bytes bytes info layout is in
        record {
          again = layout;
          is = subst (λ (m : Module). IsModule bytes m layout) same is;
          functions = old;
          are = subst (λ (m : Module). AreFunctions bytes m layout old) same are;
          same = λ f. kinds_same (old f);
          valid = λ beyonds v. subst (λ (m : Module). AreValid m old beyonds) same v;
          labels = λ beyonds l. subst (λ (m : Module). AreLabelled bytes m layout beyonds) same l;
          imported = refl;
          indices = λ i. i;
        }

-- ---- several times

pub each_stays : OfValidity → (scope : Scope) (bytes new : List ℕ) (s after : Stream) (made : List MadeChange) →
    ChoosesEachChange scope bytes s made new after → StaysValidModule bytes new
each_stays law scope bytes new s after [] h = subst (StaysValidModule bytes) (sym h.0) (stays_as_it_is bytes)
each_stays law scope bytes new s after (m ∷ made) h =
    stays_follow bytes h.0 new (one_stays law scope bytes h.0 s h.1 m h.2) (each_stays law scope h.0 new h.1 after made h.3)
