-- Modules of valid functions, in a sound embedder.
use Rattle.std.proofs.Common.{◌≡◌, ℕ, List, [], ◌++◌, Option, Some, None, refl, sym, ap, ap₂, ◌∙◌, subst, Bool, true, false}
use Rattle.std.specs.Prelude.{◌≢◌, ◌==◌, if◌then◌else◌, option_map}
use Rattle.std.proofs.lemmas.Bool.{eqb-true}
use Rattle.wasm_code.specs.declared.operator.Operator.{Operator}
use Rattle.wasm_types.specs.Module.{Module}
use Rattle.wasm_types.specs.declared.types.PrimitiveTypeInfo.{PrimitiveTypeInfo}
use Rattle.wasm_execution.specs.Values.{context_in, IsSound, Ends, Traps, Stuck}
use Rattle.wasm_equivalence.specs.control.Function.{structural, Reached, At, Done, Control, runs, IsSoundControl}
use Rattle.wasm_equivalence.specs.modules.Program.{Body, function_context, IsSoundBody, AreSound, BothRewritten, AreRewritten}
use Rattle.wasm_equivalence.specs.control.Standard.{Beyond, by_asked, standard}
use Rattle.wasm_equivalence.specs.validation.Sound.{EndsWith, IsValid, HasTargets, HasDeeds}
use Rattle.wasm_equivalence.specs.control.Wider.{wider_module, wider}
use Rattle.wasm_equivalence.specs.modules.Running.{Running, world_of, DoesMore, IsWiderSetting}
use Rattle.wasm_equivalence.specs.hosts.Embedder.{Embedder, IsSoundEmbedder, Functions, Beyonds, arity_at, running, IsValidFunction}
use Rattle.wasm_equivalence.specs.hosts.Embedder.{AreValid, DoesAs, BothDo, DoAsFunctions, with_operators}
use Rattle.wasm_equivalence.specs.hosts.EmbedderLaws.{PiecesDo, OneFunctionRewritten, FunctionsDoThemselves, ValidModulesStayValid}
use Rattle.wasm_equivalence.specs.hosts.EmbedderLaws.{ValidModulesDoMore, ValidModulesAreSound, ValidSessionsDoMore, ValidHarnessesDoMore}
use Rattle.wasm_equivalence.proofs.hosts.EmbedderLemmas.{with_none, with_some, stay}
use Rattle.wasm_equivalence.proofs.validation.ProgressLemmas.{valid_bodies}
use Rattle.wasm_equivalence.proofs.validation.ValidLemmas.{stays_valid, targets_stay, deeds_stay, more_globals}
use Rattle.wasm_equivalence.proofs.control.PieceLemmas.{replaced_piece}
use Rattle.wasm_equivalence.proofs.control.FunctionLemmas.{pieces_alike}
use Rattle.wasm_equivalence.proofs.control.StandardLemmas.{standard_sound}
use Rattle.wasm_equivalence.proofs.modules.ModuleLemmas.{do_more, running_sound}
use Rattle.wasm_equivalence.proofs.modules.SessionLemmas.{sessions}
use Rattle.wasm_equivalence.proofs.hosts.HarnessLemmas.{harnesses}

-- a control by tables
abbrev control_at : Module → List PrimitiveTypeInfo → Beyond → List Operator → Control
control_at m results beyond structure = standard m results structure (by_asked structure beyond)

control_sound : (m : Module) (b : Body) (results : List PrimitiveTypeInfo) (beyond : Beyond) (structure : List Operator) →
    IsSoundControl (function_context m b) (control_at m results beyond structure)
control_sound m b results beyond structure = standard_sound.sound (function_context m b) results structure (by_asked structure beyond)

not_stuck : (results : List PrimitiveTypeInfo) (p : Reached) → EndsWith results p → p ≢ Done Stuck
not_stuck results (At k labels stack s) h e = absurd cc
not_stuck results (Done (Ends vs s)) h e = absurd cc
not_stuck results (Done (Traps cause gs r)) h e = absurd cc
not_stuck results (Done Stuck) h e = h

-- a valid function is sound under the standard's control
sound_body : (m : Module) (e : Embedder) (functions : Functions) (beyonds : Beyonds) (f : ℕ) (b : Body) → IsValidFunction m f (beyonds f) b →
    IsSoundBody m ((running m e functions beyonds).controls f) b
sound_body m e functions beyonds f b v =
    let results = (arity_at m f).ends in
    record {
      sound = control_sound m b results (beyonds f) (structural b.operators);
      free = λ fuel s h.
          not_stuck results (runs (control_at m results (beyonds f) (structural b.operators)) b.operators fuel (At 0 [] [] s))
          (valid_bodies (function_context m b) results b.operators (by_asked (structural b.operators) (beyonds f)) v.valid v.targets v.deeds fuel s h);
    }

all_sound : (m : Module) (e : Embedder) (functions : Functions) (beyonds : Beyonds) → AreValid m functions beyonds →
    AreSound m ((running m e functions beyonds).controls) functions
all_sound m e functions beyonds v f b k = sound_body m e functions beyonds f b (v f b k)

-- pieces that run as before
pub pieces_do : PiecesDo
pieces_do m input more old new p l r v = record {
  params_are = p;
  locals_are = l;
  alike = λ results beyond.
      pieces_alike (function_context m old) more (control_at m results beyond) old.operators new.operators
      (control_sound m old results beyond (structural old.operators)) r;
  valid = λ results beyond x.
      subst (λ (os : List Operator). IsValid (wider input more (function_context m old)) results (by_asked os beyond) new.operators) v.structure
      (stays_valid (function_context m old) input more results (by_asked (structural old.operators) beyond) old.operators new.operators x v);
  targets = λ beyond x.
      subst (λ (os : List Operator). HasTargets (wider_module input more m) os (by_asked os beyond)) v.structure
      (targets_stay m input more (structural old.operators) (by_asked (structural old.operators) beyond) x);
  deeds = λ results beyond x.
      subst (λ (os : List Operator). HasDeeds (wider_module input more m) results os (by_asked os beyond)) v.structure
      (deeds_stay m input more results (structural old.operators) (by_asked (structural old.operators) beyond) x);
}

-- a function does as itself
does_itself : (m : Module) (input : List ℕ) (more : List PrimitiveTypeInfo) (b : Body) → DoesAs m input more b b
does_itself m input more b =
    pieces_do m input more b b refl refl (replaced_piece.none (function_context m b) more b.operators)
    (more_globals (function_context m b) input more b.operators)

both_itself : (m : Module) (input : List ℕ) (more : List PrimitiveTypeInfo) (o : Option Body) → BothDo m input more o o
both_itself m input more None = tt
both_itself m input more (Some b) = does_itself m input more b

pub do_themselves : FunctionsDoThemselves
do_themselves m input more functions f = both_itself m input more (functions f)

pub does_one : OneFunctionRewritten
does_one m input more functions f operators h g = go (g == f) refl
  where
    go : (x : Bool) → (g == f) ≡ x →
        BothDo m input more (functions g) (if x then option_map (with_operators operators) (functions g) else functions g)
    go false k = both_itself m input more (functions g)
    go true k = at (functions g) refl
      where
        at : (o : Option Body) → functions g ≡ o → BothDo m input more o (option_map (with_operators operators) o)
        at None e = tt
        at (Some b) e = h b (ap functions (sym (eqb-true g f k)) ∙ e)

module _ (m : Module) (input : List ℕ) (more : List PrimitiveTypeInfo) (beyonds : Beyonds) (old new : Functions) (valid : AreValid m old beyonds)
    (same : DoAsFunctions m input more old new) where
  abbrev after : Module
  after = wider_module input more m

  new_valid : (f : ℕ) (b c : Body) → IsValidFunction m f (beyonds f) b → DoesAs m input more b c → IsValidFunction after f (beyonds f) c
  new_valid f b c v d = record {
    params_are = sym d.params_are ∙ v.params_are;
    valid = subst (λ (x : List PrimitiveTypeInfo). IsValid (context_in after x) (arity_at m f).ends (by_asked (structural c.operators) (beyonds f)) c.operators)
        (ap₂ (λ (x y : List PrimitiveTypeInfo). x ++ y) d.params_are d.locals_are)
        (d.valid (arity_at m f).ends (beyonds f) v.valid);
    targets = d.targets (beyonds f) v.targets;
    deeds = d.deeds (arity_at m f).ends (beyonds f) v.deeds;
  }

  stay_valid : AreValid after new beyonds
  stay_valid f c k = go (old f) refl (subst (BothDo m input more (old f)) k (same f))
    where
      go : (o : Option Body) → old f ≡ o → BothDo m input more o (Some c) → IsValidFunction after f (beyonds f) c
      go (Some b) x d = new_valid f b c (valid f b x) d
      go None x d = absurd d

  module _ (e : Embedder) (sound : IsSoundEmbedder m e) where
    abbrev first : Running
    first = running m e old beyonds

    abbrev second : Running
    second = running after e new beyonds

    all_rewritten : AreRewritten m more first.controls old new
    all_rewritten f = go (old f) (new f) refl (same f)
      where
        go : (o n : Option Body) → old f ≡ o → BothDo m input more o n → BothRewritten m more (first.controls f) o n
        go (Some b) (Some c) x d = record {
          params_are = d.params_are;
          locals_are = d.locals_are;
          alike = d.alike (arity_at m f).ends (beyonds f);
          runs = sound_body m e old beyonds f b (valid f b x);
        }
        go (Some b) None x d = absurd d
        go None (Some c) x d = absurd d
        go None None x d = tt

    setting : IsWiderSetting input more first second
    setting = record {
      host_is = sound.wider m (with_none m) input more;
      host_sound = sound.sound after (with_some m input more);
      controls_are = λ f c k. standard_sound.wide input more (function_context m c) (arity_at m f).ends (structural c.operators)
          (by_asked (structural c.operators) (beyonds f));
      runs = all_sound after e new beyonds stay_valid;
    }

    more_done : DoesMore more first second
    more_done = do_more input more first second (sound.sound m (with_none m)) all_rewritten setting

pub valid_stay : ValidModulesStayValid
valid_stay m input more beyonds old new valid same = stay_valid m input more beyonds old new valid same

pub valid_more : ValidModulesDoMore
valid_more m input more e beyonds old new sound valid same = more_done m input more beyonds old new valid same e sound

pub valid_sound : ValidModulesAreSound
valid_sound m e beyonds functions sound valid =
    running_sound (running m e functions beyonds) (sound.sound m (with_none m)) (all_sound m e functions beyonds valid)

-- the worlds of both modules are sound
both_sound : (m : Module) (input : List ℕ) (more : List PrimitiveTypeInfo) (e : Embedder) (beyonds : Beyonds) (old new : Functions) →
    IsSoundEmbedder m e → AreValid m old beyonds → DoAsFunctions m input more old new → (fuel depth : ℕ) →
    IsSound (world_of (running m e old beyonds) fuel depth) × IsSound (world_of (running (wider_module input more m) e new beyonds) fuel depth)
both_sound m input more e beyonds old new sound valid same fuel depth = (
  valid_sound m e beyonds old sound valid fuel depth,
  valid_sound (wider_module input more m) e beyonds new (stay m e input more sound) (stay_valid m input more beyonds old new valid same) fuel depth,
)

pub valid_sessions : ValidSessionsDoMore
valid_sessions m input more e beyonds old new sound valid same fuel depth =
    let (first, second) = both_sound m input more e beyonds old new sound valid same fuel depth in
    sessions input more (running m e old beyonds) (running (wider_module input more m) e new beyonds) refl
    (more_done m input more beyonds old new valid same e sound) fuel depth first second

pub valid_harnesses : ValidHarnessesDoMore
valid_harnesses m input more e beyonds old new sound valid same fuel depth =
    let (first, second) = both_sound m input more e beyonds old new sound valid same fuel depth in
    harnesses input more (running m e old beyonds) (running (wider_module input more m) e new beyonds) refl
    (more_done m input more beyonds old new valid same e sound) fuel depth first second
