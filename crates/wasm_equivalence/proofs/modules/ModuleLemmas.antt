-- A module with rewritten functions, the requested globals among its own, does what the module did.
use Rattle.std.proofs.Common.{◌≡◌, ℕ, zero, suc, Bool, true, false, List, [], ◌++◌, length, take, drop, Option, Some, None, refl, sym, ap}
use Rattle.std.proofs.Common.{ap₂, ◌∙◌, subst, append_assoc}
use Rattle.std.specs.Prelude.{◌&&◌, if◌then◌else◌, option_map}
use Rattle.std.specs.List.{All}
use Rattle.std.proofs.lemmas.List.{take_at, drop_at, take-map, drop-map, take-append-drop}
use Rattle.std.proofs.lemmas.List.Elements.{All-nil, All-append, All-take, All-drop}
use Rattle.wasm_code.specs.Instruction.{Instruction}
use Rattle.wasm_types.specs.Module.{Module}
use Rattle.wasm_types.specs.declared.types.PrimitiveTypeInfo.{PrimitiveTypeInfo}
use Rattle.wasm_execution.specs.Values.{asked_types, Value, IsValue, types, Context, stuck, Answer, Gives, Fails, World, IsSound, HasTypes}
use Rattle.wasm_execution.specs.OutcomeLemmas.{types_append}
use Rattle.wasm_equivalence.specs.control.Function.{structural, Reached, At, IsTyped, IsSoundControl}
use Rattle.wasm_equivalence.specs.modules.Program.{callee, Body, Program, Controls, Callee, own_callee, default_local_values, are_of}
use Rattle.wasm_equivalence.specs.modules.Program.{answer_of, results_or_none, Host, IsSoundHost, call, answer_at_once, answer_in, answers}
use Rattle.wasm_equivalence.specs.modules.Program.{function_context, IsSoundBody, AreSound, FunctionIsRewritten, BothRewritten}
use Rattle.wasm_equivalence.specs.modules.Program.{AreRewritten}
use Rattle.wasm_equivalence.specs.control.Wider.{wider, Begins, IsMore, IsMoreWorld, IsWiderWorld, IsWiderReached}
use Rattle.wasm_equivalence.specs.modules.Running.{Running, world_of, IsWiderSetting, RewrittenModulesDoMore, RewritesFollowOneAnother, RunningIsSound}
use Rattle.wasm_equivalence.proofs.control.FunctionLemmas.{runs_typed}
use Rattle.wasm_equivalence.proofs.modules.WorldLemmas.{start_typed, call_by, call_answers, world_sound, of_fit, of_are, answer_by}
use Rattle.wasm_equivalence.proofs.control.NumberLemmas.{both_true}
use Rattle.wasm_equivalence.proofs.control.WiderLemmas.{runs_wider}
use Rattle.wasm_equivalence.proofs.modules.AnswerLemmas.{answer_more, behind_in, behind_kept, joined, joined_sound, joined_wider}

-- ---- each depth

pub running_sound : RunningIsSound
running_sound m sound h fuel depth = world_sound m.host m.controls fuel m.program sound h depth

-- functions that are rewritten are sound
rewritten_sound : (info : Module) (requests : List PrimitiveTypeInfo) (controls : Controls) (old new : Program) →
    AreRewritten info requests controls old new → AreSound info controls old
rewritten_sound info requests controls old new h f b e =
    go (new f) (subst (λ (o : Option Body). BothRewritten info requests (controls f) o (new f)) e (h f))
  where
    go : (o : Option Body) → BothRewritten info requests (controls f) (Some b) o → IsSoundBody info (controls f) b
    go None k = absurd k
    go (Some c) k = k.runs

module _ (input : List ℕ) (more : List PrimitiveTypeInfo) (m k : Running) (sound : IsSoundHost m.host)
    (h : AreRewritten m.host.info more m.controls m.program k.program) (wide : IsWiderSetting input more m k) (fuel : ℕ) where
  abbrev host : Host
  host = k.host

  abbrev controls : Controls
  controls = k.controls

  abbrev old_at : ℕ → World
  old_at n = world_of m fuel n

  abbrev wide_at : ℕ → World
  wide_at n = world_of k fuel n

  old_sound : (n : ℕ) → IsSound (old_at n)
  old_sound n = running_sound m sound (rewritten_sound m.host.info more m.controls m.program k.program h) fuel n

  wide_sound : (n : ℕ) → IsSound (wide_at n)
  wide_sound n = running_sound k wide.host_sound wide.runs fuel n

  module _ (n : ℕ) (widens : IsMoreWorld input more (old_at n) (wide_at n)) (i : Instruction) (results : List PrimitiveTypeInfo)
      (vs gs behind : List Value) (r : ℕ) (e : asked_types m.host.info i (types vs) ≡ Some results) (a : All IsValue vs)
      (g : types gs ≡ m.host.info.globals) (v : All IsValue gs) (b : types behind ≡ more) (u : All IsValue behind) where
    abbrev at_index : ℕ → Option Body → Option Callee
    at_index f o = option_map (λ (b : Body). record { index = f; body = b }) o

    abbrev Goal : (old_one new_one : Option Callee) → Type 0
    Goal x y = IsMore (answer_in m.host m.controls fuel (answers m.host m.controls fuel m.program n) x i vs gs r)
        (answer_in host controls fuel (answers host controls fuel k.program n) y i vs (gs ++ behind) r)

    by_host : Goal None None
    by_host =
        (wide.host_is.over_is (answers m.host m.controls fuel m.program n) (answers host controls fuel k.program n) (old_sound n) (wide_sound n)
        widens).answers i results vs gs behind r e a g v b u

    all_types : types (gs ++ behind) ≡ host.info.globals
    all_types = types_append gs behind ∙ (ap₂ (λ (x y : List PrimitiveTypeInfo). x ++ y) g b ∙ sym (ap (λ (x : Module). x.globals) wide.host_is.info_is))

    all_values : All IsValue (gs ++ behind)
    all_values = All-append IsValue gs behind v u

    abbrev asked : World
    asked = joined input more (old_at n) (wide_at n) (old_sound n) (wide_sound n) widens

    asked_sound : IsSound asked
    asked_sound = joined_sound input more (old_at n) (wide_at n) (old_sound n) (wide_sound n) widens

    asked_wider : IsWiderWorld input more asked (wide_at n)
    asked_wider = joined_wider input more (old_at n) (wide_at n) (old_sound n) (wide_sound n) widens

    abbrev given : List PrimitiveTypeInfo
    given = results_or_none (asked_types m.host.info i (types vs))

    module _ (f : ℕ) (d c : Body) (same : FunctionIsRewritten m.host.info more (m.controls f) d c) (nc : k.program f ≡ Some c) where
      abbrev old_own : Callee
      old_own = record { index = f; body = d }

      abbrev own : Callee
      own = record { index = f; body = c }

      abbrev narrow_run : Reached
      narrow_run = call m.host m.controls fuel own asked vs (gs ++ behind) r

      abbrev wide_run : Reached
      wide_run = call host controls fuel own (wide_at n) vs (gs ++ behind) r

      contexts : function_context host.info c ≡ wider input more (function_context m.host.info c)
      contexts = ap (λ (x : Module). function_context x c) wide.host_is.info_is

      control_sound : IsSoundControl (function_context host.info c) (controls f (structural c.operators))
      control_sound = (wide.runs f c nc).sound

      module _ (p : types vs ≡ d.params) where
        new_params : types vs ≡ c.params
        new_params = p ∙ same.params_are

        start_wide : HasTypes (function_context host.info c) (record {
          locals = vs ++ default_local_values c.locals;
          globals = gs ++ behind;
          rest =
              r;
          world = wide_at n;
        })
        start_wide = start_typed host controls fuel c (wide_at n) vs (gs ++ behind) r refl (wide_sound n) new_params a all_types all_values

        run_typed : IsTyped (wider input more (function_context m.host.info c)) wide_run
        run_typed =
            subst (λ (x : Context). IsTyped x wide_run) contexts
            (runs_typed (function_context host.info c) (controls f (structural c.operators)) control_sound c.operators fuel
            (At 0 [] [] (record { locals = vs ++ default_local_values c.locals; globals = gs ++ behind; rest = r; world = wide_at n }))
            (All-nil IsValue, start_wide))

        run_reached : IsWiderReached asked (wide_at n) narrow_run wide_run
        run_reached =
            runs_wider input more asked (wide_at n) asked_wider (function_context m.host.info c) refl
            (m.controls f (structural c.operators)) (controls f (structural c.operators)) (wide.controls_are f c nc)
            (subst (λ (x : Context). IsSoundControl x (controls f (structural c.operators))) contexts control_sound) c.operators fuel
            (At 0 [] [] (record { locals = vs ++ default_local_values c.locals; globals = gs ++ behind; rest = r; world = asked }))
            (At 0 [] [] (record { locals = vs ++ default_local_values c.locals; globals = gs ++ behind; rest = r; world = wide_at n })) (
              All-nil IsValue,
              subst (λ (x : Context). HasTypes x (record { locals = vs ++ default_local_values c.locals; globals = gs ++ behind; rest = r; world = wide_at n }))
                  contexts start_wide,
            )
            (refl, refl, refl, refl, refl)

        -- the old function, in its own world, answers what the new one does where globals stand behind the module's
        old_answers : answer_of given (call m.host m.controls fuel old_own (old_at n) vs gs r) ≡ answer_of given narrow_run
        old_answers =
            let o = behind_in (length m.host.info.globals) (wide_at n) in
            let before = call m.host m.controls fuel old_own (old_at n) vs gs r in
            sym (ap (answer_of given) (call_by m.host m.controls fuel f d same.runs (old_at n) refl (old_sound n) vs gs r p a g v o
            (behind_kept (length m.host.info.globals) (wide_at n))) ∙ answer_by o given before) ∙
            call_answers m.host m.controls fuel more f d c same asked refl asked_sound vs gs r p a g v behind b given

        same_results : results_or_none (asked_types host.info i (types vs)) ≡ given
        same_results = ap (λ (x : Module). results_or_none (asked_types x i (types vs))) wide.host_is.info_is

        runs_more : IsMore (answer_of given (call m.host m.controls fuel old_own (old_at n) vs gs r))
            (answer_of (results_or_none (asked_types host.info i (types vs))) wide_run)
        runs_more =
            subst (λ (x : Answer × Answer). IsMore x.0 x.1)
            (ap₂ (λ (x y : Answer). (x, y)) (sym old_answers) (ap (λ (ts : List PrimitiveTypeInfo). answer_of ts wide_run) (sym same_results)))
            (answer_more input more asked (wide_at n) asked_wider (function_context m.host.info c) refl given narrow_run wide_run run_typed run_reached)

      by_body : Goal (Some old_own) (Some own)
      by_body =
          subst (λ (ts : List PrimitiveTypeInfo). IsMore
          (if are_of d.params vs && are_of m.host.info.globals gs then
          answer_of given (call m.host m.controls fuel old_own (old_at n) vs gs r) else Fails stuck gs r)
          (if are_of ts vs && are_of host.info.globals (gs ++ behind) then
          answer_of (results_or_none (asked_types host.info i (types vs))) wide_run
          else Fails stuck (gs ++ behind) r)) same.params_are (go (are_of d.params vs) refl)
        where
          go : (x : Bool) → are_of d.params vs ≡ x → IsMore
              (if are_of d.params vs && are_of m.host.info.globals gs then
              answer_of given (call m.host m.controls fuel old_own (old_at n) vs gs r) else Fails stuck gs r)
              (if are_of d.params vs && are_of host.info.globals (gs ++ behind) then
              answer_of (results_or_none (asked_types host.info i (types vs))) wide_run
              else Fails stuck (gs ++ behind) r)
          go true x =
              subst (λ (y : Bool × Bool). IsMore
              (if y.0 then answer_of given (call m.host m.controls fuel old_own (old_at n) vs gs r) else Fails stuck gs r)
              (if y.1 then answer_of (results_or_none (asked_types host.info i (types vs)))
              wide_run else Fails stuck (gs ++ behind) r))
              (ap₂ (λ (y z : Bool). (y, z))
              (sym (both_true (are_of d.params vs) (are_of m.host.info.globals gs) x (of_fit m.host.info.globals gs g v)))
              (sym (both_true (are_of d.params vs) (are_of host.info.globals (gs ++ behind)) x
              (of_fit host.info.globals (gs ++ behind) all_types all_values))))
              (runs_more (of_are d.params vs x).0)
          go false x =
              subst (λ (y : Bool). IsMore
              (if y && are_of m.host.info.globals gs then
              answer_of given (call m.host m.controls fuel old_own (old_at n) vs gs r) else Fails stuck gs r)
              (if y && are_of host.info.globals (gs ++ behind) then
              answer_of (results_or_none (asked_types host.info i (types vs))) wide_run
              else Fails stuck (gs ++ behind) r)) (sym x) (refl, (behind, refl), refl)

    both : (f : ℕ) (o p : Option Body) → k.program f ≡ p → BothRewritten m.host.info more (m.controls f) o p → Goal (at_index f o) (at_index f p)
    both f None None x same = by_host
    both f (Some d) (Some c) x same = by_body f d c same x
    both f (Some d) None x same = absurd same
    both f None (Some c) x same = absurd same

    level : (o : Option ℕ) → Goal (own_callee m.program o) (own_callee k.program o)
    level None = by_host
    level (Some f) = both f (m.program f) (k.program f) refl (h f)

  ground_both : (f : ℕ) (o p : Option Body) → BothRewritten m.host.info more (m.controls f) o p → (a b : Answer) (gs behind : List Value) (r : ℕ) → IsMore a b →
      IsMore (answer_at_once m.host m.controls fuel (option_map (λ (b : Body). record { index = f; body = b }) o) a gs r)
      (answer_at_once host controls fuel (option_map (λ (b : Body). record { index = f; body = b }) p) b (gs ++ behind) r)
  ground_both f None None same a b gs behind r x = x
  ground_both f (Some d) (Some c) same a b gs behind r x = (refl, (behind, refl), refl)
  ground_both f (Some d) None same a b gs behind r x = absurd same
  ground_both f None (Some c) same a b gs behind r x = absurd same

  ground_more : (a b : Answer) (gs behind : List Value) (r : ℕ) → IsMore a b → (o : Option ℕ) →
      IsMore (answer_at_once m.host m.controls fuel (own_callee m.program o) a gs r)
      (answer_at_once host controls fuel (own_callee k.program o) b (gs ++ behind) r)
  ground_more a b gs behind r same None = same
  ground_more a b gs behind r same (Some f) = ground_both f (m.program f) (k.program f) (h f) a b gs behind r same

  pub worlds_more : (n : ℕ) → IsMoreWorld input more (old_at n) (wide_at n)
  worlds_more zero = record {
    info_is = wide.host_is.info_is;
    answers = λ i results vs gs behind r e a g v b u.
        ground_more (m.host.base i vs gs r) (host.base i vs (gs ++ behind) r) gs behind r
        (wide.host_is.base_is.answers i results vs gs behind r e a g v b u) (callee i);
  }
  worlds_more (suc n) = record {
    info_is = wide.host_is.info_is;
    answers = λ i results vs gs behind r e a g v b u. level n (worlds_more n) i results vs gs behind r e a g v b u (callee i);
  }

pub do_more : RewrittenModulesDoMore
do_more input more m k sound h wide fuel depth i results vs gs behind r e a g v b u =
    (worlds_more input more m k sound h wide fuel depth).answers i results vs gs behind r e a g v b u

-- ---- one after another

then_begins : (gs hs is : List Value) → Begins gs hs → Begins hs is → Begins gs is
then_begins gs hs is h k = (h.0 ++ k.0, k.1 ∙ (ap (λ (x : List Value). x ++ k.0) h.1 ∙ append_assoc gs h.0 k.0))

then_more : (a b c : Answer) → IsMore a b → IsMore b c → IsMore a c
then_more (Gives vs gs r) (Gives us hs q) (Gives ws is p) h k = (k.0 ∙ h.0, then_begins gs hs is h.1 k.1, k.2 ∙ h.2)
then_more (Fails cause gs r) (Fails why hs q) (Fails third is p) h k = (k.0 ∙ h.0, then_begins gs hs is h.1 k.1, k.2 ∙ h.2)
then_more (Gives vs gs r) (Fails why hs q) c h k = absurd h
then_more (Fails cause gs r) (Gives us hs q) c h k = absurd h
then_more (Gives vs gs r) (Gives us hs q) (Fails third is p) h k = absurd k
then_more (Fails cause gs r) (Fails why hs q) (Gives ws is p) h k = absurd k

pub follow : RewritesFollowOneAnother
follow input first second m n k info h j fuel depth i results vs gs behind r e a g v b u =
    let count = length first in
    let one = take count behind in
    let two = drop count behind in
    let one_are : types one ≡ first = sym (take-map (λ (x : Value). x.type) count behind) ∙ (ap (take count) b ∙ take_at first second count refl) in
    let two_are : types two ≡ second = sym (drop-map (λ (x : Value). x.type) count behind) ∙ (ap (drop count) b ∙ drop_at first second count refl) in
    let one_values = All-take IsValue count behind u in
    let all : types (gs ++ one) ≡ n.host.info.globals =
    types_append gs one ∙ (ap₂ (λ (x y : List PrimitiveTypeInfo). x ++ y) g one_are ∙ sym (ap (λ (x : Module). x.globals) info)) in
    let parts : (gs ++ one) ++ two ≡ gs ++ behind = append_assoc gs one two ∙ ap (λ (x : List Value). gs ++ x) (take-append-drop count behind) in
    subst (λ (x : List Value). IsMore ((world_of m fuel depth).answer i vs gs r) ((world_of k fuel depth).answer i vs x r)) parts
    (then_more ((world_of m fuel depth).answer i vs gs r) ((world_of n fuel depth).answer i vs (gs ++ one) r)
    ((world_of k fuel depth).answer i vs ((gs ++ one) ++ two) r)
    (h fuel depth i results vs gs one r e a g v one_are one_values)
    (j fuel depth i results vs (gs ++ one) two r (ap (λ (x : Module). asked_types x i (types vs)) info ∙ e) a all
    (All-append IsValue gs one v one_values) two_are
    (All-drop IsValue count behind u)))
