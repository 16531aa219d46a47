-- How a module with more globals answers, and what becomes of globals behind a module's own.
use Rattle.std.proofs.Common.{◌≡◌, ℕ, Bool, true, false, List, [], ◌++◌, length, drop, refl, sym, ap, ap₂, ◌∙◌, subst}
use Rattle.std.specs.Prelude.{if◌then◌else◌}
use Rattle.std.proofs.lemmas.List.{drop_at, drop-map}
use Rattle.std.proofs.lemmas.List.Elements.{All-append}
use Rattle.wasm_code.specs.Instruction.{Instruction}
use Rattle.wasm_types.specs.Module.{Module}
use Rattle.wasm_types.specs.declared.types.PrimitiveTypeInfo.{PrimitiveTypeInfo}
use Rattle.wasm_execution.specs.Values.{same_types, asked_types, Value, IsValue, types, Context, unfinished, stuck, Answer, Gives, Fails}
use Rattle.wasm_execution.specs.Values.{World, State, own_globals, further_globals, IsAnswer, IsSound, HasTypes, Ends, Traps, Stuck}
use Rattle.wasm_execution.specs.RowLemmas.{same_types_is}
use Rattle.wasm_execution.specs.OutcomeLemmas.{types_append, length_types}
use Rattle.wasm_equivalence.specs.control.Function.{Others, OthersKeepTypes, world_by, Reached, At, Done, IsTyped}
use Rattle.wasm_equivalence.specs.modules.Program.{answer_of}
use Rattle.wasm_equivalence.specs.control.Wider.{wider, state_of, IsMore, IsMoreWorld, IsWiderAnswer, IsWiderWorld, IsWiderReached}
use Rattle.wasm_equivalence.proofs.control.AloneLemmas.{sound_by}
use Rattle.wasm_equivalence.proofs.control.NumberLemmas.{same_types_self}
use Rattle.wasm_equivalence.proofs.control.WiderLemmas.{own_both}

-- ---- answers

module _ (input : List ℕ) (more : List PrimitiveTypeInfo) (w v : World) (widens : IsWiderWorld input more w v) (context : Context)
    (at : w.info ≡ context.info) where
  module _ (s : State) (e : s.world ≡ w) (h : HasTypes (wider input more context) (record s { world = v })) where
    own_parts : own_globals (record s { world = v }) ≡ own_globals s ++ further_globals s
    own_parts =
        subst (λ (x : World). own_globals (record s { world = v }) ≡ own_globals (state_of x s.locals s.globals s.rest) ++
        further_globals (state_of x s.locals s.globals s.rest)) (sym e)
        (own_both input more w v widens context at s.locals s.globals s.rest h)

    ended_more : (results : List PrimitiveTypeInfo) (vs : List Value) →
        IsMore (answer_of results (Done (Ends vs s))) (answer_of results (Done (Ends vs (record s { world = v }))))
    ended_more results vs = go (same_types (types vs) results)
      where
        go : (x : Bool) → IsMore (if x then Gives vs (own_globals s) s.rest else Fails stuck (own_globals s) s.rest)
            (if x then Gives vs (own_globals (record s { world = v })) s.rest else Fails stuck (own_globals (record s { world = v })) s.rest)
        go true = (refl, (further_globals s, own_parts), refl)
        go false = (refl, (further_globals s, own_parts), refl)

  pub answer_more : (results : List PrimitiveTypeInfo) (p q : Reached) → IsTyped (wider input more context) q → IsWiderReached w v p q →
      IsMore (answer_of results p) (answer_of results q)
  answer_more results (At k labels stack s) (At j others values t) c h =
      subst (λ (x : State). IsMore (Fails unfinished (own_globals s) s.rest) (Fails unfinished (own_globals x) x.rest)) (sym h.3) (
        refl,
        (further_globals s, own_parts s h.4 (subst (HasTypes (wider input more context)) h.3 c.1)),
        refl,
      )
  answer_more results (Done (Ends vs s)) (Done (Ends us t)) c h =
      subst (λ (x : List Value × State). IsMore (answer_of results (Done (Ends vs s))) (answer_of results (Done (Ends x.0 x.1))))
      (sym (ap₂ (λ (x : List Value) (y : State). (x, y)) h.0 h.1))
      (ended_more s h.2 (subst (HasTypes (wider input more context)) h.1 c.1) results vs)
  answer_more results (Done (Traps cause gs r)) (Done (Traps why hs q)) c h = h
  answer_more results (Done Stuck) (Done Stuck) c h = (refl, ([], refl), refl)
  answer_more results (At k labels stack s) (Done q) c h = absurd h
  answer_more results (Done o) (At j others values t) c h = absurd h
  answer_more results (Done (Ends vs s)) (Done (Traps why hs q)) c h = absurd h
  answer_more results (Done (Ends vs s)) (Done Stuck) c h = absurd h
  answer_more results (Done (Traps cause gs r)) (Done (Ends us t)) c h = absurd h
  answer_more results (Done (Traps cause gs r)) (Done Stuck) c h = absurd h
  answer_more results (Done Stuck) (Done (Ends us t)) c h = absurd h
  answer_more results (Done Stuck) (Done (Traps why hs q)) c h = absurd h

-- ---- what becomes of globals behind the module's, as the module with these among its own has it

abbrev globals_of : Answer → List Value
globals_of (Gives vs gs r) = gs
globals_of (Fails cause gs r) = gs

-- as before where the others are of other types
abbrev found_or : (more found : List Value) → List Value
found_or more found = if same_types (types found) (types more) then found else more

abbrev pub behind_in : ℕ → World → Others
behind_in count v i vs gs r more = found_or more (drop count (globals_of (v.answer i vs (gs ++ more) r)))

found_types : (more found : List Value) → types (found_or more found) ≡ types more
found_types more found = go (same_types (types found) (types more)) refl
  where
    go : (b : Bool) → same_types (types found) (types more) ≡ b → types (if b then found else more) ≡ types more
    go true k = same_types_is (types found) (types more) k
    go false k = refl

pub behind_kept : (count : ℕ) (v : World) → OthersKeepTypes (behind_in count v)
behind_kept count v i vs gs r more = found_types more (drop count (globals_of (v.answer i vs (gs ++ more) r)))

found_is : (more found : List Value) → types found ≡ types more → found_or more found ≡ found
found_is more found e =
    ap (λ (x : Bool). if x then found else more) (ap (λ (ts : List PrimitiveTypeInfo). same_types ts (types more)) e ∙ same_types_self (types more))

module _ (input : List ℕ) (more : List PrimitiveTypeInfo) (w v : World) (first : IsSound w) (second : IsSound v) (h : IsMoreWorld input more w v) where
  abbrev own_count : ℕ
  own_count = length w.info.globals

  -- the first world, in which globals behind the module's become what the second makes of them
  abbrev pub joined : World
  joined = world_by (behind_in own_count v) w

  pub joined_sound : IsSound joined
  joined_sound = sound_by (behind_in own_count v) w (behind_kept own_count v) first

  joined_answer : (i : Instruction) (results others : List PrimitiveTypeInfo) (gs all behind : List Value) (r : ℕ) (a b : Answer) → types behind ≡ more →
      IsMore a b → IsAnswer w.info i results gs r a → IsAnswer v.info i others all r b →
      IsWiderAnswer (found_or behind (drop own_count (globals_of b))) a b
  joined_answer i results others gs all behind r (Gives us hs q) (Gives vs ks p) t k x y =
      let sized : length hs ≡ own_count = sym (length_types hs) ∙ ap length x.2 in
      let after = k.1.0 in
      let found : drop own_count ks ≡ after = ap (drop own_count) k.1.1 ∙ drop_at hs after own_count sized in
      let wide : types ks ≡ w.info.globals ++ more = y.2 ∙ ap (λ (z : Module). z.globals) h.info_is in
      let typed : types (drop own_count ks) ≡ types behind =
      sym (drop-map (λ (z : Value). z.type) own_count ks) ∙ (ap (drop own_count) wide ∙ (drop_at w.info.globals more own_count refl ∙ sym t)) in
      (k.0, k.1.1 ∙ ap (λ (z : List Value). hs ++ z) (sym found ∙ sym (found_is behind (drop own_count ks) typed)), k.2)
  joined_answer i results others gs all behind r (Fails cause hs q) (Fails why ks p) t k x y =
      let sized : length hs ≡ own_count = sym (length_types hs) ∙ ap length x.1 in
      let after = k.1.0 in
      let found : drop own_count ks ≡ after = ap (drop own_count) k.1.1 ∙ drop_at hs after own_count sized in
      let wide : types ks ≡ w.info.globals ++ more = y.1 ∙ ap (λ (z : Module). z.globals) h.info_is in
      let typed : types (drop own_count ks) ≡ types behind =
      sym (drop-map (λ (z : Value). z.type) own_count ks) ∙ (ap (drop own_count) wide ∙ (drop_at w.info.globals more own_count refl ∙ sym t)) in
      (k.0, k.1.1 ∙ ap (λ (z : List Value). hs ++ z) (sym found ∙ sym (found_is behind (drop own_count ks) typed)), k.2)
  joined_answer i results others gs all behind r (Gives us hs q) (Fails why ks p) t k x y = absurd k
  joined_answer i results others gs all behind r (Fails cause hs q) (Gives vs ks p) t k x y = absurd k

  pub joined_wider : IsWiderWorld input more joined v
  joined_wider = record {
    info_is = h.info_is;
    answers = λ i results vs gs behind r e a g k b u.
        joined_answer i results results gs (gs ++ behind) behind r (w.answer i vs gs r) (v.answer i vs (gs ++ behind) r) b
        (h.answers i results vs gs behind r e a g k b u) (first.answers i results vs gs r e a g k)
        (second.answers i results vs (gs ++ behind) r (ap (λ (z : Module). asked_types z i (types vs)) h.info_is ∙ e) a
        (types_append gs behind ∙ (ap₂ (λ (x y : List PrimitiveTypeInfo). x ++ y) g b ∙ sym (ap (λ (z : Module). z.globals) h.info_is)))
        (All-append IsValue gs behind k u));
  }
