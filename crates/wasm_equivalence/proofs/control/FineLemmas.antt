-- What is done in a state: that it keeps the types, and sees nothing of what stands behind the module's globals.
use Rattle.std.proofs.Common.{◌≡◌, ℕ, zero, suc, ◌-◌, List, [], ◌∷◌, length, take, refl, sym, ap, ◌∙◌}
use Rattle.std.specs.Prelude.{◌≢◌}
use Rattle.std.specs.List.{All}
use Rattle.std.proofs.lemmas.List.Elements.{All-take, All-drop, All-append}
use Rattle.wasm_types.specs.declared.types.PrimitiveTypeInfo.{PrimitiveTypeInfo}
use Rattle.wasm_types.specs.declared.types.PrimitiveTypeInfo.TheVariants as primitive
use Rattle.wasm_execution.specs.Values.{Value, IsValue, types, Context, World, State, own_globals, HasTypes, Cause, Ends, Traps, Stuck}
use Rattle.wasm_execution.specs.Agreement.{with_globals}
use Rattle.wasm_execution.specs.StateLemmas.{own_is, own_front}
use Rattle.wasm_execution.specs.TypeLemmas.{own_typed}
use Rattle.wasm_equivalence.specs.control.Function.{Label, Reached, At, Done, FollowsReached, Others, OthersKeepTypes, state_by, reached_by, IsTyped}
use Rattle.wasm_equivalence.specs.control.Standard.{last_of, unwound, chosen, choose_by_value}
use Rattle.wasm_equivalence.specs.control.Wider.{wider, state_of, IsWiderWorld, IsWiderReached}
use Rattle.wasm_equivalence.proofs.control.WiderLemmas.{own_begins}

-- a function's context, and the bytes and the further globals of the wider module
pub record Widening : Type 0 where
  pub input : List ℕ
  pub extra : List PrimitiveTypeInfo
  pub context : Context

abbrev pub widened : (input : List ℕ) → (extra : List PrimitiveTypeInfo) → Context → Widening
widened input extra context = record { input = input; extra = extra; context = context }

pub last_all : (n : ℕ) (stack : List Value) → All IsValue stack → All IsValue (last_of n stack)
last_all n stack a = All-drop IsValue (length stack - n) stack a

pub unwound_all : (height n : ℕ) (stack : List Value) → All IsValue stack → All IsValue (unwound height n stack)
unwound_all height n stack a =
    All-append IsValue (take height stack) (last_of n stack) (All-take IsValue height stack a) (last_all n stack a)

-- with other globals of the module's types, and another rest
pub with_own : {context : Context} {s : State} (h : HasTypes context s) → (gs : List Value) (r : ℕ) → types gs ≡ context.info.globals → All IsValue gs →
    HasTypes context (record s { globals = gs; rest = r })
with_own h gs r e a = record {
  locals_are = h.locals_are;
  globals_are = e;
  info_is = h.info_is;
  local_values = h.local_values;
  global_values = a;
  sound = h.sound;
}

module _ (widening : Widening) where
  open widening use {input, extra, context}

  -- what is done in a state
  pub record IsFine (next : State → Reached) : Type 0 where
    pub keeps : (s : State) → HasTypes context s → IsTyped context (next s)
    pub follows : (more : List Value) (s : State) → HasTypes context s → next s ≢ Done Stuck → FollowsReached more (next s) (next (with_globals more s))
    pub alone : (o : Others) (s : State) → OthersKeepTypes o → HasTypes context s → next (state_by o s) ≡ reached_by o (next s)
    pub wide : (w v : World) → IsWiderWorld input extra w v → w.info ≡ context.info → (ls gs : List Value) (r : ℕ) →
        HasTypes (wider input extra context) (state_of v ls gs r) → IsWiderReached w v (next (state_of w ls gs r)) (next (state_of v ls gs r))

  pub at_fine : (k : ℕ) (labels : List Label) (stack : List Value) → All IsValue stack → IsFine (λ s. At k labels stack s)
  at_fine k labels stack a = record {
    keeps = λ s h. (a, h);
    follows = λ more s h n. (more, refl, refl);
    alone = λ o s k h. refl;
    wide = λ w v widens at ls gs r h. (refl, refl, refl, refl, refl);
  }

  pub end_fine : (vs : List Value) → All IsValue vs → IsFine (λ s. Done (Ends vs s))
  end_fine vs a = record {
    keeps = λ s h. (a, h);
    follows = λ more s h n. (more, refl, refl);
    alone = λ o s k h. refl;
    wide = λ w v widens at ls gs r h. (refl, refl, refl);
  }

  pub trap_fine : (cause : Cause) → IsFine (λ s. Done (Traps cause (own_globals s) s.rest))
  trap_fine cause = record {
    keeps = λ s h. own_typed h;
    follows = λ more s h n. (more, refl, ap (λ gs. Done (Traps cause gs s.rest)) (own_front h more ∙ sym (own_is h)));
    alone = λ o s k h. refl;
    wide = λ w v widens at ls gs r h. (refl, own_begins input extra w v widens context at ls gs r h, refl);
  }

  pub stuck_fine : IsFine (λ s. Done Stuck)
  stuck_fine = record {
    keeps = λ s h. tt;
    follows = λ more s h n. absurd (n refl);
    alone = λ o s k h. refl;
    wide = λ w v widens at ls gs r h. tt;
  }

  -- the rest is another one
  pub with_rest : (r : ℕ) (next : State → Reached) → IsFine next → IsFine (λ s. next (record s { rest = r }))
  with_rest r next f = record {
    keeps = λ s h. f.keeps (record s { rest = r }) (with_own h s.globals r h.globals_are h.global_values);
    follows = λ more s h n. f.follows more (record s { rest = r }) (with_own h s.globals r h.globals_are h.global_values) n;
    alone = λ o s kept h. f.alone o (record s { rest = r }) kept (with_own h s.globals r h.globals_are h.global_values);
    wide = λ w v widens at ls gs q h. f.wide w v widens at ls gs r (with_own h gs r h.globals_are h.global_values);
  }

  chosen_fine : (t : PrimitiveTypeInfo) (n : ℕ) (one other : State → Reached) → IsFine one → IsFine other → IsFine (λ s. chosen t n (one s) (other s))
  chosen_fine primitive.I32 zero one other y h = h
  chosen_fine primitive.I32 (suc n) one other y h = y
  chosen_fine t n one other y h = stuck_fine

  pub choose_fine : (vs : List Value) (one other : State → Reached) → IsFine one → IsFine other → IsFine (λ s. choose_by_value vs (one s) (other s))
  choose_fine [] one other y h = stuck_fine
  choose_fine (c ∷ []) one other y h = chosen_fine c.type c.number one other y h
  choose_fine (c ∷ d ∷ vs) one other y h = stuck_fine
