-- A state of a context's types, alone and with further globals behind its own (this project).
use Rattle.std.proofs.Common.{◌≡◌, ℕ, zero, suc, List, [], ◌∷◌, ◌++◌, length, Some, refl, sym, ap, ap₂, ◌∙◌, arith}
use Rattle.std.specs.Prelude.{slice_get, set as slice_set}
use Rattle.std.proofs.lemmas.List.{take_all, take_at, drop_all, drop_at}
use Rattle.wasm_code.specs.Instruction.{Instruction}
use Rattle.wasm_types.specs.Module.{Module}
use Rattle.wasm_types.specs.declared.types.PrimitiveTypeInfo.{PrimitiveTypeInfo}
use Rattle.wasm_execution.specs.Values.{Value, types, Context, State, own_globals, further_globals, HasTypes, Outcome, Ends, Traps, Stuck, above}
use Rattle.wasm_execution.specs.Machine.{state_context}
use Rattle.wasm_execution.specs.Agreement.{with_globals}
use Rattle.wasm_execution.specs.OutcomeLemmas.{types_append, length_types}

-- ---- lists

pub none_of : (vs : List Value) → types vs ≡ [] → vs ≡ []
none_of [] e = refl
none_of (v ∷ vs) e = absurd cc

pub get_front : {X : Type 0} (xs ys : List X) (i : ℕ) (x : X) → slice_get xs i ≡ Some x → slice_get (xs ++ ys) i ≡ Some x
get_front [] ys i x e = absurd cc
get_front (y ∷ xs) ys zero x e = e
get_front (y ∷ xs) ys (suc i) x e = get_front xs ys i x e

pub set_front : {X : Type 0} (xs ys : List X) (i : ℕ) (x v : X) → slice_get xs i ≡ Some x → slice_set (xs ++ ys) i v ≡ slice_set xs i v ++ ys
set_front [] ys i x v e = absurd cc
set_front (y ∷ xs) ys zero x v e = refl
set_front (y ∷ xs) ys (suc i) x v e = ap (λ zs. y ∷ zs) (set_front xs ys i x v e)

-- ---- a state of a context's types

module _ {context : Context} {s : State} (h : HasTypes context s) where
  -- the types of its globals are its own module's
  pub own_types_are : types s.globals ≡ s.world.info.globals
  own_types_are = h.globals_are ∙ sym (ap (λ (m : Module). m.globals) h.info_is)

  pub own_count : length s.globals ≡ length s.world.info.globals
  own_count = sym (length_types s.globals) ∙ ap length own_types_are

  pub own_is : own_globals s ≡ s.globals
  own_is = take_all (length s.world.info.globals) s.globals (let n = own_count in omega arith)

  pub own_front : (more : List Value) → own_globals (with_globals more s) ≡ s.globals
  own_front more = take_at s.globals more (length s.world.info.globals) own_count

  further_none : further_globals s ≡ []
  further_none = drop_all (length s.world.info.globals) s.globals (let n = own_count in omega arith)

  pub further_is : (more : List Value) → further_globals (with_globals more s) ≡ more
  further_is more = drop_at s.globals more (length s.world.info.globals) own_count

  -- alone it has none behind an answer either
  pub others_none : (i : Instruction) (vs gs : List Value) → s.world.others i vs gs s.rest (further_globals s) ≡ []
  others_none i vs gs = none_of _ (h.sound.kept i vs gs s.rest (further_globals s) ∙ ap types further_none)

  pub context_is : state_context s ≡ context
  context_is =
      ap₂ (λ (m : Module) (ls : List PrimitiveTypeInfo). record { info = record m { globals = types s.globals }; locals = ls }) h.info_is h.locals_are ∙
      ap (λ (gs : List PrimitiveTypeInfo). record { info = record context.info { globals = gs }; locals = context.locals }) h.globals_are

-- further globals in a context
abbrev pub context_with : List PrimitiveTypeInfo → Context → Context
context_with more context = record { info = record context.info { globals = context.info.globals ++ more }; locals = context.locals }

pub context_more : {context : Context} {s : State} (h : HasTypes context s) (more : List Value) →
    state_context (with_globals more s) ≡ context_with (types more) context
context_more {context} {s} h more =
    ap (λ (gs : List PrimitiveTypeInfo). record { info = record s.world.info { globals = gs }; locals = types s.locals }) (types_append s.globals more) ∙
    ap (context_with (types more)) (context_is h)

-- ---- the same but for further globals

-- behind the globals of its own, where it ends
abbrev pub with_more : List Value → Outcome → Outcome
with_more more (Ends vs s) = Ends vs (with_globals more s)
with_more more (Traps c gs r) = Traps c gs r
with_more more Stuck = Stuck

pub above_more : (stack more : List Value) (o : Outcome) → above stack (with_more more o) ≡ with_more more (above stack o)
above_more stack more (Ends vs s) = refl
above_more stack more (Traps c gs r) = refl
above_more stack more Stuck = refl

-- The second is the first with further globals, of the types of those that are given.
abbrev pub Follows : List Value → Outcome → Outcome → Type 0
Follows more o r = (after : List Value) × (types after ≡ types more) × (r ≡ with_more after o)
