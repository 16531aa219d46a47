-- Calls and exceptions in a valid body.
use Rattle.std.proofs.Common.{◌≡◌, ℕ, zero, suc, inr, List, [], ◌∷◌, ◌++◌, length, take, Option, Some, None, refl, sym, ap, ap₂, ◌∙◌, subst}
use Rattle.std.proofs.Common.{arith, append_assoc}
use Rattle.std.specs.Prelude.{slice_get, is_some, if◌then◌else◌}
use Rattle.std.specs.List.{All}
use Rattle.std.proofs.lemmas.List.{take_at}
use Rattle.std.proofs.lemmas.List.Elements.{All-append}
use Rattle.wasm_code.specs.declared.operator.Operator.{Operator}
use Rattle.wasm_code.specs.declared.operator.Operator.TheVariants as op
use Rattle.wasm_code.specs.Instruction.{Instruction}
use Rattle.wasm_types.specs.Module.{Module}
use Rattle.wasm_types.specs.declared.types.PrimitiveTypeInfo.{PrimitiveTypeInfo}
use Rattle.wasm_execution.specs.Values.{asked_types, Value, IsValue, types, State, own_globals, further_globals, HasTypes, met, Answer, Gives, Fails, Stuck}
use Rattle.wasm_execution.specs.Machine.{answered}
use Rattle.wasm_execution.specs.Agreement.{EndsTyped}
use Rattle.wasm_execution.specs.StateLemmas.{others_none}
use Rattle.wasm_execution.specs.TypeLemmas.{asked_typed}
use Rattle.wasm_equivalence.specs.control.Function.{Label, Reached, At, Done}
use Rattle.wasm_equivalence.specs.control.Blocks.{Role}
use Rattle.wasm_equivalence.specs.control.Standard.{Caught, branches, begins, delegated, handler_arity, only_values, jump_other, jump_to}
use Rattle.wasm_equivalence.specs.control.Standard.{branch, caught_by, caught_at, or_caught, thrown, answered_by, called}
use Rattle.wasm_equivalence.specs.validation.Algorithm.{Frame}
use Rattle.wasm_equivalence.specs.validation.StandardSteps.{opened_by}
use Rattle.wasm_equivalence.proofs.control.NumberLemmas.{values_fit}
use Rattle.wasm_equivalence.proofs.control.FineLemmas.{with_own}
use Rattle.wasm_equivalence.proofs.control.CalledLemmas.{behind_trap}
use Rattle.wasm_equivalence.proofs.validation.PoppedLemmas.{opened_values, last_is}
use Rattle.wasm_equivalence.proofs.validation.ClosingLemmas.{CaughtPart}
use Rattle.wasm_equivalence.proofs.validation.WalkLemmas.{Walk, all_front, IsOpen, Leads, Fits, Stands}
use Rattle.wasm_equivalence.proofs.validation.BranchLemmas.{branch_stands}
use Rattle.wasm_equivalence.proofs.validation.BlockLemmas.{closed_of, closed_after, never_catches}

module _ (walk : Walk) where
  open walk use {context, results, structure, pieces, start, beyond, trace}

  abbrev m : Module
  m = context.info

  pub only_stands : (vs : List Value) (r : Reached) → All IsValue vs → Stands walk r → Stands walk (only_values m results structure vs r)
  only_stands vs r a h = subst (λ b. Stands walk (if b then r else Done Stuck)) (sym (values_fit vs a)) h

  -- the part of a `try` that begins with an exception
  begun : (j : ℕ) (f g : Frame) (gs : List Frame) (height : ℕ) (below : List Value) → height ≡ length below →
      CaughtPart context results structure pieces start beyond trace f (g ∷ gs) j → (labels : List Label) (vs : List Value) (s : State) →
      Fits walk g gs labels below → types vs ≡ beyond.takes j → All IsValue (below ++ vs) → HasTypes context s →
      Stands walk (At (suc j) (record { opener = j; height = height } ∷ labels) (below ++ vs) s)
  begun j f g gs height below h part labels vs s outer w a typed =
      let x = part.operator in
      let ar = handler_arity beyond j in
      let o : Operator = op.Other x in
      let label : Label = record { opener = j; height = height } in
      let l = part.inside in
      let new = opened_by o ar in
      let never : (mark rest : ℕ) → caught_at m results structure beyond (Some o) j mark rest ≡ None =
      λ mark rest. ap (λ (r : Role). caught_by m results structure beyond r j mark rest) part.role in
      let opened : IsOpen walk new label (g ∷ gs) = record {
        arity = ar;
        starts = refl;
        ends = refl;
        inside = (closed_of walk o ar j (g ∷ gs) l part.next).inside;
        after = closed_after walk o ar j g gs l part.next;
        kind = inr (
          λ ls z q. ap (λ y. jump_to m results structure beyond y label ls z q) part.at ∙
              ap (λ (y : Role). jump_other m results structure beyond y label ls z q) part.role,
          λ f. refl,
        );
        catches = never_catches walk new label (g ∷ gs) o part.at never;
      } in
      (omega arith, new, g ∷ gs, part.next, (below, vs, refl, opened_values o ar vs w, h, opened, outer), a, typed)

  -- an exception goes to the block that catches it, or out of the function
  pub thrown_stands : (mark skipped : ℕ) (f : Frame) (outer : List Frame) (labels : List Label) (base middle stack : List Value) (s : State) →
      Fits walk f outer labels base → stack ≡ base ++ middle → All IsValue stack → HasTypes context s →
      Stands walk (thrown m results structure beyond mark skipped labels stack s)
  thrown_stands mark skipped f outer [] base middle stack s fits e a typed = tt
  thrown_stands mark skipped f [] (label ∷ labels) base middle stack s fits e a typed = absurd fits
  thrown_stands mark (suc n) f (g ∷ gs) (label ∷ labels) base middle stack s fits e a typed =
      let (below, vs, is, v, height, opened, outer) = fits in
      thrown_stands mark n g gs labels below (vs ++ middle) stack s outer
      (e ∙ (ap (λ (x : List Value). x ++ middle) is ∙ append_assoc below vs middle)) a typed
  thrown_stands mark zero f (g ∷ gs) (label ∷ labels) base middle stack s fits e a typed =
      let (below, vs, is, v, height, opened, outer) = fits in
      let whole : stack ≡ below ++ (vs ++ middle) = e ∙ (ap (λ (x : List Value). x ++ middle) is ∙ append_assoc below vs middle) in
      let down : take label.height stack ≡ below =
      ap₂ (λ (n : ℕ) (x : List Value). take n x) height whole ∙ take_at below (vs ++ middle) (length below) refl in
      let behind : All IsValue below = all_front below (vs ++ middle) (subst (All IsValue) whole a) in
      go below (caught_at m results structure beyond (slice_get structure label.opener) label.opener mark s.rest) down behind height outer
      (opened.catches mark s.rest) (λ n. thrown_stands mark n g gs labels below (vs ++ middle) stack s outer whole a typed)
    where
      go : (below : List Value) (o : Option Caught) → take label.height stack ≡ below → All IsValue below → label.height ≡ length below →
          Fits walk g gs labels below → ((c : Caught) → o ≡ Some c → Leads walk f (g ∷ gs) c) →
          ((n : ℕ) → Stands walk (thrown m results structure beyond mark n labels stack s)) →
          Stands walk (or_caught m results structure beyond o label.height labels stack s (λ n. thrown m results structure beyond mark n labels stack s))
      go below (Some (branches l us r)) down b height outer leads later =
          let (to, at, w, values) = leads (branches l us r) refl in
          let t : State = record s { rest = r } in
          only_stands us (branch m results structure beyond l labels (take label.height stack ++ us) t) values
          (subst (λ (z : List Value). Stands walk (branch m results structure beyond l labels (z ++ us) t)) (sym down)
          (branch_stands walk l g to gs labels below us us (below ++ us) t outer refl (last_is below us (length us) refl) at w
          (All-append IsValue below us b values) values (with_own typed s.globals r typed.globals_are typed.global_values)))
      go below (Some (begins j us r)) down b height outer leads later =
          let (part, w, values) = leads (begins j us r) refl in
          let t : State = record s { rest = r } in
          let own : Label = record { opener = j; height = label.height } in
          only_stands us (At (suc j) (own ∷ labels) (take label.height stack ++ us) t) values
          (subst (λ (z : List Value). Stands walk (At (suc j) (own ∷ labels) (z ++ us) t)) (sym down)
          (begun j f g gs label.height below height part labels us t outer w (All-append IsValue below us b values)
          (with_own typed s.globals r typed.globals_are typed.global_values)))
      go below (Some (delegated l)) down b height outer leads later = later l
      go below None down b height outer leads later = later 0

  module _ (labels : List Label) (below : List Value) (thrown_on : (mark : ℕ) (t : State) → HasTypes context t →
      Stands walk (thrown m results structure beyond mark 0 labels below t)) (next : List Value → State → Reached) (ts : List PrimitiveTypeInfo)
      (goes_on : (us : List Value) (t : State) → types us ≡ ts → All IsValue us → HasTypes context t → Stands walk (next (below ++ us) t)) where
    answer_stands : (o : Answer) (others : List Value) (s : State) → HasTypes context s → others ≡ [] → EndsTyped context ts (answered o others s) →
        Stands walk (answered_by m results structure beyond next o others labels below s)
    answer_stands (Gives us gs r) others s h n k = goes_on us (record s { globals = gs ++ others; rest = r }) k.0 k.1 k.2
    answer_stands (Fails (met mark) gs r) others s h n k =
        thrown_on mark (record s { globals = gs ++ others; rest = r }) (behind_trap h gs others r n k.0 k.1)
    answer_stands (Fails cause gs r) others s h n k = tt

    -- what the world does on operands goes on with its values, or meets an exception
    pub called_stands : (i : Instruction) (vs : List Value) (s : State) → asked_types m i (types vs) ≡ Some ts → All IsValue vs → HasTypes context s →
        Stands walk (called m results structure beyond next i vs labels below s)
    called_stands i vs s call values typed =
        subst (λ (o : Option (List PrimitiveTypeInfo)). Stands walk (if is_some o then answered_by m results structure beyond next
        (s.world.answer i vs (own_globals s) s.rest) (s.world.others i vs (own_globals s) s.rest (further_globals s)) labels below s else Done Stuck))
        (sym call)
        (answer_stands (s.world.answer i vs (own_globals s) s.rest) _ s typed (others_none typed i vs (own_globals s)) (asked_typed typed i vs ts values call))
