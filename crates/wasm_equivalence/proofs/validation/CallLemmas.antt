-- Calls through tables in a valid body.
use Rattle.std.proofs.Common.{◌≡◌, ℕ, suc, ◌-◌, ◌<◌, List, [], ◌∷◌, ◌++◌, length, take, Some, refl, sym, ap, ap₂, ◌∙◌, subst, arith, append_assoc, append-nil}
use Rattle.std.specs.Prelude.{slice_get, option_map}
use Rattle.std.specs.List.{All}
use Rattle.std.proofs.lemmas.List.Elements.{All-append}
use Rattle.wasm_code.specs.declared.operator.Operator.TheVariants as op
use Rattle.wasm_types.specs.Module.{Module}
use Rattle.wasm_execution.specs.Values.{asked_types, Value, IsValue, types, State, HasTypes}
use Rattle.wasm_execution.specs.OutcomeLemmas.{length_types}
use Rattle.wasm_execution.specs.RowLemmas.{map_some}
use Rattle.wasm_equivalence.specs.control.Function.{Label, At}
use Rattle.wasm_equivalence.specs.control.Blocks.{function_arity, table_index_type, call_arity}
use Rattle.wasm_equivalence.specs.control.Standard.{last_of, Target, calls, fails, called, call_target, call_at}
use Rattle.wasm_equivalence.specs.validation.Algorithm.{Frame, on_innermost}
use Rattle.wasm_equivalence.specs.validation.StandardSteps.{pop, push, can_call_indirect}
use Rattle.wasm_equivalence.specs.validation.Sound.{HasValues}
use Rattle.wasm_equivalence.proofs.validation.PoppedLemmas.{pop_values, push_values, last_is, front_is, last_value}
use Rattle.wasm_equivalence.proofs.validation.RunChecks.{if_some}
use Rattle.wasm_equivalence.proofs.validation.FrameLemmas.{Like, like_itself, like_then}
use Rattle.wasm_equivalence.proofs.validation.ThrowLemmas.{thrown_stands, called_stands}
use Rattle.wasm_equivalence.proofs.validation.WalkLemmas.{Walk, all_front, all_behind, Fits, top_of, Stands, Next}

module _ (walk : Walk) where
  open walk use {context, results, structure, beyond, trace, targets}

  abbrev m : Module
  m = context.info

  target_stands : (type table k rest : ℕ) (place : Value) (q : Frame) (outer : List Frame) (labels : List Label) (below vs ws : List Value)
      (s : State) (t : Target) → beyond.target k place rest ≡ t → k < length structure → slice_get structure k ≡ Some (op.CallIndirect type table) →
      trace.frames (suc k) ≡ push (function_arity (slice_get m.types type)).ends q ∷ outer →
      ((f : Frame) (us : List Value) → Like f q → HasValues f us → Fits walk f outer labels (below ++ us)) →
      HasValues q vs → types ws ≡ (function_arity (slice_get m.types type)).starts →
      All IsValue (below ++ (vs ++ ws)) → HasTypes context s → Stands walk (call_target m results structure beyond t type k labels (below ++ (vs ++ ws)) s)
  target_stands type table k rest place q outer labels below vs ws s (fails mark) is l at e again v w a typed = tt
  target_stands type table k rest place q outer labels below vs ws s (calls i) is l at e again v w a typed =
      let f = function_arity (slice_get m.types type) in
      let whole : (below ++ vs) ++ ws ≡ below ++ (vs ++ ws) = append_assoc below vs ws in
      let split : All IsValue ((below ++ vs) ++ ws) = subst (All IsValue) (sym whole) a in
      let base : All IsValue (below ++ vs) = all_front (below ++ vs) ws split in
      let operands : All IsValue ws = all_behind (below ++ vs) ws split in
      let count : length f.starts ≡ length ws = sym (ap length w) ∙ length_types ws in
      let ends : asked_types m i (types ws) ≡ Some f.ends = ap (asked_types m i) w ∙ targets k type table rest place i at is in
      let rests : Fits walk q outer labels (below ++ vs) = again q vs (like_itself q) v in
      subst (λ (z : List Value). Stands walk (called m results structure beyond (At (suc k) labels) i (last_of (length f.starts) z) labels
      (take (length z - length f.starts) z) s)) whole
      (subst (λ (z : List Value × List Value). Stands walk (called m results structure beyond (At (suc k) labels) i z.1 labels z.0 s))
      (ap₂ (λ (x y : List Value). (x, y)) (sym (front_is (below ++ vs) ws (length f.starts) count)) (sym (last_is (below ++ vs) ws (length f.starts) count)))
      (called_stands walk labels (below ++ vs)
      (λ mark t h. thrown_stands walk mark 0 q outer labels (below ++ vs) [] (below ++ vs) t rests (sym (append-nil (below ++ vs))) base h)
      (At (suc k) labels) f.ends
      (λ us t typed_us all h. (
        omega arith,
        push f.ends q,
        outer,
        e,
        subst (Fits walk (push f.ends q) outer labels) (sym (append_assoc below vs us))
            (again (push f.ends q) (vs ++ us) (record { opened = refl; starts = refl; ends = refl }) (push_values f.ends q vs us v typed_us)),
        All-append IsValue (below ++ vs) us base all,
        h,
      )) i ws s ends operands typed))

  pub call_stands : (type table k : ℕ) → k < length structure → slice_get structure k ≡ Some (op.CallIndirect type table) →
      Next walk k (op.CallIndirect type table)
  call_stands type table k l at g outer labels stack s fits e a typed =
      let f = function_arity (slice_get m.types type) in
      let ar = call_arity m type table in
      let next = trace.frames (suc k) in
      let (can, b) = if_some (can_call_indirect m type table) (on_innermost (λ g. option_map (push ar.ends) (pop ar.starts g)) (g ∷ outer)) next e in
      let (h, c, d) = map_some (λ (h : Frame). h ∷ outer) (option_map (push ar.ends) (pop ar.starts g)) next b in
      let (q, u, v) = map_some (push ar.ends) (pop ar.starts g) h c in
      let top = top_of walk g outer labels stack fits in
      let p = pop_values ar.starts g q top.vs top.values u in
      let (ws, place, parts, typed_parts) = last_value p.top f.starts (table_index_type (slice_get m.tables table)) p.typed in
      let base = top.below ++ (p.rest ++ ws) in
      let whole : stack ≡ base ++ place ∷ [] =
      top.is ∙ (ap (λ (x : List Value). top.below ++ x) (p.is ∙ (ap (λ (x : List Value). p.rest ++ x) parts ∙
      sym (append_assoc p.rest ws (place ∷ [])))) ∙ sym (append_assoc top.below (p.rest ++ ws) (place ∷ []))) in
      let it : Stands walk (call_target m results structure beyond (beyond.target k place s.rest) type k labels base s) =
      target_stands type table k s.rest place q outer labels top.below p.rest ws s (beyond.target k place s.rest) refl l at
      (sym d ∙ ap (λ (z : Frame). z ∷ outer) (sym v))
      (λ x us like values. top.again x us (like_then like p.like) values)
      p.left typed_parts (all_front base (place ∷ []) (subst (All IsValue) whole a)) typed in
      subst (λ (z : List Value). Stands walk (call_at m results structure beyond type k (last_of 1 z) labels (take (length z - 1) z) s)) (sym whole)
      (subst (λ (z : List Value). Stands walk (call_at m results structure beyond type k z labels
      (take (length (base ++ place ∷ []) - 1) (base ++ place ∷ [])) s))
      (sym (last_is base (place ∷ []) 1 refl))
      (subst (λ (z : List Value). Stands walk (call_at m results structure beyond type k (place ∷ []) labels z s))
      (sym (front_is base (place ∷ []) 1 refl)) it))
