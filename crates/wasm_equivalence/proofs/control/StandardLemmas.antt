-- The standard's control keeps the types, and sees nothing of what stands behind the module's globals.
use Rattle.std.proofs.Common.{ℕ, zero, suc, ◌-◌, List, [], ◌∷◌, ◌++◌, length, take, drop, Option, Some, None}
use Rattle.std.specs.Prelude.{slice_get}
use Rattle.std.specs.List.{All}
use Rattle.std.proofs.lemmas.List.Elements.{All-take, All-append}
use Rattle.wasm_code.specs.declared.immediate.BlockType.{BlockType}
use Rattle.wasm_code.specs.declared.operator.Operator.{Operator}
use Rattle.wasm_code.specs.declared.operator.Operator.TheVariants as op
use Rattle.wasm_types.specs.Module.{Module}
use Rattle.wasm_types.specs.declared.types.PrimitiveTypeInfo.{PrimitiveTypeInfo}
use Rattle.wasm_types.specs.declared.types.PrimitiveTypeInfo.TheVariants as primitive
use Rattle.wasm_execution.specs.Values.{Value, IsValue, unreachable, met}
use Rattle.wasm_equivalence.specs.control.Function.{Label, At}
use Rattle.wasm_equivalence.specs.control.Blocks.{function_arity, other_part, Role, handles, tries, catches, delegates, does, role_of}
use Rattle.wasm_equivalence.specs.control.Standard.{last_of, Target, calls, fails, Deed, gives, jumps, breaks, enters, returns, Beyond}
use Rattle.wasm_equivalence.specs.control.Standard.{label_at, done, other_at, leave, enter, branch, thrown, called, branch_by, branch_on}
use Rattle.wasm_equivalence.specs.control.Standard.{call_target, call_at, otherwise, close, skip, by_operator}
use Rattle.wasm_equivalence.specs.control.Laws.{StandardControlIsSound}
use Rattle.wasm_equivalence.proofs.control.FineLemmas.{Widening, widened, IsFine, at_fine, trap_fine, stuck_fine, with_rest, choose_fine, last_all}
use Rattle.wasm_equivalence.proofs.control.ThrownLemmas.{leave_fine, branch_fine, only_fine, thrown_fine}
use Rattle.wasm_equivalence.proofs.control.CalledLemmas.{called_fine}

module _ (widening : Widening) where
  open widening use {input, extra, context}

  module _ (m : Module) (results : List PrimitiveTypeInfo) (structure : List Operator) where
    otherwise_fine : (o : Option ℕ) (k : ℕ) (t : BlockType) (labels : List Label) (stack : List Value) → All IsValue stack →
        IsFine widening (otherwise m results structure o k t labels stack)
    otherwise_fine (Some e) k t labels stack a = at_fine widening _ _ _ a
    otherwise_fine None k t labels stack a = at_fine widening _ _ _ a

    close_fine : (next : ℕ) (labels : List Label) (stack : List Value) → All IsValue stack → IsFine widening (close m results structure next labels stack)
    close_fine next [] stack a = leave_fine widening m results structure stack a
    close_fine next (label ∷ outer) stack a = at_fine widening _ _ _ a

    skip_fine : (labels : List Label) (stack : List Value) → All IsValue stack → IsFine widening (skip m results structure labels stack)
    skip_fine [] stack a = stuck_fine widening
    skip_fine (label ∷ outer) stack a = at_fine widening _ _ _ a

    by_fine : (beyond : Beyond) (count k : ℕ) (t : PrimitiveTypeInfo) (i : ℕ) (labels : List Label) (stack : List Value) → All IsValue stack →
        IsFine widening (branch_by m results structure beyond count k t i labels stack)
    by_fine beyond count k primitive.I32 i labels stack a =
        branch_fine widening m results structure beyond (label_at (take count (beyond.labels k)) (beyond.default k) i) labels stack a
    by_fine beyond count k t i labels stack a = stuck_fine widening

    on_fine : (beyond : Beyond) (count k : ℕ) (vs : List Value) (labels : List Label) (stack : List Value) → All IsValue stack →
        IsFine widening (branch_on m results structure beyond count k vs labels stack)
    on_fine beyond count k [] labels stack a = stuck_fine widening
    on_fine beyond count k (c ∷ []) labels stack a = by_fine beyond count k c.type c.number labels stack a
    on_fine beyond count k (c ∷ d ∷ vs) labels stack a = stuck_fine widening

  module _ (results : List PrimitiveTypeInfo) (structure : List Operator) where
    abbrev m : Module
    m = context.info

    target_fine : (beyond : Beyond) (o : Target) (type k : ℕ) (labels : List Label) (stack : List Value) → All IsValue stack →
        IsFine widening (call_target m results structure beyond o type k labels stack)
    target_fine beyond (fails mark) type k labels stack a = trap_fine widening (met mark)
    target_fine beyond (calls i) type k labels stack a =
        let count = length (function_arity (slice_get m.types type)).starts in
        called_fine widening results structure beyond (At (suc k) labels) (at_fine widening (suc k) labels) i (last_of count stack) labels
        (take (length stack - count) stack) (last_all count stack a) (All-take IsValue (length stack - count) stack a)

    call_fine : (beyond : Beyond) (type k : ℕ) (vs : List Value) (labels : List Label) (stack : List Value) → All IsValue stack →
        IsFine widening (call_at m results structure beyond type k vs labels stack)
    call_fine beyond type k [] labels stack a = stuck_fine widening
    call_fine beyond type k (c ∷ []) labels stack a = record {
      keeps = λ s h. (target_fine beyond (beyond.target k c s.rest) type k labels stack a).keeps s h;
      follows = λ more s h n. (target_fine beyond (beyond.target k c s.rest) type k labels stack a).follows more s h n;
      alone = λ o s kept h. (target_fine beyond (beyond.target k c s.rest) type k labels stack a).alone o s kept h;
      wide = λ w v widens at ls gs r h. (target_fine beyond (beyond.target k c r) type k labels stack a).wide w v widens at ls gs r h;
    }
    call_fine beyond type k (c ∷ d ∷ vs) labels stack a = stuck_fine widening

    -- ---- other operators

    both_all : (below vs : List Value) → All IsValue below → All IsValue vs → All IsValue (below ++ vs)
    both_all below vs a b = All-append IsValue below vs a b

    done_fine : (beyond : Beyond) (d : Deed) (k : ℕ) (labels : List Label) (below : List Value) → All IsValue below →
        IsFine widening (done m results structure beyond d k labels below)
    done_fine beyond (gives vs r) k labels below a = only_fine widening m results structure vs (λ s. At (suc k) labels (below ++ vs) (record s { rest = r }))
        (λ b. with_rest widening r (λ s. At (suc k) labels (below ++ vs) s) (at_fine widening (suc k) labels (below ++ vs) (both_all below vs a b)))
    done_fine beyond (jumps l vs r) k labels below a =
        only_fine widening m results structure vs (λ s. branch m results structure beyond l labels (below ++ vs) (record s { rest = r }))
        (λ b. with_rest widening r (branch m results structure beyond l labels (below ++ vs))
        (branch_fine widening m results structure beyond l labels (below ++ vs) (both_all below vs a b)))
    done_fine beyond (breaks mark r) k labels below a =
        with_rest widening r (thrown m results structure beyond mark 0 labels below) (thrown_fine widening m results structure beyond mark 0 labels below a)
    done_fine beyond (enters i vs) k labels below a =
        only_fine widening m results structure vs (called m results structure beyond (At (suc k) labels) i vs labels below)
        (λ b. called_fine widening results structure beyond (At (suc k) labels) (at_fine widening (suc k) labels) i vs labels below b a)
    done_fine beyond (returns i vs) k labels below a =
        only_fine widening m results structure vs (called m results structure beyond (leave m results structure) i vs [] below)
        (λ b. called_fine widening results structure beyond (leave m results structure) (leave_fine widening m results structure) i vs [] below b a)

    other_fine : (role : Role) (beyond : Beyond) (k : ℕ) (labels : List Label) (stack : List Value) → All IsValue stack →
        IsFine widening (other_at m results structure role beyond k labels stack)
    other_fine handles beyond k labels stack a = at_fine widening _ _ _ a
    other_fine tries beyond k labels stack a = at_fine widening _ _ _ a
    other_fine catches beyond k labels stack a = skip_fine m results structure labels stack a
    other_fine delegates beyond k labels stack a = close_fine m results structure (suc k) labels stack a
    other_fine does beyond k labels stack a =
        let n = length (beyond.takes k) in
        let below = take (length stack - n) stack in
        let deed = beyond.deed k (last_of n stack) in
        let b : All IsValue below = All-take IsValue (length stack - n) stack a in
        record {
          keeps = λ s h. (done_fine beyond (deed s.rest) k labels below b).keeps s h;
          follows = λ more s h n. (done_fine beyond (deed s.rest) k labels below b).follows more s h n;
          alone = λ o s kept h. (done_fine beyond (deed s.rest) k labels below b).alone o s kept h;
          wide = λ w v widens at ls gs r h. (done_fine beyond (deed r) k labels below b).wide w v widens at ls gs r h;
        }

    operator_fine : (beyond : Beyond) (o : Option Operator) (k : ℕ) (labels : List Label) (stack : List Value) → All IsValue stack →
        IsFine widening (by_operator m results structure beyond o k labels stack)
    operator_fine beyond (Some (op.Block t)) k labels stack a = at_fine widening _ _ _ a
    operator_fine beyond (Some (op.Loop t)) k labels stack a = at_fine widening _ _ _ a
    operator_fine beyond (Some (op.If t)) k labels stack a =
        let below = take (length stack - 1) stack in
        let b : All IsValue below = All-take IsValue (length stack - 1) stack a in
        choose_fine widening (last_of 1 stack) (enter m results structure k t labels below)
        (otherwise m results structure (other_part zero (suc k) (drop (suc k) structure)) k t labels below) (at_fine widening _ _ _ b)
        (otherwise_fine m results structure (other_part zero (suc k) (drop (suc k) structure)) k t labels below b)
    operator_fine beyond (Some op.Else) k labels stack a = skip_fine m results structure labels stack a
    operator_fine beyond (Some op.End) k labels stack a = close_fine m results structure (suc k) labels stack a
    operator_fine beyond (Some (op.Br l)) k labels stack a = branch_fine widening m results structure beyond l labels stack a
    operator_fine beyond (Some (op.BrIf l)) k labels stack a =
        let below = take (length stack - 1) stack in
        let b : All IsValue below = All-take IsValue (length stack - 1) stack a in
        choose_fine widening (last_of 1 stack) (branch m results structure beyond l labels below) (λ s. At (suc k) labels below s)
        (branch_fine widening m results structure beyond l labels below b) (at_fine widening _ _ _ b)
    operator_fine beyond (Some (op.BrTable n)) k labels stack a =
        on_fine m results structure beyond n k (last_of 1 stack) labels (take (length stack - 1) stack) (All-take IsValue (length stack - 1) stack a)
    operator_fine beyond (Some op.Return) k labels stack a = leave_fine widening m results structure stack a
    operator_fine beyond (Some op.Unreachable) k labels stack a = trap_fine widening unreachable
    operator_fine beyond (Some (op.CallIndirect type table)) k labels stack a =
        call_fine beyond type k (last_of 1 stack) labels (take (length stack - 1) stack) (All-take IsValue (length stack - 1) stack a)
    operator_fine beyond (Some (op.Other o)) k labels stack a = other_fine (role_of o) beyond k labels stack a
    operator_fine beyond None k labels stack a = stuck_fine widening
    operator_fine beyond (Some o) k labels stack a = stuck_fine widening

pub standard_sound : StandardControlIsSound
standard_sound = record {
  sound = λ context results structure beyond. record {
    keeps = λ k labels stack s a h. (operator_fine (widened [] [] context) results structure beyond (slice_get structure k) k labels stack a).keeps s h;
    follows = λ k labels stack more s a h n.
        (operator_fine (widened [] [] context) results structure beyond (slice_get structure k) k labels stack a).follows more s h n;
    alone = λ o k labels stack s kept a h.
        (operator_fine (widened [] [] context) results structure beyond (slice_get structure k) k labels stack a).alone o s kept h;
  };
  wide = λ input more context results structure beyond w v widens at k labels stack ls gs r a h.
      (operator_fine (widened input more context) results structure beyond (slice_get structure k) k labels stack a).wide w v widens at ls gs r h;
}
