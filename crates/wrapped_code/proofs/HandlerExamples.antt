-- Why functions with a block that catches exceptions are left out: a `try` whose part is told by its number does something else once a block stands before
-- that part.
use Rattle.std.proofs.Common.{◌≡◌, refl, sym, ap₂, ◌∙◌, subst, false, [], ◌∷◌, Some, None}
use Rattle.wasm_code.specs.declared.immediate.BlockType.TheVariants as type
use Rattle.wasm_code.specs.declared.immediate.Imm.TheVariants as imm
use Rattle.wasm_code.specs.Instruction.{Instruction}
use Rattle.wasm_code.specs.declared.operator.Operator.TheVariants as op
use Rattle.wasm_code.specs.declared.other.Other.TheVariants as others
use Rattle.wasm_code.specs.Table.{row_at, table}
use Rattle.wasm_types.specs.Module.{Module}
use Rattle.wasm_execution.specs.Values.{State, HasTypes, Ends, Stuck}
use Rattle.wasm_execution.specs.Agreement.{with_globals}
use Rattle.wasm_execution.specs.IntegerRow.{integer_row}
use Rattle.wasm_equivalence.specs.control.Function.{structural, Reached, At, Done, runs, FollowsEnd}
use Rattle.wasm_equivalence.specs.control.Standard.{begins, breaks, fails, Beyond, by_asked, standard}
use Rattle.wasm_equivalence.specs.modules.Program.{Body, function_context}
use Rattle.wasm_equivalence.specs.hosts.Embedder.{DoesAs}
use Rattle.wrapped_code.specs.Wrapped.{Wrapped, plain, block, written}
use Rattle.wrapped_code.specs.Handlers.{none_handle}

abbrev nothing : Instruction
nothing = record { row = 0; imm = imm.Nothing }

-- try; the code; throw 0; catch 0; end; end
abbrev tried : Wrapped → Body
tried c = record {
  params = [];
  locals = [];
  operators = op.Other (others.Byte 0x06) ∷ written c (op.Other (others.Byte 0x08) ∷ op.Other (others.Byte 0x07) ∷ op.End ∷ op.End ∷ []);
}

abbrev old : Body
old = tried (plain (nothing ∷ []))

abbrev new : Body
new = tried (block type.Empty (plain (nothing ∷ [])))

-- the exception is caught by the part that begins with the operator of number 2
abbrev second : Beyond
second = record {
  labels = λ k. [];
  default = λ k. 0;
  target = λ k c r. fails 0;
  takes = λ k. [];
  deed = λ k vs r. breaks 0 r;
  leaves = λ k. None;
  label = λ k. None;
  catcher = λ k mark r. Some (begins 2 [] r);
  clauses = λ k. [];
}

refused : none_handle old.operators ≡ false
refused = refl

RunOf : Module → Body → State → Reached
RunOf m b s = runs (standard m [] (structural b.operators) (by_asked (structural b.operators) second)) b.operators 1 (At 0 [] [] s)

old_ends : (m : Module) (s : State) → RunOf m old s ≡ Done (Ends [] s)
unfolding RunOf integer_row row_at table
old_ends m s = refl

-- it throws again, from outside the `try`
new_throws : (m : Module) (s : State) → RunOf m new s ≡ At 3 (record { opener = 2; height = 0 } ∷ []) [] s
unfolding RunOf integer_row row_at table
new_throws m s = refl

differ : (m : Module) (s : State) → HasTypes (function_context m old) s → DoesAs m [] [] old new → ⊥
unfolding RunOf
differ m s h d =
    let t = with_globals [] s in
    let are : ◌≡◌ {A = Reached × Reached} (RunOf m old s, RunOf m new t) (Done (Ends [] s), At 3 (record { opener = 2; height = 0 } ∷ []) [] t) =
    ap₂ (λ (p q : Reached). (p, q)) (old_ends m s) (new_throws m t) in
    subst (λ (x : Reached × Reached). FollowsEnd [] x.0 x.1) are
    (d.alike [] second 1 [] s h refl (λ e. not_stuck s (sym (old_ends m s) ∙ e)))
  where
    not_stuck : (s : State) → ◌≡◌ {A = Reached} (Done (Ends [] s)) (Done Stuck) → ⊥
    not_stuck s e = absurd cc
