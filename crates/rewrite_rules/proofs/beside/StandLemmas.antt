-- Code in the place of other code: what runs alike and what is valid alike, and the rows of the instructions that rules beside the table write.
use Rattle.std.proofs.Common.{◌≡◌, ℕ, List, [], ◌∷◌, ◌++◌, Option, Some, None, refl, sym, ap, ◌∙◌, subst}
use Rattle.std.specs.Prelude.{◌≢◌, map, option_map, option_and_then}
use Rattle.std.specs.List.{All}
use Rattle.std.proofs.lemmas.List.{append-nil}
use Rattle.wasm_code.specs.Instruction.{Instruction}
use Rattle.wasm_code.specs.Table.{table, row_at}
use Rattle.wasm_code.specs.declared.operator.Operator.TheVariants.{Instr}
use Rattle.wasm_types.specs.declared.types.PrimitiveTypeInfo.{PrimitiveTypeInfo}
use Rattle.wasm_execution.specs.Values.{Value, IsValue, Context, State, HasTypes, Ends, Stuck, local, global, above}
use Rattle.wasm_execution.specs.IntegerRow as row
use Rattle.wasm_execution.specs.IntegerRow.{IntegerRow, operand_count, integer_row}
use Rattle.wasm_execution.specs.Machine.{act, step, run}
use Rattle.wasm_execution.specs.Agreement.{with_globals}
use Rattle.wasm_execution.specs.RowLemmas.{and_then_some, map_some, step_at}
use Rattle.wasm_execution.specs.StateLemmas.{Follows}
use Rattle.wasm_execution.specs.SameLemmas.{run_follows}
use Rattle.wasm_equivalence.specs.control.Function.{RunsAs}
use Rattle.wasm_equivalence.specs.control.Wider.{wider}
use Rattle.wasm_equivalence.specs.validation.Algorithm.{Frame, check_row, check_code, Structural, check}
use Rattle.wasm_equivalence.specs.validation.StaysValid.{Pushes, MoreGlobalsCheckAlike, TypedCodePushes, RowTypesStay}
use Rattle.rewrite_rules.specs.Code.{types_behind, types_after}
use Rattle.rewrite_rules.specs.Instance.{StandsFor}
use Rattle.rewrite_rules.specs.Beside.{nop_code, drop_code, get_local, set_local, tee_local, get_global, set_global, StandsWith}
use Rattle.rewrite_rules.proofs.CodeLemmas.{behind}

-- ---- rows

pub nop_row : integer_row nop_code ≡ row.nop
unfolding integer_row table row_at
nop_row = refl

pub drop_row : integer_row drop_code ≡ row.discard
unfolding integer_row table row_at
drop_row = refl

pub get_local_row : (n : ℕ) → integer_row (get_local n) ≡ row.get (local n)
unfolding integer_row table row_at
get_local_row n = refl

pub set_local_row : (n : ℕ) → integer_row (set_local n) ≡ row.set (local n)
unfolding integer_row table row_at
set_local_row n = refl

pub tee_local_row : (n : ℕ) → integer_row (tee_local n) ≡ row.tee (local n)
unfolding integer_row table row_at
tee_local_row n = refl

pub get_global_row : (n : ℕ) → integer_row (get_global n) ≡ row.get (global n)
unfolding integer_row table row_at
get_global_row n = refl

pub set_global_row : (n : ℕ) → integer_row (set_global n) ≡ row.set (global n)
unfolding integer_row table row_at
set_global_row n = refl

-- ---- runs

-- a row without operands leaves its values on the stack
pub step_bare : (r : IntegerRow) (stack vs : List Value) (s m : State) → operand_count s.world.info r ≡ 0 → act r [] s ≡ Ends vs m →
    step r stack s ≡ Ends (stack ++ vs) m
step_bare r stack vs s m count e =
    ap (λ l. step r l s) (sym (append-nil stack)) ∙ (step_at r stack [] s count ∙ ap (above stack) e)

-- what is the same where the old code isn't stuck is so with further globals
pub runs_alike : (context : Context) (old new : List Instruction) →
    ((stack : List Value) (s : State) → All IsValue stack → HasTypes context s → run old stack s ≢ Stuck → run old stack s ≡ run new stack s) →
    (requests : List PrimitiveTypeInfo) → RunsAs context requests old new
runs_alike context old new same requests stack requested s hs h e n =
    let is = same stack s hs h n in
    subst (λ o. Follows requested o (run new stack (with_globals requested s))) (sym is)
    (run_follows context new requested stack s h hs (λ k. n (is ∙ k)))

-- ---- valid alike

-- typed code pushes its types, also with further globals
pub pushes_there : (push : TypedCodePushes) (stay : RowTypesStay) (context : Context) (input : List ℕ) (more : List PrimitiveTypeInfo)
    (code : List Instruction) (ts us : List PrimitiveTypeInfo) → types_after context code ts ≡ Some us → Pushes (wider input more context) code ts us
pushes_there push stay context input more [] ts us e =
    let same : ts ≡ us = cc in
    subst (Pushes (wider input more context) [] ts) same (push.nothing (wider input more context) ts)
pushes_there push stay context input more (i ∷ code) ts us e =
    let (ms, k, l) = and_then_some (types_after context code) (types_behind context i ts) us e in
    let b = behind context i ts ms k in
    let all = wider input more context in
    let one = push.above all (i ∷ []) b.below b.operands b.results
    (push.row all i b.operands b.results (stay context input more (integer_row i) b.operands b.results b.typed)) in
    push.follow all (i ∷ []) code ts ms us
    (subst (λ x. Pushes all (i ∷ []) x ms) (sym b.parts) (subst (Pushes all (i ∷ []) (b.below ++ b.operands)) (sym b.gives) one))
    (pushes_there push stay context input more code ms us l)

-- a body of these instructions alone, on one frame
check_alone : (context : Context) (steps : Structural) (k : ℕ) (code : List Instruction) (f : Frame) →
    check context steps k (map (λ (i : Instruction). Instr i) code) (f ∷ []) ≡ option_map (λ g. g ∷ []) (check_code context code f)
check_alone context steps k [] f = refl
check_alone context steps k (i ∷ code) f = go (check_row context (integer_row i) f) (check_alone context steps k code)
  where
    go : (o : Option Frame) →
        ((g : Frame) → check context steps k (map (λ (i : Instruction). Instr i) code) (g ∷ []) ≡ option_map (λ g. g ∷ []) (check_code context code g)) →
        option_and_then (check context steps k (map (λ (i : Instruction). Instr i) code)) (option_map (λ g. g ∷ []) o)
        ≡ option_map (λ g. g ∷ []) (option_and_then (check_code context code) o)
    go (Some g) next = next g
    go None next = refl

-- code that is valid stays so with further globals
pub code_wider : MoreGlobalsCheckAlike → (input : List ℕ) (more : List PrimitiveTypeInfo) (context : Context) (code : List Instruction) (f g : Frame) →
    check_code context code f ≡ Some g → check_code (wider input more context) code f ≡ Some g
code_wider law input more context code f g e =
    let all = wider input more context in
    let steps : Structural = λ k frames. None in
    let body = map (λ (i : Instruction). Instr i) code in
    let old : check context steps 0 body (f ∷ []) ≡ Some (g ∷ []) = check_alone context steps 0 code f ∙ ap (option_map (λ g. g ∷ [])) e in
    let new = sym (check_alone all steps 0 code f) ∙ (law context input more body).checks steps 0 (f ∷ []) (g ∷ []) old in
    let (h, there, same) = map_some (λ (g : Frame). g ∷ []) (check_code all code f) (g ∷ []) new in
    there ∙ ap (λ (g : Frame). Some g) (let is : h ≡ g = cc in is)

-- ---- nothing asked

pub unasked : (context : Context) (asked : List PrimitiveTypeInfo) (old new : List Instruction) → StandsFor context old new → StandsWith context asked old new
unasked context asked old new h = record {
  runs = λ more. h.runs (asked ++ more);
  checks = λ input more. h.checks input (asked ++ more);
}
