-- Where instructions are replaced by others that run as they did, each piece runs as it did.
use Rattle.std.proofs.Common.{◌≡◌, ℕ, zero, suc, List, [], ◌∷◌, ◌++◌, refl, sym, ap, ap₂, ◌∙◌, subst}
use Rattle.std.specs.Prelude.{◌≢◌, map}
use Rattle.wasm_code.specs.Instruction.{Instruction}
use Rattle.wasm_code.specs.declared.operator.Operator.{Operator}
use Rattle.wasm_code.specs.declared.operator.Operator.TheVariants.{Instr}
use Rattle.wasm_types.specs.declared.types.PrimitiveTypeInfo.{PrimitiveTypeInfo}
use Rattle.wasm_execution.specs.Values.{Context, Outcome, Ends, Traps, Stuck, then_run, Value, types}
use Rattle.wasm_execution.specs.Machine.{run}
use Rattle.wasm_execution.specs.Agreement.{with_globals}
use Rattle.wasm_execution.specs.Laws.{Keeps}
use Rattle.wasm_execution.specs.OutcomeLemmas.{run_append}
use Rattle.wasm_execution.specs.StateLemmas.{with_more, Follows}
use Rattle.wasm_execution.specs.TypeLemmas.{run_keeps}
use Rattle.wasm_execution.specs.SameLemmas.{then_stuck, then_follows_run, run_follows}
use Rattle.wasm_equivalence.specs.control.Function.{and_structural, structural, cut, piece, RunsAs, RunsPieceByPiece}
use Rattle.wasm_equivalence.specs.control.Laws.{ReplacedCodeIsInOnePiece}

-- as operators
abbrev pub coded : List Instruction → List Operator
coded code = map (λ (i : Instruction). Instr i) code

module _ (context : Context) (requests : List PrimitiveTypeInfo) where
  -- ---- code before and behind

  runs_itself : (code : List Instruction) → RunsAs context requests code code
  runs_itself code stack requested s a h e n = run_follows context code requested stack s h a n

  runs_behind : (front old new : List Instruction) → RunsAs context requests old new → RunsAs context requests (front ++ old) (front ++ new)
  runs_behind front old new r stack requested s a h e n =
      let m = with_globals requested s in
      let first = run front stack s in
      let n' : then_run first (run old) ≢ Stuck = λ x. n (run_append front old stack s ∙ x) in
      let f = run_follows context front requested stack s h a (then_stuck (run old) first n') in
      let g = go f.0 (f.1 ∙ e) first (run_keeps context front stack s h a) n' in (
        g.0,
        g.1 ∙ f.1,
        run_append front new stack m ∙ (ap (λ o. then_run o (run new)) f.2 ∙ (g.2 ∙ ap (with_more g.0) (sym (run_append front old stack s)))),
      )
    where
      go : (after : List Value) → types after ≡ requests → (o : Outcome) → Keeps context o → then_run o (run old) ≢ Stuck →
          Follows after (then_run o (run old)) (then_run (with_more after o) (run new))
      go after e (Ends vs t) k n = r vs after t k.0 k.1 e n
      go after e (Traps cause gs p) k n = (after, refl, refl)
      go after e Stuck k n = absurd (n refl)

  runs_before : (back old new : List Instruction) → RunsAs context requests old new → RunsAs context requests (old ++ back) (new ++ back)
  runs_before back old new r stack requested s a h e n =
      let m = with_globals requested s in
      let first = run old stack s in
      let n' : then_run first (run back) ≢ Stuck = λ x. n (run_append old back stack s ∙ x) in
      let f = r stack requested s a h e (then_stuck (run back) first n') in
      let g = then_follows_run context requested back first (run new stack m) (run_keeps context old stack s h a) f n' (run_follows context back) in
      (g.0, g.1, run_append new back stack m ∙ (g.2 ∙ ap (with_more g.0) (sym (run_append old back stack s))))

  -- ---- pieces

  cut_runs : (o : Operator) (f g : ℕ → List Instruction) → ((k : ℕ) → RunsAs context requests (f k) (g k)) →
      (k : ℕ) → RunsAs context requests (cut o f k) (cut o g k)
  cut_runs (Instr i) f g h zero = runs_behind (i ∷ []) (f zero) (g zero) (h zero)
  cut_runs (Instr i) f g h (suc k) = h (suc k)
  cut_runs o f g h zero = runs_itself []
  cut_runs o f g h (suc k) = h k

  coded_first : (code : List Instruction) (back : List Operator) → piece (coded code ++ back) zero ≡ code ++ piece back zero
  coded_first [] back = refl
  coded_first (i ∷ code) back = ap (λ is. i ∷ is) (coded_first code back)

  coded_later : (code : List Instruction) (back : List Operator) (k : ℕ) → piece (coded code ++ back) (suc k) ≡ piece back (suc k)
  coded_later [] back k = refl
  coded_later (i ∷ code) back k = coded_later code back k

  replaced_runs : (own code : List Instruction) → RunsAs context requests own code → (front back : List Operator) →
      (k : ℕ) → RunsAs context requests (piece (front ++ (coded own ++ back)) k) (piece (front ++ (coded code ++ back)) k)
  replaced_runs own code r [] back zero =
      subst (λ (x : List Instruction × List Instruction). RunsAs context requests x.0 x.1)
      (sym (ap₂ (λ (x y : List Instruction). (x, y)) (coded_first own back) (coded_first code back)))
      (runs_before (piece back zero) own code r)
  replaced_runs own code r [] back (suc k) =
      subst (λ (x : List Instruction × List Instruction). RunsAs context requests x.0 x.1)
      (sym (ap₂ (λ (x y : List Instruction). (x, y)) (coded_later own back k) (coded_later code back k))) (runs_itself (piece back (suc k)))
  replaced_runs own code r (o ∷ front) back k =
      cut_runs o (piece (front ++ (coded own ++ back))) (piece (front ++ (coded code ++ back))) (replaced_runs own code r front back) k

coded_structure : (code : List Instruction) (back : List Operator) → structural (coded code ++ back) ≡ structural back
coded_structure [] back = refl
coded_structure (i ∷ code) back = coded_structure code back

pub replaced_structure : (own code : List Instruction) (front back : List Operator) →
    structural (front ++ (coded own ++ back)) ≡ structural (front ++ (coded code ++ back))
replaced_structure own code [] back = coded_structure own back ∙ sym (coded_structure code back)
replaced_structure own code (o ∷ front) back = ap (and_structural o) (replaced_structure own code front back)

pub replaced_piece : ReplacedCodeIsInOnePiece
replaced_piece = record {
  none = λ context requests body. record { structure = refl; pieces = λ k. runs_itself context requests (piece body k) };
  one = λ context requests old new h.
      subst (λ (x : List Operator × List Operator). RunsPieceByPiece context requests x.0 x.1)
      (sym (ap₂ (λ (x y : List Operator). (x, y)) h.old_is h.new_is)) (record {
        structure = replaced_structure h.own h.code h.front h.back;
        pieces = replaced_runs context requests h.own h.code h.runs h.front h.back;
      });
}
