-- Constants of floats by their bits, and of vectors by their complements.
use Rattle.std.proofs.Common.{◌≡◌, ℕ, ◌%◌, ◌^◌, ◌<◌, true, List, [], ◌∷◌, ◌++◌, Some, refl, sym, ap, ◌∙◌, lit<, ℤ, pos, negsuc, neg_ℤ, ◌≤ℤ◌, ◌<ℤ◌, arith}
use Rattle.std.specs.Prelude.{bit_xor, option_and_then}
use Rattle.std.specs.Int.{w32, w64, w128, cast_signed, cast_unsigned}
use Rattle.std.proofs.Math.Nat.{mod-eq_of_lt, mod-mod}
use Rattle.std.proofs.lemmas.Int.{ints, of_z-to_z}
use Rattle.std.proofs.lemmas.List.{append-nil}
use Rattle.std.proofs.lemmas.List.Elements.{All-nil}
use Rattle.std.proofs.lemmas.Nat.{xor_comm, xor_lt}
use mir.Val.{bits}
use Rattle.wasm_code.specs.Instruction.{Instruction}
use Rattle.wasm_types.specs.Module.{Module}
use Rattle.wasm_types.specs.declared.types.PrimitiveTypeInfo.{PrimitiveTypeInfo}
use Rattle.wasm_execution.specs.declared.integer.IntegerType.{IntegerType}
use Rattle.wasm_execution.specs.ExactRow.{computes, none_to, ones, exact_row}
use Rattle.wasm_execution.specs.IntegerRow.{constant, other, operand_count, typed_operand_count, integer_row}
use Rattle.wasm_execution.specs.OtherRow.{names_in, other_type}
use Rattle.wasm_execution.specs.Values.{type_of, width_of, of_bits, results_on, Value, IsValue, IsOfType, Context, State, HasTypes, Ends, then_run, above}
use Rattle.wasm_execution.specs.Machine.{step, run}
use Rattle.wasm_execution.specs.OutcomeLemmas.{run_append, run_one}
use Rattle.wasm_execution.specs.RowLemmas.{step_at}
use Rattle.wasm_equivalence.specs.control.Wider.{wider}
use Rattle.wasm_equivalence.specs.validation.Algorithm.{Frame, check_code}
use Rattle.wasm_equivalence.specs.validation.StaysValid.{with_types, MoreGlobalsCheckAlike}
use Rattle.rewrite_rules.specs.declared.access.Conversion.{Conversion}
use Rattle.rewrite_rules.specs.Access.{conversion_code}
use Rattle.rewrite_rules.specs.Beside.{StandsWith}
use Rattle.rewrite_rules.proofs.identities.NumberLemmas.{twice_complement}
use Rattle.rewrite_rules.proofs.beside.AccessLemmas.{exactly_acts, same_globals, Follows}
use Rattle.rewrite_rules.proofs.beside.FrameLemmas.{check_both, constant_pushes, other_takes, pushed_none}
use Rattle.rewrite_rules.proofs.beside.StandLemmas.{runs_alike, code_wider}

module _ (context : Context) where
  -- What is known of code that leaves one value, whatever stands there.
  pub record Leaves (code : List Instruction) (t : PrimitiveTypeInfo) (n : ℕ) : Type 0 where
    pub pushes : (all : Context) (f : Frame) → check_code all code f ≡ Some (with_types (t ∷ []) f)
    pub runs : (stack : List Value) (s : State) → HasTypes context s → run code stack s ≡ Ends (stack ++ record { type = t; number = n } ∷ []) s

  -- two such codes that leave the same
  pub leave_alike : MoreGlobalsCheckAlike → (old new : List Instruction) (t : PrimitiveTypeInfo) (n : ℕ) → Leaves old t n → Leaves new t n →
      StandsWith context [] old new
  leave_alike wide old new t n is its = record {
    runs = λ more. runs_alike context old new (λ stack s hs h q. is.runs stack s h ∙ sym (its.runs stack s h)) more;
    checks = λ input more f g e.
        let all = wider input more context in
        its.pushes all f ∙ (sym (is.pushes all f) ∙ code_wider wide input more context old f g e);
  }

  -- an integer constant
  pub whole_leaves : (i : Instruction) (t : IntegerType) (n : ℕ) → integer_row i ≡ constant t n → Leaves (i ∷ []) (type_of t) (n % 2 ^ bits (width_of t))
  whole_leaves i t n own = record {
    pushes = λ all f. constant_pushes all i t n own f;
    runs = λ stack s h.
        run_one i (constant t n) stack s own
        ∙ (ap (λ l. step (constant t n) l s) (sym (append-nil stack)) ∙ step_at (constant t n) stack [] s refl);
  }

  module _ (exact : context.info.exact ≡ true) where
    -- one of another type
    pub bits_leave : (i : Instruction) (t : PrimitiveTypeInfo) (n : ℕ) → integer_row i ≡ other i →
        ((info : Module) → other_type (names_in info i.imm) i ≡ Some (record { operands = []; results = t ∷ [] })) →
        exact_row i ≡ Some (computes (none_to n)) → Leaves (i ∷ []) t (of_bits t n)
    bits_leave i t n own typed is = record {
      pushes = λ all f. other_takes all i (record { operands = []; results = t ∷ [] }) own (typed all.info) f ∙ pushed_none (t ∷ []) f;
      runs = λ stack s h.
          let count : operand_count s.world.info (integer_row i) ≡ 0 = ap (operand_count s.world.info) own ∙ ap typed_operand_count (typed s.world.info) in
          run_one i (integer_row i) stack s refl
          ∙ (ap (λ l. step (integer_row i) l s) (sym (append-nil stack))
          ∙ (step_at (integer_row i) stack [] s count
          ∙ ap (above stack) (exactly_acts context exact i (computes (none_to n)) [] (t ∷ []) s h own is
          (ap (option_and_then (results_on [])) (typed context.info)) (All-nil IsValue)
          ∙ same_globals context exact (record { type = t; number = of_bits t n } ∷ []) s)));
    }

    -- and what is done with it
    pub then_leaves : (i : Instruction) (c : Conversion) (t u : PrimitiveTypeInfo) (n : ℕ) (f : ℕ → ℕ) → Leaves (i ∷ []) t n → IsOfType t n →
        Follows context exact c t u f → Leaves (i ∷ conversion_code c) u (f n)
    then_leaves i c t u n f is fits next = record {
      pushes = λ all g. check_both all (i ∷ []) (conversion_code c) g
          ∙ (ap (option_and_then (check_code all (conversion_code c))) (is.pushes all g) ∙ next.pushes all g);
      runs = λ stack s h.
          run_append (i ∷ []) (conversion_code c) stack s
          ∙ (ap (λ o. then_run o (run (conversion_code c))) (is.runs stack s h)
          ∙ next.runs stack (record { type = t; number = n }) s h fits refl);
    }

-- ---- numbers

pub same_bits_32 : (n : ℕ) → n < 2 ^ 32 → n % 2 ^ 32 ≡ cast_unsigned w32 (cast_signed w32 n) % 2 ^ 32 % 2 ^ 32
same_bits_32 n h = sym (mod-mod (cast_unsigned w32 (cast_signed w32 n)) (2 ^ 32) ∙ ap (λ x. x % 2 ^ 32) (of_z-to_z w32 n h))

pub same_bits_64 : (n : ℕ) → n < 2 ^ 64 → n % 2 ^ 64 ≡ cast_unsigned w64 (cast_signed w64 n) % 2 ^ 64 % 2 ^ 64
same_bits_64 n h = sym (mod-mod (cast_unsigned w64 (cast_signed w64 n)) (2 ^ 64) ∙ ap (λ x. x % 2 ^ 64) (of_z-to_z w64 n h))

-- the bits of a vector
pub vector_fits : (z : ℤ) → (neg_ℤ (pos (2 ^ 127)) ≤ℤ z) × (z <ℤ pos (2 ^ 127)) → cast_unsigned w128 z < 2 ^ 128
vector_fits (pos m) h = omega (arith, ints, h.1)
vector_fits (negsuc m) h = omega arith

below_ones : ones < 2 ^ 128
below_ones = lit< tt

-- the other bits, and all of them turned once more
pub other_back : (n : ℕ) → n < 2 ^ 128 → n % 2 ^ 128 ≡ bit_xor ones (cast_unsigned w128 (cast_signed w128 (bit_xor n ones)) % 2 ^ 128) % 2 ^ 128
other_back n h =
    let x = bit_xor n ones in
    let small : x < 2 ^ 128 = xor_lt 128 n ones h below_ones in
    mod-eq_of_lt h
    ∙ sym (ap (λ m. bit_xor ones (m % 2 ^ 128) % 2 ^ 128) (of_z-to_z w128 x small)
    ∙ (ap (λ m. m % 2 ^ 128) (xor_comm ones (x % 2 ^ 128)) ∙ twice_complement 128 n h))

pub other_bits_are : (n : ℕ) → n < 2 ^ 128 → bit_xor ones (n % 2 ^ 128) % 2 ^ 128 ≡ cast_unsigned w128 (cast_signed w128 (bit_xor n ones)) % 2 ^ 128
other_bits_are n h =
    let x = bit_xor n ones in
    let small : x < 2 ^ 128 = xor_lt 128 n ones h below_ones in
    ap (λ m. m % 2 ^ 128) (xor_comm ones (n % 2 ^ 128) ∙ ap (λ m. bit_xor m ones) (mod-eq_of_lt h)) ∙ sym (ap (λ m. m % 2 ^ 128) (of_z-to_z w128 x small))
