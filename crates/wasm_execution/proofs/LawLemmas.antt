-- A typed row keeps the types, and every module has a sound world.
use Rattle.std.proofs.Common.{◌≡◌, ℕ, zero, suc, ◌/◌, ◌%◌, ◌<◌, List, [], ◌∷◌, length, map, Option, Some, None, refl, sym, ap, ap₂, ◌∙◌, subst, arith}
use Rattle.std.specs.Prelude.{◌≢◌}
use Rattle.std.specs.List.{All}
use Rattle.std.proofs.lemmas.List.Elements.{All-nil, All-cons, All-head, All-tail}
use Rattle.std.proofs.lemmas.Nat.{div-mul-add, mod-mul-add}
use Rattle.std.proofs.Math.Nat.{mod-lt}
use Rattle.wasm_code.specs.Instruction.{Instruction}
use Rattle.wasm_types.specs.Module.{Module}
use Rattle.wasm_types.specs.declared.types.PrimitiveTypeInfo.{PrimitiveTypeInfo}
use Rattle.wasm_execution.specs.ExactRow.{ExactRow, exact_row}
use Rattle.wasm_execution.specs.Values.{asked_types, Value, IsValue, types, Answer, Gives, World, IsAnswer, IsSound, IsExact, Memories}
use Rattle.wasm_execution.specs.Values.{little, bytes_of_number, numbered, exactly}
use Rattle.wasm_execution.specs.Laws.{RowsEndTyped, SoundWorldsExist, ExactWorldsExist}
use Rattle.wasm_execution.specs.ExactLemmas.{numbered_types, numbered_are, allowed, exactly_is}
use Rattle.wasm_execution.specs.TypeLemmas.{act_typed, asked_of}

pub rows_end_typed : RowsEndTyped
rows_end_typed context row vs rs s h hv e = act_typed h row vs rs hv e

-- ---- memories in a number

pub written_back : (bs : List ℕ) → All (λ b. b < 256) bs → bytes_of_number (length bs) (little bs) ≡ bs
unfolding bytes_of_number
written_back [] h = refl
written_back (b ∷ bs) h =
    let small = All-head (λ (b : ℕ). b < 256) b bs h in
    ap₂ (λ (x : ℕ) (xs : List ℕ). x ∷ xs) (mod-mul-add (little bs) 256 b small)
    (ap (bytes_of_number (length bs)) (div-mul-add (little bs) 256 b small) ∙ written_back bs (All-tail (λ (b : ℕ). b < 256) b bs h))

pub bytes_are : (size n : ℕ) → All (λ b. b < 256) (bytes_of_number size n)
unfolding bytes_of_number
bytes_are zero n = All-nil (λ (b : ℕ). b < 256)
bytes_are (suc size) n =
    All-cons (λ (b : ℕ). b < 256) (n % 256) (bytes_of_number size (n / 256)) (mod-lt n (omega arith)) (bytes_are size (n / 256))

pub bytes_count : (size n : ℕ) → length (bytes_of_number size n) ≡ size
unfolding bytes_of_number
bytes_count zero n = refl
bytes_count (suc size) n = ap (λ k. suc k) (bytes_count size (n / 256))

pub none_of : (bs : List ℕ) → length bs ≡ 0 → bs ≡ []
none_of [] e = refl
none_of (b ∷ bs) e = absurd cc

-- the first memory has that size, and the rest is the number that its bytes are; others have no bytes
abbrev pub bytes_at : (size rest memory : ℕ) → List ℕ
bytes_at size rest zero = bytes_of_number size rest
bytes_at size rest (suc memory) = []

abbrev pub with_bytes_at : (rest memory : ℕ) → List ℕ → ℕ
with_bytes_at rest zero new = little new
with_bytes_at rest (suc memory) new = rest

abbrev pub memories_of : (size : ℕ) → Memories
memories_of size = record {
  bytes = bytes_at size;
  with_bytes = with_bytes_at;
  outside = 0;
  are_bytes = are;
  written = written;
  kept = kept;
}
  where
    are : (rest memory : ℕ) → All (λ b. b < 256) (bytes_at size rest memory)
    are rest zero = bytes_are size rest
    are rest (suc memory) = All-nil (λ (b : ℕ). b < 256)

    written : (rest memory : ℕ) (new : List ℕ) → length new ≡ length (bytes_at size rest memory) → All (λ b. b < 256) new →
        bytes_at size (with_bytes_at rest memory new) memory ≡ new
    written rest zero new e h = ap (λ k. bytes_of_number k (little new)) (sym (e ∙ bytes_count size rest)) ∙ written_back new h
    written rest (suc memory) new e h = sym (none_of new e)

    kept : (rest memory other : ℕ) (new : List ℕ) → other ≢ memory →
        bytes_at size (with_bytes_at rest memory new) other ≡ bytes_at size rest other
    kept rest zero zero new h = absurd (h refl)
    kept rest zero (suc other) new h = refl
    kept rest (suc memory) other new h = refl

-- ---- a world that is exact, where every other instruction gives zeros and changes nothing

abbrev pub results_or_none : Option (List PrimitiveTypeInfo) → List PrimitiveTypeInfo
results_or_none (Some ts) = ts
results_or_none _ = []

abbrev pub done_by : Memories → Option ExactRow → List PrimitiveTypeInfo → List ℕ → List Value → ℕ → Answer
done_by m (Some row) ts ns gs r = exactly m row ts ns gs r
done_by m None ts ns gs r = Gives (numbered ts 0) gs r

module _ (info : Module) (size : ℕ) where
  abbrev pub exact_world : World
  exact_world = record {
    info = info;
    answer = λ i operands globals rest.
        done_by (memories_of size) (exact_row i) (results_or_none (asked_types info i (types operands))) (map (λ v. v.number) operands) globals rest;
    others = λ i operands globals rest others. others;
  }

  answer_is : (i : Instruction) (ts : List PrimitiveTypeInfo) (ns : List ℕ) (gs : List Value) (r : ℕ) → types gs ≡ info.globals → All IsValue gs →
      (o : Option ExactRow) → exact_row i ≡ o → IsAnswer info i ts gs r (done_by (memories_of size) o ts ns gs r)
  answer_is i ts ns gs r e a (Some row) k = exactly_is info i (memories_of size) row ts ns gs r e a (allowed i row k)
  answer_is i ts ns gs r e a None k = (numbered_types ts 0, numbered_are ts 0, e, a, λ c. (refl, refl))

  is_exact : IsExact exact_world
  is_exact = record {
    memories = memories_of size;
    follows = λ i row results operands globals rest e t hv hg gv.
        ap₂ (λ (o : Option ExactRow) (ts : Option (List PrimitiveTypeInfo)).
        done_by (memories_of size) o (results_or_none ts) (map (λ v. v.number) operands) globals rest) e (asked_of info i (types operands) results t);
  }

  exact_sound : IsSound exact_world
  exact_sound = record {
    answers = λ i results operands globals rest e hv hg gv.
        subst (λ (ts : Option (List PrimitiveTypeInfo)).
        IsAnswer info i results globals rest (done_by (memories_of size) (exact_row i) (results_or_none ts) (map (λ v. v.number) operands) globals rest))
        (sym e) (answer_is i results (map (λ v. v.number) operands) globals rest hg gv (exact_row i) refl);
    kept = λ i operands globals rest others. refl;
    exact = λ h. is_exact;
  }

pub exact_worlds : ExactWorldsExist
unfolding is_exact
exact_worlds info size = (exact_world info size, refl, exact_sound info size, (is_exact info size, λ rest. bytes_count size rest))

pub sound_worlds : SoundWorldsExist
sound_worlds info = (exact_world info 0, refl, exact_sound info 0)
