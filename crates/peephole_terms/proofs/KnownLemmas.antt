-- A written body has known operators alone where the old one had.
use Rattle.std.proofs.Common.{◌≡◌, ℕ, zero, suc, Bool, true, false, cond, List, [], ◌∷◌, ◌++◌, map, take, drop, refl, sym, ap, ◌∙◌}
use Rattle.wasm_code.specs.Instruction.{Instruction}
use Rattle.wasm_code.specs.Operator.{is_known}
use Rattle.wasm_code.specs.Body.{are_known}
use Rattle.wasm_code.specs.declared.operator.Operator.{Operator}
use Rattle.wasm_code.specs.declared.operator.Operator.TheVariants.{Instr}
use Rattle.peephole_terms.specs.Written.{without_offsets}
use Rattle.peephole_terms.specs.Known.{KnownStayKnown}

abbrev known_alone : List Operator → Bool
known_alone [] = true
known_alone (o ∷ os) = cond (is_known o) (known_alone os) false

named_known : (xs : List (Operator × ℕ)) → are_known xs ≡ known_alone (without_offsets xs)
named_known [] = refl
named_known (x ∷ xs) = ap (λ (b : Bool). cond (is_known x.0) b false) (named_known xs)

both : (a b : Bool) → cond a b false ≡ true → (a ≡ true) × (b ≡ true)
both true b e = (refl, e)
both false b e = absurd cc

known_append : (os ps : List Operator) → known_alone os ≡ true → known_alone ps ≡ true → known_alone (os ++ ps) ≡ true
known_append [] ps a b = b
known_append (o ∷ os) ps a b =
    let parts = both (is_known o) (known_alone os) a in
    rw (parts.0) (known_append os ps parts.1 b)

known_take : (n : ℕ) (xs : List (Operator × ℕ)) → are_known xs ≡ true → are_known (take n xs) ≡ true
known_take zero xs a = refl
known_take (suc n) [] a = refl
known_take (suc n) (x ∷ xs) a =
    let parts = both (is_known x.0) (are_known xs) a in
    rw (parts.0) (known_take n xs parts.1)

known_drop : (n : ℕ) (xs : List (Operator × ℕ)) → are_known xs ≡ true → are_known (drop n xs) ≡ true
known_drop zero xs a = a
known_drop (suc n) [] a = refl
known_drop (suc n) (x ∷ xs) a = known_drop n xs (both (is_known x.0) (are_known xs) a).1

known_code : (code : List Instruction) → known_alone (map (λ (i : Instruction). Instr i) code) ≡ true
known_code [] = refl
known_code (i ∷ code) = known_code code

pub known_stay : KnownStayKnown
known_stay input operators start end code text r known =
    let front = without_offsets (take start operators) in
    let back = without_offsets (drop end operators) in
    let middle = map (λ (i : Instruction). Instr i) code in
    let all : known_alone (front ++ (middle ++ back)) ≡ true =
    known_append front (middle ++ back) (sym (named_known (take start operators)) ∙ known_take start operators known)
    (known_append middle back (known_code code) (sym (named_known (drop end operators)) ∙ known_drop end operators known)) in
    record {
      all = r.spells.all;
      last = r.spells.last;
      known = named_known r.again ∙ (ap known_alone r.are ∙ all);
    }
