-- Where a pattern stands in any way, what is found stands there.
use Rattle.std.proofs.Common.{◌≡◌, ℕ, zero, suc, Bool, ◌⊎◌, inl, inr, true, false, List, [], ◌∷◌, refl, sym, ap, ap₂, subst, ◌∙◌, arith}
use Rattle.std.specs.Prelude.{◌==◌, ◌||◌, if◌then◌else◌}
use Rattle.std.specs.List.{All}
use Rattle.std.proofs.lemmas.Bool.{eqb-true, eq-eqb, false≢true}
use Rattle.std.proofs.lemmas.List.Elements.{All-head, All-tail}
use Rattle.std.proofs.Math.Nat.{mod-mod}
use Rattle.wasm_code.specs.Instruction.{Instruction}
use Rattle.wasm_execution.specs.declared.integer.IntegerType.{IntegerType}
use Rattle.wasm_execution.specs.Values.{Context}
use Rattle.rewrite_rules.specs.declared.pattern.Number.TheVariants.{Literal, Ones, Bits, Sign, Slot, Turned, Next, Previous, Negated, Power, Place, Sum}
use Rattle.rewrite_rules.specs.declared.pattern.Part.{Part}
use Rattle.rewrite_rules.specs.declared.pattern.Part.TheVariants.{Hole, Constant, Drawn, Apply}
use Rattle.rewrite_rules.specs.Numbers.{low, constant_at}
use Rattle.rewrite_rules.specs.Parts.{part_code}
use Rattle.body_rewrites.specs.Trees.{Stands}
use Rattle.body_rewrites.specs.Cutting.{HasPart, AreCut}
use Rattle.body_rewrites.specs.Matching.{is_hole, is_slot, operand_at, instructions, operators_in, operand_code, number_at, slot_at}
use Rattle.body_rewrites.specs.Matching.{AreAlike, AreAllAlike, is_own, IsOwn, AreOwn, HasSomeMatch}
use Rattle.body_rewrites.proofs.StandsLemmas.{Operators}
use Rattle.body_rewrites.proofs.CutLemmas.{one_place}
use Rattle.body_rewrites.proofs.AlikeLemmas.{by_low, code_there, alike_constant}

pub one_cut : (context : Context) (operators : Operators) (ps : List Part) (ks ms : List ℕ) (end : ℕ) → AreCut context operators ps ks end →
    AreCut context operators ps ms end → ks ≡ ms
one_cut context operators [] [] [] end a b = refl
one_cut context operators [] [] (m ∷ ms) end a b = absurd b
one_cut context operators [] (k ∷ ks) ms end a b = absurd a
one_cut context operators (p ∷ ps) [] ms end a b = absurd a
one_cut context operators (p ∷ ps) (k ∷ ks) [] end a b = absurd b
one_cut context operators (p ∷ ps) (k ∷ ks) (m ∷ ms) end (h, a) (g, b) =
    let same = one_place context operators p k m end h g in
    ap₂ (λ n ns. n ∷ ns) same (one_cut context operators ps ks ms m (subst (AreCut context operators ps ks) same a) b)

pub or_first : (a b : Bool) → a ≡ true → (a || b) ≡ true
or_first true b e = refl
or_first false b e = absurd (false≢true e)

pub or_second : (a b : Bool) → b ≡ true → (a || b) ≡ true
or_second true b e = refl
or_second false b e = e

-- one of the parts is so
abbrev pub some_is : (Part → Bool) → List Part → Bool
some_is f [] = false
some_is f (p ∷ ps) = f p || some_is f ps

module _ (context : Context) (operators : Operators) (t : IntegerType) (x : ℕ → List Instruction) (numbers : List ℕ) where
  abbrev code_in : ℕ × ℕ → List Instruction
  code_in place = instructions (operators_in operators place.0 place.1)

  hole_is : (p : Part) (n start end : ℕ) → is_hole p n ≡ true → Stands operators start end (part_code x (constant_at numbers) [] p) →
      instructions (operators_in operators start end) ≡ x n
  hole_is (Hole m) n start end e h = code_there operators start end (x m) h ∙ ap x (eqb-true m n e)
  hole_is (Constant u f) n start end e h = absurd (false≢true e)
  hole_is (Drawn u) n start end e h = absurd (false≢true e)
  hole_is (Apply o) n start end e h = absurd (false≢true e)

  -- the code in a hole
  pub code_found : (n : ℕ) (ps : List Part) (ks : List ℕ) (end : ℕ) → AreAlike operators x (constant_at numbers) ps ks end →
      some_is (λ p. is_hole p n) ps ≡ true → operand_code operators ps ks end n ≡ x n
  code_found n [] ks end h some = absurd (false≢true some)
  code_found n (p ∷ ps) [] end h some = absurd h
  code_found n (p ∷ ps) (k ∷ ks) end (h, others) some =
      go (is_hole p n) refl some (code_found n ps ks k others)
    where
      go : (b : Bool) → is_hole p n ≡ b → (b || some_is (λ p. is_hole p n) ps) ≡ true →
          (some_is (λ p. is_hole p n) ps ≡ true → operand_code operators ps ks k n ≡ x n) →
          code_in (if b then (k, end) else operand_at ps ks k n) ≡ x n
      go true e some rest = hole_is p n k end e h
      go false e some rest = rest some

  low_low : (n : ℕ) → low t (low t n) ≡ low t n
  low_low n = mod-mod n _

  slot_is : (p : Part) (n start end : ℕ) → is_slot p n ≡ true → IsOwn t p → HasPart context operators p start end →
      Stands operators start end (part_code x (constant_at numbers) [] p) → low t (number_at operators start) ≡ low t (constant_at numbers n)
  slot_is (Constant u (Slot m)) n start end e own c h =
      let there : number_at operators start ≡ low u (constant_at numbers m) =
      alike_constant operators u (Slot m) (start, end) (0, 0) numbers (context, c) h in
      ap (low t) (there ∙ ap (λ u. low u (constant_at numbers m)) own.0)
      ∙ (low_low (constant_at numbers m) ∙ ap (λ k. low t (constant_at numbers k)) (eqb-true m n e))
  slot_is (Constant u (Literal m)) n start end e own c h = absurd (false≢true e)
  slot_is (Constant u Ones) n start end e own c h = absurd (false≢true e)
  slot_is (Constant u Bits) n start end e own c h = absurd (false≢true e)
  slot_is (Constant u Sign) n start end e own c h = absurd (false≢true e)
  slot_is (Constant u (Turned i)) n start end e own c h = absurd (false≢true e)
  slot_is (Constant u (Next i)) n start end e own c h = absurd (false≢true e)
  slot_is (Constant u (Previous i)) n start end e own c h = absurd (false≢true e)
  slot_is (Constant u (Negated i)) n start end e own c h = absurd (false≢true e)
  slot_is (Constant u (Power i)) n start end e own c h = absurd (false≢true e)
  slot_is (Constant u (Place i)) n start end e own c h = absurd (false≢true e)
  slot_is (Constant u (Sum i j)) n start end e own c h = absurd (false≢true e)
  slot_is (Hole m) n start end e own c h = absurd (false≢true e)
  slot_is (Drawn u) n start end e own c h = absurd (false≢true e)
  slot_is (Apply o) n start end e own c h = absurd (false≢true e)

  -- the number of a slot
  pub number_found : (n : ℕ) (ps : List Part) (ks : List ℕ) (end : ℕ) → AreCut context operators ps ks end →
      AreAlike operators x (constant_at numbers) ps ks end → All (IsOwn t) ps → some_is (λ p. is_slot p n) ps ≡ true →
      low t (slot_at operators ps ks n) ≡ low t (constant_at numbers n)
  number_found n [] ks end c h own some = absurd (false≢true some)
  number_found n (p ∷ ps) [] end c h own some = absurd h
  number_found n (p ∷ ps) (k ∷ ks) end (c, d) (h, others) own some =
      go (is_slot p n) refl some (number_found n ps ks k d others (All-tail (IsOwn t) p ps own))
    where
      go : (b : Bool) → is_slot p n ≡ b → (b || some_is (λ p. is_slot p n) ps) ≡ true →
          (some_is (λ p. is_slot p n) ps ≡ true → low t (slot_at operators ps ks n) ≡ low t (constant_at numbers n)) →
          low t (if b then number_at operators k else slot_at operators ps ks n) ≡ low t (constant_at numbers n)
      go true e some rest = slot_is p n k end e (All-head (IsOwn t) p ps own) c h
      go false e some rest = rest some

  moved_part : (y : ℕ → List Instruction) (found : List ℕ) (p : Part) (start end : ℕ) → IsOwn t p → ((n : ℕ) → is_hole p n ≡ true → y n ≡ x n) →
      ((n : ℕ) → is_own (Slot n) ≡ true → is_slot p n ≡ true → low t (constant_at found n) ≡ low t (constant_at numbers n)) →
      Stands operators start end (part_code x (constant_at numbers) [] p) → Stands operators start end (part_code y (constant_at found) [] p)
  moved_part y found (Hole n) start end own code number h = subst (Stands operators start end) (sym (code n (eq-eqb n n refl))) h
  moved_part y found (Constant u (Literal n)) start end own code number h = h
  moved_part y found (Constant u Ones) start end own code number h = h
  moved_part y found (Constant u Bits) start end own code number h = h
  moved_part y found (Constant u Sign) start end own code number h = h
  moved_part y found (Constant u (Slot i)) start end own code number h =
      let same : low u (constant_at numbers i) ≡ low u (constant_at found i) =
      subst (λ u. low u (constant_at numbers i) ≡ low u (constant_at found i)) (sym own.0) (sym (number i own.1 (eq-eqb i i refl))) in
      subst (λ j. Stands operators start end (j ∷ [])) (by_low u (constant_at numbers i) (constant_at found i) same) h
  moved_part y found (Constant u (Turned i)) start end own code number h = absurd (false≢true own.1)
  moved_part y found (Constant u (Next i)) start end own code number h = absurd (false≢true own.1)
  moved_part y found (Constant u (Previous i)) start end own code number h = absurd (false≢true own.1)
  moved_part y found (Constant u (Negated i)) start end own code number h = absurd (false≢true own.1)
  moved_part y found (Constant u (Power i)) start end own code number h = absurd (false≢true own.1)
  moved_part y found (Constant u (Place i)) start end own code number h = absurd (false≢true own.1)
  moved_part y found (Constant u (Sum i j)) start end own code number h = absurd (false≢true own.1)
  moved_part y found (Drawn u) start end own code number h = h
  moved_part y found (Apply o) start end own code number h = h

  -- the same with other code and other numbers, which are the same where parts have them
  moved : (y : ℕ → List Instruction) (found : List ℕ) (ps : List Part) (ks : List ℕ) (end : ℕ) → All (IsOwn t) ps →
      ((n : ℕ) → some_is (λ p. is_hole p n) ps ≡ true → y n ≡ x n) →
      ((n : ℕ) → is_own (Slot n) ≡ true → some_is (λ p. is_slot p n) ps ≡ true → low t (constant_at found n) ≡ low t (constant_at numbers n)) →
      AreAlike operators x (constant_at numbers) ps ks end → AreAlike operators y (constant_at found) ps ks end
  moved y found [] [] end own code number h = tt
  moved y found [] (k ∷ ks) end own code number h = absurd h
  moved y found (p ∷ ps) [] end own code number h = absurd h
  moved y found (p ∷ ps) (k ∷ ks) end own code number (h, others) = (
    moved_part y found p k end (All-head (IsOwn t) p ps own)
        (λ n e. code n (or_first (is_hole p n) (some_is (λ p. is_hole p n) ps) e))
        (λ n o e. number n o (or_first (is_slot p n) (some_is (λ p. is_slot p n) ps) e)) h,
    moved y found ps ks k (All-tail (IsOwn t) p ps own)
        (λ n e. code n (or_second (is_hole p n) (some_is (λ p. is_hole p n) ps) e))
        (λ n o e. number n o (or_second (is_slot p n) (some_is (λ p. is_slot p n) ps) e)) others,
  )

pub either : (a b : Bool) → (a || b) ≡ true → (a ≡ true) ⊎ (b ≡ true)
either true b e = inl refl
either false b e = inr e

-- what is found of the first two slots
slots_are : (a b : ℕ) (f : ℕ → ℕ) → f 0 ≡ a → f 1 ≡ b → (n : ℕ) → is_own (Slot n) ≡ true → constant_at (a ∷ b ∷ []) n ≡ f n
slots_are a b f e g zero o = sym e
slots_are a b f e g (suc zero) o = sym g
slots_are a b f e g (suc (suc n)) o =
    absurd (elim (either (suc (suc n) == 0) (suc (suc n) == 1) o) [
      | inl l ↦ (let k = eqb-true (suc (suc n)) 0 l in omega (arith, k))
      | inr l ↦ (let k = eqb-true (suc (suc n)) 1 l in omega (arith, k))
    ])

pub none_found : (context : Context) (operators : Operators) (parts : List Part) (starts : List ℕ) (end a b : ℕ) → AreCut context operators parts starts end →
    slot_at operators parts starts 0 ≡ a → slot_at operators parts starts 1 ≡ b → AreOwn parts → HasSomeMatch context operators parts end →
    AreAllAlike operators parts starts end (a ∷ b ∷ [])
none_found context operators parts starts end a b cut first second (t, own) (others, numbers, x, is) =
    let same = one_cut context operators parts others starts end is.cut cut in
    let alike = subst (λ l. AreAlike operators x (constant_at numbers) parts l end) same is.alike in
    moved context operators t x numbers (operand_code operators parts starts end) (a ∷ b ∷ []) parts starts end own
    (λ n e. code_found context operators t x numbers n parts starts end alike e)
    (λ n o e.
    ap (low t) (slots_are a b (slot_at operators parts starts) first second n o)
    ∙ number_found context operators t x numbers n parts starts end cut alike own e) alike
