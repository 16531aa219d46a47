-- When the code of all parts stands where the parts may.
use Rattle.std.proofs.Common.{◌≡◌, ℕ, zero, suc, ◌+◌, ◌<◌, Bool, true, false, List, [], ◌∷◌, Some, length, drop, refl, sym, ap, ap₂, subst, ◌∙◌, arith}
use Rattle.std.specs.Prelude.{if◌then◌else◌, slice_get, slice_index_or}
use Rattle.std.proofs.lemmas.Option.{slice_get_within}
use Rattle.wasm_code.specs.Instruction.{Instruction}
use Rattle.wasm_execution.specs.Values.{Context}
use Rattle.rewrite_rules.specs.declared.pattern.Part.{Part}
use Rattle.rewrite_rules.specs.declared.pattern.Part.TheVariants.{Hole, Constant, Drawn, Apply}
use Rattle.rewrite_rules.specs.Numbers.{constant_at}
use Rattle.rewrite_rules.specs.Parts.{part_code}
use Rattle.body_rewrites.specs.Trees.{Stands}
use Rattle.body_rewrites.specs.Cutting.{HasPart, AreCut}
use Rattle.body_rewrites.specs.Matching.{is_hole, is_slot, number_at, slot_at, operand_at, operand_of, operand_code, HasSomeCode}
use Rattle.body_rewrites.specs.Matching.{HasSomePart, HasSomeCut, IsAlike, AreAlike, AreAllAlike}
use Rattle.body_rewrites.proofs.StandsLemmas.{Operators, stands_nothing}

pub cut_length : (context : Context) (operators : Operators) (ps : List Part) (ks : List ℕ) (end : ℕ) → AreCut context operators ps ks end →
    length ks ≡ length ps
cut_length context operators [] [] end c = refl
cut_length context operators [] (k ∷ ks) end c = absurd c
cut_length context operators (p ∷ ps) [] end c = absurd c
cut_length context operators (p ∷ ps) (k ∷ ks) end (h, c) = ap suc (cut_length context operators ps ks k c)

-- ---- operands

hole_code : (context : Context) (operators : Operators) (p : Part) (n start end : ℕ) → is_hole p n ≡ true → HasPart context operators p start end →
    HasSomeCode operators (start, end)
hole_code context operators (Hole m) n start end e (at, t, ends, tree) =
    let ordered = tree.ordered in
    let inside = tree.inside in
    let last : at + 1 ≡ end = omega (arith, ends) in
    (omega (arith, ends), omega (arith, ends), (tree.code, subst (λ k. Stands operators start k tree.code) last tree.stands))
hole_code context operators (Constant t x) n start end e h = absurd cc
hole_code context operators (Drawn t) n start end e h = absurd cc
hole_code context operators (Apply o) n start end e h = absurd cc

nothing_there : (operators : Operators) → HasSomeCode operators (0, 0)
nothing_there operators = (omega arith, omega arith, ([], stands_nothing operators 0))

operand_there : (context : Context) (operators : Operators) (ps : List Part) (ks : List ℕ) (end n : ℕ) → AreCut context operators ps ks end →
    HasSomeCode operators (operand_at ps ks end n)
operand_there context operators [] [] end n c = nothing_there operators
operand_there context operators [] (k ∷ ks) end n c = absurd c
operand_there context operators (p ∷ ps) [] end n c = absurd c
operand_there context operators (p ∷ ps) (k ∷ ks) end n (h, c) = go (is_hole p n) refl (operand_there context operators ps ks k n c)
  where
    go : (b : Bool) → is_hole p n ≡ b → HasSomeCode operators (operand_at ps ks k n) → HasSomeCode operators (if b then (k, end) else operand_at ps ks k n)
    go true e others = hole_code context operators p n k end e h
    go false e others = others

pub operand_has_code : (context : Context) (operators : Operators) (ps : List Part) (ks : List ℕ) (end : ℕ) (p : Part) → AreCut context operators ps ks end →
    HasSomeCode operators (operand_of ps ks end p)
operand_has_code context operators ps ks end (Hole n) c = operand_there context operators ps ks end n c
operand_has_code context operators ps ks end (Constant t x) c = nothing_there operators
operand_has_code context operators ps ks end (Drawn t) c = nothing_there operators
operand_has_code context operators ps ks end (Apply o) c = nothing_there operators

-- ---- parts so far

-- Those behind the first so many may stand there; and all stand there where these do, and only there.
pub record AreAlikeSo (operators : Operators) (parts : List Part) (starts : List ℕ) (end : ℕ) (numbers : List ℕ) (i at : ℕ) : Type 0 where
  pub rest : HasSomeCut operators (drop i parts) (drop i starts) at
  pub same : AreAlike operators (operand_code operators parts starts end) (constant_at numbers) (drop i parts) (drop i starts) at →
      AreAllAlike operators parts starts end numbers
  pub only : AreAllAlike operators parts starts end numbers →
      AreAlike operators (operand_code operators parts starts end) (constant_at numbers) (drop i parts) (drop i starts) at

pub nothing_yet : (operators : Operators) (parts : List Part) (starts : List ℕ) (end : ℕ) (numbers : List ℕ) → HasSomeCut operators parts starts end →
    AreAlikeSo operators parts starts end numbers 0 end
nothing_yet operators parts starts end numbers c = record { rest = c; same = λ h. h; only = λ h. h }

pub drop_one : {X : Type 0} (xs : List X) (i : ℕ) (d : X) → i < length xs → drop i xs ≡ slice_index_or xs i d ∷ drop (i + 1) xs
drop_one [] i d l = absurd (omega arith)
drop_one (x ∷ xs) zero d l = refl
drop_one (x ∷ xs) (suc i) d l =
    drop_one xs i d (omega arith)
    ∙ ap (λ n. slice_index_or xs i d ∷ drop n (x ∷ xs)) (let s : suc (i + 1) ≡ suc i + 1 = omega arith in s)

-- a part's code, by its operand alone
alike_is : (operators : Operators) (parts : List Part) (starts : List ℕ) (end : ℕ) (numbers : List ℕ) (p : Part) (k at : ℕ) →
    IsAlike operators p (k, at) (operand_of parts starts end p) numbers ≡
    Stands operators k at (part_code (operand_code operators parts starts end) (constant_at numbers) [] p)
alike_is operators parts starts end numbers (Hole n) k at = refl
alike_is operators parts starts end numbers (Constant t x) k at = refl
alike_is operators parts starts end numbers (Drawn t) k at = refl
alike_is operators parts starts end numbers (Apply o) k at = refl

module _ (operators : Operators) (parts : List Part) (starts : List ℕ) (end : ℕ) (numbers : List ℕ) (i at : ℕ) (p : Part) (k : ℕ)
    (ps : drop i parts ≡ p ∷ drop (i + 1) parts) (ks : drop i starts ≡ k ∷ drop (i + 1) starts) (so : AreAlikeSo operators parts starts end numbers i at)
  where
    here : HasSomeCut operators (p ∷ drop (i + 1) parts) (k ∷ drop (i + 1) starts) at
    here = subst (λ l. HasSomeCut operators (p ∷ drop (i + 1) parts) l at) ks (subst (λ l. HasSomeCut operators l (drop i starts) at) ps so.rest)

    pub some_part : HasSomePart operators p (k, at)
    some_part = let (context, (h, c)) = here in (context, h)

    both : (x : ℕ → List Instruction) → AreAlike operators x (constant_at numbers) (drop i parts) (drop i starts) at ≡
        AreAlike operators x (constant_at numbers) (p ∷ drop (i + 1) parts) (k ∷ drop (i + 1) starts) at
    both x = ap₂ (λ a b. AreAlike operators x (constant_at numbers) a b at) ps ks

    pub one_more_alike : IsAlike operators p (k, at) (operand_of parts starts end p) numbers → AreAlikeSo operators parts starts end numbers (i + 1) k
    one_more_alike alike = record {
      rest = (let (context, (h, c)) = here in (context, c));
      same = λ h. so.same (subst (λ t. t) (sym (both x)) (subst (λ t. t) (alike_is operators parts starts end numbers p k at) alike, h));
      only = λ h. (subst (λ t. t) (both x) (so.only h)).1;
    }
      where
        x : ℕ → List Instruction
        x = operand_code operators parts starts end

    pub is_alike_there : AreAllAlike operators parts starts end numbers → IsAlike operators p (k, at) (operand_of parts starts end p) numbers
    is_alike_there h =
        subst (λ t. t) (sym (alike_is operators parts starts end numbers p k at))
        (subst (λ t. t) (both (operand_code operators parts starts end)) (so.only h)).0

-- ---- items by their numbers

pub item_is : {X : Type 0} (xs : List X) (i : ℕ) (d x : X) → slice_get xs i ≡ Some x → slice_index_or xs i d ≡ x
item_is [] i d x e = absurd cc
item_is (y ∷ xs) zero d x e = (let same : y ≡ x = cc in same)
item_is (y ∷ xs) (suc i) d x e = item_is xs i d x e

pub drop_item : {X : Type 0} (xs : List X) (i : ℕ) (x : X) → slice_get xs i ≡ Some x → drop i xs ≡ x ∷ drop (i + 1) xs
drop_item xs i x e = drop_one xs i x (slice_get_within xs i x e) ∙ ap (λ y. y ∷ drop (i + 1) xs) (item_is xs i x x e)

pub operand_here : (ps : List Part) (ks : List ℕ) (i at n : ℕ) (p : Part) → slice_get ps i ≡ Some p → length ks ≡ length ps → is_hole p n ≡ true →
    operand_at (drop i ps) (drop i ks) at n ≡ (slice_index_or ks i 0, at)
operand_here ps ks i at n p e l h =
    let inside = slice_get_within ps i p e in
    ap₂ (λ qs js. operand_at qs js at n) (drop_item ps i p e) (drop_one ks i 0 (omega (arith, l, inside)))
    ∙ ap (λ b. if b then (slice_index_or ks i 0, at) else operand_at (drop (i + 1) ps) (drop (i + 1) ks) (slice_index_or ks i 0) n) h

pub slot_here : (operators : Operators) (ps : List Part) (ks : List ℕ) (i n : ℕ) (p : Part) → slice_get ps i ≡ Some p → length ks ≡ length ps →
    is_slot p n ≡ true → slot_at operators (drop i ps) (drop i ks) n ≡ number_at operators (slice_index_or ks i 0)
slot_here operators ps ks i n p e l h =
    let inside = slice_get_within ps i p e in
    ap₂ (λ qs js. slot_at operators qs js n) (drop_item ps i p e) (drop_one ks i 0 (omega (arith, l, inside)))
    ∙ ap (λ b. if b then number_at operators (slice_index_or ks i 0) else slot_at operators (drop (i + 1) ps) (drop (i + 1) ks) n) h
