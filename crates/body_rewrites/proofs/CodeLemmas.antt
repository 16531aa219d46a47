-- What matches a pattern is its code.
use Rattle.std.proofs.Common.{◌≡◌, ℕ, suc, ◌-◌, ◌≤◌, List, [], ◌∷◌, ◌++◌, Some, None, length, map, drop, inl, inr, refl, sym, ap, ap₂}
use Rattle.std.proofs.Common.{subst, ◌∙◌, append_assoc, arith}
use Rattle.std.specs.Prelude.{reverse, slice_get, slice_range}
use Rattle.std.proofs.lemmas.List.{append-nil, map-append, reverse-append}
use Rattle.std.proofs.lemmas.Option.{none-some, slice_get_cases}
use Rattle.wasm_code.specs.Instruction.{Instruction}
use Rattle.wasm_code.specs.declared.operator.Operator.{Operator}
use Rattle.wasm_code.specs.declared.operator.Operator.TheVariants.{Instr}
use Rattle.wasm_execution.specs.Values.{Context}
use Rattle.rewrite_rules.specs.declared.pattern.Part.{Part}
use Rattle.rewrite_rules.specs.declared.pattern.Part.TheVariants.{Hole, Constant, Drawn, Apply}
use Rattle.rewrite_rules.specs.Numbers.{constant_at}
use Rattle.rewrite_rules.specs.Parts.{draws, part_code, parts_code}
use Rattle.body_rewrites.specs.Trees.{Stands}
use Rattle.body_rewrites.specs.Cutting.{HasPart, AreCut}
use Rattle.body_rewrites.specs.Matching.{AreAlike, begin_of, MatchesAreTheCode}
use Rattle.body_rewrites.proofs.StandsLemmas.{Operators, stands_nothing}
use Rattle.body_rewrites.proofs.AloneLemmas.{range_split}

-- ---- places

pub part_ordered : (context : Context) (operators : Operators) (p : Part) (start end : ℕ) → HasPart context operators p start end → start ≤ end
part_ordered context operators (Hole n) start end (at, t, e, tree) = let o = tree.ordered in omega (arith, e)
part_ordered context operators (Constant t x) start end (n, i, e, a, c) = omega (arith, e)
part_ordered context operators (Drawn t) start end h = absurd h
part_ordered context operators (Apply o) start end (e, a) = omega (arith, e)

pub begins_before : (context : Context) (operators : Operators) (ps : List Part) (ks : List ℕ) (end : ℕ) → AreCut context operators ps ks end →
    begin_of ks end ≤ end
begins_before context operators [] [] end c = omega arith
begins_before context operators [] (k ∷ ks) end c = absurd c
begins_before context operators (p ∷ ps) [] end c = absurd c
begins_before context operators (p ∷ ps) (k ∷ ks) end (h, c) =
    let first = begins_before context operators ps ks k c in
    let last = part_ordered context operators p k end h in
    omega arith

pub stands_both : (operators : Operators) (s m e : ℕ) (a b : List Instruction) → s ≤ m → m ≤ e → Stands operators s m a → Stands operators m e b →
    Stands operators s e (a ++ b)
stands_both operators s m e a b l k h g =
    ap (map (λ (o : Operator × ℕ). o.0)) (range_split operators s m e l k)
    ∙ (map-append (λ (o : Operator × ℕ). o.0) (slice_range operators s m) (slice_range operators m e)
    ∙ (ap₂ (λ xs ys. xs ++ ys) h g ∙ sym (map-append (λ (i : Instruction). Instr i) a b)))

-- ---- parts

abbrev nothing : List ℕ
nothing = []

module _ (x : ℕ → List Instruction) (c : ℕ → ℕ) where
  none_drawn : (p : Part) → drop (draws p) nothing ≡ nothing
  none_drawn (Hole n) = refl
  none_drawn (Constant t e) = refl
  none_drawn (Drawn t) = refl
  none_drawn (Apply o) = refl

  pub one_last : (ps : List Part) (p : Part) → parts_code x c [] (ps ++ p ∷ []) ≡ parts_code x c [] ps ++ part_code x c [] p
  one_last [] p = append-nil (part_code x c [] p)
  one_last (q ∷ ps) p =
      ap (λ w. part_code x c [] q ++ parts_code x c w (ps ++ p ∷ [])) (none_drawn q)
      ∙ (ap (λ l. part_code x c [] q ++ l) (one_last ps p)
      ∙ (sym (append_assoc (part_code x c [] q) (parts_code x c [] ps) (part_code x c [] p))
      ∙ ap (λ w. (part_code x c [] q ++ parts_code x c w ps) ++ part_code x c [] p) (sym (none_drawn q))))

all_stand : (context : Context) (operators : Operators) (x : ℕ → List Instruction) (c : ℕ → ℕ) (ps : List Part) (ks : List ℕ) (end : ℕ) →
    AreCut context operators ps ks end → AreAlike operators x c ps ks end → Stands operators (begin_of ks end) end (parts_code x c [] (reverse ps))
all_stand context operators x c [] [] end cut h = stands_nothing operators end
all_stand context operators x c [] (k ∷ ks) end cut h = absurd cut
all_stand context operators x c (p ∷ ps) [] end cut h = absurd cut
all_stand context operators x c (p ∷ ps) (k ∷ ks) end (part, cut) (h, others) =
    subst (Stands operators (begin_of ks k) end) (sym (ap (parts_code x c []) (reverse-append (p ∷ []) ps) ∙ one_last x c (reverse ps) p))
    (stands_both operators (begin_of ks k) k end (parts_code x c [] (reverse ps)) (part_code x c [] p)
    (begins_before context operators ps ks k cut) (part_ordered context operators p k end part)
    (all_stand context operators x c ps ks k cut others) h)

pub matches_are_the_code : MatchesAreTheCode
matches_are_the_code context operators parts starts end x numbers is =
    all_stand context operators x (constant_at numbers) parts starts end is.cut is.alike

-- ---- where the first part begins

pub last_begins : (ks : List ℕ) (end k : ℕ) → slice_get ks (length ks - 1) ≡ Some k → k ≡ begin_of ks end
last_begins [] end k e = absurd cc
last_begins (j ∷ []) end k e = sym (let is : j ≡ k = cc in is)
last_begins (j ∷ i ∷ ks) end k e = last_begins (i ∷ ks) j k (ap (slice_get (j ∷ i ∷ ks)) (let n :
    suc (length (i ∷ ks) - 1) ≡ length (j ∷ i ∷ ks) - 1 = omega arith in n) ∙ e)

pub none_begins : (ks : List ℕ) (end : ℕ) → slice_get ks (length ks - 1) ≡ None → end ≡ begin_of ks end
none_begins [] end e = refl
none_begins (j ∷ []) end e = absurd cc
none_begins (j ∷ i ∷ ks) end e =
    let past = slice_get_cases (j ∷ i ∷ ks) (length (j ∷ i ∷ ks) - 1) in
    absurd (elim past.1 [ inl (x, l, is, at) ↦ absurd (none-some x (sym e ∙ is)) | inr (l, n) ↦ omega arith ])
