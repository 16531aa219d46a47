-- Where the code of a pattern's parts stands, with trees in its holes, the parts stand.
use Rattle.std.proofs.Common.{◌≡◌, ℕ, suc, ◌+◌, ◌-◌, ◌<◌, ◌≤◌, Bool, true, false, List, [], ◌∷◌, ◌++◌, length, map, take, drop, Some, refl}
use Rattle.std.proofs.Common.{sym, ap, subst, ◌∙◌, arith}
use Rattle.std.specs.Prelude.{◌||◌, reverse, slice_get, slice_range}
use Rattle.std.proofs.Math.Nat.{mod-lt, mod-mod}
use Rattle.std.proofs.Math.Seq.{take-append_seam, drop-append_seam}
use Rattle.std.proofs.lemmas.Nat.{pow_pos}
use Rattle.std.proofs.lemmas.Bool.{eq-eqb, false≢true}
use Rattle.std.proofs.lemmas.List.{length-append, length-map, map-append, reverse-append}
use Rattle.wasm_code.specs.Instruction.{Instruction}
use Rattle.wasm_code.specs.declared.operator.Operator.{Operator}
use Rattle.wasm_code.specs.declared.operator.Operator.TheVariants.{Instr}
use Rattle.wasm_types.specs.declared.types.PrimitiveTypeInfo.{PrimitiveTypeInfo}
use mir.Val.{bits}
use Rattle.wasm_execution.specs.Values.{width_of, Context}
use Rattle.rewrite_rules.specs.declared.pattern.Part.{Part}
use Rattle.rewrite_rules.specs.declared.pattern.Part.TheVariants.{Hole, Constant, Drawn, Apply}
use Rattle.rewrite_rules.specs.Numbers.{number_of, low}
use Rattle.rewrite_rules.specs.Instance.{constant_code, operator_code}
use Rattle.rewrite_rules.specs.Parts.{part_code, parts_code}
use Rattle.body_rewrites.specs.Trees.{tree_after, Stands}
use Rattle.body_rewrites.specs.Open.{HasInstruction}
use Rattle.body_rewrites.specs.Cutting.{HasPart, AreCut}
use Rattle.body_rewrites.specs.Matching.{is_hole, operators_in, AreAlike, begin_of}
use Rattle.body_rewrites.specs.Operands.{has_hole}
use Rattle.body_rewrites.specs.Places.{IsTreeCode}
use Rattle.body_rewrites.proofs.StandsLemmas.{Operators}
use Rattle.body_rewrites.proofs.AloneLemmas.{range_split}
use Rattle.body_rewrites.proofs.MatchingLemmas.{length_in, entry_in}
use Rattle.body_rewrites.proofs.AlikeLemmas.{by_low}
use Rattle.body_rewrites.proofs.CodeLemmas.{one_last}
use Rattle.body_rewrites.proofs.FoundLemmas.{some_is, or_first, or_second}

-- ---- one behind another

abbrev instr_of : Instruction → Operator
instr_of i = Instr i

same_front : (us bs xs ys : List Operator) → length us ≡ length bs → us ++ xs ≡ bs ++ ys → us ≡ bs
same_front us bs xs ys l e =
    sym (take-append_seam us xs) ∙ (ap (take (length us)) e ∙ (ap (λ n. take n (bs ++ ys)) l ∙ take-append_seam bs ys))

same_back : (us bs xs ys : List Operator) → length us ≡ length bs → us ++ xs ≡ bs ++ ys → xs ≡ ys
same_back us bs xs ys l e =
    sym (drop-append_seam us xs) ∙ (ap (drop (length us)) e ∙ (ap (λ n. drop n (bs ++ ys)) l ∙ drop-append_seam bs ys))

pub count_is : (operators : Operators) (s e : ℕ) (code : List Instruction) → e ≤ length operators → Stands operators s e code → length code ≡ e - s
count_is operators s e code l h = sym (length-map code instr_of) ∙ (ap length (sym h) ∙ length_in operators s e l)

-- code that stands in two pieces
pub record Split (operators : Operators) (s e : ℕ) (a b : List Instruction) : Type 0 where
  pub at : ℕ
  pub before : s ≤ at
  pub behind : at ≤ e
  pub front : Stands operators s at a
  pub back : Stands operators at e b

pub split : (operators : Operators) (s e : ℕ) (a b : List Instruction) → s ≤ e → e ≤ length operators → Stands operators s e (a ++ b) → Split operators s e a b
split operators s e a b o l h =
    let count = count_is operators s e (a ++ b) l h in
    let parts = length-append a b in
    let m = s + length a in
    let before : s ≤ m = omega arith in
    let behind : m ≤ e = omega (arith, count, parts, o) in
    let whole : operators_in operators s m ++ operators_in operators m e ≡ map instr_of a ++ map instr_of b =
    sym (map-append (λ (o : Operator × ℕ). o.0) (slice_range operators s m) (slice_range operators m e))
    ∙ (sym (ap (map (λ (o : Operator × ℕ). o.0)) (range_split operators s m e before behind)) ∙ (h ∙ map-append instr_of a b)) in
    let same : length (operators_in operators s m) ≡ length (map instr_of a) =
    length_in operators s m (omega (arith, behind, l)) ∙ ((let k : m - s ≡ length a = omega arith in k) ∙ sym (length-map a instr_of)) in
    record {
      at = m;
      before = before;
      behind = behind;
      front = same_front _ _ _ _ same whole;
      back = same_back _ _ _ _ same whole;
    }

-- ---- one part

pub one_stands : (operators : Operators) (k e : ℕ) (i : Instruction) → e ≤ length operators → Stands operators k e (i ∷ []) →
    (e ≡ suc k) × HasInstruction operators k i
one_stands operators k e i l h =
    let count = count_is operators k e (i ∷ []) l h in
    let at : k + 0 ≡ k = omega arith in (
      omega (arith, count),
      sym (ap (slice_get (map (λ (o : Operator × ℕ). o.0) operators)) at)
          ∙ (sym (entry_in operators k e 0 (omega (arith, count))) ∙ ap (λ os. slice_get os 0) h),
    )

abbrev pub is_drawn : Part → Bool
is_drawn (Drawn t) = true
is_drawn p = false

neither : (a b : Bool) → (a || b) ≡ false → (a ≡ false) × (b ≡ false)
neither true b e = absurd (false≢true (sym e))
neither false b e = (refl, e)

module _ (context : Context) (operators : Operators) (x : ℕ → List Instruction) (c : ℕ → ℕ) where
  part_there : (p : Part) (k e : ℕ) → e ≤ length operators → k ≤ e → is_drawn p ≡ false → ((n : ℕ) → is_hole p n ≡ true → IsTreeCode context (x n)) →
      Stands operators k e (part_code x c [] p) → HasPart context operators p k e
  part_there (Hole n) k e l o plain trees h =
      let (t, typed) = trees n (eq-eqb n n refl) in
      let some : 0 < length (x n) = nonempty (x n) t typed in
      let count = count_is operators k e (x n) l h in
      let last : e - 1 + 1 ≡ e = omega (arith, some, count) in (
        e - 1,
        t,
        omega (arith, some, count),
        record {
          inside = omega (arith, some, count, l);
          ordered = omega (arith, some, count);
          code = x n;
          stands = subst (λ q. Stands operators k q (x n)) (sym last) h;
          typed = typed;
        },
      )
    where
      nonempty : (code : List Instruction) (t : PrimitiveTypeInfo) → tree_after context code [] ≡ Some (t ∷ []) → 0 < length code
      nonempty [] t e = absurd cc
      nonempty (i ∷ code) t e = omega arith
  part_there (Constant u f) k e l o plain trees h =
      let n = number_of u c f in
      let (ends, has) = one_stands operators k e (constant_code u n) l h in
      (low u n, constant_code u n, ends, has, (mod-lt n (pow_pos (bits (width_of u))), by_low u n (low u n) (sym (mod-mod n _))))
  part_there (Drawn t) k e l o plain trees h = absurd (false≢true (sym plain))
  part_there (Apply f) k e l o plain trees h = one_stands operators k e (operator_code f) l h

  -- where the parts stand
  pub record IsCutSo (parts : List Part) (start end : ℕ) : Type 0 where
    pub starts : List ℕ
    pub cut : AreCut context operators parts starts end
    pub alike : AreAlike operators x c parts starts end
    pub begins : begin_of starts end ≡ start

  pub cut_of : (parts : List Part) (start end : ℕ) → end ≤ length operators → start ≤ end → some_is is_drawn parts ≡ false →
      ((n : ℕ) → has_hole parts n ≡ true → IsTreeCode context (x n)) → Stands operators start end (parts_code x c [] (reverse parts)) →
      IsCutSo parts start end
  cut_of [] start end l o plain trees h =
      let count = count_is operators start end [] l h in
      record { starts = []; cut = tt; alike = tt; begins = omega (arith, count, o) }
  cut_of (p ∷ ps) start end l o plain trees h =
      let (this, others) = neither (is_drawn p) (some_is is_drawn ps) plain in
      let two = split operators start end (parts_code x c [] (reverse ps)) (part_code x c [] p) o l
      (subst (Stands operators start end) (ap (parts_code x c []) (reverse-append (p ∷ []) ps) ∙ one_last x c (reverse ps) p) h) in
      let rest = cut_of ps start two.at (omega (arith, two.behind, l)) two.before others (λ n e. trees n (or_second (is_hole p n) (has_hole ps n) e))
      two.front in
      record {
        starts = two.at ∷ rest.starts;
        cut = (part_there p two.at end l two.behind this (λ n e. trees n (or_first (is_hole p n) (has_hole ps n) e)) two.back, rest.cut);
        alike = (two.back, rest.alike);
        begins = rest.begins;
      }
