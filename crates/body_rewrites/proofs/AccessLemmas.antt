-- Loads and stores with a conversion, as they stand in a body.
use Rattle.std.proofs.Common.{◌≡◌, ℕ, ◌+◌, ◌-◌, ◌<◌, ◌≤◌, List, ◌∷◌, length, drop, refl, sym, ap, subst, ◌∙◌, arith}
use Rattle.std.specs.Prelude.{slice_range}
use Rattle.std.proofs.lemmas.List.{length-drop, length-map, length-take}
use Rattle.std.proofs.lemmas.Option.{same_Some}
use Rattle.wasm_code.specs.Instruction.{Instruction}
use Rattle.wasm_code.specs.declared.immediate.Imm.{Imm}
use Rattle.wasm_code.specs.declared.operator.Operator.{Operator}
use Rattle.wasm_code.specs.declared.operator.Operator.TheVariants.{Instr}
use Rattle.wasm_execution.specs.Values.{Context}
use Rattle.rewrite_rules.specs.declared.access.Access.{Access}
use Rattle.rewrite_rules.specs.declared.access.AccessKind.{AccessKind}
use Rattle.rewrite_rules.specs.declared.access.AccessKind.TheVariants.{Load, Store, Constant}
use Rattle.rewrite_rules.specs.declared.access.Conversion.{Conversion}
use Rattle.rewrite_rules.specs.declared.access.Conversion.TheVariants.{Nothing, By, With}
use Rattle.rewrite_rules.specs.Access.{conversion_size, left_code, code_with, side_code, written_imm}
use Rattle.body_rewrites.specs.Trees.{Stands}
use Rattle.body_rewrites.specs.Own.{IsAccessed}
use Rattle.body_rewrites.proofs.StandsLemmas.{Operators}
use Rattle.body_rewrites.proofs.AloneLemmas.{one_code}

-- ---- code

-- how many instructions a side is
pub side_size : (kind : AccessKind) (row : ℕ) (c : Conversion) (m : Imm) →
    length (side_code kind (record { row = row; conversion = c }) m) ≡ conversion_size c + 1
side_size Load row Nothing m = refl
side_size Constant row Nothing m = refl
side_size Load row (By o) m = refl
side_size Constant row (By o) m = refl
side_size Load row (With t n o) m = refl
side_size Constant row (With t n o) m = refl
side_size Store row Nothing m = refl
side_size Store row (By o) m = refl
side_size Store row (With t n o) m = refl

one_immediate : (row : ℕ) (i k : Imm) → code_with row i ≡ code_with row k → i ≡ k
one_immediate row i k e = ap (λ (i : Instruction). i.imm) e

first_is : (i j : Instruction) (code more : List Instruction) → i ∷ code ≡ j ∷ more → i ≡ j
first_is i j code more e = cc

rest_is : (i j : Instruction) (code more : List Instruction) → i ∷ code ≡ j ∷ more → code ≡ more
rest_is i j code more e = cc

-- a side has one immediate
pub same_immediate : (kind : AccessKind) (row : ℕ) (c : Conversion) (m k : Imm) →
    side_code kind (record { row = row; conversion = c }) m ≡ side_code kind (record { row = row; conversion = c }) k → m ≡ k
same_immediate Load row c m k e = one_immediate row m k (first_is _ _ _ _ e)
same_immediate Constant row c m k e = one_immediate row m k (first_is _ _ _ _ e)
same_immediate Store row Nothing m k e = one_immediate row m k (first_is _ _ _ _ e)
same_immediate Store row (By o) m k e = one_immediate row m k (first_is _ _ _ _ (rest_is _ _ _ _ e))
same_immediate Store row (With t n o) m k e = one_immediate row m k (first_is _ _ _ _ (rest_is _ _ _ _ (rest_is _ _ _ _ e)))

-- ---- in a body

-- what stands, and ends with an operator, ends with one of the body
pub stands_inside : (operators : Operators) (start at : ℕ) (code : List Instruction) → Stands operators start (at + 1) code → 0 < length code →
    start ≤ at → at + 1 - start ≤ length code → at < length operators
stands_inside operators start at code h some ordered long =
    let left = length-map (slice_range operators start (at + 1)) (λ (o : Operator × ℕ). o.0) in
    let right = length-map code (λ (i : Instruction). Instr i) in
    let same = ap length h in
    let taken = length-take (at + 1 - start) (drop start operators) in
    let dropped = length-drop start operators in
    omega arith

module _ (context : Context) (operators : Operators) (n start at : ℕ) (a : Access) (w : Imm) (is : IsAccessed context operators n start at a w) where
  -- it begins as many instructions before the operator as the conversion has
  pub access_start : start + conversion_size a.left.conversion ≡ at
  access_start =
      let ends = is.ends in
      let size = side_size a.kind a.left.row a.left.conversion is.immediate in
      omega arith

  pub access_inside : at < length operators
  access_inside =
      let ends = is.ends in
      let size = side_size a.kind a.left.row a.left.conversion is.immediate in
      stands_inside operators start at (left_code a is.immediate) is.stands (omega arith) (omega arith) (omega arith)

-- of an access at an operator one thing is made
pub one_access : (context : Context) (operators : Operators) (n s k at : ℕ) (a b : Access) (w v : Imm) → IsAccessed context operators n s at a w →
    IsAccessed context operators n k at b v → (s ≡ k) × (a ≡ b) × (w ≡ v)
one_access context operators n s k at a b w v f g = go (same_Some a b (sym f.listed ∙ g.listed))
  where
    with_one : (g : IsAccessed context operators n k at a v) → (s ≡ k) × (w ≡ v)
    with_one g =
        let one = access_start context operators n s at a w f in
        let two = access_start context operators n k at a v g in
        let begins : s ≡ k = omega arith in
        let codes = one_code operators s (at + 1) (left_code a f.immediate) (left_code a g.immediate) f.stands
        (subst (λ i. Stands operators i (at + 1) (left_code a g.immediate)) (sym begins) g.stands) in
        let argument : f.immediate ≡ g.immediate = same_immediate a.kind a.left.row a.left.conversion f.immediate g.immediate codes in
        (begins, same_Some w v (sym f.written_is ∙ (ap (written_imm a) argument ∙ g.written_is)))

    go : a ≡ b → (s ≡ k) × (a ≡ b) × (w ≡ v)
    go e =
        let (begins, written) = with_one (subst (λ c. IsAccessed context operators n k at c v) (sym e) g) in
        (begins, e, written)
