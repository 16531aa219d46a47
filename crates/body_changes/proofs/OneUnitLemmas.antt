-- An operator has one unit.
use Rattle.std.proofs.Common.{◌≡◌, ℕ, zero, suc, ◌+◌, ◌<◌, [], ◌∷◌, Option, Some, None, refl, sym, ap, ap₂, subst, ◌∙◌, arith}
use Rattle.wasm_code.specs.Instruction.{Instruction}
use Rattle.wasm_types.specs.declared.types.PrimitiveTypeInfo.{PrimitiveTypeInfo}
use Rattle.wasm_execution.specs.Row.{instruction_count, list_of}
use Rattle.wasm_execution.specs.Values.{Context}
use Rattle.body_changes.specs.declared.units.Takes.{Takes}
use Rattle.body_changes.specs.declared.units.Takes.TheVariants as takes
use Rattle.body_changes.specs.declared.units.Unit.{Unit}
use Rattle.body_changes.specs.Replacing.{IsClosed}
use Rattle.body_changes.specs.Units.{AreTaken, IsUnit}
use Rattle.body_changes.proofs.OwnLemmas.{one_there}
use Rattle.body_changes.proofs.ReplacingLemmas.{closed_one}
use Rattle.body_changes.proofs.StandLemmas.{Operators}

pub same_list : (a b : Option PrimitiveTypeInfo) → list_of a ≡ list_of b → a ≡ b
same_list None None e = refl
same_list (Some t) None e = absurd cc
same_list None (Some u) e = absurd cc
same_list (Some t) (Some u) e = let same : t ≡ u = cc in ap (λ (x : PrimitiveTypeInfo). Some x) same

same_one : (t u : PrimitiveTypeInfo) → t ∷ [] ≡ u ∷ [] → t ≡ u
same_one t u e = cc

module _ (context : Context) (operators : Operators) (at : ℕ) where
  -- where the last operand begins, if there is one
  last_of : (start last count : ℕ) (t : Takes) → AreTaken context operators start last at count t → 0 < count →
      (type : PrimitiveTypeInfo) × IsClosed context operators last at (type ∷ [])
  last_of start last count (takes.One t) h some = (t, subst (λ (s : ℕ). IsClosed context operators s at (t ∷ [])) (sym h.1) h.2)
  last_of start last count (takes.Two t u) h some = (u, h.1.last)
  last_of start last count takes.Other h some = let s = h.several some in (s.type, s.one)

  -- where there is none
  none_of : (start last count : ℕ) (t : Takes) → AreTaken context operators start last at count t → count ≡ 0 → last ≡ at
  none_of start last count (takes.One t) h none = let e = h.0 in absurd (omega arith)
  none_of start last count (takes.Two t u) h none = let e = h.0 in absurd (omega arith)
  none_of start last count takes.Other h none = (h.none none).1

  one_taken : (start last count : ℕ) (t u : Takes) → AreTaken context operators start last at count t → AreTaken context operators start last at count u →
      t ≡ u
  one_taken start last count (takes.One t) (takes.One u) g h =
      ap (λ (x : PrimitiveTypeInfo). takes.One x) (same_one t u (closed_one context operators start at (t ∷ []) (u ∷ []) g.2 h.2))
  one_taken start last count (takes.One t) (takes.Two u v) g h = let e = g.0 in let f = h.0 in absurd (omega arith)
  one_taken start last count (takes.One t) takes.Other g h = absurd (h.not_one g.0)
  one_taken start last count (takes.Two t u) (takes.One v) g h = let e = g.0 in let f = h.0 in absurd (omega arith)
  one_taken start last count (takes.Two t u) (takes.Two v w) g h =
      ap₂ (λ (x y : PrimitiveTypeInfo). takes.Two x y)
      (same_one t v (closed_one context operators start last (t ∷ []) (v ∷ []) g.1.first h.1.first))
      (same_one u w (closed_one context operators last at (u ∷ []) (w ∷ []) g.1.last h.1.last))
  one_taken start last count (takes.Two t u) takes.Other g h = absurd (h.not_two g.0)
  one_taken start last count takes.Other (takes.One u) g h = absurd (g.not_one h.0)
  one_taken start last count takes.Other (takes.Two u v) g h = absurd (g.not_two h.0)
  one_taken start last count takes.Other takes.Other g h = refl

  pub one_start : (u v : Unit) → IsUnit context operators at u → IsUnit context operators at v → u.start ≡ v.start
  one_start u v a b =
      let l = b.is.shortest u.start _ a.is.closed in
      let m = a.is.shortest v.start _ b.is.closed in
      omega arith

  pub one_unit : (u v : Unit) → IsUnit context operators at u → IsUnit context operators at v → u ≡ v
  one_unit u v a b =
      let starts = one_start u v a b in
      let own = one_there operators at a.instruction b.instruction a.has b.has in
      let count = instruction_count context.info a.instruction in
      let theirs : AreTaken context operators u.start v.last at count v.takes =
      subst (λ (s : ℕ). AreTaken context operators s v.last at count v.takes) (sym starts)
      (subst (λ (i : Instruction). AreTaken context operators v.start v.last at (instruction_count context.info i) v.takes) (sym own) b.taken) in
      let lasts = last count refl theirs in
      let taken = one_taken u.start u.last count u.takes v.takes a.taken
      (subst (λ (l : ℕ). AreTaken context operators u.start l at count v.takes) (sym lasts) theirs) in
      let gives = same_list u.gives v.gives (closed_one context operators u.start (at + 1) (list_of u.gives) (list_of v.gives) a.is.closed
      (subst (λ (s : ℕ). IsClosed context operators s (at + 1) (list_of v.gives)) (sym starts) b.is.closed)) in
      same u v starts lasts taken gives
    where
      last : (count : ℕ) → count ≡ instruction_count context.info a.instruction → AreTaken context operators u.start v.last at count v.takes →
          u.last ≡ v.last
      last zero e theirs =
          none_of u.start u.last (instruction_count context.info a.instruction) u.takes a.taken (sym e)
          ∙ sym (none_of u.start v.last zero v.takes theirs refl)
      last (suc n) e theirs =
          let (t, mine) = last_of u.start u.last (instruction_count context.info a.instruction) u.takes a.taken (omega (arith, e)) in
          let (w, other) = last_of u.start v.last (suc n) v.takes theirs (omega arith) in
          let l = a.latest v.last w [] other in
          let m = b.latest u.last t [] mine in
          omega arith

      same : (u v : Unit) → u.start ≡ v.start → u.last ≡ v.last → u.takes ≡ v.takes → u.gives ≡ v.gives → u ≡ v
      same u v s l t g = λ i. record { start = s i; last = l i; takes = t i; gives = g i }
