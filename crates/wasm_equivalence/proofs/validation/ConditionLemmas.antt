-- The condition on top of a stack, and what it chooses.
use Rattle.std.proofs.Common.{◌≡◌, ℕ, zero, suc, ◌-◌, List, [], ◌∷◌, ◌++◌, length, take, Some, refl, sym, ap, ◌∙◌, subst, append_assoc}
use Rattle.wasm_types.specs.declared.types.PrimitiveTypeInfo.{PrimitiveTypeInfo}
use Rattle.wasm_types.specs.declared.types.PrimitiveTypeInfo.TheVariants as primitive
use Rattle.wasm_execution.specs.Values.{Value}
use Rattle.wasm_equivalence.specs.control.Function.{Label, Reached}
use Rattle.wasm_equivalence.specs.control.Standard.{last_of, chosen, choose_by_value}
use Rattle.wasm_equivalence.specs.validation.Algorithm.{Frame}
use Rattle.wasm_equivalence.specs.validation.StandardSteps.{pop}
use Rattle.wasm_equivalence.proofs.validation.PoppedLemmas.{pop_values, last_is, front_is, one_value}
use Rattle.wasm_equivalence.proofs.validation.WalkLemmas.{Walk, Fits, top_of, Stands}

module _ (walk : Walk) where
  pub record Condition (f : Frame) (outer : List Frame) (labels : List Label) (stack : List Value) : Type 0 where
    pub base : List Value
    pub value : Value
    pub is : stack ≡ base ++ value ∷ []
    pub typed : value.type ≡ primitive.I32
    pub fits : Fits walk f outer labels base

  pub condition : (g h : Frame) (outer : List Frame) (labels : List Label) (stack : List Value) → Fits walk g outer labels stack →
      pop (primitive.I32 ∷ []) g ≡ Some h → Condition h outer labels stack
  condition g h outer labels stack fits e =
      let top = top_of walk g outer labels stack fits in
      let p = pop_values (primitive.I32 ∷ []) g h top.vs top.values e in
      let (v, one, t) = one_value p.top primitive.I32 p.typed in
      record {
        base = top.below ++ p.rest;
        value = v;
        is = top.is ∙ (ap (λ (x : List Value). top.below ++ x) (p.is ∙ ap (λ (x : List Value). p.rest ++ x) one) ∙
            sym (append_assoc top.below p.rest (v ∷ [])));
        typed = t;
        fits = top.again h p.rest p.like p.left;
      }

  chosen_stands : (t : PrimitiveTypeInfo) (n : ℕ) (x y : Reached) → t ≡ primitive.I32 → Stands walk x → Stands walk y → Stands walk (chosen t n x y)
  chosen_stands t n x y e a b = subst (λ t. Stands walk (chosen t n x y)) (sym e) (go n)
    where
      go : (n : ℕ) → Stands walk (chosen primitive.I32 n x y)
      go zero = b
      go (suc n) = a

  pub choose_stands : (f : Frame) (outer : List Frame) (labels : List Label) (stack : List Value) (c : Condition f outer labels stack)
      (x y : List Value → Reached) → Stands walk (x c.base) → Stands walk (y c.base) →
      Stands walk (choose_by_value (last_of 1 stack) (x (take (length stack - 1) stack)) (y (take (length stack - 1) stack)))
  choose_stands f outer labels stack c x y a b =
      subst (λ (z : List Value). Stands walk (choose_by_value (last_of 1 z) (x (take (length z - 1) z)) (y (take (length z - 1) z)))) (sym c.is)
      (subst (λ (z : List Value). Stands walk (choose_by_value z (x (take (length (c.base ++ c.value ∷ []) - 1) (c.base ++ c.value ∷ [])))
      (y (take (length (c.base ++ c.value ∷ []) - 1) (c.base ++ c.value ∷ [])))))
      (sym (last_is c.base (c.value ∷ []) 1 refl))
      (subst (λ (z : List Value). Stands walk (choose_by_value (c.value ∷ []) (x z) (y z))) (sym (front_is c.base (c.value ∷ []) 1 refl))
      (chosen_stands c.value.type c.value.number (x c.base) (y c.base) c.typed a b)))
