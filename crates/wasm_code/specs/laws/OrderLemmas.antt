-- That value types are ordered by their places (this project).
use Rattle.std.proofs.Common.{◌≡◌, ℕ, List, [], ◌∷◌, ap, ◌∙◌, rules}
use Rattle.std.specs.Prelude.{Option, Some}
use Rattle.std.specs.Cmp.{Agrees}
use Rattle.std.specs.declared.cmp.Ordering.{Ordering}
use Rattle.wasm_code.specs.Order.{IsOrderedBy, lexicographic, val_type_place}
use Rattle.wasm_code.specs.contracts.immediate.ValTypeOrd.TheImpl as val_type_ord
use Rattle.wasm_code.specs.contracts.immediate.ValTypePartialOrd.TheImpl as val_type_partial
use Rattle.wasm_code.specs.contracts.immediate.ValTypeOrd.TheImpl.Laws.{matches_partial_cmp-law as val_type_agrees}
use Rattle.wasm_code.specs.declared.immediate.ValType.{ValType}

pub in_order : {A : Type 0} {numbers : A → List ℕ} {C : A → A → Ordering} {P : A → A → Option Ordering} → Agrees P C
    → ((x y : A) → C x y ≡ lexicographic (numbers x) (numbers y)) → IsOrderedBy numbers C P
in_order agrees h = record { total = h; partial = λ x y. agrees x y ∙ ap (λ o. Some o) (h x y) }

same_order : (t u : ValType) → val_type_ord.ghosts.cmp t u ≡ lexicographic (val_type_place t ∷ []) (val_type_place u ∷ [])
same_order t u = search rules

pub val_types_in_order : IsOrderedBy (λ t. val_type_place t ∷ []) val_type_ord.ghosts.cmp val_type_partial.ghosts.partial_cmp
val_types_in_order = in_order val_type_agrees same_order
