use Rattle.std.proofs.Common.{◌≡◌, ◌++◌, ◌∷◌, [], List, length, refl, sym, ap, ◌∙◌, append_assoc, append-nil, arith}
use Rattle.std.proofs.lemmas.Grind.{common_steps}
use Rattle.std.specs.Vec.Iter.{into_iter_items}
use Rattle.wasm_types.specs.declared.types.TypeInfo.{TypeInfo}
use Rattle.wasm_lists.specs.Types.{types_in}
use Rattle.wasm_module.proofs.spaces.type_space.Goals as goal

nothing_left : {X : Type 0} (l : List X) → length l ≡ 0 → l ≡ []
nothing_left [] h = refl
nothing_left (x ∷ xs) h = absurd (omega arith)

pub loop-group-preserved : goal.loop-group-preserved
loop-group-preserved c =
    let at = c.loop-group in
    let x = c.in-Some.group in
    let steps : into_iter_items at.group-iterator ≡ x ∷ into_iter_items c.next.new.self = c.in-Some.ensures.steps.0 in
    let made : c.append_to.new.all.items ≡ at.all.items ++ x = grind (arith, common_steps) in (
      ap (λ (l : List TypeInfo). l ++ types_in (into_iter_items c.next.new.self)) made
          ∙ append_assoc at.all.items x (types_in (into_iter_items c.next.new.self))
          ∙ ap (λ (l : List (List TypeInfo)). at.all.items ++ types_in l) (sym steps)
          ∙ at.invariant.0,
      let was = at.invariant.1 in
          let gone = c.in-Some.ensures.steps.1 in
          let short = ap length steps in
          omega arith,
    )

pub returns : goal.returns
returns c =
    let at = c.loop-group in
    let none = c.in-None.ensures.steps in
    let empty : into_iter_items at.group-iterator ≡ [] = nothing_left _ (sym at.invariant.1 ∙ none.0) in
    sym (append-nil at.all.items)
    ∙ ap (λ (l : List (List TypeInfo)). at.all.items ++ types_in l) (sym empty)
    ∙ at.invariant.0
    ∙ ap types_in c.into_iter-group-iterator.ensures.into_iter_gives.0
