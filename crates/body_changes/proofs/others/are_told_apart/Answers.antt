-- One more, and all of them.
use Rattle.std.proofs.Common.{List, refl, sym, ◌∙◌, subst}
use Rattle.std.specs.List.{All}
use Rattle.std.specs.Prelude.{IsTrue}
use Rattle.std.proofs.lemmas.List.{take_all}
use Rattle.std.proofs.lemmas.List.Elements.{All-more}
use Rattle.wasm_types.specs.declared.types.PrimitiveTypeInfo.{PrimitiveTypeInfo}
use Rattle.wasm_types.specs.declared.types.PrimitiveTypeInfo.TheVariants.{I32}
use Rattle.body_changes.specs.Typed.{is_told_apart}
use Rattle.body_changes.proofs.others.are_told_apart.Goals as goal

pub loop-i-preserved : goal.loop-i-preserved
loop-i-preserved c =
    All-more (λ (t : PrimitiveTypeInfo). IsTrue (is_told_apart t)) c.args.types.now c.loop-i.i I32 c.loop-i-test.true c.loop-i.invariant
    (sym c.is_told_apart.ensures ∙ c.if-not-is_told_apart.false)

pub returns : goal.returns
returns c = (
  λ yes. subst (λ (ts : List PrimitiveTypeInfo). All (λ (t : PrimitiveTypeInfo). IsTrue (is_told_apart t)) ts)
      (take_all c.loop-i.i c.args.types.now c.loop-i-test.false) c.loop-i.invariant,
  λ all. refl,
)
