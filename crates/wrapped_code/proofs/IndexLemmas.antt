-- A function in which the index of a branch by a table was replaced by one that picks the same label does as before.
use Rattle.std.proofs.Common.{◌≡◌, ℕ, List, [], ◌∷◌, ◌++◌, refl, sym, ap, ap₂, ◌∙◌}
use Rattle.wasm_code.specs.declared.operator.Operator.{Operator}
use Rattle.wasm_code.specs.declared.operator.Operator.TheVariants as op
use Rattle.wasm_types.specs.Module.{Module}
use Rattle.wasm_types.specs.declared.types.PrimitiveTypeInfo.{PrimitiveTypeInfo}
use Rattle.wasm_types.specs.declared.types.PrimitiveTypeInfo.TheVariants as primitive
use Rattle.wasm_execution.specs.Values.{Value, State}
use Rattle.wasm_equivalence.specs.control.Function.{Label, Reached}
use Rattle.wasm_equivalence.specs.control.Standard.{Beyond}
use Rattle.wasm_equivalence.specs.control.Standard as std
use Rattle.wasm_equivalence.specs.control.Laws.{StandardControlIsSound}
use Rattle.wasm_equivalence.specs.validation.Sound.{ValidCodeRuns, ValidBodiesStayValid, TargetsStay, DeedsStay}
use Rattle.wasm_equivalence.specs.validation.StaysValid.{MoreGlobalsCheckAlike, ReplacedCodeStaysValid}
use Rattle.wrapped_code.specs.Indices.{LabelAlike, IndicesMayChange}
use Rattle.wrapped_code.proofs.ValueLemmas.{last_is, front_is}
use Rattle.wrapped_code.proofs.AskingLemmas.{by, Asks, numbers_change}

-- indices that pick the same of so many labels branch alike
turns : (count : ℕ) (m : Module) (results : List PrimitiveTypeInfo) (structure : List Operator) (beyond : Beyond) (k : ℕ) (labels : List Label)
    (below : List Value) (c d : Value) (s : State) → c.type ≡ primitive.I32 → d.type ≡ primitive.I32 → LabelAlike count c.number d.number →
    by m results structure beyond (op.BrTable count) k labels (below ++ c ∷ []) s ≡
    by m results structure beyond (op.BrTable count) k labels (below ++ d ∷ []) s
turns count m results structure beyond k labels below c d s ct dt e =
    let on : List Value → List Value → Reached = λ vs xs. std.branch_on m results structure beyond count k vs labels xs s in
    let picks : PrimitiveTypeInfo → ℕ → Reached = λ t i. std.branch_by m results structure beyond count k t i labels below s in
    ap₂ on (last_is below c) (front_is below c) ∙
    (ap (λ (t : PrimitiveTypeInfo). picks t c.number) ct ∙
    (ap (λ (l : ℕ). std.branch m results structure beyond l labels below s) (e (beyond.labels k) (beyond.default k)) ∙
    (ap (λ (t : PrimitiveTypeInfo). picks t d.number) (sym dt) ∙ sym (ap₂ on (last_is below d) (front_is below d)))))

table_asks : (count : ℕ) → Asks (LabelAlike count) (op.BrTable count)
table_asks count = record {
  structure_first = λ os. refl;
  piece_ends = λ os. refl;
  turns = turns count;
}

pub indices_change : StandardControlIsSound → ValidCodeRuns → MoreGlobalsCheckAlike → ReplacedCodeStaysValid → ValidBodiesStayValid → TargetsStay →
    DeedsStay → IndicesMayChange
indices_change sound_law valid more_law replaced stay targets_stay deeds_stay m input old new w =
    numbers_change sound_law valid more_law replaced stay targets_stay deeds_stay (LabelAlike w.count) m input old new (record {
      params_are = w.params_are;
      locals_are = w.locals_are;
      front = w.front;
      back = w.back;
      own = w.own;
      code = w.code;
      branch = op.BrTable w.count;
      asks = table_asks w.count;
      old_is = w.old_is;
      new_is = w.new_is;
      pushes = w.pushes;
      pushes_so = w.pushes_so;
      same = w.same;
    })
