use Rattle.std.proofs.Common.{ap}
use Rattle.wasm_types.specs.laws.Equality.{types_equal}
use Rattle.peephole_analysis.specs.declared.analysis.ClassData.{ClassData}
use Rattle.peephole_analysis.proofs.laws.equal_class_data.Goals as goal

pub returns : goal.returns
returns _ c d = (
  λ e. ap (λ t. let r : ClassData = record { tpe = t } in r) ((types_equal c.tpe d.tpe).0 e),
  λ e. (types_equal c.tpe d.tpe).1 (ap (λ (x : ClassData). x.tpe) e),
)
