use Rattle.std.proofs.Common.{◌≡◌, rules, ◌∙◌}
use Rattle.wasm_types.specs.declared.types.PrimitiveTypeInfo.{PrimitiveTypeInfo}
use Rattle.wasm_types.specs.contracts.types.PrimitiveTypeInfoPartialEq.TheImpl.{eq-value}
use Rattle.wasm_execution.specs.Values.{same_type}
use Rattle.wasm_execution.proofs.TypeEqualityLemmas.{pointwise_is}
use Rattle.wasm_execution.proofs.row.same_types.Goals as goal

one : (t u : PrimitiveTypeInfo) → eq-value.it t u ≡ same_type t u
one t u = search rules

pub returns : goal.returns
returns c = c.eq.ensures ∙ pointwise_is eq-value.it one c.args.types.now c.args.others.now
