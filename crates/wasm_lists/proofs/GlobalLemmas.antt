-- Globals and tables are read exactly.
use Rattle.std.proofs.Common.{eqb, [], Err, ◌≡◌, refl}
use Rattle.wasm_code.specs.declared.fault.Cause.TheVariants.{Truncated}
use Rattle.wasm_code.specs.Operator.{Spells, Fails}
use Rattle.wasm_code.specs.Reader.{operator_at}
use Rattle.wasm_code.specs.laws.GrammarLemmas.{Exact, exact_of, exact_then}
use Rattle.wasm_lists.specs.Globals.{SpellsGlobal, FailsGlobal}
use Rattle.wasm_lists.specs.Tables.{SpellsTable, FailsTable}
use Rattle.wasm_lists.specs.Reader.{table_type_at, table_at, global_at}
use Rattle.wasm_lists.specs.ValueReader.{reference_type_at}
use Rattle.wasm_lists.proofs.ConstantLemmas.{initialiser_exact}
use Rattle.wasm_lists.proofs.FirstLemmas.{exact_first}
use Rattle.wasm_lists.proofs.ItemLemmas.{table_type_exact, global_type_exact}
use Rattle.wasm_lists.proofs.ValueLemmas.{mark_exact}

no_table_type : table_type_at [] ≡ Err Truncated
unfolding table_type_at reference_type_at
no_table_type = refl

module _ (operators : Exact Spells Fails operator_at) where
  pub global_exact : Exact SpellsGlobal FailsGlobal global_at
  unfolding global_at
  global_exact = exact_then global_type_exact (λ type. exact_of (λ _. type) (initialiser_exact operators))

  pub table_exact : Exact SpellsTable FailsTable table_at
  unfolding table_at
  table_exact = exact_first (λ b. eqb b 0x40)
      (λ _. exact_then (mark_exact 0x00) (λ _. exact_then table_type_exact (λ type. exact_of (λ _. type) (initialiser_exact operators))))
      table_type_exact Truncated no_table_type
