-- Both are asked.
use Rattle.std.proofs.Common.{refl, sym, subst}
use Rattle.wasm_execution.specs.declared.integer.IntegerType.{IntegerType}
use Rattle.wasm_execution.specs.declared.integer.IntegerType.TheVariants.{I32, I64}
use Rattle.rewrite_rules.specs.declared.table.Widths.TheVariants.{Both}
use Rattle.body_rewrites.specs.Rewrites.{asked_widths, HasWidth}
use Rattle.body_rewrites.proofs.rewriting.is_asked.Goals as goal

has_both : (t : IntegerType) → HasWidth (asked_widths Both) t
has_both I32 = (0, refl)
has_both I64 = (1, refl)

pub returns-in-Both-default-clause-same : goal.returns-in-Both-default-clause-same
returns-in-Both-default-clause-same c = λ h. subst (λ w. HasWidth (asked_widths w) c.args.width) (sym c.in-Both-default.is-0) (has_both c.args.width)
