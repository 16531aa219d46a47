-- The program's own answer never tells of memory (this project's law). A run that ends for want of memory says so besides,
-- in `IsCutShort`.
use Rattle.std.specs.Prelude.{◌≡◌, ◌≢◌, ℕ, Bool, List, Err}
use Rattle.wasm_code.specs.declared.fault.ReadKind.TheVariants as kinds
use Rattle.mutate_base.specs.declared.error.Error.TheVariants.{Memory}
use Rattle.wasm_types.specs.Module.{Module}
use Rattle.peephole_lang.specs.declared.lang.Head.{Head}
use Rattle.peephole_lang.specs.Term.{Node}
use Rattle.peephole_analysis.specs.Analysis.{Analysis}
use Rattle.peephole_terms.specs.Expansion.{Setting}
use Rattle.peephole_script.specs.declared.fault.Fault.{Fault}
use Rattle.peephole_script.specs.declared.fault.Fault.TheVariants as fault
use Rattle.peephole_commands.specs.declared.graphs.Refusal.TheVariants as refusal
use Rattle.peephole_terms.specs.Written.{Site}
use Rattle.peephole_commands.specs.Commands.{step_line}
use Rattle.peephole_commands.specs.Results.{result_output}
use Rattle.peephole_commands.specs.Show.{show_output}
use Rattle.peephole_commands.specs.State.{SessionState}
use Rattle.peephole_commands.specs.Writing.{written_output}

-- a fault that is reported by another name than `Memory`
abbrev pub IsOfNoMemory : Fault → Type 0
IsOfNoMemory f = (f ≢ fault.Memory) × (f ≢ fault.Read kinds.Memory)

-- no line's step has a fault that is reported as `line N: Memory`
abbrev pub NeverFaultsForMemory : Type 0
NeverFaultsForMemory = (s : SessionState) (line : List ℕ) (f : Fault) → step_line s line ≡ Err f → IsOfNoMemory f

-- nothing that `show`, `result` and `write` tell is `refused Memory`
pub record NeverRefusesForMemory : Type 0 where
  pub show : (info : Module) (preserving : Bool) (site : Site) → show_output info preserving site ≢ Err (refusal.Refused Memory)
  pub result : (a : Analysis) (preserving : Bool) (site : Site) → result_output a preserving site ≢ Err (refusal.Refused Memory)
  pub write : (s : Setting) (preserving : Bool) (site : Site) (nodes : List (Node Head)) →
      written_output s preserving site nodes ≢ Err (refusal.Refused Memory)
