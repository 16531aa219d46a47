-- What the program writes and answers for an input (this project's rules).
use Rattle.std.specs.Prelude.{◌≡◌, ◌⊎◌, ℕ, ◌+◌, ◌<◌, Bool, true, false, List, [], ◌∷◌, ◌++◌, length, take, codes, decimal, Option, Result, Ok, Err}
use Rattle.std.specs.Io.KnownBytes.{Appends}
use Rattle.peephole_script.specs.declared.fault.Fault.{Fault}
use Rattle.peephole_script.specs.declared.fault.Fault.TheVariants as fault
use Rattle.peephole_script.specs.Faults.{line_fault_name}
use Rattle.peephole_script.specs.Text.{lines_of}
use Rattle.peephole_commands.specs.State.{SessionState, Reply, start}
use Rattle.peephole_commands.specs.Commands.{step_line}

-- what is written, and whether no line was faulty
pub record CommandAnswer : Type 0 where
  pub written : List ℕ
  pub ok : Bool

-- the text, and then an answer
abbrev pub prepend : List ℕ → CommandAnswer → CommandAnswer
prepend text a = record { written = text ++ a.written; ok = a.ok }

-- the line that reports the fault of line n
abbrev pub fault_line : ℕ → Fault → List ℕ
fault_line n f = codes "line " ++ (decimal n ++ (codes ": " ++ (line_fault_name f ++ 10 ∷ [])))

-- what the line with the number n makes of what its step answers, where `more` answers the lines after it
abbrev pub answer_line : ℕ → (SessionState → CommandAnswer) → Result Reply Fault → CommandAnswer
answer_line n more (Ok reply) = prepend reply.text (more reply.next)
answer_line n more (Err f) = record { written = fault_line n f; ok = false }

-- the answer to lines in a state, where the first of them has the number n
unfoldable pub answer_from : SessionState → ℕ → List (List ℕ) → CommandAnswer
answer_from s n [] = record { written = []; ok = true }
answer_from s n (line ∷ lines) = answer_line n (λ next. answer_from next (n + 1) lines) (step_line s line)

-- the answer to the lines of an input
abbrev pub answer_lines : List (List ℕ) → CommandAnswer
answer_lines lines = answer_from start 1 lines

-- The run ended at a line for want of memory: no line before it is faulty, their output stands before its report, and nothing after it.
pub record IsCutShort (lines : List (List ℕ)) (written : List ℕ) : Type 0 where
  pub before : ℕ
  pub there : before < length lines
  pub sound : (answer_lines (take before lines)).ok ≡ true
  pub report : written ≡ (answer_lines (take before lines)).written ++ fault_line (before + 1) fault.Memory

-- the run wrote this and answered so
abbrev pub IsCommandAnswer : List ℕ → List ℕ → Bool → Type 0
IsCommandAnswer input written ok =
    (answer_lines (lines_of input) ≡ record { written = written; ok = ok })
    ⊎ (IsCutShort (lines_of input) written × (ok ≡ false))

-- a writer that tells its bytes has grown by what the run wrote for an input
pub record WritesCommandAnswers (input : List ℕ) (old new : Option (List ℕ)) (ok : Bool) : Type 0 where
  pub written : List ℕ
  pub appended : Appends old new written
  pub answered : IsCommandAnswer input written ok
