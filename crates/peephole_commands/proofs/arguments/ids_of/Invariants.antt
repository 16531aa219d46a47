use Rattle.std.proofs.Common.{◌≡◌, ℕ, ◌<◌, ◌++◌, Bool, List, Some, None, Ok, Err, drop}
use Rattle.std.specs.Prelude.{◌&&◌, nat_lt, All, Option, Result, if◌then◌else◌}
use Rattle.std.specs.List.{list_all}
use Rattle.peephole_lang.specs.Term.{numbers_of}
use Rattle.peephole_script.specs.declared.fault.Fault.{Fault}
use Rattle.peephole_script.specs.declared.fault.Fault.TheVariants as fault
use Rattle.peephole_script.specs.Arguments.{all_of}
use Rattle.peephole_script.specs.Text.{number_of, texts}
use Rattle.peephole_commands.specs.Arguments.{named_children}
use Rattle.peephole_commands.proofs.arguments.ids_of.Given as goal

-- the answer where `front` was read, of words below the count or not, and these are the numbers of the words that are left
abbrev after_front : ℕ → Bool → List ℕ → Option (List ℕ) → Result (List ℕ) Fault
after_front count below front None = Err fault.BadArgument
after_front count below front (Some rest) =
    if below && list_all (λ n. nat_lt n count) rest then Ok (front ++ rest) else Err fault.BadChild

-- the ids so far, and the numbers of the words that are left, make the answer
abbrev pub invariant-loop-word : goal.invariant-loop-word
invariant-loop-word l = record {
  read : after_front l.count l.below (numbers_of l.ids.items) (all_of number_of (texts (drop l.word-index l.words))) ≡ named_children l.count (texts l.words);
  all : All (λ child. child < l.count) (numbers_of l.ids.items);
}
