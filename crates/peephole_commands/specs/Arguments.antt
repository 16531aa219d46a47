-- What commands read from the words behind their names (this project's rules).
use Rattle.std.specs.Prelude.{◌≡◌, ◌⊎◌, MatchResult, Vec, ℕ, List, [], ◌∷◌, nat_lt, Option, Some, None, Result, Ok, Err, if◌then◌else◌}
use Rattle.std.specs.List.{list_all}
use Rattle.peephole_nodes.specs.declared.id.Id.{Id}
use Rattle.peephole_lang.specs.Term.{numbers_of}
use Rattle.peephole_script.specs.declared.fault.Fault.{Fault}
use Rattle.peephole_script.specs.declared.fault.Fault.TheVariants as fault
use Rattle.peephole_script.specs.Text.{number_of}
use Rattle.peephole_script.specs.Arguments.{all_of}

-- the value of the only word
abbrev pub only_word : {A : Type 0} → (List ℕ → Option A) → List (List ℕ) → Option A
only_word value (word ∷ []) = value word
only_word value _ = None

-- the numbers, if there are any and each is below the count
abbrev pub all_below : ℕ → Option (List ℕ) → Result (List ℕ) Fault
all_below count None = Err fault.BadArgument
all_below count (Some numbers) = if list_all (λ n. nat_lt n count) numbers then Ok numbers else Err fault.BadChild

-- the children that words name among so many nodes
abbrev pub named_children : ℕ → List (List ℕ) → Result (List ℕ) Fault
named_children count words = all_below count (all_of number_of words)

-- a call read these ids, or answered the fault, or no memory was left
abbrev pub Reads : {A : Type 0} → Result (List ℕ) Fault → Result (Vec Id A) Fault → Type 0
Reads said result = MatchResult result (λ ids. said ≡ Ok (numbers_of ids.items)) (λ f. (f ≡ fault.Memory) ⊎ (said ≡ Err f))
