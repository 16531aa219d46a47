-- The meaning of a typed term in a state of the variables: the values that it leaves and the state after it, or a trap
-- (this project, over what the rows of `wasm_execution` do).
-- The words are what is drawn from the term's first node on. A term without types may come out stuck, and means nothing then.
use Rattle.std.specs.Prelude.{ℕ, ℤ, List, [], ◌∷◌, length, drop, Option, Some, None}
use Rattle.std.specs.Int.{cast_unsigned}
use Rattle.peephole_lang.specs.declared.lang.Head.{Head}
use Rattle.peephole_lang.specs.Term.{Term, Terms, absent, node, no_terms, ◌▸◌}
use Rattle.wasm_execution.specs.Values.{Value, width_of, whole, State, Outcome, Ends, Stuck, then_run, above}
use Rattle.wasm_execution.specs.IntegerRow.{integer_row}
use Rattle.wasm_execution.specs.Machine.{act}
use Rattle.peephole_terms.specs.NodeKind as kind
use Rattle.peephole_terms.specs.NodeKind.{IntegerType, NodeKind, node_kind}
use Rattle.peephole_terms.specs.Expansion.{constant, constant_in, draws_of, draws, first_expansion_word}

-- the constant that is unfolded
abbrev pub number_meaning : IntegerType → Option ℤ → State → Outcome
number_meaning t (Some z) s = Ends (whole t (cast_unsigned (width_of t) z) ∷ []) s
number_meaning t None s = Stuck

-- what a node does behind its children, with their values; a random one does what the constant of its word does
abbrev pub own_meaning : List ℕ → NodeKind → List Value → State → Outcome
own_meaning words (kind.Own i) vs s = act (integer_row i) vs s
own_meaning words (kind.Random t) vs s = act (integer_row (constant t (first_expansion_word words))) vs s
own_meaning words (kind.UseGlobal t) vs s = Ends vs s
own_meaning words kind.Container vs s = Ends vs s
own_meaning words _ vs s = Stuck

-- an unfold means its constant; any other node comes behind its children
abbrev pub with_own_meaning : List ℕ → NodeKind → Terms Head → Outcome → State → Outcome
with_own_meaning words (kind.Unfold t) kids below s = number_meaning t (constant_in t kids) s
with_own_meaning words k kids below s = then_run below (own_meaning (drop (length (draws kids)) words) k)

abbrev mutual
  pub meaning_of : List ℕ → Term Head → State → Outcome
  meaning_of words absent s = Stuck
  meaning_of words (node h kids) s = with_own_meaning words (node_kind h) kids (meaning words kids s) s

  pub meaning : List ℕ → Terms Head → State → Outcome
  meaning words no_terms s = Ends [] s
  meaning words (t ▸ ts) s = then_run (meaning_of words t s) (λ vs after. above vs (meaning (drop (length (draws_of t)) words) ts after))
