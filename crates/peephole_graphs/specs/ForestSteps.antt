-- What the functions that write a forest's text go by: the levels of the way down, each with the children that are still to come. This project's rule.
use Rattle.std.specs.Prelude.{◌≡◌, ℕ, Bool, true, false, List, [], ◌∷◌, ◌++◌, MatchResult, Result, Ok, Err}
use Rattle.mutate_base.specs.declared.error.Error.{Error}
use Rattle.peephole_nodes.specs.declared.id.Id.{Id}
use Rattle.peephole_lang.specs.Term.{Terms, pick, numbers_of}
use Rattle.peephole_graphs.specs.declared.dfg.StackEntry.{StackEntry}
use Rattle.peephole_graphs.specs.ForestText.{EntryLine, edge, child_lines, entry_term, entry_text}

-- whether a level has children that are still to come
abbrev pub has_some_children : List Id → Bool
has_some_children [] = false
has_some_children (i ∷ is) = true

-- the inner prefix below the levels
abbrev pub edges : List (List Id) → List ℕ
edges [] = []
edges (ids ∷ levels) = edge (has_some_children ids) ++ edges levels

-- the trees of these children
abbrev pub trees_of : List StackEntry → List Id → Terms StackEntry
trees_of entries ids = pick (entry_term entries) (numbers_of ids)

-- the lines that are still to come
abbrev pub level_lines : List StackEntry → List ℕ → List (List Id) → List EntryLine
level_lines entries inner [] = []
level_lines entries inner (ids ∷ levels) = level_lines entries (inner ++ edge (has_some_children ids)) levels ++ child_lines inner (trees_of entries ids)

-- the text before with an entry's own text behind it, or the refusal
abbrev pub HasEntry : (StackEntry → Result (List ℕ) Error → Type 0) → List ℕ → StackEntry → Result (List ℕ) Error → Type 0
HasEntry Answered before e whole =
    (said : Result (List ℕ) Error) × Answered e said × MatchResult said (λ text. whole ≡ Ok (before ++ entry_text e text)) (λ x. whole ≡ Err x)
