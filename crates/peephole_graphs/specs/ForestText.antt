-- The text of a forest (this project): behind a first line, a line for each entry, those of a root's tree in front of the
-- next root's, a parent's in front of its children's. Texts are UTF-8.
use Rattle.std.specs.Prelude.{◌≡◌, ℕ, ◌⊎◌, Bool, true, false, List, [], ◌∷◌, ◌++◌}
use Rattle.std.specs.Prelude.{codes, decimal, encode_utf8_all, Option, Result, Ok, Err, String, string_bytes, MatchResult}
use Rattle.std.specs.List.{Contains}
use Rattle.std.specs.Borrow.{Bor}
use Rattle.std.specs.Fn.{FnReturnsAt}
use Rattle.std.specs.Global.{Global}
use denote.Param.Members.{Shared}
use Rattle.mutate_base.specs.declared.error.Error.{Error}
use Rattle.mutate_base.specs.declared.error.Error.TheVariants.{Memory}
use Rattle.peephole_lang.specs.Node.{children_of}
use Rattle.peephole_lang.specs.Term.{Term, Terms, absent, node, no_terms, ◌▸◌, Node, nodes_of, tree_at}
use Rattle.peephole_lang.specs.Text.{text_of}
use Rattle.peephole_graphs.specs.declared.dfg.StackEntry.{StackEntry}
use Rattle.peephole_graphs.specs.Entries.{roots_of}

-- ---- the lines

-- an entry's line, and what stands in front of its own text there
pub record EntryLine : Type 0 where
  pub prefix : List ℕ
  pub entry : StackEntry

-- whether a further child follows
abbrev pub is_followed : Terms StackEntry → Bool
is_followed no_terms = false
is_followed (t ▸ ts) = true

-- what a child's prefix has behind its parent's inner prefix
abbrev pub branch : Bool → List ℕ
branch true = encode_utf8_all (codes "├──")
branch false = encode_utf8_all (codes "└──")

-- what its inner prefix has there
abbrev pub edge : Bool → List ℕ
edge true = encode_utf8_all (codes "│   ")
edge false = codes "    "

-- a tree's lines by the prefix and the inner prefix of its root, and those of the trees of a parent's children by its inner prefix
abbrev mutual
  pub tree_lines : (prefix inner : List ℕ) → Term StackEntry → List EntryLine
  tree_lines prefix inner absent = []
  tree_lines prefix inner (node e kids) = record { prefix = prefix; entry = e } ∷ child_lines inner kids

  pub child_lines : List ℕ → Terms StackEntry → List EntryLine
  child_lines inner no_terms = []
  child_lines inner (t ▸ ts) = tree_lines (inner ++ branch (is_followed ts)) (inner ++ edge (is_followed ts)) t ++ child_lines inner ts

-- the entries with their children, the last one first
abbrev pub entries_as_nodes : List StackEntry → List (Node StackEntry)
entries_as_nodes entries = nodes_of (λ e. e) (λ e. children_of e.operator) entries

-- the tree of an entry: the entry and its children's trees
abbrev pub entry_term : List StackEntry → ℕ → Term StackEntry
entry_term entries i = tree_at (entries_as_nodes entries) i

-- the lines of the roots' trees, root by root
abbrev pub root_lines : List StackEntry → List ℕ → List EntryLine
root_lines entries [] = []
root_lines entries (i ∷ is) = tree_lines [] [] (entry_term entries i) ++ root_lines entries is

-- the lines of the forest, the roots ascending
abbrev pub forest_lines : List StackEntry → List (Option ℕ) → List EntryLine
forest_lines entries parents = root_lines entries (roots_of parents)

-- ---- their text, where `said` tells the text of each entry, or its refusal

-- what stands behind a line's prefix: `(colour)(at operator) text`, and a newline
abbrev pub line_text : (color operator : ℕ) → List ℕ → List ℕ
line_text color operator text = codes "(" ++ (decimal color ++ (codes ")(at " ++ (decimal operator ++ (codes ") " ++ (text ++ codes "\n")))))

-- the same of an entry
abbrev pub entry_text : StackEntry → List ℕ → List ℕ
entry_text e text = line_text e.color e.operator_idx text

-- with an entry's own text behind it
abbrev pub with_entry_text : List ℕ → StackEntry → Result (List ℕ) Error → Result (List ℕ) Error
with_entry_text before e (Ok text) = Ok (before ++ entry_text e text)
with_entry_text before e (Err refusal) = Err refusal

-- with the text that `said` tells of the entry
abbrev pub with_entry : (StackEntry → Result (List ℕ) Error) → List ℕ → StackEntry → Result (List ℕ) Error
with_entry said before e = with_entry_text before e (said e)

-- what comes after a text, or the refusal
abbrev pub then_text : Result (List ℕ) Error → (List ℕ → Result (List ℕ) Error) → Result (List ℕ) Error
then_text (Ok text) go = go text
then_text (Err refusal) go = Err refusal

-- with the lines behind it, or the first refusal
abbrev pub with_lines : (StackEntry → Result (List ℕ) Error) → List ℕ → List EntryLine → Result (List ℕ) Error
with_lines said before [] = Ok before
with_lines said before (l ∷ ls) = then_text (with_entry said (before ++ l.prefix) l.entry) (λ text. with_lines said text ls)

-- the text of the forest: its first line, and then its lines, or the first refusal
abbrev pub forest_text : (StackEntry → Result (List ℕ) Error) → List StackEntry → List (Option ℕ) → Result (List ℕ) Error
forest_text said entries parents = with_lines said (codes "DFG forest\n") (forest_lines entries parents)

-- ---- the default text

-- the lines' texts, where each entry's is its operator's
abbrev pub default_lines : List EntryLine → List ℕ
default_lines [] = []
default_lines (l ∷ ls) = (l.prefix ++ entry_text l.entry (text_of l.entry.operator)) ++ default_lines ls

-- the text of the forest where each entry's own text is its operator's
abbrev pub default_text : List StackEntry → List (Option ℕ) → List ℕ
default_text entries parents = codes "DFG forest\n" ++ default_lines (forest_lines entries parents)

-- ---- what calls answer

-- It is the text, or the refusal, or memory was refused.
abbrev pub IsText : Result (List ℕ) Error → Result (String Global) Error → Type 0
IsText said (Ok text) = said ≡ Ok (string_bytes text)
IsText said (Err e) = (said ≡ Err e) ⊎ (e ≡ Memory)

-- `f` may be called on the entry.
abbrev pub CanTell : {F : Type 0} → Shared F (Bor StackEntry × Unit {0}) (Result (String Global) Error) → F → StackEntry → Type 0
CanTell g f e = (shown : Bor StackEntry) → shown.now ≡ e → g.pre f (shown, tt)

-- `f` answers of the entry what `said` tells.
abbrev pub Tells : {F : Type 0} → Shared F (Bor StackEntry × Unit {0}) (Result (String Global) Error) → F → (StackEntry → Result (List ℕ) Error) →
    StackEntry → Type 0
Tells g f said e = (r : Result (String Global) Error) → FnReturnsAt g f e r → IsText (said e) r

-- ---- the same for every `f`, which may answer of an entry now this and now that

-- the bytes of an answer
abbrev pub answer_bytes : Result (String Global) Error → Result (List ℕ) Error
answer_bytes (Ok text) = Ok (string_bytes text)
answer_bytes (Err e) = Err e

-- `f` answered so of the entry.
pub record Answers {F : Type 0} (g : Shared F (Bor StackEntry × Unit {0}) (Result (String Global) Error)) (f : F) (e : StackEntry)
    (said : Result (List ℕ) Error) : Type 0 where
  pub answer : Result (String Global) Error
  pub given : FnReturnsAt g f e answer
  pub says : said ≡ answer_bytes answer

-- `f` answered so of the entry, which is one of these.
abbrev pub AnswersAmong : {F : Type 0} → Shared F (Bor StackEntry × Unit {0}) (Result (String Global) Error) → F → List StackEntry → StackEntry →
    Result (List ℕ) Error → Type 0
AnswersAmong g f entries e said = Contains entries e × Answers g f e said

-- The whole is the text before with the lines behind it, each with what was answered of its entry when it was asked, or the first refusal.
abbrev pub HasLines : (StackEntry → Result (List ℕ) Error → Type 0) → List ℕ → List EntryLine → Result (List ℕ) Error → Type 0
HasLines Answered before [] whole = whole ≡ Ok before
HasLines Answered before (l ∷ ls) whole =
    (said : Result (List ℕ) Error) × Answered l.entry said ×
    MatchResult said (λ text. HasLines Answered ((before ++ l.prefix) ++ entry_text l.entry text) ls whole) (λ e. whole ≡ Err e)

-- What a call answers and leaves that writes a text behind another: such a whole, or memory was refused.
abbrev pub LeavesText : (Result (List ℕ) Error → Type 0) → Result (Unit {0}) Error → List ℕ → Type 0
LeavesText Is (Ok done) now = Is (Ok now)
LeavesText Is (Err e) now = Is (Err e) ⊎ (e ≡ Memory)

-- What one answers that gives a text.
abbrev pub GivesText : (Result (List ℕ) Error → Type 0) → Result (String Global) Error → Type 0
GivesText Is (Ok text) = Is (Ok (string_bytes text))
GivesText Is (Err e) = Is (Err e) ⊎ (e ≡ Memory)

-- It is the text of the forest, in which each line has a text that `f` answered of its entry, or the first refusal of `f`, or memory was refused.
abbrev pub IsForestText : {F : Type 0} → Shared F (Bor StackEntry × Unit {0}) (Result (String Global) Error) → F → List StackEntry → List (Option ℕ) →
    Result (String Global) Error → Type 0
IsForestText g f entries parents answer =
    GivesText (HasLines (AnswersAmong g f entries) (codes "DFG forest\n") (forest_lines entries parents)) answer
