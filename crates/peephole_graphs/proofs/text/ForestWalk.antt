-- The lines of a forest are written one by one; the levels of the way down hold those that are still to come.
use Rattle.std.proofs.Common.{◌≡◌, ℕ, suc, ◌+◌, ◌*◌, ◌<◌, ◌⊎◌, inl, inr, Bool, true, false, List, [], ◌∷◌, ◌++◌, length, get_or, take, drop, map, Option}
use Rattle.std.proofs.Common.{None, Some, Result, Ok, Err, refl, sym, ap, subst, ◌∙◌, arith, append_assoc, append-nil, length-append, string_bytes}
use Rattle.std.specs.Prelude.{All, String, MatchResult, codes, ◌==◌}
use Rattle.std.specs.List.{Contains}
use Rattle.std.proofs.lemmas.Bool.{ne_eqb, false≢true}
use Rattle.std.specs.Borrow.{Bor}
use Rattle.std.specs.Global.{Global}
use denote.Param.Members.{Shared}
use Rattle.std.proofs.lemmas.Fn.{says_at}
use Rattle.std.proofs.lemmas.List.{map-append, map_more, take-append-drop, take_more, length-take}
use Rattle.std.proofs.lemmas.List.Elements.{All-nil, All-cons, All-head, All-tail, All-push, All-get_or, All-pop, All-weaker, All-contains, All-contains_itself}
use Rattle.mutate_base.specs.declared.error.Error.{Error}
use Rattle.mutate_base.specs.declared.error.Error.TheVariants.{Memory}
use Rattle.peephole_nodes.specs.declared.id.Id.{Id}
use Rattle.peephole_lang.specs.Lang.{ids_of}
use Rattle.peephole_lang.specs.Node.{children_of}
use Rattle.peephole_lang.specs.Term.{node, AreBelow, numbers_of}
use Rattle.peephole_lang.specs.Text.{text_of}
use Rattle.peephole_graphs.specs.declared.dfg.StackEntry.{StackEntry}
use Rattle.peephole_graphs.specs.Entries.{roots_of}
use Rattle.peephole_graphs.specs.ForestText.{EntryLine, is_followed, branch, edge, tree_lines, child_lines, entries_as_nodes, entry_term}
use Rattle.peephole_graphs.specs.ForestText.{root_lines, forest_lines}
use Rattle.peephole_graphs.specs.ForestText.{entry_text, with_lines, forest_text, default_lines, default_text, IsText}
use Rattle.peephole_graphs.specs.ForestText.{Tells, answer_bytes, Answers, AnswersAmong, HasLines, GivesText, IsForestText}
use Rattle.peephole_graphs.specs.ForestSteps.{has_some_children, edges, trees_of, level_lines, HasEntry}
use Rattle.peephole_graphs.proofs.graph.GraphLemmas.{roots_root, roots_child}
use Rattle.peephole_graphs.proofs.graph.EntryTreeLemmas.{nodes_below}
use Rattle.peephole_lang.specs.laws.PlaceLemmas.{IsAt, tree_is, children_in, at_place}

abbrev Text : Type 0
Text = Result (List ℕ) Error

abbrev yes : List ℕ → Text
yes text = Ok text

abbrev no : Error → Text
no x = Err x

same_Ok : {a b : List ℕ} → yes a ≡ yes b → a ≡ b
same_Ok e = cc

-- such a whole is a refusal, or memory was refused
abbrev Fails : (Text → Type 0) → Error → Type 0
Fails Is x = Is (Err x) ⊎ (x ≡ Memory)

-- a part's refusal is the whole's
passed : (Part Whole : Text → Type 0) (x : Error) → (Part (Err x) → Whole (Err x)) → Fails Part x → Fails Whole x
passed Part Whole x f (inl a) = inl (f a)
passed Part Whole x f (inr b) = inr b

-- ---- an entry's own text

module _ {F : Type 0} (g : Shared F (Bor StackEntry × Unit {0}) (Result (String Global) Error)) (f : F) where
  pub refused : (y : Bor StackEntry) (r : Result (String Global) Error) (x : Error) (before : List ℕ) → g.post f (y, tt) r → r ≡ Err x →
      HasEntry (Answers g f) before y.now (Err x)
  refused y r x before p e = (Err x, record { answer = Err x; given = says_at g p e; says = refl }, refl)

  pub answered : (y : Bor StackEntry) (r : Result (String Global) Error) (s : String Global) (before now : List ℕ) → g.post f (y, tt) r → r ≡ Ok s →
      now ≡ before ++ entry_text y.now (string_bytes s) → HasEntry (Answers g f) before y.now (Ok now)
  answered y r s before now p e n =
      (Ok (string_bytes s), record { answer = Ok s; given = says_at g p e; says = refl }, ap (λ (x : List ℕ). yes x) n)

-- what holds of each of the entries holds of one that the code looked up
pub at_entry_of : (P : StackEntry → Type 0) (entries : List StackEntry) (i : ℕ) (e : StackEntry) → i < length entries →
    e ≡ get_or entries i e → All P entries → P e
at_entry_of P entries i e l is all = subst P (sym is) (All-get_or P entries i e l all)

-- such a one is one of the entries
pub entry_there : (entries : List StackEntry) (i : ℕ) (e : StackEntry) → i < length entries → e ≡ get_or entries i e → Contains entries e
entry_there entries i e l is = at_entry_of (Contains entries) entries i e l is (All-contains_itself entries)

-- what was answered of an entry that is one of these was answered of one of these
module _ {F : Type 0} (g : Shared F (Bor StackEntry × Unit {0}) (Result (String Global) Error)) (f : F) (entries : List StackEntry) (e : StackEntry)
    (there : Contains entries e) (before : List ℕ) where
  pub among : (whole : Text) → HasEntry (Answers g f) before e whole → HasEntry (AnswersAmong g f entries) before e whole
  among whole (said, given, is) = (said, (there, given), is)

  pub among_fails : (x : Error) → Fails (HasEntry (Answers g f) before e) x → Fails (HasEntry (AnswersAmong g f entries) before e) x
  among_fails x h = passed (HasEntry (Answers g f) before e) (HasEntry (AnswersAmong g f entries) before e) x (among (Err x)) h

-- ---- lines one behind another

abbrev line : List ℕ → StackEntry → EntryLine
line prefix e = record { prefix = prefix; entry = e }

-- of what answers of entries there are
module _ (A : StackEntry → Text → Type 0) where
  -- a line, and those behind it
  one_more : (before now : List ℕ) (l : EntryLine) (ls : List EntryLine) (whole : Text) → HasEntry A (before ++ l.prefix) l.entry (Ok now) →
      HasLines A now ls whole → HasLines A before (l ∷ ls) whole
  one_more before now l ls whole (Ok text, given, is) rest =
      (Ok text, given, subst (λ (x : List ℕ). HasLines A x ls whole) (same_Ok is) rest)
  one_more before now l ls whole (Err x, given, is) rest = absurd cc

  -- a line's refusal
  line_fails : (before : List ℕ) (l : EntryLine) (ls : List EntryLine) (x : Error) → HasEntry A (before ++ l.prefix) l.entry (Err x) →
      HasLines A before (l ∷ ls) (Err x)
  line_fails before l ls x (Ok text, given, is) = absurd cc
  line_fails before l ls x (Err y, given, is) = (Err y, given, is)

  -- lines behind lines
  lines_more : (before text : List ℕ) (ks ls : List EntryLine) (whole : Text) → HasLines A before ks (Ok text) → HasLines A text ls whole →
      HasLines A before (ks ++ ls) whole
  lines_more before text [] ls whole is rest = subst (λ (x : List ℕ). HasLines A x ls whole) (same_Ok is) rest
  lines_more before text (k ∷ ks) ls whole (Ok own, given, is) rest =
      (Ok own, given, lines_more ((before ++ k.prefix) ++ entry_text k.entry own) text ks ls whole is rest)
  lines_more before text (k ∷ ks) ls whole (Err x, given, is) rest = absurd cc

  -- a refusal before further lines
  lines_fail : (before : List ℕ) (ks ls : List EntryLine) (x : Error) → HasLines A before ks (Err x) → HasLines A before (ks ++ ls) (Err x)
  lines_fail before [] ls x is = absurd cc
  lines_fail before (k ∷ ks) ls x (Ok own, given, is) = (Ok own, given, lines_fail ((before ++ k.prefix) ++ entry_text k.entry own) ks ls x is)
  lines_fail before (k ∷ ks) ls x (Err y, given, is) = (Err y, given, is)

-- ---- the levels

level_lines-append : (entries : List StackEntry) (inner : List ℕ) (ks js : List (List Id)) →
    level_lines entries inner (ks ++ js) ≡ level_lines entries (inner ++ edges ks) js ++ level_lines entries inner ks
level_lines-append entries inner [] js = sym (append-nil (level_lines entries (inner ++ []) js) ∙ ap (λ p. level_lines entries p js) (append-nil inner))
level_lines-append entries inner (k ∷ ks) js = simp (level_lines-append entries (inner ++ edge (has_some_children k)) ks js, append_assoc)

followed_is : (entries : List StackEntry) (ids : List Id) → is_followed (trees_of entries ids) ≡ has_some_children ids
followed_is entries [] = refl
followed_is entries (i ∷ is) = refl

abbrev Inside : List StackEntry → List Id → Type 0
Inside entries ids = All (λ (k : ℕ). k < length entries) (numbers_of ids)

-- an entry that the code looked up: its tree, and its children
module _ (entries : List StackEntry) (i : ℕ) (e : StackEntry) (b : AreBelow (entries_as_nodes entries)) (l : i < length entries)
    (is : e ≡ get_or entries i e) where
  at_entry : IsAt (record { head = e; children = children_of e.operator }) (entries_as_nodes entries) i
  at_entry = at_place (λ x. x) (λ (x : StackEntry). children_of x.operator) entries i e l is

  tree_entry : entry_term entries i ≡ node e (trees_of entries (ids_of e.operator))
  tree_entry = tree_is at_entry b

  kids_inside : Inside entries (ids_of e.operator)
  kids_inside = All-weaker (λ k. k < i) (λ k. k < length entries) (λ k h. omega arith) (children_of e.operator) (children_in at_entry b)

  -- the next line, and the levels behind it
  down_lines : (rest : List (List Id)) (child : Id) (later : List Id) → child.0 ≡ i → level_lines entries [] (rest ++ (child ∷ later) ∷ [])
      ≡ line (edges rest ++ branch (has_some_children later)) e ∷ level_lines entries [] (rest ++ later ∷ ids_of e.operator ∷ [])
  down_lines rest child later same =
      let here = ap (entry_term entries) same ∙ tree_entry in
      rw (
        level_lines-append entries [] rest ((child ∷ later) ∷ []),
        level_lines-append entries [] rest (later ∷ ids_of e.operator ∷ []),
        followed_is entries later,
        here,
      )

-- ---- the same, by what the code looks up

-- whether a child follows
pub some_later : (ids : List Id) (b : Bool) → b ≡ (length ids == 0) → b ≡ false → has_some_children ids ≡ true
some_later [] b e f = absurd (false≢true (sym f ∙ e))
some_later (i ∷ is) b e f = refl

pub none_later : (ids : List Id) (b : Bool) → b ≡ (length ids == 0) → b ≡ true → has_some_children ids ≡ false
none_later [] b e t = refl
none_later (i ∷ is) b e t = absurd (false≢true (sym (ne_eqb (suc (length is)) 0 (omega arith)) ∙ (sym e ∙ t)))

abbrev Ids : Type 0
Ids = Bor (List Id)

abbrev pub shown : List Ids → List (List Id)
shown levels = map (λ (k : Ids). k.now) levels

abbrev pub IsInside : List StackEntry → List Ids → Type 0
IsInside entries levels = All (λ (k : Ids). Inside entries k.now) levels

abbrev pub measure : List StackEntry → List Ids → ℕ
measure entries levels = 2 * length (level_lines entries [] (shown levels)) + length levels

edges-append : (ks js : List (List Id)) → edges (ks ++ js) ≡ edges ks ++ edges js
edges-append [] js = refl
edges-append (k ∷ ks) js = ap (λ x. edge (has_some_children k) ++ x) (edges-append ks js)
    ∙ sym (append_assoc (edge (has_some_children k)) (edges ks) (edges js))

-- one more level's edge
pub edge_added : (levels : List Ids) (i : ℕ) (d : Ids) (old text now : List ℕ) → i < length levels →
    text ≡ old ++ edges (shown (take i levels)) → now ≡ text ++ edge (has_some_children (get_or levels i d).now) →
    now ≡ old ++ edges (shown (take (i + 1) levels))
edge_added levels i d old text now l e n =
    let k = get_or levels i d in
    let front = take i levels in
    let own = edge (has_some_children k.now) in
    let all : edges (shown (take (i + 1) levels)) ≡ edges (shown front) ++ own =
    ap edges (map_more (λ (x : Ids). x.now) levels i d l) ∙ (edges-append (shown front) (k.now ∷ []) ∙ ap (λ x. edges (shown front) ++ x) (append-nil own)) in
    n ∙ (ap (λ x. x ++ own) e ∙ (append_assoc old (edges (shown front)) own ∙ ap (λ x. old ++ x) (sym all)))

-- What is still to come, behind what is written, makes the whole, which is these lines behind a text.
abbrev pub IsRest : (StackEntry → Text → Type 0) → List StackEntry → List ℕ → List EntryLine → List Ids → List ℕ → Type 0
IsRest A entries before lines levels text =
    (whole : Text) → HasLines A text (level_lines entries [] (shown levels)) whole → HasLines A before lines whole

shown_top : (levels rest : List Ids) (k : Ids) (ids : List Id) → levels ≡ rest ++ k ∷ [] → k.now ≡ ids → shown levels ≡ shown rest ++ ids ∷ []
shown_top levels rest k ids e f = rw (e, map-append (λ (x : Ids). x.now) rest (k ∷ []), f)

pub child_inside : (entries : List StackEntry) (levels rest : List Ids) (k : Ids) (child : Id) (later : List Id) → levels ≡ rest ++ k ∷ [] →
    k.now ≡ child ∷ later → IsInside entries levels → child.0 < length entries
child_inside entries levels rest k child later top ids h =
    let own : Inside entries k.now = (All-pop (λ (x : Ids). Inside entries x.now) levels rest (Some k) top h).1 in
    All-head (λ (n : ℕ). n < length entries) child.0 (numbers_of later) (subst (Inside entries) ids own)

-- What the code knows of the level that it took, of its next child and of that child's entry.
pub record IsTaken (entries : List StackEntry) (levels rest : List Ids) (k : Ids) (child : Id) (later : Ids) (e : StackEntry) : Type 0 where
  pub below : AreBelow (entries_as_nodes entries)
  pub inside : IsInside entries levels
  pub top : levels ≡ rest ++ k ∷ []
  pub ids : k.now ≡ child ∷ later.now
  pub is : e ≡ get_or entries child.0 e

pub taken : {entries : List StackEntry} {levels rest : List Ids} {k : Ids} {child : Id} {later : Ids} {e : StackEntry} → AreBelow (entries_as_nodes entries) →
    IsInside entries levels → levels ≡ rest ++ k ∷ [] → k.now ≡ child ∷ later.now → e ≡ get_or entries child.0 e → IsTaken entries levels rest k child later e
taken b i t d s = record { below = b; inside = i; top = t; ids = d; is = s }

module _ {entries : List StackEntry} {levels rest : List Ids} {k : Ids} {child : Id} {later : Ids} {e : StackEntry}
    (t : IsTaken entries levels rest k child later e) where
  at_child : child.0 < length entries
  at_child = child_inside entries levels rest k child later.now t.top t.ids t.inside

  pub at_child_of : (P : StackEntry → Type 0) → All P entries → P e
  at_child_of P all = at_entry_of P entries child.0 e at_child t.is all

  pub child_there : Contains entries e
  child_there = at_child_of (Contains entries) (All-contains_itself entries)

  -- the lines behind the next one
  abbrev more : List EntryLine
  more = level_lines entries [] (shown rest ++ later.now ∷ ids_of e.operator ∷ [])

  next_lines : level_lines entries [] (shown levels) ≡ line (edges (shown rest) ++ branch (has_some_children later.now)) e ∷ more
  next_lines =
      ap (level_lines entries []) (shown_top levels rest k (child ∷ later.now) t.top t.ids)
      ∙ down_lines entries child.0 e t.below at_child t.is (shown rest) child later.now refl

  -- the next line, with the levels `seen` that the code lends
  module _ (A : StackEntry → Text → Type 0) (before : List ℕ) (lines : List EntryLine) (seen : List Ids) (text : List ℕ)
      (rest_is : IsRest A entries before lines levels text) (s : seen ≡ rest) where
    abbrev HasNext : Text → Type 0
    HasNext = HasEntry A (text ++ (edges (shown seen) ++ branch (has_some_children later.now))) e

    next_here : (next : Text) → HasNext next → HasEntry A (text ++ (edges (shown rest) ++ branch (has_some_children later.now))) e next
    next_here next h = subst (λ (x : List Ids). HasEntry A (text ++ (edges (shown x) ++ branch (has_some_children later.now))) e next) s h

    whole_is : (whole : Text) → HasLines A text (line (edges (shown rest) ++ branch (has_some_children later.now)) e ∷ more) whole →
        HasLines A before lines whole
    whole_is whole h = rest_is whole (subst (λ (ls : List EntryLine). HasLines A text ls whole) (sym next_lines) h)

    -- a refusal at the next line is the whole's
    pub child_failed : (x : Error) → Fails HasNext x → Fails (HasLines A before lines) x
    child_failed x r =
        let own = line (edges (shown rest) ++ branch (has_some_children later.now)) e in
        passed HasNext (HasLines A before lines) x (λ h. whole_is (Err x) (line_fails A text own more x (next_here (Err x) h))) r

  -- the levels with the next child's children on top
  module _ (next : List Ids) (kids : Ids) (lb : kids.now ≡ ids_of e.operator) (n : next ≡ (rest ++ later ∷ []) ++ kids ∷ []) where
    next_shown : shown next ≡ shown rest ++ later.now ∷ ids_of e.operator ∷ []
    next_shown = rw (n, append_assoc rest (later ∷ []) (kids ∷ []), map-append (λ (x : Ids). x.now) rest (later ∷ kids ∷ []), lb)

    pub child_written : (A : StackEntry → Text → Type 0) (before : List ℕ) (lines : List EntryLine) (seen : List Ids) (text now : List ℕ) →
        IsRest A entries before lines levels text → seen ≡ rest → HasEntry A (text ++ (edges (shown seen) ++ branch (has_some_children later.now))) e (Ok now) →
        IsRest A entries before lines next now
    child_written A before lines seen text now rest_is s r whole h =
        whole_is A before lines seen text rest_is s whole (one_more A text now (line (edges (shown rest) ++ branch (has_some_children later.now)) e) more whole
        (next_here A before lines seen text rest_is s (Ok now) r)
        (subst (λ (x : List (List Id)). HasLines A now (level_lines entries [] x) whole) next_shown h))

    pub down_inside : IsInside entries next
    down_inside =
        let P : Ids → Type 0 = λ x. Inside entries x.now in
        let popped = All-pop P levels rest (Some k) t.top t.inside in
        let own : Inside entries (child ∷ later.now) = rw t.ids at popped.1 in
        let left = All-tail (λ (n : ℕ). n < length entries) child.0 (numbers_of later.now) own in
        rw n (All-push P (rest ++ later ∷ []) kids (All-push P rest later popped.0 left) (rw lb (kids_inside entries child.0 e t.below at_child t.is)))

    pub down_smaller : measure entries next < measure entries levels
    down_smaller =
        let p = ap (λ (x : List (List Id)). length (level_lines entries [] x)) next_shown in
        let q = ap (λ (x : List EntryLine). length x) next_lines in
        let c = ap (λ (x : List Ids). length x) n in
        let d = ap (λ (x : List Ids). length x) t.top in
        omega (arith, length-append (rest ++ later ∷ []) (kids ∷ []), length-append rest (later ∷ []), length-append rest (k ∷ []))

-- a level without further children
module _ (entries : List StackEntry) (levels rest : List Ids) (k : Ids) (top : levels ≡ rest ++ k ∷ []) where
  pub up_inside : IsInside entries levels → IsInside entries rest
  up_inside h = (All-pop (λ (x : Ids). Inside entries x.now) levels rest (Some k) top h).0

  up_shown : k.now ≡ [] → level_lines entries [] (shown levels) ≡ level_lines entries [] (shown rest)
  up_shown none = ap (level_lines entries []) (shown_top levels rest k [] top none) ∙ level_lines-append entries [] (shown rest) ([] ∷ [])

  pub walk_up : k.now ≡ [] → (A : StackEntry → Text → Type 0) (before : List ℕ) (lines : List EntryLine) (text : List ℕ) →
      IsRest A entries before lines levels text → IsRest A entries before lines rest text
  walk_up none A before lines text rest_is whole h = rest_is whole (subst (λ (ls : List EntryLine). HasLines A text ls whole) (sym (up_shown none)) h)

  pub up_smaller : k.now ≡ [] → measure entries rest < measure entries levels
  up_smaller none =
      let p = ap (λ (x : List EntryLine). length x) (up_shown none) in
      let d = ap (λ (x : List Ids). length x) top in
      omega (arith, p, length-append rest (k ∷ []))

-- the root's own line
module _ (entries : List StackEntry) (i : ℕ) (e : StackEntry) (b : AreBelow (entries_as_nodes entries)) (l : i < length entries)
    (is : e ≡ get_or entries i e) where
  abbrev below_it : List EntryLine
  below_it = child_lines [] (trees_of entries (ids_of e.operator))

  own_lines : tree_lines [] [] (entry_term entries i) ≡ line [] e ∷ below_it
  own_lines = ap (tree_lines [] []) (tree_entry entries i e b l is)

  at_start : (A : StackEntry → Text → Type 0) (before : List ℕ) (whole : Text) → HasEntry A before e whole → HasEntry A (before ++ []) e whole
  at_start A before whole h = subst (λ (x : List ℕ). HasEntry A x e whole) (sym (append-nil before)) h

  pub walk_start : (k : Ids) (levels : List Ids) → k.now ≡ ids_of e.operator → levels ≡ k ∷ [] → (A : StackEntry → Text → Type 0) (before text : List ℕ) →
      HasEntry A before e (Ok text) → IsRest A entries before (tree_lines [] [] (entry_term entries i)) levels text
  walk_start k levels ids top A before text r whole h =
      let same : level_lines entries [] (shown levels) ≡ below_it = rw (top, ids) refl in
      subst (λ (ls : List EntryLine). HasLines A before ls whole) (sym own_lines)
      (one_more A before text (line [] e) below_it whole (at_start A before (Ok text) r) (subst (λ (ls : List EntryLine). HasLines A text ls whole) same h))

  pub start_inside : (k : Ids) (levels : List Ids) → k.now ≡ ids_of e.operator → levels ≡ k ∷ [] → IsInside entries levels
  start_inside k levels ids top =
      let P : Ids → Type 0 = λ x. Inside entries x.now in rw top (All-cons P k [] (rw ids (kids_inside entries i e b l is)) (All-nil P))

  -- the root's own refusal
  pub start_failed : (A : StackEntry → Text → Type 0) (before : List ℕ) (x : Error) → Fails (HasEntry A before e) x →
      Fails (HasLines A before (tree_lines [] [] (entry_term entries i))) x
  start_failed A before x r = passed (HasEntry A before e) (HasLines A before (tree_lines [] [] (entry_term entries i))) x
      (λ h. subst (λ (ls : List EntryLine). HasLines A before ls (Err x)) (sym own_lines)
      (line_fails A before (line [] e) below_it x (at_start A before (Err x) h))) r

-- ---- the roots

root_lines-append : (entries : List StackEntry) (is js : List ℕ) → root_lines entries (is ++ js) ≡ root_lines entries is ++ root_lines entries js
root_lines-append entries [] js = refl
root_lines-append entries (i ∷ is) js = rw (root_lines-append entries is js, append_assoc)

more_roots : (xs ys : List (Option ℕ)) → (js : List ℕ) × (roots_of (xs ++ ys) ≡ roots_of xs ++ js)
more_roots xs [] = ([], rw (append-nil xs, append-nil (roots_of xs)))
more_roots xs (None ∷ ys) =
    let more = more_roots (xs ++ None ∷ []) ys in
    (length xs ∷ more.0, rw (← append_assoc xs (None ∷ []) ys, more.1, roots_root xs, append_assoc (roots_of xs) (length xs ∷ []) more.0))
more_roots xs (Some p ∷ ys) =
    let more = more_roots (xs ++ Some p ∷ []) ys in (more.0, rw (← append_assoc xs (Some p ∷ []) ys, more.1, roots_child xs p))

abbrev pub first_lines : List StackEntry → List (Option ℕ) → ℕ → List EntryLine
first_lines entries parents i = root_lines entries (roots_of (take i parents))

module _ (A : StackEntry → Text → Type 0) (entries : List StackEntry) (parents : List (Option ℕ)) (i : ℕ) (old text : List ℕ) (l : i < length parents)
    (e : HasLines A old (first_lines entries parents i) (Ok text)) where
  -- the lines of one more root
  with_root : get_or parents i None ≡ None →
      first_lines entries parents (i + 1) ≡ first_lines entries parents i ++ tree_lines [] [] (entry_term entries i)
  with_root none =
      let front = take i parents in
      let own = tree_lines [] [] (entry_term entries i) in
      let n : length front ≡ i = omega (arith, length-take i parents) in
      rw (take_more parents i None l, none, roots_root front, n, root_lines-append entries (roots_of front) (i ∷ []), append-nil own) refl

  pub root_written : get_or parents i None ≡ None → (whole : Text) → HasLines A text (tree_lines [] [] (entry_term entries i)) whole →
      HasLines A old (first_lines entries parents (i + 1)) whole
  root_written none whole w = subst (λ (ls : List EntryLine). HasLines A old ls whole) (sym (with_root none))
      (lines_more A old text (first_lines entries parents i) (tree_lines [] [] (entry_term entries i)) whole e w)

  pub child_passed : (p : ℕ) → get_or parents i None ≡ Some p → HasLines A old (first_lines entries parents (i + 1)) (Ok text)
  child_passed p some = rw (take_more parents i None l, some, roots_child (take i parents) p) e

  -- a refusal at a root is the whole's
  pub root_failed : (x : Error) → get_or parents i None ≡ None → Fails (HasLines A text (tree_lines [] [] (entry_term entries i))) x →
      Fails (HasLines A old (forest_lines entries parents)) x
  root_failed x none r =
      let front = take (i + 1) parents in
      let more = more_roots front (drop (i + 1) parents) in
      let late = root_lines entries more.0 in
      let all : forest_lines entries parents ≡ first_lines entries parents (i + 1) ++ late =
      ap (root_lines entries) (ap roots_of (sym (take-append-drop (i + 1) parents)) ∙ more.1) ∙
      root_lines-append entries (roots_of front) more.0 in
      passed (HasLines A text (tree_lines [] [] (entry_term entries i))) (HasLines A old (forest_lines entries parents)) x
      (λ h. subst (λ (ls : List EntryLine). HasLines A old ls (Err x)) (sym all)
      (lines_fail A old (first_lines entries parents (i + 1)) late x (root_written none (Err x) h))) r

-- ---- where the text of each entry is told by a function

-- the answer is what is said, or memory was refused
abbrev Agrees : Text → Text → Type 0
Agrees t answered = (t ≡ answered) ⊎ (answered ≡ Err Memory)

agrees : (t : Text) (r : Result (String Global) Error) → IsText t r → Agrees t (answer_bytes r)
agrees t (Ok text) h = inl h
agrees t (Err x) (inl same) = inl same
agrees t (Err x) (inr memory) = inr (ap (λ (y : Error). no y) memory)

lines_by : (A : StackEntry → Text → Type 0) (said : StackEntry → Text) → ((e : StackEntry) (a : Text) → A e a → Agrees (said e) a) →
    (before : List ℕ) (ls : List EntryLine) (whole : Text) → HasLines A before ls whole → Agrees (with_lines said before ls) whole
lines_by A said all before [] whole is = inl (sym is)
lines_by A said all before (l ∷ ls) whole (Ok own, given, is) = elim (all l.entry (Ok own) given) [
  | inl same ↦ rw same (lines_by A said all ((before ++ l.prefix) ++ entry_text l.entry own) ls whole is)
  | inr memory ↦ absurd cc
]
lines_by A said all before (l ∷ ls) whole (Err x, given, is) = elim (all l.entry (Err x) given) [
  | inl same ↦ rw same (inl (sym is))
  | inr memory ↦ inr (is ∙ memory)
]

as_text : {Is : Text → Type 0} {t : Text} (r : Result (String Global) Error) → ((whole : Text) → Is whole → Agrees t whole) → GivesText Is r → IsText t r
as_text (Ok text) f h = elim (f (Ok (string_bytes text)) h) [
  | inl same ↦ same
  | inr memory ↦ absurd cc
]
as_text (Err x) f (inl h) = elim (f (Err x) h) [
  | inl same ↦ inl same
  | inr memory ↦ inr cc
]
as_text (Err x) f (inr memory) = inr memory

pub said_text : {F : Type 0} (g : Shared F (Bor StackEntry × Unit {0}) (Result (String Global) Error)) (f : F) (entries : List StackEntry)
    (parents : List (Option ℕ)) (r : Result (String Global) Error) → IsForestText g f entries parents r →
    (said : StackEntry → Text) → All (Tells g f said) entries → IsText (forest_text said entries parents) r
said_text g f entries parents r h said told =
    let each : (e : StackEntry) (a : Text) → AnswersAmong g f entries e a → Agrees (said e) a = λ e a given.
    let own = All-contains (Tells g f said) entries e told given.0 in
    subst (Agrees (said e)) (sym given.1.says) (agrees (said e) given.1.answer (own given.1.answer given.1.given)) in
    as_text r (λ whole. lines_by (AnswersAmong g f entries) said each (codes "DFG forest\n") (forest_lines entries parents) whole) h

-- ---- the default text

abbrev pub by_operator : StackEntry → Result (List ℕ) Error
by_operator e = Ok (text_of e.operator)

default_is : (before : List ℕ) (ls : List EntryLine) → with_lines by_operator before ls ≡ Ok (before ++ default_lines ls)
default_is before [] = ap (λ x. Ok x) (sym (append-nil before))
default_is before (l ∷ ls) =
    let own = entry_text l.entry (text_of l.entry.operator) in
    default_is ((before ++ l.prefix) ++ own) ls ∙ ap (λ x. Ok x) (ap (λ x. x ++ default_lines ls) (append_assoc before l.prefix own)
    ∙ append_assoc before (l.prefix ++ own) (default_lines ls))

pub default_told : (entries : List StackEntry) (parents : List (Option ℕ)) (r : Result (String Global) Error) →
    IsText (forest_text by_operator entries parents) r → MatchResult r (λ text. string_bytes text ≡ default_text entries parents) (λ e. e ≡ Memory)
default_told entries parents (Ok text) h = let whole = default_is (codes "DFG forest\n") (forest_lines entries parents) in cc
default_told entries parents (Err e) h = elim h [
  | inl a ↦ let whole = default_is (codes "DFG forest\n") (forest_lines entries parents) in absurd cc
  | inr b ↦ b
]

-- an operator's text is what is told of its entry
pub told : (e y : StackEntry) (r : Result (String Global) Error) → y ≡ e →
    MatchResult r (λ text. string_bytes text ≡ text_of y.operator) (λ x. x ≡ Memory) → IsText (by_operator e) r
told e y (Ok text) same h = ap yes (ap (λ (x : StackEntry). text_of x.operator) (sym same) ∙ sym h)
told e y (Err x) same h = inr h

-- each entry has its children before it
pub as_nodes_below : (entries : List StackEntry) → ((i : ℕ) (d : StackEntry) → i < length entries →
    All (λ c. c < i) (children_of (get_or entries i d).operator)) → AreBelow (entries_as_nodes entries)
as_nodes_below entries h = nodes_below (λ (e : StackEntry). e) entries h
