-- The entries of a module's code, moved along with its code section.
use Rattle.std.proofs.Common.{◌≡◌, inl, inr, ℕ, suc, ◌+◌, ◌-◌, ◌<◌, ◌≤◌, ◌^◌, List, [], ◌∷◌, ◌++◌, length, get_or, take, drop, set}
use Rattle.std.proofs.Common.{map, Some, Result, Ok, Err, refl, sym, ap, ap₂, subst, ◌∙◌, arith}
use Rattle.std.specs.Prelude.{IfErr, MatchResult, slice_get, slice_range}
use Rattle.std.specs.List.{All, AllByRecursion}
use Rattle.std.proofs.lemmas.List.{append-nil, take_all, drop_all, length-append, length-map, length-take, length-drop, get_or_default}
use Rattle.std.proofs.lemmas.List.Edits.{map_over_more}
use Rattle.std.proofs.lemmas.List.Elements.{All-from_recursion, recursion_from_All}
use Rattle.wasm_code.specs.Number.{SpellsUnsigned}
use Rattle.wasm_code.specs.Code.{shortest}
use Rattle.wasm_types.specs.Module.{Module}
use Rattle.wasm_types.specs.declared.types.PrimitiveTypeInfo.{PrimitiveTypeInfo}
use Rattle.wasm_sections.specs.declared.section.Section.{Section}
use Rattle.wasm_sections.specs.declared.id.SectionId.TheVariants as ids
use Rattle.wasm_sections.specs.Find.{IsFirstWith, LackId}
use Rattle.wasm_lists.specs.declared.entries.Entry.{Entry}
use Rattle.wasm_lists.specs.Entries.{entries_from, SpellsEntries}
use Rattle.wasm_lists.specs.Globals.{SpellsGlobal, FailsGlobal}
use Rattle.wasm_lists.specs.Known.{Known, nothing_listed, SpellsKnown}
use Rattle.wasm_module.specs.declared.unknown.Unknown.{Unknown}
use Rattle.wasm_module.specs.Contents.{AreContents}
use Rattle.wasm_module.specs.Inside.{IsInside}
use Rattle.wasm_module.specs.Module.{Layout, IsModule}
use Rattle.wasm_module.specs.Moved.{moved, AreMoved, CanMove, CanMoveAround}
use Rattle.wasm_module.specs.Reread.{IsReread, IsMoving}
use Rattle.wasm_module.specs.Room.{CountBeginsText, IsCodePlace}
use Rattle.wasm_module.proofs.AgainLemmas.{Short}
use Rattle.wasm_module.proofs.FindLemmas.{lists_at, lists_nothing}
use Rattle.wasm_module.proofs.InsideLemmas.{range_long}
use Rattle.wasm_module.proofs.RoomLemmas.{known_counted}

-- ---- one entry after another

count_is : (f : Entry → Entry) (xs ys : List Entry) (i : ℕ) → i < length xs → ys ≡ map f (take i xs) ++ drop i xs → length ys ≡ length xs
count_is f xs ys i l e =
    let first = map f (take i xs) in
    rw e (omega (arith, length-append first (drop i xs), length-map (take i xs) f, length-take i xs, length-drop i xs))

pub moved_more : (from to : ℕ) (xs ys : List Entry) (i : ℕ) (d : Entry) → i < length xs → ys ≡ map (moved from to) (take i xs) ++ drop i xs →
    set ys i (moved from to (get_or ys i d)) ≡ map (moved from to) (take (i + 1) xs) ++ drop (i + 1) xs
moved_more from to xs ys i d l e =
    let x = get_or ys i d in
    let n = count_is (moved from to) xs ys i l e in
    map_over_more (moved from to) xs ys i x l e (get_or_default ys i d x (omega arith))

pub moved_all : (from to : ℕ) (xs ys : List Entry) (i : ℕ) → length xs ≤ i → ys ≡ map (moved from to) (take i xs) ++ drop i xs →
    ys ≡ map (moved from to) xs
moved_all from to xs ys i l e = rw (e, drop_all i xs l, take_all i xs l, append-nil (map (moved from to) xs)) refl

pub same_entry : (x y : Entry) → x.start ≡ y.start → x.contents ≡ y.contents → x.end ≡ y.end → x ≡ y
same_entry x y p q r =
    ap (λ (m : ℕ). record { start = m; contents = x.contents; end = x.end }) p
    ∙ ap (λ (m : ℕ). record { start = y.start; contents = m; end = x.end }) q
    ∙ ap (λ (m : ℕ). record { start = y.start; contents = y.contents; end = m }) r

all_stay : (from to : ℕ) (xs : List Entry) → from ≡ to → AllByRecursion (CanMove from to) xs → xs ≡ map (moved from to) xs
all_stay from to [] e a = refl
all_stay from to (x ∷ xs) e a =
    let c = a.0 in
    let first = c.first in
    let sized = c.sized in
    let ordered = c.ordered in
    ap₂ (λ (y : Entry) (ys : List Entry). y ∷ ys)
    (same_entry x (moved from to x) (omega (arith, e, first)) (omega (arith, e, first, sized)) (omega (arith, e, first, sized, ordered)))
    (all_stay from to xs e a.1)

-- what isn't moved stays
pub stay : (from to : ℕ) (xs : List Entry) → from ≡ to → All (CanMove from to) xs → xs ≡ map (moved from to) xs
stay from to xs e a = all_stay from to xs e (recursion_from_All (CanMove from to) xs a)

-- ---- entries behind one another

record IsBehind (from : ℕ) (e : Entry) : Type 0 where
  first : from ≤ e.start
  sized : e.start ≤ e.contents
  ordered : e.contents ≤ e.end

behind_all : (sizes : List (ℕ × ℕ)) (start from : ℕ) → from ≤ start → AllByRecursion (IsBehind from) (entries_from start sizes)
behind_all [] start from le = tt
behind_all (size ∷ sizes) start from le = (
  record { first = le; sized = omega arith; ordered = omega arith },
  behind_all sizes (start + size.1 + size.0) from (omega (arith, le)),
)

record AreCut (from : ℕ) (before : List Entry) (old : Entry) (behind : List Entry) : Type 0 where
  before_are : AllByRecursion (IsBehind from) before
  behind_are : AllByRecursion (IsBehind old.end) behind

entry_heads : (x y : Entry) (xs ys : List Entry) → x ∷ xs ≡ y ∷ ys → (x ≡ y) × (xs ≡ ys)
entry_heads x y xs ys e = (cc, cc)

cut_behind : (sizes : List (ℕ × ℕ)) (start from : ℕ) (before behind : List Entry) (old : Entry) → from ≤ start →
    entries_from start sizes ≡ before ++ old ∷ behind → AreCut from before old behind
cut_behind [] start from [] behind old le e = absurd cc
cut_behind [] start from (x ∷ before) behind old le e = absurd cc
cut_behind (size ∷ sizes) start from [] behind old le e =
    let h = entry_heads _ old (entries_from (start + size.1 + size.0) sizes) behind e in
    let end : start + size.1 + size.0 ≡ old.end = ap (λ (x : Entry). x.end) h.0 in
    record {
      before_are = tt;
      behind_are = subst (AllByRecursion (IsBehind old.end)) h.1 (behind_all sizes (start + size.1 + size.0) old.end (omega (arith, end)));
    }
cut_behind (size ∷ sizes) start from (x ∷ before) behind old le e =
    let h = entry_heads _ x (entries_from (start + size.1 + size.0) sizes) (before ++ old ∷ behind) e in
    let rest = cut_behind sizes (start + size.1 + size.0) from before behind old (omega (arith, le)) h.1 in
    record {
      before_are = (
        subst (IsBehind from) h.0 (record { first = le; sized = omega arith; ordered = omega arith }),
        rest.before_are,
      );
      behind_are = rest.behind_are;
    }

-- ---- what holds of each entry

all_get : (P : Entry → Type 0) (ws : List Entry) → ((k : ℕ) (e : Entry) → slice_get ws k ≡ Some e → P e) → AllByRecursion P ws
all_get P [] f = tt
all_get P (w ∷ ws) f = (f 0 w refl, all_get P ws (λ k e is. f (suc k) e is))

front_all : (P : Entry → Type 0) (us ws : List Entry) → AllByRecursion P (us ++ ws) → AllByRecursion P us
front_all P [] ws a = tt
front_all P (u ∷ us) ws a = (a.0, front_all P us ws a.1)

back_all : (P : Entry → Type 0) (us ws : List Entry) → AllByRecursion P (us ++ ws) → AllByRecursion P ws
back_all P [] ws a = a
back_all P (u ∷ us) ws a = back_all P us ws a.1

can_all : (new : List ℕ) (from to : ℕ) (es : List Entry) → length new < 2 ^ 64 → AllByRecursion (IsBehind from) es →
    AllByRecursion (IsInside new) (map (moved from to) es) → AllByRecursion (CanMove from to) es
can_all new from to [] small a b = tt
can_all new from to (e ∷ es) small a b =
    let ends = b.0.ends in (
      record { first = a.0.first; sized = a.0.sized; ordered = a.0.ordered; fits = omega (arith, ends, small) },
      can_all new from to es small a.1 b.1,
    )

at_front : (us ws : List Entry) (e : Entry) → slice_get (us ++ e ∷ ws) (length us) ≡ Some e
at_front [] ws e = refl
at_front (u ∷ us) ws e = at_front us ws e

some_entry : (x y : Entry) → Some x ≡ Some y → x ≡ y
some_entry x y e = cc

-- ---- a layout

pub same_layout : (x y : Layout) → x.sections ≡ y.sections → x.imported_functions ≡ y.imported_functions → x.own_globals ≡ y.own_globals →
    x.entries ≡ y.entries → x.unknown ≡ y.unknown → x ≡ y
same_layout x y a b c d e =
    ap (λ (l : List Section). record x { sections = l }) a
    ∙ ap (λ (m : ℕ). record x { sections = y.sections; imported_functions = m }) b
    ∙ ap (λ (m : ℕ). record x { sections = y.sections; imported_functions = y.imported_functions; own_globals = m }) c
    ∙ ap (λ (l : List Entry). record y { entries = l; unknown = x.unknown }) d
    ∙ ap (λ (u : Unknown). record y { unknown = u }) e

-- what the move of the entries needs
pub record IsMove (entries : List Entry) (n : ℕ) (contents new : List ℕ) (code place : Section) (old : Entry) (again : List Entry) : Type 0 where
  pub before : List Entry
  pub behind : List Entry
  pub here : Entry
  pub entries_are : entries ≡ before ++ old ∷ behind
  pub at : n ≡ length before
  pub again_are : again ≡ map (moved code.contents place.contents) before ++ here ∷ map (moved old.end here.end) behind
  pub first : code.contents ≤ old.start
  pub last : old.end ≤ code.end
  pub starts : here.start ≡ place.contents + (old.start - code.contents)
  pub ends : here.end + (code.end - old.end) ≡ place.end
  pub order : here.start ≤ here.end
  pub inside : here.end ≤ length new
  pub contents_end : here.contents + length contents ≡ here.end
  pub spelled : slice_range new here.start here.end ≡ shortest (length contents) ++ contents
  pub counts : SpellsUnsigned 32 (shortest (length contents)) (length contents)
  pub around : CanMoveAround entries n code.contents place.contents here.end

abbrev pub AreInside : Type 0
AreInside = (bytes : List ℕ) (info : Module) (layout : Layout) (n : ℕ) (entry : Entry) → IsModule bytes info layout → slice_get layout.entries n ≡ Some entry →
    IsInside bytes entry

move_at : (bytes new : List ℕ) (layout again : Layout) (info : Module) (n : ℕ) (contents : List ℕ) (code place : Section) (old : Entry) →
    Short → length contents < 2 ^ 32 → length new < 2 ^ 64 → SpellsEntries code.contents (slice_range bytes code.contents code.end) layout.entries
    → IsCodePlace bytes layout n code old → AllByRecursion (IsInside new) again.entries
    → (m : AreMoved layout.entries n contents code place new again.entries) → m.old ≡ old
    → IsMove layout.entries n contents new code place old again.entries
move_at bytes new layout again info n contents code place old short sized small spelled p inside m is =
    let start : ℕ = code.contents + length spelled.list.front in
    let cut = cut_behind spelled.sizes start code.contents m.before m.behind m.old (omega arith) (sym spelled.placed ∙ m.entries_are) in
    let fore = map (moved code.contents place.contents) m.before in
    let rear = map (moved m.old.end m.here.end) m.behind in
    let all = subst (AllByRecursion (IsInside new)) m.again_are inside in
    let back = back_all (IsInside new) fore (m.here ∷ rear) all in
    let here = back.0 in
    let order : m.here.start ≤ m.here.end = omega (arith, here.sized, here.ordered) in
    let long = range_long new m.here.start m.here.end order here.ends in
    let whole = ap length m.spelled in
    let before_can = can_all new code.contents place.contents m.before small cut.before_are (front_all (IsInside new) fore (m.here ∷ rear) all) in
    let behind_can = can_all new m.old.end m.here.end m.behind small cut.behind_are back.1 in
    subst (λ (o : Entry). IsMove layout.entries n contents new code place o again.entries) is (record {
      before = m.before;
      behind = m.behind;
      here = m.here;
      entries_are = m.entries_are;
      at = m.at;
      again_are = m.again_are;
      first = subst (λ (o : Entry). code.contents ≤ o.start) (sym is) p.placed.first;
      last = subst (λ (o : Entry). o.end ≤ code.end) (sym is) p.placed.last;
      starts = m.starts;
      ends = m.ends;
      order = order;
      inside = here.ends;
      contents_end = omega (arith, m.contents_at, long, whole, length-append (shortest (length contents)) contents);
      spelled = m.spelled;
      counts = short (length contents) sized;
      around = record {
        before = m.before;
        old = m.old;
        behind = m.behind;
        entries_are = m.entries_are;
        at = m.at;
        before_can = All-from_recursion (CanMove code.contents place.contents) m.before before_can;
        behind_can = All-from_recursion (CanMove m.old.end m.here.end) m.behind behind_can;
      };
    })

pub move_of : (layout : Layout) (sections : List Section) (n : ℕ) (new : List ℕ) (m : IsMoving layout sections n new) → AreInside → Short →
    length new < 2 ^ 64 →
    (code place : Section) (old : Entry) → IsCodePlace m.bytes layout n code old → IsFirstWith sections ids.Code place
    → IsMove layout.entries n m.contents new code place old m.reread.again.entries
move_of layout sections n new m within short small code place old p is =
    let there = subst (λ (l : List Section). IsFirstWith l ids.Code place) m.sections_are is in
    let moves = m.reread.moves code place p.code_is there in
    let same : moves.old ≡ old = some_entry moves.old old (sym (at_front moves.before moves.behind moves.old)
    ∙ ap (λ (es : List Entry). slice_get es (length moves.before)) (sym moves.entries_are) ∙ ap (slice_get layout.entries) (sym moves.at) ∙ p.entry_is) in
    let spelled = lists_at [] SpellsEntries m.bytes layout.sections ids.Code layout.entries code m.is.entries_are p.code_is in
    let inside = all_get (IsInside new) m.reread.again.entries (λ k e at. within new _ m.reread.again k e m.reread.is at) in
    move_at m.bytes new layout m.reread.again m.info n m.contents code place old short m.sized small spelled p inside moves same

pub has_code : (layout : Layout) (sections : List Section) (n : ℕ) (new : List ℕ) → IsMoving layout sections n new →
    (code : Section) × IsFirstWith sections ids.Code code
has_code layout sections n new m =
    elim m.reread.is.entries_are [
      | inl p ↦ (p.0, subst (λ (l : List Section). IsFirstWith l ids.Code p.0) (sym m.sections_are) p.1)
      | inr p ↦ absurd (omega (arith, ap length p.1, m.reread.count, m.inside))
    ]

-- ---- the globals

pub globals_counted : (bytes : List ℕ) (info : Module) (layout : Layout) (sections : List Section) (start : ℕ) (text : List ℕ) → IsModule bytes info layout →
    layout.sections ≡ sections → AreContents bytes sections ids.Global start text → CountBeginsText text layout.own_globals
globals_counted bytes info layout sections start text m e a =
    let is = subst (λ (l : List Section). IsFirstWith l ids.Global a.section) (sym e) a.is in
    subst (λ (l : List ℕ). CountBeginsText l layout.own_globals) (sym a.text_is)
    (known_counted SpellsGlobal FailsGlobal a.section.contents (slice_range bytes a.section.contents a.section.end) m.globals.count layout.own_globals
    m.globals.items m.globals.unknown
    (lists_at nothing_listed (SpellsKnown SpellsGlobal FailsGlobal) bytes layout.sections ids.Global m.globals a.section m.globals_are is) m.own)

pub no_globals : (bytes : List ℕ) (info : Module) (layout : Layout) (sections : List Section) → IsModule bytes info layout → layout.sections ≡ sections →
    LackId sections ids.Global → 0 ≡ layout.own_globals
no_globals bytes info layout sections m e lack =
    let none = lists_nothing nothing_listed (SpellsKnown SpellsGlobal FailsGlobal) bytes layout.sections ids.Global m.globals m.globals_are
    (subst (λ (l : List Section). LackId l ids.Global) (sym e) lack) in
    sym (m.own ∙ ap (λ (k : Known PrimitiveTypeInfo). k.count) none)

-- ---- a module

pub err_of_match : {A E : Type 0} (P : A → Type 0) (Q : E → Type 0) (r : Result A E) → MatchResult r P Q → IfErr r Q
err_of_match P Q (Ok x) h = tt
err_of_match P Q (Err e) h = h

-- where no globals were appended, as many as there were are all
pub read_along : (bytes new : List ℕ) (info : Module) (layout : Layout) (n : ℕ) (contents : List ℕ) (more : List PrimitiveTypeInfo)
    (r : IsReread bytes (record info { input = bytes }) layout n contents more new) (i : Module) (l : Layout) → r.again.own_globals ≡ layout.own_globals
    → i ≡ record info { input = new } → l ≡ record r.again { own_globals = layout.own_globals } → IsModule new i l
read_along bytes new info layout n contents [] r i l same e f =
    let globals = append-nil info.globals in
    let is = subst (λ (gs : List PrimitiveTypeInfo). IsModule new (record info { input = new; globals = gs }) r.again) globals r.is in
    let own : r.again ≡ record r.again { own_globals = layout.own_globals } = ap (λ (m : ℕ). record r.again { own_globals = m }) same in
    subst (IsModule new i) (own ∙ sym f) (subst (λ (z : Module). IsModule new z r.again) (sym e) is)
read_along bytes new info layout n contents (t ∷ ts) r i l same e f = absurd (omega (arith, same, r.own))
