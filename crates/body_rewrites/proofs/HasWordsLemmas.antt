-- Words that choose a rewrite.
use Rattle.std.proofs.Common.{◌≡◌, ◌⊎◌, ℕ, zero, suc, ◌+◌, ◌*◌, ◌%◌, ◌^◌, ◌<◌, inl, inr, List, [], ◌∷◌, ◌++◌, length, map, Some, option_map}
use Rattle.std.proofs.Common.{refl, sym, ap, ap₂, subst, ◌∙◌, arith}
use Rattle.std.specs.Prelude.{Contains, slice_get}
use Rattle.std.proofs.lemmas.Bool.{cases_eq}
use Rattle.std.proofs.lemmas.List.{length-append, length-map}
use Rattle.std.proofs.lemmas.List.Elements.{Contains-append_left, Contains-append_right}
use Rattle.std.proofs.lemmas.Nat.{mod-mul-add}
use Rattle.std.proofs.lemmas.Option.{get_or_from_slice_get, slice_get_within, slice_get-map, same_Some}
use Rattle.rand_core.specs.Stream.{Stream, next_u64}
use Rattle.wasm_code.specs.Instruction.{Instruction}
use Rattle.wasm_code.specs.declared.operator.Operator.{Operator}
use Rattle.wasm_code.specs.declared.operator.Operator.TheVariants.{Instr}
use Rattle.wasm_execution.specs.declared.integer.IntegerType.{IntegerType}
use Rattle.wasm_execution.specs.Values.{Context}
use Rattle.rewrite_rules.specs.declared.rule.Rule.{Rule}
use Rattle.rewrite_rules.specs.declared.pattern.Operator.TheVariants.{Whole}
use Rattle.rewrite_rules.specs.declared.table.Own.{Own}
use Rattle.rewrite_rules.specs.declared.table.Own.TheVariants.{Unfold, ThroughGlobal, WithNop, Fold, Forget, TeeToSet, DropNop, SetToTee}
use Rattle.rewrite_rules.specs.declared.table.Own.TheVariants.{Access as Accesses, Wrap as Wraps, Unwrap as Unwraps}
use Rattle.rewrite_rules.specs.declared.table.Own.TheVariants.{SelectToIf, IfToSelect, TestCondition, DropConditionTest, DoubleCondition}
use Rattle.rewrite_rules.specs.declared.table.Own.TheVariants.{DropDoubleCondition, PutDead, DropDead}
use Rattle.rewrite_rules.specs.declared.table.Own.TheVariants.{BoundIndex, DropIndexBound, BrIfToIf, IfToBrIf}
use Rattle.rewrite_rules.specs.declared.table.Row.{Row}
use Rattle.rewrite_rules.specs.declared.table.Widths.{Widths}
use Rattle.rewrite_rules.specs.declared.table.Widths.TheVariants as widths
use Rattle.rewrite_rules.specs.Beside.{constants, drop_code, get_local, nop_code, tee_local}
use Rattle.rewrite_rules.specs.Instance.{constant_code, operator_code}
use Rattle.rewrite_rules.specs.Table.{ROWS}
use Rattle.body_rewrites.specs.declared.growth.Growth.{Growth}
use Rattle.body_rewrites.specs.declared.own.Made.{Made}
use Rattle.body_rewrites.specs.declared.own.Made.TheVariants as made
use Rattle.body_rewrites.specs.declared.places.Line.{Line}
use Rattle.body_rewrites.specs.declared.rewrite.Rewrite.{Rewrite}
use Rattle.body_rewrites.specs.Changes.{Change}
use Rattle.body_rewrites.specs.Open.{HasInstruction}
use Rattle.body_rewrites.specs.Own.{Rewrites}
use Rattle.body_rewrites.specs.Rewrites.{MakesBy, IsMade, asked_widths, by_rows, asked_below}
use Rattle.body_rewrites.specs.Listing.{AreThose, IsWantedBy}
use Rattle.body_rewrites.specs.Choice.{Draws, IsOf, IsOpen, HasOpen, Chooses, after_word}
use Rattle.body_rewrites.specs.HasWords.{HasWords}
use Rattle.body_rewrites.specs.ThoseLemmas.{contained_cases, those_bounded, those_same}
use Rattle.body_rewrites.proofs.FlowLemmas.{there_inside}
use Rattle.body_rewrites.proofs.IndexLemmas.{bound_inside}
use Rattle.body_rewrites.proofs.AccessLemmas.{access_inside, stands_inside}
use Rattle.body_rewrites.proofs.CountingBounds.{asked_few}

within : (i n : ℕ) → i < n → i % n ≡ i
within i n less =
    let same : i ≡ 0 * n + i = omega arith in
    ap (λ k. k % n) same ∙ mod-mul-add 0 n i less

-- ---- what may be asked of a body

contains_at : {A : Type 0} (xs : List A) (i : ℕ) (x : A) → slice_get xs i ≡ Some x → Contains xs x
contains_at xs i x h = (i, slice_get_within xs i x h, get_or_from_slice_get xs i x x h)

abbrev rewrite_for : (at number : ℕ) → IntegerType → Rewrite
rewrite_for at number width = record { operator = at; row = number; width = width }

by_rows_contain : (at number : ℕ) (rows : List Row) (n : ℕ) (row : Row) (place : ℕ) (width : IntegerType) → slice_get rows n ≡ Some row →
    slice_get (asked_widths row.widths) place ≡ Some width → Contains (by_rows at number rows) (rewrite_for at (number + n) width)
by_rows_contain at number [] n row place width r w = absurd cc
by_rows_contain at number (x ∷ rows) zero row place width r w =
    let same : x ≡ row = same_Some x row r in
    let own : slice_get (asked_widths x.widths) place ≡ Some width = ap (λ (k : Row). slice_get (asked_widths k.widths) place) same ∙ w in
    let e : number ≡ number + 0 = omega arith in
    subst (λ n. Contains (by_rows at number (x ∷ rows)) (rewrite_for at n width)) e
    (Contains-append_left (map (rewrite_for at number) (asked_widths x.widths)) (by_rows at (suc number) rows) (rewrite_for at number width)
    (contains_at (map (rewrite_for at number) (asked_widths x.widths)) place (rewrite_for at number width)
    (slice_get-map (rewrite_for at number) (asked_widths x.widths) place ∙ ap (option_map (rewrite_for at number)) own)))
by_rows_contain at number (x ∷ rows) (suc n) row place width r w =
    let e : suc number + n ≡ number + suc n = omega arith in
    Contains-append_right (map (rewrite_for at number) (asked_widths x.widths)) (by_rows at (suc number) rows) (rewrite_for at (number + suc n) width)
    (subst (λ k. Contains (by_rows at (suc number) rows) (rewrite_for at k width)) e (by_rows_contain at (suc number) rows n row place width r w))

constants_count : (operands : List (IntegerType × ℕ)) → length (constants operands) ≡ length operands
constants_count operands = length-map operands _

asked_contains : (n at : ℕ) (r : Rewrite) → at < n → Contains (by_rows at 0 ROWS) r → Contains (asked_below n) r
asked_contains zero at r l h = absurd (omega arith)
asked_contains (suc n) at r l h = elim (cases_eq at n) [
  | inl same ↦ Contains-append_right (asked_below n) (by_rows n 0 ROWS) r (subst (λ k. Contains (by_rows k 0 ROWS) r) same h)
  | inr other ↦ Contains-append_left (asked_below n) (by_rows n 0 ROWS) r (asked_contains n at r (omega (arith, l, other)) h)
]

-- what is made of an operator is made of one of the body's
has_inside : (operators : List (Operator × ℕ)) (at : ℕ) (i : Instruction) → HasInstruction operators at i → at < length operators
has_inside operators at i h =
    let l = slice_get_within (map (λ (o : Operator × ℕ). o.0) operators) at (Instr i) h in
    let size = length-map operators (λ (o : Operator × ℕ). o.0) in
    omega arith

own_inside : (context : Context) (operators : List (Operator × ℕ)) (at : ℕ) (own : Own) (start : ℕ) (m : Made) → Rewrites context operators own start at m →
    at < length operators
own_inside context operators at Unfold start (made.Sum t n) (e, c) = has_inside operators at (constant_code t n) c.has
own_inside context operators at ThroughGlobal start (made.Global t g) h = h.0.inside
own_inside context operators at WithNop start made.Nop (t, tree) = tree.inside
own_inside context operators at Fold start (made.Constant t n) f =
    let code = constants f.operands ++ operator_code (Whole f.operation) ∷ [] in
    let size = length-append (constants f.operands) (operator_code (Whole f.operation) ∷ []) in
    let count = constants_count f.operands in
    let ends = f.ends in
    stands_inside operators start at code f.stands (omega arith) (omega arith) (omega arith)
own_inside context operators at Forget start made.Nothing f = has_inside operators at drop_code f.dropped
own_inside context operators at TeeToSet start (made.SetAndGet n) (e, h) = has_inside operators at (tee_local n) h
own_inside context operators at DropNop start made.Nothing (e, h) = has_inside operators at nop_code h
own_inside context operators at SetToTee start (made.Tee n) (e, h, k) = has_inside operators at (get_local n) k
own_inside context operators at (Accesses n) start (made.Access a w) f = access_inside context operators n start at a w f
own_inside context operators at (Wraps w) start (made.Wrapped v t) (e, room, u, n, tree) = tree.inside
own_inside context operators at (Unwraps w) start (made.Inner from end) h = let l = h.inside in omega arith
own_inside context operators at SelectToIf start (made.Conditional v condition) (room, h) = there_inside operators at _ h.selects
own_inside context operators at IfToSelect start made.Selected h = let l = h.inside in omega (arith, l)
own_inside context operators at TestCondition start made.Tested h = h.tree.inside
own_inside context operators at DropConditionTest start (made.Inner from end) (e, h) = there_inside operators at _ h.second
own_inside context operators at DoubleCondition start made.DoublyTested h = h.tree.inside
own_inside context operators at DropDoubleCondition start (made.Inner from end) (e, h) = there_inside operators at _ h.second
own_inside context operators at PutDead start made.Dead (e, h) = there_inside operators at h.leave.operator h.leave.has
own_inside context operators at DropDead start made.Nothing h = there_inside operators at _ h.dropped
own_inside context operators at BoundIndex start (made.Bounded count) h = h.tree.inside
own_inside context operators at DropIndexBound start (made.Inner from end) (e, h) = bound_inside context operators start at end h
own_inside context operators at BrIfToIf start (made.InConditional label) (e, room, h) = there_inside operators at _ h.branch
own_inside context operators at IfToBrIf start (made.BranchIf label) h = there_inside operators at _ h.closes
own_inside context operators at own start m h = absurd h

makes_inside : (context : Context) (operators : List (Operator × ℕ)) (line : Line) (at : ℕ) (change : Change) (w : Widths) →
    MakesBy context operators line at change w → at < length operators
makes_inside context operators line at change (widths.Own own) h = own_inside context operators at own h.site.start h.site.made h.rewrites
makes_inside context operators line at change widths.Both h = let inside = h.is.is.inside in omega arith
makes_inside context operators line at change (widths.Only t) h = let inside = h.is.is.inside in omega arith
makes_inside context operators line at change widths.Any h = let inside = h.is.is.inside in omega arith
makes_inside context operators line at change (widths.Operands a b c) h = let inside = h.is.is.inside in omega arith

-- a rewrite that makes something is one of those that may be asked of its operator
pub made_is_here : (context : Context) (operators : List (Operator × ℕ)) (r : Rewrite) → IsMade context operators r → Contains (by_rows r.operator 0 ROWS) r
made_is_here context operators r (change, by) =
    subst (λ (k : Rewrite). Contains (by_rows r.operator 0 ROWS) k)
    (ap₂ (λ (n : ℕ) (width : IntegerType). rewrite_for r.operator n width) (let e : 0 + r.row ≡ r.row = omega arith in e) by.width_is)
    (by_rows_contain r.operator 0 ROWS r.row by.line.row by.asked.place by.line.width by.asked.row_is by.asked.width_is)

pub made_is_inside : (context : Context) (operators : List (Operator × ℕ)) (r : Rewrite) → IsMade context operators r → r.operator < length operators
made_is_inside context operators r (change, by) = makes_inside context operators by.line r.operator change by.line.row.widths by.makes

-- and of the body
pub made_is_asked : (context : Context) (operators : List (Operator × ℕ)) (r : Rewrite) → IsMade context operators r →
    Contains (asked_below (length operators)) r
made_is_asked context operators r made =
    asked_contains (length operators) r.operator r (made_is_inside context operators r made) (made_is_here context operators r made)

-- ---- an item among those

module _ {A : Type 0} (P : A → Type 0) where
  pub number_of : (items those : List A) (x : A) → AreThose P items those → Contains items x → P x →
      (i : ℕ) × (i < length those) × (slice_get those i ≡ Some x)
  number_of [] those x e c p = absurd (let l : c.0 < 0 = c.1 in omega arith)
  number_of (y ∷ items) those x (inl (q, rest, e, are)) c p = elim (contained_cases y items x c) [
    | inl same ↦ (0, subst (λ (zs : List A). 0 < length zs) (sym e) (omega arith), ap (λ zs. slice_get zs 0) e ∙ ap (λ z. Some z) same)
    | inr d ↦ let (i, less, is) = number_of items rest x are d p in
        (suc i, subst (λ (zs : List A). suc i < length zs) (sym e) (omega (arith, less)), ap (λ zs. slice_get zs (suc i)) e ∙ is)
  ]
  number_of (y ∷ items) those x (inr (never, are)) c p = elim (contained_cases y items x c) [
    | inl same ↦ absurd (never (subst P (sym same) p))
    | inr d ↦ number_of items those x are d p
  ]

  -- whether an item has the property needn't be known for a contradiction
  either : (x : A) → ((P x ⊎ ¬ (P x)) → ⊥) → ⊥
  either x none = none (inr (λ p. none (inl p)))

  pub never_none : (items : List A) → ((those : List A) → AreThose P items those → ⊥) → ⊥
  never_none [] none = none [] refl
  never_none (y ∷ items) none = never_none items (λ those are. either y (λ d. elim d [
    | inl p ↦ none (y ∷ those) (inl (p, those, refl, are))
    | inr never ↦ none those (inr (never, are))
  ]))

  -- the word that is its number draws it
  pub drawn : (stream : Stream) (items those : List A) (x : A) → AreThose P items those → (i : ℕ) → i < length those → slice_get those i ≡ Some x →
      (next_u64 stream).0 ≡ i → Draws stream P items x
  drawn stream items those x are i less is word = record {
    those = those;
    are = are;
    is = ap (λ w. slice_get those (w % length those)) word ∙ ap (slice_get those) (within i (length those) less) ∙ is;
  }

-- ---- one choice

draws_one : {A : Type 0} (P : A → Type 0) (stream : Stream) (items : List A) (x y : A) → Draws stream P items x → Draws stream P items y → x ≡ y
draws_one P stream items x y d e =
    let same = those_same P items d.those e.those d.are e.are in
    same_Some x y (sym d.is ∙ ap (λ zs. slice_get zs ((next_u64 stream).0 % length zs)) same ∙ e.is)

pub chooses_one : (context : Context) (stream : Stream) (rules : List Rule) (wanted : List Growth) (operators : List (Operator × ℕ)) (r q : Rewrite) →
    Chooses context stream rules wanted operators r → Chooses context stream rules wanted operators q → r ≡ q
chooses_one context stream rules wanted operators r q a b =
    let kind = draws_one (HasOpen context operators rules) stream wanted a.growth b.growth a.draws_growth b.draws_growth in
    let rule = draws_one (IsOpen context operators a.growth) (after_word stream) rules a.rule b.rule a.draws_rule
    (subst (λ (k : Growth). Draws (after_word stream) (IsOpen context operators k) rules b.rule) (sym kind) b.draws_rule) in
    draws_one (IsOf context operators a.growth a.rule) (after_word (after_word stream)) (asked_below (length operators)) r q a.draws_rewrite
    (subst (λ (k : Rule). Draws (after_word (after_word stream)) (IsOf context operators a.growth k) (asked_below (length operators)) q) (sym rule)
    (subst (λ (k : Growth). Draws (after_word (after_word stream)) (IsOf context operators k b.rule) (asked_below (length operators)) q) (sym kind)
    b.draws_rewrite))

-- ---- a rewrite of a body

module _ (table : length ROWS < 65535) (context : Context) (rules : List Rule) (wanted : List Growth) (operators : List (Operator × ℕ)) (r : Rewrite)
    (few : length rules < 2 ^ 64) (kinds_few : length wanted < 2 ^ 64) (short : length operators < 2 ^ 32) where
  words_among : (kind : Growth) (rule : Rule) → Contains wanted kind → Contains rules rule → Contains (asked_below (length operators)) r →
      IsOf context operators kind rule r →
      (kinds : List Growth) → AreThose (HasOpen context operators rules) wanted kinds →
      (ways : List Rule) → AreThose (IsOpen context operators kind) rules ways →
      (places : List Rewrite) → AreThose (IsOf context operators kind rule) (asked_below (length operators)) places →
      HasWords context rules wanted operators r
  words_among kind rule kind_listed listed among of kinds kinds_are ways open_are places places_are =
      let is_open : IsOpen context operators kind rule = (r, among, of) in
      let has_open : HasOpen context operators rules kind = (rule, listed, is_open) in
      let (i, i_less, i_is) = number_of (HasOpen context operators rules) wanted kinds kind kinds_are kind_listed has_open in
      let (j, j_less, j_is) = number_of (IsOpen context operators kind) rules ways rule open_are listed is_open in
      let (k, k_less, k_is) = number_of (IsOf context operators kind rule) (asked_below (length operators)) places r places_are among of in
      let i_few = those_bounded (HasOpen context operators rules) wanted kinds kinds_are in
      let j_few = those_bounded (IsOpen context operators kind) rules ways open_are in
      let k_few = those_bounded (IsOf context operators kind rule) (asked_below (length operators)) places places_are in
      let size = asked_few table (length operators) in
      record {
        one = i;
        two = j;
        three = k;
        one_fits = omega (arith, i_less, i_few, kinds_few);
        two_fits = omega (arith, j_less, j_few, few);
        three_fits = omega (arith, k_less, k_few, size, short);
        choose = λ stream begins. record {
          growth = kind;
          rule = rule;
          draws_growth = drawn (HasOpen context operators rules) stream wanted kinds kind kinds_are i i_less i_is begins.0;
          draws_rule = drawn (IsOpen context operators kind) (after_word stream) rules ways rule open_are j j_less j_is begins.1.0;
          draws_rewrite = drawn (IsOf context operators kind rule) (after_word (after_word stream)) (asked_below (length operators)) places r places_are k
              k_less k_is begins.1.1.0;
        };
      }

  pub words_of : (kind : Growth) (rule : Rule) → Contains wanted kind → Contains rules rule → IsOf context operators kind rule r →
      (kinds : List Growth) → AreThose (HasOpen context operators rules) wanted kinds →
      (ways : List Rule) → AreThose (IsOpen context operators kind) rules ways →
      (places : List Rewrite) → AreThose (IsOf context operators kind rule) (asked_below (length operators)) places →
      HasWords context rules wanted operators r
  words_of kind rule kind_listed listed of = words_among kind rule kind_listed listed (made_is_asked context operators r (of.0.change, of.0.made)) of

  pub never_without : IsWantedBy context operators rules wanted r → (HasWords context rules wanted operators r → ⊥) → ⊥
  never_without is none =
      let (rule, listed, of) = is.of_rule in
      let kind = is.growth in
      never_none (HasOpen context operators rules) wanted (λ kinds kinds_are.
      never_none (IsOpen context operators kind) rules (λ ways open_are.
      never_none (IsOf context operators kind rule) (asked_below (length operators)) (λ places places_are.
      none (words_of kind rule is.listed listed (is.has, of) kinds kinds_are ways open_are places places_are))))
