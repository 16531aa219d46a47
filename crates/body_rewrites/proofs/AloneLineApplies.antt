-- Where a line applies whose left side is an operand alone, and what it writes.
use Rattle.std.proofs.Common.{◌≡◌, ℕ, zero, suc, ◌+◌, ◌-◌, ◌<◌, ◌≤◌, Bool, true, false, List, [], ◌∷◌, length, drop, Option, Some, None}
use Rattle.std.proofs.Common.{refl, sym, ap, ap₂, subst, ◌∙◌, arith, length-append}
use Rattle.std.specs.Prelude.{◌==◌, ◌&&◌, ◌||◌, not, nat_lt, if◌then◌else◌, reverse, get_or, slice_range}
use Rattle.std.specs.Cmp.Derive.{both_true}
use Rattle.std.proofs.lemmas.Bool.{and_parts, eqb-true, ne_eqb, false≢true}
use Rattle.std.proofs.lemmas.Option.{same_Some}
use Rattle.wasm_code.specs.Instruction.{Instruction}
use Rattle.wasm_code.specs.declared.operator.Operator.{Operator}
use Rattle.wasm_types.specs.declared.types.PrimitiveTypeInfo.{PrimitiveTypeInfo}
use Rattle.body_splices.specs.OwnBytes.{without_offsets}
use Rattle.body_splices.specs.Laws.{pieces_operators}
use Rattle.wasm_execution.specs.declared.integer.IntegerType.{IntegerType}
use Rattle.wasm_execution.specs.Values.{Context, type_of, same_type}
use Rattle.rewrite_rules.specs.declared.pattern.Part.{Part}
use Rattle.rewrite_rules.specs.declared.pattern.Part.TheVariants.{Hole, Constant, Drawn, Apply}
use Rattle.rewrite_rules.specs.declared.table.Condition as asked
use Rattle.rewrite_rules.specs.declared.table.Widths.{Widths}
use Rattle.rewrite_rules.specs.declared.table.Widths.TheVariants.{Both, Only, Any, Operands, Own}
use Rattle.rewrite_rules.specs.Code.{Leaves, writes, traps, asks}
use Rattle.rewrite_rules.specs.Holes.{holes_for, HolesAreTold}
use Rattle.rewrite_rules.specs.Instance.{doing, Applies}
use Rattle.rewrite_rules.specs.Laws.{TableIsRight}
use Rattle.rewrite_rules.specs.Line as lines
use Rattle.rewrite_rules.specs.Numbers.{constant_at}
use Rattle.rewrite_rules.specs.Operands.{types_fit, AreTypes, TypesAreTold}
use Rattle.rewrite_rules.specs.Order.{is_in, may_move}
use Rattle.rewrite_rules.specs.Parts.{draws, PartsAreTheCode}
use Rattle.rewrite_rules.specs.Pattern.{holes}
use Rattle.rewrite_rules.specs.Table.{parts_for, kinds_for, conditions_for, SidesAreParts}
use Rattle.body_rewrites.specs.declared.growth.Growth.{Growth}
use Rattle.body_rewrites.specs.declared.growth.Growth.TheVariants.{Grows}
use Rattle.body_rewrites.specs.declared.places.Line.{Line}
use Rattle.body_rewrites.specs.declared.places.Place.{Place}
use Rattle.body_rewrites.specs.declared.trees.Tree.{Tree}
use Rattle.body_rewrites.specs.Alone.{doubles, takes, alone_growth}
use Rattle.body_rewrites.specs.Changes.{Change}
use Rattle.body_rewrites.specs.Cutting.{AreCut}
use Rattle.body_rewrites.specs.Listing.{LineGrows}
use Rattle.body_rewrites.specs.Matching.{operand_code, IsMatch, LeftsAreInstances}
use Rattle.body_rewrites.specs.Operands.{has_hole}
use Rattle.body_rewrites.specs.Places.{IsLine, meant, left_parts, hole_operands_in, place_told, IsFoundPlaceOf}
use Rattle.body_rewrites.specs.Rewrites.{Makes, IsLineChange}
use Rattle.body_rewrites.specs.Trees.{Stands, IsTree, HasTree, IsTreeAt, TreesLeave}
use Rattle.body_rewrites.specs.Writing.{side_pieces, by_line}
use Rattle.body_rewrites.proofs.StandsLemmas.{Operators}
use Rattle.body_rewrites.proofs.AlikeLemmas.{code_there}
use Rattle.body_rewrites.proofs.GrowingLemmas.{grows}
use Rattle.body_rewrites.proofs.DifferingLemmas.{kept_count}
use Rattle.body_rewrites.proofs.PlaceLemmas.{formed, is_place, applies_to}
use Rattle.body_rewrites.proofs.FormLemmas.{IsNotOwn, IsAskedAlone, makes_by, made_by}
use Rattle.body_rewrites.proofs.WritingLemmas.{range_alone}
use Rattle.body_rewrites.proofs.AloneLineLemmas.{only_first, has_other, one_or_two, of_width, asks_nothing, IsAloneRow, alone_is, alone_left}

-- ---- where a line applies

-- the types of an operand alone fit where its type is the width's
fit_is : (w : Widths) (t : IntegerType) (gives : PrimitiveTypeInfo) → of_width w ≡ true →
    types_fit (kinds_for w t) (Some gives ∷ None ∷ None ∷ []) ≡ same_type gives (type_of t)
fit_is Both t gives e = with_true (same_type gives (type_of t))
  where
    with_true : (b : Bool) → (b && true) ≡ b
    with_true true = refl
    with_true false = refl
fit_is (Only u) t gives e = with_true (same_type gives (type_of t))
  where
    with_true : (b : Bool) → (b && true) ≡ b
    with_true true = refl
    with_true false = refl
fit_is Any t gives e = absurd (false≢true e)
fit_is (Operands a b c) t gives e = absurd (false≢true e)
fit_is (Own o) t gives e = absurd (false≢true e)

-- it may move where it is not doubled, or neither writes nor asks
moves_to : (x : ℕ → List Instruction) (right : List ℕ) → one_or_two right ≡ true →
    not (nat_lt 1 (length right) && (writes (x 0) || asks (x 0))) ≡ true → may_move (doing x) (0 ∷ []) right ≡ true
moves_to x [] e h = absurd (false≢true e)
moves_to x (zero ∷ []) e h = refl
moves_to x (zero ∷ zero ∷ []) e h = go (writes (x 0)) (traps (x 0)) (asks (x 0)) h
  where
    go : (w t a : Bool) → not (true && (w || a)) ≡ true →
        ((not w && true) && ((if t then true else true) && ((true && true) && ((not a || false) && true)))) ≡ true
    go true t a h = absurd (false≢true h)
    go false t true h = absurd (false≢true h)
    go false true false h = refl
    go false false false h = refl
moves_to x (zero ∷ zero ∷ n ∷ ns) e h = absurd (false≢true e)
moves_to x (zero ∷ suc m ∷ ns) e h = absurd (false≢true e)
moves_to x (suc m ∷ ns) e h = absurd (false≢true e)

moves_from : (x : ℕ → List Instruction) (right : List ℕ) → one_or_two right ≡ true → may_move (doing x) (0 ∷ []) right ≡ true →
    not (nat_lt 1 (length right) && (writes (x 0) || asks (x 0))) ≡ true
moves_from x [] e h = absurd (false≢true e)
moves_from x (zero ∷ []) e h = refl
moves_from x (zero ∷ zero ∷ []) e h = go (writes (x 0)) (traps (x 0)) (asks (x 0)) h
  where
    go : (w t a : Bool) → ((not w && true) && ((if t then true else true) && ((true && true) && ((not a || false) && true)))) ≡ true →
        not (true && (w || a)) ≡ true
    go true t a h = absurd (false≢true h)
    go false true true h = absurd (false≢true h)
    go false false true h = absurd (false≢true h)
    go false true false h = refl
    go false false false h = refl
moves_from x (zero ∷ zero ∷ n ∷ ns) e h = absurd (false≢true e)
moves_from x (zero ∷ suc m ∷ ns) e h = absurd (false≢true e)
moves_from x (suc m ∷ ns) e h = absurd (false≢true e)

module _ (types : TypesAreTold) (holes_are : HolesAreTold) (right : TableIsRight) (line : Line) (is : IsLine line)
    (alone : IsAskedAlone line.row line.row.widths) where
  row_is : IsAloneRow line.row line.width
  row_is = alone_is line is alone

  holes_left : holes (meant line).left ≡ 0 ∷ []
  holes_left = (holes_are line.row line.width (formed right line is)).0 ∙ (alone_left line.width line.row.left alone.left).1

  holes_right : holes (meant line).right ≡ holes_for line.row.right
  holes_right = (holes_are line.row line.width (formed right line is)).1

  module _ (context : Context) (x : ℕ → List Instruction) (gives : PrimitiveTypeInfo) (leaves : Leaves context (x 0) gives) where
    there : (n : ℕ) → is_in (holes (meant line).left) n ≡ is_in (0 ∷ []) n
    there n = ap (λ ns. is_in ns n) holes_left

    typed : AreTypes context x (is_in (holes (meant line).left)) (Some gives ∷ None ∷ None ∷ [])
    typed zero = (there 0, leaves)
    typed (suc zero) = there 1
    typed (suc (suc zero)) = there 2
    typed (suc (suc (suc n))) = there (suc (suc (suc n))) ∙ ap (λ b. b || false) (ne_eqb (suc (suc (suc n))) 0 (λ e. cc))

    nothing_asked : (c : ℕ → ℕ) (k : Option asked.Condition) → asks_nothing k ≡ true → lines.all_hold c (conditions_for line.width k) ≡ true
    nothing_asked c None e = refl
    nothing_asked c (Some k) e = absurd (false≢true e)

    same_moves : may_move (doing x) (holes (meant line).left) (holes (meant line).right) ≡ may_move (doing x) (0 ∷ []) (holes_for line.row.right)
    same_moves = ap₂ (λ ls rs. may_move (doing x) ls rs) holes_left holes_right

    alone_applies : same_type gives (type_of line.width) ≡ true → not (doubles line.row && (writes (x 0) || asks (x 0))) ≡ true → (c : ℕ → ℕ) →
        Applies context (meant line) x c
    alone_applies same free c =
        let have = types.same context x (is_in (holes (meant line).left)) (kinds_for line.row.widths line.width) (Some gives ∷ None ∷ None ∷ []) typed
        (fit_is line.row.widths line.width gives row_is.width ∙ same) in
        record {
          type = have.type;
          numeric = have.numeric;
          leave = have.leave;
          as_asked = nothing_asked c line.row.condition row_is.nothing;
          moves = same_moves ∙ moves_to x (holes_for line.row.right) row_is.few free;
          exact = λ e. absurd (false≢true (sym row_is.always ∙ e));
        }

    applies_alone : (c : ℕ → ℕ) → Applies context (meant line) x c →
        (same_type gives (type_of line.width) ≡ true) × (not (doubles line.row && (writes (x 0) || asks (x 0))) ≡ true)
    applies_alone c a = (
      sym (fit_is line.row.widths line.width gives row_is.width)
          ∙ types.only context x (is_in (holes (meant line).left)) (kinds_for line.row.widths line.width) (Some gives ∷ None ∷ None ∷ []) typed
          (record { type = a.type; numeric = a.numeric; leave = a.leave }),
      moves_from x (holes_for line.row.right) row_is.few (sym same_moves ∙ a.moves),
    )

-- ---- what it writes is longer

module _ (operators : Operators) (operands : List (ℕ × ℕ)) (c : ℕ → ℕ) (inside : (get_or operands 0 (0, 0)).1 ≤ length operators) where
  abbrev old : ℕ
  old = (get_or operands 0 (0, 0)).1 - (get_or operands 0 (0, 0)).0

  abbrev behind : (words : List ℕ) → Part → List Part → List Operator
  behind words p ps = pieces_operators (without_offsets operators) (side_pieces operands c (drop (draws p) words) ps)

  abbrev size : (words : List ℕ) → List Part → ℕ
  size words ps = length (pieces_operators (without_offsets operators) (side_pieces operands c words ps))

  hole_size : (words : List ℕ) (n : ℕ) (ps : List Part) → (n == 0) ≡ true → size words (Hole n ∷ ps) ≡ old + size (drop (draws (Hole n)) words) ps
  hole_size words n ps e =
      length-append (slice_range (without_offsets operators) (get_or operands n (0, 0)).0 (get_or operands n (0, 0)).1) (behind words (Hole n) ps)
      ∙ ap (λ k. k + size (drop (draws (Hole n)) words) ps)
      (subst (λ k. length (slice_range (without_offsets operators) (get_or operands k (0, 0)).0 (get_or operands k (0, 0)).1) ≡ old) (sym (eqb-true n 0 e))
      (kept_count operators (get_or operands 0 (0, 0)).0 (get_or operands 0 (0, 0)).1 inside))

  with_other : (words : List ℕ) (ps : List Part) → only_first ps ≡ true → has_other ps ≡ true → 1 ≤ size words ps
  with_other words [] o h = absurd (false≢true h)
  with_other words (Hole n ∷ ps) o h =
      let (first, rest) = and_parts (n == 0) (only_first ps) o in
      let all = hole_size words n ps first in
      let some = with_other (drop (draws (Hole n)) words) ps rest h in
      omega (arith, all, some)
  with_other words (Constant t e ∷ ps) o h = omega arith
  with_other words (Drawn t ∷ ps) o h = omega arith
  with_other words (Apply f ∷ ps) o h = omega arith

  with_hole : (words : List ℕ) (ps : List Part) → only_first ps ≡ true → has_hole ps 0 ≡ true → old ≤ size words ps
  with_hole words [] o h = absurd (false≢true h)
  with_hole words (Hole n ∷ ps) o h =
      let all = hole_size words n ps (and_parts (n == 0) (only_first ps) o).0 in omega (arith, all)
  with_hole words (Constant t e ∷ ps) o h = let some = with_hole (drop (draws (Constant t e)) words) ps o h in omega (arith, some)
  with_hole words (Drawn t ∷ ps) o h = let some = with_hole (drop (draws (Drawn t)) words) ps o h in omega (arith, some)
  with_hole words (Apply f ∷ ps) o h = let some = with_hole (drop (draws (Apply f)) words) ps o h in omega (arith, some)

  with_both : (words : List ℕ) (ps : List Part) → only_first ps ≡ true → has_hole ps 0 ≡ true → has_other ps ≡ true → old < size words ps
  with_both words [] o h k = absurd (false≢true h)
  with_both words (Hole n ∷ ps) o h k =
      let (first, rest) = and_parts (n == 0) (only_first ps) o in
      let all = hole_size words n ps first in
      let some = with_other (drop (draws (Hole n)) words) ps rest k in
      omega (arith, all, some)
  with_both words (Constant t e ∷ ps) o h k = let some = with_hole (drop (draws (Constant t e)) words) ps o h in omega (arith, some)
  with_both words (Drawn t ∷ ps) o h k = let some = with_hole (drop (draws (Drawn t)) words) ps o h in omega (arith, some)
  with_both words (Apply f ∷ ps) o h k = let some = with_hole (drop (draws (Apply f)) words) ps o h in omega (arith, some)

-- ---- where a tree stands

no_other : (w : Widths) → of_width w ≡ true → IsNotOwn w
no_other Both e = tt
no_other (Only t) e = tt
no_other Any e = tt
no_other (Operands a b c) e = tt
no_other (Own o) e = false≢true e

module _ (types : TypesAreTold) (holes_are : HolesAreTold) (right : TableIsRight) (line : Line) (is : IsLine line)
    (alone : IsAskedAlone line.row line.row.widths) (context : Context) (operators : Operators) (at : ℕ) where
  parts_are : reverse (Hole 0 ∷ []) ≡ parts_for line.width line.row.left
  parts_are = sym (alone_left line.width line.row.left alone.left).0

  left_is : left_parts line ≡ Hole 0 ∷ []
  left_is = ap reverse (alone_left line.width line.row.left alone.left).0

  -- it makes nothing where there is none
  no_tree : ((start : ℕ) (t : PrimitiveTypeInfo) → IsTree context operators start at t → ⊥) → (change : Change) →
      IsLineChange context operators line at change → ⊥
  no_tree none change h = go h.is.starts (subst (λ ps. AreCut context operators ps h.is.starts (at + 1)) left_is h.is.cut)
    where
      go : (starts : List ℕ) → AreCut context operators (Hole 0 ∷ []) starts (at + 1) → ⊥
      go [] cut = cut
      go (k ∷ ks) ((last, t, e, tree), rest) =
          let same : last ≡ at = omega (arith, e) in
          none k t (subst (λ n. IsTree context operators k n t) same tree)

  module _ (leave : TreesLeave) (tree : Tree) (has : HasTree context operators at tree) where
    starts : List ℕ
    starts = tree.start ∷ []

    cut : AreCut context operators (Hole 0 ∷ []) (tree.start ∷ []) (at + 1)
    cut = ((at, tree.gives, (let e : at + 1 ≡ suc at = omega arith in e), has.is), tt)

    abbrev x : ℕ → List Instruction
    x = operand_code operators (Hole 0 ∷ []) (tree.start ∷ []) (at + 1)

    code_is : x 0 ≡ has.is.code
    code_is = code_there operators tree.start (at + 1) has.is.code has.is.stands

    leaves : Leaves context (x 0) tree.gives
    leaves = subst (λ code. Leaves context code tree.gives) (sym code_is) (leave context operators tree.start at tree.gives has.is)

    free_is : (d : Bool) → not (d && (writes (x 0) || asks (x 0))) ≡ not (d && (tree.writes || tree.asks))
    free_is d = ap₂ (λ w a. not (d && (w || a))) (ap writes code_is ∙ sym has.writes_is) (ap asks code_is ∙ sym has.asks_is)

    match : (numbers : List ℕ) → IsMatch context operators (Hole 0 ∷ []) (tree.start ∷ []) (at + 1) x numbers
    match numbers = record { cut = cut; alike = (subst (Stands operators tree.start (at + 1)) (sym code_is) has.is.stands, tt) }

    abbrev place : Place
    place = place_told operators (Hole 0 ∷ []) (tree.start ∷ []) (at + 1)

    taken : takes line.width (doubles line.row) tree ≡ true → LeftsAreInstances → IsFoundPlaceOf context operators line (at + 1) place
    taken h lefts =
        let (same, free) = and_parts (same_type tree.gives (type_of line.width)) _ h in
        let inside = has.is.inside in
        is_place right holes_are line is (Hole 0 ∷ []) parts_are context operators (tree.start ∷ []) (at + 1) cut lefts (omega (arith, inside)) place refl
        (match place.numbers)
        (alone_applies types holes_are right line is alone context x tree.gives leaves same (free_is (doubles line.row) ∙ free) (constant_at place.numbers))

    longer : (word : ℕ) → at + 1 - tree.start < length (pieces_operators (without_offsets operators) ((by_line line place).pieces word))
    longer word =
        let inside = has.is.inside in
        let (first, both) = and_parts (only_first (parts_for line.width line.row.right)) _ (row_is types holes_are right line is alone).longer in
        let (hole, other) = and_parts (has_hole (parts_for line.width line.row.right) 0) _ both in
        with_both operators place.operands (constant_at place.numbers) (omega (arith, inside)) (word
        ∷ []) (parts_for line.width line.row.right) first hole other

    pub alone_grows : takes line.width (doubles line.row) tree ≡ true → LeftsAreInstances → LineGrows context operators line at Grows
    alone_grows h lefts =
        let inside = has.is.inside in
        let more = longer 0 in
        let old_size = ap length (sym (range_alone operators tree.start (at + 1))) ∙ kept_count operators tree.start (at + 1) (omega (arith, inside)) in
        let change : IsLineChange context operators line at (by_line line place) = record {
          place = place;
          is = taken h lefts;
          change_is = refl;
          differs = λ e. (let same = ap length e in absurd (omega (arith, same, old_size, more)));
        } in
        record {
          change = by_line line place;
          makes = makes_by context operators line at (by_line line place) line.row.widths
              (no_other line.row.widths (row_is types holes_are right line is alone).width) change;
          growth_is = sym (grows (at + 1 - tree.start) _ more);
        }

    pub alone_never : SidesAreParts → PartsAreTheCode → takes line.width (doubles line.row) tree ≡ false → (change : Change) →
        Makes context operators line at change → ⊥
    alone_never sides codes off change made =
        let h = made_by context operators line at change line.row.widths (no_other line.row.widths (row_is types holes_are right line is alone).width) made in
        let applies = applies_to right holes_are line is (Hole 0 ∷ []) parts_are context operators sides codes (at + 1) h.place.start
        (hole_operands_in operators h.place.operands) h.place.numbers h.is.is (tree.start ∷ []) cut h.place.numbers (match h.place.numbers) in
        let (same, free) = applies_alone types holes_are right line is alone context x tree.gives leaves (constant_at h.place.numbers) applies in
        false≢true (sym off ∙ both_true same (sym (free_is (doubles line.row)) ∙ free))

  -- by what is read of the trees

  pub alone_some : TreesLeave → LeftsAreInstances → (o : Option Tree) → IsTreeAt context operators at o → (kind : Growth) →
      alone_growth line.width (doubles line.row) o ≡ Some kind → LineGrows context operators line at kind
  alone_some leave lefts None told kind e = absurd cc
  alone_some leave lefts (Some tree) told kind e = go (takes line.width (doubles line.row) tree) refl e
    where
      go : (b : Bool) → takes line.width (doubles line.row) tree ≡ b → (if b then Some Grows else None) ≡ Some kind → LineGrows context operators line at kind
      go true h e = subst (LineGrows context operators line at) (same_Some Grows kind e) (alone_grows leave tree told h lefts)
      go false h e = absurd cc

  pub alone_none : TreesLeave → SidesAreParts → PartsAreTheCode → (o : Option Tree) → IsTreeAt context operators at o →
      alone_growth line.width (doubles line.row) o ≡ None → (change : Change) → Makes context operators line at change → ⊥
  alone_none leave sides codes None told e change made =
      no_tree told change (made_by context operators line at change line.row.widths
      (no_other line.row.widths (row_is types holes_are right line is alone).width) made)
  alone_none leave sides codes (Some tree) told e change made = go (takes line.width (doubles line.row) tree) refl e
    where
      go : (b : Bool) → takes line.width (doubles line.row) tree ≡ b → (if b then Some Grows else None) ≡ None → ⊥
      go true h e = cc
      go false h e = alone_never leave tree told sides codes h change made
