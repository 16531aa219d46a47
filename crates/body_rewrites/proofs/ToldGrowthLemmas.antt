-- What is told of a row's size is so of its rewrites.
use Rattle.std.proofs.Common.{◌≡◌, ◌⊎◌, inl, inr, ℕ, ◌+◌, ◌-◌, ◌<◌, ◌≤◌, Bool, true, false, List, [], ◌∷◌, ◌++◌, length, drop, Option, Some}
use Rattle.std.proofs.Common.{None, refl, sym, ap, subst, ◌∙◌, arith}
use Rattle.std.specs.Prelude.{◌==◌, ◌&&◌, if◌then◌else◌, option_and_then, option_map, slice_get, slice_range}
use Rattle.std.proofs.lemmas.Bool.{and_parts, cases_lt, eq-eqb, eqb-true, le-ltb, lt-ltb}
use Rattle.std.proofs.lemmas.List.{length-append, length-map}
use Rattle.std.proofs.lemmas.Option.{same_Some}
use Rattle.wasm_code.specs.Instruction.{Instruction}
use Rattle.wasm_code.specs.declared.operator.Operator.TheVariants.{Instr}
use Rattle.body_splices.specs.OwnBytes.{without_offsets}
use Rattle.body_splices.specs.Laws.{pieces_operators}
use Rattle.wasm_execution.specs.declared.integer.IntegerType.TheVariants as integer
use Rattle.wasm_execution.specs.Values.{Context}
use Rattle.rewrite_rules.specs.declared.growth.Growth as told
use Rattle.rewrite_rules.specs.declared.growth.Growth.TheVariants as rows
use Rattle.rewrite_rules.specs.declared.table.Own.{Own}
use Rattle.rewrite_rules.specs.declared.table.Own.TheVariants as own
use Rattle.rewrite_rules.specs.declared.table.Row.{Row}
use Rattle.rewrite_rules.specs.declared.table.Widths.{Widths}
use Rattle.rewrite_rules.specs.declared.table.Widths.TheVariants as widths
use Rattle.rewrite_rules.specs.Beside.{BesidesKeepCode, drop_code}
use Rattle.rewrite_rules.specs.Growing.{GrowsAs, growth_told, own_growth, shown}
use Rattle.rewrite_rules.specs.Growth.{shrinks, keeps, grows, growth_by, is_empty, left_over, own_size, own_sizes, without}
use Rattle.rewrite_rules.specs.Holes.{HolesAreTold}
use Rattle.rewrite_rules.specs.Instance.{code_of, codes_of, constant_code, operator_code}
use Rattle.rewrite_rules.specs.Laws.{TableIsRight}
use Rattle.rewrite_rules.specs.Numbers.{constant_at}
use Rattle.rewrite_rules.specs.Order.{is_in}
use Rattle.rewrite_rules.specs.Parts.{PartsAreTheCode, parts_code}
use Rattle.rewrite_rules.specs.Pattern.{Pattern, Patterns, hole, constant, drawn, apply, none, ◌▹◌, draws_by, holes, holes_in}
use Rattle.rewrite_rules.specs.Table.{ROWS, SidesAreParts, parts_for}
use Rattle.body_rewrites.specs.declared.growth.Growth.{Growth}
use Rattle.body_rewrites.specs.declared.own.Made.{Made}
use Rattle.body_rewrites.specs.declared.own.Made.TheVariants as made
use Rattle.body_rewrites.specs.declared.places.Line.{Line}
use Rattle.body_rewrites.specs.declared.places.Place.{Place}
use Rattle.body_rewrites.specs.declared.rewrite.Rewrite.{Rewrite}
use Rattle.body_rewrites.specs.Changes.{Change}
use Rattle.body_rewrites.specs.Listing.{HasGrowth}
use Rattle.body_rewrites.specs.Growth.{IsGrowth}
use Rattle.body_rewrites.specs.Own.{Rewrites, made_pieces}
use Rattle.body_rewrites.specs.OwnSites.{in_bodies}
use Rattle.body_rewrites.specs.Places.{IsLine, IsFoundPlaceOf, IsTreeCode, meant, hole_operands_in}
use Rattle.body_rewrites.specs.Rewrites.{IsLineChange, IsMadeBy, MakesBy, growth_of}
use Rattle.body_rewrites.specs.Rewrites as bodies
use Rattle.body_rewrites.specs.ToldGrowth.{IsAsTold}
use Rattle.body_rewrites.specs.Writing.{by_line}
use Rattle.body_rewrites.proofs.WrapLemmas.{wrapped_sizes}
use Rattle.body_rewrites.proofs.FormLemmas.{IsNotOwn, is_line}
use Rattle.body_rewrites.proofs.FoundLemmas.{or_first, or_second}
use Rattle.body_rewrites.proofs.GrowingLemmas as counted
use Rattle.body_rewrites.proofs.OwnGrowthLemmas.{growth_at}
use Rattle.body_rewrites.proofs.PlaceLemmas.{formed}
use Rattle.body_rewrites.proofs.SplitLemmas.{count_is}
use Rattle.body_rewrites.proofs.StandsLemmas.{Operators}
use Rattle.body_rewrites.proofs.WritingLemmas.{pieces_are, stands_there, tree_some}

-- ---- how many instructions a pattern's code is

-- those in holes
abbrev in_holes : (x : ℕ → List Instruction) → List ℕ → ℕ
in_holes x [] = 0
in_holes x (n ∷ ns) = length (x n) + in_holes x ns

in_both : (x : ℕ → List Instruction) (ns ms : List ℕ) → in_holes x (ns ++ ms) ≡ in_holes x ns + in_holes x ms
in_both x [] ms = omega arith
in_both x (n ∷ ns) ms = let rest = in_both x ns ms in omega (arith, rest)

mutual
  code_size : (x : ℕ → List Instruction) (c : ℕ → ℕ) (words : List ℕ) (p : Pattern) →
      length (code_of x c words p) ≡ own_size p + in_holes x (holes p)
  code_size x c words (hole n) = omega arith
  code_size x c words (constant t e) = refl
  code_size x c words (drawn t) = refl
  code_size x c words (apply o ps) =
      let operands = codes_size x c words ps in
      let both = length-append (codes_of x c words ps) (operator_code o ∷ []) in
      omega (arith, operands, both)

  codes_size : (x : ℕ → List Instruction) (c : ℕ → ℕ) (words : List ℕ) (ps : Patterns) →
      length (codes_of x c words ps) ≡ own_sizes ps + in_holes x (holes_in ps)
  codes_size x c words none = refl
  codes_size x c words (p ▹ ps) =
      let first = code_size x c words p in
      let rest = codes_size x c (drop (draws_by p) words) ps in
      let both = length-append (code_of x c words p) (codes_of x c (drop (draws_by p) words) ps) in
      let sum = in_both x (holes p) (holes_in ps) in
      omega (arith, first, rest, both, sum)

-- ---- holes that are left out

-- something stands in each
abbrev AllSome : (x : ℕ → List Instruction) → List ℕ → Type 0
AllSome x [] = Unit {0}
AllSome x (n ∷ ns) = (0 < length (x n)) × AllSome x ns

all_some : (context : Context) (x : ℕ → List Instruction) (ns : List ℕ) → ((n : ℕ) → is_in ns n ≡ true → IsTreeCode context (x n)) → AllSome x ns
all_some context x [] trees = tt
all_some context x (n ∷ ns) trees = (
  tree_some context (x n) (trees n (or_first (n == n) (is_in ns n) (eq-eqb n n refl))),
  all_some context x ns (λ m e. trees m (or_second (m == n) (is_in ns m) e)),
)

some_size : (x : ℕ → List Instruction) (ns : List ℕ) → AllSome x ns → length ns ≤ in_holes x ns
some_size x [] some = omega arith
some_size x (n ∷ ns) some = let rest = some_size x ns some.1 in omega (arith, rest, some.0)

map_some : (m : ℕ) (o : Option (List ℕ)) (rest : List ℕ) → option_map (λ ks. m ∷ ks) o ≡ Some rest → (ks : List ℕ) × (o ≡ Some ks) × (rest ≡ m ∷ ks)
map_some m None rest e = absurd cc
map_some m (Some ks) rest e = (ks, refl, sym (same_Some (m ∷ ks) rest e))

then_some : (f : List ℕ → Option (List ℕ)) (o : Option (List ℕ)) (rest : List ℕ) → option_and_then f o ≡ Some rest →
    (ks : List ℕ) × (o ≡ Some ks) × (f ks ≡ Some rest)
then_some f None rest e = absurd cc
then_some f (Some ks) rest e = (ks, refl, e)

without_step : (n m : ℕ) (ms rest : List ℕ) → without n (m ∷ ms) ≡ Some rest →
    ((n ≡ m) × (rest ≡ ms)) ⊎ ((ks : List ℕ) × (without n ms ≡ Some ks) × (rest ≡ m ∷ ks))
without_step n m ms rest e = go (n == m) refl e
  where
    go : (b : Bool) → (n == m) ≡ b → (if b then Some ms else option_map (λ ks. m ∷ ks) (without n ms)) ≡ Some rest →
        ((n ≡ m) × (rest ≡ ms)) ⊎ ((ks : List ℕ) × (without n ms ≡ Some ks) × (rest ≡ m ∷ ks))
    go true k e = inl (eqb-true n m k, sym (same_Some ms rest e))
    go false k e = inr (map_some m (without n ms) rest e)

without_is : (x : ℕ → List Instruction) (n : ℕ) (ms rest : List ℕ) → without n ms ≡ Some rest →
    (in_holes x ms ≡ length (x n) + in_holes x rest) × (AllSome x ms → AllSome x rest)
without_is x n [] rest e = absurd cc
without_is x n (m ∷ ms) rest e = elim (without_step n m ms rest e) [
  | inl h ↦ (
    ap (λ k. length (x k) + in_holes x ms) (sym h.0) ∙ ap (λ ks. length (x n) + in_holes x ks) (sym h.1),
    λ some. subst (λ ks. AllSome x ks) (sym h.1) some.1,
  )
  | inr h ↦
      let more = without_is x n ms h.0 h.1 in
      let size : in_holes x rest ≡ length (x m) + in_holes x h.0 = ap (in_holes x) h.2 in
      (omega (arith, more.0, size), λ some. subst (λ ks. AllSome x ks) (sym h.2) (some.0, more.1 some.1))
]

left_is : (x : ℕ → List Instruction) (ns ms rest : List ℕ) → left_over ns ms ≡ Some rest →
    (in_holes x ms ≡ in_holes x ns + in_holes x rest) × (AllSome x ms → AllSome x rest)
left_is x [] ms rest e =
    let same = same_Some ms rest e in
    (omega (arith, ap (in_holes x) same), λ some. subst (λ ks. AllSome x ks) same some)
left_is x (n ∷ ns) ms rest e =
    let h = then_some (left_over ns) (without n ms) rest e in
    let one = without_is x n ms h.0 h.1 in
    let more = left_is x ns h.0 rest h.2 in
    (omega (arith, one.0, more.0), λ some. more.1 (one.1 some))

-- ---- what is told of two sides

not_shrinking : (b : Bool) → shrinks ≡ (if b then keeps else grows) → ⊥
not_shrinking true e = cc
not_shrinking false e = cc

is_keeping : (b : Bool) → keeps ≡ (if b then keeps else grows) → b ≡ true
is_keeping true e = refl
is_keeping false e = absurd cc

nothing_left : (rest : List ℕ) → is_empty rest ≡ true → rest ≡ []
nothing_left [] e = refl
nothing_left (n ∷ ns) e = absurd cc

told_shrinking : (l r : ℕ) (o : Option (List ℕ)) → shrinks ≡ growth_by l r o → (rest : List ℕ) × (o ≡ Some rest) × (r < l + length rest)
told_shrinking l r None e = absurd cc
told_shrinking l r (Some rest) e = elim (cases_lt r (l + length rest)) [
  | inl less ↦ (rest, refl, less)
  | inr high ↦
      let other = ap (λ b. if b then shrinks else (if r == l && is_empty rest then keeps else grows)) (le-ltb r (l + length rest) high) in
      absurd (not_shrinking (r == l && is_empty rest) (e ∙ other))
]

told_keeping : (l r : ℕ) (o : Option (List ℕ)) → keeps ≡ growth_by l r o → (o ≡ Some []) × (r ≡ l)
told_keeping l r None e = absurd cc
told_keeping l r (Some rest) e = elim (cases_lt r (l + length rest)) [
  | inl less ↦
      let other : keeps ≡ shrinks =
      e ∙ ap (λ b. if b then shrinks else (if r == l && is_empty rest then keeps else grows)) (lt-ltb r (l + length rest) less) in
      absurd cc
  | inr high ↦
      let other = ap (λ b. if b then shrinks else (if r == l && is_empty rest then keeps else grows)) (le-ltb r (l + length rest) high) in
      let both = and_parts (r == l) (is_empty rest) (is_keeping (r == l && is_empty rest) (e ∙ other)) in
      (ap (λ (ks : List ℕ). Some ks) (nothing_left rest both.1), eqb-true r l both.0)
]

module _ (x : ℕ → List Instruction) (l r : ℕ) (left right : List ℕ) (old new : ℕ) (old_is : old ≡ l + in_holes x left)
    (new_is : new ≡ r + in_holes x right) where
  are_fewer : AllSome x left → shrinks ≡ growth_by l r (left_over right left) → new < old
  are_fewer all e =
      let t = told_shrinking l r (left_over right left) e in
      let h = left_is x right left t.0 t.1 in
      let some = some_size x t.0 (h.1 all) in
      omega (arith, old_is, new_is, h.0, some, t.2)

  are_as_many : keeps ≡ growth_by l r (left_over right left) → new ≡ old
  are_as_many e =
      let t = told_keeping l r (left_over right left) e in
      let h = left_is x right left [] t.0 in
      omega (arith, old_is, new_is, h.0, t.1)

  as_told : (told : told.Growth) → AllSome x left → shown told ≡ growth_by l r (left_over right left) → IsAsTold told (bodies.growth_by_sizes old new)
  as_told rows.Shrinks all e = sym (counted.shrinks old new (are_fewer all e))
  as_told rows.Keeps all e = sym (counted.keeps old new (are_as_many e))
  as_told rows.Grows all e = tt

-- ---- by a line

module _ (right : TableIsRight) (holes_are : HolesAreTold) (sides : SidesAreParts) (codes : PartsAreTheCode) (besides : BesidesKeepCode) (context : Context)
    (operators : Operators) (line : Line) (at : ℕ) (place : Place) (is : IsLine line) (found : IsFoundPlaceOf context operators line (at + 1) place) where
  old_size : at + 1 - place.start
      ≡ own_size (meant line).left + in_holes (hole_operands_in operators place.operands) (holes (meant line).left)
  old_size =
      let code = code_of (hole_operands_in operators place.operands) (constant_at place.numbers) [] (meant line).left in
      sym (count_is operators place.start (at + 1) code found.is.inside found.is.stands)
      ∙ code_size (hole_operands_in operators place.operands) (constant_at place.numbers) [] (meant line).left

  new_size : (word : ℕ) → length (pieces_operators (without_offsets operators) ((by_line line place).pieces word))
      ≡ own_size (meant line).right + in_holes (hole_operands_in operators place.operands) (holes (meant line).right)
  new_size word =
      let x = hole_operands_in operators place.operands in
      let c = constant_at place.numbers in
      let parts = parts_for line.width line.row.right in
      ap length (pieces_are operators (at + 1) place.operands x c (word ∷ []) parts
      (stands_there right holes_are sides codes besides context operators line at place is found))
      ∙ (length-map (parts_code x c (word ∷ []) parts) (λ (i : Instruction). Instr i)
      ∙ (ap length (sym (codes x c (word ∷ []) (meant line).right
      ∙ ap (parts_code x c (word ∷ [])) (sides is.number line.row is.row_is is.place line.width is.width_is).1))
      ∙ code_size x c (word ∷ []) (meant line).right))

  line_as_told : (told : told.Growth) → GrowsAs line.row told → IsAsTold told (growth_of operators at (by_line line place))
  line_as_told told h =
      as_told (hole_operands_in operators place.operands) (own_size (meant line).left) (own_size (meant line).right) (holes (meant line).left)
      (holes (meant line).right) (at + 1 - place.start) (length (pieces_operators (without_offsets operators) ((by_line line place).pieces 0))) old_size
      (new_size 0) told (all_some context (hole_operands_in operators place.operands) (holes (meant line).left) found.is.trees)
      (h.of_lines is.place line.width is.width_is (formed right line is))

-- ---- by a rule beside the table

module _ (context : Context) (operators : Operators) (at start : ℕ) where
  fewer : (own : Own) (m : Made) → Rewrites context operators own start at m → own_growth own ≡ rows.Shrinks →
      length (pieces_operators (without_offsets operators) (made_pieces start at m 0)) < at + 1 - start
  fewer own.Unfold m h e = absurd cc
  fewer own.ThroughGlobal m h e = absurd cc
  fewer own.WithNop m h e = absurd cc
  fewer own.TeeToSet m h e = absurd cc
  fewer own.Fold (made.Constant t n) h e = growth_at context operators at own.Fold start (made.Constant t n) h 0
  fewer own.Forget made.Nothing h e = growth_at context operators at own.Forget start made.Nothing h 0
  fewer own.DropNop made.Nothing h e = growth_at context operators at own.DropNop start made.Nothing h 0
  fewer own.SetToTee (made.Tee n) h e = growth_at context operators at own.SetToTee start (made.Tee n) h 0
  fewer (own.Access n) (made.Access a w) h e =
      subst (λ g. IsGrowth (in_bodies g) (length (pieces_operators (without_offsets operators) (made_pieces start at (made.Access a w) 0))) (at + 1 - start))
      (sym (ap growth_told h.listed) ∙ e) (growth_at context operators at (own.Access n) start (made.Access a w) h 0)
  fewer (own.Wrap w) m h e = absurd cc
  fewer (own.Unwrap w) (made.Inner from end) h e = growth_at context operators at (own.Unwrap w) start (made.Inner from end) h 0
  fewer own.SelectToIf m h e = absurd cc
  fewer own.TestCondition m h e = absurd cc
  fewer own.DoubleCondition m h e = absurd cc
  fewer own.PutDead m h e = absurd cc
  fewer own.BoundIndex m h e = absurd cc
  fewer own.BrIfToIf m h e = absurd cc
  fewer own.IfToSelect made.Selected h e = growth_at context operators at own.IfToSelect start made.Selected h 0
  fewer own.DropConditionTest (made.Inner from end) h e = growth_at context operators at own.DropConditionTest start (made.Inner from end) h 0
  fewer own.DropDoubleCondition (made.Inner from end) h e = growth_at context operators at own.DropDoubleCondition start (made.Inner from end) h 0
  fewer own.DropDead made.Nothing h e = growth_at context operators at own.DropDead start made.Nothing h 0
  fewer own.DropIndexBound (made.Inner from end) h e = growth_at context operators at own.DropIndexBound start (made.Inner from end) h 0
  fewer own.IfToBrIf (made.BranchIf label) h e = growth_at context operators at own.IfToBrIf start (made.BranchIf label) h 0
  fewer own m h e = absurd h

  as_many : (own : Own) (m : Made) → Rewrites context operators own start at m → own_growth own ≡ rows.Keeps →
      length (pieces_operators (without_offsets operators) (made_pieces start at m 0)) ≡ at + 1 - start
  as_many own.Unfold m h e = absurd cc
  as_many own.ThroughGlobal m h e = absurd cc
  as_many own.WithNop m h e = absurd cc
  as_many own.TeeToSet m h e = absurd cc
  as_many own.Fold m h e = absurd cc
  as_many own.Forget m h e = absurd cc
  as_many own.DropNop m h e = absurd cc
  as_many own.SetToTee m h e = absurd cc
  as_many (own.Access n) (made.Access a w) h e =
      subst (λ g. IsGrowth (in_bodies g) (length (pieces_operators (without_offsets operators) (made_pieces start at (made.Access a w) 0))) (at + 1 - start))
      (sym (ap growth_told h.listed) ∙ e) (growth_at context operators at (own.Access n) start (made.Access a w) h 0)
  as_many (own.Wrap w) m h e = absurd cc
  as_many (own.Unwrap w) m h e = absurd cc
  as_many own.SelectToIf m h e = absurd cc
  as_many own.IfToSelect m h e = absurd cc
  as_many own.TestCondition m h e = absurd cc
  as_many own.DropConditionTest m h e = absurd cc
  as_many own.DoubleCondition m h e = absurd cc
  as_many own.DropDoubleCondition m h e = absurd cc
  as_many own.PutDead m h e = absurd cc
  as_many own.DropDead m h e = absurd cc
  as_many own.BoundIndex m h e = absurd cc
  as_many own.DropIndexBound m h e = absurd cc
  as_many own.BrIfToIf m h e = absurd cc
  as_many own.IfToBrIf m h e = absurd cc
  as_many own m h e = absurd h

  own_as_told : (own : Own) (m : Made) (told : told.Growth) → Rewrites context operators own start at m → told ≡ own_growth own →
      IsAsTold told (bodies.growth_by_sizes (at + 1 - start) (length (pieces_operators (without_offsets operators) (made_pieces start at m 0))))
  own_as_told own m rows.Shrinks h e =
      sym (counted.shrinks (at + 1 - start) (length (pieces_operators (without_offsets operators) (made_pieces start at m 0))) (fewer own m h (sym e)))
  own_as_told own m rows.Keeps h e =
      sym (counted.keeps (at + 1 - start) (length (pieces_operators (without_offsets operators) (made_pieces start at m 0))) (as_many own m h (sym e)))
  own_as_told own m rows.Grows h e = tt

-- ---- by a row

module _ (right : TableIsRight) (holes_are : HolesAreTold) (sides : SidesAreParts) (codes : PartsAreTheCode) (besides : BesidesKeepCode) where
  by_place : (context : Context) (operators : Operators) (number : ℕ) (line : Line) (at : ℕ) (change : Change) (told : told.Growth) →
      bodies.IsAsked number line → GrowsAs line.row told → IsNotOwn line.row.widths → IsLineChange context operators line at change →
      IsAsTold told (growth_of operators at change)
  by_place context operators number line at change told asked h not_own made =
      subst (λ k. IsAsTold told (growth_of operators at k)) (sym made.change_is)
      (line_as_told right holes_are sides codes besides context operators line at made.place (is_line number line asked not_own) made.is told h)

  change_as_told : (context : Context) (operators : Operators) (number : ℕ) (line : Line) (at : ℕ) (change : Change) (told : told.Growth) →
      bodies.IsAsked number line → GrowsAs line.row told → (w : Widths) → line.row.widths ≡ w → MakesBy context operators line at change w →
      IsAsTold told (growth_of operators at change)
  change_as_told context operators number line at change told asked h (widths.Own own) e made =
      subst (λ k. IsAsTold told (growth_of operators at k)) (sym made.is)
      (own_as_told context operators at made.site.start own made.site.made told made.rewrites (h.of_own own e))
  change_as_told context operators number line at change told asked h widths.Both e made =
      by_place context operators number line at change told asked h (subst IsNotOwn (sym e) tt) made
  change_as_told context operators number line at change told asked h (widths.Only t) e made =
      by_place context operators number line at change told asked h (subst IsNotOwn (sym e) tt) made
  change_as_told context operators number line at change told asked h widths.Any e made =
      by_place context operators number line at change told asked h (subst IsNotOwn (sym e) tt) made
  change_as_told context operators number line at change told asked h (widths.Operands a b c) e made =
      by_place context operators number line at change told asked h (subst IsNotOwn (sym e) tt) made

  pub growths_are_told : (context : Context) (operators : Operators) (r : Rewrite) (row : Row) (told : told.Growth) (kind : Growth) →
      slice_get ROWS r.row ≡ Some row → GrowsAs row told → HasGrowth context operators kind r → IsAsTold told kind
  growths_are_told context operators r row told kind at h has =
      let by = has.made in
      let same : row ≡ by.line.row = same_Some row by.line.row (sym at ∙ by.asked.row_is) in
      subst (λ k. IsAsTold told k) has.growth_is
      (change_as_told context operators r.row by.line r.operator has.change told by.asked (subst (λ (k : Row). GrowsAs k told) same h) by.line.row.widths refl
      by.makes)

-- ---- whatever word is drawn

own_word : (operators : Operators) (start at : ℕ) (m : Made) (word : ℕ) →
    length (pieces_operators (without_offsets operators) (made_pieces start at m word))
    ≡ length (pieces_operators (without_offsets operators) (made_pieces start at m 0))
own_word operators start at made.Nothing word = refl
own_word operators start at (made.Constant t n) word = refl
own_word operators start at (made.Sum t n) word = refl
own_word operators start at made.Nop word = refl
own_word operators start at (made.Global t g) word = refl
own_word operators start at (made.SetAndGet n) word = refl
own_word operators start at (made.Tee n) word = refl
own_word operators start at (made.Access a w) word = refl
own_word operators start at (made.Wrapped w t) word = wrapped_sizes (without_offsets operators) start at w t word
    ∙ sym (wrapped_sizes (without_offsets operators) start at w t 0)
own_word operators start at (made.Inner from end) word = refl
own_word operators start at (made.Conditional v condition) word = refl
own_word operators start at made.Selected word = refl
own_word operators start at made.Tested word = refl
own_word operators start at made.DoublyTested word = refl
own_word operators start at made.Dead word =
    let kept = slice_range (without_offsets operators) start (at + 1) in
    length-append kept (Instr (constant_code integer.I32 word) ∷ Instr drop_code ∷ [])
    ∙ sym (length-append kept (Instr (constant_code integer.I32 0) ∷ Instr drop_code ∷ []))
own_word operators start at (made.Bounded count) word = refl
own_word operators start at (made.InConditional label) word = refl
own_word operators start at (made.BranchIf label) word = refl

line_word : (operators : Operators) (line : Line) (place : Place) (word : ℕ) →
    length (pieces_operators (without_offsets operators) ((by_line line place).pieces word))
    ≡ length (pieces_operators (without_offsets operators) ((by_line line place).pieces 0))
line_word operators line place word =
    counted.parts_counted operators place.operands (constant_at place.numbers) (word ∷ []) (parts_for line.width line.row.right)
    ∙ sym (counted.parts_counted operators place.operands (constant_at place.numbers) (0 ∷ []) (parts_for line.width line.row.right))

word_by : (context : Context) (operators : Operators) (line : Line) (at : ℕ) (change : Change) (word : ℕ) (w : Widths) →
    MakesBy context operators line at change w →
    length (pieces_operators (without_offsets operators) (change.pieces word)) ≡ length (pieces_operators (without_offsets operators) (change.pieces 0))
word_by context operators line at change word (widths.Own own) h =
    subst (λ (k : Change). length (pieces_operators (without_offsets operators) (k.pieces word))
    ≡ length (pieces_operators (without_offsets operators) (k.pieces 0))) (sym h.is) (own_word operators h.site.start at h.site.made word)
word_by context operators line at change word widths.Both h =
    subst (λ (k : Change). length (pieces_operators (without_offsets operators) (k.pieces word))
    ≡ length (pieces_operators (without_offsets operators) (k.pieces 0))) (sym h.change_is) (line_word operators line h.place word)
word_by context operators line at change word (widths.Only t) h =
    subst (λ (k : Change). length (pieces_operators (without_offsets operators) (k.pieces word))
    ≡ length (pieces_operators (without_offsets operators) (k.pieces 0))) (sym h.change_is) (line_word operators line h.place word)
word_by context operators line at change word widths.Any h =
    subst (λ (k : Change). length (pieces_operators (without_offsets operators) (k.pieces word))
    ≡ length (pieces_operators (without_offsets operators) (k.pieces 0))) (sym h.change_is) (line_word operators line h.place word)
word_by context operators line at change word (widths.Operands a b c) h =
    subst (λ (k : Change). length (pieces_operators (without_offsets operators) (k.pieces word))
    ≡ length (pieces_operators (without_offsets operators) (k.pieces 0))) (sym h.change_is) (line_word operators line h.place word)

pub any_word : (context : Context) (operators : Operators) (r : Rewrite) (change : Change) (word : ℕ) → IsMadeBy context operators r change →
    length (pieces_operators (without_offsets operators) (change.pieces word)) ≡ length (pieces_operators (without_offsets operators) (change.pieces 0))
any_word context operators r change word by = word_by context operators by.line r.operator change word by.line.row.widths by.makes
