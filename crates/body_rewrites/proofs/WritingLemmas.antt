-- What a line writes is its right side's code, and may stand in its place.
use Rattle.std.proofs.Common.{◌≡◌, ℕ, zero, suc, ◌+◌, ◌-◌, ◌<◌, ◌≤◌, Bool, true, false, List, [], ◌∷◌, ◌++◌, length, map, take, drop, ◌⊎◌}
use Rattle.std.proofs.Common.{inl, inr, refl, sym, ap, ap₂, subst, ◌∙◌, arith}
use Rattle.std.specs.Prelude.{◌==◌, ◌&&◌, ◌||◌, get_or, option_map, slice_range}
use Rattle.std.specs.List.{All}
use Rattle.std.proofs.lemmas.Bool.{and_parts, eqb-true, eq-eqb, false≢true}
use Rattle.std.proofs.lemmas.List.{length-append, map-append}
use Rattle.std.proofs.lemmas.List.Elements.{All-nil, All-cons}
use Rattle.std.proofs.lemmas.Option.{slice_get-map}
use Rattle.wasm_code.specs.Instruction.{Instruction}
use Rattle.wasm_code.specs.declared.operator.Operator.{Operator}
use Rattle.wasm_code.specs.declared.operator.Operator.TheVariants.{Instr}
use Rattle.body_splices.specs.OwnBytes.{without_offsets}
use Rattle.body_splices.specs.Splice.{IsPieceIn}
use Rattle.body_splices.specs.Laws.{piece_operators, pieces_operators, KeepsInstructions}
use Rattle.wasm_execution.specs.Values.{Context}
use Rattle.rewrite_rules.specs.declared.pattern.Part.{Part}
use Rattle.rewrite_rules.specs.declared.pattern.Part.TheVariants.{Hole, Constant, Drawn, Apply}
use Rattle.rewrite_rules.specs.Beside.{StandsWith, BesidesKeepCode}
use Rattle.rewrite_rules.specs.Holes.{HolesAreTold}
use Rattle.rewrite_rules.specs.Instance.{operator_code, code_of, codes_of, StandsFor}
use Rattle.rewrite_rules.specs.Laws.{TableIsRight}
use Rattle.rewrite_rules.specs.Numbers.{constant_at}
use Rattle.rewrite_rules.specs.Order.{is_in, every}
use Rattle.rewrite_rules.specs.Parts.{draws, part_code, parts_code, PartsAreTheCode}
use Rattle.rewrite_rules.specs.Pattern.{Pattern, hole, constant, drawn, apply, holes, draws_by, fits, kind_in, same_kind, traps_at_root}
use Rattle.rewrite_rules.specs.Table.{parts_for, SidesAreParts}
use Rattle.body_rewrites.specs.declared.places.Line.{Line}
use Rattle.body_rewrites.specs.declared.places.Place.{Place}
use Rattle.body_rewrites.specs.Trees.{Stands}
use Rattle.body_rewrites.specs.Matching.{is_hole, instructions, operators_in}
use Rattle.body_rewrites.specs.Operands.{has_hole}
use Rattle.body_rewrites.specs.Places.{IsLine, meant, IsTreeCode, IsFoundPlaceOf, hole_operands_in}
use Rattle.body_rewrites.specs.Changes.{pieces_code, KeepsCode}
use Rattle.body_rewrites.specs.Writing.{piece_for, side_pieces, by_line}
use Rattle.body_rewrites.proofs.StandsLemmas.{Operators, nothing_stands}
use Rattle.body_rewrites.proofs.AlikeLemmas.{instructions_back}
use Rattle.body_rewrites.proofs.FoundLemmas.{or_first, or_second}
use Rattle.body_rewrites.proofs.LeftRowLemmas.{hole_in_parts}
use Rattle.body_rewrites.proofs.PlaceLemmas.{formed, operand_found}
use Rattle.body_rewrites.proofs.OperandLemmas.{StandsIn}

-- ---- pieces

abbrev instr_of : Instruction → Operator
instr_of i = Instr i

pub range_alone : (operators : Operators) (s e : ℕ) → slice_range (without_offsets operators) s e ≡ operators_in operators s e
range_alone operators s e = ap (take (e - s)) (drop_map operators s) ∙ take_map (drop s operators) (e - s)
  where
    drop_map : (os : Operators) (n : ℕ) → drop n (without_offsets os) ≡ without_offsets (drop n os)
    drop_map os zero = refl
    drop_map [] (suc n) = refl
    drop_map (o ∷ os) (suc n) = drop_map os n

    take_map : (os : Operators) (n : ℕ) → take n (without_offsets os) ≡ without_offsets (take n os)
    take_map os zero = refl
    take_map [] (suc n) = refl
    take_map (o ∷ os) (suc n) = ap (λ l. o.0 ∷ l) (take_map os n)

module _ (operators : Operators) (end : ℕ) (operands : List (ℕ × ℕ)) (x : ℕ → List Instruction) (c : ℕ → ℕ) where
  piece_is : (words : List ℕ) (p : Part) → ((n : ℕ) → is_hole p n ≡ true → StandsIn operators end (get_or operands n (0, 0)) (x n)) →
      piece_operators (without_offsets operators) (piece_for operands c words p) ≡ map instr_of (part_code x c words p)
  piece_is words (Hole n) there =
      range_alone operators (get_or operands n (0, 0)).0 (get_or operands n (0, 0)).1 ∙ (there n (eq-eqb n n refl)).stands
  piece_is words (Constant t e) there = refl
  piece_is words (Drawn t) there = refl
  piece_is words (Apply o) there = refl

  pub pieces_are : (words : List ℕ) (ps : List Part) → ((n : ℕ) → has_hole ps n ≡ true → StandsIn operators end (get_or operands n (0, 0)) (x n)) →
      pieces_operators (without_offsets operators) (side_pieces operands c words ps) ≡ map instr_of (parts_code x c words ps)
  pieces_are words [] there = refl
  pieces_are words (p ∷ ps) there =
      ap₂ (λ a b. a ++ b) (piece_is words p (λ n e. there n (or_first (is_hole p n) (has_hole ps n) e)))
      (pieces_are (drop (draws p) words) ps (λ n e. there n (or_second (is_hole p n) (has_hole ps n) e)))
      ∙ sym (map-append instr_of (part_code x c words p) (parts_code x c (drop (draws p) words) ps))

  piece_keeps : (words : List ℕ) (p : Part) → ((n : ℕ) → is_hole p n ≡ true → StandsIn operators end (get_or operands n (0, 0)) (x n)) →
      KeepsInstructions operators (piece_for operands c words p)
  piece_keeps words (Hole n) there = record { instructions = x n; stand = (there n (eq-eqb n n refl)).stands }
  piece_keeps words (Constant t e) there = tt
  piece_keeps words (Drawn t) there = tt
  piece_keeps words (Apply o) there = tt

  all_keep : (words : List ℕ) (ps : List Part) → ((n : ℕ) → has_hole ps n ≡ true → StandsIn operators end (get_or operands n (0, 0)) (x n)) →
      All (KeepsInstructions operators) (side_pieces operands c words ps)
  all_keep words [] there = All-nil (KeepsInstructions operators)
  all_keep words (p ∷ ps) there =
      All-cons (KeepsInstructions operators) _ _ (piece_keeps words p (λ n e. there n (or_first (is_hole p n) (has_hole ps n) e)))
      (all_keep (drop (draws p) words) ps (λ n e. there n (or_second (is_hole p n) (has_hole ps n) e)))

  piece_within : (words : List ℕ) (p : Part) → end < length operators →
      ((n : ℕ) → is_hole p n ≡ true → StandsIn operators end (get_or operands n (0, 0)) (x n)) → IsPieceIn operators (piece_for operands c words p)
  piece_within words (Hole n) l there =
      let s = there n (eq-eqb n n refl) in
      record { ordered = s.ordered; inside = omega (arith, s.inside, l) }
  piece_within words (Constant t e) l there = tt
  piece_within words (Drawn t) l there = tt
  piece_within words (Apply o) l there = tt

  all_within : (words : List ℕ) (ps : List Part) → end < length operators →
      ((n : ℕ) → has_hole ps n ≡ true → StandsIn operators end (get_or operands n (0, 0)) (x n)) →
      All (IsPieceIn operators) (side_pieces operands c words ps)
  all_within words [] l there = All-nil (IsPieceIn operators)
  all_within words (p ∷ ps) l there =
      All-cons (IsPieceIn operators) _ _ (piece_within words p l (λ n e. there n (or_first (is_hole p n) (has_hole ps n) e)))
      (all_within (drop (draws p) words) ps l (λ n e. there n (or_second (is_hole p n) (has_hole ps n) e)))

-- ---- code isn't empty

pub tree_some : (context : Context) (code : List Instruction) → IsTreeCode context code → 0 < length code
tree_some context [] (t, e) = absurd cc
tree_some context (i ∷ code) e = omega arith

code_some : (context : Context) (x : ℕ → List Instruction) (c : ℕ → ℕ) (words : List ℕ) (p : Pattern) →
    ((n : ℕ) → is_in (holes p) n ≡ true → IsTreeCode context (x n)) → 0 < length (code_of x c words p)
code_some context x c words (hole n) trees = tree_some context (x n) (trees n (or_first (n == n) false (eq-eqb n n refl)))
code_some context x c words (constant t e) trees = omega arith
code_some context x c words (drawn t) trees = omega arith
code_some context x c words (apply o ps) trees =
    let count = length-append (codes_of x c words ps) (operator_code o ∷ []) in
    omega arith

cases : (n m : ℕ) → (n ≤ m) ⊎ (m + 1 ≤ n)
cases zero m = inl (omega arith)
cases (suc n) zero = inr (omega arith)
cases (suc n) (suc m) = elim (cases n m) [ inl l ↦ inl (omega (arith, l)) | inr l ↦ inr (omega (arith, l)) ]

-- ---- lines

every_at : (f : ℕ → Bool) (ns : List ℕ) (n : ℕ) → every f ns ≡ true → is_in ns n ≡ true → f n ≡ true
every_at f [] n e i = absurd (false≢true i)
every_at f (m ∷ ms) n e i =
    let (first, rest) = and_parts (f m) (every f ms) e in
    go (n == m) refl i first (every_at f ms n rest)
  where
    go : (b : Bool) → (n == m) ≡ b → (b || is_in ms n) ≡ true → f m ≡ true → (is_in ms n ≡ true → f n ≡ true) → f n ≡ true
    go true k i first others = subst (λ j. f j ≡ true) (sym (eqb-true n m k)) first
    go false k i first others = others i

module _ (right : TableIsRight) (holes_are : HolesAreTold) (sides : SidesAreParts) (codes : PartsAreTheCode) (besides : BesidesKeepCode) (context : Context)
    (operators : Operators) (line : Line) (at : ℕ) (place : Place) (is : IsLine line) (found : IsFoundPlaceOf context operators line (at + 1) place) where
  abbrev x : ℕ → List Instruction
  x = hole_operands_in operators place.operands

  abbrev c : ℕ → ℕ
  c = constant_at place.numbers

  abbrev parts : List Part
  parts = parts_for line.width line.row.right

  abbrev old : List Instruction
  old = code_of x c [] (meant line).left

  -- the right side's holes are among those of the left side
  right_in_left : (n : ℕ) → is_in (holes (meant line).right) n ≡ true → is_in (holes (meant line).left) n ≡ true
  right_in_left n e =
      let l = meant line in
      let whole = formed right line is in
      let rest = (and_parts (fits l.kinds l.left && fits l.kinds l.right) _ whole).1 in
      let behind = (and_parts (traps_at_root l.left && traps_at_root l.right) _ rest).1 in
      let last = (and_parts (same_kind (kind_in l.kinds l.left) (kind_in l.kinds l.right)) _ behind).1 in
      every_at (is_in (holes l.left)) (holes l.right) n (and_parts (draws_by l.left == 0) _ last).1 e

  pub stands_there : (n : ℕ) → has_hole parts n ≡ true → StandsIn operators (at + 1) (get_or place.operands n (0, 0)) (x n)
  stands_there n e =
      operand_found right holes_are context operators line (at + 1) place is found n
      (right_in_left n (ap (λ ns. is_in ns n) (holes_are line.row line.width (formed right line is)).1
      ∙ (hole_in_parts line.width n line.row.right ∙ e)))

  written : (word : ℕ) → pieces_code operators ((by_line line place).pieces word) ≡ code_of x c (word ∷ []) (meant line).right
  written word =
      ap instructions (pieces_are operators (at + 1) place.operands x c (word ∷ []) parts stands_there)
      ∙ (instructions_back (parts_code x c (word ∷ []) parts)
      ∙ sym (codes x c (word ∷ []) (meant line).right
      ∙ ap (parts_code x c (word ∷ [])) (sides is.number line.row is.row_is is.place line.width is.width_is).1))

  keeps : (word : ℕ) → StandsFor context old (code_of x c (word ∷ []) (meant line).right)
  keeps word =
      right.keeps is.number line.row is.row_is is.place (meant line)
      (slice_get-map _ _ is.place ∙ ap (option_map _) is.width_is) context x c (word ∷ []) found.is.applies

  before : place.start ≤ at
  before =
      let some = code_some context x c [] (meant line).left found.is.trees in
      let inside = found.is.ordered in
      elim (cases place.start at) [
        | inl l ↦ l
        | inr e ↦ (
            let same : place.start ≡ at + 1 = omega arith in
            let none = nothing_stands operators (at + 1) old (subst (λ k. Stands operators k (at + 1) old) same found.is.stands) in
            let count = ap length none in
            absurd (omega arith)
            )
      ]

  pub line_change_keeps : KeepsCode context operators at (by_line line place)
  line_change_keeps = record {
    ordered = before;
    old = old;
    stands = found.is.stands;
    within = λ word l. all_within operators (at + 1) place.operands x c (word ∷ []) parts l stands_there;
    keep = λ word. all_keep operators (at + 1) place.operands x c (word ∷ []) parts stands_there;
    same = λ word. subst (λ code. StandsWith context [] old code) (sym (written word))
        (besides.unasked context [] old (code_of x c (word ∷ []) (meant line).right) (keeps word));
  }
