-- What becomes of a number of operators.
use Rattle.std.proofs.Common.{◌≡◌, ℕ, zero, suc, ◌+◌, ◌-◌, ◌<◌, List, [], ◌∷◌, length, drop, refl, sym, ap, ◌∙◌, arith, length-append}
use Rattle.std.specs.Prelude.{◌==◌, if◌then◌else◌, get_or, slice_range}
use Rattle.std.proofs.lemmas.Bool.{lt-ltb, le-ltb, eq-eqb, ne_eqb}
use Rattle.body_splices.specs.OwnBytes.{without_offsets}
use Rattle.body_splices.specs.Laws.{pieces_operators}
use Rattle.wasm_execution.specs.Values.{Context}
use Rattle.rewrite_rules.specs.declared.pattern.Part.{Part}
use Rattle.rewrite_rules.specs.declared.pattern.Part.TheVariants.{Hole, Constant, Drawn, Apply}
use Rattle.rewrite_rules.specs.Numbers.{constant_at}
use Rattle.rewrite_rules.specs.Parts.{draws}
use Rattle.rewrite_rules.specs.Table.{parts_for}
use Rattle.body_rewrites.specs.declared.growth.Growth.{Growth}
use Rattle.body_rewrites.specs.declared.growth.Growth.TheVariants.{Shrinks, Keeps, Grows}
use Rattle.body_rewrites.specs.declared.places.Line.{Line}
use Rattle.body_rewrites.specs.declared.places.Place.{Place}
use Rattle.body_rewrites.specs.LineMaking.{LineChangeGrows}
use Rattle.body_rewrites.specs.Places.{IsFoundPlaceOf}
use Rattle.body_rewrites.specs.Rewrites.{growth_by_sizes, Differ}
use Rattle.body_rewrites.specs.Writing.{side_pieces, part_count, parts_count, by_line}
use Rattle.body_rewrites.proofs.StandsLemmas.{Operators}
use Rattle.body_rewrites.proofs.MatchingLemmas.{length_in}

-- ---- numbers

pub shrinks : (old new : ℕ) → new < old → Shrinks ≡ growth_by_sizes old new
shrinks old new l = sym (ap (λ b. if b then Shrinks else (if new == old then Keeps else Grows)) (lt-ltb new old l))

pub keeps : (old new : ℕ) → new ≡ old → Keeps ≡ growth_by_sizes old new
keeps old new e =
    sym (ap (λ b. if b then Shrinks else (if new == old then Keeps else Grows)) (le-ltb new old (omega (arith, e)))
    ∙ ap (λ b. if b then Keeps else Grows) (eq-eqb new old e))

pub grows : (old new : ℕ) → old < new → Grows ≡ growth_by_sizes old new
grows old new l =
    sym (ap (λ b. if b then Shrinks else (if new == old then Keeps else Grows)) (le-ltb new old (omega (arith, l)))
    ∙ ap (λ b. if b then Keeps else Grows) (ne_eqb new old (λ e. absurd (omega (arith, l, e)))))

-- as many are left as are not stood for
pub rest_is : (old left parts : ℕ) → parts + left ≡ old + 0 → growth_by_sizes left 0 ≡ growth_by_sizes old parts
rest_is old zero parts e = sym (keeps zero 0 refl) ∙ keeps old parts (omega (arith, e))
rest_is old (suc left) parts e = sym (shrinks (suc left) 0 (omega arith)) ∙ shrinks old parts (omega (arith, e))

-- ---- a line's right side

-- how many operators the pieces of some parts are
pub parts_counted : (operators : Operators) (operands : List (ℕ × ℕ)) (c : ℕ → ℕ) (words : List ℕ) (ps : List Part) →
    length (pieces_operators (without_offsets operators) (side_pieces operands c words ps)) ≡ parts_count operators operands ps
parts_counted operators operands c words [] = refl
parts_counted operators operands c words (Hole n ∷ ps) =
    length-append (slice_range (without_offsets operators) (get_or operands n (0, 0)).0 (get_or operands n (0, 0)).1)
    (pieces_operators (without_offsets operators) (side_pieces operands c (drop (draws (Hole n)) words) ps))
    ∙ ap (λ k. part_count operators operands (Hole n) + k) (parts_counted operators operands c (drop (draws (Hole n)) words) ps)
parts_counted operators operands c words (Constant t e ∷ ps) = let rest = parts_counted operators operands c words ps in omega (arith, rest)
parts_counted operators operands c words (Drawn t ∷ ps) = let rest = parts_counted operators operands c (drop 1 words) ps in omega (arith, rest)
parts_counted operators operands c words (Apply f ∷ ps) = let rest = parts_counted operators operands c words ps in omega (arith, rest)

module _ (context : Context) (operators : Operators) (line : Line) (at : ℕ) (place : Place) (found : IsFoundPlaceOf context operators line (at + 1) place) where
  written : length (pieces_operators (without_offsets operators) ((by_line line place).pieces 0))
      ≡ parts_count operators place.operands (parts_for line.width line.row.right)
  written = parts_counted operators place.operands (constant_at place.numbers) (0 ∷ []) (parts_for line.width line.row.right)

  -- something else is written
  pub place_keeps : (kind : Growth) → Differ operators place.start (at + 1) ((by_line line place).pieces 0) →
      kind ≡ growth_by_sizes (at + 1 - place.start) (parts_count operators place.operands (parts_for line.width line.row.right)) →
      LineChangeGrows context operators line at kind
  place_keeps kind differs is = record {
    change = by_line line place;
    makes = record { place = place; is = found; change_is = refl; differs = differs };
    growth_is = ap (growth_by_sizes (at + 1 - place.start)) written ∙ sym is;
  }

  -- so it is where the number is another
  pub place_grows : (kind : Growth) → (kind ≡ Keeps → ⊥) →
      kind ≡ growth_by_sizes (at + 1 - place.start) (parts_count operators place.operands (parts_for line.width line.row.right)) →
      LineChangeGrows context operators line at kind
  place_grows kind other is =
      let inside = found.is.inside in
      place_keeps kind
      (λ same. other (is ∙ sym (keeps (at + 1 - place.start) _ (sym written ∙ (ap length same ∙ length_in operators place.start (at + 1) inside)))))
      is
