-- What a line makes is one thing; and what it writes is operators of the body and new ones.
use Rattle.std.proofs.Common.{◌≡◌, ℕ, zero, suc, ◌+◌, inl, Option, List, [], ◌∷◌, drop, sym, ap, subst, ◌∙◌, arith}
use Rattle.std.specs.Prelude.{get_or}
use Rattle.std.specs.List.{All}
use Rattle.std.proofs.lemmas.List.Elements.{All-nil, All-cons}
use Rattle.body_splices.specs.Laws.{AreInstructions}
use Rattle.wasm_execution.specs.Values.{Context}
use Rattle.rewrite_rules.specs.declared.pattern.Part.{Part}
use Rattle.rewrite_rules.specs.declared.pattern.Part.TheVariants.{Hole, Constant, Drawn, Apply}
use Rattle.rewrite_rules.specs.Numbers.{constant_at}
use Rattle.rewrite_rules.specs.Parts.{draws}
use Rattle.rewrite_rules.specs.Table.{parts_for}
use Rattle.body_rewrites.specs.declared.places.Line.{Line}
use Rattle.body_rewrites.specs.declared.places.Place.{Place}
use Rattle.body_rewrites.specs.declared.trees.Tree.{Tree}
use Rattle.body_rewrites.specs.Trees.{AreTrees}
use Rattle.body_rewrites.specs.Cutting.{AreCut}
use Rattle.body_rewrites.specs.Matching.{operand_at}
use Rattle.body_rewrites.specs.Changes.{Change}
use Rattle.body_rewrites.specs.Writing.{piece_for, side_pieces, by_line}
use Rattle.body_rewrites.specs.Places.{IsFoundPlaceOf, left_parts, hole_places_told, place_told}
use Rattle.body_rewrites.specs.Rewrites.{Differ, IsLineChange}
use Rattle.body_rewrites.specs.Differing.{IsKept, IsKeptRange}
use Rattle.body_rewrites.proofs.StandsLemmas.{Operators}
use Rattle.body_rewrites.proofs.AllAlikeLemmas.{operand_has_code}
use Rattle.body_rewrites.proofs.MatchingLemmas.{same_length}
use Rattle.body_rewrites.proofs.OperandLemmas.{operand_told}
use Rattle.body_rewrites.proofs.PlaceLemmas.{one_place_of}

-- ---- one thing

by_one_place : (context : Context) (operators : Operators) (line : Line) (at : ℕ) (place : Place) (change : Change) →
    IsFoundPlaceOf context operators line (at + 1) place → IsLineChange context operators line at change → change ≡ by_line line place
by_one_place context operators line at place change found is =
    is.change_is ∙ ap (by_line line) (one_place_of context operators line (at + 1) is.place place is.is found)

-- where it makes something, that differs from what stands in its place
pub differs_there : (context : Context) (operators : Operators) (line : Line) (at : ℕ) (place : Place) (change : Change) →
    IsFoundPlaceOf context operators line (at + 1) place → IsLineChange context operators line at change →
    Differ operators place.start (at + 1) ((by_line line place).pieces 0)
differs_there context operators line at place change found is =
    subst (λ (c : Change). Differ operators c.start (at + 1) (c.pieces 0)) (by_one_place context operators line at place change found is) is.differs

-- ---- what it writes

pub instructions_there : (context : Context) (operators : Operators) (line : Line) (end : ℕ) (place : Place) →
    IsFoundPlaceOf context operators line end place → AreInstructions operators place.start end
instructions_there context operators line end place found = record { instructions = _; stand = found.is.stands }

module _ (operators : Operators) (trees : List (Option Tree)) (operands : List (ℕ × ℕ)) (c : ℕ → ℕ)
    (kept : (n : ℕ) → IsKeptRange operators trees (get_or operands n (0, 0))) where
  piece_kept : (words : List ℕ) (p : Part) → IsKept operators trees (piece_for operands c words p)
  piece_kept words (Hole n) = kept n
  piece_kept words (Constant t e) = tt
  piece_kept words (Drawn t) = tt
  piece_kept words (Apply o) = tt

  all_kept : (words : List ℕ) (ps : List Part) → All (IsKept operators trees) (side_pieces operands c words ps)
  all_kept words [] = All-nil (IsKept operators trees)
  all_kept words (p ∷ ps) = All-cons (IsKept operators trees) _ _ (piece_kept words p) (all_kept (drop (draws p) words) ps)

module _ (context : Context) (operators : Operators) (trees : List (Option Tree)) (parts : List Part) (starts : List ℕ) (end : ℕ)
    (known : AreTrees context operators trees) (cut : AreCut context operators parts starts end) where
  range_kept : (n : ℕ) → IsKeptRange operators trees (operand_at parts starts end n)
  range_kept n =
      let (l, k, code) = operand_has_code context operators parts starts end (Hole n) cut in
      record { ordered = l; inside = k; told = operand_told context operators trees n parts starts end known cut }

  nothing_kept : IsKeptRange operators trees (0, 0)
  nothing_kept = record {
    ordered = omega arith;
    inside = omega arith;
    told = λ s e l k same. inl (let long = same_length operators (s, e) (0, 0) k (omega arith) same in omega (arith, long, l));
  }

  operand_kept : (n : ℕ) → IsKeptRange operators trees (get_or (hole_places_told parts starts end) n (0, 0))
  operand_kept zero = range_kept 0
  operand_kept (suc zero) = range_kept 1
  operand_kept (suc (suc zero)) = range_kept 2
  operand_kept (suc (suc (suc n))) = nothing_kept

pub line_pieces_kept : (context : Context) (operators : Operators) (trees : List (Option Tree)) (line : Line) (end : ℕ) (place : Place) (word : ℕ) →
    AreTrees context operators trees → IsFoundPlaceOf context operators line end place → All (IsKept operators trees) ((by_line line place).pieces word)
line_pieces_kept context operators trees line end place word known found =
    subst (λ (p : Place). All (IsKept operators trees) ((by_line line p).pieces word)) (sym found.place_is)
    (all_kept operators trees told.operands (constant_at told.numbers)
    (operand_kept context operators trees (left_parts line) found.starts end known found.cut) (word ∷ []) (parts_for line.width line.row.right))
  where
    told : Place
    told = place_told operators (left_parts line) found.starts end
