-- The code of a pattern by its parts.
use Rattle.std.proofs.Common.{◌≡◌, ℕ, ◌+◌, List, [], ◌∷◌, ◌++◌, drop, refl, sym, ap, ap₂, ◌∙◌, append_assoc, arith}
use Rattle.std.proofs.lemmas.List.{append-nil, drop-drop}
use Rattle.wasm_code.specs.Instruction.{Instruction}
use Rattle.rewrite_rules.specs.declared.pattern.Part.{Part}
use Rattle.rewrite_rules.specs.Pattern.{Pattern, Patterns, hole, constant, drawn, apply, none, ◌▹◌, draws_by, draws_all}
use Rattle.rewrite_rules.specs.Instance.{operator_code, code_of, codes_of}
use Rattle.rewrite_rules.specs.Parts.{parts_of, parts_in, draws, part_code, parts_code, PartsAreTheCode}

abbrev draws_of : List Part → ℕ
draws_of [] = 0
draws_of (p ∷ ps) = draws p + draws_of ps

draws_append : (ps qs : List Part) → draws_of (ps ++ qs) ≡ draws_of ps + draws_of qs
draws_append [] qs = omega arith
draws_append (p ∷ ps) qs = let e = draws_append ps qs in omega arith

mutual
  drawn_by : (p : Pattern) → draws_of (parts_of p) ≡ draws_by p
  drawn_by (hole n) = refl
  drawn_by (constant t e) = refl
  drawn_by (drawn t) = refl
  drawn_by (apply o ps) = draws_append (parts_in ps) _ ∙ (let e = drawn_all ps in omega arith)

  drawn_all : (ps : Patterns) → draws_of (parts_in ps) ≡ draws_all ps
  drawn_all none = refl
  drawn_all (p ▹ ps) = draws_append (parts_of p) (parts_in ps) ∙ ap₂ (λ a b. a + b) (drawn_by p) (drawn_all ps)

module _ (x : ℕ → List Instruction) (c : ℕ → ℕ) where
  code_append : (ps qs : List Part) (words : List ℕ) →
      parts_code x c words (ps ++ qs) ≡ parts_code x c words ps ++ parts_code x c (drop (draws_of ps) words) qs
  code_append [] qs words = refl
  code_append (p ∷ ps) qs words =
      ap (λ l. part_code x c words p ++ l)
      (code_append ps qs (drop (draws p) words)
      ∙ ap (λ w. parts_code x c (drop (draws p) words) ps ++ parts_code x c w qs) (drop-drop (draws_of ps) (draws p) words))
      ∙ sym (append_assoc (part_code x c words p) (parts_code x c (drop (draws p) words) ps) (parts_code x c (drop (draws p + draws_of ps) words) qs))

  mutual
    whole : (p : Pattern) (words : List ℕ) → code_of x c words p ≡ parts_code x c words (parts_of p)
    whole (hole n) words = sym (append-nil (x n))
    whole (constant t e) words = refl
    whole (drawn t) words = refl
    whole (apply o ps) words = ap (λ l. l ++ operator_code o ∷ []) (each ps words) ∙ sym (code_append (parts_in ps) _ words)

    each : (ps : Patterns) (words : List ℕ) → codes_of x c words ps ≡ parts_code x c words (parts_in ps)
    each none words = refl
    each (p ▹ ps) words =
        ap₂ (λ a b. a ++ b) (whole p words) (each ps (drop (draws_by p) words)
        ∙ ap (λ n. parts_code x c (drop n words) (parts_in ps)) (sym (drawn_by p)))
        ∙ sym (code_append (parts_of p) (parts_in ps) words)

pub parts_are_the_code : PartsAreTheCode
parts_are_the_code x c words p = whole x c p words
