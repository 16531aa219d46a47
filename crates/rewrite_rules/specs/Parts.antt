-- A pattern as the list of its parts, in postfix, and its code by them (this project).
use Rattle.std.specs.Prelude.{◌≡◌, ℕ, List, [], ◌∷◌, ◌++◌, drop}
use Rattle.wasm_code.specs.Instruction.{Instruction}
use Rattle.rewrite_rules.specs.declared.pattern.Part.{Part}
use Rattle.rewrite_rules.specs.declared.pattern.Part.TheVariants.{Hole, Constant, Drawn, Apply}
use Rattle.rewrite_rules.specs.Pattern.{Pattern, Patterns, hole, constant, drawn, apply, none, ◌▹◌}
use Rattle.rewrite_rules.specs.Numbers.{number_of, first_word}
use Rattle.rewrite_rules.specs.Instance.{constant_code, operator_code, code_of}

-- the parts, each operator behind its operands
abbrev mutual
  pub parts_of : Pattern → List Part
  parts_of (hole n) = Hole n ∷ []
  parts_of (constant t e) = Constant t e ∷ []
  parts_of (drawn t) = Drawn t ∷ []
  parts_of (apply o ps) = parts_in ps ++ Apply o ∷ []

  pub parts_in : Patterns → List Part
  parts_in none = []
  parts_in (p ▹ ps) = parts_of p ++ parts_in ps

-- how many words a part draws
abbrev pub draws : Part → ℕ
draws (Drawn t) = 1
draws p = 0

-- the code of a part
abbrev pub part_code : (x : ℕ → List Instruction) → (c : ℕ → ℕ) → (words : List ℕ) → Part → List Instruction
part_code x c words (Hole n) = x n
part_code x c words (Constant t e) = constant_code t (number_of t c e) ∷ []
part_code x c words (Drawn t) = constant_code t (first_word words) ∷ []
part_code x c words (Apply o) = operator_code o ∷ []

-- the code of parts, one behind another
abbrev pub parts_code : (x : ℕ → List Instruction) → (c : ℕ → ℕ) → (words : List ℕ) → List Part → List Instruction
parts_code x c words [] = []
parts_code x c words (p ∷ ps) = part_code x c words p ++ parts_code x c (drop (draws p) words) ps

-- The code of a pattern is that of its parts.
abbrev pub PartsAreTheCode : Type 0
PartsAreTheCode = (x : ℕ → List Instruction) (c : ℕ → ℕ) (words : List ℕ) (p : Pattern) → code_of x c words p ≡ parts_code x c words (parts_of p)
