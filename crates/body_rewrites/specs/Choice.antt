-- Which rewrite of a body is chosen by three words of the generator: the first one names what becomes of the number of operators, the second one a rule that
-- has a rewrite that does that, the third one the rewrite (this project).
use Rattle.std.specs.Prelude.{◌≡◌, ◌⊎◌, ◌%◌, ℕ, List, [], ◌∷◌, length, Some, Contains, slice_get}
use Rattle.rand_core.specs.Stream.{Stream, next_u64}
use Rattle.wasm_code.specs.declared.operator.Operator.{Operator}
use Rattle.wasm_execution.specs.Values.{Context}
use Rattle.rewrite_rules.specs.declared.rule.Rule.{Rule}
use Rattle.body_rewrites.specs.declared.growth.Growth.{Growth}
use Rattle.body_rewrites.specs.declared.growth.Growth.TheVariants.{Shrinks, Keeps, Grows}
use Rattle.body_rewrites.specs.declared.rewrite.Rewrite.{Rewrite}
use Rattle.body_rewrites.specs.Rewrites.{asked_below}
use Rattle.body_rewrites.specs.Listing.{AreThose, IsOfRule, HasGrowth}

-- ---- one of some items, by a word

-- the stream behind the next word
abbrev pub after_word : Stream → Stream
after_word stream = (next_u64 stream).1

-- The next word names this one of the items with the property: the one with the number that is the word modulo how many they are, from 0 on.
pub record Draws {A : Type 0} (stream : Stream) (P : A → Type 0) (items : List A) (x : A) : Type 0 where
  pub those : List A
  pub are : AreThose P items those
  pub is : slice_get those ((next_u64 stream).0 % length those) ≡ Some x

-- ---- a rewrite

-- all that may become of the number of operators
abbrev pub growths : List Growth
growths = Shrinks ∷ Keeps ∷ Grows ∷ []

-- the rewrite is by the rule, and makes something that does that to the number of operators
abbrev pub IsOf : Context → List (Operator × ℕ) → Growth → Rule → Rewrite → Type 0
IsOf context operators growth rule r = HasGrowth context operators growth r × IsOfRule rule r.row

-- the rule has such a rewrite somewhere in the body
abbrev pub IsOpen : Context → List (Operator × ℕ) → Growth → Rule → Type 0
IsOpen context operators growth rule = (r : Rewrite) × Contains (asked_below (length operators)) r × IsOf context operators growth rule r

-- one of the rules has
abbrev pub HasOpen : Context → List (Operator × ℕ) → List Rule → Growth → Type 0
HasOpen context operators rules growth = (rule : Rule) × Contains rules rule × IsOpen context operators growth rule

-- Of what rewrites of the body by one of the rules do to the number of operators, one of the wanted ones is drawn, each as likely as any other; of the rules
-- that have a rewrite that does that one is drawn, and of that rule's rewrites that do one.
pub record Chooses (context : Context) (stream : Stream) (rules : List Rule) (wanted : List Growth) (operators : List (Operator × ℕ)) (r : Rewrite) :
    Type 0 where
  pub growth : Growth
  pub rule : Rule
  pub draws_growth : Draws stream (HasOpen context operators rules) wanted growth
  pub draws_rule : Draws (after_word stream) (IsOpen context operators growth) rules rule
  pub draws_rewrite : Draws (after_word (after_word stream)) (IsOf context operators growth rule) (asked_below (length operators)) r

-- the stream behind those three words
abbrev pub after_choice : Stream → Stream
after_choice stream = after_word (after_word (after_word stream))

-- where the generator may stand when memory was refused: before, behind one word, or behind all three
abbrev pub IsBegun : (old new : Stream) → Type 0
IsBegun old new = (new ≡ old) ⊎ (new ≡ after_word old) ⊎ (new ≡ after_choice old)
