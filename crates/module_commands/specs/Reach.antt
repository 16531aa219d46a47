-- How much of a module rules reach (this project).
use Rattle.std.specs.Prelude.{◌≡◌, ◌⊎◌, ◌&&◌, ℕ, zero, suc, ◌+◌, ◌-◌, ◌^◌, ◌<◌, ◌≤◌, min, Bool, true, false, List, [], ◌∷◌, ◌++◌, length}
use Rattle.std.specs.Prelude.{Option, Some, None, slice_get}
use Rattle.wasm_code.specs.declared.operator.Operator.{Operator}
use Rattle.wasm_types.specs.Module.{Module}
use Rattle.wasm_types.specs.declared.types.PrimitiveTypeInfo.{PrimitiveTypeInfo}
use Rattle.wasm_module.specs.Module.{Layout}
use Rattle.wasm_execution.specs.Values.{Context, context_in}
use Rattle.body_rewrites.specs.Listing.{AreThose}
use Rattle.body_rewrites.specs.Reached.{IsReached}
use Rattle.module_rewrites.specs.Attempt.{CanRead}
use Rattle.module_rewrites.specs.Function.{IsFunction}
use Rattle.module_rewrites.specs.Scope.{Scope, wanted_of}
use Rattle.module_commands.specs.Blocks.{HasNoDelimiter, IsBlock}
use Rattle.module_commands.specs.Families.{family_of}
use Rattle.module_commands.specs.declared.families.Family.{Family}
use Rattle.module_commands.specs.declared.families.Family.TheVariants.{Integers, Floats, Vectors, Accesses}
use Rattle.module_commands.specs.declared.reach.Part.{Part}
use Rattle.module_commands.specs.declared.reach.Reach.{Reach}

-- ---- what is counted

-- the numbers below it, in order
abbrev pub numbers_below : ℕ → List ℕ
numbers_below zero = []
numbers_below (suc n) = numbers_below n ++ n ∷ []

-- Of the numbers below `end`, so many have the property.
pub record Counts (P : ℕ → Type 0) (end count : ℕ) : Type 0 where
  pub those : List ℕ
  pub are : AreThose P (numbers_below end) those
  pub many : count ≡ length those

-- a block ends with the operator there
abbrev pub EndsBlock : List (Operator × ℕ) → (last : ℕ) → Type 0
EndsBlock operators last = (start : ℕ) × IsBlock operators start (last + 1)

-- A block ends with it, and one of the block's operators is reached.
pub record EndsReached (Reached : ℕ → Type 0) (operators : List (Operator × ℕ)) (last : ℕ) : Type 0 where
  pub start : ℕ
  pub block : IsBlock operators start (last + 1)
  pub at : ℕ
  pub from : start ≤ at
  pub to : at ≤ last
  pub reached : Reached at

-- that of an operator with its offset, where there is one
abbrev pub family_in : Option (Operator × ℕ) → Option Family
family_in None = None
family_in (Some o) = family_of o.0

-- an instruction of the family stands there
abbrev pub IsOfFamily : Family → List (Operator × ℕ) → (at : ℕ) → Type 0
IsOfFamily family operators at = family_in (slice_get operators at) ≡ Some family

-- Of the family's instructions below `end` these are how many there are, and how many of them are reached.
pub record CountsFamily (Reached : ℕ → Type 0) (operators : List (Operator × ℕ)) (end : ℕ) (family : Family) (part : Part) : Type 0 where
  pub all : Counts (IsOfFamily family operators) end part.all
  pub within : Counts (λ at. IsOfFamily family operators at × Reached at) end part.within

-- ---- the numbers of a body

-- Of the first `end` operators: how many they are, how many blocks end with one of them, and how many are instructions of each family; and of each how many
-- are reached, a block by one of its operators.
pub record AreCounted (Reached : ℕ → Type 0) (operators : List (Operator × ℕ)) (end : ℕ) (reach : Reach) : Type 0 where
  pub operators_all : reach.operators.all ≡ end
  pub operators_within : Counts Reached end reach.operators.within
  pub blocks_all : Counts (EndsBlock operators) end reach.blocks.all
  pub blocks_within : Counts (EndsReached Reached operators) end reach.blocks.within
  pub integers : CountsFamily Reached operators end Integers reach.integers
  pub floats : CountsFamily Reached operators end Floats reach.floats
  pub vectors : CountsFamily Reached operators end Vectors reach.vectors
  pub accesses : CountsFamily Reached operators end Accesses reach.accesses

-- so it is of all operators of the body, by the rules, where they are to make the module smaller by rewrites that leave no more operators
abbrev pub AreOfBody : Context → Scope → List (Operator × ℕ) → Reach → Type 0
AreOfBody context scope operators reach = AreCounted (IsReached context operators scope.rules (wanted_of scope)) operators (length operators) reach

-- ---- the numbers of a module

-- nothing of one kind is counted
abbrev pub no_part : Part
no_part = record { all = 0; within = 0 }

-- nothing is counted
abbrev pub nothing : Reach
nothing = record { operators = no_part; blocks = no_part; integers = no_part; floats = no_part; vectors = no_part; accesses = no_part }

-- two counts of one thing, together
abbrev pub part_sum : Part → Part → Part
part_sum p q = record { all = p.all + q.all; within = p.within + q.within }

-- the numbers of two sets of functions, together
abbrev pub sum_of : Reach → Reach → Reach
sum_of r s = record {
  operators = part_sum r.operators s.operators;
  blocks = part_sum r.blocks s.blocks;
  integers = part_sum r.integers s.integers;
  floats = part_sum r.floats s.floats;
  vectors = part_sum r.vectors s.vectors;
  accesses = part_sum r.accesses s.accesses;
}

-- The numbers of the function of the n-th code entry; it counts nothing where it can't be read.
pub record AreOfEntry (scope : Scope) (bytes : List ℕ) (info : Module) (layout : Layout) (n : ℕ) (reach : Reach) : Type 0 where
  pub read : (locals : List PrimitiveTypeInfo) (expression : ℕ) (operators : List (Operator × ℕ)) →
      IsFunction bytes info layout n locals expression operators → AreOfBody (context_in info locals) scope operators reach
  pub unread : ¬ (CanRead bytes info layout n) → reach ≡ nothing

-- the same of the first `count` code entries together
abbrev pub AreOfEntries : Scope → (bytes : List ℕ) → Module → Layout → (count : ℕ) → Reach → Type 0
AreOfEntries scope bytes info layout zero reach = reach ≡ nothing
AreOfEntries scope bytes info layout (suc n) reach =
    (before : Reach) × (own : Reach) × (reach ≡ sum_of before own) × AreOfEntries scope bytes info layout n before
    × AreOfEntry scope bytes info layout n own

-- ---- the numbers as they are told

-- a number as one of 64 bits: the greatest of these in place of a greater one
abbrev pub in_64_bits : ℕ → ℕ
in_64_bits n = min n (2 ^ 64 - 1)

-- the counts of one kind so
abbrev pub part_in_64_bits : Part → Part
part_in_64_bits p = record { all = in_64_bits p.all; within = in_64_bits p.within }

-- the counts of all kinds so
abbrev pub reach_in_64_bits : Reach → Reach
reach_in_64_bits r = record {
  operators = part_in_64_bits r.operators;
  blocks = part_in_64_bits r.blocks;
  integers = part_in_64_bits r.integers;
  floats = part_in_64_bits r.floats;
  vectors = part_in_64_bits r.vectors;
  accesses = part_in_64_bits r.accesses;
}

-- Numbers of which that is so, told as numbers of 64 bits.
pub record ToldReach (Are : Reach → Type 0) (reach : Reach) : Type 0 where
  pub exact : Reach
  pub are : Are exact
  pub as_told : reach ≡ reach_in_64_bits exact

-- The numbers of all functions of the module that can be read.
abbrev pub IsReach : Scope → (bytes : List ℕ) → Module → Layout → Reach → Type 0
IsReach scope bytes info layout reach = ToldReach (AreOfEntries scope bytes info layout (length layout.entries)) reach

-- ---- operator by operator, for private functions

-- what a truth value counts
abbrev pub number_of : Bool → ℕ
number_of false = 0
number_of true = 1

-- one where it is there, and one within where it is reached too
abbrev pub part_of : (there reached : Bool) → Part
part_of there reached = record { all = number_of there; within = number_of (there && reached) }

-- one where it is so, and else none
abbrev pub IsOneIf : Type 0 → ℕ → Type 0
IsOneIf P n = (P × (n ≡ 1)) ⊎ (¬ P × (n ≡ 0))

-- what the operator there counts of the family
pub record CountsFamilyAt (Reached : ℕ → Type 0) (operators : List (Operator × ℕ)) (at : ℕ) (family : Family) (part : Part) : Type 0 where
  pub all : IsOneIf (IsOfFamily family operators at) part.all
  pub within : IsOneIf (IsOfFamily family operators at × Reached at) part.within

-- what the operator there counts
pub record AreCountedAt (Reached : ℕ → Type 0) (operators : List (Operator × ℕ)) (at : ℕ) (reach : Reach) : Type 0 where
  pub operators_all : reach.operators.all ≡ 1
  pub operators_within : IsOneIf (Reached at) reach.operators.within
  pub blocks_all : IsOneIf (EndsBlock operators at) reach.blocks.all
  pub blocks_within : IsOneIf (EndsReached Reached operators at) reach.blocks.within
  pub integers : CountsFamilyAt Reached operators at Integers reach.integers
  pub floats : CountsFamilyAt Reached operators at Floats reach.floats
  pub vectors : CountsFamilyAt Reached operators at Vectors reach.vectors
  pub accesses : CountsFamilyAt Reached operators at Accesses reach.accesses

-- a reached operator stands before `end`, and no delimiter from it on
abbrev pub HoldsReached : (Reached : ℕ → Type 0) → List (Operator × ℕ) → (end : ℕ) → Type 0
HoldsReached Reached operators end = (at : ℕ) × (at < end) × HasNoDelimiter operators at end × Reached at
