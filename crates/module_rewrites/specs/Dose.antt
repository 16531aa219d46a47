-- How many rewrites are wanted of a module (this project).
use Rattle.std.specs.Prelude.{◌≡◌, ℕ, ◌+◌, ◌*◌, ◌/◌, ◌<◌, min, max, List, length, get_or, Option}
use Rattle.std.specs.List.{sum_by}
use Rattle.wasm_code.specs.declared.operator.Operator.{Operator}
use Rattle.wasm_types.specs.Module.{Module}
use Rattle.wasm_types.specs.declared.types.PrimitiveTypeInfo.{PrimitiveTypeInfo}
use Rattle.wasm_module.specs.Module.{Layout, IsModule}
use Rattle.module_rewrites.specs.Attempt.{CanRead}
use Rattle.module_rewrites.specs.Function.{IsFunction}
use Rattle.module_rewrites.specs.Mutated.{IsChosen, IsOfSize}
use Rattle.module_rewrites.specs.declared.attempt.Reason.{Reason}
use Rattle.module_rewrites.specs.declared.attempt.Reason.TheVariants.{NoRule, NoOwnFunction, Unreadable, NoFunction, UnknownImport, Refused}
use Rattle.module_rewrites.specs.declared.dose.Dose.{Dose}
use Rattle.module_rewrites.specs.declared.dose.Dose.TheVariants.{Times, Percent}

-- How many operators the n-th code entry's function has, the last `end` of its body among them, where it may be rewritten and can be read; else none.
pub record HasOperators (only : Option ℕ) (bytes : List ℕ) (info : Module) (layout : Layout) (n own : ℕ) : Type 0 where
  pub read : IsChosen only (layout.imported_functions + n) → (locals : List PrimitiveTypeInfo) (expression : ℕ) (operators : List (Operator × ℕ)) →
      IsFunction bytes info layout n locals expression operators → own ≡ length operators
  pub other : ¬ (IsChosen only (layout.imported_functions + n)) → own ≡ 0
  pub unread : ¬ (CanRead bytes info layout n) → own ≡ 0

-- How many all these functions have: the sum of a number for each code entry.
pub record AreOperators (only : Option ℕ) (bytes : List ℕ) (info : Module) (layout : Layout) (all : ℕ) : Type 0 where
  pub owns : List ℕ
  pub one_each : length owns ≡ length layout.entries
  pub each : (n : ℕ) → n < length layout.entries → HasOperators only bytes info layout n (get_or owns n 0)
  pub sum : all ≡ sum_by (λ own. own) owns

-- The same of the module with these bytes.
pub record AreOperatorsOf (only : Option ℕ) (bytes : List ℕ) (all : ℕ) : Type 0 where
  pub info : Module
  pub layout : Layout
  pub is : IsModule bytes info layout
  pub are : AreOperators only bytes info layout all

-- that percentage of so many, rounded down, but at most the greatest number of 64 bits, and at least one
abbrev pub percentage : (percent all : ℕ) → ℕ
percentage percent all = max (min ((all * percent) / 100) 18446744073709551615) 1

-- The dose is so many rewrites of the module with these bytes, in the function alone that is named, where one is.
abbrev pub IsDoseOf : Dose → (only : Option ℕ) → (bytes : List ℕ) → (count : ℕ) → Type 0
IsDoseOf (Times n) only bytes count = count ≡ n
IsDoseOf (Percent percent) only bytes count = (all : ℕ) × AreOperatorsOf only bytes all × (count ≡ percentage percent all)

-- the number in it
abbrev pub amount : Dose → ℕ
amount (Times n) = n
amount (Percent percent) = percent

-- it is more than none
abbrev pub IsOneOrMore : Dose → Type 0
IsOneOrMore dose = 0 < amount dose

-- Why nothing of a module is rewritten, but not that no rewrite can be made, or fits: the module can't be read, the function that is named isn't there or no
-- function's index is known, or memory is wanting.
abbrev pub IsOfReading : Reason → Type 0
IsOfReading NoRule = ⊥
IsOfReading NoOwnFunction = ⊥
IsOfReading (Unreadable e) = ⊥
IsOfReading (NoFunction function) = Unit {0}
IsOfReading (UnknownImport e) = Unit {0}
IsOfReading (Refused e) = ¬ (IsOfSize e)
