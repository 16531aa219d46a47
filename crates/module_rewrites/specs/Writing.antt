-- A code entry as words of the generator rewrite it, and whether there is a module with it that is small enough (this project).
use Rattle.std.specs.Prelude.{◌≡◌, ◌⊎◌, ℕ, ◌<◌, true, List, [], ◌++◌, length, slice_range}
use Rattle.rand_core.specs.Stream.{Stream}
use Rattle.wasm_code.specs.declared.operator.Operator.{Operator}
use Rattle.wasm_types.specs.Module.{Module}
use Rattle.wasm_types.specs.declared.types.PrimitiveTypeInfo.{PrimitiveTypeInfo}
use Rattle.wasm_module.specs.Module.{Layout}
use Rattle.wasm_module.specs.Limits.{IsTooLarge}
use Rattle.wasm_module.specs.Rewritten.{IsRewritten}
use Rattle.wasm_execution.specs.Values.{context_in}
use Rattle.body_rewrites.specs.declared.rewrite.Rewrite.{Rewrite}
use Rattle.body_rewrites.specs.Random.{AppendsByWords}
use Rattle.module_rewrites.specs.Function.{IsFunction}
use Rattle.module_rewrites.specs.Scope.{Scope, wanted_of}
use Rattle.module_rewrites.specs.Size.{IsSmallEnough, IsSmaller}

-- By these words the n-th code entry contains its locals as they stood, and its body with the rewrite that they choose, of those by one of the rules that
-- do what is wanted to the number of operators; it asks for more globals of these types. `after` is what the generator gives behind the words.
pub record WritesAt (scope : Scope) (bytes : List ℕ) (info : Module) (layout : Layout) (s : Stream) (n : ℕ) (rewrite : Rewrite) (contents : List ℕ)
    (more : List PrimitiveTypeInfo) (after : Stream) : Type 0 where
  pub locals : List PrimitiveTypeInfo
  pub expression : ℕ
  pub operators : List (Operator × ℕ)
  pub function : IsFunction bytes info layout n locals expression operators
  pub body : List ℕ
  pub writes : AppendsByWords (context_in info locals) s scope.rules (wanted_of scope) bytes operators rewrite [] body more after
  pub contents_are : contents ≡ slice_range bytes function.entry.contents expression ++ body

-- The new bytes are the module with that, and small enough.
pub record MakesAt (scope : Scope) (bytes : List ℕ) (info : Module) (layout : Layout) (s : Stream) (n : ℕ) (rewrite : Rewrite) (new : List ℕ)
    (after : Stream) : Type 0 where
  pub contents : List ℕ
  pub more : List PrimitiveTypeInfo
  pub writes : WritesAt scope bytes info layout s n rewrite contents more after
  pub made : IsRewritten bytes layout n contents more new
  pub fits : IsSmallEnough scope bytes new

-- the module with that has more bytes than it may, and is smaller where it is to be made so
pub record Exceeds (scope : Scope) (bytes : List ℕ) (layout : Layout) (n : ℕ) (contents : List ℕ) (more : List PrimitiveTypeInfo) : Type 0 where
  pub new : List ℕ
  pub is : IsRewritten bytes layout n contents more new
  pub long : scope.most < length new
  pub smaller : scope.shrinking ≡ true → IsSmaller new bytes

-- the module with that is no smaller than the old one
pub record IsNoSmaller (bytes : List ℕ) (layout : Layout) (n : ℕ) (contents : List ℕ) (more : List PrimitiveTypeInfo) : Type 0 where
  pub new : List ℕ
  pub is : IsRewritten bytes layout n contents more new
  pub not : ¬ (IsSmaller new bytes)

-- 32 bits don't hold a size or a number of the module with that, it has more bytes than it may, or it is to be smaller and is not.
pub record DoesNotFit (scope : Scope) (bytes : List ℕ) (info : Module) (layout : Layout) (s : Stream) (n : ℕ) (after : Stream) : Type 0 where
  pub rewrite : Rewrite
  pub contents : List ℕ
  pub more : List PrimitiveTypeInfo
  pub writes : WritesAt scope bytes info layout s n rewrite contents more after
  pub large : IsTooLarge bytes layout n contents more ⊎ Exceeds scope bytes layout n contents more
      ⊎ ((scope.shrinking ≡ true) × IsNoSmaller bytes layout n contents more)

-- Some words write the n-th code entry of the module such that this holds of what it contains and the globals that it asks for.
pub record EntryIsWritten (scope : Scope) (bytes : List ℕ) (info : Module) (layout : Layout) (n : ℕ)
    (P : (contents : List ℕ) → (more : List PrimitiveTypeInfo) → Type 0) : Type 0 where
  pub s : Stream
  pub rewrite : Rewrite
  pub contents : List ℕ
  pub more : List PrimitiveTypeInfo
  pub after : Stream
  pub writes : WritesAt scope bytes info layout s n rewrite contents more after
  pub holds : P contents more
