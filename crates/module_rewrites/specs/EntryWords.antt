-- Words that name a code entry of a module and choose a rewrite of its function (this project).
use Rattle.std.specs.Prelude.{◌<◌, ◌^◌, ℕ, List, [], ◌∷◌}
use Rattle.rand_core.specs.Stream.{Stream}
use Rattle.wasm_code.specs.declared.operator.Operator.{Operator}
use Rattle.wasm_types.specs.Module.{Module}
use Rattle.wasm_types.specs.declared.types.PrimitiveTypeInfo.{PrimitiveTypeInfo}
use Rattle.wasm_module.specs.Module.{Layout}
use Rattle.wasm_execution.specs.Values.{context_in}
use Rattle.body_rewrites.specs.Choice.{Chooses, after_word}
use Rattle.body_rewrites.specs.HasWords.{BeginsWithWords}
use Rattle.body_rewrites.specs.declared.rewrite.Rewrite.{Rewrite}
use Rattle.module_rewrites.specs.Drawing.{NamesEntry}
use Rattle.module_rewrites.specs.Function.{IsFunction}
use Rattle.module_rewrites.specs.Scope.{Scope, wanted_of}

-- The next word names the n-th code entry, and those behind it choose the rewrite of its function, of those by one of the rules that do what is wanted.
pub record DrawsRewrite (scope : Scope) (bytes : List ℕ) (info : Module) (layout : Layout) (s : Stream) (n : ℕ) (rewrite : Rewrite) : Type 0 where
  pub names : NamesEntry s layout.entries n
  pub locals : List PrimitiveTypeInfo
  pub expression : ℕ
  pub operators : List (Operator × ℕ)
  pub function : IsFunction bytes info layout n locals expression operators
  pub chooses : Chooses (context_in info locals) (after_word s) scope.rules (wanted_of scope) operators rewrite

-- Four words of 64 bits with which every generator that begins with them does so: no attempt comes before that one.
pub record HasEntryWords (scope : Scope) (bytes : List ℕ) (info : Module) (layout : Layout) (n : ℕ) (rewrite : Rewrite) : Type 0 where
  pub byte : ℕ
  pub one : ℕ
  pub two : ℕ
  pub three : ℕ
  pub byte_fits : byte < 2 ^ 64
  pub one_fits : one < 2 ^ 64
  pub two_fits : two < 2 ^ 64
  pub three_fits : three < 2 ^ 64
  pub draw : (stream : Stream) → BeginsWithWords (byte ∷ one ∷ two ∷ three ∷ []) stream → DrawsRewrite scope bytes info layout stream n rewrite
