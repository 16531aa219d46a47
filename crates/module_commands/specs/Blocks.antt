-- The lines that `--blocks` writes (this project).
use Rattle.std.specs.Prelude.{◌≡◌, ℕ, ◌+◌, ◌^◌, ◌<◌, ◌≤◌, Bool, false, List, [], length, slice_get, Option, Some, None, option_map}
use Rattle.wasm_code.specs.Operator.{is_delimiter}
use Rattle.wasm_code.specs.declared.operator.Operator.{Operator}
use Rattle.wasm_types.specs.Module.{Module}
use Rattle.wasm_types.specs.declared.types.PrimitiveTypeInfo.{PrimitiveTypeInfo}
use Rattle.wasm_sections.specs.declared.fault.ModuleError.{ModuleError}
use Rattle.wasm_module.specs.Module.{Layout}
use Rattle.module_rewrites.specs.Attempt.{CanRead, IsKnownFunctionFault}
use Rattle.module_rewrites.specs.Function.{IsFunction}
use Rattle.module_rewrites.specs.declared.function.FunctionError.{FunctionError}
use Rattle.module_commands.specs.Lines.{block_line_in_form, entry_line, function_line}
use Rattle.module_commands.specs.Lists.{InTurn, WritesOfFunctions}
use Rattle.module_options.specs.declared.form.Form.{Form}

-- ---- delimiters

-- whether it is one, where there is an operator
abbrev pub is_delimiter_of : Option (Operator × ℕ) → Bool
is_delimiter_of None = false
is_delimiter_of (Some o) = is_delimiter o.0

-- whether there is an operator with the index, and it is a delimiter
abbrev pub delimits : List (Operator × ℕ) → ℕ → Bool
delimits operators n = is_delimiter_of (slice_get operators n)

-- none of the operators of the range is a delimiter
abbrev pub HasNoDelimiter : List (Operator × ℕ) → (start end : ℕ) → Type 0
HasNoDelimiter operators start end = (k : ℕ) (o : Operator × ℕ) → start ≤ k → k < end → slice_get operators k ≡ Some o → is_delimiter o.0 ≡ false

-- ---- the blocks of a function

-- A range of a body's operators, one at least, none of which is a delimiter; the one at `end` is no longer of it.
pub record IsBlockRangeIn (operators : List (Operator × ℕ)) (start end : ℕ) : Type 0 where
  pub some : start < end
  pub inside : end ≤ length operators
  pub none : HasNoDelimiter operators start end

-- A block: the longest such range.
pub record IsBlock (operators : List (Operator × ℕ)) (start end : ℕ) : Type 0 where
  pub range : IsBlockRangeIn operators start end
  pub longest : (from to : ℕ) → from ≤ start → end ≤ to → IsBlockRangeIn operators from to → (from ≡ start) × (to ≡ end)

-- The text is the line of the block whose last operator is the n-th of the function with the index; none where no block ends there.
pub record TellsBlock (form : Form) (function : ℕ) (operators : List (Operator × ℕ)) (n : ℕ) (text : List ℕ) : Type 0 where
  pub block : (start : ℕ) → IsBlock operators start (n + 1) →
      text ≡ block_line_in_form form (record { function = function; start = start; end = n + 1 })
  pub none : ((start : ℕ) → ¬ (IsBlock operators start (n + 1))) → text ≡ []

-- ---- a function that can't be read

-- The text is the line of that error of the n-th code entry: under the function's index, or where an import isn't known, and so no index is, under the
-- entry's number. (An index has 64 bits.)
pub record TellsFault (form : Form) (layout : Layout) (n : ℕ) (error : FunctionError) (text : List ℕ) : Type 0 where
  pub start : ℕ
  pub at : option_map (λ e. e.start) (slice_get layout.entries n) ≡ Some start
  pub known : layout.unknown.imports ≡ None → layout.imported_functions + n < 2 ^ 64 →
      text ≡ function_line form (layout.imported_functions + n) start error
  pub unknown : (e : ModuleError) → layout.unknown.imports ≡ Some e → text ≡ entry_line form n start error

-- the same of its first fault, which is never that memory was wanting
abbrev pub TellsUnread : Form → (bytes : List ℕ) → Module → Layout → (n : ℕ) → (text : List ℕ) → Type 0
TellsUnread form bytes info layout n text = (error : FunctionError) × IsKnownFunctionFault bytes info layout n error × TellsFault form layout n error text

-- ---- the blocks of a module

-- The text is a line for each block of the function of the n-th code entry, in order; or where that can't be read, the line of its first fault.
pub record TellsBlocks (form : Form) (bytes : List ℕ) (info : Module) (layout : Layout) (n : ℕ) (text : List ℕ) : Type 0 where
  pub read : (locals : List PrimitiveTypeInfo) (expression : ℕ) (operators : List (Operator × ℕ)) → IsFunction bytes info layout n locals expression operators →
      layout.imported_functions + n < 2 ^ 64 → InTurn (TellsBlock form (layout.imported_functions + n) operators) 0 (length operators) text
  pub unread : ¬ (CanRead bytes info layout n) → TellsUnread form bytes info layout n text

-- A device has grown by the lines of the functions that are looked at.
abbrev pub WritesBlocks : Form → (only : Option ℕ) → (bytes : List ℕ) → (old new : Option (List ℕ)) → Type 0
WritesBlocks form only bytes old new = WritesOfFunctions (TellsBlocks form bytes) only bytes old new
