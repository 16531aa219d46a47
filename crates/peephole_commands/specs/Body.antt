-- A body: the bytes and the operators that they spell (this project's; the reading is that of WebAssembly's binary format, as `wasm_code` has it).
use Rattle.std.specs.Prelude.{ℕ, List, Result, Ok, Err}
use Rattle.wasm_code.specs.declared.operator.Operator.{Operator}
use Rattle.wasm_code.specs.declared.fault.ReadKind.{ReadKind}
use Rattle.wasm_code.specs.Reader.{body_at}

-- a body's bytes, and the operators that they spell, each with its offset
pub record Contents : Type 0 where
  pub bytes : List ℕ
  pub operators : List (Operator × ℕ)

abbrev pub contents_with_operators : List ℕ → Result (List (Operator × ℕ)) (ReadKind × ℕ) → Result Contents ReadKind
contents_with_operators bytes (Ok operators) = Ok (record { bytes = bytes; operators = operators })
contents_with_operators bytes (Err fault) = Err fault.0

-- the body that bytes are, or their first fault
abbrev pub body_of : List ℕ → Result Contents ReadKind
body_of bytes = contents_with_operators bytes (body_at 0 bytes)
