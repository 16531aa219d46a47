-- Reading as functions (this project): for proofs.
use Rattle.std.specs.Prelude.{ℕ, if◌then◌else◌, List, Result, Ok, Err}
use Rattle.std.specs.Str.{is_utf8}
use Rattle.wasm_code.specs.declared.fault.Cause.{Cause}
use Rattle.wasm_code.specs.declared.fault.Cause.TheVariants.{BadImmediate}
use Rattle.wasm_code.specs.Reader.{◌>>=◌, byte_at, bytes_at, unsigned_at}

-- so many bytes as the size before them says, and what follows them
unfoldable pub sized_at : List ℕ → Result (List ℕ × List ℕ) Cause
sized_at bytes = unsigned_at 32 bytes >>= λ size. bytes_at size.0 size.1

-- a name; bytes that are no UTF-8 are a bad immediate
unfoldable pub name_text_at : List ℕ → Result (List ℕ × List ℕ) Cause
name_text_at bytes = sized_at bytes >>= λ name. if is_utf8 name.0 then Ok name else Err BadImmediate

-- a subsection: its id, one byte, and its contents, which aren't looked into
unfoldable pub subsection_at : List ℕ → Result ((ℕ × List ℕ) × List ℕ) Cause
subsection_at bytes = byte_at bytes >>= λ id. sized_at id.1 >>= λ contents. Ok ((id.0, contents.0), contents.1)

-- one entry of a name map: the index of a function and its name
unfoldable pub naming_at : List ℕ → Result ((ℕ × List ℕ) × List ℕ) Cause
naming_at bytes = unsigned_at 32 bytes >>= λ index. name_text_at index.1 >>= λ name. Ok ((index.0, name.0), name.1)
