-- What lies in a buffer that C passes by a pointer and a size (this project).
use Rattle.std.specs.Prelude.{ℕ, List}
use Rattle.std.specs.Borrow.{Array, Fml, full_share, u8}
use Rattle.std.specs.Ptr.{Ptr, lies_at}

-- The `size` bytes from the pointer on are these, and may be read and written; so it is not null.
abbrev pub buffer_bytes_at : Ptr → ℕ → List ℕ → Fml
buffer_bytes_at pointer size bytes = lies_at (Array u8 size) full_share pointer bytes
