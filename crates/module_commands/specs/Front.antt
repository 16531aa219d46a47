-- What the front of an input tells of it (WebAssembly Core Specification 3.0, Text Format, Modules; Component Model, Binary Format, Preamble).
use Rattle.std.specs.Prelude.{ℕ, Bool, List, [], ◌∷◌, ◌&&◌, ◌||◌, drop, codes}
use Rattle.wasm_sections.specs.Section.{magic}
use Rattle.module_options.specs.Front.{begins_with}

-- a component: the magic number of a module, a version of two bytes, and the layer 1 (a module has the layer 0)
abbrev pub is_component : (bytes : List ℕ) → Bool
is_component bytes = begins_with bytes magic && begins_with (drop 6 bytes) (1 ∷ 0 ∷ [])

-- the text of a module, or of a component
abbrev pub is_text : (bytes : List ℕ) → Bool
is_text bytes = begins_with bytes (codes "(module") || begins_with bytes (codes "(component")
