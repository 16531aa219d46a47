-- Which nodes are made of a place, a payload and a number of children: the cases of `make` (this project).
use Rattle.std.specs.Prelude.{ℕ, ◌==◌, ◌||◌, Bool, true, false, if◌then◌else◌}
use Rattle.peephole_nodes.specs.declared.payload.Payload.{Payload}
use Rattle.peephole_nodes.specs.declared.payload.Payload.TheVariants as payload
use Rattle.peephole_lang.specs.LangShapes as lang
use Rattle.peephole_nodes.specs.NumericShapes.{is_numeric_node}
use Rattle.peephole_nodes.specs.SimdShapes.{is_simd, is_simd_plain}

-- the children are a list: those of `container` and `call`
abbrev pub has_list : ℕ → Payload → Bool
has_list place payload.Nothing = place == 11
has_list place (payload.Index _) = place == 13
has_list _ _ = false

abbrev pub is_few : ℕ → ℕ → Bool
is_few place count =
    if count == 3 then place == 15 else
    if count == 1 then lang.is_plain_one place else
    if count == 0 then lang.is_plain_leaf place else false

abbrev pub is_plain_node : ℕ → ℕ → Bool
is_plain_node place count = if place == 11 then true else is_numeric_node place count || (is_simd_plain place count || is_few place count)

abbrev pub is_index : ℕ → ℕ → Bool
is_index place count =
    if place == 13 then true else
    if count == 3 then lang.is_index_three place else
    if count == 2 then lang.is_index_two place else
    if count == 1 then lang.is_index_one place else
    if count == 0 then lang.is_index_leaf place else false

abbrev pub is_memory_node : ℕ → ℕ → Bool
is_memory_node place count = if count == 2 then lang.is_memory_two place else if count == 1 then lang.is_memory_one place else false

-- with a payload that only a node without children has, or only one with three
abbrev pub is_single : ℕ → Payload → ℕ → Bool
is_single place (payload.I32 _) count = if count == 0 then place == 48 else false
is_single place (payload.I64 _) count = if count == 0 then place == 49 else false
is_single place (payload.F32 _) count = if count == 0 then place == 50 else false
is_single place (payload.F64 _) count = if count == 0 then place == 51 else false
is_single place (payload.Ref _) count = if count == 0 then place == 180 else false
is_single place (payload.Value _) count = if count == 3 then place == 457 else false
is_single place (payload.MemoryInit _) count = if count == 3 then place == 191 else false
is_single place (payload.MemoryCopy _) count = if count == 3 then place == 193 else false
is_single place (payload.TableInit _) count = if count == 3 then place == 195 else false
is_single place (payload.TableCopy _) count = if count == 3 then place == 197 else false
is_single _ _ _ = false

-- a node is made of that place, that payload and that many children
abbrev pub is_made : ℕ → Payload → ℕ → Bool
is_made place payload.Nothing count = is_plain_node place count
is_made place (payload.Index _) count = is_index place count
is_made place (payload.Memory m) count = is_simd place (payload.Memory m) count || is_memory_node place count
is_made place (payload.Lane lane) count = is_simd place (payload.Lane lane) count
is_made place (payload.V128 z) count = is_simd place (payload.V128 z) count
is_made place (payload.MemoryLane m) count = is_simd place (payload.MemoryLane m) count
is_made place (payload.Shuffle s) count = is_simd place (payload.Shuffle s) count
is_made place p count = is_single place p count
