-- How a node is given back from its payload and the ids of its children (this project): a variant by a maker, which
-- takes both and has no answer where they aren't those of the variant.
use Rattle.std.specs.Prelude.{ℕ, ℤ, List, [], ◌∷◌, Option, Some, None}
use Rattle.wasm_code.specs.declared.immediate.ValType.{ValType}
use Rattle.peephole_payloads.specs.declared.payload.MemArg.{MemArg}
use Rattle.peephole_payloads.specs.declared.payload.MemArgLane.{MemArgLane}
use Rattle.peephole_payloads.specs.declared.payload.MemoryCopy.{MemoryCopy}
use Rattle.peephole_payloads.specs.declared.payload.MemoryInit.{MemoryInit}
use Rattle.peephole_payloads.specs.declared.payload.RefType.{RefType}
use Rattle.peephole_payloads.specs.declared.payload.Shuffle.{Shuffle}
use Rattle.peephole_payloads.specs.declared.payload.TableCopy.{TableCopy}
use Rattle.peephole_payloads.specs.declared.payload.TableInit.{TableInit}
use Rattle.peephole_nodes.specs.declared.id.Id.{Id}
use Rattle.peephole_nodes.specs.declared.payload.Payload.{Payload}
use Rattle.peephole_nodes.specs.declared.payload.Payload.TheVariants as payload

-- ---- by the children

unfoldable pub no_child : {A : Type 0} → A → List Id → Option A
no_child node [] = Some node
no_child node (child ∷ w) = None

unfoldable pub one_child : {A : Type 0} → (Id → A) → List Id → Option A
one_child make [] = None
one_child make (child ∷ w) = Some (make child)

unfoldable pub several : {A : Type 0} → (List Id → A) → List Id → Option A
several make w = Some (make w)

-- a place without a node
unfoldable pub no_node : {A : Type 0} → List Id → Option A
no_node w = None

-- ---- by the payload

unfoldable pub plain : {A : Type 0} → (List Id → Option A) → Payload → List Id → Option A
plain make p w = make w

unfoldable pub of_index : {A : Type 0} → (ℕ → List Id → Option A) → Payload → List Id → Option A
of_index make (payload.Index p) w = make p w
of_index make _ w = None

unfoldable pub of_lane : {A : Type 0} → (ℕ → List Id → Option A) → Payload → List Id → Option A
of_lane make (payload.Lane p) w = make p w
of_lane make _ w = None

unfoldable pub of_i32 : {A : Type 0} → (ℤ → List Id → Option A) → Payload → List Id → Option A
of_i32 make (payload.I32 p) w = make p w
of_i32 make _ w = None

unfoldable pub of_i64 : {A : Type 0} → (ℤ → List Id → Option A) → Payload → List Id → Option A
of_i64 make (payload.I64 p) w = make p w
of_i64 make _ w = None

unfoldable pub of_f32 : {A : Type 0} → (ℕ → List Id → Option A) → Payload → List Id → Option A
of_f32 make (payload.F32 p) w = make p w
of_f32 make _ w = None

unfoldable pub of_f64 : {A : Type 0} → (ℕ → List Id → Option A) → Payload → List Id → Option A
of_f64 make (payload.F64 p) w = make p w
of_f64 make _ w = None

unfoldable pub of_v128 : {A : Type 0} → (ℤ → List Id → Option A) → Payload → List Id → Option A
of_v128 make (payload.V128 p) w = make p w
of_v128 make _ w = None

unfoldable pub of_memory : {A : Type 0} → (MemArg → List Id → Option A) → Payload → List Id → Option A
of_memory make (payload.Memory p) w = make p w
of_memory make _ w = None

unfoldable pub of_memory_lane : {A : Type 0} → (MemArgLane → List Id → Option A) → Payload → List Id → Option A
of_memory_lane make (payload.MemoryLane p) w = make p w
of_memory_lane make _ w = None

unfoldable pub of_shuffle : {A : Type 0} → (Shuffle → List Id → Option A) → Payload → List Id → Option A
of_shuffle make (payload.Shuffle p) w = make p w
of_shuffle make _ w = None

unfoldable pub of_ref : {A : Type 0} → (RefType → List Id → Option A) → Payload → List Id → Option A
of_ref make (payload.Ref p) w = make p w
of_ref make _ w = None

unfoldable pub of_value : {A : Type 0} → (ValType → List Id → Option A) → Payload → List Id → Option A
of_value make (payload.Value p) w = make p w
of_value make _ w = None

unfoldable pub of_memory_init : {A : Type 0} → (MemoryInit → List Id → Option A) → Payload → List Id → Option A
of_memory_init make (payload.MemoryInit p) w = make p w
of_memory_init make _ w = None

unfoldable pub of_memory_copy : {A : Type 0} → (MemoryCopy → List Id → Option A) → Payload → List Id → Option A
of_memory_copy make (payload.MemoryCopy p) w = make p w
of_memory_copy make _ w = None

unfoldable pub of_table_init : {A : Type 0} → (TableInit → List Id → Option A) → Payload → List Id → Option A
of_table_init make (payload.TableInit p) w = make p w
of_table_init make _ w = None

unfoldable pub of_table_copy : {A : Type 0} → (TableCopy → List Id → Option A) → Payload → List Id → Option A
of_table_copy make (payload.TableCopy p) w = make p w
of_table_copy make _ w = None

-- ---- by the maker of the place, where it has one

unfoldable pub made : {A : Type 0} → Option (List Id → Option A) → List Id → Option A
made None w = None
made (Some make) w = make w

unfoldable pub made_with : {A : Type 0} → Option (Payload → List Id → Option A) → Payload → List Id → Option A
made_with None p w = None
made_with (Some make) p w = make p w
