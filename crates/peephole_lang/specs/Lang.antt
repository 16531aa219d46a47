-- A node seen as place, payload and children (this project: a node's place is 12 more than the row of its instruction,
-- and below 12 for a node without one).
use Rattle.std.specs.Prelude.{ℕ, List}
use Rattle.peephole_nodes.specs.declared.id.Id.{Id}
use Rattle.peephole_nodes.specs.declared.payload.Payload.{Payload}
use Rattle.peephole_nodes.specs.declared.payload.Payload.TheVariants as payload
use Rattle.peephole_lang.specs.declared.lang.Lang.{Lang}
use Rattle.peephole_lang.specs.declared.lang.Lang.TheVariants as lang
use Rattle.peephole_nodes.specs.Numeric.{numeric_place_of, numeric_children, numeric_count_of, numeric_with_ids}
use Rattle.peephole_nodes.specs.Simd.{simd_place_of, simd_payload_of, simd_children, simd_count_of, simd_with_ids}
use Rattle.peephole_nodes.specs.View.{View, ids_in, leaf, only, array, growing}

abbrev pub lang_view : Lang → View Lang
lang_view lang.RandI32 = leaf 0 payload.Nothing lang.RandI32
lang_view lang.RandI64 = leaf 1 payload.Nothing lang.RandI64
lang_view lang.RandF32 = leaf 2 payload.Nothing lang.RandF32
lang_view lang.RandF64 = leaf 3 payload.Nothing lang.RandF64
lang_view lang.Undef = leaf 4 payload.Nothing lang.Undef
lang_view (lang.UnfoldI32 child) = only 5 payload.Nothing lang.UnfoldI32 child
lang_view (lang.UnfoldI64 child) = only 6 payload.Nothing lang.UnfoldI64 child
lang_view (lang.I32UseGlobal child) = only 7 payload.Nothing lang.I32UseGlobal child
lang_view (lang.I64UseGlobal child) = only 8 payload.Nothing lang.I64UseGlobal child
lang_view (lang.F32UseGlobal child) = only 9 payload.Nothing lang.F32UseGlobal child
lang_view (lang.F64UseGlobal child) = only 10 payload.Nothing lang.F64UseGlobal child
lang_view (lang.Container v) = growing 11 payload.Nothing lang.Container v
lang_view lang.Nop = leaf 12 payload.Nothing lang.Nop
lang_view (lang.Call p v) = growing 13 (payload.Index p) (lang.Call p) v
lang_view (lang.Drop ids) = array 14 payload.Nothing 1 lang.Drop ids
lang_view (lang.Select ids) = array 15 payload.Nothing 3 lang.Select ids
lang_view (lang.LocalGet p) = leaf 16 (payload.Index p) (lang.LocalGet p)
lang_view (lang.LocalSet p child) = only 17 (payload.Index p) (lang.LocalSet p) child
lang_view (lang.LocalTee p child) = only 18 (payload.Index p) (lang.LocalTee p) child
lang_view (lang.GlobalGet p) = leaf 19 (payload.Index p) (lang.GlobalGet p)
lang_view (lang.GlobalSet p child) = only 20 (payload.Index p) (lang.GlobalSet p) child
lang_view (lang.TableGet p child) = only 21 (payload.Index p) (lang.TableGet p) child
lang_view (lang.TableSet p ids) = array 22 (payload.Index p) 2 (lang.TableSet p) ids
lang_view (lang.I32Load p child) = only 23 (payload.Memory p) (lang.I32Load p) child
lang_view (lang.I64Load p child) = only 24 (payload.Memory p) (lang.I64Load p) child
lang_view (lang.F32Load p child) = only 25 (payload.Memory p) (lang.F32Load p) child
lang_view (lang.F64Load p child) = only 26 (payload.Memory p) (lang.F64Load p) child
lang_view (lang.I32Load8S p child) = only 27 (payload.Memory p) (lang.I32Load8S p) child
lang_view (lang.I32Load8U p child) = only 28 (payload.Memory p) (lang.I32Load8U p) child
lang_view (lang.I32Load16S p child) = only 29 (payload.Memory p) (lang.I32Load16S p) child
lang_view (lang.I32Load16U p child) = only 30 (payload.Memory p) (lang.I32Load16U p) child
lang_view (lang.I64Load8S p child) = only 31 (payload.Memory p) (lang.I64Load8S p) child
lang_view (lang.I64Load8U p child) = only 32 (payload.Memory p) (lang.I64Load8U p) child
lang_view (lang.I64Load16S p child) = only 33 (payload.Memory p) (lang.I64Load16S p) child
lang_view (lang.I64Load16U p child) = only 34 (payload.Memory p) (lang.I64Load16U p) child
lang_view (lang.I64Load32S p child) = only 35 (payload.Memory p) (lang.I64Load32S p) child
lang_view (lang.I64Load32U p child) = only 36 (payload.Memory p) (lang.I64Load32U p) child
lang_view (lang.I32Store p ids) = array 37 (payload.Memory p) 2 (lang.I32Store p) ids
lang_view (lang.I64Store p ids) = array 38 (payload.Memory p) 2 (lang.I64Store p) ids
lang_view (lang.F32Store p ids) = array 39 (payload.Memory p) 2 (lang.F32Store p) ids
lang_view (lang.F64Store p ids) = array 40 (payload.Memory p) 2 (lang.F64Store p) ids
lang_view (lang.I32Store8 p ids) = array 41 (payload.Memory p) 2 (lang.I32Store8 p) ids
lang_view (lang.I32Store16 p ids) = array 42 (payload.Memory p) 2 (lang.I32Store16 p) ids
lang_view (lang.I64Store8 p ids) = array 43 (payload.Memory p) 2 (lang.I64Store8 p) ids
lang_view (lang.I64Store16 p ids) = array 44 (payload.Memory p) 2 (lang.I64Store16 p) ids
lang_view (lang.I64Store32 p ids) = array 45 (payload.Memory p) 2 (lang.I64Store32 p) ids
lang_view (lang.MemorySize p) = leaf 46 (payload.Index p) (lang.MemorySize p)
lang_view (lang.MemoryGrow p child) = only 47 (payload.Index p) (lang.MemoryGrow p) child
lang_view (lang.I32 p) = leaf 48 (payload.I32 p) (lang.I32 p)
lang_view (lang.I64 p) = leaf 49 (payload.I64 p) (lang.I64 p)
lang_view (lang.F32 p) = leaf 50 (payload.F32 p) (lang.F32 p)
lang_view (lang.F64 p) = leaf 51 (payload.F64 p) (lang.F64 p)
lang_view (lang.RefNull p) = leaf 180 (payload.Ref p) (lang.RefNull p)
lang_view (lang.RefIsNull child) = only 181 payload.Nothing lang.RefIsNull child
lang_view (lang.RefFunc p) = leaf 182 (payload.Index p) (lang.RefFunc p)
lang_view (lang.MemoryInit p ids) = array 191 (payload.MemoryInit p) 3 (lang.MemoryInit p) ids
lang_view (lang.DataDrop p) = leaf 192 (payload.Index p) (lang.DataDrop p)
lang_view (lang.MemoryCopy p ids) = array 193 (payload.MemoryCopy p) 3 (lang.MemoryCopy p) ids
lang_view (lang.MemoryFill p ids) = array 194 (payload.Index p) 3 (lang.MemoryFill p) ids
lang_view (lang.TableInit p ids) = array 195 (payload.TableInit p) 3 (lang.TableInit p) ids
lang_view (lang.ElemDrop p) = leaf 196 (payload.Index p) (lang.ElemDrop p)
lang_view (lang.TableCopy p ids) = array 197 (payload.TableCopy p) 3 (lang.TableCopy p) ids
lang_view (lang.TableGrow p ids) = array 198 (payload.Index p) 2 (lang.TableGrow p) ids
lang_view (lang.TableSize p) = leaf 199 (payload.Index p) (lang.TableSize p)
lang_view (lang.TableFill p ids) = array 200 (payload.Index p) 3 (lang.TableFill p) ids
lang_view (lang.TypedSelect p ids) = array 457 (payload.Value p) 3 (lang.TypedSelect p) ids
lang_view (lang.Numeric n) = record {
  place = numeric_place_of n;
  payload = payload.Nothing;
  children = numeric_children n;
  count = numeric_count_of n;
  remade = λ w. lang.Numeric (numeric_with_ids n w);
}
lang_view (lang.Simd s) = record {
  place = simd_place_of s;
  payload = simd_payload_of s;
  children = simd_children s;
  count = simd_count_of s;
  remade = λ w. lang.Simd (simd_with_ids s w);
}

-- the place of its variant in the order of nodes
unfoldable pub place_of : Lang → ℕ
place_of l = (lang_view l).place

-- what it says besides its variant and its children
unfoldable pub payload_of : Lang → Payload
payload_of l = (lang_view l).payload

-- the ids of the children, the first operand first
unfoldable pub ids_of : Lang → List Id
ids_of l = ids_in (lang_view l).children

-- how many children the variant has; those of `container` and `call` are as many as there are
unfoldable pub variant_child_count : Lang → ℕ
variant_child_count l = (lang_view l).count

-- the node with these children in the place of its own
unfoldable pub with_ids : Lang → List Id → Lang
with_ids l w = (lang_view l).remade w
