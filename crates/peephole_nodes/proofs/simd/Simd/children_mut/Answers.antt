-- The variants with one child. The number is the variant's own, counted from 0 in the declaration: what is read off the
-- node at that variant is what the node was made of.
use Rattle.std.proofs.Common.{refl, sym, ap, rules}
use borrow.Enum.Arm.{read_off}
use Rattle.peephole_nodes.specs.contracts.simd.Simd.{enum}
use Rattle.peephole_nodes.specs.Simd.{simd_with_ids, simd_children}
use Rattle.peephole_nodes.proofs.simd.Simd.children_mut.Goals as goal

pub returns-in-V128Load : goal.returns-in-V128Load
unfolding simd_with_ids simd_children
returns-in-V128Load c = (
  (refl, λ w. rw (read_off enum 0 _ _ c.in-V128Load.is) (sym (ap (λ l. simd_with_ids l w) c.in-V128Load.is))),
  record { lends = tt; value = search rules },
)

pub returns-in-V128Load8x8S : goal.returns-in-V128Load8x8S
unfolding simd_with_ids simd_children
returns-in-V128Load8x8S c = (
  (refl, λ w. rw (read_off enum 1 _ _ c.in-V128Load8x8S.is) (sym (ap (λ l. simd_with_ids l w) c.in-V128Load8x8S.is))),
  record { lends = tt; value = search rules },
)

pub returns-in-V128Load8x8U : goal.returns-in-V128Load8x8U
unfolding simd_with_ids simd_children
returns-in-V128Load8x8U c = (
  (refl, λ w. rw (read_off enum 2 _ _ c.in-V128Load8x8U.is) (sym (ap (λ l. simd_with_ids l w) c.in-V128Load8x8U.is))),
  record { lends = tt; value = search rules },
)

pub returns-in-V128Load16x4S : goal.returns-in-V128Load16x4S
unfolding simd_with_ids simd_children
returns-in-V128Load16x4S c = (
  (refl, λ w. rw (read_off enum 3 _ _ c.in-V128Load16x4S.is) (sym (ap (λ l. simd_with_ids l w) c.in-V128Load16x4S.is))),
  record { lends = tt; value = search rules },
)

pub returns-in-V128Load16x4U : goal.returns-in-V128Load16x4U
unfolding simd_with_ids simd_children
returns-in-V128Load16x4U c = (
  (refl, λ w. rw (read_off enum 4 _ _ c.in-V128Load16x4U.is) (sym (ap (λ l. simd_with_ids l w) c.in-V128Load16x4U.is))),
  record { lends = tt; value = search rules },
)

pub returns-in-V128Load32x2S : goal.returns-in-V128Load32x2S
unfolding simd_with_ids simd_children
returns-in-V128Load32x2S c = (
  (refl, λ w. rw (read_off enum 5 _ _ c.in-V128Load32x2S.is) (sym (ap (λ l. simd_with_ids l w) c.in-V128Load32x2S.is))),
  record { lends = tt; value = search rules },
)

pub returns-in-V128Load32x2U : goal.returns-in-V128Load32x2U
unfolding simd_with_ids simd_children
returns-in-V128Load32x2U c = (
  (refl, λ w. rw (read_off enum 6 _ _ c.in-V128Load32x2U.is) (sym (ap (λ l. simd_with_ids l w) c.in-V128Load32x2U.is))),
  record { lends = tt; value = search rules },
)

pub returns-in-V128Load8Splat : goal.returns-in-V128Load8Splat
unfolding simd_with_ids simd_children
returns-in-V128Load8Splat c = (
  (refl, λ w. rw (read_off enum 7 _ _ c.in-V128Load8Splat.is) (sym (ap (λ l. simd_with_ids l w) c.in-V128Load8Splat.is))),
  record { lends = tt; value = search rules },
)

pub returns-in-V128Load16Splat : goal.returns-in-V128Load16Splat
unfolding simd_with_ids simd_children
returns-in-V128Load16Splat c = (
  (refl, λ w. rw (read_off enum 8 _ _ c.in-V128Load16Splat.is) (sym (ap (λ l. simd_with_ids l w) c.in-V128Load16Splat.is))),
  record { lends = tt; value = search rules },
)

pub returns-in-V128Load32Splat : goal.returns-in-V128Load32Splat
unfolding simd_with_ids simd_children
returns-in-V128Load32Splat c = (
  (refl, λ w. rw (read_off enum 9 _ _ c.in-V128Load32Splat.is) (sym (ap (λ l. simd_with_ids l w) c.in-V128Load32Splat.is))),
  record { lends = tt; value = search rules },
)

pub returns-in-V128Load64Splat : goal.returns-in-V128Load64Splat
unfolding simd_with_ids simd_children
returns-in-V128Load64Splat c = (
  (refl, λ w. rw (read_off enum 10 _ _ c.in-V128Load64Splat.is) (sym (ap (λ l. simd_with_ids l w) c.in-V128Load64Splat.is))),
  record { lends = tt; value = search rules },
)

pub returns-in-I8x16ExtractLaneS : goal.returns-in-I8x16ExtractLaneS
unfolding simd_with_ids simd_children
returns-in-I8x16ExtractLaneS c = (
  (refl, λ w. rw (read_off enum 21 _ _ c.in-I8x16ExtractLaneS.is) (sym (ap (λ l. simd_with_ids l w) c.in-I8x16ExtractLaneS.is))),
  record { lends = tt; value = search rules },
)

pub returns-in-I8x16ExtractLaneU : goal.returns-in-I8x16ExtractLaneU
unfolding simd_with_ids simd_children
returns-in-I8x16ExtractLaneU c = (
  (refl, λ w. rw (read_off enum 22 _ _ c.in-I8x16ExtractLaneU.is) (sym (ap (λ l. simd_with_ids l w) c.in-I8x16ExtractLaneU.is))),
  record { lends = tt; value = search rules },
)

pub returns-in-I16x8ExtractLaneS : goal.returns-in-I16x8ExtractLaneS
unfolding simd_with_ids simd_children
returns-in-I16x8ExtractLaneS c = (
  (refl, λ w. rw (read_off enum 24 _ _ c.in-I16x8ExtractLaneS.is) (sym (ap (λ l. simd_with_ids l w) c.in-I16x8ExtractLaneS.is))),
  record { lends = tt; value = search rules },
)

pub returns-in-I16x8ExtractLaneU : goal.returns-in-I16x8ExtractLaneU
unfolding simd_with_ids simd_children
returns-in-I16x8ExtractLaneU c = (
  (refl, λ w. rw (read_off enum 25 _ _ c.in-I16x8ExtractLaneU.is) (sym (ap (λ l. simd_with_ids l w) c.in-I16x8ExtractLaneU.is))),
  record { lends = tt; value = search rules },
)

pub returns-in-I32x4ExtractLane : goal.returns-in-I32x4ExtractLane
unfolding simd_with_ids simd_children
returns-in-I32x4ExtractLane c = (
  (refl, λ w. rw (read_off enum 27 _ _ c.in-I32x4ExtractLane.is) (sym (ap (λ l. simd_with_ids l w) c.in-I32x4ExtractLane.is))),
  record { lends = tt; value = search rules },
)

pub returns-in-I64x2ExtractLane : goal.returns-in-I64x2ExtractLane
unfolding simd_with_ids simd_children
returns-in-I64x2ExtractLane c = (
  (refl, λ w. rw (read_off enum 29 _ _ c.in-I64x2ExtractLane.is) (sym (ap (λ l. simd_with_ids l w) c.in-I64x2ExtractLane.is))),
  record { lends = tt; value = search rules },
)

pub returns-in-F32x4ExtractLane : goal.returns-in-F32x4ExtractLane
unfolding simd_with_ids simd_children
returns-in-F32x4ExtractLane c = (
  (refl, λ w. rw (read_off enum 31 _ _ c.in-F32x4ExtractLane.is) (sym (ap (λ l. simd_with_ids l w) c.in-F32x4ExtractLane.is))),
  record { lends = tt; value = search rules },
)

pub returns-in-F64x2ExtractLane : goal.returns-in-F64x2ExtractLane
unfolding simd_with_ids simd_children
returns-in-F64x2ExtractLane c = (
  (refl, λ w. rw (read_off enum 33 _ _ c.in-F64x2ExtractLane.is) (sym (ap (λ l. simd_with_ids l w) c.in-F64x2ExtractLane.is))),
  record { lends = tt; value = search rules },
)

pub returns-in-V128Load32Zero : goal.returns-in-V128Load32Zero
unfolding simd_with_ids simd_children
returns-in-V128Load32Zero c = (
  (refl, λ w. rw (read_off enum 92 _ _ c.in-V128Load32Zero.is) (sym (ap (λ l. simd_with_ids l w) c.in-V128Load32Zero.is))),
  record { lends = tt; value = search rules },
)

pub returns-in-V128Load64Zero : goal.returns-in-V128Load64Zero
unfolding simd_with_ids simd_children
returns-in-V128Load64Zero c = (
  (refl, λ w. rw (read_off enum 93 _ _ c.in-V128Load64Zero.is) (sym (ap (λ l. simd_with_ids l w) c.in-V128Load64Zero.is))),
  record { lends = tt; value = search rules },
)
