-- That floats and payloads are ordered by their numbers (this project).
use Rattle.std.proofs.Common.{◌≡◌, ℕ, [], ◌∷◌, refl, ap, ◌∙◌}
use Rattle.std.specs.Ordering.{nat_cmp, ordering_then}
use Rattle.std.specs.declared.cmp.Ordering.{Ordering}
use Rattle.std.specs.declared.cmp.Ordering.TheVariants.{Less, Equal, Greater}
use Rattle.wasm_code.specs.Order.{IsOrderedBy, lexicographic}
use Rattle.wasm_code.specs.laws.OrderLemmas.{in_order}
use Rattle.peephole_payloads.specs.Order.{float_numbers, ref_type_numbers, mem_arg_numbers, mem_arg_lane_numbers, shuffle_numbers}
use Rattle.peephole_payloads.specs.Order.{table_copy_numbers, memory_copy_numbers, table_init_numbers, memory_init_numbers}
use Rattle.peephole_payloads.specs.contracts.float.F32Ord.TheImpl as f32_ord
use Rattle.peephole_payloads.specs.contracts.float.F32PartialOrd.TheImpl as f32_partial_ord
use Rattle.peephole_payloads.specs.contracts.float.F32Ord.TheImpl.Laws.{matches_partial_cmp-law as f32_agrees}
use Rattle.peephole_payloads.specs.contracts.float.F64Ord.TheImpl as f64_ord
use Rattle.peephole_payloads.specs.contracts.float.F64PartialOrd.TheImpl as f64_partial_ord
use Rattle.peephole_payloads.specs.contracts.float.F64Ord.TheImpl.Laws.{matches_partial_cmp-law as f64_agrees}
use Rattle.peephole_payloads.specs.contracts.payload.RefTypeOrd.TheImpl as ref_type_ord
use Rattle.peephole_payloads.specs.contracts.payload.RefTypePartialOrd.TheImpl as ref_type_partial_ord
use Rattle.peephole_payloads.specs.contracts.payload.RefTypeOrd.TheImpl.Laws.{matches_partial_cmp-law as ref_type_agrees}
use Rattle.peephole_payloads.specs.contracts.payload.MemArgOrd.TheImpl as mem_arg_ord
use Rattle.peephole_payloads.specs.contracts.payload.MemArgPartialOrd.TheImpl as mem_arg_partial_ord
use Rattle.peephole_payloads.specs.contracts.payload.MemArgOrd.TheImpl.Laws.{matches_partial_cmp-law as mem_arg_agrees}
use Rattle.peephole_payloads.specs.contracts.payload.MemArgLaneOrd.TheImpl as mem_arg_lane_ord
use Rattle.peephole_payloads.specs.contracts.payload.MemArgLanePartialOrd.TheImpl as mem_arg_lane_partial_ord
use Rattle.peephole_payloads.specs.contracts.payload.MemArgLaneOrd.TheImpl.Laws.{matches_partial_cmp-law as mem_arg_lane_agrees}
use Rattle.peephole_payloads.specs.contracts.payload.ShuffleOrd.TheImpl as shuffle_ord
use Rattle.peephole_payloads.specs.contracts.payload.ShufflePartialOrd.TheImpl as shuffle_partial_ord
use Rattle.peephole_payloads.specs.contracts.payload.ShuffleOrd.TheImpl.Laws.{matches_partial_cmp-law as shuffle_agrees}
use Rattle.peephole_payloads.specs.contracts.payload.TableCopyOrd.TheImpl as table_copy_ord
use Rattle.peephole_payloads.specs.contracts.payload.TableCopyPartialOrd.TheImpl as table_copy_partial_ord
use Rattle.peephole_payloads.specs.contracts.payload.TableCopyOrd.TheImpl.Laws.{matches_partial_cmp-law as table_copy_agrees}
use Rattle.peephole_payloads.specs.contracts.payload.MemoryCopyOrd.TheImpl as memory_copy_ord
use Rattle.peephole_payloads.specs.contracts.payload.MemoryCopyPartialOrd.TheImpl as memory_copy_partial_ord
use Rattle.peephole_payloads.specs.contracts.payload.MemoryCopyOrd.TheImpl.Laws.{matches_partial_cmp-law as memory_copy_agrees}
use Rattle.peephole_payloads.specs.contracts.payload.TableInitOrd.TheImpl as table_init_ord
use Rattle.peephole_payloads.specs.contracts.payload.TableInitPartialOrd.TheImpl as table_init_partial_ord
use Rattle.peephole_payloads.specs.contracts.payload.TableInitOrd.TheImpl.Laws.{matches_partial_cmp-law as table_init_agrees}
use Rattle.peephole_payloads.specs.contracts.payload.MemoryInitOrd.TheImpl as memory_init_ord
use Rattle.peephole_payloads.specs.contracts.payload.MemoryInitPartialOrd.TheImpl as memory_init_partial_ord
use Rattle.peephole_payloads.specs.contracts.payload.MemoryInitOrd.TheImpl.Laws.{matches_partial_cmp-law as memory_init_agrees}
use Rattle.peephole_payloads.specs.declared.payload.RefType.{RefType}
use Rattle.peephole_payloads.specs.declared.payload.RefType.TheVariants as ref

-- ---- one comparison after another

then_nothing : (o : Ordering) → o ≡ ordering_then o Equal
then_nothing Less = refl
then_nothing Equal = refl
then_nothing Greater = refl

then_behind : (o p q : Ordering) → ordering_then (ordering_then o p) q ≡ ordering_then o (ordering_then p q)
then_behind Less p q = refl
then_behind Equal p q = refl
then_behind Greater p q = refl

three_and_one : (o p q r : Ordering) → ordering_then (ordering_then o (ordering_then p q)) r
    ≡ ordering_then o (ordering_then p (ordering_then q (ordering_then r Equal)))
three_and_one o p q r =
    then_behind o (ordering_then p q) r ∙ ap (ordering_then o) (then_behind p q r ∙ ap (λ t. ordering_then p (ordering_then q t)) (then_nothing r))

one : (a b : ℕ) → nat_cmp a b ≡ lexicographic (a ∷ []) (b ∷ [])
one a b = then_nothing (nat_cmp a b)

two : (a b c d : ℕ) → ordering_then (nat_cmp a c) (nat_cmp b d) ≡ lexicographic (a ∷ b ∷ []) (c ∷ d ∷ [])
two a b c d = ap (ordering_then (nat_cmp a c)) (one b d)

-- ---- the orders

pub f32s_in_order : IsOrderedBy float_numbers f32_ord.ghosts.cmp f32_partial_ord.ghosts.partial_cmp
f32s_in_order = in_order f32_agrees one

pub f64s_in_order : IsOrderedBy float_numbers f64_ord.ghosts.cmp f64_partial_ord.ghosts.partial_cmp
f64s_in_order = in_order f64_agrees one

same_ref_order : (t u : RefType) → ref_type_ord.ghosts.cmp t u ≡ lexicographic (ref_type_numbers t) (ref_type_numbers u)
same_ref_order ref.Func ref.Func = refl
same_ref_order ref.Func ref.Extern = refl
same_ref_order ref.Extern ref.Func = refl
same_ref_order ref.Extern ref.Extern = refl

pub ref_types_in_order : IsOrderedBy ref_type_numbers ref_type_ord.ghosts.cmp ref_type_partial_ord.ghosts.partial_cmp
ref_types_in_order = in_order ref_type_agrees same_ref_order

pub mem_args_in_order : IsOrderedBy mem_arg_numbers mem_arg_ord.ghosts.cmp mem_arg_partial_ord.ghosts.partial_cmp
mem_args_in_order = in_order mem_arg_agrees (λ m n. ap (ordering_then (nat_cmp m.static_offset n.static_offset)) (two m.align m.mem n.align n.mem))

pub mem_arg_lanes_in_order : IsOrderedBy mem_arg_lane_numbers mem_arg_lane_ord.ghosts.cmp mem_arg_lane_partial_ord.ghosts.partial_cmp
mem_arg_lanes_in_order = in_order mem_arg_lane_agrees (λ m n. three_and_one (nat_cmp m.memarg.static_offset n.memarg.static_offset)
    (nat_cmp m.memarg.align n.memarg.align) (nat_cmp m.memarg.mem n.memarg.mem) (nat_cmp m.lane n.lane))

pub shuffles_in_order : IsOrderedBy shuffle_numbers shuffle_ord.ghosts.cmp shuffle_partial_ord.ghosts.partial_cmp
shuffles_in_order = in_order shuffle_agrees (λ s t. refl)

pub table_copies_in_order : IsOrderedBy table_copy_numbers table_copy_ord.ghosts.cmp table_copy_partial_ord.ghosts.partial_cmp
table_copies_in_order = in_order table_copy_agrees (λ x y. two x.src x.dst y.src y.dst)

pub memory_copies_in_order : IsOrderedBy memory_copy_numbers memory_copy_ord.ghosts.cmp memory_copy_partial_ord.ghosts.partial_cmp
memory_copies_in_order = in_order memory_copy_agrees (λ x y. two x.src x.dst y.src y.dst)

pub table_inits_in_order : IsOrderedBy table_init_numbers table_init_ord.ghosts.cmp table_init_partial_ord.ghosts.partial_cmp
table_inits_in_order = in_order table_init_agrees (λ x y. two x.table x.segment y.table y.segment)

pub memory_inits_in_order : IsOrderedBy memory_init_numbers memory_init_ord.ghosts.cmp memory_init_partial_ord.ghosts.partial_cmp
memory_inits_in_order = in_order memory_init_agrees (λ x y. two x.memory x.segment y.memory y.segment)
