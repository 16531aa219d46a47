-- That the tests for equal payloads are equality (this project).
use Rattle.std.specs.Prelude.{◌≡◌, ◌==◌, ◌&&◌, ℕ, Bool, true, refl}
use Rattle.std.specs.Bool.{Decides}
use Rattle.std.specs.Cmp.{unsigned_Decides, first_so, second_so}
use Rattle.std.proofs.Common.{true≢false, ap, sym}
use Rattle.std.proofs.lemmas.Slice.Eq.{bytes_eq-Decides}
use Rattle.peephole_payloads.specs.contracts.float.F32PartialEq.TheImpl as f32_eq
use Rattle.peephole_payloads.specs.contracts.float.F64PartialEq.TheImpl as f64_eq
use Rattle.peephole_payloads.specs.contracts.payload.RefTypePartialEq.TheImpl as ref_type_eq
use Rattle.peephole_payloads.specs.contracts.payload.MemArgPartialEq.TheImpl as mem_arg_eq
use Rattle.peephole_payloads.specs.contracts.payload.MemArgLanePartialEq.TheImpl as mem_arg_lane_eq
use Rattle.peephole_payloads.specs.contracts.payload.ShufflePartialEq.TheImpl as shuffle_eq
use Rattle.peephole_payloads.specs.contracts.payload.TableCopyPartialEq.TheImpl as table_copy_eq
use Rattle.peephole_payloads.specs.contracts.payload.MemoryCopyPartialEq.TheImpl as memory_copy_eq
use Rattle.peephole_payloads.specs.contracts.payload.TableInitPartialEq.TheImpl as table_init_eq
use Rattle.peephole_payloads.specs.contracts.payload.MemoryInitPartialEq.TheImpl as memory_init_eq
use Rattle.peephole_payloads.specs.contracts.payload.RefTypeEq.TheImpl.Laws.{laws-law as ref_type_equiv}
use Rattle.peephole_payloads.specs.contracts.payload.MemArgEq.TheImpl.Laws.{laws-law as mem_arg_equiv}
use Rattle.peephole_payloads.specs.contracts.payload.MemArgLaneEq.TheImpl.Laws.{laws-law as mem_arg_lane_equiv}
use Rattle.peephole_payloads.specs.contracts.payload.ShuffleEq.TheImpl.Laws.{laws-law as shuffle_equiv}
use Rattle.peephole_payloads.specs.contracts.payload.TableCopyEq.TheImpl.Laws.{laws-law as table_copy_equiv}
use Rattle.peephole_payloads.specs.contracts.payload.MemoryCopyEq.TheImpl.Laws.{laws-law as memory_copy_equiv}
use Rattle.peephole_payloads.specs.contracts.payload.TableInitEq.TheImpl.Laws.{laws-law as table_init_equiv}
use Rattle.peephole_payloads.specs.contracts.payload.MemoryInitEq.TheImpl.Laws.{laws-law as memory_init_equiv}
use Rattle.peephole_payloads.specs.declared.payload.RefType.{RefType}
use Rattle.peephole_payloads.specs.declared.payload.MemArg.{MemArg}
use Rattle.peephole_payloads.specs.declared.payload.MemArgLane.{MemArgLane}
use Rattle.peephole_payloads.specs.declared.payload.Shuffle.{Shuffle}
use Rattle.peephole_payloads.specs.declared.payload.TableCopy.{TableCopy}
use Rattle.peephole_payloads.specs.declared.payload.MemoryCopy.{MemoryCopy}
use Rattle.peephole_payloads.specs.declared.payload.TableInit.{TableInit}
use Rattle.peephole_payloads.specs.declared.payload.MemoryInit.{MemoryInit}
use Rattle.peephole_payloads.specs.declared.payload.RefType.TheVariants as ref

-- ---- equal numbers

same_number : (n m : ℕ) → (n == m) ≡ true → n ≡ m
same_number n m = (unsigned_Decides n m).0

-- two numbers in order
same_pair : {A : Type 0} (make : ℕ → ℕ → A) (a b c d : ℕ) → ((a == c) && (b == d)) ≡ true → make a b ≡ make c d
same_pair make a b c d e = λ i. make (same_number a c (first_so (a == c) (b == d) e) i) (same_number b d (second_so (a == c) (b == d) e) i)

-- ---- payloads that compare equal are the same

pub same_ref_type : (t u : RefType) → ref_type_eq.ghosts.eq t u ≡ true → t ≡ u
same_ref_type ref.Func ref.Func e = refl
same_ref_type ref.Extern ref.Extern e = refl
same_ref_type _ _ e = absurd (true≢false (sym e))

pub same_mem_arg : (m n : MemArg) → mem_arg_eq.ghosts.eq m n ≡ true → m ≡ n
same_mem_arg m n e =
    let offset : Bool = m.static_offset == n.static_offset in
    let align : Bool = m.align == n.align in
    let memory : Bool = m.mem == n.mem in
    let behind = second_so offset (align && memory) e in
    λ i. record {
      static_offset = same_number m.static_offset n.static_offset (first_so offset (align && memory) e) i;
      align = same_number m.align n.align (first_so align memory behind) i;
      mem = same_number m.mem n.mem (second_so align memory behind) i;
    }

pub same_mem_arg_lane : (m n : MemArgLane) → mem_arg_lane_eq.ghosts.eq m n ≡ true → m ≡ n
same_mem_arg_lane m n e =
    let place : Bool = mem_arg_eq.ghosts.eq m.memarg n.memarg in
    λ i. record {
      memarg = same_mem_arg m.memarg n.memarg (first_so place (m.lane == n.lane) e) i;
      lane = same_number m.lane n.lane (second_so place (m.lane == n.lane) e) i;
    }

pub same_shuffle : (s t : Shuffle) → shuffle_eq.ghosts.eq s t ≡ true → s ≡ t
same_shuffle s t e = ap (λ k. let r : Shuffle = record { indices = k } in r) ((bytes_eq-Decides s.indices t.indices).0 e)

pub same_table_copy : (x y : TableCopy) → table_copy_eq.ghosts.eq x y ≡ true → x ≡ y
same_table_copy x y e = same_pair (λ a b. let r : TableCopy = record { src = a; dst = b } in r) x.src x.dst y.src y.dst e

pub same_memory_copy : (x y : MemoryCopy) → memory_copy_eq.ghosts.eq x y ≡ true → x ≡ y
same_memory_copy x y e = same_pair (λ a b. let r : MemoryCopy = record { src = a; dst = b } in r) x.src x.dst y.src y.dst e

pub same_table_init : (x y : TableInit) → table_init_eq.ghosts.eq x y ≡ true → x ≡ y
same_table_init x y e = same_pair (λ a b. let r : TableInit = record { table = a; segment = b } in r) x.table x.segment y.table y.segment e

pub same_memory_init : (x y : MemoryInit) → memory_init_eq.ghosts.eq x y ≡ true → x ≡ y
same_memory_init x y e = same_pair (λ a b. let r : MemoryInit = record { memory = a; segment = b } in r) x.memory x.segment y.memory y.segment e

-- ---- the tests are true exactly where they are the same

pub f32s_equal : (x y : ℕ) → Decides (f32_eq.ghosts.eq x y) (x ≡ y)
f32s_equal x y = unsigned_Decides x y

pub f64s_equal : (x y : ℕ) → Decides (f64_eq.ghosts.eq x y) (x ≡ y)
f64s_equal x y = unsigned_Decides x y

pub ref_types_equal : (x y : RefType) → Decides (ref_type_eq.ghosts.eq x y) (x ≡ y)
ref_types_equal x y = (same_ref_type x y, λ e. rw e (ref_type_equiv.refl y))

pub mem_args_equal : (x y : MemArg) → Decides (mem_arg_eq.ghosts.eq x y) (x ≡ y)
mem_args_equal x y = (same_mem_arg x y, λ e. rw e (mem_arg_equiv.refl y))

pub mem_arg_lanes_equal : (x y : MemArgLane) → Decides (mem_arg_lane_eq.ghosts.eq x y) (x ≡ y)
mem_arg_lanes_equal x y = (same_mem_arg_lane x y, λ e. rw e (mem_arg_lane_equiv.refl y))

pub shuffles_equal : (x y : Shuffle) → Decides (shuffle_eq.ghosts.eq x y) (x ≡ y)
shuffles_equal x y = (same_shuffle x y, λ e. rw e (shuffle_equiv.refl y))

pub table_copies_equal : (x y : TableCopy) → Decides (table_copy_eq.ghosts.eq x y) (x ≡ y)
table_copies_equal x y = (same_table_copy x y, λ e. rw e (table_copy_equiv.refl y))

pub memory_copies_equal : (x y : MemoryCopy) → Decides (memory_copy_eq.ghosts.eq x y) (x ≡ y)
memory_copies_equal x y = (same_memory_copy x y, λ e. rw e (memory_copy_equiv.refl y))

pub table_inits_equal : (x y : TableInit) → Decides (table_init_eq.ghosts.eq x y) (x ≡ y)
table_inits_equal x y = (same_table_init x y, λ e. rw e (table_init_equiv.refl y))

pub memory_inits_equal : (x y : MemoryInit) → Decides (memory_init_eq.ghosts.eq x y) (x ≡ y)
memory_inits_equal x y = (same_memory_init x y, λ e. rw e (memory_init_equiv.refl y))
