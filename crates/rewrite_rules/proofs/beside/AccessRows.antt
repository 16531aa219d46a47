-- What the two sides of each access that is listed have in common.
use Rattle.std.proofs.Common.{◌≡◌, ℕ, zero, suc, List, [], ◌∷◌, Some, option_map, subst}
use Rattle.std.specs.Prelude.{⊤, slice_get}
use Rattle.rewrite_rules.specs.declared.access.Access.{Access}
use Rattle.rewrite_rules.specs.declared.access.AccessKind.{AccessKind}
use Rattle.rewrite_rules.specs.declared.access.AccessKind.TheVariants.{Load, Store, Constant}
use Rattle.rewrite_rules.specs.declared.access.AccessSide.{AccessSide}
use Rattle.rewrite_rules.specs.declared.access.TheConstants.{ACCESSES}
use Rattle.rewrite_rules.specs.Access.{AccessLine, access_in, access_at}
use Rattle.rewrite_rules.proofs.beside.AccessParts.{i32_load, i64_load, f32_load, f64_load, i32_load16_s, i32_load16_u, i64_load16_s, i64_load16_u}
use Rattle.rewrite_rules.proofs.beside.AccessParts.{i64_load32_s, i64_load32_u, v128_load, v128_load16_splat, v128_load32_splat, v128_load64_splat}
use Rattle.rewrite_rules.proofs.beside.AccessParts.{v128_load32_zero, v128_load64_zero, i32_store, i64_store, f32_store, f64_store, i32_store16, i64_store16}
use Rattle.rewrite_rules.proofs.beside.AccessParts.{i64_store32, v128_store}
use Rattle.rewrite_rules.proofs.beside.AccessPairs.{LoadPair, StorePair, turned_loads, turned_stores, realigned_load, realigned_store, f32_load_by_bits}
use Rattle.rewrite_rules.proofs.beside.AccessPairs.{f64_load_by_bits, i32_load_by_float, i64_load_by_float, f32_store_by_bits, f64_store_by_bits}
use Rattle.rewrite_rules.proofs.beside.AccessPairs.{i32_store_by_float, i64_store_by_float, i64_load8_u_by_i32, i64_load16_u_by_i32, i64_load32_u_by_i32}
use Rattle.rewrite_rules.proofs.beside.AccessPairs.{i64_load8_s_by_i32, i64_load16_s_by_i32, i64_load32_s_by_i32, i64_store8_by_i32, i64_store16_by_i32}
use Rattle.rewrite_rules.proofs.beside.AccessPairs.{i64_store32_by_i32, i32_store8_by_i64, i32_store16_by_i64, i32_store_by_i64, load8_splat_by_i32}
use Rattle.rewrite_rules.proofs.beside.AccessPairs.{load16_splat_by_i32, load32_splat_by_i32, load64_splat_by_i64, load64_zero_by_splat, i32_load8_s_by_u}
use Rattle.rewrite_rules.proofs.beside.AccessPairs.{i32_load16_s_by_u, i64_load8_s_by_u, i64_load16_s_by_u, i64_load32_s_by_u, i32_load8_masked}
use Rattle.rewrite_rules.proofs.beside.AccessPairs.{i32_load16_masked, i64_load8_masked, i64_load16_masked, i64_load32_masked, i32_store8_extended}
use Rattle.rewrite_rules.proofs.beside.AccessPairs.{i32_store16_extended, i64_store8_extended, i64_store16_extended, i64_store32_extended, i32_store8_masked}
use Rattle.rewrite_rules.proofs.beside.AccessPairs.{i32_store16_masked, i64_store8_masked, i64_store16_masked, i64_store32_masked}
use Rattle.rewrite_rules.proofs.beside.ConstantPairs.{ConstantPair, f32_constant_by_bits, f64_constant_by_bits, f32_constant_of_bits, f64_constant_of_bits}
use Rattle.rewrite_rules.proofs.beside.ConstantPairs.{vector_by_others, vector_of_others, i32_constant_of_float, i64_constant_of_float, f32_splat_by_i32}
use Rattle.rewrite_rules.proofs.beside.ConstantPairs.{f64_splat_by_i64}
use Rattle.rewrite_rules.proofs.identities.RowLemmas.{◌▸◌}

-- ---- all of them

abbrev pub Alike : AccessKind → (left right : AccessSide) → Type 0
Alike Load left right = LoadPair left right
Alike Store left right = StorePair left right
Alike Constant left right = ConstantPair left right

abbrev pub AreAlike : Access → Type 0
AreAlike a = Alike a.kind a.left a.right

abbrev AllAlike : List AccessLine → Type 0
AllAlike [] = ⊤
AllAlike (l ∷ ls) = AreAlike (access_in l) × AllAlike ls

all_alike : AllAlike ACCESSES
all_alike =
    f32_load_by_bits
    ▸ f64_load_by_bits
    ▸ turned_loads f32_load_by_bits
    ▸ turned_loads f64_load_by_bits
    ▸ i32_load_by_float
    ▸ i64_load_by_float
    ▸ turned_loads i32_load_by_float
    ▸ turned_loads i64_load_by_float
    ▸ f32_store_by_bits
    ▸ f64_store_by_bits
    ▸ turned_stores f32_store_by_bits
    ▸ turned_stores f64_store_by_bits
    ▸ i32_store_by_float
    ▸ i64_store_by_float
    ▸ turned_stores i32_store_by_float
    ▸ turned_stores i64_store_by_float
    ▸ i64_load8_u_by_i32
    ▸ i64_load16_u_by_i32
    ▸ i64_load32_u_by_i32
    ▸ i64_load8_s_by_i32
    ▸ i64_load16_s_by_i32
    ▸ i64_load32_s_by_i32
    ▸ turned_loads i64_load8_u_by_i32
    ▸ turned_loads i64_load16_u_by_i32
    ▸ turned_loads i64_load32_u_by_i32
    ▸ turned_loads i64_load8_s_by_i32
    ▸ turned_loads i64_load16_s_by_i32
    ▸ turned_loads i64_load32_s_by_i32
    ▸ i64_store8_by_i32
    ▸ i64_store16_by_i32
    ▸ i64_store32_by_i32
    ▸ turned_stores i64_store8_by_i32
    ▸ turned_stores i64_store16_by_i32
    ▸ turned_stores i64_store32_by_i32
    ▸ load8_splat_by_i32
    ▸ load16_splat_by_i32
    ▸ load32_splat_by_i32
    ▸ load64_splat_by_i64
    ▸ turned_loads load8_splat_by_i32
    ▸ turned_loads load16_splat_by_i32
    ▸ turned_loads load32_splat_by_i32
    ▸ turned_loads load64_splat_by_i64
    ▸ i32_load8_s_by_u
    ▸ i32_load16_s_by_u
    ▸ i64_load8_s_by_u
    ▸ i64_load16_s_by_u
    ▸ i64_load32_s_by_u
    ▸ turned_loads i32_load8_s_by_u
    ▸ turned_loads i32_load16_s_by_u
    ▸ turned_loads i64_load8_s_by_u
    ▸ turned_loads i64_load16_s_by_u
    ▸ turned_loads i64_load32_s_by_u
    ▸ i32_load8_masked
    ▸ i32_load16_masked
    ▸ i64_load8_masked
    ▸ i64_load16_masked
    ▸ i64_load32_masked
    ▸ turned_loads i32_load8_masked
    ▸ turned_loads i32_load16_masked
    ▸ turned_loads i64_load8_masked
    ▸ turned_loads i64_load16_masked
    ▸ turned_loads i64_load32_masked
    ▸ i32_store8_extended
    ▸ i32_store16_extended
    ▸ i64_store8_extended
    ▸ i64_store16_extended
    ▸ i64_store32_extended
    ▸ turned_stores i32_store8_extended
    ▸ turned_stores i32_store16_extended
    ▸ turned_stores i64_store8_extended
    ▸ turned_stores i64_store16_extended
    ▸ turned_stores i64_store32_extended
    ▸ i32_store8_masked
    ▸ i32_store16_masked
    ▸ i64_store8_masked
    ▸ i64_store16_masked
    ▸ i64_store32_masked
    ▸ turned_stores i32_store8_masked
    ▸ turned_stores i32_store16_masked
    ▸ turned_stores i64_store8_masked
    ▸ turned_stores i64_store16_masked
    ▸ turned_stores i64_store32_masked
    ▸ realigned_load i32_load
    ▸ realigned_load i64_load
    ▸ realigned_load f32_load
    ▸ realigned_load f64_load
    ▸ realigned_load i32_load16_s
    ▸ realigned_load i32_load16_u
    ▸ realigned_load i64_load16_s
    ▸ realigned_load i64_load16_u
    ▸ realigned_load i64_load32_s
    ▸ realigned_load i64_load32_u
    ▸ realigned_load v128_load
    ▸ realigned_load v128_load16_splat
    ▸ realigned_load v128_load32_splat
    ▸ realigned_load v128_load64_splat
    ▸ realigned_load v128_load32_zero
    ▸ realigned_load v128_load64_zero
    ▸ realigned_store i32_store
    ▸ realigned_store i64_store
    ▸ realigned_store f32_store
    ▸ realigned_store f64_store
    ▸ realigned_store i32_store16
    ▸ realigned_store i64_store16
    ▸ realigned_store i64_store32
    ▸ realigned_store v128_store
    ▸ realigned_load i32_load
    ▸ realigned_load i64_load
    ▸ realigned_load f32_load
    ▸ realigned_load f64_load
    ▸ realigned_load i32_load16_s
    ▸ realigned_load i32_load16_u
    ▸ realigned_load i64_load16_s
    ▸ realigned_load i64_load16_u
    ▸ realigned_load i64_load32_s
    ▸ realigned_load i64_load32_u
    ▸ realigned_load v128_load
    ▸ realigned_load v128_load16_splat
    ▸ realigned_load v128_load32_splat
    ▸ realigned_load v128_load64_splat
    ▸ realigned_load v128_load32_zero
    ▸ realigned_load v128_load64_zero
    ▸ realigned_store i32_store
    ▸ realigned_store i64_store
    ▸ realigned_store f32_store
    ▸ realigned_store f64_store
    ▸ realigned_store i32_store16
    ▸ realigned_store i64_store16
    ▸ realigned_store i64_store32
    ▸ realigned_store v128_store
    ▸ f32_constant_by_bits
    ▸ f64_constant_by_bits
    ▸ f32_constant_of_bits
    ▸ f64_constant_of_bits
    ▸ vector_by_others
    ▸ vector_of_others
    ▸ i32_store8_by_i64
    ▸ i32_store16_by_i64
    ▸ i32_store_by_i64
    ▸ turned_stores i32_store8_by_i64
    ▸ turned_stores i32_store16_by_i64
    ▸ turned_stores i32_store_by_i64
    ▸ load64_zero_by_splat
    ▸ turned_loads load64_zero_by_splat
    ▸ i32_constant_of_float
    ▸ i64_constant_of_float
    ▸ f32_splat_by_i32
    ▸ f64_splat_by_i64
    ▸ tt

pub pair_at : (n : ℕ) (a : Access) → access_at n ≡ Some a → AreAlike a
pair_at = go ACCESSES all_alike
  where
    go : (ls : List AccessLine) → AllAlike ls → (n : ℕ) (a : Access) → option_map access_in (slice_get ls n) ≡ Some a → AreAlike a
    go [] h n a e = absurd cc
    go (l ∷ ls) h zero a e = let is : access_in l ≡ a = cc in subst AreAlike is h.0
    go (l ∷ ls) h (suc n) a e = go ls h.1 n a e
