-- The items are read exactly.
use Rattle.std.proofs.Common.{◌≡◌, ℕ, eqb, Bool, true, false, List, [], ◌∷◌, Option, Some, None, Ok, Err, refl}
use Rattle.wasm_types.specs.declared.types.TypeInfo.TheVariants.{Func, Other}
use Rattle.wasm_types.specs.declared.types.ElementType.TheVariants as elements
use Rattle.wasm_code.specs.declared.fault.Cause.{Cause}
use Rattle.wasm_code.specs.declared.fault.Cause.TheVariants.{Truncated, BadImmediate}
use Rattle.wasm_code.specs.laws.GrammarLemmas.{Reader, Exact, exact_ends, exact_of, exact_then, exact_choose, exact_code, exact_never}
use Rattle.wasm_code.specs.laws.GrammarLemmas.{exact_times, exact_at, byte_exact, bytes_exact}
use Rattle.wasm_code.specs.laws.NumberExact.{unsigned_exact}
use Rattle.wasm_code.specs.laws.ValTypeLemmas.{listed}
use Rattle.wasm_code.specs.Grammar.{IsCode, FailsCode, Then, FailsThen, Times, FailsTimes}
use Rattle.wasm_code.specs.Number.{SpellsUnsigned, FailsUnsigned}
use Rattle.wasm_code.specs.Reader.{◌>>=◌}
use Rattle.wasm_lists.specs.declared.import.Import.TheVariants as imports
use Rattle.wasm_lists.specs.Types.{is_packed, SpellsStorageType, FailsStorageType, SpellsField, FailsField, SpellsSignature, FailsSignature}
use Rattle.wasm_lists.specs.Types.{SpellsCompositeType, FailsCompositeType, is_sub, SpellsSubType, FailsSubType, SpellsTypeGroup}
use Rattle.wasm_lists.specs.Types.{FailsTypeGroup}
use Rattle.wasm_lists.specs.Tables.{flag_code, bounds, is_shared, SpellsLimits, FailsLimits, SpellsMemoryType, FailsMemoryType, SpellsTableType, FailsTableType}
use Rattle.wasm_lists.specs.Globals.{SpellsGlobalType, FailsGlobalType}
use Rattle.wasm_lists.specs.Imports.{SpellsAnyName, FailsName, SpellsExternal, FailsExternal, SpellsImport, FailsImport}
use Rattle.wasm_lists.specs.Locals.{SpellsGroup, FailsGroup}
use Rattle.wasm_lists.specs.ValueReader.{chosen_by_first_at}
use Rattle.wasm_lists.specs.Reader.{storage_type_at, field_at, counted_at, signature_at, composite_type_at, sub_type_at, type_group_at}
use Rattle.wasm_lists.specs.Reader.{flag_of, flag_at, limits_at, memory_type_at, table_type_at, global_type_at, skip_at, name_at}
use Rattle.wasm_lists.specs.Reader.{external_at, import_at, locals_group_at}
use Rattle.wasm_lists.proofs.FirstLemmas.{exact_first}
use Rattle.wasm_lists.proofs.ListLemmas.{list_exact}
use Rattle.wasm_lists.proofs.ValueLemmas.{mark_exact, mutable_exact, reference_type_exact, primitive_exact, no_primitive}

-- ---- types

pub counted_exact : {A : Type 0} {Spells : List ℕ → A → Type 0} {Fails : List ℕ → Cause → Type 0} {at : Reader A} → Exact Spells Fails at →
    Exact (Then (SpellsUnsigned 32) (λ n. Times n Spells)) (FailsThen (FailsUnsigned 32) (SpellsUnsigned 32) (λ n. FailsTimes n Fails Spells))
    (counted_at at)
unfolding counted_at
counted_exact one = exact_then (unsigned_exact 32) (λ n. exact_times one n)

storage_type_exact : Exact SpellsStorageType FailsStorageType storage_type_at
unfolding storage_type_at
storage_type_exact = exact_first is_packed (λ _. exact_ends tt) (exact_of (λ _. tt) primitive_exact) Truncated (rw no_primitive refl)

pub field_exact : Exact SpellsField FailsField field_at
unfolding field_at
field_exact = exact_then storage_type_exact (λ _. exact_of (λ _. tt) mutable_exact)

pub signature_exact : Exact SpellsSignature FailsSignature signature_at
unfolding signature_at
signature_exact =
    exact_then (list_exact primitive_exact) (λ params. exact_of (λ returns. Func (record { params = params; returns = returns })) (list_exact primitive_exact))

pub composite_type_exact : Exact SpellsCompositeType FailsCompositeType composite_type_at
unfolding composite_type_at
composite_type_exact =
    exact_at same (exact_first (λ b. eqb b 0x60) (λ _. signature_exact)
    (exact_first (λ b. eqb b 0x5f) (λ _. exact_of (λ _. Other) (counted_exact field_exact))
    (exact_first (λ b. eqb b 0x5e) (λ _. exact_of (λ _. Other) field_exact) exact_never BadImmediate refl) Truncated refl) Truncated refl)
  where
    same : (bytes : List ℕ) → chosen_by_first_at (λ b. eqb b 0x60) (λ _. signature_at)
        (chosen_by_first_at (λ b. eqb b 0x5f) (λ _ rest. counted_at field_at rest >>= λ x. Ok (Other, x.1))
        (chosen_by_first_at (λ b. eqb b 0x5e) (λ _ rest. field_at rest >>= λ x. Ok (Other, x.1)) (λ _. Err BadImmediate))) bytes
        ≡ composite_type_at bytes
    same [] = refl
    same (b ∷ bytes) = refl

no_composite_type : composite_type_at [] ≡ Err Truncated
unfolding composite_type_at
no_composite_type = refl

pub sub_type_exact : Exact SpellsSubType FailsSubType sub_type_at
unfolding sub_type_at
sub_type_exact =
    exact_first is_sub (λ _. exact_then (counted_exact (unsigned_exact 32)) (λ _. composite_type_exact)) composite_type_exact Truncated no_composite_type

no_sub_type : sub_type_at [] ≡ Err Truncated
unfolding sub_type_at
no_sub_type = refl

pub type_group_exact : Exact SpellsTypeGroup FailsTypeGroup type_group_at
unfolding type_group_at
type_group_exact =
    exact_first (λ b. eqb b 0x4e) (λ _. list_exact sub_type_exact) (exact_of (λ type. type ∷ []) sub_type_exact) Truncated (rw no_sub_type refl)

-- ---- tables and memories

flag_exact : Exact (IsCode flag_code) (FailsCode flag_code) flag_at
unfolding flag_at
flag_exact = exact_code flag_code flag_of named coded
  where
    named : (b : ℕ) (x : Bool × Option Bool) → flag_of b ≡ Some x → flag_code x ≡ b
    named b x e = listed flag_code (eqb b 0) b 0 x (false, None) _ refl refl e
        (λ e. listed flag_code (eqb b 1) b 1 x (false, Some false) _ refl refl e
        (λ e. listed flag_code (eqb b 3) b 3 x (false, Some true) _ refl refl e
        (λ e. listed flag_code (eqb b 4) b 4 x (true, None) _ refl refl e
        (λ e. listed flag_code (eqb b 5) b 5 x (true, Some false) _ refl refl e
        (λ e. listed flag_code (eqb b 7) b 7 x (true, Some true) _ refl refl e (λ e. absurd cc))))))

    coded : (x : Bool × Option Bool) → flag_of (flag_code x) ≡ Some x
    coded (false, None) = refl
    coded (false, Some false) = refl
    coded (false, Some true) = refl
    coded (true, None) = refl
    coded (true, Some false) = refl
    coded (true, Some true) = refl

limits_exact : Exact SpellsLimits FailsLimits limits_at
unfolding limits_at
limits_exact = exact_then flag_exact (λ flag. exact_of (λ _. (flag.0, is_shared flag.1)) (exact_times (unsigned_exact 64) (bounds flag)))

pub memory_type_exact : Exact SpellsMemoryType FailsMemoryType memory_type_at
unfolding memory_type_at
memory_type_exact = exact_of (λ limits. record { memory64 = limits.0; shared = limits.1 }) limits_exact

pub table_type_exact : Exact SpellsTableType FailsTableType table_type_at
unfolding table_type_at
table_type_exact = exact_then reference_type_exact (λ _. exact_of (λ limits. record { element_type = elements.Other; table64 = limits.0 }) limits_exact)

-- ---- globals and imports

pub global_type_exact : Exact SpellsGlobalType FailsGlobalType global_type_at
unfolding global_type_at
global_type_exact = exact_then primitive_exact (λ type. exact_of (λ _. type) mutable_exact)

name_exact : Exact SpellsAnyName FailsName name_at
unfolding name_at skip_at
name_exact = exact_then (unsigned_exact 32) (λ n. exact_of (λ _. tt) (bytes_exact n))

external_exact : Exact SpellsExternal FailsExternal external_at
unfolding external_at
external_exact = exact_then byte_exact (λ b.
    exact_choose (eqb b 0) (exact_of (λ n. imports.Function n) (unsigned_exact 32))
    (exact_choose (eqb b 1) (exact_of (λ t. imports.Table t) table_type_exact)
    (exact_choose (eqb b 2) (exact_of (λ t. imports.Memory t) memory_type_exact)
    (exact_choose (eqb b 3) (exact_of (λ t. imports.Global t) global_type_exact)
    (exact_choose (eqb b 4) (exact_then (mark_exact 0) (λ _. exact_of (λ n. imports.Tag n) (unsigned_exact 32))) exact_never)))))

pub import_exact : Exact SpellsImport FailsImport import_at
unfolding import_at
import_exact = exact_then name_exact (λ _. exact_then name_exact (λ _. external_exact))

pub group_exact : Exact SpellsGroup FailsGroup locals_group_at
unfolding locals_group_at
group_exact = exact_then (unsigned_exact 32) (λ n. exact_of (λ type. (n, type)) primitive_exact)
