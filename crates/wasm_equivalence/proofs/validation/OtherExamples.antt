-- Functions with other operators: a branch on null, a tail call, and the call of a foreign function by a reference, run and checked by the definitions alone.
use Rattle.std.proofs.Common.{◌≡◌, refl, ℕ, zero, suc, pos, List, [], ◌∷◌, take, Option, Some, ap}
use Rattle.std.specs.List.{All}
use Rattle.std.proofs.lemmas.List.Elements.{All-nil, All-take}
use Rattle.wasm_code.specs.declared.immediate.BlockType.TheVariants as block
use Rattle.wasm_code.specs.declared.immediate.Imm.TheVariants as imm
use Rattle.wasm_code.specs.declared.operator.Operator.{Operator}
use Rattle.wasm_code.specs.declared.operator.Operator.TheVariants as op
use Rattle.wasm_code.specs.declared.other.Other.TheVariants as others
use Rattle.wasm_code.specs.Table.{row_at, table}
use Rattle.wasm_types.specs.Module.{Module, module_of}
use Rattle.wasm_types.specs.declared.types.PrimitiveTypeInfo.{PrimitiveTypeInfo}
use Rattle.wasm_types.specs.declared.types.PrimitiveTypeInfo.TheVariants as primitive
use Rattle.wasm_types.specs.declared.types.TypeInfo.TheVariants.{Func}
use Rattle.wasm_execution.specs.OtherRow.{other_type}
use Rattle.wasm_execution.specs.Values.{foreign_call, asked_types, types, Gives, Value, IsValue, context_in, World, State, Ends}
use Rattle.wasm_execution.specs.IntegerRow.{integer_row}
use Rattle.wasm_equivalence.specs.control.Function.{structural, At, Done, runs}
use Rattle.wasm_equivalence.specs.control.Standard.{Deed, gives, jumps, breaks, enters, returns, Beyond, standard}
use Rattle.wasm_equivalence.specs.validation.Algorithm.{check}
use Rattle.wasm_equivalence.specs.validation.StandardSteps.{body_frame, standard_steps}
use Rattle.wasm_equivalence.specs.validation.Sound.{IsDeed, HasDeeds}
use Rattle.wasm_equivalence.proofs.ExamplePieces.{i32, call, nothing}

-- ---- br_on_null

-- block; local.get 0; br_on_null 0; drop; i32.const 1; return; end; i32.const 0; end
abbrev is_there : List Operator
is_there =
    op.Block block.Empty
    ∷ op.Instr (record { row = 4; imm = imm.Index 0 })
    ∷ op.Other (others.Byte 0xd5)
    ∷ op.Instr (record { row = 2; imm = imm.Nothing })
    ∷ op.Instr (record { row = 36; imm = imm.I32 (pos 1) })
    ∷ op.Return
    ∷ op.End
    ∷ op.Instr (record { row = 36; imm = imm.I32 (pos 0) })
    ∷ op.End ∷ []

-- null has the number 0: the branch is taken without it; any other reference stays
abbrev by_null : ℕ → Value → (rest : ℕ) → Deed
by_null zero v r = jumps 0 [] r
by_null (suc n) v r = gives (v ∷ []) r

abbrev on_null : List Value → (rest : ℕ) → Deed
on_null (v ∷ []) r = by_null v.number v r
on_null vs r = breaks 0 r

abbrev nulls : Beyond
nulls = record nothing {
  takes = λ k. primitive.Empty ∷ [];
  deed = λ k. on_null;
  leaves = λ k. Some (primitive.Empty ∷ []);
  label = λ k. Some (0, []);
}

abbrev reference : ℕ → Value
reference n = record { type = primitive.Empty; number = n }

abbrev holding : World → ℕ → State
holding w n = record { locals = reference n ∷ []; globals = []; rest = 0; world = w }

null_is_not : (m : Module) (w : World) → runs (standard m (primitive.I32 ∷ []) (structural is_there) nulls) is_there 4 (At 0 [] [] (holding w 0)) ≡
    Done (Ends (i32 0 ∷ []) (holding w 0))
unfolding integer_row row_at table
null_is_not m w = refl

other_is : (m : Module) (w : World) → runs (standard m (primitive.I32 ∷ []) (structural is_there) nulls) is_there 3 (At 0 [] [] (holding w 5)) ≡
    Done (Ends (i32 1 ∷ []) (holding w 5))
unfolding integer_row row_at table
other_is m w = refl

is_valid : (m : Module) →
    check (context_in m (primitive.Empty ∷ [])) (standard_steps m (primitive.I32 ∷ []) (structural is_there) nulls) 0 is_there
    (body_frame (primitive.I32 ∷ []) ∷ []) ≡ Some []
unfolding integer_row row_at table
is_valid m = refl

one_deed : (m : Module) (results : List PrimitiveTypeInfo) (k : ℕ) (v : Value) (rest n : ℕ) → All IsValue (v ∷ []) → v.type ≡ primitive.Empty →
    IsDeed m results nulls k (by_null n v rest)
one_deed m results k v rest zero a t = (refl, All-nil IsValue)
one_deed m results k v rest (suc n) a t = (
  ap (λ (u : PrimitiveTypeInfo). let o : Option (List PrimitiveTypeInfo) = Some (u ∷ []) in o) (let s : primitive.Empty ≡ v.type = cc in s),
  a,
)

its_deeds : (m : Module) (results : List PrimitiveTypeInfo) (k : ℕ) (vs : List Value) (rest : ℕ) → types vs ≡ primitive.Empty ∷ [] → All IsValue vs →
    IsDeed m results nulls k (on_null vs rest)
its_deeds m results k [] rest t a = tt
its_deeds m results k (v ∷ []) rest t a = one_deed m results k v rest v.number a (let s : v.type ≡ primitive.Empty = cc in s)
its_deeds m results k (v ∷ u ∷ vs) rest t a = absurd cc

deeds_are : (m : Module) (results : List PrimitiveTypeInfo) (structure : List Operator) → HasDeeds m results structure nulls
deeds_are m results structure = record {
  deeds = λ k o vs rest at part t a. its_deeds m results k vs rest t a;
  caught = λ k mark rest o c at e. absurd cc;
}

-- ---- a tail call

-- one function of an i32 to one
abbrev info : Module
info = record (module_of []) { types = Func (record { params = primitive.I32 ∷ []; returns = primitive.I32 ∷ [] }) ∷ []; functions = 0 ∷ [] }

-- local.get 0; return_call 0; end
abbrev calls_last : List Operator
calls_last = op.Instr (record { row = 4; imm = imm.Index 0 }) ∷ op.Other (others.Byte 0x12) ∷ op.End ∷ []

abbrev tail : Beyond
tail = record nothing { takes = λ k. primitive.I32 ∷ []; deed = λ k vs r. returns (call 0) vs }

tail_valid :
    check (context_in info (primitive.I32 ∷ [])) (standard_steps info (primitive.I32 ∷ []) (structural calls_last) tail) 0 calls_last
    (body_frame (primitive.I32 ∷ []) ∷ []) ≡ Some []
unfolding integer_row row_at table
tail_valid = refl

tail_deeds : (structure : List Operator) → HasDeeds info (primitive.I32 ∷ []) structure tail
unfolding integer_row other_type row_at table
tail_deeds structure = record {
  deeds = λ k o vs rest at part t a. (ap (λ (ts : List PrimitiveTypeInfo). asked_types info (call 0) ts) t, a);
  caught = λ k mark rest o c at e. absurd cc;
}

-- ---- a reference to a foreign function

-- local.get 0; local.get 1; call_ref 0; end
abbrev calls_foreign : List Operator
calls_foreign =
    op.Instr (record { row = 4; imm = imm.Index 0 })
    ∷ op.Instr (record { row = 4; imm = imm.Index 1 })
    ∷ op.Other (others.Byte 0x14)
    ∷ op.End ∷ []

-- the reference's number is the mark of the function
abbrev by_reference : List Value → (rest : ℕ) → Deed
by_reference (v ∷ f ∷ []) r = enters (foreign_call f.number 0) (v ∷ [])
by_reference vs r = breaks 0 r

abbrev marks : Beyond
marks = record nothing {
  takes = λ k. primitive.I32 ∷ primitive.Empty ∷ [];
  deed = λ k. by_reference;
  leaves = λ k. Some (primitive.I32 ∷ []);
}

-- it gives what it takes, and the rest is one more
abbrev counting : World
counting = record { info = info; answer = λ i vs gs r. Gives vs gs (suc r); others = λ i vs gs r more. more }

abbrev two_locals : (rest : ℕ) → State
two_locals r = record { locals = i32 9 ∷ reference 3 ∷ []; globals = []; rest = r; world = counting }

foreign_ends : runs (standard info (primitive.I32 ∷ []) (structural calls_foreign) marks) calls_foreign 1 (At 0 [] [] (two_locals 6)) ≡
    Done (Ends (i32 9 ∷ []) (two_locals 7))
unfolding integer_row other_type row_at table
foreign_ends = refl

foreign_valid :
    check (context_in info (primitive.I32 ∷ primitive.Empty ∷ [])) (standard_steps info (primitive.I32 ∷ []) (structural calls_foreign) marks) 0 calls_foreign
    (body_frame (primitive.I32 ∷ []) ∷ []) ≡ Some []
unfolding integer_row row_at table
foreign_valid = refl

its_call : (results : List PrimitiveTypeInfo) (k : ℕ) (vs : List Value) (rest : ℕ) → types vs ≡ primitive.I32 ∷ primitive.Empty ∷ [] → All IsValue vs →
    IsDeed info results marks k (by_reference vs rest)
unfolding integer_row other_type row_at table
its_call results k [] rest t a = tt
its_call results k (v ∷ []) rest t a = tt
its_call results k (v ∷ f ∷ []) rest t a = (
  primitive.I32 ∷ [],
  refl,
  ap (λ (ts : List PrimitiveTypeInfo). asked_types info (foreign_call f.number 0) (take 1 ts)) t,
  All-take IsValue 1 (v ∷ f ∷ []) a,
)
its_call results k (v ∷ f ∷ u ∷ vs) rest t a = tt

foreign_deeds : (results : List PrimitiveTypeInfo) (structure : List Operator) → HasDeeds info results structure marks
foreign_deeds results structure = record {
  deeds = λ k o vs rest at part t a. its_call results k vs rest t a;
  caught = λ k mark rest o c at e. absurd cc;
}
