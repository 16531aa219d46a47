-- Another offset and alignment of a load or a store.
use Rattle.std.proofs.Common.{◌≡◌, ◌≢◌, ℕ, ◌≤◌, List, get_or, Option, Some, None, refl, sym, ap, ap₂, ◌∙◌, subst, arith}
use Rattle.std.specs.Prelude.{option_and_then, IsTrue}
use Rattle.std.proofs.lemmas.Bool.{false≢true, lt-ltb, ltb-true}
use Rattle.std.proofs.lemmas.Option.{same_Some}
use Rattle.wasm_code.specs.Instruction.{Instruction, fits_row, is_of_kind}
use Rattle.wasm_code.specs.Table.{row_at, opcode_in}
use Rattle.wasm_code.specs.declared.immediate.Imm.{Imm}
use Rattle.wasm_code.specs.declared.immediate.Imm.TheVariants as imm
use Rattle.wasm_code.specs.declared.immediate.MemArg.{MemArg}
use Rattle.wasm_code.specs.declared.table.Kind.{Kind}
use Rattle.wasm_code.specs.declared.table.Kind.TheVariants as kind
use Rattle.wasm_code.specs.declared.table.Opcode.{Opcode}
use Rattle.wasm_code.specs.declared.table.Opcode.TheVariants.{Byte, Fc, Fd}
use Rattle.wasm_code.specs.declared.table.Row.{Row}
use Rattle.wasm_types.specs.Module.{Module}
use Rattle.wasm_types.specs.declared.types.PrimitiveTypeInfo.{PrimitiveTypeInfo}
use Rattle.wasm_execution.specs.IntegerRow.{IntegerRow, integer_row, opcode_row, other, row_or_other, row_types}
use Rattle.wasm_execution.specs.OtherRow.{Named, names_in, other_type, type_by_row}
use Rattle.wasm_execution.specs.Row.{at_most_one, instruction_types}
use Rattle.wasm_execution.specs.Values.{Context, results_on}
use Rattle.body_changes.specs.declared.units.Unit.{Unit}
use Rattle.body_changes.specs.Kinds.{access_with_argument, memory_argument, with_argument, AsksNoGreater, IsBehindOperands, IsNew}
use Rattle.body_changes.specs.Kinds.{MakesMemoryArgument, NamesArgument}
use Rattle.body_changes.specs.Replacing.{HasInstruction}
use Rattle.body_changes.specs.Units.{IsUnit}
use Rattle.body_changes.proofs.BehindLemmas.{behind_new, own_behind}
use Rattle.body_changes.proofs.OwnLemmas.{one_there}
use Rattle.body_changes.proofs.PartLemmas.{behind_same, last_same}
use Rattle.body_changes.proofs.StandLemmas.{Operators}

-- ---- the instruction

-- the row takes it, where it takes one of a greater alignment
pub argument_fits : (o : Option Row) (i : Imm) (own m : MemArg) → memory_argument i ≡ Some own → m.align ≤ own.align → IsTrue (fits_row o i) →
    IsTrue (fits_row o (with_argument m i))
argument_fits None i own m e le h = h
argument_fits (Some row) i own m e le h = by_kind row.kind i e h
  where
    smaller : (n : MemArg) → Some n ≡ Some own → IsTrue (is_of_kind kind.Mem (imm.Mem n)) → IsTrue (is_of_kind kind.Mem (imm.Mem m))
    smaller n e h =
        let same : n ≡ own = cc in
        let less = ltb-true n.align 64 h in
        let aligned : n.align ≡ own.align = ap (λ (k : MemArg). k.align) same in
        lt-ltb m.align 64 (omega arith)

    by_kind : (k : Kind) (i : Imm) → memory_argument i ≡ Some own → IsTrue (is_of_kind k i) → IsTrue (is_of_kind k (with_argument m i))
    by_kind kind.Mem (imm.Mem n) e h = smaller n e h
    by_kind kind.MemLane (imm.MemLane n lane) e h = smaller n e h
    by_kind k (imm.Mem n) e h = absurd (false≢true h)
    by_kind k (imm.MemLane n lane) e h = absurd (false≢true h)
    by_kind k i e h = absurd cc

pub argument_of : (i : Imm) (own m : MemArg) → memory_argument i ≡ Some own → memory_argument (with_argument m i) ≡ Some m
argument_of (imm.Mem n) own m e = refl
argument_of (imm.MemLane n lane) own m e = refl
argument_of i own m e = absurd cc

own_kept : (i : Imm) (own : MemArg) → memory_argument i ≡ Some own → with_argument own i ≡ i
own_kept (imm.Mem n) own e = let same : n ≡ own = cc in ap (λ (k : MemArg). imm.Mem k) (sym same)
own_kept (imm.MemLane n lane) own e = let same : n ≡ own = cc in ap (λ (k : MemArg). imm.MemLane k lane) (sym same)
own_kept i own e = absurd cc

-- ---- what it takes and gives

at_memory : ℕ → MemArg
at_memory n = record { offset = 0; align = 0; memory = n }

-- it is no integer row
no_row : (o : Option Opcode) (i : Imm) (own : MemArg) → memory_argument i ≡ Some own → opcode_row o i ≡ None
no_row (Some (Byte byte)) (imm.Mem m) own e = refl
no_row (Some (Byte byte)) (imm.MemLane m lane) own e = refl
no_row (Some (Fc n)) i own e = refl
no_row (Some (Fd n)) i own e = refl
no_row None i own e = refl
no_row (Some (Byte byte)) i own e = absurd cc

is_other : (i : Instruction) (own : MemArg) → memory_argument i.imm ≡ Some own → integer_row i ≡ other i
unfolding integer_row
is_other i own e = ap (row_or_other i) (no_row (opcode_in (row_at i.row)) i.imm own e)

-- it names the memory alone
same_names : (info : Module) (i : Imm) (own m : MemArg) → memory_argument i ≡ Some own → m.memory ≡ own.memory →
    names_in info i ≡ names_in info (with_argument m i)
same_names info (imm.Mem n) own m e same =
    let is : n ≡ own = cc in
    ap (λ (k : ℕ). names_in info (imm.Mem (record { offset = 0; align = 0; memory = k }))) (ap (λ (k : MemArg). k.memory) is ∙ sym same)
same_names info (imm.MemLane n lane) own m e same =
    let is : n ≡ own = cc in
    ap (λ (k : ℕ). names_in info (imm.Mem (record { offset = 0; align = 0; memory = k }))) (ap (λ (k : MemArg). k.memory) is ∙ sym same)
same_names info i own m e same = absurd cc

same_access : (context : Context) (i : Instruction) (own m : MemArg) (ts : List PrimitiveTypeInfo) → memory_argument i.imm ≡ Some own →
    m.memory ≡ own.memory → instruction_types context i ts ≡ instruction_types context (access_with_argument m i) ts
unfolding other_type
same_access context i own m ts e same =
    ap (λ (r : IntegerRow). option_and_then at_most_one (row_types context r ts)) (is_other i own e)
    ∙ (ap (λ (n : Named). option_and_then at_most_one (option_and_then (results_on ts) (type_by_row n (row_at i.row))))
    (same_names context.info i.imm own m e same)
    ∙ ap (λ (r : IntegerRow). option_and_then at_most_one (row_types context r ts)) (sym (is_other (access_with_argument m i) m (argument_of i.imm own m e))))

-- ---- which one

argument_is : (own m : MemArg) (offset align : ℕ) → m.offset ≡ offset → m.align ≡ align → m.memory ≡ own.memory →
    record { offset = offset; align = align; memory = own.memory } ≡ m
argument_is own m offset align e f g =
    ap (λ (k : ℕ). let n : MemArg = record { offset = k; align = align; memory = own.memory } in n) (sym e)
    ∙ (ap (λ (k : ℕ). let n : MemArg = record { offset = m.offset; align = k; memory = own.memory } in n) (sym f)
    ∙ ap (λ (k : ℕ). let n : MemArg = record { offset = m.offset; align = m.align; memory = k } in n) (sym g))

-- ---- the code

module _ (context : Context) (operators : Operators) (at : ℕ) (unit : Unit) (is : IsUnit context operators at unit) (own : Instruction)
    (has : HasInstruction operators at own) (argument : MemArg) (own_is : memory_argument own.imm ≡ Some argument) where
  pub new_memory : (m : MemArg) → AsksNoGreater argument m → (m ≡ argument → ⊥) → (i : Instruction) → i ≡ access_with_argument m own →
      (code : List Instruction) →
      IsBehindOperands operators at unit i code → IsNew context operators unit.start at code
  new_memory m asks differs i i_is code made =
      behind_new context operators at unit is own i has
      (λ e. differs (same_Some m argument
      (sym (argument_of own.imm argument m own_is) ∙ (ap (λ (k : Instruction). memory_argument k.imm) (sym i_is ∙ e) ∙ own_is))))
      (λ ts. same_access context own argument m ts own_is asks.memory ∙ ap (λ (k : Instruction). instruction_types context k ts) (sym i_is)) code made

  pub made_memory : (m : MemArg) → AsksNoGreater argument m → (i : Instruction) → i ≡ access_with_argument m own → (code : List Instruction) →
      IsBehindOperands operators at unit i code → MakesMemoryArgument operators at unit code
  made_memory m asks i i_is code made = record {
    own = own;
    has = has;
    argument = argument;
    own_argument = own_is;
    other = m;
    asks = asks;
    behind = subst (λ (k : Instruction). IsBehindOperands operators at unit k code) i_is made;
  }

  -- the one that the words name
  pub named_memory : (m : MemArg) (words : List ℕ) → ((n : MemArg) → AsksNoGreater argument n → n ≢ argument → get_or words 0 0 ≡ 4 →
      get_or words 1 0 ≡ n.offset → get_or words 2 0 ≡ n.align → m ≡ n) → (i : Instruction) → i ≡ access_with_argument m own → (code : List Instruction) →
      IsBehindOperands operators at unit i code → (others : List Instruction) → MakesMemoryArgument operators at unit others →
      IsNew context operators unit.start at others → NamesArgument words others → code ≡ others
  named_memory m words named i i_is code made others h new names =
      let (front, j, n, is_others, n_is, choice, offset, align) = names in
      let last = last_same front h.behind.operands j (access_with_argument h.other h.own) (sym is_others ∙ h.behind.code_is) in
      let n_other : n ≡ h.other = same_Some n h.other
      (sym n_is ∙ (ap (λ (k : Instruction). memory_argument k.imm) last ∙ argument_of h.own.imm h.argument h.other h.own_argument)) in
      let owns : h.own ≡ own = one_there operators at h.own own h.has has in
      let arguments : h.argument ≡ argument =
      same_Some h.argument argument (sym h.own_argument ∙ (ap (λ (k : Instruction). memory_argument k.imm) owns ∙ own_is)) in
      let differs : h.other ≡ argument → ⊥ =
      λ e. own_behind context operators at unit is h.own (access_with_argument h.other h.own) h.has
      (ap (λ (k : Imm). let a : Instruction = record { row = h.own.row; imm = k } in a)
      (sym (own_kept h.own.imm h.argument h.own_argument) ∙ ap (λ (k : MemArg). with_argument k h.own.imm) (arguments ∙ sym e))) others h.behind new in
      let same : m ≡ h.other = named h.other (subst (λ (k : MemArg). AsksNoGreater k h.other) arguments h.asks) differs choice
      (offset ∙ ap (λ (k : MemArg). k.offset) n_other) (align ∙ ap (λ (k : MemArg). k.align) n_other) in
      behind_same operators at unit i (access_with_argument h.other h.own) code others
      (i_is ∙ ap₂ (λ (k : MemArg) (a : Instruction). access_with_argument k a) same (sym owns)) made h.behind
