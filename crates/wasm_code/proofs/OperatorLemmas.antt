-- Operators are read exactly.
use Rattle.std.proofs.Common.{◌≡◌, ◌≢◌, ◌⊎◌, inl, inr, ℕ, zero, suc, Bool, true, false, cond, eqb, List, [], ◌∷◌, ◌++◌, Option, Some, None}
use Rattle.std.proofs.Common.{Result, Ok, Err, refl, sym, ap, subst, ◌∙◌}
use Rattle.std.proofs.lemmas.Bool.{eqb-true, eqb-false, ne_eqb}
use Rattle.wasm_code.specs.declared.fault.Cause.{Cause}
use Rattle.wasm_code.specs.declared.fault.Cause.TheVariants.{UnknownOpcode}
use Rattle.wasm_code.specs.declared.immediate.ValType.{ValType}
use Rattle.wasm_code.specs.declared.immediate.Imm.{Imm}
use Rattle.wasm_code.specs.declared.immediate.Imm.TheVariants as imm
use Rattle.wasm_code.specs.declared.table.Opcode.{Opcode}
use Rattle.wasm_code.specs.declared.table.Opcode.TheVariants.{Byte, Fc, Fd}
use Rattle.wasm_code.specs.declared.table.Row.{Row}
use Rattle.wasm_code.specs.declared.operator.Operator.{Operator}
use Rattle.wasm_code.specs.declared.operator.Operator.TheVariants as op
use Rattle.wasm_code.specs.declared.parse.Form.{Form}
use Rattle.wasm_code.specs.declared.parse.Form.TheVariants as form
use Rattle.wasm_code.specs.Table.{row_at}
use Rattle.wasm_code.specs.Grammar.{NoBytes, NeverFails, Of}
use Rattle.wasm_code.specs.Number.{SpellsUnsigned, FailsUnsigned}
use Rattle.wasm_code.specs.Immediate.{SpellsBlockType, FailsBlockType, SpellsPair, FailsPair, SpellsLabels, FailsLabels, SpellsFirst}
use Rattle.wasm_code.specs.Immediate.{SpellsTypes, FailsTypes, SpellsOneType, SpellsImm, FailsImm}
use Rattle.wasm_code.specs.Operator.{SpellsOpcode, FailsOpcode, SpellsBehind, FailsRow, IsOneOf, IsUnknown, FailsControl, FailsBehindOpcode, Spells, Fails}
use Rattle.wasm_code.specs.Reader.{opcode_at, form_of, IsForm, select_of, behind_at, formed_at, operator_at}
use Rattle.wasm_code.specs.laws.GrammarLemmas.{Exact, ok_is, byte_exact, exact_ends, exact_of, exact_choose, exact_then, exact_same}
use Rattle.wasm_code.specs.laws.NumberExact.{unsigned_exact}
use Rattle.wasm_code.proofs.ImmediateLemmas.{pair_exact, labels_exact, types_exact, imm_exact}
use Rattle.wasm_code.proofs.BlockTypeLemmas.{block_type_exact}
use Rattle.wasm_code.proofs.TableLemmas.{is_by_opcode, with_opcode, typed_select, select_row}
use Rattle.wasm_code.proofs.FormLemmas.{HasForm, form_has, form_is, select_formed, row_formed, at_byte, none_formed, unknown_formed}

opcode_exact : Exact SpellsOpcode FailsOpcode opcode_at
unfolding opcode_at
opcode_exact = exact_then byte_exact (λ b.
    exact_choose (eqb b 252) (exact_of (λ n. Fc n) (unsigned_exact 32))
    (exact_choose (eqb b 253) (exact_of (λ n. Fd n) (unsigned_exact 32)) (exact_ends (Byte b))))

-- ---- the grammar by forms

abbrev SpellsForm : Form → List ℕ → Operator → Type 0
SpellsForm (form.Row number row) = Of (λ i. op.Instr (record { row = number; imm = i })) (SpellsImm row.kind)
SpellsForm form.Unreachable = NoBytes op.Unreachable
SpellsForm form.Block = Of (λ t. op.Block t) SpellsBlockType
SpellsForm form.Loop = Of (λ t. op.Loop t) SpellsBlockType
SpellsForm form.If = Of (λ t. op.If t) SpellsBlockType
SpellsForm form.Else = NoBytes op.Else
SpellsForm form.End = NoBytes op.End
SpellsForm form.Br = Of (λ n. op.Br n) (SpellsUnsigned 32)
SpellsForm form.BrIf = Of (λ n. op.BrIf n) (SpellsUnsigned 32)
SpellsForm form.BrTable = Of (λ n. op.BrTable n) SpellsLabels
SpellsForm form.Return = NoBytes op.Return
SpellsForm form.CallIndirect = Of (λ p. op.CallIndirect p.0 p.1) SpellsPair
SpellsForm form.TypedSelect = Of (λ t. select_of t.0 t.1) SpellsTypes

abbrev FailsForm : Form → List ℕ → Cause → Type 0
FailsForm (form.Row number row) = FailsImm row.kind
FailsForm form.Unreachable = NeverFails
FailsForm form.Block = FailsBlockType
FailsForm form.Loop = FailsBlockType
FailsForm form.If = FailsBlockType
FailsForm form.Else = NeverFails
FailsForm form.End = NeverFails
FailsForm form.Br = FailsUnsigned 32
FailsForm form.BrIf = FailsUnsigned 32
FailsForm form.BrTable = FailsLabels
FailsForm form.Return = NeverFails
FailsForm form.CallIndirect = FailsPair
FailsForm form.TypedSelect = FailsTypes

form_exact : (f : Form) → IsForm f → Exact (SpellsForm f) (FailsForm f) (behind_at f)
unfolding behind_at
form_exact (form.Row number row) is = exact_of (λ i. op.Instr (record { row = number; imm = i })) (imm_exact row.kind is.1)
form_exact form.Unreachable is = exact_ends op.Unreachable
form_exact form.Block is = exact_of (λ t. op.Block t) block_type_exact
form_exact form.Loop is = exact_of (λ t. op.Loop t) block_type_exact
form_exact form.If is = exact_of (λ t. op.If t) block_type_exact
form_exact form.Else is = exact_ends op.Else
form_exact form.End is = exact_ends op.End
form_exact form.Br is = exact_of (λ n. op.Br n) (unsigned_exact 32)
form_exact form.BrIf is = exact_of (λ n. op.BrIf n) (unsigned_exact 32)
form_exact form.BrTable is = exact_of (λ n. op.BrTable n) labels_exact
form_exact form.Return is = exact_ends op.Return
form_exact form.CallIndirect is = exact_of (λ p. op.CallIndirect p.0 p.1) pair_exact
form_exact form.TypedSelect is = exact_of (λ t. select_of t.0 t.1) types_exact

abbrev SpellsFormed : Option Form → List ℕ → Operator → Type 0
SpellsFormed None text x = ⊥
SpellsFormed (Some f) text x = SpellsForm f text x

abbrev FailsFormed : Option Form → List ℕ → Cause → Type 0
FailsFormed None bytes c = UnknownOpcode ≡ c
FailsFormed (Some f) bytes c = FailsForm f bytes c

abbrev refused : Cause → Result (Operator × List ℕ) Cause
refused c = Err c

cause_is : (c d : Cause) → refused c ≡ refused d → c ≡ d
cause_is c d e = cc

formed_exact : (o : Opcode) (d : Option Form) → form_of o ≡ d → Exact (SpellsFormed d) (FailsFormed d) (formed_at d)
formed_exact o None e = record {
  takes = λ bytes y rest e. absurd cc;
  again = λ text rest y s. absurd s;
  stops = λ bytes c e. cause_is UnknownOpcode c e;
  fails = λ bytes c f. rw f refl;
}
formed_exact o (Some f) e = let x = form_exact f (form_is o f e) in record { takes = x.takes; again = x.again; stops = x.stops; fails = x.fails }

-- ---- a select with value types

pair_parts : (p q : ℕ × Option ValType) → p ≡ q → (p.0 ≡ q.0) × (p.1 ≡ q.1)
pair_parts p q e = (ap (λ (p : ℕ × Option ValType). p.0) e, ap (λ (p : ℕ × Option ValType). p.1) e)

-- one value type is there
first_there : (n : ℕ) (text : List ℕ) → n ≡ 1 → SpellsFirst n text None → ⊥
first_there zero text is s = absurd cc
first_there (suc n) text is s = let e = s.second.made in absurd cc

none_counted : (text : List ℕ) (n : ℕ) → SpellsTypes text (n, None) → n ≢ 1
none_counted text n s is =
    let p = pair_parts (s.value, s.second.value) (n, None) s.second.made in
    first_there s.value s.back (p.0 ∙ is) (subst (λ (a : Option ValType). SpellsFirst s.value s.back a) p.1 s.second.spells)

select_to : (o : Opcode) (v : Bool) (n : ℕ) (t : ValType) (text : List ℕ) → o ≡ Byte 28 → eqb n 1 ≡ v → SpellsTypes text (n, Some t)
    → SpellsBehind o text (cond v (op.Instr (record { row = 445; imm = imm.Val t })) (op.TypedSelect n (Some t)))
select_to o true n t text h is s =
    let row = is_by_opcode (Byte 28) 445 typed_select select_row in
    record { row = typed_select; at = row.0; opcode = sym h; imm = subst (λ (k : ℕ). SpellsTypes text (k, Some t)) (eqb-true n 1 is) s }
select_to o false n t text h is s = (h, eqb-false n 1 is, s)

select_behind : (o : Opcode) (n : ℕ) (first : Option ValType) (text : List ℕ) → o ≡ Byte 28 → SpellsTypes text (n, first) →
    SpellsBehind o text (select_of n first)
select_behind o n None text h s = (h, none_counted text n s, s)
select_behind o n (Some t) text h s = select_to o (eqb n 1) n t text h refl s

some_counted : (n : ℕ) (first : Option ValType) → n ≢ 1 → select_of n first ≡ op.TypedSelect n first
some_counted n None other = refl
some_counted n (Some t) other = rw (ne_eqb n 1 other) refl

-- ---- the two grammars say the same

to_behind : (o : Opcode) (f : Form) (text : List ℕ) (x : Operator) → HasForm f o → SpellsForm f text x → SpellsBehind o text x
to_behind o (form.Row number row) text x h s = subst (λ (y : Operator). SpellsBehind o text y) s.made (record {
  row = row;
  at = h.0;
  opcode = h.1;
  imm = s.spells;
})
to_behind o form.Unreachable text x h s = subst (λ (y : Operator). SpellsBehind o text y) s.1 (h, s.0)
to_behind o form.Block text x h s = subst (λ (y : Operator). SpellsBehind o text y) s.made (h, s.spells)
to_behind o form.Loop text x h s = subst (λ (y : Operator). SpellsBehind o text y) s.made (h, s.spells)
to_behind o form.If text x h s = subst (λ (y : Operator). SpellsBehind o text y) s.made (h, s.spells)
to_behind o form.Else text x h s = subst (λ (y : Operator). SpellsBehind o text y) s.1 (h, s.0)
to_behind o form.End text x h s = subst (λ (y : Operator). SpellsBehind o text y) s.1 (h, s.0)
to_behind o form.Br text x h s = subst (λ (y : Operator). SpellsBehind o text y) s.made (h, s.spells)
to_behind o form.BrIf text x h s = subst (λ (y : Operator). SpellsBehind o text y) s.made (h, s.spells)
to_behind o form.BrTable text x h s = subst (λ (y : Operator). SpellsBehind o text y) s.made (h, s.spells)
to_behind o form.Return text x h s = subst (λ (y : Operator). SpellsBehind o text y) s.1 (h, s.0)
to_behind o form.CallIndirect text x h s = subst (λ (y : Operator). SpellsBehind o text y) s.made (h, s.spells)
to_behind o form.TypedSelect text x h s = subst (λ (y : Operator). SpellsBehind o text y) s.made (select_behind o s.value.0 s.value.1 text h s.spells)

to_formed : (o : Opcode) (d : Option Form) (text : List ℕ) (x : Operator) → form_of o ≡ d → SpellsFormed d text x → SpellsBehind o text x
to_formed o None text x is s = absurd s
to_formed o (Some f) text x is s = to_behind o f text x (form_has o f is) s

formed : (o : Opcode) (f : Form) (text : List ℕ) (x : Operator) → form_of o ≡ Some f → SpellsForm f text x → SpellsFormed (form_of o) text x
formed o f text x is s = subst (λ (d : Option Form). SpellsFormed d text x) (sym is) s

-- the row with the opcode of a select is the typed one
select_is : (o : Opcode) (number : ℕ) (row : Row) → o ≡ Byte 28 → row_at number ≡ Some row → row.opcode ≡ o → (445 ≡ number) × (typed_select ≡ row)
select_is o number row h at is =
    let e = some_pair (445, typed_select) (number, row) (sym select_row ∙ with_opcode number row (Byte 28) at (is ∙ h)) in
    (ap (λ (p : ℕ × Row). p.0) e, ap (λ (p : ℕ × Row). p.1) e)
  where
    some_pair : (p q : ℕ × Row) → Some p ≡ Some q → p ≡ q
    some_pair p q e = cc

one_type : (text : List ℕ) (i : Imm) → SpellsOneType text i → SpellsForm form.TypedSelect text (op.Instr (record { row = 445; imm = i }))
one_type text (imm.Val t) s = record { value = (1, Some t); spells = s; made = refl }
one_type text _ s = absurd s

-- whether an opcode is that of a select
is_select : (o : Opcode) → (o ≡ Byte 28) ⊎ (o ≢ Byte 28)
is_select (Byte b) = by_test (eqb b 28) refl
  where
    by_test : (v : Bool) → eqb b 28 ≡ v → (Byte b ≡ Byte 28) ⊎ (Byte b ≢ Byte 28)
    by_test true is = inl (ap (λ (c : ℕ). Byte c) (eqb-true b 28 is))
    by_test false is = inr (λ e. let same : b ≡ 28 = cc in eqb-false b 28 is same)
is_select (Fc n) = inr (λ e. absurd cc)
is_select (Fd n) = inr (λ e. absurd cc)

from_instr : (o : Opcode) (text : List ℕ) (number : ℕ) (i : Imm) (row : Row) → row_at number ≡ Some row → row.opcode ≡ o → SpellsImm row.kind text i →
    SpellsFormed (form_of o) text (op.Instr (record { row = number; imm = i }))
from_instr o text number i row at is s =
    elim (is_select o) [
      | inl h ↦
          let same = select_is o number row h at is in
          let s' : SpellsOneType text i = subst (λ (r : Row). SpellsImm r.kind text i) (sym same.1) s in
          subst (λ (k : ℕ). SpellsFormed (form_of o) text (op.Instr (record { row = k; imm = i }))) same.0
          (formed o form.TypedSelect text (op.Instr (record { row = 445; imm = i })) (at_byte o 28 form.TypedSelect h select_formed)
          (one_type text i s'))
      | inr plain ↦ formed o (form.Row number row) text (op.Instr (record { row = number; imm = i }))
          (row_formed o number row (with_opcode number row o at is) plain) (record { value = i; spells = s; made = refl })
    ]

from_behind : (o : Opcode) (text : List ℕ) (x : Operator) → SpellsBehind o text x → SpellsFormed (form_of o) text x
unfolding form_of
from_behind o text (op.Instr i) s = from_instr o text i.row i.imm s.row s.at s.opcode s.imm
from_behind o text op.Unreachable s = formed o form.Unreachable text _ (at_byte o 0 form.Unreachable s.0 refl) (s.1, refl)
from_behind o text (op.Block t) s = formed o form.Block text _ (at_byte o 2 form.Block s.0 refl) (record { value = t; spells = s.1; made = refl })
from_behind o text (op.Loop t) s = formed o form.Loop text _ (at_byte o 3 form.Loop s.0 refl) (record { value = t; spells = s.1; made = refl })
from_behind o text (op.If t) s = formed o form.If text _ (at_byte o 4 form.If s.0 refl) (record { value = t; spells = s.1; made = refl })
from_behind o text op.Else s = formed o form.Else text _ (at_byte o 5 form.Else s.0 refl) (s.1, refl)
from_behind o text op.End s = formed o form.End text _ (at_byte o 11 form.End s.0 refl) (s.1, refl)
from_behind o text (op.Br n) s = formed o form.Br text _ (at_byte o 12 form.Br s.0 refl) (record { value = n; spells = s.1; made = refl })
from_behind o text (op.BrIf n) s = formed o form.BrIf text _ (at_byte o 13 form.BrIf s.0 refl) (record { value = n; spells = s.1; made = refl })
from_behind o text (op.BrTable n) s = formed o form.BrTable text _ (at_byte o 14 form.BrTable s.0 refl) (record {
  value = n;
  spells = s.1;
  made = refl;
})
from_behind o text op.Return s = formed o form.Return text _ (at_byte o 15 form.Return s.0 refl) (s.1, refl)
from_behind o text (op.CallIndirect a b) s = formed o form.CallIndirect text _ (at_byte o 17 form.CallIndirect s.0 refl)
    (record { value = (a, b); spells = s.1; made = refl })
from_behind o text (op.TypedSelect n first) s = formed o form.TypedSelect text _ (at_byte o 28 form.TypedSelect s.0 refl)
    (record { value = (n, first); spells = s.2; made = some_counted n first s.1 })
from_behind o text (op.Other _) s = absurd s

-- ---- the faults are the same

to_fails : (o : Opcode) (f : Form) (bytes : List ℕ) (c : Cause) → form_of o ≡ Some f → HasForm f o → FailsForm f bytes c → FailsBehindOpcode o bytes c
to_fails o (form.Row number row) bytes c is h s = inr (inl (record { number = number; row = row; at = h.0; opcode = h.1; imm = s }))
to_fails o form.Unreachable bytes c is h s = absurd s
to_fails o form.Block bytes c is h s = inr (inr (inl (inl h, s)))
to_fails o form.Loop bytes c is h s = inr (inr (inl (inr (inl h), s)))
to_fails o form.If bytes c is h s = inr (inr (inl (inr (inr (inl h)), s)))
to_fails o form.Else bytes c is h s = absurd s
to_fails o form.End bytes c is h s = absurd s
to_fails o form.Br bytes c is h s = inr (inr (inr (inl (inl h, s))))
to_fails o form.BrIf bytes c is h s = inr (inr (inr (inl (inr (inl h), s))))
to_fails o form.BrTable bytes c is h s = inr (inr (inr (inr (inl (inl h, s)))))
to_fails o form.Return bytes c is h s = absurd s
to_fails o form.CallIndirect bytes c is h s = inr (inr (inr (inr (inr (inl h, s)))))
to_fails o form.TypedSelect bytes c is h s =
    let row = is_by_opcode (Byte 28) 445 typed_select select_row in
    inr (inl (record { number = 445; row = typed_select; at = row.0; opcode = sym h; imm = s }))

to_formed_fails : (o : Opcode) (d : Option Form) (bytes : List ℕ) (c : Cause) → form_of o ≡ d → FailsFormed d bytes c → FailsBehindOpcode o bytes c
to_formed_fails o None bytes c is s = inl (none_formed o is, sym s)
to_formed_fails o (Some f) bytes c is s = to_fails o f bytes c is (form_has o f is) s

formed_fails : (o : Opcode) (f : Form) (bytes : List ℕ) (c : Cause) → form_of o ≡ Some f → FailsForm f bytes c → FailsFormed (form_of o) bytes c
formed_fails o f bytes c is s = subst (λ (d : Option Form). FailsFormed d bytes c) (sym is) s

from_row : (o : Opcode) (bytes : List ℕ) (c : Cause) → FailsRow o bytes c → FailsFormed (form_of o) bytes c
from_row o bytes c s =
    elim (is_select o) [
      | inl h ↦
          let same = select_is o s.number s.row h s.at s.opcode in
          formed_fails o form.TypedSelect bytes c (at_byte o 28 form.TypedSelect h select_formed) (subst (λ (r : Row). FailsImm r.kind bytes c)
          (sym same.1) s.imm)
      | inr plain ↦ formed_fails o (form.Row s.number s.row) bytes c
          (row_formed o s.number s.row (with_opcode s.number s.row o s.at s.opcode) plain) s.imm
    ]

from_block : (o : Opcode) (bytes : List ℕ) (c : Cause) → IsOneOf o (2 ∷ 3 ∷ 4 ∷ []) → FailsBlockType bytes c → FailsFormed (form_of o) bytes c
unfolding form_of
from_block o bytes c one s =
    elim one [
      | inl h ↦ formed_fails o form.Block bytes c (at_byte o 2 form.Block h refl) s
      | inr more ↦ elim more [
        | inl h ↦ formed_fails o form.Loop bytes c (at_byte o 3 form.Loop h refl) s
        | inr last ↦ elim last [ inl h ↦ formed_fails o form.If bytes c (at_byte o 4 form.If h refl) s | inr none ↦ absurd none ]
      ]
    ]

from_branch : (o : Opcode) (bytes : List ℕ) (c : Cause) → IsOneOf o (12 ∷ 13 ∷ []) → FailsUnsigned 32 bytes c → FailsFormed (form_of o) bytes c
unfolding form_of
from_branch o bytes c one s =
    elim one [
      | inl h ↦ formed_fails o form.Br bytes c (at_byte o 12 form.Br h refl) s
      | inr last ↦ elim last [ inl h ↦ formed_fails o form.BrIf bytes c (at_byte o 13 form.BrIf h refl) s | inr none ↦ absurd none ]
    ]

from_one : (o : Opcode) (k : ℕ) (f : Form) (bytes : List ℕ) (c : Cause) → form_of (Byte k) ≡ Some f → IsOneOf o (k ∷ []) → FailsForm f bytes c →
    FailsFormed (form_of o) bytes c
from_one o k f bytes c is one s = elim one [ inl h ↦ formed_fails o f bytes c (at_byte o k f h is) s | inr none ↦ absurd none ]

from_control : (o : Opcode) (bytes : List ℕ) (c : Cause) → FailsControl o bytes c → FailsFormed (form_of o) bytes c
unfolding form_of
from_control o bytes c s =
    elim s [
      | inl block ↦ from_block o bytes c block.0 block.1
      | inr more ↦ elim more [
        | inl branch ↦ from_branch o bytes c branch.0 branch.1
        | inr last ↦ elim last [
          | inl table ↦ from_one o 14 form.BrTable bytes c refl table.0 table.1
          | inr call ↦ from_one o 17 form.CallIndirect bytes c refl call.0 call.1
        ]
      ]
    ]

from_unknown : (o : Opcode) (bytes : List ℕ) (c : Cause) → IsUnknown o → c ≡ UnknownOpcode → FailsFormed (form_of o) bytes c
from_unknown o bytes c unknown is = subst (λ (d : Option Form). FailsFormed d bytes c) (sym (unknown_formed o (form_of o) refl unknown)) (sym is)

from_fails : (o : Opcode) (bytes : List ℕ) (c : Cause) → FailsBehindOpcode o bytes c → FailsFormed (form_of o) bytes c
from_fails o bytes c s =
    elim s [
      | inl unknown ↦ from_unknown o bytes c unknown.0 unknown.1
      | inr more ↦ elim more [ inl row ↦ from_row o bytes c row | inr control ↦ from_control o bytes c control ]
    ]

behind_exact : (o : Opcode) → Exact (SpellsBehind o) (FailsBehindOpcode o) (formed_at (form_of o))
behind_exact o = exact_same (λ text x. to_formed o (form_of o) text x refl) (from_behind o) (λ bytes c. to_formed_fails o (form_of o) bytes c refl)
    (from_fails o) (formed_exact o (form_of o) refl)

pub operator_exact : Exact Spells Fails operator_at
unfolding operator_at
operator_exact = exact_then opcode_exact behind_exact

-- ---- the laws on spellings

abbrev read : Operator × List ℕ → Result (Operator × List ℕ) Cause
read p = Ok p

pair_is : (m n : Operator) (x y : List ℕ) → read (m, x) ≡ read (n, y) → (m ≡ n) × (x ≡ y)
pair_is m n x y e = let p = ok_is {A = Operator × List ℕ} (m, x) (n, y) e in
    (ap (λ (r : Operator × List ℕ). r.0) p, ap (λ (r : Operator × List ℕ). r.1) p)

-- No spelling begins another spelling, and a spelling spells one operator.
pub one_spelling : (a b x y : List ℕ) (m n : Operator) → Spells a m → Spells b n → a ++ x ≡ b ++ y → (m ≡ n) × (x ≡ y)
one_spelling a b x y m n p q e =
    let both : operator_at (a ++ x) ≡ operator_at (b ++ y) = ap operator_at e in
    pair_is m n x y (sym (operator_exact.again a x m p) ∙ both ∙ operator_exact.again b y n q)
