-- What an opcode begins: the form that the code finds for it, and the operators that have the opcode.
use Rattle.std.proofs.Common.{◌≡◌, ◌≢◌, inl, inr, ℕ, Bool, true, false, cond, eqb, List, [], ◌∷◌, Option, Some, None, refl, sym, ap, subst, ◌∙◌}
use Rattle.std.specs.Prelude.{IfSome}
use Rattle.std.proofs.lemmas.Bool.{eqb-true, eqb-false, ne_eqb}
use Rattle.wasm_code.specs.declared.table.Opcode.{Opcode}
use Rattle.wasm_code.specs.declared.table.Opcode.TheVariants.{Byte, Fc, Fd}
use Rattle.wasm_code.specs.declared.table.Row.{Row}
use Rattle.wasm_code.specs.declared.parse.Form.{Form}
use Rattle.wasm_code.specs.declared.parse.Form.TheVariants as form
use Rattle.wasm_code.specs.Table.{row_at}
use Rattle.wasm_code.specs.Finding.{row_with}
use Rattle.wasm_code.specs.Operator.{IsOneOf, IsUnknown}
use Rattle.wasm_code.specs.Reader.{row_form, byte_form, form_of, IsForm}
use Rattle.wasm_code.proofs.TableLemmas.{has_opcode, is_by_opcode, without_row, val_opcode, none_0, none_2, none_3, none_4, none_5, none_11}
use Rattle.wasm_code.proofs.TableLemmas.{none_12, none_13, none_14, none_15, none_17, typed_select, select_row}

-- the opcode of a form
abbrev pub HasForm : Form → Opcode → Type 0
HasForm (form.Row number row) o = (row_at number ≡ Some row) × (row.opcode ≡ o)
HasForm form.Unreachable o = o ≡ Byte 0
HasForm form.Block o = o ≡ Byte 2
HasForm form.Loop o = o ≡ Byte 3
HasForm form.If o = o ≡ Byte 4
HasForm form.Else o = o ≡ Byte 5
HasForm form.End o = o ≡ Byte 11
HasForm form.Br o = o ≡ Byte 12
HasForm form.BrIf o = o ≡ Byte 13
HasForm form.BrTable o = o ≡ Byte 14
HasForm form.Return o = o ≡ Byte 15
HasForm form.CallIndirect o = o ≡ Byte 17
HasForm form.TypedSelect o = o ≡ Byte 28

-- ---- a form that is found has the opcode

some_is : (f g : Form) → Some f ≡ Some g → f ≡ g
some_is f g e = cc

row_has : (o : Opcode) (d : Option (ℕ × Row)) (g : Form) → row_with o ≡ d → row_form d ≡ Some g → HasForm g o
row_has o None g is e = absurd cc
row_has o (Some found) g is e = subst (λ (j : Form). HasForm j o) (some_is (form.Row found.0 found.1) g e) (is_by_opcode o found.0 found.1 is)

step : (v : Bool) (b k : ℕ) (f g : Form) (rest : Option Form) → eqb b k ≡ v → HasForm f (Byte k) → cond v (Some f) rest ≡ Some g →
    (rest ≡ Some g → HasForm g (Byte b)) → HasForm g (Byte b)
step true b k f g rest is h e go = subst (λ (j : Form). HasForm j (Byte b)) (some_is f g e)
    (subst (λ (c : ℕ). HasForm f (Byte c)) (sym (eqb-true b k is)) h)
step false b k f g rest is h e go = go e

byte_has : (b : ℕ) (g : Form) → byte_form b ≡ Some g → HasForm g (Byte b)
byte_has b g e =
    step _ b 0 form.Unreachable g _ refl refl e (λ e. step _ b 2 form.Block g _ refl refl e (λ e. step _ b 3 form.Loop g _ refl refl e
    (λ e. step _ b 4 form.If g _ refl refl e (λ e. step _ b 5 form.Else g _ refl refl e (λ e. step _ b 11 form.End g _ refl refl e
    (λ e. step _ b 12 form.Br g _ refl refl e (λ e. step _ b 13 form.BrIf g _ refl refl e (λ e. step _ b 14 form.BrTable g _ refl refl e
    (λ e. step _ b 15 form.Return g _ refl refl e (λ e. step _ b 17 form.CallIndirect g _ refl refl e
    (λ e. step _ b 28 form.TypedSelect g _ refl refl e
    (λ e. row_has (Byte b) (row_with (Byte b)) g refl e))))))))))))

pub form_has : (o : Opcode) (g : Form) → form_of o ≡ Some g → HasForm g o
unfolding form_of
form_has (Byte b) g e = byte_has b g e
form_has (Fc n) g e = row_has (Fc n) (row_with (Fc n)) g refl e
form_has (Fd n) g e = row_has (Fd n) (row_with (Fd n)) g refl e

pub select_formed : form_of (Byte 28) ≡ Some form.TypedSelect
unfolding form_of
select_formed = refl

-- a row's form isn't that of a select with value types
pub not_select : (o : Opcode) (number : ℕ) (row : Row) → form_of o ≡ Some (form.Row number row) → o ≢ Byte 28
not_select o number row e is = let clash : Some form.TypedSelect ≡ Some (form.Row number row) = sym select_formed ∙ sym (ap form_of is) ∙ e in
    absurd cc

pub form_is : (o : Opcode) (g : Form) → form_of o ≡ Some g → IsForm g
form_is o (form.Row number row) e =
    let h = form_has o (form.Row number row) e in
    (h.0, λ val. not_select o number row e (sym h.1 ∙ val_opcode number row h.0 val))
form_is o form.Unreachable e = tt
form_is o form.Block e = tt
form_is o form.Loop e = tt
form_is o form.If e = tt
form_is o form.Else e = tt
form_is o form.End e = tt
form_is o form.Br e = tt
form_is o form.BrIf e = tt
form_is o form.BrTable e = tt
form_is o form.Return e = tt
form_is o form.CallIndirect e = tt
form_is o form.TypedSelect e = tt

pub is_form : (o : Opcode) (result : Option Form) → result ≡ form_of o → IfSome result IsForm
is_form o None e = tt
is_form o (Some g) e = form_is o g (sym e)

-- ---- an opcode's form is found

-- a byte that begins another form is no row's
other : (b k : ℕ) (number : ℕ) (row : Row) (f : Form) (rest : Option Form) → row_with (Byte b) ≡ Some (number, row) → row_with (Byte k) ≡ None →
    rest ≡ Some (form.Row number row) → cond (eqb b k) (Some f) rest ≡ Some (form.Row number row)
other b k number row f rest found none e =
    let ne : eqb b k ≡ false = ne_eqb b k (λ same. let clash : Some (number, row) ≡ None = sym found ∙ ap (λ (c : ℕ). row_with (Byte c)) same
    ∙ none in absurd cc) in
    rw ne e

byte_formed : (b number : ℕ) (row : Row) → row_with (Byte b) ≡ Some (number, row) → eqb b 28 ≡ false → byte_form b ≡ Some (form.Row number row)
byte_formed b number row d plain =
    other b 0 number row form.Unreachable _ d none_0 (other b 2 number row form.Block _ d none_2 (other b 3 number row form.Loop _ d none_3
    (other b 4 number row form.If _ d none_4 (other b 5 number row form.Else _ d none_5 (other b 11 number row form.End _ d none_11
    (other b 12 number row form.Br _ d none_12 (other b 13 number row form.BrIf _ d none_13 (other b 14 number row form.BrTable _ d none_14
    (other b 15 number row form.Return _ d none_15 (other b 17 number row form.CallIndirect _ d none_17 (rw plain (ap row_form d))))))))))))

pub row_formed : (o : Opcode) (number : ℕ) (row : Row) → row_with o ≡ Some (number, row) → o ≢ Byte 28 → form_of o ≡ Some (form.Row number row)
unfolding form_of
row_formed (Byte b) number row d plain = byte_formed b number row d (ne_eqb b 28 (λ is. plain (ap (λ (c : ℕ). Byte c) is)))
row_formed (Fc n) number row d plain = ap row_form d
row_formed (Fd n) number row d plain = ap row_form d

pub at_byte : (o : Opcode) (k : ℕ) (f : Form) → o ≡ Byte k → form_of (Byte k) ≡ Some f → form_of o ≡ Some f
at_byte o k f h e = ap form_of h ∙ e

-- ---- an opcode without a form is unknown, and the other way round

no_row : (d : Option (ℕ × Row)) → row_form d ≡ None → d ≡ None
no_row None e = refl
no_row (Some found) e = absurd cc

-- the opcodes of operators that are no rows
abbrev pub controls : List ℕ
controls = 0 ∷ 2 ∷ 3 ∷ 4 ∷ 5 ∷ 11 ∷ 12 ∷ 13 ∷ 14 ∷ 15 ∷ 17 ∷ []

-- these bytes aren't the opcode, and no form is found behind them
record Unlisted (b : ℕ) (bytes : List ℕ) (rest : Option Form) : Type 0 where
  other : IsOneOf (Byte b) bytes → ⊥
  none : rest ≡ None

unlisted : (v : Bool) (b k : ℕ) (bytes : List ℕ) (f : Form) (rest last : Option Form) → eqb b k ≡ v → cond v (Some f) rest ≡ None →
    (rest ≡ None → Unlisted b bytes last) → Unlisted b (k ∷ bytes) last
unlisted true b k bytes f rest last is e more = absurd cc
unlisted false b k bytes f rest last is e more =
    let u = more e in
    record { other = λ one. elim one [ inl here ↦ (let n : b ≡ k = cc in eqb-false b k is n) | inr there ↦ u.other there ]; none = u.none }

beyond : (v : Bool) (rest : Option Form) → cond v (Some form.TypedSelect) rest ≡ None → rest ≡ None
beyond true rest e = absurd cc
beyond false rest e = e

byte_unknown : (b : ℕ) → byte_form b ≡ None → Unlisted b controls (row_form (row_with (Byte b)))
byte_unknown b e =
    unlisted _ b 0 _ form.Unreachable _ _ refl e (λ e. unlisted _ b 2 _ form.Block _ _ refl e (λ e. unlisted _ b 3 _ form.Loop _ _ refl e
    (λ e. unlisted _ b 4 _ form.If _ _ refl e (λ e. unlisted _ b 5 _ form.Else _ _ refl e (λ e. unlisted _ b 11 _ form.End _ _ refl e
    (λ e. unlisted _ b 12 _ form.Br _ _ refl e (λ e. unlisted _ b 13 _ form.BrIf _ _ refl e (λ e. unlisted _ b 14 _ form.BrTable _ _ refl e
    (λ e. unlisted _ b 15 _ form.Return _ _ refl e (λ e. unlisted _ b 17 [] form.CallIndirect _ _ refl e (λ e. record {
      other = λ one. one;
      none = beyond (eqb b 28) _ e;
    })))))))))))

no_byte : (o : Opcode) (bytes : List ℕ) → ((b : ℕ) → o ≢ Byte b) → IsOneOf o bytes → ⊥
no_byte o [] none one = one
no_byte o (b ∷ bytes) none one = elim one [ inl here ↦ none b here | inr there ↦ no_byte o bytes none there ]

pub none_formed : (o : Opcode) → form_of o ≡ None → IsUnknown o
unfolding form_of
none_formed (Byte b) e = let u = byte_unknown b e in (without_row (Byte b) (no_row _ u.none), u.other)
none_formed (Fc n) e = (without_row (Fc n) (no_row _ e), no_byte (Fc n) controls (λ b same. absurd cc))
none_formed (Fd n) e = (without_row (Fd n) (no_row _ e), no_byte (Fd n) controls (λ b same. absurd cc))

known_form : (o : Opcode) (f : Form) → form_of o ≡ Some f → HasForm f o → IsUnknown o → ⊥
known_form o (form.Row number row) e h u = u.0 number (has_opcode number row o h.0 h.1)
known_form o form.Unreachable e h u = u.1 (inl h)
known_form o form.Block e h u = u.1 (inr (inl h))
known_form o form.Loop e h u = u.1 (inr (inr (inl h)))
known_form o form.If e h u = u.1 (inr (inr (inr (inl h))))
known_form o form.Else e h u = u.1 (inr (inr (inr (inr (inl h)))))
known_form o form.End e h u = u.1 (inr (inr (inr (inr (inr (inl h))))))
known_form o form.Br e h u = u.1 (inr (inr (inr (inr (inr (inr (inl h)))))))
known_form o form.BrIf e h u = u.1 (inr (inr (inr (inr (inr (inr (inr (inl h))))))))
known_form o form.BrTable e h u = u.1 (inr (inr (inr (inr (inr (inr (inr (inr (inl h)))))))))
known_form o form.Return e h u = u.1 (inr (inr (inr (inr (inr (inr (inr (inr (inr (inl h))))))))))
known_form o form.CallIndirect e h u = u.1 (inr (inr (inr (inr (inr (inr (inr (inr (inr (inr (inl h)))))))))))
known_form o form.TypedSelect e h u = u.0 445 (has_opcode 445 typed_select o select.0 (sym h))
  where
    select : (row_at 445 ≡ Some typed_select) × (Byte 28 ≡ Byte 28)
    select = is_by_opcode (Byte 28) 445 typed_select select_row

pub unknown_formed : (o : Opcode) (d : Option Form) → form_of o ≡ d → IsUnknown o → d ≡ None
unknown_formed o None is u = refl
unknown_formed o (Some f) is u = absurd (known_form o f is (form_has o f is) u)
