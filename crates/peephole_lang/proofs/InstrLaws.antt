-- A node's instruction decides what the node says, and takes the node's children.
use Rattle.std.proofs.Common.{◌≡◌, ℕ, ◌+◌, ◌-◌, ◌<◌, ◌≤◌, Bool, true, false, length, Some, None, sym, ap, ap₂, ◌∙◌, inl, inr, arith, nat_lt}
use Rattle.std.specs.Prelude.{if◌then◌else◌}
use Rattle.std.proofs.lemmas.Bool.{cond-true, cond-false, cases_lt}
use Rattle.std.proofs.lemmas.Option.{same_Some}
use Rattle.wasm_code.specs.Instruction.{Instruction}
use Rattle.wasm_code.specs.Table.{info_in, row_info_of}
use Rattle.peephole_lang.specs.declared.lang.Head.{Head}
use Rattle.peephole_lang.specs.declared.lang.Lang.{Lang}
use Rattle.peephole_nodes.specs.declared.payload.Payload.{Payload}
use Rattle.peephole_lang.specs.laws.Fits.{fits_own}
use Rattle.peephole_lang.specs.Lang.{place_of, payload_of, ids_of, variant_child_count}
use Rattle.peephole_lang.specs.Language.{IsSame}
use Rattle.peephole_nodes.specs.laws.VariantLemmas.{HasVariant, has_variant}
use Rattle.peephole_lang.specs.Node.{IsNode, head_of, instr_of, instr_of_head, row_takes_count, takes_children}
use Rattle.peephole_nodes.specs.Payload.{imm_of, payload_of_imm, is_payload_of, is_writable}
use Rattle.peephole_nodes.specs.laws.PayloadLemmas.{imm_back}
use Rattle.peephole_nodes.specs.Variants.{Variant, variant_at}
use Rattle.peephole_lang.proofs.RowLemmas.{has_row}

-- a place and a payload whose instruction is `i`
record IsHeadOf (h : Head) (i : Instruction) : Type 0 where
  above : 12 ≤ h.place
  row : h.place - 12 ≡ i.row
  imm : imm_of h.payload ≡ i.imm

head_of_instr : (h : Head) (i : Instruction) → instr_of_head h ≡ Some i → IsHeadOf h i
head_of_instr h i e =
    elim (cases_lt h.place 12) [
      | inl below ↦ absurd (never i (sym (cond-true _ _ _ (below_true h.place 12 below)) ∙ e))
      | inr above ↦ parts h i above (is_writable h.payload) (sym (cond-false _ _ _ (below_false h.place 12 above)) ∙ e)
    ]
  where
    below_true : (m n : ℕ) → m < n → nat_lt m n ≡ true
    below_true m n l = grind arith

    below_false : (m n : ℕ) → n ≤ m → nat_lt m n ≡ false
    below_false m n l = grind arith

    never : (i : Instruction) → None ≡ Some i → ⊥
    never i e = cc

    parts : (h : Head) (i : Instruction) → 12 ≤ h.place → (writable : Bool)
        → (if writable then Some (record { row = h.place - 12; imm = imm_of h.payload }) else None) ≡ Some i → IsHeadOf h i
    parts h i above false e = absurd cc
    parts h i above true e =
        let same = same_Some _ _ e in
        record { above = above; row = ap (λ (x : Instruction). x.row) same; imm = ap (λ (x : Instruction). x.imm) same }

own_variant : (l : Lang) → HasVariant (place_of l) (payload_of l) (variant_child_count l)
own_variant l = has_variant (place_of l) (payload_of l) (variant_child_count l) (fits_own l)

-- the instruction takes the node's children
pub takes_own : (l : Lang) (i : Instruction) (n : ℕ) → instr_of l ≡ Some i → n ≡ variant_child_count l → takes_children i.row n ≡ true
unfolding row_info_of
takes_own l i n e c =
    let h = head_of_instr (head_of l) i e in
    let own = own_variant l in
    let above = h.above in
    let again : 12 + (place_of l - 12) ≡ place_of l = omega arith in
    let row = has_row (place_of l - 12) own.variant (ap variant_at again ∙ own.at) in
    ap₂ (λ r k. takes_children r k) (sym h.row) c ∙ (ap (λ r. row_takes_count (info_in r) (variant_child_count l)) row.1.0
    ∙ (row.1.1.operands (variant_child_count l) ∙ own.right))

pub instr_takes : (l : Lang) (i : Instruction) → IsNode l → instr_of l ≡ Some i → takes_children i.row (length (ids_of l)) ≡ true
instr_takes l i is e = takes_own l i (length (ids_of l)) e is.1

same_payloads : (v w : Variant) (p q : Payload) → v ≡ w → is_payload_of v.payload p ≡ true → is_payload_of w.payload q ≡ true → imm_of p ≡ imm_of q → p ≡ q
same_payloads v w p q same a b e =
    same_Some p q
    (sym (imm_back v.payload p a) ∙ (ap₂ (λ (x : Variant) i. payload_of_imm x.payload i) same e ∙ imm_back w.payload q b))

-- nodes with one instruction say the same
pub one_head : (l m : Lang) (i : Instruction) → instr_of l ≡ Some i → instr_of m ≡ Some i → head_of l ≡ head_of m
one_head l m i e f =
    let h = head_of_instr (head_of l) i e in
    let k = head_of_instr (head_of m) i f in
    let own = own_variant l in
    let other = own_variant m in
    let above = h.above in
    let above' = k.above in
    let rows : place_of l - 12 ≡ place_of m - 12 = h.row ∙ sym k.row in
    let places : place_of l ≡ place_of m = omega arith in
    let variants : own.variant ≡ other.variant = same_Some _ _ (sym own.at ∙ (ap variant_at places ∙ other.at)) in
    let payloads = same_payloads own.variant other.variant (payload_of l) (payload_of m) variants own.kind other.kind (h.imm ∙ sym k.imm) in
    ap₂ (λ (place : ℕ) (p : Payload). record { place = place; payload = p }) places payloads

-- and with equal children are the same
pub one_node : (l m : Lang) (i : Instruction) → instr_of l ≡ Some i → instr_of m ≡ Some i → ids_of l ≡ ids_of m → IsSame head_of ids_of m l
one_node l m i e f same = (one_head l m i e f, same)
