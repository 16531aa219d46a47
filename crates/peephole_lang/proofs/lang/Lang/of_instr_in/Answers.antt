use Rattle.std.proofs.Common.{◌≡◌, refl, ◌∙◌, ap, subst, length, arith, Result, Ok, Err}
use Rattle.std.specs.Result.{IfOk}
use Rattle.peephole_nodes.specs.Payload.{payload_of_imm}
use Rattle.peephole_lang.proofs.InstrLemmas.{
  row_small,
  has_variant_row,
  payload_there,
  node_found,
  says_found,
  takes_found,
  operation_says,
  imm_says,
  made_takes,
}
use Rattle.peephole_lang.proofs.lang.Lang.of_instr_in.Goals as goal

-- what holds of the value wherever there is one
where_ok : {A E : Type 0} (r : Result A E) (P : A → Type 0) → ((a : A) → r ≡ Ok a → P a) → IfOk r P
where_ok (Ok a) P f = f a refl
where_ok (Err e) P f = cc

of_ok : {A E : Type 0} (P : A → Type 0) {r : Result A E} {a : A} → r ≡ Ok a → IfOk r P → P a
of_ok P e h = subst (λ x. IfOk x P) e h

pub overflow_add-place : goal.overflow_add-place
overflow_add-place c =
    let small = row_small c.args.instr.now c.row-place.ensures.instruction in
    let same = c.row-place.ensures.row in
    omega (arith, small, same)

pub returns-in-Some-clause-instruction : goal.returns-in-Some-clause-instruction
returns-in-Some-clause-instruction c =
    operation_says c.args.instr.now c.row-place.ensures.instruction c.row-place.result c.row-place.ensures.row c.in-Some.node c.in-Some.ensures.place
    c.in-Some.ensures.payload

pub returns-in-Some-clause-complete : goal.returns-in-Some-clause-complete
returns-in-Some-clause-complete c =
    made_takes c.args.instr.now c.in-Some.node (length c.args.children.now) c.in-Some.ensures.count
    (operation_says c.args.instr.now c.row-place.ensures.instruction c.row-place.result c.row-place.ensures.row c.in-Some.node c.in-Some.ensures.place
    c.in-Some.ensures.payload)

pub returns-in-Some-make_of_imm-clause-complete : goal.returns-in-Some-make_of_imm-clause-complete
returns-in-Some-make_of_imm-clause-complete c =
    made_takes c.args.instr.now c.in-Some-make_of_imm.node (length c.args.children.now) c.in-Some-make_of_imm.ensures.count
    (imm_says c.args.instr.now c.row-place.ensures.instruction c.row-place.result c.row-place.ensures.row c.imm.result c.imm.ensures
    c.in-Some-make_of_imm.node c.in-Some-make_of_imm.ensures.place c.in-Some-make_of_imm.ensures.imm)

pub returns-in_default-variant_row_at-clause-complete : goal.returns-in_default-variant_row_at-clause-complete
returns-in_default-variant_row_at-clause-complete c =
    absurd (has_variant_row c.args.instr.now c.row-place.ensures.instruction c.row-place.result c.variant_row_at.result c.row-place.ensures.row
    c.variant_row_at.ensures c.in_default-variant_row_at.is)

pub returns-in_default-of_imm-clause-complete : goal.returns-in_default-of_imm-clause-complete
returns-in_default-of_imm-clause-complete c =
    absurd
    (payload_there c.args.instr.now c.row-place.ensures.instruction c.row-place.result c.variant_row_at.result c.row-place.ensures.row c.variant_row_at.ensures
    c.in-Some-variant_row_at.variant c.in-Some-variant_row_at.is c.of_imm.result
    (c.of_imm.ensures ∙ ap (payload_of_imm c.in-Some-variant_row_at.variant.payload) c.imm-2.ensures) c.in_default-of_imm.is)

pub returns-clause-instruction : goal.returns-clause-instruction
returns-clause-instruction c = where_ok c.make_in.result _ (λ made is.
    says_found c.args.instr.now c.row-place.ensures.instruction c.in-Some-variant_row_at.variant c.in-Some-of_imm.payload
    (node_found c.args.instr.now c.row-place.ensures.instruction c.row-place.result c.variant_row_at.result c.row-place.ensures.row c.variant_row_at.ensures
    c.in-Some-variant_row_at.variant c.in-Some-variant_row_at.is c.of_imm.result
    (c.of_imm.ensures ∙ ap (payload_of_imm c.in-Some-variant_row_at.variant.payload) c.imm-2.ensures) c.in-Some-of_imm.payload c.in-Some-of_imm.is)
    made (of_ok _ is c.make_in.ensures.place) (of_ok _ is c.make_in.ensures.payload))

pub returns-clause-complete : goal.returns-clause-complete
returns-clause-complete c = where_ok c.make_in.result _ (λ made is.
    takes_found c.args.instr.now c.row-place.ensures.instruction c.in-Some-variant_row_at.variant c.in-Some-of_imm.payload
    (node_found c.args.instr.now c.row-place.ensures.instruction c.row-place.result c.variant_row_at.result c.row-place.ensures.row c.variant_row_at.ensures
    c.in-Some-variant_row_at.variant c.in-Some-variant_row_at.is c.of_imm.result
    (c.of_imm.ensures ∙ ap (payload_of_imm c.in-Some-variant_row_at.variant.payload) c.imm-2.ensures) c.in-Some-of_imm.payload c.in-Some-of_imm.is)
    made (length c.args.children.now) (of_ok _ is c.make_in.ensures.place) (of_ok _ is c.make_in.ensures.payload)
    (of_ok _ is c.make_in.ensures.count) (of_ok _ is c.make_in.ensures.complete))
