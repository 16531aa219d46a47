-- An instruction with an immediate as another one.
use Rattle.std.proofs.Common.{◌≡◌, ℕ, true, [], Some, subst}
use Rattle.wasm_code.specs.Instruction.{IsInstruction}
use Rattle.wasm_code.specs.declared.immediate.Imm.{Imm}
use Rattle.wasm_code.specs.declared.immediate.Imm.TheVariants as imm
use Rattle.wasm_execution.specs.Values.{Context}
use Rattle.wasm_equivalence.specs.validation.StaysValid.{MoreGlobalsCheckAlike}
use Rattle.rewrite_rules.specs.declared.access.Access.{Access}
use Rattle.rewrite_rules.specs.declared.access.AccessKind.{AccessKind}
use Rattle.rewrite_rules.specs.declared.access.AccessKind.TheVariants.{Load, Store, Constant}
use Rattle.rewrite_rules.specs.declared.access.AccessSide.{AccessSide}
use Rattle.rewrite_rules.specs.Access.{access_at, code_with, side_code, left_code, right_code, written_by, written_imm}
use Rattle.rewrite_rules.specs.Beside.{StandsWith}
use Rattle.rewrite_rules.proofs.AccessFormedLemmas.{IsRealigned, realigned_is, align_written}
use Rattle.rewrite_rules.proofs.beside.AccessLemmas.{loads_stand}
use Rattle.rewrite_rules.proofs.beside.StoreLemmas.{stores_stand}
use Rattle.rewrite_rules.proofs.beside.AccessRows.{Alike, pair_at}

pub access_stands : MoreGlobalsCheckAlike → (context : Context) (n : ℕ) (a : Access) (i k : Imm) → context.info.exact ≡ true → access_at n ≡ Some a →
    IsInstruction (code_with a.left.row i) → written_imm a i ≡ Some k → StandsWith context [] (left_code a i) (right_code a k)
access_stands wide context n a i k exact listed fits written = by_kind a.kind a.left a.right (pair_at n a listed) fits written
  where
    -- the immediates are memory arguments
    at : (kind : AccessKind) (left right : AccessSide) (r : IsRealigned a.align i k) →
        StandsWith context [] (side_code kind left (imm.Mem r.argument))
        (side_code kind right (imm.Mem (record r.argument { align = align_written a.align r.argument.align }))) →
        StandsWith context [] (side_code kind left i) (side_code kind right k)
    at kind left right r h =
        subst (λ (j : Imm). StandsWith context [] (side_code kind left j) (side_code kind right k)) r.is
        (subst (λ (j : Imm). StandsWith context [] (side_code kind left (imm.Mem r.argument)) (side_code kind right j)) r.its h)

    by_kind : (kind : AccessKind) (left right : AccessSide) → Alike kind left right → IsInstruction (code_with left.row i) →
        written_by kind a.align i ≡ Some k → StandsWith context [] (side_code kind left i) (side_code kind right k)
    by_kind Load left right p h e =
        let r = realigned_is a.align i k e in
        at Load left right r
        (loads_stand context exact wide left right p.k p.l p.t p.r p.u p.f p.g p.is (p.next context exact) p.its (p.behind context exact) p.counts p.same
        r.argument (align_written a.align r.argument.align))
    by_kind Store left right p h e =
        let r = realigned_is a.align i k e in
        at Store left right r
        (stores_stand context exact wide left right p.count p.t p.f p.g (p.is context exact) (p.its context exact) p.same r.argument
        (align_written a.align r.argument.align))
    by_kind Constant left right p h e = p.stands wide context exact i k h e
