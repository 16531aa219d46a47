-- Where branches under conditions and branches in conditionals are found.
use Rattle.std.proofs.Common.{◌≡◌, ℕ, suc, ◌+◌, ◌-◌, ◌<◌, ◌≤◌, List, length, Some, subst, arith}
use Rattle.std.specs.Prelude.{slice_get}
use Rattle.wasm_code.specs.declared.immediate.BlockType.TheVariants.{Empty}
use Rattle.wasm_code.specs.declared.operator.Operator.{Operator}
use Rattle.wasm_code.specs.declared.operator.Operator.TheVariants as op
use Rattle.body_splices.specs.OwnBytes.{without_offsets}
use Rattle.wasm_execution.specs.Values.{Context}
use Rattle.rewrite_rules.specs.declared.table.Own.TheVariants.{BrIfToIf, IfToBrIf}
use Rattle.body_rewrites.specs.declared.own.Made.{Made}
use Rattle.body_rewrites.specs.declared.own.Made.TheVariants as made
use Rattle.body_rewrites.specs.Blocks.{HasRoomForBlock}
use Rattle.body_rewrites.specs.Own.{IsBareBranch, IsNestedBranch, Rewrites}
use Rattle.body_rewrites.specs.OwnSites.{HasBranchIf, HasOuterBranch}
use Rattle.body_rewrites.proofs.StandsLemmas.{Operators}
use Rattle.body_rewrites.proofs.OwnAloneLemmas.{one_branch}

module _ (operators : Operators) where
  abbrev os : List Operator
  os = without_offsets operators

  -- ---- what isn't found

  pub no_bare_branch : (context : Context) (at : ℕ) → ((label : ℕ) → HasRoomForBlock operators → IsBareBranch operators at label → ⊥) →
      (start : ℕ) (m : Made) →
      Rewrites context operators BrIfToIf start at m → ⊥
  no_bare_branch context at none start (made.InConditional label) (e, room, h) = none label room h
  no_bare_branch context at none start m h = h

  pub no_nested_branch : (context : Context) (at : ℕ) → ((start label : ℕ) → IsNestedBranch operators start at label → ⊥) → (start : ℕ) (m : Made) →
      Rewrites context operators IfToBrIf start at m → ⊥
  no_nested_branch context at none start (made.BranchIf label) h = none start label h
  no_nested_branch context at none start m h = h

  pub same_label : (at label other : ℕ) → HasBranchIf operators at label → IsBareBranch operators at other → other ≡ label
  same_label at label other h b = one_branch operators at other label b.branch h.1

  -- ---- branches in conditionals

  pub outer_there : (at start label : ℕ) → IsNestedBranch operators start at label → HasOuterBranch operators (at - 1) label
  outer_there at start label h =
      let ends = h.ends in
      let same : start + 1 ≡ at - 1 = omega (arith, ends) in
      (h.fits, subst (λ n. slice_get os n ≡ Some (op.Br (suc label))) same h.branch)

  pub is_nested_branch : (at label : ℕ) → 2 ≤ at → at + 1 < length operators → slice_get os (at - 2) ≡ Some (op.If Empty) →
      HasOuterBranch operators (at - 1) label → slice_get os at ≡ Some op.End → IsNestedBranch operators (at - 2) at label
  is_nested_branch at label l inside opens (fits, branch) closes =
      let same : at - 1 ≡ at - 2 + 1 = omega (arith, l) in
      record {
        ends = omega (arith, l);
        inside = inside;
        opens = opens;
        branch = subst (λ n. slice_get os n ≡ Some (op.Br (suc label))) same branch;
        closes = closes;
        fits = fits;
      }
