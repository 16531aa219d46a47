-- Bodies without blocks that catch exceptions.
use Rattle.std.proofs.Common.{◌≡◌, ℕ, zero, suc, true, false, List, [], ◌∷◌, Some, sym, ap, ◌∙◌}
use Rattle.std.specs.Prelude.{not, slice_get}
use Rattle.std.proofs.lemmas.Bool.{and_parts}
use Rattle.std.proofs.lemmas.Option.{same_Some}
use Rattle.wasm_code.specs.declared.operator.Operator.{Operator}
use Rattle.wasm_code.specs.declared.operator.Operator.TheVariants as op
use Rattle.wasm_code.specs.declared.other.Other.{Other}
use Rattle.wasm_equivalence.specs.control.Blocks.{role_of}
use Rattle.wasm_equivalence.specs.control.Function.{structural}
use Rattle.wrapped_code.specs.Handlers.{handles_by, is_handler, none_handle}

-- none stands at any place
abbrev pub NoHandler : List Operator → Type 0
NoHandler os = (k : ℕ) (o : Other) → slice_get os k ≡ Some (op.Other o) → handles_by (role_of o) ≡ true → ⊥

-- the first isn't one
no_first : (x : Operator) (os : List Operator) → not (is_handler x) ≡ true → NoHandler os → NoHandler (x ∷ os)
no_first x os one h zero o at t =
    let z : false ≡ true = ap not (sym (ap is_handler (same_Some x (op.Other o) at) ∙ t)) ∙ one in absurd cc
no_first x os one h (suc k) o at t = h k o at t

pub no_handler : (body : List Operator) → none_handle body ≡ true → NoHandler (structural body)
no_handler [] e = λ k o at t. absurd cc
no_handler (op.Instr i ∷ os) e = no_handler os e
no_handler (x ∷ os) e =
    let p = and_parts (not (is_handler x)) (none_handle os) e in no_first x (structural os) p.0 (no_handler os p.1)
