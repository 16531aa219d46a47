-- Where blocks start: at an operator behind one that is no delimiter where that one's block does.
use Rattle.std.proofs.Common.{◌≡◌, ℕ, zero, suc, ◌-◌, ◌<◌, Bool, false, List, length, slice_index_or, sym, ap, ◌∙◌, arith}
use Rattle.std.specs.Prelude.{if◌then◌else◌}
use Rattle.std.proofs.lemmas.Option.{slice_get-get_or}
use Rattle.wasm_code.specs.Operator.{is_delimiter}
use Rattle.wasm_code.specs.declared.operator.Operator.{Operator}
use Rattle.peephole_graphs.specs.Block.{block_start, is_delimiter_of}

-- the block of the operator before starts where this one's does, unless that one is a delimiter
pub one_back : (operators : List (Operator × ℕ)) (index : ℕ) (o : Operator × ℕ) → 0 < index → index - 1 < length operators →
    is_delimiter (slice_index_or operators (index - 1) o).0 ≡ false → block_start operators (index - 1) ≡ block_start operators index
one_back operators zero o some within told = absurd (omega (arith, some))
one_back operators (suc n) o some within told =
    let same : suc n - 1 ≡ n = omega arith in
    let is = rw same at told in
    let back = ap is_delimiter_of (slice_get-get_or operators n o (omega (arith, within))) ∙ is in
    ap (block_start operators) same ∙ sym (ap (λ (b : Bool). if b then suc n else block_start operators n) back)
