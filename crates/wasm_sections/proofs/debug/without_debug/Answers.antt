use Rattle.std.proofs.Common.{◌≡◌, ℕ, List, subst, arith}
use Rattle.std.proofs.lemmas.Grind.{common_steps}
use Rattle.wasm_sections.specs.Section.{preamble}
use Rattle.wasm_sections.specs.Reader.{ArePut}
use Rattle.wasm_sections.proofs.DebugLemmas.{without}
use Rattle.wasm_sections.proofs.debug.without_debug.Goals as goal

pub returns : goal.returns
returns c =
    let start : c.extend_from_slice.new.self.items ≡ preamble = grind (arith, common_steps) in
    without _ _ _ c.requires
    (subst (λ (l : List ℕ). ArePut c.args.bytes.now c.args.sections.now l c.put_others.new.out.items) start c.in_ok-put_others.ensures)
