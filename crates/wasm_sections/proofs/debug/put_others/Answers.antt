use Rattle.std.proofs.Common.{List, [], refl, sym, subst}
use Rattle.std.proofs.lemmas.List.{append-nil, take_all}
use Rattle.wasm_sections.specs.declared.section.Section.{Section}
use Rattle.wasm_sections.specs.Reader.{ArePut}
use Rattle.wasm_sections.proofs.DebugLemmas.{put_next}
use Rattle.wasm_sections.proofs.debug.put_others.Goals as goal

pub loop-section-init : goal.loop-section-init
loop-section-init c = record { kept = []; are = refl; written = sym (append-nil _) }

pub loop-section-preserved : goal.loop-section-preserved
loop-section-preserved c = put_next _ _ _ _ _ _ _ c.loop-section-test.true c.loop-section.invariant c.in_ok-put_other.ensures

pub returns : goal.returns
returns c = subst (λ (l : List Section). ArePut c.args.bytes.now l c.args.out.now.items c.loop-section.out.items)
    (take_all c.loop-section.section-index c.args.sections.now c.loop-section-test.false) c.loop-section.invariant
