-- No harness tells a module from one that does more.
use Rattle.std.proofs.Common.{◌≡◌, [], refl, ap, ◌∙◌, subst}
use Rattle.std.proofs.lemmas.List.Elements.{All-nil}
use Rattle.wasm_types.specs.Module.{Module}
use Rattle.wasm_execution.specs.Values.{IsValue, IsSound}
use Rattle.wasm_equivalence.specs.control.Wider.{wider_module, IsMoreWorld}
use Rattle.wasm_equivalence.specs.hosts.EmbedderLaws.{HarnessesDoMore}
use Rattle.wasm_equivalence.proofs.hosts.HostCodeLemmas.{code_more}
use Rattle.wasm_equivalence.proofs.hosts.EmbedderLemmas.{none_more}
use Rattle.wasm_equivalence.specs.modules.Program.{Answering, world_with}
use Rattle.wasm_equivalence.specs.modules.Running.{world_of}

pub harnesses : HarnessesDoMore
harnesses input more m n info h fuel depth first second results code behind t b u =
    let own = m.host.info in
    let calls : Answering = (world_of m fuel depth).answer in
    let wide : Answering = (world_of n fuel depth).answer in
    let same : own ≡ wider_module own.input [] own = none_more own in
    let there : n.host.info ≡ wider_module input more (wider_module own.input [] own) = info ∙ ap (wider_module input more) same in
    let widens : IsMoreWorld input more (world_with own calls) (world_with n.host.info wide) =
    record { info_is = info; answers = λ i rs vs gs last r e a g k l y. h fuel depth i rs vs gs last r e a g k l y } in
    code_more own own.input [] input more calls wide (subst (λ (x : Module). IsSound (world_with x calls)) same first)
    (subst (λ (x : Module). IsSound (world_with x wide)) there second)
    (subst (λ (x : Module). IsMoreWorld input more (world_with (wider_module own.input [] own) calls) (world_with x wide)) there
    (subst (λ (x : Module). IsMoreWorld input more (world_with x calls) (world_with n.host.info wide)) same widens))
    results code [] behind t refl (All-nil IsValue) b u
