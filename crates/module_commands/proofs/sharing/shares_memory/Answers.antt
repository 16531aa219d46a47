-- By the reading of the module, which is one.
use Rattle.std.proofs.Common.{◌≡◌, ◌∙◌, ap, sym}
use Rattle.std.proofs.lemmas.Bool.{false≢true}
use Rattle.wasm_types.specs.Module.{Module}
use Rattle.wasm_module.specs.declared.layout.Module.{Module as Whole}
use Rattle.module_commands.specs.Failures.{is_any_shared}
use Rattle.module_commands.proofs.sharing.shares_memory.Goals as goal

pub returns-in-Ok-clause-shares : goal.returns-in-Ok-clause-shares
returns-in-Ok-clause-shares c =
    let same : c.is_any_shared.result ≡ is_any_shared c.in-Ok.module.info.memories =
    c.is_any_shared.ensures ∙ ap is_any_shared c.deref.ensures.value ∙ ap (λ (z : Whole). is_any_shared z.info.memories) c.module.view_is in (
      λ yes. record {
        info = c.in-Ok.module.info;
        layout = c.in-Ok.module.layout;
        is = c.in-Ok.ensures.read;
        exact = c.in-Ok.ensures.marked;
        shared = sym same ∙ yes;
      },
      λ s. same ∙ (ap (λ (i : Module). is_any_shared i.memories) (c.in-Ok.ensures.only s.info s.layout s.is s.exact).0 ∙ s.shared),
    )

pub returns-in_default-clause-shares : goal.returns-in_default-clause-shares
returns-in_default-clause-shares c = (
  λ yes. absurd (false≢true yes),
  λ s. absurd (c.in_default.not-Memory (c.in-Err.ensures.only s.info s.layout s.is s.exact)),
)
