-- What a reason comes to is right.
use Rattle.std.proofs.Common.{ℕ, List, refl}
use Rattle.wasm_sections.specs.declared.fault.ModuleFault.{ModuleFault}
use Rattle.wasm_sections.specs.declared.fault.ModuleFault.TheVariants as faults
use Rattle.wasm_module.specs.Fault.{IsModuleFault}
use Rattle.wasm_module.specs.declared.refusal.WriteError.TheVariants as writes
use Rattle.module_rewrites.specs.declared.attempt.Reason.{Reason}
use Rattle.module_rewrites.specs.declared.attempt.Reason.TheVariants as reasons
use Rattle.module_rewrites.specs.declared.mutation.MutationError.TheVariants as mutations
use Rattle.teddertempo_c.specs.Outcome.{IsNoModule, IsOutcome, offset_by, offset_by_fault, outcome_by, outcome_by_fault}
use Rattle.teddertempo_c.specs.Writes.{Asked, IsRefusedFor}
use Rattle.teddertempo_c.specs.declared.outcome.Outcome.{Outcome}
use Rattle.teddertempo_c.specs.declared.outcome.Outcome.TheVariants.{LinkableObject, NoMemory, NotAModule}

-- what holds of the outcome of each fault: that the bytes are no module, that they are a linkable object, or that memory is wanting
pub by_fault : (P : (offset : ℕ) → Outcome → Type 0) (bytes : List ℕ) → ((offset : ℕ) → IsNoModule bytes offset → P offset NotAModule) →
    ((offset : ℕ) → IsModuleFault bytes faults.Linkable offset → P offset LinkableObject) → P 0 NoMemory → (fault : ModuleFault) (offset : ℕ) →
    IsModuleFault bytes fault offset → P (offset_by_fault fault offset) (outcome_by_fault fault)
by_fault P bytes other linkable memory faults.BadMagic offset h = other offset (record { kind = faults.BadMagic; is = h; other = tt })
by_fault P bytes other linkable memory faults.BadVersion offset h = other offset (record { kind = faults.BadVersion; is = h; other = tt })
by_fault P bytes other linkable memory faults.Truncated offset h = other offset (record { kind = faults.Truncated; is = h; other = tt })
by_fault P bytes other linkable memory faults.BadInteger offset h = other offset (record { kind = faults.BadInteger; is = h; other = tt })
by_fault P bytes other linkable memory faults.UnknownSection offset h = other offset (record { kind = faults.UnknownSection; is = h; other = tt })
by_fault P bytes other linkable memory faults.OutOfOrder offset h = other offset (record { kind = faults.OutOfOrder; is = h; other = tt })
by_fault P bytes other linkable memory faults.Linkable offset h = linkable offset h
by_fault P bytes other linkable memory faults.UnknownForm offset h = other offset (record { kind = faults.UnknownForm; is = h; other = tt })
by_fault P bytes other linkable memory faults.UnknownOpcode offset h = other offset (record { kind = faults.UnknownOpcode; is = h; other = tt })
by_fault P bytes other linkable memory faults.TrailingBytes offset h = other offset (record { kind = faults.TrailingBytes; is = h; other = tt })
by_fault P bytes other linkable memory faults.CodeCount offset h = other offset (record { kind = faults.CodeCount; is = h; other = tt })
by_fault P bytes other linkable memory faults.TooManyLocals offset h = other offset (record { kind = faults.TooManyLocals; is = h; other = tt })
by_fault P bytes other linkable memory faults.Memory offset h = memory

module _ (asked : Asked) (bytes : List ℕ) where
  pub by_reason : (reason : Reason) → IsRefusedFor asked bytes reason → IsOutcome asked bytes (offset_by reason) (outcome_by reason)
  by_reason reasons.NoRule h = (refl, (reasons.NoRule, tt, h))
  by_reason reasons.NoOwnFunction h = (refl, (reasons.NoOwnFunction, tt, h))
  by_reason (reasons.Unreadable e) h = (refl, (e, h))
  by_reason (reasons.NoFunction function) h = (refl, (reasons.NoFunction function, h.is))
  by_reason (reasons.UnknownImport e) h = (refl, (reasons.UnknownImport e, h.is))
  by_reason (reasons.Refused (mutations.Read e)) h =
      by_fault (IsOutcome asked bytes) bytes (λ offset h. h) (λ offset h. h) refl e.kind e.offset h.is
  by_reason (reasons.Refused mutations.Memory) h = refl
  by_reason (reasons.Refused (mutations.Write writes.TooLarge)) h = (refl, record { error = mutations.Write writes.TooLarge; large = tt; is = h })
  by_reason (reasons.Refused (mutations.Write writes.EmptyType)) h = absurd h.is.refuses
  by_reason (reasons.Refused (mutations.Write writes.Memory)) h = refl
  by_reason (reasons.Refused mutations.TooLong) h = (refl, record { error = mutations.TooLong; large = tt; is = h })
  by_reason (reasons.Refused mutations.NotSmaller) h = (refl, record { error = mutations.NotSmaller; large = tt; is = h })
