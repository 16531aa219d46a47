-- What reading a body answers is what the function gives.
use Rattle.std.proofs.Common.{◌≡◌, ◌≢◌, ℕ, ◌+◌, ◌⊎◌, inl, inr, List, length, Ok, Err, refl, ap, ◌∙◌, arith}
use Rattle.std.specs.Prelude.{slice_range}
use Rattle.std.proofs.lemmas.Grind.{common_steps}
use Rattle.wasm_code.specs.declared.operator.Operator.{Operator}
use Rattle.wasm_code.specs.declared.fault.ReadKind.{ReadKind}
use Rattle.wasm_code.specs.declared.fault.ReadKind.TheVariants as kinds
use Rattle.wasm_code.specs.Body.{SpellsBody, IsFault}
use Rattle.wasm_code.specs.Reader.{body_at}
use Rattle.peephole_commands.specs.Body.{contents_with_operators, body_of}

whole : (bytes slice : List ℕ) (n : ℕ) → slice ≡ bytes → n ≡ length slice → slice_range slice 0 n ≡ bytes
whole bytes slice n e k = rw (k, e) (grind (arith, common_steps))

-- the operators that were found
pub found : (bytes slice : List ℕ) (n : ℕ) (operators : List (Operator × ℕ)) → slice ≡ bytes → n ≡ length slice →
    ((start : ℕ) (text : List ℕ) (xs : List (Operator × ℕ)) → SpellsBody start text xs → body_at start text ≡ Ok xs) →
    SpellsBody 0 (slice_range slice 0 n) operators → body_of bytes ≡ Ok (record { bytes = bytes; operators = operators })
found bytes slice n operators e k law h = ap (contents_with_operators bytes) (law 0 bytes operators (rw (whole bytes slice n e k) at h))

memory_or_not : (kind : ReadKind) → (kind ≡ kinds.Memory) ⊎ (kind ≢ kinds.Memory)
memory_or_not kinds.Memory = inl refl
memory_or_not _ = inr (λ m. cc)

-- the first fault
pub faulty : (bytes slice : List ℕ) (n : ℕ) (kind : ReadKind) (offset : ℕ) → slice ≡ bytes → n ≡ length slice →
    ((start : ℕ) (text : List ℕ) (kind : ReadKind) (offset : ℕ) → IsFault start (start + length text) text kind offset → kind ≢ kinds.Memory →
    body_at start text ≡ Err (kind, offset)) →
    IsFault 0 n (slice_range slice 0 n) kind offset → (kind ≡ kinds.Memory) ⊎ (body_of bytes ≡ Err kind)
faulty bytes slice n kind offset e k law h = go (memory_or_not kind)
  where
    to : n ≡ 0 + length bytes
    to = k ∙ (ap (λ (xs : List ℕ). length xs) e ∙ omega arith)

    go : (kind ≡ kinds.Memory) ⊎ (kind ≢ kinds.Memory) → (kind ≡ kinds.Memory) ⊎ (body_of bytes ≡ Err kind)
    go (inl m) = inl m
    go (inr m) = inr (ap (contents_with_operators bytes) (law 0 bytes kind offset (rw to at (rw (whole bytes slice n e k) at h)) m))
