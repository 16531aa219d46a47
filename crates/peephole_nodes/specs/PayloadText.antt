-- The text of a payload, and what a text reads as (this project).
use Rattle.std.specs.Prelude.{ℕ, List, [], ◌∷◌, Result, Ok, Err}
use Rattle.std.specs.Fmt.{decimal, signed_decimal}
use Rattle.std.specs.Option.{ok_or}
use Rattle.wasm_code.specs.ValType.{val_type_name}
use Rattle.peephole_payloads.specs.Number.{read_unsigned, read_signed}
use Rattle.peephole_payloads.specs.PayloadText.{f32_text, f64_text, mem_arg_text, mem_arg_lane_text, shuffle_text, ref_type_text}
use Rattle.peephole_payloads.specs.PayloadText.{memory_init_text, memory_copy_text, table_init_text, table_copy_text}
use Rattle.peephole_payloads.specs.PayloadText.{read_f32, read_f64, read_mem_arg, read_mem_arg_lane, read_shuffle, read_ref_type, read_val_type}
use Rattle.peephole_payloads.specs.PayloadText.{read_memory_init, read_memory_copy, read_table_init, read_table_copy}
use Rattle.peephole_payloads.specs.declared.term_error.TermError.{TermError}
use Rattle.peephole_payloads.specs.declared.term_error.TermError.TheVariants.{BadInteger, InvalidToken}
use Rattle.peephole_nodes.specs.declared.payload.Payload.{Payload}
use Rattle.peephole_nodes.specs.declared.payload.Payload.TheVariants as payload
use Rattle.peephole_nodes.specs.declared.payload.PayloadKind.{PayloadKind}
use Rattle.peephole_nodes.specs.declared.payload.PayloadKind.TheVariants as kind

-- ---- writing

-- the payload's own text
abbrev pub inner_text : Payload → List ℕ
inner_text payload.Nothing = []
inner_text (payload.Index index) = decimal index
inner_text (payload.Lane lane) = decimal lane
inner_text (payload.I32 number) = signed_decimal number
inner_text (payload.I64 number) = signed_decimal number
inner_text (payload.F32 bits) = f32_text bits
inner_text (payload.F64 bits) = f64_text bits
inner_text (payload.V128 number) = signed_decimal number
inner_text (payload.Memory m) = mem_arg_text m
inner_text (payload.MemoryLane m) = mem_arg_lane_text m
inner_text (payload.Shuffle s) = shuffle_text s
inner_text (payload.Ref t) = ref_type_text t
inner_text (payload.Value t) = val_type_name t
inner_text (payload.MemoryInit x) = memory_init_text x
inner_text (payload.MemoryCopy x) = memory_copy_text x
inner_text (payload.TableInit x) = table_init_text x
inner_text (payload.TableCopy x) = table_copy_text x

-- what stands behind a name: nothing, or a dot and the payload's own text
abbrev pub payload_text : Payload → List ℕ
payload_text payload.Nothing = []
payload_text p = 46 ∷ inner_text p

-- ---- reading

-- the payload made of the value, or the refusal
abbrev pub with_payload : {A : Type 0} → (A → Payload) → Result A TermError → Result Payload TermError
with_payload make (Ok x) = Ok (make x)
with_payload make (Err e) = Err e

-- the payload of that kind that the text writes, or the refusal; a kind without payload has the empty text alone
abbrev pub read_payload : PayloadKind → List ℕ → Result Payload TermError
read_payload kind.Nothing [] = Ok payload.Nothing
read_payload kind.Nothing (c ∷ text) = Err InvalidToken
read_payload kind.Index text = with_payload (λ n. payload.Index n) (ok_or (read_unsigned 32 text) BadInteger)
read_payload kind.Lane text = with_payload (λ n. payload.Lane n) (ok_or (read_unsigned 8 text) BadInteger)
read_payload kind.I32 text = with_payload (λ z. payload.I32 z) (ok_or (read_signed 32 text) BadInteger)
read_payload kind.I64 text = with_payload (λ z. payload.I64 z) (ok_or (read_signed 64 text) BadInteger)
read_payload kind.F32 text = with_payload (λ bits. payload.F32 bits) (read_f32 text)
read_payload kind.F64 text = with_payload (λ bits. payload.F64 bits) (read_f64 text)
read_payload kind.V128 text = with_payload (λ z. payload.V128 z) (ok_or (read_signed 128 text) BadInteger)
read_payload kind.Memory text = with_payload (λ m. payload.Memory m) (read_mem_arg text)
read_payload kind.MemoryLane text = with_payload (λ m. payload.MemoryLane m) (read_mem_arg_lane text)
read_payload kind.Shuffle text = with_payload (λ s. payload.Shuffle s) (read_shuffle text)
read_payload kind.Ref text = with_payload (λ t. payload.Ref t) (read_ref_type text)
read_payload kind.Value text = with_payload (λ t. payload.Value t) (read_val_type text)
read_payload kind.MemoryInit text = with_payload (λ x. payload.MemoryInit x) (read_memory_init text)
read_payload kind.MemoryCopy text = with_payload (λ x. payload.MemoryCopy x) (read_memory_copy text)
read_payload kind.TableInit text = with_payload (λ x. payload.TableInit x) (read_table_init text)
read_payload kind.TableCopy text = with_payload (λ x. payload.TableCopy x) (read_table_copy text)
