-- The expansion of a term: the instructions that it is written as, the words that are drawn for them, and the globals that they ask for. This project's rule.
use Rattle.std.specs.Prelude.{◌≡◌, ℕ, ℤ, ◌+◌, ◌%◌, ◌^◌, nat_le, List, [], ◌∷◌, ◌++◌, length, drop, Option, Some, None, option_map, Result}
use Rattle.std.specs.Prelude.{Ok, Err, true, false, if◌then◌else◌, ⊤}
use Rattle.std.specs.Int.{w32, w64, cast_signed, int_wrapping_sub}
use Rattle.rand_core.specs.Stream.{Stream, next_u32, next_u64}
use Rattle.wasm_code.specs.Instruction.{Instruction}
use Rattle.wasm_code.specs.Code.{codes}
use Rattle.wasm_code.specs.declared.immediate.Imm.TheVariants as imm
use Rattle.mutate_base.specs.Config.{Config}
use Rattle.wasm_types.specs.Module.{Module}
use Rattle.mutate_base.specs.declared.error.Error.{Error}
use Rattle.mutate_base.specs.declared.error.Error.TheVariants.{Memory, CannotUnfold, GlobalIndex}
use Rattle.peephole_lang.specs.declared.lang.Head.{Head}
use Rattle.peephole_nodes.specs.declared.payload.Payload.{Payload}
use Rattle.peephole_nodes.specs.declared.payload.Payload.TheVariants as payload
use Rattle.peephole_lang.specs.declared.lang.Lang.{Lang}
use Rattle.peephole_lang.specs.Node.{head_of, children_of}
use Rattle.peephole_lang.specs.Term.{Term, Terms, absent, node, no_terms, ◌▸◌, term_of}
use Rattle.peephole_terms.specs.declared.encoder.request.ResourceRequest.{ResourceRequest}
use Rattle.peephole_terms.specs.declared.encoder.request.ResourceRequest.TheVariants.{Global}
use Rattle.peephole_terms.specs.declared.encoder.node_kind.NumberType.TheVariants as number
use Rattle.wasm_execution.specs.declared.integer.IntegerType.TheVariants as integer
use Rattle.peephole_terms.specs.NodeKind as kind
use Rattle.peephole_terms.specs.NodeKind.{NumberType, IntegerType, NodeKind, node_kind, primitive_of, number_type_of}

-- ---- the globals that a term asks for, children first, and none below an unfold

abbrev pub own_requests : NodeKind → List NumberType
own_requests (kind.UseGlobal t) = t ∷ []
own_requests _ = []

abbrev pub with_own_requests : NodeKind → List NumberType → List NumberType
with_own_requests (kind.Unfold t) below = []
with_own_requests k below = below ++ own_requests k

abbrev mutual
  pub requests_of : Term Head → List NumberType
  requests_of absent = []
  requests_of (node h kids) = with_own_requests (node_kind h) (requests kids)

  pub requests : Terms Head → List NumberType
  requests no_terms = []
  requests (t ▸ ts) = requests_of t ++ requests ts

-- a global of the type that can be set and that threads do not share
abbrev pub request : NumberType → ResourceRequest
request t = Global (primitive_of t) true false

-- ---- the types of the words that are drawn, likewise

abbrev pub own_draws : NodeKind → List NumberType
own_draws (kind.Random t) = t ∷ []
own_draws _ = []

abbrev pub with_own_draws : NodeKind → List NumberType → List NumberType
with_own_draws (kind.Unfold t) below = number_type_of t ∷ []
with_own_draws k below = below ++ own_draws k

abbrev mutual
  pub draws_of : Term Head → List NumberType
  draws_of absent = []
  draws_of (node h kids) = with_own_draws (node_kind h) (draws kids)

  pub draws : Terms Head → List NumberType
  draws no_terms = []
  draws (t ▸ ts) = draws_of t ++ draws ts

-- a word of 32 or of 64 bits, by the type, and what the generator then gives
abbrev pub next_word : NumberType → Stream → ℕ × Stream
next_word number.I32 s = next_u32 s
next_word number.F32 s = next_u32 s
next_word number.I64 s = next_u64 s
next_word number.F64 s = next_u64 s

-- a word for each type, and what the generator then gives
abbrev pub draw_words : List NumberType → Stream → List ℕ × Stream
draw_words [] s = ([], s)
draw_words (t ∷ ts) s = ((next_word t s).0 ∷ (draw_words ts (next_word t s).1).0, (draw_words ts (next_word t s).1).1)

-- ---- the instructions of nodes without a row, by the rows of the table

-- `i32.const`, `i64.const`, `f32.const` and `f64.const` of a drawn word's low bits, floats by their bits
abbrev pub constant : NumberType → ℕ → Instruction
constant number.I32 word = record { row = 36; imm = imm.I32 (cast_signed w32 (word % 2 ^ 32)) }
constant number.I64 word = record { row = 37; imm = imm.I64 (cast_signed w64 (word % 2 ^ 64)) }
constant number.F32 word = record { row = 38; imm = imm.F32 (word % 2 ^ 32) }
constant number.F64 word = record { row = 39; imm = imm.F64 (word % 2 ^ 64) }

-- the number less the word's low bits, wrapped
abbrev pub rest_of : IntegerType → ℕ → ℤ → Instruction
rest_of integer.I32 word z = record { row = 36; imm = imm.I32 (int_wrapping_sub w32 z (cast_signed w32 (word % 2 ^ 32))) }
rest_of integer.I64 word z = record { row = 37; imm = imm.I64 (int_wrapping_sub w64 z (cast_signed w64 (word % 2 ^ 64))) }

-- `i32.add` and `i64.add`
abbrev pub add_of : IntegerType → Instruction
add_of integer.I32 = record { row = 77; imm = imm.Nothing }
add_of integer.I64 = record { row = 95; imm = imm.Nothing }

-- a number as the sum of a drawn word and the rest
abbrev pub sum : IntegerType → ℕ → ℤ → List Instruction
sum t word z = constant (number_type_of t) word ∷ rest_of t word z ∷ add_of t ∷ []

abbrev pub global_set_code : ℕ → Instruction
global_set_code g = record { row = 8; imm = imm.Index g }

abbrev pub global_get_code : ℕ → Instruction
global_get_code g = record { row = 7; imm = imm.Index g }

-- ---- the expansion

-- the number that a constant of the type holds; no other node has such a payload
abbrev pub constant_of : IntegerType → Payload → Option ℤ
constant_of integer.I32 (payload.I32 z) = Some z
constant_of integer.I64 (payload.I64 z) = Some z
constant_of _ _ = None

-- the number that is unfolded: that of the one child
abbrev pub constant_in : IntegerType → Terms Head → Option ℤ
constant_in t (node h kids ▸ no_terms) = constant_of t h.payload
constant_in t _ = None

abbrev pub unfolded_sum_of : IntegerType → ℕ → Option ℤ → Result (List Instruction) Error
unfolded_sum_of t word (Some z) = Ok (sum t word z)
unfolded_sum_of t word None = Err CannotUnfold

-- an index has 32 bits
abbrev pub through_global : ℕ → Result (List Instruction) Error
through_global g = if nat_le g 4294967295 then Ok (global_set_code g ∷ global_get_code g ∷ []) else Err GlobalIndex

abbrev pub then_code : Result (List Instruction) Error → (List Instruction → Result (List Instruction) Error) → Result (List Instruction) Error
then_code (Ok front) more = more front
then_code (Err e) more = Err e

-- one after the other; the first refusal counts
abbrev pub joined_code : Result (List Instruction) Error → Result (List Instruction) Error → Result (List Instruction) Error
joined_code front back = then_code front (λ xs. then_code back (λ ys. Ok (xs ++ ys)))

abbrev pub first_expansion_word : List ℕ → ℕ
first_expansion_word [] = 0
first_expansion_word (word ∷ words) = word

-- what a node adds behind its children
abbrev pub own_code : ℕ → List ℕ → NodeKind → Result (List Instruction) Error
own_code next words (kind.Own i) = Ok (i ∷ [])
own_code next words (kind.Random t) = Ok (constant t (first_expansion_word words) ∷ [])
own_code next words (kind.UseGlobal t) = through_global next
own_code next words _ = Ok []

-- an unfold stands for itself and its child; any other node comes behind its children's code
abbrev pub with_own_code : ℕ → List ℕ → NodeKind → Terms Head → Result (List Instruction) Error → Result (List Instruction) Error
with_own_code next words (kind.Unfold t) kids below = unfolded_sum_of t (first_expansion_word words) (constant_in t kids)
with_own_code next words k kids below = joined_code below (own_code (next + length (requests kids)) (drop (length (draws kids)) words) k)

-- The instructions of a term, or the first refusal. `next` is the index of the first requested global, and `words` is what is drawn from here on.
abbrev mutual
  pub expansion_of : (next : ℕ) (words : List ℕ) → Term Head → Result (List Instruction) Error
  expansion_of next words absent = Ok []
  expansion_of next words (node h kids) = with_own_code next words (node_kind h) kids (expansion next words kids)

  pub expansion : (next : ℕ) (words : List ℕ) → Terms Head → Result (List Instruction) Error
  expansion next words no_terms = Ok []
  expansion next words (t ▸ ts) = joined_code (expansion_of next words t) (expansion (next + length (requests_of t)) (drop (length (draws_of t)) words) ts)

-- the term of an expression, that of its last node
abbrev pub term_in : List Lang → Term Head
term_in expr = term_of head_of children_of expr

-- ---- under a configuration

-- what a configuration that is set up writes a term by: the module, and all that its generator will give
pub record Setting : Type 0 where
  pub info : Module
  pub stream : Stream

-- `stream` tells what a generator will give
abbrev pub setting_of : {R : Type 0} → (stream : R → Stream) → Config Module R → Option Setting
setting_of stream c = option_map (λ s. record { info = s.info; stream = stream s.generator }) c.setup

-- requested globals come behind the module's
abbrev pub expansion_in : Setting → Term Head → Result (List Instruction) Error
expansion_in s t = expansion_of (length s.info.globals) (draw_words (draws_of t) s.stream).0 t

-- the generator stands behind the last word of the term
abbrev pub after_term : Setting → Term Head → Setting
after_term s t = record { info = s.info; stream = (draw_words (draws_of t) s.stream).1 }

-- A refusal is memory's, or that of the expansion.
abbrev pub Refuses : Result (List Instruction) Error → Error → Type 0
Refuses expands Memory = ⊤
Refuses expands CannotUnfold = expands ≡ Err CannotUnfold
Refuses expands GlobalIndex = expands ≡ Err GlobalIndex
Refuses expands _ = ⊥

-- The sink has grown by the code of the term's expansion.
abbrev pub AppendsCode : Setting → Term Head → (old new : List ℕ) → Type 0
AppendsCode s t old new = (code : List Instruction) × (expansion_in s t ≡ Ok code) × (new ≡ old ++ codes code)
