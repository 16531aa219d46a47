-- What a typed term's code does when it is run: what the term means (this project).
use Rattle.std.specs.Prelude.{◌≡◌, ℕ, List, ◌++◌, length, map, Some, Ok}
use Rattle.wasm_code.specs.Instruction.{Instruction}
use Rattle.wasm_code.specs.Code.{codes}
use Rattle.wasm_types.specs.Module.{Module}
use Rattle.wasm_types.specs.declared.types.PrimitiveTypeInfo.{PrimitiveTypeInfo}
use Rattle.peephole_lang.specs.declared.lang.Head.{Head}
use Rattle.peephole_lang.specs.Term.{Term}
use Rattle.wasm_execution.specs.Values.{Value, types, context_in, State, HasTypes, above}
use Rattle.wasm_execution.specs.Machine.{run}
use Rattle.wasm_execution.specs.Agreement.{with_globals, SameOutcome}
use Rattle.peephole_terms.specs.NodeKind.{primitive_of}
use Rattle.peephole_terms.specs.Expansion.{Setting, draw_words, draws_of, requests_of, expansion_of, expansion_in}
use Rattle.peephole_terms.specs.Typing.{types_of}
use Rattle.peephole_terms.specs.Meaning.{meaning_of}

-- For all types of locals with which the term has types, the code runs as the term means, from every stack and every state of these types, whatever its
-- requested globals hold, and whatever stands behind these: it leaves the term's values above the stack, and its state; it traps exactly where the
-- term traps; it is never stuck.
abbrev pub RunsAsItMeans : Module → List ℕ → Term Head → List Instruction → Type 0
RunsAsItMeans info words t code =
    (locals list more : List PrimitiveTypeInfo) → types_of (context_in info locals) t ≡ Some list →
    (stack : List Value) (s : State) (requested : List Value) → HasTypes (context_in info locals) s →
    types requested ≡ map primitive_of (requests_of t) ++ more →
    SameOutcome (above stack (meaning_of words t s)) (run code stack (with_globals requested s))

-- the words that a term draws
abbrev pub words_for : Setting → Term Head → List ℕ
words_for s t = (draw_words (draws_of t) s.stream).0

-- The sink has grown by the code of the term's expansion, which runs as the term means.
pub record AppendsStackCode (s : Setting) (t : Term Head) (old new : List ℕ) : Type 0 where
  pub code : List Instruction
  pub expands : expansion_in s t ≡ Ok code
  pub appended : new ≡ old ++ codes code
  pub runs : RunsAsItMeans s.info (words_for s t) t code

-- A typed term's expansion runs as the term means, with every list of words.
abbrev pub IsStackCode : Type 0
IsStackCode =
    (info : Module) (words : List ℕ) (t : Term Head) (code : List Instruction) →
    expansion_of (length info.globals) words t ≡ Ok code → RunsAsItMeans info words t code
