-- What two calls of the writer with equal arguments and equal drawn words answer, where both succeed: both sinks grow by the same bytes, and the same globals
-- are asked for. What is told of a call is what its clauses `written` and `requests` say. This project's laws.
use Rattle.std.specs.Prelude.{◌≡◌, ℕ, List, [], ◌++◌, map, if◌then◌else◌}
use Rattle.peephole_lang.specs.declared.lang.Head.{Head}
use Rattle.peephole_lang.specs.Term.{Term}
use Rattle.peephole_terms.specs.declared.encoder.request.ResourceRequest.{ResourceRequest}
use Rattle.peephole_terms.specs.Expansion.{Setting, AppendsCode, requests_of, request}
use Rattle.peephole_terms.specs.StackCode.{words_for}
use Rattle.peephole_terms.specs.Written.{Site, AppendsBody, is_written, term_requests}

-- A call of `expr2wasm` that succeeded: the sink before and after it, and its answer.
pub record HasWrittenTerm (s : Setting) (t : Term Head) (old new : List ℕ) (answer : List ResourceRequest) : Type 0 where
  pub written : AppendsCode s t old new
  pub asks : answer ≡ map request (requests_of t)

-- The same of `build_function`.
pub record HasWrittenBody (s : Setting) (site : Site) (t : Term Head) (old new : List ℕ) (answer : List ResourceRequest) : Type 0 where
  pub written : AppendsBody s site t old new
  pub asks : answer ≡ term_requests s.info site t

-- the words that are drawn for a block: the term's, where it is written
abbrev pub block_words : Setting → Site → Term Head → List ℕ
block_words s site t = if is_written s.info site then words_for s t else []

-- both sinks have grown by the same bytes
abbrev pub GrowAlike : (old new old' new' : List ℕ) → Type 0
GrowAlike old new old' new' = (text : List ℕ) × (new ≡ old ++ text) × (new' ≡ old' ++ text)

-- two calls for one term, under one module, with the same words
abbrev pub TermAnswersAreTheSame : Type 0
TermAnswersAreTheSame =
    (s s' : Setting) (t : Term Head) (old new old' new' : List ℕ) (answer answer' : List ResourceRequest) →
    s.info ≡ s'.info → words_for s t ≡ words_for s' t →
    HasWrittenTerm s t old new answer → HasWrittenTerm s' t old' new' answer' →
    GrowAlike old new old' new' × (answer ≡ answer')

-- two calls for one site and term, likewise
abbrev pub BodyAnswersAreTheSame : Type 0
BodyAnswersAreTheSame =
    (s s' : Setting) (site : Site) (t : Term Head) (old new old' new' : List ℕ) (answer answer' : List ResourceRequest) →
    s.info ≡ s'.info → block_words s site t ≡ block_words s' site t →
    HasWrittenBody s site t old new answer → HasWrittenBody s' site t old' new' answer' →
    GrowAlike old new old' new' × (answer ≡ answer')
