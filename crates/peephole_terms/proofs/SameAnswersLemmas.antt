-- Equal arguments and equal drawn words give equal answers.
use Rattle.std.proofs.Common.{◌≡◌, ℕ, Bool, true, false, cond, List, [], ◌++◌, length, Result, Ok, refl, sym, ap, ap₂, ◌∙◌}
use Rattle.wasm_code.specs.Instruction.{Instruction}
use Rattle.wasm_code.specs.Code.{codes}
use Rattle.wasm_types.specs.Module.{Module}
use Rattle.mutate_base.specs.declared.error.Error.{Error}
use Rattle.peephole_lang.specs.declared.lang.Head.{Head}
use Rattle.peephole_lang.specs.Term.{Term}
use Rattle.peephole_terms.specs.Expansion.{Setting, expansion_of, expansion_in}
use Rattle.peephole_terms.specs.SameAnswers.{block_words, TermAnswersAreTheSame, BodyAnswersAreTheSame}
use Rattle.peephole_terms.specs.StackCode.{words_for}
use Rattle.peephole_terms.specs.Written.{Site, is_written, term_code, term_requests, written_block, written_body}

abbrev Expanded : Type 0
Expanded = Result (List Instruction) Error

same_code : (c c' : List Instruction) → ◌≡◌ {A = Expanded} (Ok c) (Ok c') → c ≡ c'
same_code c c' e = cc

pub same_terms : TermAnswersAreTheSame
same_terms s s' t old new old' new' answer answer' i w h h' =
    let expands : expansion_in s t ≡ expansion_in s' t = ap₂ (λ (info : Module) (words : List ℕ). expansion_of (length info.globals) words t) i w in
    let same : h.written.0 ≡ h'.written.0 = same_code h.written.0 h'.written.0 (sym h.written.1 ∙ (expands ∙ h'.written.1)) in (
      (codes h.written.0, h.written.2, h'.written.2 ∙ ap (λ (c : List Instruction). old' ++ codes c) (sym same)),
      h.asks ∙ sym h'.asks,
    )

-- a term that is written or not
chosen : (b : Bool) (next next' : ℕ) (words words' : List ℕ) (t : Term Head) → next ≡ next' → cond b words [] ≡ cond b words' [] →
    ◌≡◌ {A = Expanded} (cond b (expansion_of next words t) (Ok [])) (cond b (expansion_of next' words' t) (Ok []))
chosen true next next' words words' t n w = ap₂ (λ (n : ℕ) (ws : List ℕ). expansion_of n ws t) n w
chosen false next next' words words' t n w = refl

same_term_code : (s s' : Setting) (site : Site) (t : Term Head) → s.info ≡ s'.info → block_words s site t ≡ block_words s' site t →
    term_code s site t ≡ term_code s' site t
same_term_code s s' site t i w =
    let b : is_written s.info site ≡ is_written s'.info site = ap (λ (info : Module). is_written info site) i in
    let words = w ∙ ap (λ (x : Bool). cond x (words_for s' t) []) (sym b) in
    chosen (is_written s.info site) (length s.info.globals) (length s'.info.globals) (words_for s t) (words_for s' t) t
    (ap (λ (info : Module). length info.globals) i) words ∙ ap (λ (x : Bool). cond x (expansion_in s' t) (Ok [])) b

pub same_bodies : BodyAnswersAreTheSame
same_bodies s s' site t old new old' new' answer answer' i w h h' =
    let body = h.written in
    let body' = h'.written in
    let same : body.code ≡ body'.code = same_code body.code body'.code (sym body.expands ∙ (same_term_code s s' site t i w ∙ body'.expands)) in (
      (
        written_body site (written_block s.info site body.code),
        body.appended,
        body'.appended ∙ ap₂ (λ (info : Module) (c : List Instruction). old' ++ written_body site (written_block info site c)) (sym i) (sym same),
      ),
      h.asks ∙ (ap (λ (info : Module). term_requests info site t) i ∙ sym h'.asks),
    )
