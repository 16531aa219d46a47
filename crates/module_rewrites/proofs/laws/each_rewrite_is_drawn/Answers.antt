use Rattle.wasm_execution.specs.Values.{context_in}
use Rattle.module_rewrites.specs.Scope.{wanted_of}
use Rattle.module_rewrites.proofs.EntryWordsLemmas.{entry_words, few_wanted}
use Rattle.module_rewrites.proofs.laws.each_rewrite_is_drawn.Goals as goal

pub returns : goal.returns
returns c scope bytes info layout n locals expression operators r f rules_few operators_few few by none =
    c.each_rewrite_has_words.ensures.never_without (context_in info locals) scope.rules (wanted_of scope) operators r rules_few (few_wanted scope)
    operators_few by
    (λ w. none (entry_words scope bytes info layout n locals expression operators r f few w))
