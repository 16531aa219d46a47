-- What clap makes of the words, and what is made of its matches.
use Rattle.std.proofs.Common.{◌≡◌, ◌∙◌, List, ap, map, subst, sym}
use Rattle.clap.specs.Walk.{Text, texts}
use Rattle.clap.specs.declared.error.kind.ErrorKind.{ErrorKind}
use Rattle.module_options.specs.Arguments.{command_line}
use Rattle.module_options.specs.Options.{AreRefused, SayOptions, spelled}
use Rattle.module_options.proofs.OptionsLemmas.{refused_as, refused_matches, refused_words, say_options}
use Rattle.module_options.proofs.words.options_of.Goals as goal

pub returns-in-Err-clause-refused : goal.returns-in-Err-clause-refused
returns-in-Err-clause-refused g c =
    let words : texts c.deref.result.now ≡ map spelled (map g.S.AsStr.text c.args.words.now) = ap texts c.deref.ensures.value ∙ c.in_ok-spelled.ensures in
    refused_as (command_line c.args.names) (texts c.deref.result.now) _ _ words
    (subst (λ (kind : ErrorKind). AreRefused (command_line c.args.names) (texts c.deref.result.now) kind) (sym c.in_ok-told_anew-in-Err.ensures)
    (refused_words c.args.names _ (texts c.deref.result.now) c.in-Err.error c.in_ok-command.ensures c.in-Err.ensures.kinds))

pub returns-in-Ok-options_from-clause-options : goal.returns-in-Ok-options_from-clause-options
returns-in-Ok-options_from-clause-options g c =
    let words : texts c.deref.result.now ≡ map spelled (map g.S.AsStr.text c.args.words.now) = ap texts c.deref.ensures.value ∙ c.in_ok-spelled.ensures in
    subst (λ (ws : List Text). SayOptions (command_line c.args.names) ws c.in-Ok-options_from.options) words
    (say_options c.args.names _ (texts c.deref.result.now) c.in-Ok.matches c.in-Ok-options_from.options c.in_ok-command.ensures c.in-Ok.ensures.kinds
    c.in-Ok.ensures.ok.2 c.in-Ok-options_from.ensures.options)

pub returns-clause-refused : goal.returns-clause-refused
returns-clause-refused g c =
    let words : texts c.deref.result.now ≡ map spelled (map g.S.AsStr.text c.args.words.now) = ap texts c.deref.ensures.value ∙ c.in_ok-spelled.ensures in
    refused_as (command_line c.args.names) (texts c.deref.result.now) _ _ words
    (refused_matches c.args.names _ (texts c.deref.result.now) c.in-Ok.matches c.in-Err-options_from.misuse _ c.in_ok-command.ensures
    c.in-Ok.ensures.kinds c.in-Ok.ensures.ok.2 c.in-Err-options_from.ensures.misuse
    (c.in_ok-error-in-Err-options_from.ensures.kind ∙ c.kind_for.ensures))
