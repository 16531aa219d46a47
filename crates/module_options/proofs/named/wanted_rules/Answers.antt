-- Those of the rules that are wanted.
use Rattle.std.proofs.Common.{List, [], Option, Some, None, ap, codes, sym}
use Rattle.clap.specs.Matches.{found_of}
use Rattle.clap.specs.Walk.{Text, texts}
use Rattle.module_options.specs.Named.{names_or_none}
use Rattle.module_options.proofs.OptionsLemmas.{names_given, rules_wanted}
use Rattle.module_options.proofs.named.wanted_rules.Goals as goal

pub returns-in-Some-clause-rules : goal.returns-in-Some-clause-rules
returns-in-Some-clause-rules c =
    let named = names_given (found_of c.args.matches.now) (codes "not-rule") c.get_strs.result c.get_strs.ensures (Some c.in-Some.others) c.in-Some.is in
    rules_wanted _ _ c.in_ok-given.given.items c.deref.result.now _ (texts c.in-Some.others.now) c.in_ok-given.ensures.rules
    c.deref.ensures.value (sym (ap (λ (o : Option (List Text)). names_or_none o) named)) c.in_ok-wanted_of-in-Some.ensures

pub returns-clause-rules : goal.returns-clause-rules
returns-clause-rules c =
    let named = names_given (found_of c.args.matches.now) (codes "not-rule") c.get_strs.result c.get_strs.ensures None c.in-None.is in
    rules_wanted _ _ c.in_ok-given.given.items c.deref-in-None.result.now _ [] c.in_ok-given.ensures.rules
    c.deref-in-None.ensures.value (sym (ap (λ (o : Option (List Text)). names_or_none o) named))
    c.in_ok-wanted_of-in-None.ensures
