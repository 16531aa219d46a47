-- By the text that is read.
use Rattle.std.proofs.Common.{Option, subst}
use Rattle.std.specs.Str.Parse.{ExplainsUnsignedError, HasUnsignedDigitsIfOk, ParsesUnsigned}
use Rattle.clap.specs.Matches.{found_of}
use Rattle.clap.specs.Walk.{Text}
use Rattle.clap.proofs.WalkLemmas.{one_text-rows}
use Rattle.module_options.specs.Values.{IsNumberOf}
use Rattle.module_options.proofs.OptionsLemmas.{number_by}
use Rattle.module_options.proofs.values.size_of.Goals as goal

pub returns : goal.returns
returns c =
    subst (λ (o : Option Text). IsNumberOf o c.get_one.result) (one_text-rows (found_of c.args.matches.now) c.args.name.now)
    (number_by _ (λ bs r (h : ParsesUnsigned 64 10 bs r × ExplainsUnsignedError 10 bs r × HasUnsignedDigitsIfOk bs r). h.0) _ c.get_one.result
    c.get_one.ensures.none c.get_one.ensures.value)
