use Rattle.module_rewrites.proofs.StandAgainLemmas.{OneReading}
use Rattle.module_rewrites.proofs.OneAttemptLemmas.{OneWriting}
use Rattle.module_rewrites.proofs.OneChoiceLemmas.{answers_same, cannot_none, each_begins, each_same, gives_up_none, module_one, refused_apart}
use Rattle.module_rewrites.proofs.laws.equal_words_give_equal_bytes.Goals as goal

pub returns : goal.returns
returns c =
    let reading : OneReading = record { locals = c.one_list.ensures.locals; operators = c.one_list-2.ensures } in
    let writing : OneWriting = record {
      reading = reading;
      body = c.words_write_one_body.ensures.one;
      none = c.words_write_one_body.ensures.none;
      text = c.one_rewritten_module.ensures.one;
      fits = c.one_rewritten_module.ensures.fits;
    } in
    let module_is = c.one_reading.ensures in
    let fit = c.entries_fit_the_module.ensures in
    record {
      one = module_one writing module_is fit;
      none = λ scope bytes new s after f r few chosen. (
        gives_up_none writing module_is fit scope bytes new s after f r few chosen,
        cannot_none writing module_is fit scope bytes new s after f r few chosen,
      );
      refused = refused_apart writing module_is fit;
      times = each_begins writing module_is fit;
      same = each_same writing module_is fit;
      answers = answers_same writing module_is fit;
    }
