use Rattle.std.proofs.Common.{ℕ, take, ap, refl, Some, ◌∙◌, ◌≡◌, List, Vec, Global, rules}
use Rattle.peephole_terms.specs.declared.encoder.request.ResourceRequest.{ResourceRequest}
use Rattle.peephole_terms.specs.Expansion.{Setting, term_in}
use Rattle.peephole_terms.specs.Spliced.{range_as_block}
use Rattle.peephole_terms.specs.EncoderSteps.{writing_of}
use Rattle.peephole_terms.specs.Writer.{writing_in}
use Rattle.peephole_terms.proofs.ReadAgainLemmas.{inside}
use Rattle.peephole_terms.proofs.EncoderLemmas.{left_as}
use Rattle.peephole_terms.proofs.SettingLemmas.{setting, is_set_up}
use Rattle.peephole_terms.proofs.SpliceLemmas.{around_given, spliced_done, spliced_refused}
use Rattle.peephole_terms.proofs.encoder.splice.splice_term.Goals as goal

pub of-outside-requires : goal.of-outside-requires
of-outside-requires g c =
    inside c.args.input_wasm.now c.args.operators.now (range_as_block c.args.range.start c.args.range.end) c.requires.body
    (record { ordered = c.requires.ordered; inside = c.requires.inside })

pub returns-in-Ok : goal.returns-in-Ok
returns-in-Ok g c =
    let s : Setting = setting c.info.result.now (g.R.Rng.stream c.rng-rng.result.now) in
    let sink : c.newfunc-1.given.0 ≡ c.write_around.new.self.sink.now = search rules in
    let requested : c.requests-2-1.given.0 ≡ c.write_around.new.self.requests.now = search rules in
    let generator : c.rng-1.given.0 ≡ c.write_around.new.self.rng.now = search rules in
    let v = writing_of c.newfunc-1.given.0 c.requests-2-1.given.0.items (g.R.Rng.stream c.rng-1.given.0) in
    let law = c.typed_rows_check.ensures in
    let w = spliced_done s c.args.input_wasm.now c.args.operators.now c.args.range.start c.args.range.end (term_in c.args.expr.now)
    c.code_spells.ensures (record { push = law.push; on = law.on; stay = law.stay }) c.requires.body c.requires.ordered c.requires.inside c.args.newfunc.now v
    (around_given c.get_global_count-globals.ensures c.of-outside.ensures.before c.of-outside.ensures.after (ap term_in c.as_ref.ensures.nodes)
    c.new-requests.ensures.items (left_as sink (ap (λ (v : Vec ResourceRequest Global). v.items) requested) (ap g.R.Rng.stream generator)
    c.in-Ok.ensures.taken)) in
    rw (is_set_up c.args.config.now c.info.result.now c.rng-rng.result.now c.info.ensures c.rng-rng.ensures.value) (record {
      spliced = w.body;
      requests = w.asks;
      generator = ap (λ (x : Setting). Some x) w.leaves;
      refusal = tt;
      restored = tt;
      unchanged = (refl, (refl, refl));
    })

pub returns-in-Err : goal.returns-in-Err
returns-in-Err g c =
    let s : Setting = setting c.info.result.now (g.R.Rng.stream c.rng-rng.result.now) in
    let v = writing_in g.R.Rng.stream c.write_around.new.self in
    let sink : c.newfunc-1.given.0 ≡ c.write_around.new.self.sink.now = search rules in
    rw (is_set_up c.args.config.now c.info.result.now c.rng-rng.result.now c.info.ensures c.rng-rng.ensures.value) (record {
      spliced = tt;
      requests = tt;
      generator = tt;
      refusal = spliced_refused s c.args.input_wasm.now c.args.operators.now c.args.range.start c.args.range.end (term_in c.args.expr.now)
          c.args.newfunc.now v c.in-Err.refusal
          (around_given c.get_global_count-globals.ensures c.of-outside.ensures.before c.of-outside.ensures.after (ap term_in c.as_ref.ensures.nodes)
          c.new-requests.ensures.items c.in-Err.ensures.taken);
      restored = c.truncate.ensures ∙ (ap (λ (bytes : List ℕ). take c.len-old_len.result bytes) sink
          ∙ (ap (λ (n : ℕ). take n c.write_around.new.self.sink.now) c.len-old_len.ensures ∙ c.in-Err.ensures.taken.kept));
      unchanged = (refl, (refl, refl));
    })
