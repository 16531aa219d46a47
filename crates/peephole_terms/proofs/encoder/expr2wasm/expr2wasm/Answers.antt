use Rattle.std.proofs.Common.{◌≡◌, ap, ◌∙◌, ℕ, List, take, refl, rules, Vec, Global}
use Rattle.peephole_terms.specs.declared.encoder.request.ResourceRequest.{ResourceRequest}
use Rattle.peephole_terms.specs.Expansion.{Setting, term_in}
use Rattle.peephole_terms.specs.StackCode.{words_for}
use Rattle.peephole_terms.specs.EncoderSteps.{writing_of}
use Rattle.peephole_terms.specs.Writer.{writing_in}
use Rattle.peephole_terms.proofs.EncoderLemmas.{left_as}
use Rattle.peephole_terms.proofs.SettingLemmas.{setting, some_setting, is_set_up, as_given, term_done, term_refused}
use Rattle.peephole_terms.proofs.StackCodeLemmas.{stack_code}
use Rattle.peephole_terms.proofs.encoder.expr2wasm.expr2wasm.Goals as goal

pub returns-in-Ok : goal.returns-in-Ok
returns-in-Ok g c =
    let s : Setting = setting c.info.result.now (g.R.Rng.stream c.rng-rng.result.now) in
    let t = term_in c.args.expr.now in
    let sink : c.newfunc-1.given.0 ≡ c.write_tree.new.self.sink.now = search rules in
    let requested : c.requests-2-1.given.0 ≡ c.write_tree.new.self.requests.now = search rules in
    let generator : c.rng-1.given.0 ≡ c.write_tree.new.self.rng.now = search rules in
    let v = writing_of c.newfunc-1.given.0 c.requests-2-1.given.0.items (g.R.Rng.stream c.rng-1.given.0) in
    let h = term_done s t c.args.newfunc.now v
    (as_given c.get_global_count-globals.ensures (ap term_in c.as_ref-nodes.ensures.nodes) c.new-requests.ensures.items
    (left_as sink (ap (λ (v : Vec ResourceRequest Global). v.items) requested) (ap g.R.Rng.stream generator) c.in-Ok.ensures.taken)) in
    rw (is_set_up c.args.config.now c.info.result.now c.rng-rng.result.now c.info.ensures c.rng-rng.ensures.value) (record {
      written = (h.instructions, h.expands, h.bytes);
      stack_code = record {
        code = h.instructions;
        expands = h.expands;
        appended = h.bytes;
        runs = stack_code s.info (words_for s t) t h.instructions h.expands;
      };
      requests = h.asks;
      generator = ap (some_setting s.info) h.leaves;
      refusal = tt;
      restored = tt;
      unchanged = (refl, (refl, refl));
    })

pub returns-in-Err : goal.returns-in-Err
returns-in-Err g c =
    let s : Setting = setting c.info.result.now (g.R.Rng.stream c.rng-rng.result.now) in
    let v = writing_in g.R.Rng.stream c.write_tree.new.self in
    let sink : c.newfunc-1.given.0 ≡ c.write_tree.new.self.sink.now = search rules in
    rw (is_set_up c.args.config.now c.info.result.now c.rng-rng.result.now c.info.ensures c.rng-rng.ensures.value) (record {
      written = tt;
      stack_code = tt;
      requests = tt;
      generator = tt;
      refusal = term_refused s (term_in c.args.expr.now) c.args.newfunc.now v c.in-Err.refusal
          (as_given c.get_global_count-globals.ensures (ap term_in c.as_ref-nodes.ensures.nodes) c.new-requests.ensures.items c.in-Err.ensures.taken);
      restored = c.truncate.ensures ∙ (ap (λ (bytes : List ℕ). take c.len-old_len.result bytes) sink
          ∙ (ap (λ (n : ℕ). take n c.write_tree.new.self.sink.now) c.len-old_len.ensures ∙ c.in-Err.ensures.taken.kept));
      unchanged = (refl, (refl, refl));
    })
