use Rattle.std.proofs.Common.{ℕ, take, ap, sym, subst, refl, Some, Ok, Err, ◌∙◌, ◌≡◌, List, Vec, Global, rules}
use Rattle.peephole_terms.specs.declared.encoder.request.ResourceRequest.{ResourceRequest}
use Rattle.std.proofs.lemmas.Bool.{false≢true}
use Rattle.mutate_base.specs.Config.{info_of}
use Rattle.peephole_graphs.specs.Dfg.{graph_of}
use Rattle.peephole_graphs.specs.GraphOf.{IsGraphOf}
use Rattle.peephole_graphs.specs.Source.{source_of}
use Rattle.peephole_terms.specs.EncoderSteps.{BlockIsInside, writing_of}
use Rattle.peephole_terms.specs.Expansion.{Setting, term_in}
use Rattle.peephole_terms.specs.Writer.{writing_in}
use Rattle.peephole_terms.specs.Written.{Site, site_at, source_at, before_block, after_block}
use Rattle.peephole_terms.proofs.ReadAgainLemmas.{block_before_last, inside, piece_is}
use Rattle.peephole_terms.proofs.EncoderLemmas.{left_as, walkable, order_kept, order_refused, wrote, not_for_order, other_cause}
use Rattle.peephole_terms.proofs.SettingLemmas.{setting, is_set_up, body_given, body_done, body_refused}
use Rattle.peephole_terms.proofs.AgainLemmas.{body_again, body_reread}
use Rattle.peephole_terms.proofs.SameRunLemmas.{body_runs}
use Rattle.peephole_terms.proofs.encoder.Encoder.build_function.Goals.{else-preserves_semantics-via-then-preserves_semantics+else-not-keeps_order}
use Rattle.peephole_terms.proofs.encoder.Encoder.build_function.Goals.{else-preserves_semantics-via-else-preserves_semantics}
use Rattle.peephole_terms.proofs.encoder.Encoder.build_function.Goals as goal

pub of-outside-requires : goal.of-outside-requires
of-outside-requires g c =
    let operators = c.args.operators.now in
    let block = c.args.basicblock.now in
    subst (BlockIsInside c.args.input_wasm.now operators) (sym (piece_is block c.range.ensures.start c.range.ensures.end))
    (inside c.args.input_wasm.now operators block c.requires.body (block_before_last operators block c.requires.body c.requires.block))

pub write_body-requires-clause-walkable : goal.write_body-requires-clause-walkable
write_body-requires-clause-walkable g c =
    walkable (source_of c.info.result.now c.args.config.now.preserving c.args.operators.now c.args.basicblock.now) (graph_of c.args.dfg.now)
    (rw c.info.ensures at c.requires.graph)

pub returns-then-not-keeps_order-clause-order : goal.returns-then-not-keeps_order-clause-order
returns-then-not-keeps_order-clause-order g c =
    order_refused _ (info_of c.args.config.now) c.args.config.now.preserving
    (site_at c.args.input_wasm.now c.args.operators.now c.args.basicblock.now c.args.insertion_point) (graph_of c.args.dfg.now)
    (sym c.preserves_semantics.ensures ∙ c.if-preserves_semantics.true) c.requires.graph (λ o. let t = c.keeps_order.ensures.1 o in cc)

pub returns-in-Ok : goal.returns-in-Ok
returns-in-Ok g c =
    let s : Setting = setting c.info.result.now (g.R.Rng.stream c.rng-rng.result.now) in
    let preserving = c.args.config.now.preserving in
    let site : Site = site_at c.args.input_wasm.now c.args.operators.now c.args.basicblock.now c.args.insertion_point in
    let graph = graph_of c.args.dfg.now in
    let is_graph : IsGraphOf (source_at s.info preserving site) graph = rw c.info.ensures at c.requires.graph in
    let block = piece_is site.block c.range.ensures.start c.range.ensures.end in
    let sink : c.newfunc-1.given.0 ≡ c.write_body.new.self.sink.now = search rules in
    let requested : c.requests-2-1.given.0 ≡ c.write_body.new.self.requests.now = search rules in
    let generator : c.rng-1.given.0 ≡ c.write_body.new.self.rng.now = search rules in
    let v = writing_of c.newfunc-1.given.0 c.requests-2-1.given.0.items (g.R.Rng.stream c.rng-1.given.0) in
    let w = body_done s preserving site graph (term_in c.args.expr.now) is_graph c.args.newfunc.now v
    (body_given c.args.insertion_point graph c.get_global_count-globals.ensures
    (c.of-outside.ensures.before ∙ ap (before_block site.input site.operators) block)
    (c.of-outside.ensures.after ∙ ap (after_block site.input site.operators) block)
    (ap term_in c.as_ref.ensures.nodes) c.new-requests.ensures.items
    (left_as sink (ap (λ (v : Vec ResourceRequest Global). v.items) requested) (ap g.R.Rng.stream generator) c.in-Ok.ensures.taken)) in
    rw (is_set_up c.args.config.now c.info.result.now c.rng-rng.result.now c.info.ensures c.rng-rng.ensures.value) (record {
      written = w.body;
      reads_again = body_again c.code_spells.ensures c.requires.body c.requires.block w;
      reread = body_reread c.code_spells.ensures preserving graph c.requires.body c.requires.block is_graph w;
      same_run = body_runs s preserving site graph (term_in c.args.expr.now) is_graph w;
      requests = w.asks;
      generator = ap (λ (x : Setting). Some x) w.leaves;
      order = order_kept s.info preserving site graph (Ok c.requests-2-1.given.0) is_graph
          (λ preserving. elim c.else-preserves_semantics.branch [
            | else-preserves_semantics-via-then-preserves_semantics+else-not-keeps_order w ↦ w.keeps_order.ensures.0 w.if-not-keeps_order.false
            | else-preserves_semantics-via-else-preserves_semantics w ↦
                absurd (false≢true (sym w.if-preserves_semantics.false ∙ (c.preserves_semantics.ensures ∙ preserving)))
          ]) (wrote c.requests-2-1.given.0);
      refusal = tt;
      restored = tt;
      undrawn = tt;
      unchanged = (refl, (refl, refl));
    })

pub returns-in-Err : goal.returns-in-Err
returns-in-Err g c =
    let s : Setting = setting c.info.result.now (g.R.Rng.stream c.rng-rng.result.now) in
    let preserving = c.args.config.now.preserving in
    let site : Site = site_at c.args.input_wasm.now c.args.operators.now c.args.basicblock.now c.args.insertion_point in
    let graph = graph_of c.args.dfg.now in
    let is_graph : IsGraphOf (source_at s.info preserving site) graph = rw c.info.ensures at c.requires.graph in
    let block = piece_is site.block c.range.ensures.start c.range.ensures.end in
    let v = writing_in g.R.Rng.stream c.write_body.new.self in
    let sink : c.newfunc-1.given.0 ≡ c.write_body.new.self.sink.now = search rules in
    let done = body_given c.args.insertion_point graph c.get_global_count-globals.ensures
    (c.of-outside.ensures.before ∙ ap (before_block site.input site.operators) block)
    (c.of-outside.ensures.after ∙ ap (after_block site.input site.operators) block)
    (ap term_in c.as_ref.ensures.nodes) c.new-requests.ensures.items c.in-Err.ensures.taken in
    rw (is_set_up c.args.config.now c.info.result.now c.rng-rng.result.now c.info.ensures c.rng-rng.ensures.value) (record {
      written = tt;
      reads_again = tt;
      reread = tt;
      same_run = tt;
      requests = tt;
      generator = tt;
      order = order_kept s.info preserving site graph (Err c.in-Err.refusal) is_graph
          (λ preserving. elim c.else-preserves_semantics.branch [
            | else-preserves_semantics-via-then-preserves_semantics+else-not-keeps_order w ↦ w.keeps_order.ensures.0 w.if-not-keeps_order.false
            | else-preserves_semantics-via-else-preserves_semantics w ↦
                absurd (false≢true (sym w.if-preserves_semantics.false ∙ (c.preserves_semantics.ensures ∙ preserving)))
          ]) (not_for_order c.in-Err.refusal _ c.in-Err.ensures.taken.err);
      refusal = body_refused s preserving site graph (term_in c.args.expr.now) is_graph c.args.newfunc.now v c.in-Err.refusal done;
      restored = c.truncate.ensures ∙ (ap (λ (bytes : List ℕ). take c.len-old_len.result bytes) sink
          ∙ (ap (λ (n : ℕ). take n c.write_body.new.self.sink.now) c.len-old_len.ensures ∙ c.in-Err.ensures.taken.kept));
      undrawn = λ e. absurd (other_cause c.in-Err.refusal _ c.in-Err.ensures.taken.err e);
      unchanged = (refl, (refl, refl));
    })
