use Rattle.std.proofs.Common.{◌≡◌, ℕ, ◌+◌, ◌-◌, ◌<◌, inl, inr, List, length, get_or, ap, ◌∙◌, arith}
use Rattle.std.proofs.lemmas.Grind.{common_steps}
use Rattle.std.proofs.lemmas.List.{get_or_default}
use Rattle.std.proofs.lemmas.Result.{IfOk-weaker, IfErr-weaker}
use Rattle.peephole_lang.specs.Node.{node_of}
use Rattle.peephole_graphs.specs.declared.dfg.StackEntry.{StackEntry}
use Rattle.peephole_graphs.specs.declared.subtree.Subtree.{Subtree}
use Rattle.peephole_graphs.specs.Measures.{sizes_kept, SubtreesAreMeasured}
use Rattle.peephole_graphs.specs.Span.{IsSpan}
use Rattle.peephole_graphs.proofs.DfgLemmas.{sizes_count, kept_count, kept_size}
use Rattle.peephole_graphs.proofs.graph.LayoutTrees.{entries_below}
use Rattle.peephole_graphs.proofs.SpanLemmas.{Below, IsCopying, span_laid, span_holds, span_small}
use Rattle.peephole_graphs.proofs.dfg.MiniDFG.lay_out_at.Goals as goal

copying : (es : List StackEntry) (ts : List Subtree) (start root : ℕ) (own : Subtree) → SubtreesAreMeasured es ts → Below es → root < length es →
    own ≡ get_or ts root own → start ≡ (root + 1) - own.len → IsSpan es (sizes_kept ts) start (root + 1) → IsCopying es (sizes_kept ts) start root
copying es ts start root own m below l q w span =
    let n = sizes_count es (sizes_kept ts) m.sizes_are in
    record {
      sizes_are = m.sizes_are;
      below = below;
      inside = l;
      first = w ∙ ap (λ k. (root + 1) - k) (kept_size ts root own q ∙ get_or_default (sizes_kept ts) root own.len 0 (omega arith));
      span = span;
    }

pub index-requires : goal.index-requires
index-requires c = let e = kept_count _ _ c.args.self.now.measured in grind (arith, common_steps)

pub is_span-requires-clause-subtrees : goal.is_span-requires-clause-subtrees
is_span-requires-clause-subtrees c = rw (c.deref-2.ensures.value, c.deref.ensures.value) (kept_count _ _ c.args.self.now.measured)

pub copy_span-requires-clause-inside : goal.copy_span-requires-clause-inside
copy_span-requires-clause-inside c =
    let span = rw (c.deref.ensures.value, c.deref-2.ensures.value) at (c.is_span.ensures.0 c.if-is_span.true) in
    rw c.deref-then-is_span.ensures.value (span_holds c.args.self.now.entries.items (sizes_kept c.args.self.now.subtrees.items) _ c.args.root
    (copying _ _ _ _ _ c.args.self.now.measured c.args.self.now.trees.below c.requires c.index.ensures c.saturating_sub-start.ensures span))

pub copy_span-requires-clause-small : goal.copy_span-requires-clause-small
copy_span-requires-clause-small c =
    let span = rw (c.deref.ensures.value, c.deref-2.ensures.value) at (c.is_span.ensures.0 c.if-is_span.true) in
    rw c.deref-then-is_span.ensures.value (span_small c.args.self.now.entries.items (sizes_kept c.args.self.now.subtrees.items) _ c.args.root
    (copying _ _ _ _ _ c.args.self.now.measured c.args.self.now.trees.below c.requires c.index.ensures c.saturating_sub-start.ensures span)
    (c.args.self.now.trees.small c.args.root c.requires))

pub lay_out-requires-clause-below : goal.lay_out-requires-clause-below
lay_out-requires-clause-below c = rw c.deref-else-is_span.ensures.value (entries_below c.args.self.now.entries.items c.args.self.now.trees.below)

pub returns-then-is_span-clause-laid : goal.returns-then-is_span-clause-laid
returns-then-is_span-clause-laid c =
    let span = rw (c.deref.ensures.value, c.deref-2.ensures.value) at (c.is_span.ensures.0 c.if-is_span.true) in
    IfOk-weaker c.copy_span.result _ _ (λ expr h. span_laid c.args.self.now.entries.items (sizes_kept c.args.self.now.subtrees.items) _ c.args.root
    (copying _ _ _ _ _ c.args.self.now.measured c.args.self.now.trees.below c.requires c.index.ensures c.saturating_sub-start.ensures span) node_of expr
    (rw c.deref-then-is_span.ensures.value at h)) c.copy_span.ensures.nodes

pub returns-else-is_span-clause-laid : goal.returns-else-is_span-clause-laid
returns-else-is_span-clause-laid c = rw c.deref-else-is_span.ensures.value at c.lay_out.ensures.laid

-- no tree of a graph is too large
pub returns-else-is_span-clause-refused : goal.returns-else-is_span-clause-refused
returns-else-is_span-clause-refused c = IfErr-weaker c.lay_out.result _ _ (λ e h. elim h [
  | inl memory ↦ memory
  | inr large ↦
      let many = rw c.deref-else-is_span.ensures.value at large.1 in
      let few = c.args.self.now.trees.small c.args.root c.requires in
      absurd (omega arith)
]) c.lay_out.ensures.refused
