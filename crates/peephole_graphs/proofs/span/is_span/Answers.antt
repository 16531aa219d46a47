-- Whether one entry more belongs to the span.
use Rattle.std.proofs.Common.{◌≡◌, ℕ, ◌+◌, ◌-◌, ◌<◌, ◌≤◌, Bool, true, false, List, [], length, get_or, refl, sym, ap, ◌∙◌, subst}
use Rattle.std.proofs.Common.{inl, inr, arith}
use Rattle.std.specs.Prelude.{IsTrue, ◌↔◌, slice_index}
use Rattle.std.proofs.lemmas.Bool.{false≢true, cases_eq}
use Rattle.std.proofs.lemmas.List.{get_or-map}
use Rattle.peephole_lang.specs.Node.{children_of}
use Rattle.peephole_lang.specs.Term.{numbers_of}
use Rattle.peephole_graphs.specs.declared.dfg.StackEntry.{StackEntry}
use Rattle.peephole_graphs.specs.declared.subtree.Subtree.{Subtree}
use Rattle.peephole_graphs.specs.Entries.{children_at}
use Rattle.peephole_graphs.specs.Measures.{sizes_kept, size_kept}
use Rattle.peephole_graphs.specs.Span.{lie_behind, IsSpan}
use Rattle.peephole_graphs.proofs.span.is_span.Goals as goal

-- the children that are read, and the size
children_read : (es : List StackEntry) (i : ℕ) (e : StackEntry) (ns : List ℕ) → ns ≡ children_of (get_or es i e).operator →
    i < length es → ns ≡ children_at es i
children_read es i e ns k l = k ∙ sym (get_or-map (λ (x : StackEntry). children_of x.operator) es i e [] l)

size_read : (ts : List Subtree) (i : ℕ) (d : Subtree) → i < length ts → (get_or ts i d).len ≡ size_kept ts i
size_read ts i d l = sym (get_or-map (λ (x : Subtree). x.len) ts i d 0 l)

too_long : (es : List StackEntry) (sizes : List ℕ) (start end i z : ℕ) → (i + 1) - start < z → z ≡ slice_index sizes i → start ≤ i → i < end →
    IsTrue false ↔ IsSpan es sizes start end
too_long es sizes start end i z h q l m = (λ w. absurd (false≢true w), λ s. let a = s.within i l m in absurd (omega arith))

not_behind : (es : List StackEntry) (sizes : List ℕ) (start end i z : ℕ) (ns : List ℕ) (b : Bool) →
    b ≡ lie_behind (slice_index sizes) ((i + 1) - z) ns → z ≡ slice_index sizes i →
    ns ≡ children_at es i → start ≤ i → i < end → b ≡ false → IsTrue false ↔ IsSpan es sizes start end
not_behind es sizes start end i z ns b h q k l m f = (
  λ w. absurd (false≢true w),
  λ s. absurd (false≢true (sym f ∙ (h ∙ ((λ j. lie_behind (slice_index sizes) ((i + 1) - q j) (k j)) ∙ s.behind i l m)))),
)

one_more : (es : List StackEntry) (sizes : List ℕ) (start i z : ℕ) (ns : List ℕ) (b : Bool) → b ≡ lie_behind (slice_index sizes)
    ((i + 1) - z) ns → z ≡ slice_index sizes i →
    ns ≡ children_at es i → start ≤ i → z ≤ (i + 1) - start → b ≡ true → IsSpan es sizes start i → IsSpan es sizes start (i + 1)
one_more es sizes start i z ns b h q k l m t s = record {
  within = λ j from before. elim (cases_eq j i) [
    | inl e ↦ let same : slice_index sizes j ≡ slice_index sizes i = ap (slice_index sizes) e in omega arith
    | inr other ↦ s.within j from (omega arith)
  ];
  behind = λ j from before. elim (cases_eq j i) [
    | inl e ↦ subst (λ n. IsTrue (lie_behind (slice_index sizes) ((n + 1) - slice_index sizes n) (children_at es n))) (sym e)
        (sym (λ u. lie_behind (slice_index sizes) ((i + 1) - q u) (k u)) ∙ (sym h ∙ t))
    | inr other ↦ s.behind j from (omega arith)
  ];
}

pub returns-then-size-i : goal.returns-then-size-i
returns-then-size-i c = too_long c.args.entries.now (sizes_kept c.args.subtrees.now) c.args.start c.args.end c.loop-i.i _ c.if-size-i.true
    (size_read c.args.subtrees.now c.loop-i.i _ (omega arith)) (omega arith) (omega arith)

pub returns-then-not-lie_one_behind_another : goal.returns-then-not-lie_one_behind_another
returns-then-not-lie_one_behind_another c = not_behind c.args.entries.now (sizes_kept c.args.subtrees.now) c.args.start c.args.end c.loop-i.i _
    (numbers_of c.children.result.now) c.lie_one_behind_another.result
    c.lie_one_behind_another.ensures (size_read c.args.subtrees.now c.loop-i.i _ (omega arith))
    (children_read c.args.entries.now c.loop-i.i c.index-entries-i.result _ (ap numbers_of c.children.ensures.value) (omega arith))
    (omega arith) (omega arith) c.if-not-lie_one_behind_another.true

pub loop-i-preserved : goal.loop-i-preserved
loop-i-preserved c = one_more c.args.entries.now (sizes_kept c.args.subtrees.now) c.args.start c.loop-i.i _
    (numbers_of c.children.result.now) c.lie_one_behind_another.result
    c.lie_one_behind_another.ensures (size_read c.args.subtrees.now c.loop-i.i _ (omega arith))
    (children_read c.args.entries.now c.loop-i.i c.index-entries-i.result _ (ap numbers_of c.children.ensures.value) (omega arith))
    (omega arith) c.if-size-i.false c.if-not-lie_one_behind_another.false c.loop-i.invariant

pub returns : goal.returns
returns c = (
  λ w. record {
    within = λ i from before. c.loop-i.invariant.within i from (omega arith);
    behind = λ i from before. c.loop-i.invariant.behind i from (omega arith);
  },
  λ w. refl,
)
