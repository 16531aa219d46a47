use Rattle.std.proofs.Common.{◌++◌, ◌∷◌, [], Ok, ap, ◌∙◌, string_bytes}
use Rattle.peephole_graphs.specs.ForestSteps.{edges, has_some_children}
use Rattle.std.proofs.lemmas.List.{nil_from_length}
use Rattle.std.proofs.lemmas.Result.{err_from_is_err_and}
use Rattle.peephole_graphs.specs.ForestText.{CanTell, AnswersAmong, branch, tree_lines, entry_term}
use Rattle.peephole_graphs.proofs.text.ForestWalk.{shown, among, among_fails, entry_there, child_there, at_child_of}
use Rattle.peephole_graphs.proofs.text.ForestWalk.{start_failed, start_inside, walk_start, child_inside, child_failed, child_written}
use Rattle.peephole_graphs.proofs.text.ForestWalk.{down_inside, down_smaller, IsTaken, taken, walk_up, up_inside, up_smaller}
use Rattle.peephole_graphs.proofs.forest_text.write_tree.Goals as goal

pub returns-in_err-write_entry : goal.returns-in_err-write_entry
returns-in_err-write_entry g c =
    let p = err_from_is_err_and c.from_residual.result c.from_residual.ensures.1 in
    rw (p.1, p.2) (start_failed c.args.entries.now c.args.root _ c.requires.below c.requires.root c.index-entries-root.is
    (AnswersAmong g.F.Fn c.args.f.now c.args.entries.now) (string_bytes c.args.text.now) c.in_err-write_entry.field-0.0
    (among_fails g.F.Fn c.args.f.now c.args.entries.now _ (entry_there c.args.entries.now c.args.root _ c.requires.root c.index-entries-root.is)
    (string_bytes c.args.text.now) c.in_err-write_entry.field-0.0 c.in_err-write_entry.ensures))

pub loop-ids-init : goal.loop-ids-init
loop-ids-init g c =
    let top = c.in_ok-push.ensures.items ∙ ap (λ x. x ++ c.children.result ∷ []) c.new-levels.ensures.items in
    record {
      inside = start_inside c.args.entries.now c.args.root _ c.requires.below c.requires.root c.index-entries-root.is c.children.result
          c.push.new.self.items c.children.ensures.value top;
      rest = walk_start c.args.entries.now c.args.root _ c.requires.below c.requires.root c.index-entries-root.is c.children.result
          c.push.new.self.items c.children.ensures.value top (AnswersAmong g.F.Fn c.args.f.now c.args.entries.now) (string_bytes c.args.text.now)
          (string_bytes c.write_entry.new.text) (among g.F.Fn c.args.f.now c.args.entries.now _
          (entry_there c.args.entries.now c.args.root _ c.requires.root c.index-entries-root.is) (string_bytes c.args.text.now)
          (Ok (string_bytes c.write_entry.new.text)) c.in_ok-write_entry.ensures);
    }

pub bounds-entries-child : goal.bounds-entries-child
bounds-entries-child g c =
    child_inside c.args.entries.now c.loop-ids.levels.items c.pop.new.self.items c.in-Some.ids c.in-Some-split_first.child.now
    c.in-Some-split_first.later.now c.in-Some.ensures.items c.in-Some-split_first.ensures.cases.0 c.loop-ids.invariant.inside

pub write_child-requires : goal.write_child-requires
write_child-requires g c =
    let t : IsTaken c.args.entries.now c.loop-ids.levels.items c.pop.new.self.items c.in-Some.ids c.in-Some-split_first.child.now
    c.in-Some-split_first.later c.index-entries-child.result =
    taken c.requires.below c.loop-ids.invariant.inside c.in-Some.ensures.items c.in-Some-split_first.ensures.cases.0 c.index-entries-child.is in
    at_child_of t (CanTell g.F.Fn c.args.f.now) c.requires.callable

pub returns-in_err-write_child : goal.returns-in_err-write_child
returns-in_err-write_child g c =
    let t : IsTaken c.args.entries.now c.loop-ids.levels.items c.pop.new.self.items c.in-Some.ids c.in-Some-split_first.child.now
    c.in-Some-split_first.later c.index-entries-child.result =
    taken c.requires.below c.loop-ids.invariant.inside c.in-Some.ensures.items c.in-Some-split_first.ensures.cases.0 c.index-entries-child.is in
    let p = err_from_is_err_and c.from_residual-in_err-write_child.result c.from_residual-in_err-write_child.ensures.1 in
    rw (p.1, p.2) (child_failed t (AnswersAmong g.F.Fn c.args.f.now c.args.entries.now) (string_bytes c.args.text.now)
    (tree_lines [] [] (entry_term c.args.entries.now c.args.root)) c.as_slice.result.now (string_bytes c.loop-ids.text) c.loop-ids.invariant.rest
    c.as_slice.ensures.value c.in_err-write_child.field-0.0
    (among_fails g.F.Fn c.args.f.now c.args.entries.now _ (child_there t)
    (string_bytes c.loop-ids.text ++ (edges (shown c.as_slice.result.now) ++ branch (has_some_children c.in-Some-split_first.later.now)))
    c.in_err-write_child.field-0.0
    c.in_err-write_child.ensures))

pub loop-ids-smaller-in-Continue-branch-5 : goal.loop-ids-smaller-in-Continue-branch-5
loop-ids-smaller-in-Continue-branch-5 g c =
    let t : IsTaken c.args.entries.now c.loop-ids.levels.items c.pop.new.self.items c.in-Some.ids c.in-Some-split_first.child.now
    c.in-Some-split_first.later c.index-entries-child.result =
    taken c.requires.below c.loop-ids.invariant.inside c.in-Some.ensures.items c.in-Some-split_first.ensures.cases.0 c.index-entries-child.is in
    down_smaller t c.push-in-Some-split_first-2.new.self.items c.children-in-Some-split_first.result c.children-in-Some-split_first.ensures.value
    (c.in_ok-push-3.ensures.items ∙ ap (λ x. x ++ c.children-in-Some-split_first.result ∷ []) c.in_ok-push-2.ensures.items)

pub loop-ids-preserved-in-Continue-branch-5 : goal.loop-ids-preserved-in-Continue-branch-5
loop-ids-preserved-in-Continue-branch-5 g c =
    let t : IsTaken c.args.entries.now c.loop-ids.levels.items c.pop.new.self.items c.in-Some.ids c.in-Some-split_first.child.now
    c.in-Some-split_first.later c.index-entries-child.result =
    taken c.requires.below c.loop-ids.invariant.inside c.in-Some.ensures.items c.in-Some-split_first.ensures.cases.0 c.index-entries-child.is in
    let kids = c.children-in-Some-split_first.result in
    let lb = c.children-in-Some-split_first.ensures.value in
    let next = c.in_ok-push-3.ensures.items ∙ ap (λ x. x ++ kids ∷ []) c.in_ok-push-2.ensures.items in
    record {
      inside = down_inside t c.push-in-Some-split_first-2.new.self.items kids lb next;
      rest = child_written t c.push-in-Some-split_first-2.new.self.items kids lb next (AnswersAmong g.F.Fn c.args.f.now c.args.entries.now)
          (string_bytes c.args.text.now) (tree_lines [] [] (entry_term c.args.entries.now c.args.root)) c.as_slice.result.now
          (string_bytes c.loop-ids.text) (string_bytes c.write_child.new.text) c.loop-ids.invariant.rest c.as_slice.ensures.value
          (among g.F.Fn c.args.f.now c.args.entries.now _ (child_there t)
          (string_bytes c.loop-ids.text ++ (edges (shown c.as_slice.result.now) ++ branch (has_some_children c.in-Some-split_first.later.now)))
          (Ok (string_bytes c.write_child.new.text)) c.in_ok-write_child.ensures);
    }

pub loop-ids-smaller : goal.loop-ids-smaller
loop-ids-smaller g c =
    up_smaller c.args.entries.now c.loop-ids.levels.items c.pop.new.self.items c.in-Some.ids c.in-Some.ensures.items
    (nil_from_length c.in-Some.ids.now c.in_default-split_first.ensures.cases)

pub loop-ids-preserved : goal.loop-ids-preserved
loop-ids-preserved g c = record {
  inside = up_inside c.args.entries.now c.loop-ids.levels.items c.pop.new.self.items c.in-Some.ids c.in-Some.ensures.items c.loop-ids.invariant.inside;
  rest = walk_up c.args.entries.now c.loop-ids.levels.items c.pop.new.self.items c.in-Some.ids c.in-Some.ensures.items
      (nil_from_length c.in-Some.ids.now c.in_default-split_first.ensures.cases) (AnswersAmong g.F.Fn c.args.f.now c.args.entries.now)
      (string_bytes c.args.text.now) (tree_lines [] [] (entry_term c.args.entries.now c.args.root)) (string_bytes c.loop-ids.text) c.loop-ids.invariant.rest;
}
