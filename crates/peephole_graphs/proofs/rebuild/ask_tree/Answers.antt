use Rattle.std.proofs.Common.{◌∷◌, [], ◌++◌, ◌∙◌, List, ap, inr, refl, length, arith, length-append}
use Rattle.peephole_nodes.specs.declared.id.Id.{Id}
use Rattle.peephole_graphs.proofs.terms.NodeRequests.{requests_start, requests_go_on, requests_end, requests_too_long}
use Rattle.peephole_graphs.proofs.rebuild.ask_tree.Goals as goal

pub loop-id-init : goal.loop-id-init
loop-id-init g c = (
  requests_start g.L.Language.head g.L.Language.children (λ id r. g.F.Fn.post c.args.id_to_lang (id, tt) r) c.args.root
      c.push.new.self.items c.new-nodes.result.items
      (c.in_ok-push.ensures.items ∙ ap (λ (x : List Id). x ++ c.args.root ∷ []) c.new-ids.ensures.items) c.new-nodes.ensures.items,
  (let none = ap (λ xs. length xs) c.new-nodes.ensures.items in omega arith),
)

pub returns-then-len-ge-LIMIT-clause-refused : goal.returns-then-len-ge-LIMIT-clause-refused
returns-then-len-ge-LIMIT-clause-refused g c =
    inr (
      refl,
      requests_too_long g.L.Language.head g.L.Language.children (λ id r. g.F.Fn.post c.args.id_to_lang (id, tt) r) c.args.root
          c.in-Some.id c.loop-id.ids.items c.pop.new.self.items c.loop-id.nodes.items c.id_to_lang-node.result c.in-Some.ensures.items
          c.id_to_lang-node.ensures (let many = c.len.ensures ∙ c.loop-id.nodes.ok.0 in
          let limit = c.if-len-ge-LIMIT.true in omega arith) c.loop-id.invariant.0,
    )

pub loop-id-preserved : goal.loop-id-preserved
loop-id-preserved g c = (
  requests_go_on g.L.Language.head g.L.Language.children (λ id r. g.F.Fn.post c.args.id_to_lang (id, tt) r) c.args.root
      c.in-Some.id c.loop-id.ids.items c.pop.new.self.items c.extend_from_slice.new.self.items c.children.result.now c.loop-id.nodes.items
      c.push-in-Some.new.self.items c.id_to_lang-node.result c.in-Some.ensures.items c.id_to_lang-node.ensures
      c.in_ok-push-2.ensures.items c.in_ok-extend_from_slice.ensures.items c.children.ensures.value c.loop-id.invariant.0,
  (let many = c.len.ensures ∙ c.loop-id.nodes.ok.0 in let limit = c.if-len-ge-LIMIT.false in let more =
      ap (λ xs. length xs) c.in_ok-push-2.ensures.items in
      omega (arith, length-append c.loop-id.nodes.items (c.id_to_lang-node.result ∷ []))),
)

pub returns-clause-tree : goal.returns-clause-tree
returns-clause-tree g c =
    requests_end g.L.Language.head g.L.Language.children (λ id r. g.F.Fn.post c.args.id_to_lang (id, tt) r)
    c.args.root.0 _ c.loop-id.ids.items c.loop-id.nodes.items c.loop-id.ids.ok.0 c.in_default.ensures.cases.0 c.loop-id.invariant.0
