use Rattle.std.proofs.Common.{◌≡◌, ℕ, ◌-◌, ◌<◌, List, [], ◌∷◌, ◌++◌, length, take, drop, map, sym, ap, ap₂, subst, ◌∙◌, arith}
use Rattle.std.specs.Prelude.{All}
use Rattle.std.proofs.lemmas.List.{drop-map, take-map, map-append}
use Rattle.std.proofs.lemmas.List.Elements.{All-drop}
use Rattle.peephole_nodes.specs.declared.id.Id.{Id}
use Rattle.peephole_lang.specs.Term.{numbers_of}
use Rattle.peephole_graphs.specs.Layout.{node_by}
use Rattle.peephole_graphs.proofs.layout.add_own.Goals as goal

place_is : (fin kids own : List Id) (n : ℕ) → n ≡ length fin → kids ≡ own → n - length kids ≡ length fin - length own
place_is fin kids own n e k =
    let m = ap (λ (x : List Id). length x) k in
    omega arith

ids_are : (fin ids kids own : List Id) (n : ℕ) → n ≡ length fin → kids ≡ own → ids ≡ drop (n - length kids) fin →
    numbers_of ids ≡ drop (length fin - length own) (numbers_of fin)
ids_are fin ids kids own n e k t =
    ap numbers_of t ∙ (sym (drop-map (λ (i : Id). i.0) (n - length kids) fin) ∙
    ap (λ m. drop m (numbers_of fin)) (place_is fin kids own n e k))

left_are : (fin left kids own : List Id) (n : ℕ) → n ≡ length fin → kids ≡ own → left ≡ take (n - length kids) fin →
    numbers_of left ≡ take (length fin - length own) (numbers_of fin)
left_are fin left kids own n e k t =
    ap numbers_of t ∙ (sym (take-map (λ (i : Id). i.0) (n - length kids) fin) ∙
    ap (λ m. take m (numbers_of fin)) (place_is fin kids own n e k))

added_is : {L H : Type 0} (head : L → H) (children : L → List ℕ) (old new : List L) (own given : L) (is : List ℕ) → new ≡ old ++ own ∷ [] →
    head own ≡ head given → children own ≡ is →
    map (node_by head children) new ≡ map (node_by head children) old ++ record { head = head given; children = is } ∷ []
added_is {L} {H} head children old new own given is e h k =
    ap (map (node_by head children)) e ∙ (map-append (node_by head children) old (own ∷ []) ∙
    ap₂ (λ (x : H) (y : List ℕ). map (node_by head children) old ++ record { head = x; children = y } ∷ []) h k)

pub add-requires : goal.add-requires
add-requires g c =
    let P : ℕ → Type 0 = λ k. k < length c.args.expr.now in
    subst (λ (x : List ℕ). All P x) (sym (g.met.L.Language.numbers c.in_ok-over.field-0 ∙ (ap numbers_of (c.in_ok-over.ensures.ids ∙
    c.deref.ensures.value) ∙ (ids_are c.args.finished.now.items c.in_ok-ids.ids.items c.children-count.result.now
    (g.L.Language.ids c.args.node.now) c.len.result (c.len.ensures ∙ c.args.finished.now.ok.0) c.children-count.ensures.ids
    c.in_ok-ids.ensures.tail)))) (All-drop P _ _ c.requires.below)

pub returns-clause-added : goal.returns-clause-added
returns-clause-added g c =
    added_is g.L.Language.head g.L.Language.children c.args.expr.now _ c.in_ok-over.field-0 c.args.node.now _ c.in_ok-own.ensures.added
    c.in_ok-over.ensures.head
    (g.met.L.Language.numbers c.in_ok-over.field-0 ∙ (ap numbers_of (c.in_ok-over.ensures.ids ∙ c.deref.ensures.value) ∙
    (ids_are c.args.finished.now.items c.in_ok-ids.ids.items c.children-count.result.now (g.L.Language.ids c.args.node.now) c.len.result
    (c.len.ensures ∙ c.args.finished.now.ok.0) c.children-count.ensures.ids c.in_ok-ids.ensures.tail)))

pub returns-clause-finished : goal.returns-clause-finished
returns-clause-finished g c =
    ap numbers_of c.in_ok-push.ensures.items ∙ (map-append (λ (i : Id). i.0) c.split_off.new.self.items (c.in_ok-own.own ∷ [])
    ∙ ap₂ (λ (x : List ℕ) (y : ℕ). x ++ y ∷ [])
    (left_are c.args.finished.now.items c.split_off.new.self.items c.children-count.result.now
    (g.L.Language.ids c.args.node.now) c.len.result
    (c.len.ensures ∙ c.args.finished.now.ok.0) c.children-count.ensures.ids c.in_ok-ids.ensures.items)
    c.in_ok-own.ensures.place)
