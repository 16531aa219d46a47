-- What the steps of `add_operator` do, as a step of the graph.
use Rattle.std.proofs.Common.{◌≡◌, ℕ, zero, suc, ◌+◌, ◌-◌, ◌<◌, ◌≤◌, Bool, true, false, cond, List, [], ◌∷◌, ◌++◌, length, take, drop, set, replicate, Option}
use Rattle.std.proofs.Common.{None, Some, refl, sym, ap, ap₂, ◌∙◌, subst, arith, ⊎_elim}
use Rattle.std.specs.Prelude.{reverse, if◌then◌else◌}
use Rattle.std.specs.List.{All}
use Rattle.std.proofs.lemmas.Bool.Decides.{nat_tests}
use Rattle.std.proofs.lemmas.Bool.{cases_lt}
use Rattle.std.proofs.lemmas.List.{append_cancel_left, reverse-append, reverse-reverse, length-reverse, length-drop, take_at, take_all, take-append-drop}
use Rattle.std.proofs.lemmas.List.{replicate_more, set-append_left, set_at}
use Rattle.std.proofs.lemmas.List.Elements.{All-head, All-tail, All-drop}
use Rattle.peephole_graphs.specs.Shape.{Shape}
use Rattle.peephole_graphs.specs.Forest.{has}
use Rattle.peephole_graphs.specs.Graph.{undef}
use Rattle.peephole_graphs.specs.Step.{mark, down, grown, GraphGrowth}
use Rattle.peephole_graphs.specs.Growing.{set_each}
use Rattle.peephole_graphs.proofs.Lists.{all_reverse, has_reverse}
use Rattle.peephole_graphs.proofs.graph.StackGraph.{IsGraph, length-mark, taken_below}
use Rattle.peephole_graphs.specs.Graph as graph

pub reverse_push : {A : Type 0} (xs : List A) (x : A) → reverse (xs ++ x ∷ []) ≡ x ∷ reverse xs
reverse_push xs x = reverse-append xs (x ∷ [])

pub reverse_replicate : {A : Type 0} (n : ℕ) (x : A) → reverse (replicate n x) ≡ replicate n x
reverse_replicate zero x = refl
reverse_replicate (suc n) x = grind (arith, reverse-append (x ∷ []) (replicate n x), reverse_replicate n x, replicate_more n x)

reverse_parts : {A : Type 0} (a : ℕ) (xs : List A) → reverse xs ≡ reverse (drop a xs) ++ reverse (take a xs)
reverse_parts a xs = ap reverse (sym (take-append-drop a xs)) ∙ reverse-append (take a xs) (drop a xs)

pub take_reverse : {A : Type 0} (k : ℕ) (xs : List A) → take k (reverse xs) ≡ reverse (drop (length xs - k) xs)
take_reverse k xs =
    let a = length xs - k in
    let n = length-reverse (drop a xs) in
    let m = length-drop a xs in
    let whole = length-reverse xs in
    ⊎_elim
    (λ l. let e : 0 ≡ a = omega arith in take_all k (reverse xs) (omega arith) ∙ ap (λ a. reverse (drop a xs)) e)
    (λ l. ap (take k) (reverse_parts a xs) ∙ take_at (reverse (drop a xs)) (reverse (take a xs)) k (omega arith))
    (cases_lt (length xs) k)

pub drop_reverse : {A : Type 0} (k : ℕ) (xs : List A) → drop k (reverse xs) ≡ reverse (take (length xs - k) xs)
drop_reverse k xs = append_cancel_left (take k (reverse xs)) _ _ (take-append-drop k (reverse xs) ∙ (reverse_parts (length xs - k) xs ∙
    ap (λ x. x ++ reverse (take (length xs - k) xs)) (sym (take_reverse k xs))))

mark_none : (p i : ℕ) (qs : List (Option ℕ)) → length qs ≤ i → mark p (i ∷ []) qs ≡ qs
mark_none p i [] l = refl
mark_none p i (q ∷ qs) l = let ih = mark_none p i qs in grind (arith, nat_tests)

mark_one : (p i : ℕ) (qs : List (Option ℕ)) → i < length qs → set (reverse qs) i (Some p) ≡ reverse (mark p (i ∷ []) qs)
mark_one p i [] l = absurd (omega arith)
mark_one p i (q ∷ qs) l =
    let ih = mark_one p i qs in
    let none = mark_none p i qs in
    let last = set_at (reverse qs) q [] (Some p) i in
    let before = set-append_left (reverse qs) (q ∷ []) i (Some p) in
    let count = length-reverse qs in
    grind (arith, nat_tests, reverse-append (q ∷ []) qs, reverse-append (Some p ∷ []) qs, reverse-append (q ∷ []) (mark p (i ∷ []) qs))

mark_both : (p i : ℕ) (is : List ℕ) (qs : List (Option ℕ)) → mark p is (mark p (i ∷ []) qs) ≡ mark p (i ∷ is) qs
mark_both p i is [] = refl
mark_both p i is (q ∷ qs) = grind (arith, length-mark p (i ∷ []) qs, mark_both p i is qs)

mark_all : (p : ℕ) (is : List ℕ) (qs : List (Option ℕ)) → All (λ i. i < length qs) is → reverse (set_each p is (reverse qs)) ≡ mark p is qs
mark_all p [] qs h = reverse-reverse qs ∙ sym (mark_nil qs)
  where
    mark_nil : (qs : List (Option ℕ)) → mark p [] qs ≡ qs
    mark_nil [] = refl
    mark_nil (q ∷ qs) = ap (λ x. q ∷ x) (mark_nil qs)
mark_all p (i ∷ is) qs h =
    let low = All-head (λ i. i < length qs) i is h in
    let rest = subst (λ n. All (λ i. i < n) is) (sym (length-mark p (i ∷ []) qs)) (All-tail (λ i. i < length qs) i is h) in
    ap (λ x. reverse (set_each p is x)) (mark_one p i qs low) ∙ (mark_all p is (mark p (i ∷ []) qs) rest ∙ mark_both p i is qs)

mark_same : (p : ℕ) (is js : List ℕ) → ((j : ℕ) → has j is ≡ has j js) → (qs : List (Option ℕ)) → mark p is qs ≡ mark p js qs
mark_same p is js h [] = refl
mark_same p is js h (q ∷ qs) = ap₂ (λ b x. (if b then Some p else q) ∷ x) (h (length qs)) (mark_same p is js h qs)

state_same : {a b : List graph.GraphEntry} {c d : List (Option ℕ)} {e f : List ℕ} → a ≡ b → c ≡ d → e ≡ f →
    ◌≡◌ {A = GraphGrowth} (record { nodes = a; parents = c; stack = e }) (record { nodes = b; parents = d; stack = f })
state_same p q r = λ i. record { nodes = p i; parents = q i; stack = r i }

pub grown_is : (s : Shape) (n c base : ℕ) (nodes : List graph.GraphEntry) (parents : List (Option ℕ)) (stack : List ℕ)
    (nodes' : List graph.GraphEntry) (parents' : List (Option ℕ)) (stack' : List ℕ) → base ≡ length nodes →
    All (λ i. i < length parents) stack → (let more = s.operands - length stack in
    let at = length stack - s.operands in
    let taken = drop at stack in
    nodes' ≡ (nodes ++ replicate more (undef n)) ++ record { shape = Some s; children = down base more ++ taken; number = n; color = c } ∷ [] →
    parents' ≡ (set_each (base + more) taken parents ++ replicate more (Some (base + more))) ++ None ∷ [] →
    stack' ≡ (if s.has_result then take at stack ++ (base + more) ∷ [] else take at stack) →
    ◌≡◌ {A = GraphGrowth} (record { nodes = reverse nodes'; parents = reverse parents'; stack = reverse stack' })
    (grown (record { nodes = reverse nodes; parents = reverse parents; stack = reverse stack }) s n c))
grown_is s n c base nodes parents stack nodes' parents' stack' o h e f g =
    let k = s.operands in
    let at = length stack - k in
    let taken = drop at stack in
    let more_is = ap (λ x. k - x) (sym (length-reverse stack)) in
    let base_is = o ∙ sym (length-reverse nodes) in
    let own_is = ap₂ (λ x y. x + y) base_is more_is in
    let taken_back : reverse taken ≡ take k (reverse stack) = sym (take_reverse k stack) in
    let taken_is : taken ≡ reverse (take k (reverse stack)) = sym (reverse-reverse taken) ∙ ap reverse taken_back in
    let low : All (λ i. i < length (reverse parents)) taken = subst (λ x. All (λ i. i < x) taken) (sym (length-reverse parents))
    (All-drop (λ i. i < length parents) at stack h) in
    let marked = ap (λ x. reverse (set_each (base + (k - length stack)) taken x)) (sym (reverse-reverse parents)) ∙
    (mark_all (base + (k - length stack)) taken (reverse parents) low ∙
    (mark_same (base + (k - length stack)) taken (reverse taken) (λ j. sym (has_reverse j taken)) (reverse parents) ∙
    ap₂ (λ x y. mark x y (reverse parents)) own_is taken_back)) in
    state_same (ap reverse e ∙ (reverse_push (nodes ++ replicate (k - length stack) (undef n)) _ ∙
    ap₂ (λ x y. record { shape = Some s; children = x; number = n; color = c } ∷ y) (ap₂ (λ x y. x ++ y) (ap₂ down base_is more_is) taken_is)
    (reverse-append nodes (replicate (k - length stack) (undef n)) ∙ ap (λ x. x ++ reverse nodes)
    (reverse_replicate (k - length stack) (undef n) ∙ ap (λ x. replicate x (undef n)) more_is))))
    (ap reverse f ∙ (reverse_push (set_each (base + (k - length stack)) taken parents ++ replicate (k - length stack) _) None ∙ ap (λ x. None ∷ x)
    (reverse-append (set_each (base + (k - length stack)) taken parents) (replicate (k - length stack) _) ∙
    ap₂ (λ x y. x ++ y) (reverse_replicate (k - length stack) _ ∙ ap₂ (λ x y. replicate x (Some y)) more_is own_is) marked)))
    (ap reverse g ∙ go s.has_result _ _ _ _ own_is (sym (drop_reverse k stack)))
  where
    go : (b : Bool) (own own' : ℕ) (left left' : List ℕ) → own ≡ own' → reverse left ≡ left' →
        reverse (cond b (left ++ own ∷ []) left) ≡ cond b (own' ∷ left') left'
    go true own own' left left' u v = reverse_push left own ∙ ap₂ (λ x y. x ∷ y) u v
    go false own own' left left' u v = v

pub stack_below : (block : List Shape) (nodes : List graph.GraphEntry) (parents : List (Option ℕ)) (stack : List ℕ) →
    IsGraph block (record { nodes = nodes; parents = reverse parents; stack = reverse stack }) → All (λ i. i < length parents) stack
stack_below block nodes parents stack h =
    let P : ℕ → Type 0 = λ i. i < length parents in
    let all = taken_below block (record { nodes = nodes; parents = reverse parents; stack = reverse stack }) h (length stack) in
    let back = subst (λ n. All (λ i. i < n) (take (length stack) (reverse stack))) (sym h.same_length ∙ length-reverse parents) all in
    subst (All P) (reverse-reverse stack) (all_reverse P (reverse stack)
    (subst (All P) (take_all (length stack) (reverse stack) (omega (arith, length-reverse stack))) back))
