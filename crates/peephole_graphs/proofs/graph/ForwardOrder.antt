-- `forwards` tells the order.
use Rattle.std.proofs.Common.{◌≡◌, ℕ, zero, suc, ◌+◌, ◌-◌, ◌<◌, ◌≤◌, Bool, true, List, [], ◌∷◌, ◌++◌, length, take, Option, None, Some, refl, sym, ap, ap₂}
use Rattle.std.proofs.Common.{◌∙◌, subst, arith}
use Rattle.std.specs.Prelude.{◌&&◌, ◌==◌, ◌↔◌, IsTrue, reverse, replicate}
use Rattle.std.specs.List.{All, sum_by}
use Rattle.std.proofs.Math.Bool.{and-true, and_comm}
use Rattle.std.proofs.lemmas.Bool.{cond-false, ne_eqb, and_parts, and_from, false≢true}
use Rattle.std.proofs.lemmas.List.{reverse-append, length-map}
use Rattle.std.proofs.lemmas.List.Sums.{sum_by-cons, sum_by-take-le}
use Rattle.std.proofs.lemmas.List.Elements.{All-head, All-tail}
use Rattle.std.proofs.lemmas.Bool.Decides.{nat_tests}
use Rattle.peephole_graphs.specs.Shape.{Shape}
use Rattle.peephole_graphs.specs.Forest.{IsInOrder}
use Rattle.peephole_graphs.specs.Color.{color_after, color_at}
use Rattle.peephole_graphs.specs.Graph.{GraphEntry, undef, item}
use Rattle.peephole_graphs.specs.GraphOf.{IsSmall}
use Rattle.peephole_graphs.proofs.graph.BlockGraph.{entry_at, is_operator, IsOperatorOrMissing}
use Rattle.peephole_graphs.specs.Step.{down}
use Rattle.peephole_graphs.specs.Downwards.{Kin, downwards, kin_at}
use Rattle.peephole_graphs.specs.Measures.{sizes_of, forward, forwards}
use Rattle.peephole_graphs.proofs.graph.StackGraph.{graph, is_graph, behind, taken_below}
use Rattle.peephole_graphs.proofs.Lists.{all_reverse, all_has, sum_by-reverse}
use Rattle.peephole_graphs.proofs.graph.BlockGraphLemmas.{at_old, at_more, facts, taken_root}
use Rattle.peephole_graphs.proofs.graph.Sizes.{sizes_replicate, sizes_length}
use Rattle.peephole_graphs.proofs.graph.Totals.{kin_of, kins, new_kin, kins_step, sizes_grown, size_of_entry, stack_total}
use Rattle.peephole_graphs.proofs.graph.OrderBySizes.{chain, ChainsOk, chains_from_order, order_from_chains}

forward_down : (size color : ℕ → ℕ) (at b k : ℕ) (cs : List ℕ) → ((i : ℕ) → b ≤ i → i < b + k → color i ≡ 4294967295) →
    forward size color at (down b k ++ cs) ≡ forward size color at cs
forward_down size color at b zero cs h = refl
forward_down size color at b (suc k) cs h =
    grind (arith, nat_tests, h (b + k) (omega arith) (omega arith), forward_down size color at b k cs (λ i m l. h i m (omega arith)))

-- of operators' entries alone
abbrev Colors : (ℕ → ℕ) → List ℕ → Type 0
Colors color cs = All (λ c. color c < 4294967295) cs

forward_push : (size color : ℕ → ℕ) (at t : ℕ) (cs : List ℕ) → Colors color cs → color t < 4294967295 →
    forward size color at (cs ++ t ∷ []) ≡ (forward size color at cs && (suc t == (at + sum_by size cs) + size t))
forward_push size color at t [] h l = grind (arith, nat_tests)
forward_push size color at t (c ∷ cs) h l =
    let P : ℕ → Type 0 = λ c. color c < 4294967295 in
    let own = All-head P c cs h in
    let e : (at + size c) + sum_by size cs ≡ at + sum_by size (c ∷ cs) = omega (arith, sum_by-cons size c cs) in
    grind (arith, nat_tests, forward_push size color (at + size c) t cs (All-tail P c cs h) l)

forward_chain : (size color : ℕ → ℕ) (end : ℕ) (ts : List ℕ) → Colors color ts → sum_by size ts ≤ end →
    forward size color (end - sum_by size ts) (reverse ts) ≡ chain size end ts
forward_chain size color end [] h l = refl
forward_chain size color end (t ∷ ts) h l =
    let P : ℕ → Type 0 = λ c. color c < 4294967295 in
    let later = All-tail P t ts h in
    let back = all_reverse P ts later in
    let at = end - sum_by size (t ∷ ts) in
    let s = sum_by-cons size t ts in
    let e : at ≡ (end - size t) - sum_by size ts = omega arith in
    let r = sum_by-reverse size ts in
    let f : (at + sum_by size (reverse ts)) + size t ≡ end = omega arith in
    ap (forward size color at) (reverse-append (t ∷ []) ts) ∙ (forward_push size color at t (reverse ts) back (All-head P t ts h) ∙
    (ap₂ (λ x y. x && (suc t == y)) (ap (λ a. forward size color a (reverse ts)) e ∙ forward_chain size color (end - size t) ts later
    (omega arith)) f ∙ and_comm (chain size (end - size t) ts) (suc t == end)))

forward_same : (f g h k : ℕ → ℕ) (at n : ℕ) (cs : List ℕ) → All (λ i. i < n) cs → ((i : ℕ) → i < n → f i ≡ g i) →
    ((i : ℕ) → i < n → h i ≡ k i) → forward f h at cs ≡ forward g k at cs
forward_same f g h k at n [] a p q = refl
forward_same f g h k at n (c ∷ cs) a p q =
    let l = All-head (λ i. i < n) c cs a in
    let r = All-tail (λ i. i < n) c cs a in
    grind (arith, p c l, q c l, forward_same f g h k at n cs r p q, forward_same f g h k (at + f c) n cs r p q)

forwards_replicate : (u : Kin) (k : ℕ) (xs : List Kin) → u.children ≡ [] → forwards (replicate k u ++ xs) ≡ forwards xs
forwards_replicate u zero xs e = refl
forwards_replicate u (suc k) xs e =
    let ys = replicate k u ++ xs in
    ap (λ x. forwards ys && forward (λ i. item 0 (sizes_of ys) i) (λ i. (kin_at ys i).color)
    (suc (length ys) - length (downwards (u ∷ ys) (length ys))) x) e ∙ (and-true (forwards ys) ∙ forwards_replicate u k xs e)

item_older : {A : Type 0} (d x : A) (ys : List A) (i : ℕ) → i < length ys → item d ys i ≡ item d (x ∷ ys) i
item_older d x ys i l = sym (cond-false _ _ _ (ne_eqb (length ys) i (λ w. omega arith)))

pub kin_entry : (nodes : List GraphEntry) (i : ℕ) → i < length nodes → kin_at (kins nodes) i ≡ kin_of (entry_at nodes i)
kin_entry [] i l = absurd (omega arith)
kin_entry (e ∷ nodes) i l = grind (arith, nat_tests, length-map nodes kin_of, kin_entry nodes i)

pub color_small : (preserving : Bool) (block : List Shape) (n : ℕ) → IsSmall preserving block → n < length block → color_at preserving block n < 4294967295
color_small preserving [] n h l = absurd (omega arith)
color_small preserving (s ∷ earlier) n h l = let own = h.2 in grind (arith, nat_tests, color_small preserving earlier n h.0)

pub operator_color : (preserving : Bool) (block : List Shape) (e : GraphEntry) (o : Option Shape) →
    IsOperatorOrMissing preserving block o e → is_operator o ≡ true → e.color ≡ color_at preserving block e.number
operator_color preserving block e None h w = absurd (false≢true w)
operator_color preserving block e (Some s) h w = h.1

forwards_step : (preserving : Bool) (s : Shape) (earlier : List Shape) → IsSmall preserving (s ∷ earlier) →
    forwards (kins (graph preserving (s ∷ earlier)).nodes) ≡ (forwards (kins (graph preserving earlier).nodes) &&
    chain (size_of_entry (graph preserving earlier)) (length (graph preserving earlier).nodes) (take s.operands (graph preserving earlier).stack))
forwards_step preserving s earlier small =
    let g = graph preserving earlier in
    let ig = is_graph preserving earlier in
    let c = color_after preserving earlier in
    let n = length earlier in
    let more = s.operands - length g.stack in
    let base = length g.nodes in
    let taken = take s.operands g.stack in
    let xs = kins g.nodes in
    let u = kin_of (undef n) in
    let ys = replicate more u ++ xs in
    let new = new_kin s g c in
    let f = size_of_entry g in
    let none : Kin = record { children = []; color = 0 } in
    let xs_length : length xs ≡ base = length-map g.nodes kin_of in
    let ys_length = behind u more xs in
    let below = taken_below earlier g ig s.operands in
    let sum : sum_by f taken ≤ base = let a = sum_by-take-le f g.stack s.operands in let b = stack_total preserving earlier in
    omega arith in
    let sizes = ap sizes_of (sym (kins_step s g n c)) ∙ sizes_grown s earlier g n c ig in
    let size_is : length (downwards (new ∷ ys) (length ys)) ≡ suc (more + sum_by f taken) = cc in
    let start : suc (length ys) - length (downwards (new ∷ ys) (length ys)) ≡ base - sum_by f taken = omega arith in
    let sizes_ys : sizes_of ys ≡ replicate more 1 ++ sizes_of xs = sizes_replicate u more xs refl in
    let sl = sizes_length xs in
    let size_old : (i : ℕ) → i < base → item 0 (sizes_of ys) i ≡ f i =
    λ i l. ap (λ z. item 0 z i) sizes_ys ∙ (item_older 0 0 (replicate more 1 ++ sizes_of xs) i
    (let a = behind 1 more (sizes_of xs) in omega arith) ∙ at_old 0 0 1 more (sizes_of xs) i (omega arith)) in
    let color_old : (i : ℕ) → i < base → (kin_at ys i).color ≡ (kin_at xs i).color =
    λ i l. ap (λ (z : Kin). z.color) (item_older none new ys i (omega arith) ∙ at_old none new u more xs i (omega arith)) in
    let color_more : (i : ℕ) → base ≤ i → i < base + more → (kin_at ys i).color ≡ 4294967295 =
    λ i m l. ap (λ (z : Kin). z.color) (item_older none new ys i (omega arith) ∙ at_more none new u more xs i (omega arith)
    (omega arith)) in
    let colored : Colors (λ i. (kin_at xs i).color) taken = all_has (λ i. (kin_at xs i).color < 4294967295) taken (λ i h.
    let r = taken_root earlier g ig s.operands i h in
    let e = (facts preserving earlier).entries i r.1 in
    let d = operator_color preserving earlier (entry_at g.nodes i) (entry_at g.nodes i).shape e.1 r.2 in
    subst (λ x. x < 4294967295) (sym (ap (λ (z : Kin). z.color) (kin_entry g.nodes i r.1) ∙ d)) (color_small preserving earlier
    (entry_at g.nodes i).number small.0 e.0)) in
    ap forwards (kins_step s g n c) ∙ ap₂ (λ a b. a && b) (forwards_replicate u more xs refl)
    (ap (λ x. forward (λ i. item 0 (sizes_of ys) i) (λ i. (kin_at ys i).color) x (down base more ++ reverse taken)) start ∙
    (forward_down (λ i. item 0 (sizes_of ys) i) (λ i. (kin_at ys i).color) (base - sum_by f taken) base more (reverse taken) color_more ∙
    (forward_same (λ i. item 0 (sizes_of ys) i) f (λ i. (kin_at ys i).color) (λ i. (kin_at xs i).color) (base - sum_by f taken) base
    (reverse taken) (all_reverse (λ i. i < base) taken below) size_old color_old ∙
    forward_chain f (λ i. (kin_at xs i).color) base taken colored sum)))

chains_forwards : (preserving : Bool) (block : List Shape) → IsSmall preserving block → ChainsOk preserving block →
    forwards (kins (graph preserving block).nodes) ≡ true
chains_forwards preserving [] h o = refl
chains_forwards preserving (s ∷ earlier) h o = forwards_step preserving s earlier h ∙ and_from _ _ (chains_forwards preserving earlier h.0 o.0) o.1

forwards_chains : (preserving : Bool) (block : List Shape) → IsSmall preserving block →
    forwards (kins (graph preserving block).nodes) ≡ true → ChainsOk preserving block
forwards_chains preserving [] h o = tt
forwards_chains preserving (s ∷ earlier) h o = let p = and_parts _ _ (sym (forwards_step preserving s earlier h) ∙ o) in
    (forwards_chains preserving earlier h.0 p.0, p.1)

-- what `keeps_order` computes is the order
pub order_forwards : (preserving : Bool) (block : List Shape) → IsSmall preserving block →
    IsTrue (forwards (kins (graph preserving block).nodes)) ↔ IsInOrder block
order_forwards preserving block h = (
  λ o. order_from_chains preserving block (forwards_chains preserving block h o),
  λ o. chains_forwards preserving block h (chains_from_order preserving block o),
)
