-- Sizes and flags of the code's lists.
use Rattle.std.proofs.Common.{◌≡◌, ℕ, zero, suc, ◌+◌, ◌-◌, ◌<◌, ◌≤◌, Bool, true, false, List, [], ◌∷◌, ◌++◌, length, take, drop, get_or, map, replicate, refl}
use Rattle.std.proofs.Common.{sym, ap, ap₂, ◌∙◌, subst, arith}
use Rattle.std.specs.Prelude.{◌&&◌, ◌==◌, ◌↔◌, IsTrue, reverse, slice_index, slice_index_or}
use Rattle.std.specs.Bool.{Decides}
use Rattle.std.specs.List.{All, sum_by}
use Rattle.std.proofs.lemmas.Bool.{false_from_ne_true, false≢true, and_parts}
use Rattle.std.proofs.lemmas.Bool.Decides.{Decides-by_and, Decides-eqb, nat_tests}
use Rattle.std.proofs.lemmas.Simd.{map-map}
use Rattle.std.proofs.lemmas.List.{length-append, length-map, length-reverse, map-append, reverse-append, get_or_default, take-append-drop, length-drop}
use Rattle.std.proofs.lemmas.List.{length-take, take_more, take-map, get_or-map}
use Rattle.peephole_graphs.specs.Shape.{Shape}
use Rattle.peephole_graphs.specs.Graph.{undef, item}
use Rattle.peephole_graphs.proofs.graph.BlockGraph.{entry_at}
use Rattle.peephole_graphs.specs.Step.{GraphGrowth, grown}
use Rattle.peephole_graphs.specs.Downwards.{Kin, HasOneColor, downwards, kin_at}
use Rattle.std.proofs.Math.ListN as list
use Rattle.peephole_graphs.specs.Entries.{EntryView, entry_view, kin, kins_of, graph_entry}
use Rattle.peephole_graphs.specs.Measures.{colors, sizes_kept, flags_kept, size_kept, flag_kept, are_colored, sizes_of, color_flags_of}
use Rattle.peephole_graphs.specs.Measures.{are_alike, SubtreesAreMeasured, forward, forwards}
use Rattle.peephole_graphs.specs.Entries.{graph_entries}
use Rattle.peephole_graphs.specs.Growing.{missing_subtree}
use Rattle.peephole_graphs.specs.declared.subtree.Subtree.{Subtree}
use Rattle.peephole_lang.specs.Node.{children_of}
use Rattle.wasm_types.specs.Module.{Module}
use Rattle.peephole_graphs.proofs.graph.StackGraph.{IsGraph}
use Rattle.peephole_graphs.proofs.Lists.{sum_by-reverse}
use Rattle.peephole_graphs.proofs.graph.Sizes.{sizes_length, flags_length, size_at, flag_at, alike_reverse}
use Rattle.peephole_graphs.proofs.graph.Totals.{map_replicate, kin_of, kins, sizes_grown, flags_grown, size_of_entry}
use Rattle.peephole_graphs.specs.declared.dfg.StackEntry.{StackEntry}
use Rattle.peephole_graphs.proofs.GrowingLemmas.{take_reverse, drop_reverse, reverse_push, reverse_replicate}

pub map_reverse : {A B : Type 0} (f : A → B) (xs : List A) → map f (reverse xs) ≡ reverse (map f xs)
map_reverse f [] = refl
map_reverse f (x ∷ xs) = rw (reverse-append (x ∷ []) xs, reverse-append (f x ∷ []) (map f xs), map-append f (reverse xs) (x ∷ []), map_reverse f xs)

pub kins_same : (info : Module) (first : ℕ) (es : List StackEntry) → kins (graph_entries info first es) ≡ kins_of es
kins_same info first es = map_reverse kin_of (map (graph_entry info first) (map entry_view es)) ∙ ap reverse
    (map-map kin_of (graph_entry info first) (map entry_view es) ∙ map-map (λ (x : EntryView). kin_of (graph_entry info first x)) entry_view es)

item_first : {A : Type 0} (d x : A) (ys : List A) → item d (ys ++ x ∷ []) 0 ≡ x
item_first d x [] = refl
item_first d x (y ∷ ys) = grind (arith, nat_tests, length-append ys (x ∷ []), item_first d x ys)

item_later : {A : Type 0} (d x : A) (ys : List A) (i : ℕ) → item d (ys ++ x ∷ []) (suc i) ≡ item d ys i
item_later d x [] i = grind (arith, nat_tests)
item_later d x (y ∷ ys) i = grind (arith, nat_tests, length-append ys (x ∷ []), item_later d x ys i)

pub get_item : {A : Type 0} (d : A) (xs : List A) (i : ℕ) → get_or xs i d ≡ item d (reverse xs) i
get_item d [] i = refl
get_item d (x ∷ xs) zero = sym (ap (λ y. item d y 0) (reverse-append (x ∷ []) xs) ∙ item_first d x (reverse xs))
get_item d (x ∷ xs) (suc i) =
    get_item d xs i ∙ sym (ap (λ y. item d y (suc i)) (reverse-append (x ∷ []) xs) ∙ item_later d x (reverse xs) i)

pub item_map : {A B : Type 0} (f : A → B) (d : A) (xs : List A) (i : ℕ) → f (item d xs i) ≡ item (f d) (map f xs) i
item_map f d [] i = refl
item_map f d (x ∷ xs) i = grind (arith, length-map xs f, item_map f d xs i)

pub color_item : (es : List StackEntry) (i : ℕ) → get_or (colors es) i 0 ≡ (kin_at (kins_of es) i).color
color_item es i =
    let none : Kin = record { children = []; color = 0 } in
    ap (λ x. get_or x i 0) (sym (map-map (λ (k : Kin). k.color) kin es))
    ∙ (list.get_or-map (λ (k : Kin). k.color) (map kin es) i none ∙ ap (λ (k : Kin). k.color) (get_item none (map kin es) i))

pub kins_length : (es : List StackEntry) → length (kins_of es) ≡ length es
kins_length es = length-reverse (map kin es) ∙ length-map es kin

pub sizes_count : (es : List StackEntry) (sizes : List ℕ) → reverse sizes ≡ sizes_of (kins_of es) → length sizes ≡ length es
sizes_count es sizes h = sym (length-reverse sizes) ∙ (ap length h ∙ (sizes_length (kins_of es) ∙ kins_length es))

pub flags_count : (es : List StackEntry) (same : List Bool) → reverse same ≡ color_flags_of (kins_of es) → length same ≡ length es
flags_count es same h = sym (length-reverse same) ∙ (ap length h ∙ (flags_length (kins_of es) ∙ kins_length es))

sizes_are : (es : List StackEntry) (sizes : List ℕ) → reverse sizes ≡ sizes_of (kins_of es) → slice_index sizes ≡ item 0 (sizes_of (kins_of es))
sizes_are es sizes h = λ j i. (get_item 0 sizes i ∙ ap (λ x. item 0 x i) h) j

flags_are : (es : List StackEntry) (same : List Bool) → reverse same ≡ color_flags_of (kins_of es) →
    (λ i. slice_index_or same i false) ≡ item false (color_flags_of (kins_of es))
flags_are es same h = λ j i. (get_item false same i ∙ ap (λ x. item false x i) h) j

colors_are : (es : List StackEntry) → slice_index (colors es) ≡ (λ i. (kin_at (kins_of es) i).color)
colors_are es = λ j i. color_item es i j

-- ---- what is kept of the entries from one downwards

pub kept_size : (ts : List Subtree) (i : ℕ) (t : Subtree) → t ≡ get_or ts i t → t.len ≡ get_or (sizes_kept ts) i t.len
kept_size ts i t e = ap (λ (x : Subtree). x.len) e ∙ sym (list.get_or-map (λ (x : Subtree). x.len) ts i t)

pub kept_flag : (ts : List Subtree) (i : ℕ) (t : Subtree) → t ≡ get_or ts i t → t.one_color ≡ get_or (flags_kept ts) i t.one_color
kept_flag ts i t e = ap (λ (x : Subtree). x.one_color) e ∙ sym (list.get_or-map (λ (x : Subtree). x.one_color) ts i t)

pub kept_count : (es : List StackEntry) (ts : List Subtree) → SubtreesAreMeasured es ts → length ts ≡ length es
kept_count es ts m = sym (length-map ts (λ (x : Subtree). x.len)) ∙ sizes_count es (sizes_kept ts) m.sizes_are

map_added : {B : Type 0} (f : Subtree → B) (ts : List Subtree) (n : ℕ) (own : Subtree) →
    map f ((ts ++ replicate n missing_subtree) ++ own ∷ []) ≡ (map f ts ++ replicate n (f missing_subtree)) ++ f own ∷ []
map_added f ts n own =
    map-append f (ts ++ replicate n missing_subtree) (own ∷ []) ∙ ap (λ x. x ++ f own ∷ []) (map-append f ts (replicate n missing_subtree) ∙
    ap (λ x. map f ts ++ x) (map_replicate f n missing_subtree))

pub measured_more : (info : Module) (first n : ℕ) (s : Shape) (earlier : List Shape) (es es' : List StackEntry)
    (ts ts' : List Subtree) (c : ℕ) (stack : List ℕ) (more : ℕ) (taken : List ℕ) (g : GraphGrowth) → IsGraph earlier g →
    g.nodes ≡ graph_entries info first es → g.stack ≡ reverse stack → graph_entries info first es' ≡ (grown g s n c).nodes → c < 4294967295 →
    more ≡ s.operands - length stack → taken ≡ drop (length stack - s.operands) stack → SubtreesAreMeasured es ts →
    ts' ≡ (ts ++ replicate more missing_subtree) ++ record {
      len = suc (more + sum_by (size_kept ts) taken);
      one_color = (more == 0) && are_alike (flag_kept ts) (slice_index (colors es)) c taken;
    } ∷ [] → SubtreesAreMeasured es' ts'
measured_more info first n s earlier es es' ts ts' c stack more taken g ig gn gs e b m w h added =
    let sizes = sizes_kept ts in
    let same = flags_kept ts in
    let k = s.operands in
    let size = item 0 (sizes_of (kins_of es)) in
    let flag = item false (color_flags_of (kins_of es)) in
    let color = λ (i : ℕ). (kin_at (kins_of es) i).color in
    let kins_old : kins g.nodes ≡ kins_of es = ap kins gn ∙ kins_same info first es in
    let kins_new : kins_of es' ≡ kins (grown g s n c).nodes = sym (kins_same info first es') ∙ ap kins e in
    let taken_back : reverse taken ≡ take k g.stack = ap reverse w ∙ (sym (take_reverse k stack) ∙ ap (take k) (sym gs)) in
    let more_is : more ≡ k - length g.stack = m ∙ ap (λ x. k - x) (sym (length-reverse stack) ∙ ap length (sym gs)) in
    let total_is : sum_by (slice_index sizes) taken ≡ sum_by size (take k g.stack) =
    ap (λ f. sum_by f taken) (sizes_are es sizes h.sizes_are) ∙ (sym (sum_by-reverse size taken) ∙ ap (sum_by size) taken_back) in
    let alike_is : are_alike (λ i. slice_index_or same i false) (slice_index (colors es)) c taken ≡ are_alike flag color c (take k g.stack) =
    ap₂ (λ f h. are_alike f h c taken) (flags_are es same h.flags_are) (colors_are es)
    ∙ (sym (alike_reverse flag color c taken) ∙ ap (are_alike flag color c) taken_back) in
    record {
      sizes_are = ap reverse (ap sizes_kept added ∙ map_added (λ (x : Subtree). x.len) ts more _) ∙ (reverse_push (sizes ++ replicate more 1) _
          ∙ (ap₂ (λ x y. x ∷ y) (ap₂ (λ x y. suc (x + y)) more_is total_is) (reverse-append sizes (replicate more 1)
          ∙ ap₂ (λ x y. x ++ y) (reverse_replicate more 1 ∙ ap (λ x. replicate x 1) more_is) h.sizes_are)
          ∙ (sym (rw kins_old at (sizes_grown s earlier g n c ig)) ∙ ap sizes_of (sym kins_new))));
      flags_are = ap reverse (ap flags_kept added ∙ map_added (λ (x : Subtree). x.one_color) ts more _) ∙ (reverse_push (same ++ replicate more true) _
          ∙ (ap₂ (λ x y. x ∷ y) (ap₂ (λ x y. (x == 0) && y) more_is alike_is) (reverse-append same (replicate more true)
          ∙ ap₂ (λ x y. x ++ y) (reverse_replicate more true ∙ ap (λ x. replicate x true) more_is) h.flags_are)
          ∙ (sym (rw kins_old at (flags_grown s earlier g n c ig b)) ∙ ap color_flags_of (sym kins_new))));
    }

-- what `add_row` wants
pub stack_room : (es : List StackEntry) (sizes : List ℕ) (stack : List ℕ) (g : GraphGrowth) (info : Module) (first : ℕ) →
    g.nodes ≡ graph_entries info first es → g.stack ≡ reverse stack → reverse sizes ≡ sizes_of (kins_of es) →
    sum_by (size_of_entry g) g.stack ≤ length g.nodes → sum_by (λ i. slice_index sizes i) stack ≤ length es
stack_room es sizes stack g info first gn gs h l =
    let kins_old : kins g.nodes ≡ kins_of es = ap kins gn ∙ kins_same info first es in
    let size_is : slice_index sizes ≡ size_of_entry g = sizes_are es sizes h ∙ ap (λ x. item 0 (sizes_of x)) (sym kins_old) in
    let e : sum_by (slice_index sizes) stack ≡ sum_by (size_of_entry g) g.stack =
    ap (λ f. sum_by f stack) size_is ∙ (sym (sum_by-reverse (size_of_entry g) stack) ∙ ap (sum_by (size_of_entry g)) (sym gs)) in
    let n : length g.nodes ≡ length es = sym (length-map g.nodes kin_of) ∙ (ap length kins_old ∙ kins_length es) in
    omega arith

pub size_read : (es : List StackEntry) (sizes : List ℕ) → reverse sizes ≡ sizes_of (kins_of es) → (i : ℕ) → i < length es →
    (d : ℕ) → get_or sizes i d ≡ length (downwards (kins_of es) i)
size_read es sizes h i l d = get_or_default sizes i d 0 (let e = sizes_count es sizes h in omega arith) ∙
    (ap (λ f. f i) (sizes_are es sizes h) ∙ sym (size_at (kins_of es) i (let e = kins_length es in omega arith)))

flag_read : (es : List StackEntry) (same : List Bool) → reverse same ≡ color_flags_of (kins_of es) → (i : ℕ) → i < length es →
    (d : Bool) → get_or same i d ≡ are_colored (kins_of es) (kin_at (kins_of es) i).color (downwards (kins_of es) i)
flag_read es same h i l d = get_or_default same i d false (let e = flags_count es same h in omega arith) ∙
    (ap (λ f. f i) (flags_are es same h) ∙ sym (flag_at (kins_of es) i (let e = kins_length es in omega arith)))

-- the test of one colour decides it
pub decides_colored : (xs : List Kin) (c : ℕ) (is : List ℕ) → Decides (are_colored xs c is) (All (λ j. (kin_at xs j).color ≡ c) is)
decides_colored xs c is = Decides-by_and (λ j. (kin_at xs j).color == c) (λ j. (kin_at xs j).color ≡ c) (are_colored xs c)
    (λ j. Decides-eqb (kin_at xs j).color c) refl (λ _ _. refl) is

pub one_color : (es : List StackEntry) (same : List Bool) → reverse same ≡ color_flags_of (kins_of es) → (i : ℕ) → i < length es →
    (b : Bool) → b ≡ get_or same i b → IsTrue b ↔ HasOneColor (kins_of es) i
one_color es same h i l b e =
    let f : b ≡ are_colored (kins_of es) (kin_at (kins_of es) i).color (downwards (kins_of es) i) = e ∙ flag_read es same h i l b in
    let d = decides_colored (kins_of es) (kin_at (kins_of es) i).color (downwards (kins_of es) i) in
    (λ t. d.0 (sym f ∙ t), λ a. f ∙ d.1 a)

-- the order, entry by entry
kins_push : (es : List StackEntry) (e : StackEntry) → kins_of (es ++ e ∷ []) ≡ kin e ∷ kins_of es
kins_push es e = ap reverse (map-append kin es (e ∷ [])) ∙ reverse-append (map kin es) (kin e ∷ [])

kins_parts : (es : List StackEntry) (i : ℕ) → kins_of es ≡ kins_of (drop i es) ++ kins_of (take i es)
kins_parts es i = ap kins_of (sym (take-append-drop i es)) ∙ (ap reverse (map-append kin (take i es) (drop i es)) ∙
    reverse-append (map kin (take i es)) (map kin (drop i es)))

sizes_suffix : (xs ys : List Kin) → drop (length xs) (sizes_of (xs ++ ys)) ≡ sizes_of ys
sizes_suffix [] ys = refl
sizes_suffix (x ∷ xs) ys = sizes_suffix xs ys

sizes_front : (es : List StackEntry) (sizes : List ℕ) → reverse sizes ≡ sizes_of (kins_of es) → (i : ℕ) → i ≤ length es →
    reverse (take i sizes) ≡ sizes_of (kins_of (take i es))
sizes_front es sizes h i l =
    let n = length (kins_of (drop i es)) in
    let a = kins_length (drop i es) in
    let b = length-drop i es in
    let c = sizes_count es sizes h in
    let e : i ≡ length sizes - n = omega arith in
    ap (λ x. reverse (take x sizes)) e ∙ (sym (drop_reverse n sizes) ∙ (ap (drop n) (h ∙ ap sizes_of (kins_parts es i)) ∙
    sizes_suffix (kins_of (drop i es)) (kins_of (take i es))))

forwards_suffix : (xs ys : List Kin) → forwards (xs ++ ys) ≡ true → forwards ys ≡ true
forwards_suffix [] ys h = h
forwards_suffix (x ∷ xs) ys h = forwards_suffix xs ys (and_parts _ _ h).0

forwards_more : (es : List StackEntry) (sizes : List ℕ) → reverse sizes ≡ sizes_of (kins_of es) → (i : ℕ) → i < length es →
    (d : StackEntry) (at : ℕ) → at ≡ (i + 1) - get_or sizes i 0 →
    forwards (kins_of (take (i + 1) es)) ≡ (forwards (kins_of (take i es)) && forward (λ c. slice_index (take i sizes) c)
    (λ c. slice_index (colors (take i es)) c) at (children_of (get_or es i d).operator))
forwards_more es sizes h i l d at w =
    let e = get_or es i d in
    let xs = kins_of (take i es) in
    let n = sizes_count es sizes h in
    let push : kins_of (take (i + 1) es) ≡ kin e ∷ xs = ap kins_of (take_more es i d l) ∙ kins_push (take i es) e in
    let front = sizes_front es sizes h i (omega arith) in
    let next : get_or sizes i 0 ∷ reverse (take i sizes) ≡ sizes_of (kin e ∷ xs) =
    sym (reverse_push (take i sizes) (get_or sizes i 0)) ∙ (ap reverse (sym (take_more sizes i 0 (omega arith))) ∙
    (sizes_front es sizes h (i + 1) (omega arith) ∙ ap sizes_of push)) in
    let own : get_or sizes i 0 ≡ length (downwards (kin e ∷ xs) (length xs)) = cc in
    let xs_length : length xs ≡ i = kins_length (take i es) ∙ (let t = length-take i es in omega arith) in
    let start : suc (length xs) - length (downwards (kin e ∷ xs) (length xs)) ≡ at = omega arith in
    ap forwards push ∙ ap (λ b. forwards xs && b) (ap (λ x. forward (item 0 (sizes_of xs)) (λ c. (kin_at xs c).color) x (children_of e.operator)) start
    ∙ ap₂ (λ f h. forward f h at (children_of e.operator)) (sym (sizes_are (take i es) (take i sizes) front)) (sym (colors_are (take i es))))

pub forwards_stop : (es : List StackEntry) (i : ℕ) → forwards (kins_of (take i es)) ≡ false → forwards (kins_of es) ≡ false
forwards_stop es i h = false_from_ne_true (forwards (kins_of es)) (λ w. false≢true (sym h ∙ forwards_suffix (kins_of (drop i es))
    (kins_of (take i es)) (ap forwards (sym (kins_parts es i)) ∙ w)))

-- the same by what the code reads at an entry
pub forwards_read : (es : List StackEntry) (ts : List Subtree) → SubtreesAreMeasured es ts → (i : ℕ) → i < length es → (e : StackEntry) → e ≡ get_or es i e →
    (t : Subtree) → t ≡ get_or ts i t → (from : ℕ) → from ≡ (i + 1) - t.len → (b : Bool) →
    b ≡ forward (size_kept (take i ts)) (slice_index (colors (take i es))) from (children_of e.operator) →
    forwards (kins_of (take (i + 1) es)) ≡ (forwards (kins_of (take i es)) && b)
forwards_read es ts m i l e p t q from w b f =
    let sizes = sizes_kept ts in
    let n = sizes_count es sizes m.sizes_are in
    let len_is : t.len ≡ get_or sizes i 0 = kept_size ts i t q ∙ get_or_default sizes i t.len 0 (omega arith) in
    let same : children_of (get_or es i e).operator ≡ children_of e.operator = ap (λ (o : StackEntry). children_of o.operator) (sym p) in
    let front : slice_index (take i sizes) ≡ size_kept (take i ts) = ap (λ (x : List ℕ). slice_index x) (take-map (λ (x : Subtree). x.len) i ts) in
    forwards_more es sizes m.sizes_are i l e from (w ∙ ap (λ u. (i + 1) - u) len_is) ∙ ap (λ x. forwards (kins_of (take i es)) && x)
    (ap₂ (λ size cs. forward size (slice_index (colors (take i es))) from cs) front same ∙ sym f)

pub nodes_length : (info : Module) (first : ℕ) (entries : List StackEntry) → length (graph_entries info first entries) ≡ length entries
nodes_length info first entries = length-reverse (map (graph_entry info first) (map entry_view entries)) ∙
    (length-map (map entry_view entries) (graph_entry info first) ∙ length-map entries entry_view)

-- an entry of the graph is what the code's entry is seen as
pub entry_seen : (info : Module) (first : ℕ) (entries : List StackEntry) (i : ℕ) (d : StackEntry) → i < length entries →
    entry_at (graph_entries info first entries) i ≡ graph_entry info first (entry_view (get_or entries i d))
entry_seen info first entries i d l =
    let n = length-map entries entry_view in
    sym (get_item (undef 0) (map (graph_entry info first) (map entry_view entries)) i)
    ∙ (get_or-map (graph_entry info first) (map entry_view entries) i (entry_view d) (undef 0) (omega arith)
    ∙ ap (graph_entry info first) (get_or-map entry_view entries i d (entry_view d) l))

pub later_entries : (first : ℕ) (es : List StackEntry) → All (λ (x : EntryView). first ≤ x.operator) (map entry_view es) →
    All (λ (e : StackEntry). first ≤ e.operator_idx) es
later_entries first es k = λ i d l. let n = length-map es entry_view in
    subst (λ (x : EntryView). first ≤ x.operator) (get_or-map entry_view es i d (entry_view d) l) (k i (entry_view d) (omega arith))
