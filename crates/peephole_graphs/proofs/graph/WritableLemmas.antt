-- The nodes of a graph can be written, and so can those of a tree that is laid out.
use Rattle.std.proofs.Common.{◌≡◌, ℕ, ◌+◌, ◌-◌, Bool, true, false, cond, List, [], ◌∷◌, length, map, Option, Some, None, Result, Ok, Err, IfOk, refl, sym, ap}
use Rattle.std.proofs.Common.{subst, arith}
use Rattle.std.specs.Prelude.{reverse, ◌==◌, nat_lt, IsTrue}
use Rattle.std.specs.List.{All}
use Rattle.std.proofs.lemmas.List.{get_or-map, length-map}
use Rattle.std.proofs.lemmas.List.Elements.{All-head, All-tail, All-nil, All-append, All-push, All-map, All-weaker}
use Rattle.std.proofs.lemmas.List.Sorted.{All-permutation, IsPermutation-reverse}
use Rattle.mutate_base.specs.declared.error.Error.{Error}
use Rattle.wasm_code.specs.Instruction.{Instruction}
use Rattle.peephole_lang.specs.declared.lang.Head.{Head}
use Rattle.peephole_lang.specs.declared.lang.Lang.{Lang}
use Rattle.peephole_lang.specs.Lang.{place_of, payload_of}
use Rattle.peephole_lang.specs.Node.{node_of, head_of, instr_of}
use Rattle.peephole_nodes.specs.Payload.{imm_of, is_writable}
use Rattle.peephole_lang.specs.Term.{Term, Terms, absent, node, no_terms, ◌▸◌, Node, pick, tree_at}
use Rattle.peephole_graphs.specs.declared.dfg.StackEntry.{StackEntry}
use Rattle.peephole_graphs.specs.Layout.{entry_nodes, layout_from, layouts_from, node_count_of, root_indexes, AreWritable}
use Rattle.peephole_graphs.proofs.graph.Representation.{IsOwnOrUndef}

-- ---- nodes and their heads

abbrev pub CanBeWritten : Head → Type 0
CanBeWritten h = IsTrue (is_writable h.payload)

abbrev HasWritable : Lang → Type 0
HasWritable l = IsTrue (is_writable (payload_of l))

abbrev operators : List StackEntry → List Lang
operators es = map (λ (e : StackEntry). e.operator) es

abbrev entry_heads : List StackEntry → List Head
entry_heads es = map (λ (e : StackEntry). head_of e.operator) es

-- what holds of what is seen of each item holds of the items as they are seen
seen_all : {A B : Type 0} (P : B → Type 0) (see : A → B) (xs : List A) → All P (map see xs) → All (λ x. P (see x)) xs
seen_all P see xs h = λ i d l. subst P (get_or-map see xs i d (see d) l) (h i (see d) (omega (arith, length-map xs see)))

pub heads_writable : (es : List StackEntry) → AreWritable (operators es) → All CanBeWritten (entry_heads es)
heads_writable es h = All-map CanBeWritten (λ (e : StackEntry). head_of e.operator) es (seen_all HasWritable (λ (e : StackEntry). e.operator) es h)

pub from_heads : (es : List StackEntry) → All CanBeWritten (entry_heads es) → AreWritable (operators es)
from_heads es h = All-map HasWritable (λ (e : StackEntry). e.operator) es (seen_all CanBeWritten (λ (e : StackEntry). head_of e.operator) es h)

-- ---- the entries of a block's graph

-- what has an instruction can be written
row_writable : (low writable : Bool) (x i : Instruction) → cond low None (cond writable (Some x) None) ≡ Some i → writable ≡ true
row_writable true writable x i h = absurd cc
row_writable false true x i h = refl
row_writable false false x i h = absurd cc

entry_writable : (e : StackEntry) → IsOwnOrUndef e → is_writable (payload_of e.operator) ≡ true
unfolding place_of payload_of
entry_writable e own = go (instr_of e.operator) refl
  where
    go : (i : Option Instruction) → instr_of e.operator ≡ i → is_writable (payload_of e.operator) ≡ true
    go (Some i) is =
        row_writable (nat_lt (place_of e.operator) 12) (is_writable (payload_of e.operator))
        (record { row = place_of e.operator - 12; imm = imm_of (payload_of e.operator) }) i is
    go None is = ap (λ (l : Lang). is_writable (payload_of l)) (own is)

pub entries_writable : (es : List StackEntry) → All IsOwnOrUndef es → AreWritable (operators es)
entries_writable es h = All-map HasWritable (λ (e : StackEntry). e.operator) es (All-weaker IsOwnOrUndef (λ e. HasWritable e.operator) entry_writable es h)

-- ---- trees

abbrev HasWritableHead : Node Head → Type 0
HasWritableHead n = CanBeWritten n.head

abbrev mutual
  IsWritableTree : Term Head → Type 0
  IsWritableTree absent = Unit {0}
  IsWritableTree (node h kids) = CanBeWritten h × AreWritableTrees kids

  AreWritableTrees : Terms Head → Type 0
  AreWritableTrees no_terms = Unit {0}
  AreWritableTrees (t ▸ ts) = IsWritableTree t × AreWritableTrees ts

mutual
  laid_writable : (first : ℕ) (t : Term Head) → IsWritableTree t → All HasWritableHead (layout_from first t)
  laid_writable first absent w = All-nil HasWritableHead
  laid_writable first (node h kids) w =
      All-push HasWritableHead (layouts_from first kids) (record { head = h; children = root_indexes first kids }) (all_laid_writable first kids w.1) w.0

  all_laid_writable : (first : ℕ) (ts : Terms Head) → AreWritableTrees ts → All HasWritableHead (layouts_from first ts)
  all_laid_writable first no_terms w = All-nil HasWritableHead
  all_laid_writable first (t ▸ ts) w =
      All-append HasWritableHead (layout_from first t) (layouts_from (first + node_count_of t) ts) (laid_writable first t w.0)
      (all_laid_writable (first + node_count_of t) ts w.1)

picked_writable : (at : ℕ → Term Head) (is : List ℕ) → ((k : ℕ) → IsWritableTree (at k)) → AreWritableTrees (pick at is)
picked_writable at [] h = tt
picked_writable at (k ∷ is) h = (h k, picked_writable at is h)

-- nodes with the last one first
trees_writable : (ns : List (Node Head)) → All HasWritableHead ns → (i : ℕ) → IsWritableTree (tree_at ns i)
trees_writable [] all i = tt
trees_writable (n ∷ earlier) all i =
    let older = trees_writable earlier (All-tail HasWritableHead n earlier all) in
    elim (length earlier == i) as (λ b. IsWritableTree (cond b (node n.head (pick (tree_at earlier) n.children)) (tree_at earlier i))) [
      | true ↦ (All-head HasWritableHead n earlier all, picked_writable (tree_at earlier) n.children older)
      | false ↦ older i
    ]

turned_writable : (es : List StackEntry) → AreWritable (operators es) → All HasWritableHead (entry_nodes es)
turned_writable es h =
    let nodes = map (λ (e : StackEntry). node_of e.operator) es in
    All-permutation HasWritableHead nodes (reverse nodes) (IsPermutation-reverse nodes)
    (All-map HasWritableHead (λ (e : StackEntry). node_of e.operator) es (seen_all HasWritable (λ (e : StackEntry). e.operator) es h))

-- what is laid out of a graph
pub laid_out_writable : (es : List StackEntry) (i : ℕ) → AreWritable (operators es) → (r : Result (List Lang) Error) →
    IfOk r (λ expr. map node_of expr ≡ layout_from 0 (tree_at (entry_nodes es) i)) → IfOk r (λ expr. AreWritable expr)
laid_out_writable es i w (Ok expr) h = seen_all HasWritableHead node_of expr (subst (All HasWritableHead) (sym h)
    (laid_writable 0 (tree_at (entry_nodes es) i) (trees_writable (entry_nodes es) (turned_writable es w) i)))
laid_out_writable es i w (Err refusal) h = tt
