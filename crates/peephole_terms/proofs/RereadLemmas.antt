-- A block that is written with its own trees is read again as the same trees.
use Rattle.std.proofs.Common.{◌≡◌, ℕ, ℤ, pos, ◌+ℤ◌, zero, suc, ◌+◌, ◌-◌, ◌<◌, ◌≤◌, ◌⊎◌, inl, inr, List, [], ◌∷◌, ◌++◌, length, take, drop, map, Bool, true}
use Rattle.std.proofs.Common.{false, cond, refl, sym, ap, ap₂, subst, ◌∙◌, append_assoc, arith, Some}
use Rattle.std.specs.Prelude.{reverse, slice_get, slice_range, option_map, ◌&&◌}
use Rattle.std.specs.Ordering.{int_eq}
use Rattle.std.specs.List.{All}
use Rattle.std.proofs.lemmas.List.{append-nil, map-append, drop-map, length-append, length-map, length-take, length-drop, take-map, take_at, drop_at}
use Rattle.std.proofs.lemmas.Option.{slice_get-map}
use Rattle.std.proofs.lemmas.List.Elements.{All-nil, All-cons, All-push, All-append, All-head, All-tail}
use Rattle.wasm_code.specs.Instruction.{Instruction, IsInstruction}
use Rattle.wasm_code.specs.Operator.{is_delimiter}
use Rattle.wasm_code.specs.Body.{bytes_of, with_offsets, SpellsCode}
use Rattle.wasm_code.specs.declared.operator.Operator.{Operator}
use Rattle.wasm_code.specs.declared.operator.Operator.TheVariants.{Instr}
use Rattle.wasm_types.specs.Module.{Module}
use Rattle.peephole_graphs.specs.Block.{BlockRange, HasNoDelimiter, IsBlockIn, IsBlockOf}
use Rattle.peephole_graphs.specs.declared.shape.Shape.{Shape}
use Rattle.peephole_graphs.specs.declared.shape.Judged.{Judged}
use Rattle.peephole_graphs.specs.declared.shape.Judged.TheVariants.{Fits}
use Rattle.peephole_graphs.specs.Shape.{IsFit, AreFit, judge, judge_instruction, and_shape, operator_shapes}
use Rattle.peephole_graphs.specs.Tree.{Tree, Trees, entry, node, no_trees, ◌▸◌, join, postfix_of, postfix, shapes_of, shapes, instructions_of, instructions}
use Rattle.peephole_graphs.specs.Tree.{renumber}
use Rattle.peephole_graphs.specs.Forest.{first_operand_height, from_height, at_height, operator_tree, trees, is_operand, trees_without, forest, IsInOrder}
use Rattle.peephole_terms.specs.Written.{Site, site_at, without_offsets, block_operators, block_shapes, written_body, IsBodyIn}
use Rattle.peephole_terms.specs.ReadAgain.{BlockIsReread}
use Rattle.peephole_terms.proofs.RootTerms.{All-reverse, All-front, All-back}
use Rattle.peephole_graphs.proofs.BuilderLemmas.{block_length, operator_fits}
use Rattle.peephole_graphs.proofs.forest.ForestLemmas.{forest_is}
use Rattle.peephole_graphs.proofs.forest.SameTrees.{same_trees}
use Rattle.peephole_graphs.proofs.forest.TreeOrder.{written_in_order, shapes-renumber}
use Rattle.peephole_graphs.proofs.graph.OrderLemmas.{count_all}
use Rattle.peephole_terms.specs.Spliced.{spelling_of, coded}
use Rattle.peephole_terms.proofs.SpellingLemmas.{CodesSpell, Spelling, named_placed, length-with_offsets}
use Rattle.peephole_terms.proofs.ReadAgainLemmas.{alone_are, count_is, with_code, spelled_with, written_is, again_of, spells_again}
use Rattle.peephole_terms.proofs.ReadAgainLemmas.{block_before_last, spelled_in}

-- ---- the shapes of a forest are its block's

module _ (P : Shape → Type 0) where
  places_hold : (at : ℤ → Tree) → ((p : ℤ) → All P (shapes_of (at p))) → (p : ℤ) (count : ℕ) → All P (shapes (from_height at p count))
  places_hold at h p zero = All-nil P
  places_hold at h p (suc count) =
      All-append P (shapes_of (at p)) (shapes (from_height at (p +ℤ pos 1) count)) (h p) (places_hold at h (p +ℤ pos 1) count)

  own_holds : (s : Shape) (earlier : List Shape) → P s → ((p : ℤ) → All P (shapes_of (at_height earlier p))) → All P (shapes_of (operator_tree s earlier))
  own_holds s earlier h older =
      All-push P (shapes (from_height (at_height earlier) (first_operand_height s earlier) s.operands)) s
      (places_hold (at_height earlier) older (first_operand_height s earlier) s.operands) h

  place_holds : (block : List Shape) → All P block → (p : ℤ) → All P (shapes_of (at_height block p))
  place_holds [] all p = All-nil P
  place_holds (s ∷ earlier) all p =
      let older = place_holds earlier (All-tail P s earlier all) in
      elim (s.has_result && int_eq p (first_operand_height s earlier)) as (λ b. All P (shapes_of (cond b (operator_tree s earlier) (at_height earlier p)))) [
        | true ↦ own_holds s earlier (All-head P s earlier all) older
        | false ↦ older p
      ]

  joined_hold : (ts us : Trees) → All P (shapes ts) → All P (shapes us) → All P (shapes (join ts us))
  joined_hold no_trees us a b = b
  joined_hold (t ▸ ts) us a b = All-append P (shapes_of t) (shapes (join ts us)) (All-front P (shapes_of t) (shapes ts) a)
      (joined_hold ts us (All-back P (shapes_of t) (shapes ts) a) b)

  trees_hold : (block : List Shape) → All P block → All P (shapes (trees block))
  trees_hold [] all = All-nil P
  trees_hold (s ∷ earlier) all =
      let rest = All-tail P s earlier all in
      joined_hold (trees earlier) (operator_tree s earlier ▸ no_trees) (trees_hold earlier rest)
      (rw append-nil (own_holds s earlier (All-head P s earlier all) (place_holds earlier rest)))

  without_hold : (test : ℕ → Bool) (ts : Trees) → All P (shapes ts) → All P (shapes (trees_without test ts))
  without_hold test no_trees h = h
  without_hold test (entry m ▸ ts) h = without_hold test ts h
  without_hold test (node i s kids ▸ ts) h =
      let own = shapes kids ++ s ∷ [] in
      let rest = without_hold test ts (All-back P own (shapes ts) h) in
      elim (test i) as (λ b. All P (shapes (cond b (trees_without test ts) (node i s kids ▸ trees_without test ts)))) [
        | true ↦ rest
        | false ↦ All-append P own (shapes (trees_without test ts)) (All-front P own (shapes ts) h) rest
      ]

  forest_holds : (block : List Shape) → All P block → All P (shapes (forest block))
  forest_holds block all = without_hold (λ j. is_operand j (trees block)) (trees block) (trees_hold block all)

mutual
  count_of : (t : Tree) → length (shapes_of t) ≡ length (postfix_of t)
  count_of (entry m) = refl
  count_of (node i s kids) = let e = count kids in omega (arith, length-append (shapes kids) (s ∷ []), length-append (postfix kids) (i ∷ []))

  count : (ts : Trees) → length (shapes ts) ≡ length (postfix ts)
  count no_trees = refl
  count (t ▸ ts) = let e = count_of t in let f = count ts in omega (arith, length-append (shapes_of t) (shapes ts), length-append (postfix_of t) (postfix ts))

count_forest : (block : List Shape) → length (shapes (forest block)) ≡ length block
count_forest block = count (forest block) ∙ (ap (λ (ts : Trees). length (postfix ts)) (forest_is block) ∙ count_all block)

-- ---- the instructions are those of the shapes

abbrev pub instr_of : List Shape → List Instruction
instr_of ss = map (λ (s : Shape). s.instr) ss

mutual
  instructions_of_are : (t : Tree) → instructions_of t ≡ instr_of (shapes_of t)
  instructions_of_are (entry m) = refl
  instructions_of_are (node i s kids) =
      ap (λ (is : List Instruction). is ++ s.instr ∷ []) (instructions_are kids) ∙ sym (map-append (λ (s : Shape). s.instr) (shapes kids) (s ∷ []))

  pub instructions_are : (ts : Trees) → instructions ts ≡ instr_of (shapes ts)
  instructions_are no_trees = refl
  instructions_are (t ▸ ts) = ap₂ (λ (x y : List Instruction). x ++ y) (instructions_of_are t) (instructions_are ts)
      ∙ sym (map-append (λ (s : Shape). s.instr) (shapes_of t) (shapes ts))

-- ---- an instruction that is judged again has the same shape

abbrev HasOwnShape : Module → Shape → Type 0
HasOwnShape info s = judge_instruction info s.instr ≡ Fits s

own_shapes : (info : Module) (os : List (Operator × ℕ)) → AreFit info os → All (HasOwnShape info) (operator_shapes info os)
own_shapes info [] fit = All-nil (HasOwnShape info)
own_shapes info (o ∷ os) fit =
    go (judge info o.0) refl (All-head (λ (x : Operator × ℕ). IsFit (judge info x.0)) o os fit)
    (own_shapes info os (All-tail (λ (x : Operator × ℕ). IsFit (judge info x.0)) o os fit))
  where
    go : (j : Judged) → judge info o.0 ≡ j → IsFit j → All (HasOwnShape info) (operator_shapes info os) →
        All (HasOwnShape info) (and_shape j (operator_shapes info os))
    go (Fits s) e f all = All-cons (HasOwnShape info) s (operator_shapes info os) (rw (operator_fits info o.0 s e) at e) all
    go _ e f all = absurd f

-- operators that are the instructions of such shapes have these shapes
judged_again : (info : Module) (ss : List Shape) (xs : List (Operator × ℕ)) → All (HasOwnShape info) ss →
    without_offsets xs ≡ map (λ (i : Instruction). Instr i) (instr_of ss) →
    (operator_shapes info xs ≡ ss) × AreFit info xs
judged_again info [] [] all e = (refl, All-nil (λ (x : Operator × ℕ). IsFit (judge info x.0)))
judged_again info [] (x ∷ xs) all e = absurd cc
judged_again info (s ∷ ss) [] all e = absurd cc
judged_again info (s ∷ ss) (x ∷ xs) all e =
    let here : x.0 ≡ Instr s.instr = cc in
    let later : without_offsets xs ≡ map (λ (i : Instruction). Instr i) (instr_of ss) = cc in
    let rest = judged_again info ss xs (All-tail (HasOwnShape info) s ss all) later in
    let own : judge info x.0 ≡ Fits s = ap (judge info) here ∙ All-head (HasOwnShape info) s ss all in (
      ap₂ and_shape own rest.0,
      All-cons (λ (x : Operator × ℕ). IsFit (judge info x.0)) x xs (subst IsFit (sym own) tt) rest.1,
    )

-- ---- places in joined lists

get_alone : (xs : List (Operator × ℕ)) (k : ℕ) (o : Operator × ℕ) → slice_get xs k ≡ Some o → slice_get (without_offsets xs) k ≡ Some o.0
get_alone xs k o e = slice_get-map (λ (o : Operator × ℕ). o.0) xs k ∙ ap (option_map (λ (o : Operator × ℕ). o.0)) e

from_alone : (xs : List (Operator × ℕ)) (k : ℕ) (p : Operator) → slice_get (without_offsets xs) k ≡ Some p →
    (o : Operator × ℕ) × (slice_get xs k ≡ Some o) × (o.0 ≡ p)
from_alone [] k p e = absurd cc
from_alone (x ∷ xs) zero p e = (x, refl, cc)
from_alone (x ∷ xs) (suc k) p e = from_alone xs k p e

get_front : {A : Type 0} (xs ys : List A) (k : ℕ) → k < length xs → slice_get (xs ++ ys) k ≡ slice_get xs k
get_front [] ys k l = absurd (omega arith)
get_front (x ∷ xs) ys zero l = refl
get_front (x ∷ xs) ys (suc k) l = get_front xs ys k (omega arith)

get_behind : {A : Type 0} (xs ys : List A) (n k j : ℕ) → length xs ≡ n → k ≡ n + j → slice_get (xs ++ ys) k ≡ slice_get ys j
get_behind [] ys n k j l e = let same : k ≡ j = omega arith in ap (slice_get ys) same
get_behind (x ∷ xs) ys n zero j l e = absurd (omega arith)
get_behind (x ∷ xs) ys n (suc k) j l e = get_behind xs ys (length xs) k j refl (omega arith)

get_taken : {A : Type 0} (n : ℕ) (xs : List A) (k : ℕ) → k < n → slice_get (take n xs) k ≡ slice_get xs k
get_taken zero xs k l = absurd (omega arith)
get_taken (suc n) [] k l = refl
get_taken (suc n) (x ∷ xs) zero l = refl
get_taken (suc n) (x ∷ xs) (suc k) l = get_taken n xs k (omega arith)

-- an instruction is no delimiter
none_delimits : (code : List Instruction) (k : ℕ) (p : Operator) → slice_get (map (λ (i : Instruction). Instr i) code) k ≡ Some p → is_delimiter p ≡ false
none_delimits [] k p e = absurd cc
none_delimits (i ∷ is) zero p e = let same : Instr i ≡ p = cc in ap is_delimiter (sym same)
none_delimits (i ∷ is) (suc k) p e = none_delimits is k p e

-- ---- instructions in the place of a block, as many as its operators

-- The operators of a body, with instructions in the place of a block.
record IsAgain (operators again : List (Operator × ℕ)) (block : BlockRange) (code : List Instruction) : Type 0 where
  are : without_offsets again ≡ take block.start (without_offsets operators)
      ++ (map (λ (i : Instruction). Instr i) code ++ drop block.end (without_offsets operators))
  ordered : block.start ≤ block.end
  inside : block.end < length operators
  count : length code ≡ block.end - block.start

module _ {operators again : List (Operator × ℕ)} {block : BlockRange} {code : List Instruction} (h : IsAgain operators again block code) where
  abbrev front : List Operator
  front = take block.start (without_offsets operators)

  abbrev middle : List Operator
  middle = map (λ (i : Instruction). Instr i) code

  abbrev back : List Operator
  back = drop block.end (without_offsets operators)

  length_front : length front ≡ block.start
  length_front =
      let l = h.ordered in
      let m = h.inside in
      omega (arith, length-take block.start (without_offsets operators), length-map operators (λ (o : Operator × ℕ). o.0))

  length_middle : length middle ≡ block.end - block.start
  length_middle = length-map code (λ (i : Instruction). Instr i) ∙ h.count

  -- the block's range has these instructions
  range_again : without_offsets (slice_range again block.start block.end) ≡ middle
  range_again =
      sym (take-map (λ (o : Operator × ℕ). o.0) (block.end - block.start) (drop block.start again))
      ∙ (ap (take (block.end - block.start)) (sym (drop-map (λ (o : Operator × ℕ). o.0) block.start again)
      ∙ (ap (drop block.start) h.are ∙ drop_at front (middle ++ back) block.start length_front))
      ∙ take_at middle back (block.end - block.start) length_middle)

  -- none of them is a delimiter
  inside_again : HasNoDelimiter again block.start block.end
  inside_again k o low high e =
      let n = length_front in
      let m = length_middle in
      let at : k ≡ block.start + (k - block.start) = omega arith in
      let there : slice_get (without_offsets again) k ≡ slice_get middle (k - block.start) = ap (λ (xs : List Operator). slice_get xs k) h.are
      ∙ (get_behind front (middle ++ back) block.start k (k - block.start) n at ∙ get_front middle back (k - block.start) (omega arith)) in
      none_delimits code (k - block.start) o.0 (sym there ∙ get_alone again k o e)

  -- and before them the operators are the same
  before_again : (k : ℕ) (o : Operator × ℕ) → k < block.start → slice_get operators k ≡ Some o →
      (p : Operator × ℕ) × (slice_get again k ≡ Some p) × (p.0 ≡ o.0)
  before_again k o l e =
      let n = length_front in
      from_alone again k o.0 (ap (λ (xs : List Operator). slice_get xs k) h.are ∙ (get_front front (middle ++ back) k (omega arith)
      ∙ (get_taken block.start (without_offsets operators) k l ∙ get_alone operators k o e)))

  -- it is a range without a delimiter again
  range_is_again : length again ≡ length operators → IsBlockIn operators block → IsBlockIn again block
  range_is_again n b = record {
    some = b.some;
    inside = omega (arith, b.inside, n);
    none = inside_again;
  }

  -- and the block of an operator again
  block_again : (index : ℕ) → IsBlockOf operators index block.start block.end → IsBlockOf again index block.start block.end
  block_again index b = record {
    last = b.last;
    some = b.some;
    none = inside_again;
    longest = λ from all. b.longest from (λ k o low high e. elim (before_or_in k) [
      | inl before ↦ let p = before_again k o before e in ap is_delimiter (sym p.2) ∙ all k p.0 low high p.1
      | inr behind ↦ b.none k o behind high e
    ]);
  }
    where
      before_or_in : (k : ℕ) → (k < block.start) ⊎ (block.start ≤ k)
      before_or_in k = grind arith

-- ---- the clause

with_same : (ps : List Spelling) (block : BlockRange) (code : List Instruction) → block.start ≤ block.end → block.end < length ps →
    length code ≡ block.end - block.start →
    with_code (with_code ps block code) block code ≡ with_code ps block code
with_same ps block code l m n =
    let front = take block.start ps in
    let back = drop block.end ps in
    let f : length front ≡ block.start = omega (arith, length-take block.start ps) in
    let c : length (coded code) ≡ block.end - block.start = length-map code spelling_of ∙ n in
    let whole : length (front ++ coded code) ≡ block.end = omega (arith, length-append front (coded code)) in
    ap₂ (λ (x y : List Spelling). x ++ (coded code ++ y)) (take_at front (coded code ++ back) block.start f)
    (ap (drop block.end) (sym (append_assoc front (coded code) back)) ∙ drop_at (front ++ coded code) back block.end whole)

length_with : (ps : List Spelling) (block : BlockRange) (code : List Instruction) → block.start ≤ block.end → block.end < length ps →
    length code ≡ block.end - block.start →
    length (with_code ps block code) ≡ length ps
length_with ps block code l m n =
    omega (
      arith,
      length-append (take block.start ps) (coded code ++ drop block.end ps),
      length-append (coded code) (drop block.end ps),
      length-take block.start ps,
      length-drop block.end ps,
      length-map code spelling_of,
    )

-- how many operators the block has
block_size : (operators : List (Operator × ℕ)) (block : BlockRange) → block.start ≤ block.end → block.end < length operators →
    length (slice_range operators block.start block.end) ≡ block.end - block.start
block_size operators block l m = omega (arith, length-take (block.end - block.start) (drop block.start operators), length-drop block.start operators)

pub reread : CodesSpell → (info : Module) (site : Site) → IsBodyIn site.input site.operators → IsBlockIn site.operators site.block →
    AreFit info (block_operators site) → All IsInstruction (instructions (forest (block_shapes info site))) →
    BlockIsReread info site (written_body site (instructions (forest (block_shapes info site))))
reread spell info site b k fit all =
    let input = site.input in
    let operators = site.operators in
    let block = site.block in
    let h = spelled_in input operators block b (block_before_last operators block b k) in
    let os = block_operators site in
    let shaped = block_shapes info site in
    let code = instructions (forest shaped) in
    let qs = with_code h.ps block code in
    let again = with_offsets 0 qs in
    let n = count_is h.is in
    let end_in : block.end < length h.ps = h.end_there in
    let ordered : block.start ≤ block.end = let some = k.some in omega arith in
    let size : length code ≡ block.end - block.start =
    ap (λ (is : List Instruction). length is) (instructions_are (forest shaped)) ∙ (length-map (shapes (forest shaped)) (λ (s : Shape). s.instr)
    ∙ (count_forest shaped ∙ (block_length info os fit ∙ block_size operators block ordered (omega arith)))) in
    let body = again_of spell h.ps block code h.is.each h.is.last h.end_there all in
    let text : written_body site code ≡ bytes_of qs = written_is h.is block code h.start_there h.end_there in
    let names = alone_are h.is in
    let is_again : IsAgain operators again block code = record {
      are = named_placed 0 qs ∙ (spelled_with h.ps block code
          ∙ ap (λ (os : List Operator). take block.start os ++ (map (λ (i : Instruction). Instr i) code ++ drop block.end os)) (sym names));
      ordered = ordered;
      inside = omega arith;
      count = size;
    } in
    let same_length : length qs ≡ length h.ps = length_with h.ps block code ordered end_in size in
    let ranged : without_offsets (slice_range again block.start block.end) ≡ map (λ (i : Instruction). Instr i) (instr_of (shapes (forest shaped))) =
    range_again is_again ∙ ap (map (λ (i : Instruction). Instr i)) (instructions_are (forest shaped)) in
    let owned : All (HasOwnShape info) (shapes (forest shaped)) =
    forest_holds (HasOwnShape info) shaped (All-reverse (HasOwnShape info) (operator_shapes info os) (own_shapes info os fit)) in
    let judged = judged_again info (shapes (forest shaped)) (slice_range again block.start block.end) owned ranged in
    let new : block_shapes info (site_at (bytes_of qs) again block site.at) ≡ reverse (shapes (forest shaped)) = ap reverse judged.0 in
    let kept : forest (block_shapes info (site_at (bytes_of qs) again block site.at)) ≡ renumber 0 (forest shaped) = ap forest new ∙ same_trees shaped in
    let code_is : instructions (forest (block_shapes info (site_at (bytes_of qs) again block site.at))) ≡ code =
    ap instructions kept ∙ (instructions_are (renumber 0 (forest shaped))
    ∙ (ap instr_of (shapes-renumber 0 (forest shaped)) ∙ sym (instructions_are (forest shaped)))) in
    record {
      again = again;
      spells = subst (λ (t : List ℕ). SpellsCode 0 t again) (sym text) (spells_again (bytes_of qs) (length (bytes_of qs)) qs again body refl);
      there = range_is_again is_again (length-with_offsets 0 qs ∙ (same_length ∙ sym n)) k;
      found = block_again is_again;
      fit = judged.1;
      same = kept;
      order = subst IsInOrder (sym new) (written_in_order shaped);
      stays = ap₂ (λ (t : List ℕ) (is : List Instruction). written_body (site_at t again block site.at) is) text code_is
          ∙ (written_is body block code (omega arith) (omega arith)
          ∙ (ap bytes_of (with_same h.ps block code ordered end_in size) ∙ sym text));
    }
