-- The blocks that are open before each operator of a body, and what is noted of them.
use Rattle.std.proofs.Common.{◌≡◌, ℕ, zero, suc, ◌+◌, ◌-◌, ◌<◌, ◌≤◌, max, inl, inr, true, false, List, [], ◌∷◌, ◌++◌, length, take, get_or}
use Rattle.std.proofs.Common.{Option, Some, None, refl, sym, ap, ◌∙◌, subst, arith}
use Rattle.std.specs.Prelude.{slice_get, option_map, option_and_then}
use Rattle.std.specs.Option.{option_flatten}
use Rattle.std.proofs.lemmas.Bool.{cases_lt}
use Rattle.std.proofs.lemmas.List.{length-drop, length-map, length_push, take_all}
use Rattle.std.proofs.lemmas.Option.{slice_get-get_or, slice_get-map}
use Rattle.wasm_code.specs.declared.operator.Operator.{Operator}
use Rattle.wasm_code.specs.declared.operator.Operator.TheVariants.{Block, Loop, If, End}
use Rattle.body_splices.specs.OwnBytes.{without_offsets}
use Rattle.wrapped_code.specs.Opened.{opens_block, open_after, open_behind}
use Rattle.body_rewrites.specs.declared.blocks.Blocks.{Blocks}
use Rattle.body_rewrites.specs.declared.blocks.Nest.{Nest}
use Rattle.body_rewrites.specs.Blocks.{opened, IsInnermost, AreInnermost, AreBlocks, outer_at, IsNest, IsOpenerOf}
use Rattle.body_rewrites.proofs.PassLemmas.{each_pushed}

-- ---- one operator more

-- behind one that opens a block
behind_opener : (o : Operator) (before : List Operator) → opens_block o ≡ true → open_after o before ≡ o ∷ before
behind_opener (Block t) before e = refl
behind_opener (Loop t) before e = refl
behind_opener (If t) before e = refl
behind_opener o before e = absurd cc

-- behind one that neither opens nor ends one
behind_other : (o : Operator) (before : List Operator) → opens_block o ≡ false → (o ≡ End → ⊥) → open_after o before ≡ before
behind_other (Block t) before e d = absurd cc
behind_other (Loop t) before e d = absurd cc
behind_other (If t) before e d = absurd cc
behind_other End before e d = absurd (d refl)
behind_other o before e d = refl

-- at most one more is open
behind_one : (o : Operator) (before : List Operator) → length (open_after o before) ≤ length before + 1
behind_one (Block t) before = omega arith
behind_one (Loop t) before = omega arith
behind_one (If t) before = omega arith
behind_one End [] = omega arith
behind_one End (p ∷ before) = omega arith
behind_one o before = omega arith

-- behind operators, and one more
behind_next : (os : List Operator) (at : ℕ) (o : Operator) (before : List Operator) → slice_get os at ≡ Some o →
    open_behind (take (suc at) os) before ≡ open_after o (open_behind (take at os) before)
behind_next [] at o before e = absurd cc
behind_next (p ∷ os) zero o before e = ap (λ q. open_after q before) cc
behind_next (p ∷ os) (suc at) o before e = behind_next os at o (open_after p before) e

-- as many are open as operators were read, at most
behind_most : (os : List Operator) (at : ℕ) (before : List Operator) → length (open_behind (take at os) before) ≤ length before + at
behind_most os zero before = omega arith
behind_most [] (suc at) before = omega arith
behind_most (p ∷ os) (suc at) before = omega (arith, behind_most os at (open_after p before), behind_one p before)

-- the operator without its offset
abbrev alone : Operator × ℕ → Operator
alone o = o.0

module _ (operators : List (Operator × ℕ)) where
  -- one more is noted
  pub noted_next : (at : ℕ) (list : List (Option ℕ)) (o : Option ℕ) → AreInnermost operators at list → IsInnermost operators at o →
      (next : List (Option ℕ)) → next ≡ list ++ o ∷ [] → AreInnermost operators (at + 1) next
  noted_next at list o h is next e = subst (AreInnermost operators (at + 1)) (sym e) (record {
    count_is = length_push list o ∙ ap (λ n. n + 1) h.count_is;
    each = each_pushed (IsInnermost operators) list o h.each (subst (λ n. IsInnermost operators n o) (sym h.count_is) is);
  })

  -- what is noted at a place
  noted : (list : List (Option ℕ)) (count at : ℕ) → AreInnermost operators count list → at < count → IsInnermost operators at (outer_at list at)
  noted list count at h less =
      let count = h.count_is in
      let there : slice_get list at ≡ Some (get_or list at None) = slice_get-get_or list at None (omega arith) in
      subst (IsInnermost operators at) (sym (ap option_flatten there)) (h.each at (get_or list at None) there)

  -- no more are open than operators stand before
  pub depth_within : (at : ℕ) (nest : Nest) → IsNest operators at nest → nest.depth ≤ at
  depth_within at nest h = let depth = h.depth_is in omega (arith, behind_most (without_offsets operators) at [])

  -- ---- behind the operator at an index

  module _ (at : ℕ) (d : Operator × ℕ) (inside : at < length operators) (nest : Nest) (h : IsNest operators at nest) where
    abbrev here : Operator
    here = (get_or operators at d).0

    stands : slice_get (without_offsets operators) at ≡ Some here
    stands = slice_get-map alone operators at ∙ ap (option_map alone) (slice_get-get_or operators at d inside)

    opened_next : opened operators (at + 1) ≡ open_after here (opened operators at)
    opened_next =
        let next : at + 1 ≡ suc at = omega arith in ap (opened operators) next ∙ behind_next (without_offsets operators) at here [] stands

    -- where the same are open as before an earlier operator, its innermost one is that of both
    moved : (place : ℕ) (o : Option ℕ) → place ≤ at → opened operators (at + 1) ≡ opened operators place → IsInnermost operators place o →
        IsInnermost operators (at + 1) o
    moved place (Some p) le same (less, o, has, are) = (omega (arith, less, le), o, has, same ∙ are)
    moved place None le same is = same ∙ is

    pub behind_begin : opens_block here ≡ true → IsNest operators (at + 1) (record { innermost = Some at; depth = nest.depth + 1 })
    behind_begin opens =
        let are : opened operators (at + 1) ≡ here ∷ opened operators at = opened_next ∙ behind_opener here (opened operators at) opens in
        record { innermost_is = (omega arith, here, stands, are); depth_is = let more = ap length are in let depth = h.depth_is in omega arith }

    pub behind_end : (list : List (Option ℕ)) → AreInnermost operators (at + 1) list → here ≡ End → (inner : Option ℕ) →
        inner ≡ option_and_then (outer_at list) nest.innermost → (depth : ℕ) → depth ≡ nest.depth - 1 →
        IsNest operators (at + 1) (record { innermost = inner; depth = depth })
    behind_end list known ends inner inner_is depth depth_is = record {
      innermost_is = subst (IsInnermost operators (at + 1)) (sym inner_is) (around nest.innermost h.innermost_is);
      depth_is = ap length left ∙ (length-drop 1 (opened operators at) ∙ (ap (λ n. n - 1) h.depth_is ∙ sym depth_is));
    }
      where
        left : opened operators (at + 1) ≡ open_after End (opened operators at)
        left = opened_next ∙ ap (λ o. open_after o (opened operators at)) ends

        -- around the innermost one is the innermost one before it
        around : (o : Option ℕ) → IsInnermost operators at o → IsInnermost operators (at + 1) (option_and_then (outer_at list) o)
        around None is = left ∙ ap (open_after End) is
        around (Some place) (less, o, has, are) =
            moved place (outer_at list place) (omega (arith, less)) (left ∙ ap (open_after End) are) (noted list (at + 1) place known (omega (arith, less)))

    pub behind_rest : opens_block here ≡ false → (here ≡ End → ⊥) → IsNest operators (at + 1) nest
    behind_rest other ends =
        let are : opened operators (at + 1) ≡ opened operators at = opened_next ∙ behind_other here (opened operators at) other ends in
        record { innermost_is = moved at nest.innermost (omega arith) are h.innermost_is; depth_is = ap length are ∙ h.depth_is }

  -- ---- where a block begins

  -- Before the place the same blocks are open, but for so many of the innermost ones.
  pub record IsAround (at count place : ℕ) : Type 0 where
    pub inside : place < length operators
    pub same : (k : ℕ) → slice_get (opened operators at) (count + k) ≡ slice_get (opened operators place) k

  module _ (blocks : Blocks) (h : AreBlocks operators blocks) (at count place : ℕ) (around : IsAround at count place) where
    inner : IsInnermost operators place (outer_at blocks.innermost.items place)
    inner = noted blocks.innermost.items (length operators) place h.innermost_are around.inside

    pub one_around : (next : ℕ) → Some next ≡ outer_at blocks.innermost.items place → IsAround at (count + 1) next
    one_around next e = of (subst (IsInnermost operators place) (sym e) inner)
      where
        of : IsInnermost operators place (Some next) → IsAround at (count + 1) next
        of (less, o, has, are) = record {
          inside = let i = around.inside in omega (arith, less);
          same = λ k. ap (slice_get (opened operators at)) (let e : count + 1 + k ≡ count + suc k = omega arith in e)
              ∙ (around.same (suc k) ∙ ap (λ l. slice_get l (suc k)) are);
        }

    pub opener_here : (label : ℕ) → label ≡ count → (o : Option ℕ) → o ≡ outer_at blocks.innermost.items place → IsOpenerOf operators at label o
    opener_here label same o e = of o (subst (IsInnermost operators place) (sym e) inner)
      where
        first : slice_get (opened operators at) label ≡ slice_get (opened operators place) 0
        first = ap (slice_get (opened operators at)) (let e : label ≡ count + 0 = omega arith in e) ∙ around.same 0

        of : (o : Option ℕ) → IsInnermost operators place o → IsOpenerOf operators at label o
        of None is = first ∙ ap (λ l. slice_get l 0) is
        of (Some p) (less, o, has, are) = (o, has, first ∙ ap (λ l. slice_get l 0) are)

    pub none_further : None ≡ outer_at blocks.innermost.items place → (label : ℕ) → count ≤ label → IsOpenerOf operators at label None
    none_further e label le =
        let none : opened operators place ≡ [] = subst (IsInnermost operators place) (sym e) inner in
        ap (slice_get (opened operators at)) (let e : label ≡ count + (label - count) = omega arith in e)
        ∙ (around.same (label - count) ∙ ap (λ l. slice_get l (label - count)) none)

  -- ---- how many are open

  -- behind the last operator the same are open
  opened_past : (at : ℕ) → length operators ≤ at → opened operators at ≡ opened operators (length operators)
  opened_past at le =
      let count : length (without_offsets operators) ≡ length operators = length-map operators alone in
      ap (λ os. open_behind os [])
      (take_all at (without_offsets operators) (omega arith) ∙ sym (take_all (length operators) (without_offsets operators) (omega arith)))

  -- Before the operators up to this one, so many are open where most are.
  pub record AreMost (at deepest : ℕ) : Type 0 where
    pub most : (k : ℕ) → k ≤ at → length (opened operators k) ≤ deepest
    pub reached : (k : ℕ) × (length (opened operators k) ≡ deepest)

  pub most_next : (at deepest : ℕ) (nest : Nest) → AreMost at deepest → IsNest operators (at + 1) nest → AreMost (at + 1) (max deepest nest.depth)
  most_next at deepest nest h next = record {
    most = λ k le. elim (cases_lt at k) [
      | inl l ↦ let last : k ≡ at + 1 = omega arith in let depth = ap (λ n. length (opened operators n)) last ∙ next.depth_is in omega arith
      | inr l ↦ let most = h.most k l in omega arith
    ];
    reached = elim (cases_lt deepest nest.depth) [
      | inl l ↦ (at + 1, next.depth_is ∙ omega arith)
      | inr l ↦ (h.reached.0, h.reached.1 ∙ omega arith)
    ];
  }

  pub all_blocks : (blocks : Blocks) (at : ℕ) → at ≡ length operators → AreInnermost operators at blocks.innermost.items → AreMost at blocks.deepest →
      AreBlocks operators blocks
  all_blocks blocks at e known h = record {
    innermost_are = subst (λ n. AreInnermost operators n blocks.innermost.items) e known;
    most = λ k. elim (cases_lt at k) [
      | inl l ↦ let same = ap length (opened_past k (omega arith)) in let most = h.most (length operators) (omega arith) in omega arith
      | inr l ↦ h.most k l
    ];
    reached = h.reached;
  }
