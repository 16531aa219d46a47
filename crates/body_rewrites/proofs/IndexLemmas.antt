-- What bounds the index of a branch by a table: where it stands in a body.
use Rattle.std.proofs.Common.{◌≡◌, ℕ, suc, ◌+◌, ◌-◌, ◌<◌, List, [], ◌∷◌, ◌++◌, length, sym, ap, subst, ◌∙◌, arith}
use Rattle.std.proofs.lemmas.List.{length-append}
use Rattle.wasm_code.specs.Instruction.{Instruction}
use Rattle.wasm_code.specs.declared.operator.Operator.TheVariants.{BrTable}
use Rattle.wasm_execution.specs.declared.integer.IntegerType.TheVariants as integer
use Rattle.wasm_execution.specs.Values.{Context}
use Rattle.rewrite_rules.specs.Flow.{below_code, select_code}
use Rattle.rewrite_rules.specs.Instance.{constant_code}
use Rattle.body_rewrites.specs.Trees.{Stands}
use Rattle.body_rewrites.specs.Open.{HasInstruction}
use Rattle.body_rewrites.specs.Own.{IsBounded, IsReadBefore}
use Rattle.body_rewrites.specs.OwnSites.{IsBoundAt, IsSettledBefore}
use Rattle.body_rewrites.proofs.StandsLemmas.{Operators}
use Rattle.body_rewrites.proofs.SplitLemmas.{Split, split, count_is, one_stands}
use Rattle.body_rewrites.proofs.FlowLemmas.{there_inside}

module _ (context : Context) (operators : Operators) (start at end : ℕ) (h : IsBounded context operators start at end) where
  abbrev limit : Instruction
  limit = constant_code integer.I32 h.count

  abbrev code : List Instruction
  code = h.tree.code

  abbrev picks : List Instruction
  picks = limit ∷ below_code ∷ select_code ∷ []

  before_branch : at + 1 < length operators
  before_branch = there_inside operators (at + 1) (BrTable h.count) h.behind.has

  pub bound_inside : at < length operators
  bound_inside = let l = before_branch in omega (arith, l)

  -- the number of operators
  code_size : length code ≡ end - start
  code_size =
      let inside = h.tree.inside in
      let last = h.last_is in
      count_is operators start (h.last + 1) code (omega (arith, inside)) h.tree.stands ∙ ap (λ k. k - start) last

  code_some : 0 < length code
  code_some = let ordered = h.tree.ordered in let last = h.last_is in let size = code_size in omega (arith, ordered, last, size)

  all_size : length code + 4 ≡ at + 1 - end
  all_size =
      let l = before_branch in
      let parts = length-append code picks in
      let count = count_is operators end (at + 1) (limit ∷ (code ++ picks)) (omega (arith, l)) h.stands in
      omega (arith, parts, count)

  -- in parts: the number and the code, and what bounds it
  two : Split operators end (at + 1) (limit ∷ code) picks
  two =
      let size = all_size in
      let l = before_branch in
      split operators end (at + 1) (limit ∷ code) picks (omega (arith, size)) (omega (arith, l)) h.stands

  number_first : Split operators end two.at (limit ∷ []) code
  number_first =
      let behind = two.behind in
      let l = before_branch in
      split operators end two.at (limit ∷ []) code two.before (omega (arith, behind, l)) two.front

  number_again : Split operators two.at (at + 1) (limit ∷ []) (below_code ∷ select_code ∷ [])
  number_again =
      let l = before_branch in
      split operators two.at (at + 1) (limit ∷ []) (below_code ∷ select_code ∷ []) two.behind (omega (arith, l)) two.back

  last_two : Split operators number_again.at (at + 1) (below_code ∷ []) (select_code ∷ [])
  last_two =
      let l = before_branch in
      split operators number_again.at (at + 1) (below_code ∷ []) (select_code ∷ []) number_again.behind (omega (arith, l)) number_again.back

  first_there : (number_first.at ≡ suc end) × HasInstruction operators end limit
  first_there =
      let behind = two.behind in
      let within = number_first.behind in
      let l = before_branch in
      one_stands operators end number_first.at limit (omega (arith, behind, within, l)) number_first.front

  again_there : (number_again.at ≡ suc two.at) × HasInstruction operators two.at limit
  again_there =
      let within = number_again.behind in
      let l = before_branch in
      one_stands operators two.at number_again.at limit (omega (arith, within, l)) number_again.front

  below_there : (last_two.at ≡ suc number_again.at) × HasInstruction operators number_again.at below_code
  below_there =
      let within = last_two.behind in
      let l = before_branch in
      one_stands operators number_again.at last_two.at below_code (omega (arith, within, l)) last_two.front

  select_there : (at + 1 ≡ suc last_two.at) × HasInstruction operators last_two.at select_code
  select_there = let l = before_branch in one_stands operators last_two.at (at + 1) select_code (omega (arith, l)) last_two.back

  -- ---- what that says

  pub bound_place : ℕ
  bound_place = two.at

  pub bound_there : IsBoundAt operators bound_place at h.count
  unfolding bound_place
  bound_there =
      let a = again_there.0 in
      let b = below_there.0 in
      let c = select_there.0 in
      let next : number_again.at ≡ bound_place + 1 = omega (arith, a) in
      let last : last_two.at ≡ at = omega (arith, c) in
      record {
        ends = omega (arith, a, b, c);
        limit = again_there.1;
        compares = subst (λ k. HasInstruction operators k below_code) next below_there.1;
        selects = subst (λ k. HasInstruction operators k select_code) last select_there.1;
        behind = h.behind;
      }

  pub bound_selects : HasInstruction operators at select_code
  bound_selects = bound_there.selects

  pub bound_number : HasInstruction operators end limit
  bound_number = first_there.1

  pub bound_code : Stands operators (end + 1) bound_place code
  unfolding bound_place
  bound_code =
      let first = first_there.0 in
      subst (λ k. Stands operators k bound_place code) (let next : number_first.at ≡ end + 1 = omega (arith, first) in next) number_first.back

  after_end : end + 1 < bound_place
  unfolding bound_place
  after_end =
      let a = again_there.0 in
      let b = below_there.0 in
      let c = select_there.0 in
      let size = all_size in
      let some = code_some in
      omega (arith, a, b, c, size, some)

  pub bound_behind : end < at
  bound_behind = let l = after_end in let e = bound_there.ends in omega (arith, l, e)

  -- the tree, and the same once more
  pub bound_read : IsSettledBefore context operators start end
  bound_read = record { read = record { last = h.last; last_is = h.last_is; tree = h.tree; reads = h.reads }; settled = h.settled }

  pub bound_copy : IsReadBefore context operators (end + 1) bound_place
  bound_copy =
      let l = after_end in
      let ends = bound_there.ends in
      let inside = before_branch in
      let last : bound_place - 1 + 1 ≡ bound_place = omega (arith, l) in
      record {
        last = bound_place - 1;
        last_is = last;
        tree = record {
          inside = omega (arith, l, ends, inside);
          ordered = omega (arith, l);
          code = code;
          stands = subst (λ k. Stands operators (end + 1) k code) (sym last) bound_code;
          typed = h.tree.typed;
        };
        reads = h.reads;
      }
