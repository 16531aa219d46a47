-- What the rules on branches in conditionals make may stand in the place of what stood there: a conditional with a branch in it for a branch under a condition,
-- and the other way round.
use Rattle.std.proofs.Common.{◌≡◌, ℕ, suc, ◌+◌, ◌≤◌, true, List, [], ◌∷◌, ◌++◌, take, drop, refl, sym, ap, subst, ◌∙◌, arith}
use Rattle.std.specs.Prelude.{slice_range}
use Rattle.std.proofs.lemmas.List.{take-append-drop}
use Rattle.wasm_code.specs.declared.immediate.BlockType.TheVariants.{Empty}
use Rattle.wasm_code.specs.declared.operator.Operator.{Operator}
use Rattle.wasm_code.specs.declared.operator.Operator.TheVariants as op
use Rattle.body_splices.specs.OwnBytes.{none_of, without_offsets}
use Rattle.wasm_execution.specs.Values.{Context}
use Rattle.wasm_equivalence.specs.control.Standard.{asks_beyond}
use Rattle.wasm_equivalence.specs.hosts.Embedder.{with_operators}
use Rattle.wrapped_code.specs.Handlers.{none_handle}
use Rattle.body_rewrites.specs.declared.own.Made.TheVariants as made
use Rattle.body_rewrites.specs.Doing.{DoesAsBody}
use Rattle.body_rewrites.specs.Changes.{Change, changed, MayStand}
use Rattle.body_rewrites.specs.Own.{IsBareBranch, IsNestedBranch, change_of}
use Rattle.body_rewrites.proofs.StandsLemmas.{Operators}
use Rattle.body_rewrites.proofs.ChangedLemmas.{three_parts}
use Rattle.body_rewrites.proofs.FlowLemmas.{range_one, range_next, drop_one, behind_operator}
use Rattle.body_rewrites.proofs.FlowStandLemmas.{FlowLaws, all_in}

module _ (context : Context) (operators : Operators) (at : ℕ) where
  abbrev os : List Operator
  os = without_offsets operators

  abbrev rest : List Operator
  rest = drop (at + 1) os

  -- the conditional, and in it the branch to a label one further out
  abbrev nested : ℕ → List Operator
  nested label = op.If Empty ∷ op.Br (suc label) ∷ op.End ∷ []

  -- ---- a branch put in a conditional

  module _ (laws : FlowLaws) (label : ℕ) (h : IsBareBranch operators at label) where
    abbrev nesting : Change
    nesting = change_of at (record { start = at; made = made.InConditional label })

    nests_is : os ≡ take at os ++ (op.BrIf label ∷ rest)
    nests_is = sym (take-append-drop at os) ∙ ap (λ (l : List Operator). take at os ++ l) (drop_one os at (op.BrIf label) h.branch)

    outer_is : label + 1 ≡ suc label
    outer_is = omega arith

    nested_is : (word : ℕ) → changed operators at nesting word ≡ take at os ++ (nested label ++ rest)
    nested_is word = ap (λ n. take at os ++ (op.If Empty ∷ op.Br n ∷ op.End ∷ rest)) outer_is

    nest_does : (word : ℕ) → none_handle os ≡ true → DoesAsBody context [] os (changed operators at nesting word)
    nest_does word none m input b same is =
        laws.nests m input b (with_operators (changed operators at nesting word) b) (record {
          params_are = refl;
          locals_are = refl;
          unhandled = subst (λ (l : List Operator). none_handle l ≡ true) is none;
          front = take at os;
          back = rest;
          label = label;
          bare = h.bare;
          old_is = sym is ∙ nests_is;
          new_is = nested_is word;
        })

    nest_at : MayStand context operators at nesting
    nest_at = record {
      ordered = omega arith;
      followed = λ inside last. behind_operator operators at (op.BrIf label) h.branch refl last;
      within = λ word l. all_in context operators at (nesting.pieces word) (tt, (tt, (tt, tt)));
      unasked = ap (none_of asks_beyond) (range_one os at (op.BrIf label) h.branch);
      unasking = λ word. refl;
      does = λ word inside none. nest_does word none;
    }

    pub nest_stands : (start : ℕ) → start ≡ at → MayStand context operators at (change_of at (record { start = start; made = made.InConditional label }))
    nest_stands start e = subst (λ k. MayStand context operators at (change_of at (record { start = k; made = made.InConditional label }))) (sym e) nest_at

  -- ---- one taken out of it

  module _ (laws : FlowLaws) (start label : ℕ) (h : IsNestedBranch operators start at label) where
    abbrev unnesting : Change
    unnesting = change_of at (record { start = start; made = made.BranchIf label })

    begins : start ≤ at
    begins = let e = h.ends in omega (arith, e)

    range_is : slice_range os start (at + 1) ≡ nested label
    range_is =
        let e = h.ends in
        range_next os start (start + 1) (at + 1) (op.If Empty) refl (omega (arith, e)) h.opens
        ∙ ap (λ (l : List Operator). op.If Empty ∷ l)
        (range_next os (start + 1) at (at + 1) (op.Br (suc label)) (omega (arith, e)) (omega arith) h.branch
        ∙ ap (λ (l : List Operator). op.Br (suc label) ∷ l) (range_one os at op.End h.closes))

    unnests_is : os ≡ take start os ++ (nested label ++ rest)
    unnests_is =
        three_parts os start (at + 1) (let l = begins in omega (arith, l)) ∙ ap (λ (l : List Operator). take start os ++ (l ++ rest)) range_is

    unnest_does : (word : ℕ) → none_handle os ≡ true → DoesAsBody context [] os (changed operators at unnesting word)
    unnest_does word none m input b same is =
        laws.unnests m input b (with_operators (changed operators at unnesting word) b) (record {
          params_are = refl;
          locals_are = refl;
          unhandled = subst (λ (l : List Operator). none_handle l ≡ true) is none;
          front = take start os;
          back = rest;
          label = label;
          old_is = sym is ∙ unnests_is;
          new_is = refl;
        })

    pub unnest_stands : MayStand context operators at unnesting
    unnest_stands = record {
      ordered = begins;
      followed = λ inside last. h.inside;
      within = λ word l. all_in context operators at (unnesting.pieces word) (tt, tt);
      unasked = ap (none_of asks_beyond) range_is;
      unasking = λ word. refl;
      does = λ word inside none. unnest_does word none;
    }
