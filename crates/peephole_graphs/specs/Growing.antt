-- How the builder's lists change by one operator. This project's rule, for the builder alone.
use Rattle.std.specs.Prelude.{ℕ, suc, ◌+◌, ◌-◌, ◌≡◌, ◌<◌, ◌≤◌, ◌==◌, ◌&&◌, true, List, [], ◌∷◌, ◌++◌, length, take, drop, replicate}
use Rattle.std.specs.Prelude.{slice_set, slice_index, Option, None, Some, if◌then◌else◌}
use Rattle.std.specs.List.{All, sum_by}
use Rattle.peephole_lang.specs.Node.{instr_of, children_of}
use Rattle.peephole_lang.specs.declared.lang.Lang.TheVariants.{Undef}
use Rattle.peephole_graphs.specs.declared.dfg.StackEntry.{StackEntry}
use Rattle.peephole_graphs.specs.declared.subtree.Subtree.{Subtree}
use Rattle.peephole_graphs.specs.declared.growing.Growing.{Growing}
use Rattle.peephole_graphs.specs.Shape.{Shape}
use Rattle.peephole_graphs.specs.Step.{down}
use Rattle.peephole_graphs.specs.Measures.{colors, size_kept, flag_kept, are_alike}

-- the entry of a missing operand
abbrev pub undef_entry : ℕ → StackEntry
undef_entry operator = record { operator = Undef; color = 4294967295; operator_idx = operator }

-- each of the indexes written
abbrev pub set_each : ℕ → List ℕ → List (Option ℕ) → List (Option ℕ)
set_each p [] ps = ps
set_each p (i ∷ is) ps = set_each p is (slice_set ps i (Some p))

-- how many operands are missing
abbrev pub lacks : ℕ → Growing → ℕ
lacks operands old = operands - length old.stack.items

-- the index of the operator's own entry: behind those of its missing operands
abbrev pub own_index : ℕ → Growing → ℕ
own_index operands old = length old.entries.items + lacks operands old

-- the indexes that an operator takes
abbrev pub taken_of : ℕ → Growing → List ℕ
taken_of operands old = drop (length old.stack.items - operands) old.stack.items

-- how many entries there are from those downwards
abbrev pub taken_total : ℕ → Growing → ℕ
taken_total operands g = sum_by (size_kept g.subtrees.items) (taken_of operands g)

-- what is kept of a missing operand
abbrev pub missing_subtree : Subtree
missing_subtree = record { len = 1; one_color = true }

-- what is kept of an operator's own entry
abbrev pub own_subtree : (operands missing color : ℕ) → Growing → Subtree
own_subtree operands missing color g = record {
  len = suc (missing + taken_total operands g);
  one_color = (missing == 0) && are_alike (flag_kept g.subtrees.items) (slice_index (colors g.entries.items)) color (taken_of operands g);
}

-- The lists belong to one graph: there are as many parents and subtrees as entries, and the stack is of entries, whose
-- subtrees have no more entries than there are.
pub record IsConsistent (g : Growing) : Type 0 where
  pub parents : length g.parents.items ≡ length g.entries.items
  pub subtrees : length g.subtrees.items ≡ length g.entries.items
  pub stack : All (λ i. i < length g.entries.items) g.stack.items
  pub room : sum_by (size_kept g.subtrees.items) g.stack.items ≤ length g.entries.items

-- An operator's entries were put behind the others.
pub record Added (s : Shape) (operator : ℕ) (old new : Growing) : Type 0 where
  pub own : StackEntry
  pub own_instr : instr_of own.operator ≡ Some s.instr
  pub own_children : children_of own.operator ≡ down (length old.entries.items) (lacks s.operands old) ++ taken_of s.operands old
  pub own_color : own.color ≡ old.color
  pub own_operator : own.operator_idx ≡ operator
  pub entries : new.entries.items ≡ (old.entries.items ++ replicate (lacks s.operands old) (undef_entry operator)) ++ own ∷ []
  pub parents : new.parents.items ≡ (set_each (own_index s.operands old) (taken_of s.operands old) old.parents.items
      ++ replicate (lacks s.operands old) (Some (own_index s.operands old))) ++ None ∷ []
  pub stack : new.stack.items ≡ (let left = take (length old.stack.items - s.operands) old.stack.items in
      if s.has_result then left ++ own_index s.operands old ∷ [] else left)
  pub subtrees : new.subtrees.items ≡ (old.subtrees.items ++ replicate (lacks s.operands old) missing_subtree)
      ++ own_subtree s.operands (lacks s.operands old) old.color old ∷ []
  pub first : new.map.first ≡ old.map.first
  pub named : new.map.entries.items ≡ old.map.entries.items ++ own_index s.operands old ∷ []
