-- What the encoder's own functions go by: the steps of a term in postfix, what each of them does, and what a function that takes them answers; a graph's
-- roots one by one, by the nodes of the entries; and the bounds of the bytes outside a block. This project's rule.
use Rattle.std.specs.Prelude.{ℕ, ℤ, ◌+◌, ◌-◌, ◌<◌, ◌≤◌, ◌==◌, ◌≡◌, List, [], ◌∷◌, ◌++◌, length, map, take, nat_le, if◌then◌else◌}
use Rattle.std.specs.Prelude.{slice_index, Option, Some, None, Result, Ok, Err, OnOk, IfErr, ⊤}
use Rattle.std.specs.List.{All}
use Rattle.rand_core.specs.Stream.{Stream}
use Rattle.wasm_code.specs.Code.{code}
use Rattle.wasm_code.specs.Instruction.{Instruction, IsInstruction}
use Rattle.wasm_code.specs.declared.operator.Operator.{Operator}
use Rattle.mutate_base.specs.declared.error.Error.{Error}
use Rattle.mutate_base.specs.declared.error.Error.TheVariants.{Memory, CannotUnfold, GlobalIndex}
use Rattle.peephole_lang.specs.declared.lang.Head.{Head}
use Rattle.peephole_lang.specs.declared.lang.Lang.{Lang}
use Rattle.peephole_lang.specs.Node.{head_of, children_of}
use Rattle.peephole_lang.specs.Term.{Term, Terms, absent, node, no_terms, ◌▸◌, Node, AreBelow, pick, tree_at, nodes_of}
use Rattle.peephole_graphs.specs.declared.dfg.StackEntry.{StackEntry}
use Rattle.peephole_terms.specs.declared.encoder.request.ResourceRequest.{ResourceRequest}
use Rattle.peephole_terms.specs.NodeKind as kind
use Rattle.peephole_graphs.specs.Block.{BlockRange}
use Rattle.peephole_graphs.specs.Entries.{roots_of}
use Rattle.peephole_graphs.specs.Layout.{entry_nodes}
use Rattle.peephole_terms.specs.NodeKind.{NumberType, IntegerType, NodeKind, node_kind, is_unfold, number_type_of}
use Rattle.peephole_terms.specs.Expansion.{next_word, constant, rest_of, add_of, global_set_code, global_get_code, constant_in, request}
use Rattle.peephole_terms.specs.Written.{offset_of}

-- ---- steps

pub data Step : Type 0 where
  emit : Instruction → Step
  draw : NumberType → Step
  split : IntegerType → Option ℤ → Step
  store : NumberType → Step
  nothing : Step
  raw : List ℕ → Step

-- an instruction that is added as it stands is one of the table, its numbers in range
abbrev pub IsInRange : Step → Type 0
IsInRange (emit i) = IsInstruction i
IsInRange _ = ⊤

-- what a node does behind its children
abbrev pub own_step : NodeKind → Terms Head → Step
own_step (kind.Own i) kids = emit i
own_step (kind.Random t) kids = draw t
own_step (kind.Unfold t) kids = split t (constant_in t kids)
own_step (kind.UseGlobal t) kids = store t
own_step kind.Container kids = nothing
own_step kind.Nothing kids = nothing

-- the children that are written
abbrev pub children_to_write : {A : Type 0} → NodeKind → List A → List A
children_to_write k children = if is_unfold k then [] else children

-- in postfix, and not below an unfold
abbrev mutual
  pub steps_of : Term Head → List Step
  steps_of absent = []
  steps_of (node h kids) = children_to_write (node_kind h) (steps kids) ++ own_step (node_kind h) kids ∷ []

  pub steps : Terms Head → List Step
  steps no_terms = []
  steps (t ▸ ts) = steps_of t ++ steps ts

-- between these bytes
abbrev pub around : (before : List ℕ) → List Step → (after : List ℕ) → List Step
around before taken after = raw before ∷ (taken ++ raw after ∷ [])

-- what is written so far, what is requested, and what the generator will give
pub record Writing : Type 0 where
  pub bytes : List ℕ
  pub requests : List ResourceRequest
  pub stream : Stream

abbrev pub writing_of : List ℕ → List ResourceRequest → Stream → Writing
writing_of bytes requests stream = record { bytes = bytes; requests = requests; stream = stream }

-- with more bytes
abbrev pub writing_with_bytes : List ℕ → Writing → Writing
writing_with_bytes more w = record w { bytes = w.bytes ++ more }

-- with another instruction
abbrev pub with_instruction : Instruction → Writing → Writing
with_instruction i w = writing_with_bytes (code i) w

-- with a drawn word
abbrev pub with_draw : NumberType → Writing → Writing
with_draw t w = record { bytes = w.bytes; requests = w.requests; stream = (next_word t w.stream).1 }

-- with a requested global
abbrev pub with_request : NumberType → Writing → Writing
with_request t w = record { bytes = w.bytes; requests = w.requests ++ request t ∷ []; stream = w.stream }

-- a constant of the next word
abbrev pub with_word : NumberType → Writing → Writing
with_word t w = with_instruction (constant t (next_word t w.stream).0) (with_draw t w)

-- the sum of the next word and the rest
abbrev pub with_sum : IntegerType → ℤ → Writing → Writing
with_sum t z w = with_instruction (add_of t) (with_instruction (rest_of t (next_word (number_type_of t) w.stream).0 z) (with_word (number_type_of t) w))

-- `count` is the number of the module's globals
abbrev pub take_step : ℕ → Step → Writing → Result Writing Error
take_step count (emit i) w = Ok (with_instruction i w)
take_step count (draw t) w = Ok (with_word t w)
take_step count (split t None) w = Err CannotUnfold
take_step count (split t (Some z)) w = Ok (with_sum t z w)
take_step count (store t) w =
    let g = count + length w.requests in
    if nat_le g 4294967295 then Ok (with_instruction (global_get_code g) (with_instruction (global_set_code g) (with_request t w))) else Err GlobalIndex
take_step count nothing w = Ok w
take_step count (raw more) w = Ok (writing_with_bytes more w)

-- and then the others
abbrev pub then_steps : Result Writing Error → (Writing → Result Writing Error) → Result Writing Error
then_steps (Ok w) more = more w
then_steps (Err e) more = Err e

abbrev pub take_steps : ℕ → List Step → Writing → Result Writing Error
take_steps count [] w = Ok w
take_steps count (s ∷ ss) w = then_steps (take_step count s w) (take_steps count ss)

-- memory aside, a refusal is the one that is named
abbrev pub IsEncoderRefusal : Error → Result Writing Error → Type 0
IsEncoderRefusal Memory r = ⊤
IsEncoderRefusal CannotUnfold r = r ≡ Err CannotUnfold
IsEncoderRefusal GlobalIndex r = r ≡ Err GlobalIndex
IsEncoderRefusal _ r = ⊥

-- What a function answers and leaves that takes these steps, `globals` being the number of the module's: after success it has taken them all, and
-- the instructions are in range; otherwise one of them refuses. The old bytes stay in front.
pub record Does (globals : ℕ) (taken : List Step) (old new : Writing) (result : Result (Unit {0}) Error) : Type 0 where
  pub ok : OnOk result (take_steps globals taken old ≡ Ok new)
  pub err : IfErr result (λ e. IsEncoderRefusal e (take_steps globals taken old))
  pub in_range : OnOk result (All IsInRange taken)
  pub kept : take (length old.bytes) new.bytes ≡ old.bytes

-- ---- nodes

-- the nodes that the items of a list hold, the last one first
abbrev pub nodes_in : {A : Type 0} → (A → Lang) → List A → List (Node Head)
nodes_in held items = nodes_of (λ item. head_of (held item)) (λ item. children_of (held item)) items

-- what a node does whose children are among the nodes
abbrev pub own_step_in : List (Node Head) → Lang → Step
own_step_in nodes l = own_step (node_kind (head_of l)) (pick (tree_at nodes) (children_of l))

-- what it does as an unfold
abbrev pub split_step_in : IntegerType → List (Node Head) → Lang → Step
split_step_in t nodes l = split t (constant_in t (pick (tree_at nodes) (children_of l)))

-- ---- roots

-- the body's index of an entry's operator
abbrev pub operator_of_entry : List StackEntry → ℕ → ℕ
operator_of_entry entries i = slice_index (map (λ (e : StackEntry). e.operator_idx) entries) i

-- what is written for a root: the term at the insertion point, otherwise its own tree
abbrev pub root_term : ℕ → Term Head → List StackEntry → ℕ → Term Head
root_term at term entries i = if operator_of_entry entries i == at then term else tree_at (entry_nodes entries) i

abbrev pub root_terms : ℕ → Term Head → List StackEntry → List ℕ → Terms Head
root_terms at term entries [] = no_terms
root_terms at term entries (i ∷ is) = root_term at term entries i ▸ root_terms at term entries is

-- the steps of all roots' terms
abbrev pub root_steps : ℕ → Term Head → List StackEntry → List (Option ℕ) → List Step
root_steps at term entries parents = steps (root_terms at term entries (roots_of parents))

-- Each entry has its children before it, and there is a parent or none for each.
pub record IsWalkable (entries : List StackEntry) (parents : List (Option ℕ)) : Type 0 where
  pub below : AreBelow (entry_nodes entries)
  pub parent_each : length parents ≡ length entries

-- ---- the bytes outside the block

-- They are in the input.
pub record BlockIsInside (input : List ℕ) (operators : List (Operator × ℕ)) (block : BlockRange) : Type 0 where
  pub start_there : block.start < length operators
  pub end_there : block.end < length operators
  pub before : offset_of operators 0 ≤ offset_of operators block.start
  pub start_inside : offset_of operators block.start ≤ length input
  pub after : offset_of operators block.end ≤ offset_of operators (length operators - 1)
  pub last_inside : offset_of operators (length operators - 1) < length input
