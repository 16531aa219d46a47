-- How a node is seen (this project): its place, what it says besides its variant and its children, and its children.
use Rattle.std.specs.Prelude.{◌≡◌, ℕ, List, [], ◌∷◌, length, slice_index_or}
use Rattle.std.specs.Global.{Vec}
use Rattle.std.specs.Vec.{with_items}
use Rattle.peephole_nodes.specs.declared.id.Id.{Id}
use Rattle.peephole_nodes.specs.declared.payload.Payload.{Payload}

-- no child, one, an array of them, or a list
pub data Children : Type 0 where
  childless : Children
  lone_child : Id → Children
  child_array : List Id → Children
  child_list : Vec Id → Children

-- their ids, the first operand first
abbrev pub ids_in : Children → List Id
ids_in childless = []
ids_in (lone_child child) = child ∷ []
ids_in (child_array ids) = ids
ids_in (child_list v) = v.items

-- what they are once these ids have been written in their place
abbrev pub written : Children → List Id → Children
written childless w = childless
written (lone_child child) w = lone_child (slice_index_or w 0 child)
written (child_array _) w = child_array w
written (child_list v) w = child_list (with_items v w)

-- a node's place, payload and children, how many children its variant has, and the node with other children
pub record View (L : Type 0) : Type 0 where
  pub place : ℕ
  pub payload : Payload
  pub children : Children
  pub count : ℕ
  pub remade : List Id → L

-- a node without children
abbrev pub leaf : {L : Type 0} → ℕ → Payload → L → View L
leaf place p node_itself = record { place = place; payload = p; children = childless; count = 0; remade = λ w. node_itself }

-- a node with one child
abbrev pub only : {L : Type 0} → ℕ → Payload → (Id → L) → Id → View L
only place p make child = record {
  place = place;
  payload = p;
  children = lone_child child;
  count = 1;
  remade = λ w. make (slice_index_or w 0 child);
}

-- a node with an array of so many children
abbrev pub array : {L : Type 0} → ℕ → Payload → ℕ → (List Id → L) → List Id → View L
array place p n make ids = record { place = place; payload = p; children = child_array ids; count = n; remade = make }

-- a node with a list of children
abbrev pub growing : {L : Type 0} → ℕ → Payload → (Vec Id → L) → Vec Id → View L
growing place p make v = record {
  place = place;
  payload = p;
  children = child_list v;
  count = length v.items;
  remade = λ w. make (with_items v w);
}

-- the node is seen as the old one, but for these children
pub record IsWritten {L : Type 0} (old new : View L) (w : List Id) : Type 0 where
  pub same_place : new.place ≡ old.place
  pub same_payload : new.payload ≡ old.payload
  pub new_children : new.children ≡ written old.children w
