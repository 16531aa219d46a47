-- How two nodes compare (this project): by place, then payload, then children. Two nodes match where they are equal
-- but for the ids of their children.
use Rattle.std.specs.Prelude.{◌≡◌, ◌==◌, ℕ, Bool, Some, length}
use Rattle.std.specs.Hash.{HashWrites, Alike}
use Rattle.std.specs.Ordering.{on, eq_of_both, as_partial_cmp, eq_by_cmp}
use Rattle.std.specs.Cmp.{IsEquivalence, IsPartialEquivalence, IsTotalOrder, IsPartialOrder}
use Rattle.std.specs.declared.cmp.Ordering.{Ordering}
use Rattle.peephole_nodes.specs.Compared.{node_eq, node_cmp, node_hash, node_equiv, node_partial_equiv, node_total, node_ties, node_agrees}
use Rattle.peephole_nodes.specs.Compared.{node_order, node_alike}
use Rattle.peephole_nodes.specs.contracts.payload.PayloadPartialEq.TheImpl as payload_eq
use Rattle.peephole_lang.specs.declared.lang.Lang.{Lang}
use Rattle.peephole_lang.specs.Lang.{place_of, payload_of, ids_of}

-- how many children a node has
abbrev pub given_of : Lang → ℕ
given_of l = length (ids_of l)

-- the same place, payload and number of children
abbrev pub lang_matches : Lang → Lang → Bool
lang_matches = eq_of_both (on place_of ◌==◌) (eq_of_both (on payload_of payload_eq.ghosts.eq) (on given_of ◌==◌))

abbrev pub lang_eq : Lang → Lang → Bool
lang_eq = node_eq place_of payload_of ids_of

abbrev pub lang_cmp : Lang → Lang → Ordering
lang_cmp = node_cmp place_of payload_of ids_of

-- what `hash` feeds of a node
abbrev pub lang_hash : Lang → HashWrites
lang_hash = node_hash place_of payload_of ids_of

-- ---- the laws of these

pub lang_equiv : IsEquivalence lang_eq
lang_equiv = node_equiv place_of payload_of ids_of

pub lang_partial_equiv : IsPartialEquivalence lang_eq
lang_partial_equiv = node_partial_equiv place_of payload_of ids_of

pub lang_total : IsTotalOrder lang_cmp
lang_total = node_total place_of payload_of ids_of

pub lang_ties : (x y : Lang) → lang_eq x y ≡ eq_by_cmp lang_cmp x y
lang_ties = node_ties place_of payload_of ids_of

pub lang_agrees : (x y : Lang) → as_partial_cmp lang_cmp x y ≡ Some (lang_cmp x y)
lang_agrees = node_agrees place_of payload_of ids_of

pub lang_order : IsPartialOrder lang_eq (as_partial_cmp lang_cmp)
lang_order = node_order place_of payload_of ids_of

pub lang_alike : Alike lang_eq lang_hash
lang_alike = node_alike place_of payload_of ids_of
