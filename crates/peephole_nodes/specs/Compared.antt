-- How two nodes compare (this project): by place, then payload, then children. A numeric node has no payload.
use Rattle.std.specs.Prelude.{◌≡◌, ◌==◌, ◌++◌, ℕ, List, Bool, Some, refl}
use Rattle.std.specs.Hash.{HashWrites, Alike, and-Alike, on_Alike, same_Alike, items_Alike, u16 as fed_u16, slice as fed_slice}
use Rattle.std.specs.Ordering.{nat_cmp, on, then_cmp, eq_of_both, as_partial_cmp, eq_by_cmp}
use Rattle.std.specs.Cmp.{IsEquivalence, IsPartialEquivalence, IsTotalOrder, IsPartialOrder, and_equiv, on_equiv, nat_eq_equiv, on_total}
use Rattle.std.specs.Cmp.{then_total, nat_cmp_total, both_tied, unsigned_ties, unsigned_Decides, partial_equiv_from_equiv}
use Rattle.std.specs.Cmp.{partial_order_from_agreeing_total}
use Rattle.std.specs.Cmp.Lexicographic.{slice_cmp, pointwise, lists_equiv, lists_total, lists_ties}
use Rattle.std.specs.declared.cmp.Ordering.{Ordering}
use Rattle.peephole_nodes.specs.contracts.id.IdPartialEq.TheImpl as id_eq
use Rattle.peephole_nodes.specs.contracts.id.IdOrd.TheImpl as id_ord
use Rattle.peephole_nodes.specs.contracts.id.IdHash.TheImpl as id_hash
use Rattle.peephole_nodes.specs.contracts.id.IdEq.TheImpl.Laws.{laws-law as id_equiv}
use Rattle.peephole_nodes.specs.contracts.id.IdOrd.TheImpl.Laws.{total-law as id_total, matches_eq-law as id_ties}
use Rattle.peephole_nodes.specs.contracts.id.IdHash.TheImpl.Laws.{respects_eq-law as id_alike}
use Rattle.peephole_nodes.specs.contracts.payload.PayloadPartialEq.TheImpl as payload_eq
use Rattle.peephole_nodes.specs.contracts.payload.PayloadOrd.TheImpl as payload_ord
use Rattle.peephole_nodes.specs.contracts.payload.PayloadHash.TheImpl as payload_hash
use Rattle.peephole_nodes.specs.contracts.payload.PayloadEq.TheImpl.Laws.{laws-law as payload_equiv}
use Rattle.peephole_nodes.specs.contracts.payload.PayloadOrd.TheImpl.Laws.{total-law as payload_total, matches_eq-law as payload_ties}
use Rattle.peephole_nodes.specs.contracts.payload.PayloadHash.TheImpl.Laws.{respects_eq-law as payload_alike}
use Rattle.peephole_nodes.specs.declared.id.Id.{Id}
use Rattle.peephole_nodes.specs.declared.numeric.Numeric.{Numeric}
use Rattle.peephole_nodes.specs.declared.payload.Payload.{Payload}
use Rattle.peephole_nodes.specs.declared.payload.Payload.TheVariants.{Nothing}
use Rattle.peephole_nodes.specs.declared.simd.Simd.{Simd}
use Rattle.peephole_nodes.specs.Numeric.{numeric_place_of, numeric_ids_of}
use Rattle.peephole_nodes.specs.Simd.{simd_place_of, simd_payload_of, simd_ids_of}

-- ---- nodes of any kind, by what they are seen as

module _ {L : Type 0} (place : L → ℕ) (payload : L → Payload) (ids : L → List Id) where
  abbrev pub node_eq : L → L → Bool
  node_eq = eq_of_both (on place ◌==◌) (eq_of_both (on payload payload_eq.ghosts.eq) (on ids (pointwise id_eq.ghosts.eq)))

  abbrev pub node_cmp : L → L → Ordering
  node_cmp = then_cmp (on place nat_cmp) (then_cmp (on payload payload_ord.ghosts.cmp) (on ids (slice_cmp id_ord.ghosts.cmp)))

  -- what `hash` feeds of a node
  abbrev pub node_hash : L → HashWrites
  node_hash x = fed_u16 (place x) ++ (payload_hash.ghosts.hash_input (payload x) ++ fed_slice id_hash.ghosts.hash_input (ids x))

  -- the laws of these, from those of their parts
  pub node_equiv : IsEquivalence node_eq
  node_equiv = and_equiv (on_equiv place nat_eq_equiv) (and_equiv (on_equiv payload payload_equiv) (on_equiv ids (lists_equiv id_equiv)))

  pub node_partial_equiv : IsPartialEquivalence node_eq
  node_partial_equiv = partial_equiv_from_equiv node_equiv

  pub node_total : IsTotalOrder node_cmp
  node_total = then_total (on_total place nat_cmp_total) (then_total (on_total payload payload_total) (on_total ids (lists_total id_total)))

  pub node_ties : (x y : L) → node_eq x y ≡ eq_by_cmp node_cmp x y
  node_ties x y =
      both_tied _ _ (nat_cmp (place x) (place y)) _ (unsigned_ties (place x) (place y))
      (both_tied _ _ (payload_ord.ghosts.cmp (payload x) (payload y)) _ (payload_ties (payload x) (payload y))
      (lists_ties id_ord.ghosts.cmp id_ties (ids x) (ids y)))

  pub node_agrees : (x y : L) → as_partial_cmp node_cmp x y ≡ Some (node_cmp x y)
  node_agrees x y = refl

  pub node_order : IsPartialOrder node_eq (as_partial_cmp node_cmp)
  node_order = partial_order_from_agreeing_total node_cmp node_total node_agrees node_ties

  pub node_alike : Alike node_eq node_hash
  node_alike =
      and-Alike (on_Alike place (same_Alike fed_u16 unsigned_Decides))
      (and-Alike (on_Alike payload (record { fed = payload_alike })) (on_Alike ids (items_Alike (record { fed = id_alike }))))

-- ---- numeric nodes

abbrev pub numeric_payload_of : Numeric → Payload
numeric_payload_of _ = Nothing

abbrev pub numeric_eq : Numeric → Numeric → Bool
numeric_eq = node_eq numeric_place_of numeric_payload_of numeric_ids_of

abbrev pub numeric_cmp : Numeric → Numeric → Ordering
numeric_cmp = node_cmp numeric_place_of numeric_payload_of numeric_ids_of

abbrev pub numeric_hash : Numeric → HashWrites
numeric_hash = node_hash numeric_place_of numeric_payload_of numeric_ids_of

-- ---- vector nodes

abbrev pub simd_eq : Simd → Simd → Bool
simd_eq = node_eq simd_place_of simd_payload_of simd_ids_of

abbrev pub simd_cmp : Simd → Simd → Ordering
simd_cmp = node_cmp simd_place_of simd_payload_of simd_ids_of

abbrev pub simd_hash : Simd → HashWrites
simd_hash = node_hash simd_place_of simd_payload_of simd_ids_of
