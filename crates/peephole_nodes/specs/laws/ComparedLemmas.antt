-- Two nodes are equal exactly where they are seen alike.
use Rattle.std.specs.Prelude.{◌≡◌, ℕ, ◌==◌, true, List, refl}
use Rattle.std.specs.Bool.{Decides}
use Rattle.std.specs.Cmp.{unsigned_Decides}
use Rattle.std.specs.Cmp.Lexicographic.{pointwise}
use Rattle.std.proofs.Common.{ap}
use Rattle.std.proofs.lemmas.Bool.{and_parts, and_from}
use Rattle.std.proofs.lemmas.Slice.Eq.{slice_eq-Decides}
use Rattle.peephole_nodes.specs.contracts.id.IdPartialEq.TheImpl as id_eq
use Rattle.peephole_nodes.specs.contracts.payload.PayloadPartialEq.TheImpl as payload_eq
use Rattle.peephole_nodes.specs.declared.id.Id.{Id}
use Rattle.peephole_nodes.specs.declared.payload.Payload.{Payload}
use Rattle.peephole_nodes.specs.Compared.{node_eq}
use Rattle.peephole_nodes.specs.laws.PayloadLemmas.{same_payload, payload_itself}

same_id : (a b : Id) → Decides (id_eq.ghosts.eq a b) (a ≡ b)
same_id a b = (
  λ e. let same : a.0 ≡ b.0 = (unsigned_Decides a.0 b.0).0 e in
      ap (λ (k : ℕ). record { 0 = k }) same,
  λ e. (unsigned_Decides a.0 b.0).1 (ap (λ (x : Id). x.0) e),
)

same_ids : (xs ys : List Id) → Decides (pointwise id_eq.ghosts.eq xs ys) (xs ≡ ys)
same_ids xs ys = slice_eq-Decides same_id xs ys (pointwise id_eq.ghosts.eq xs ys) refl

module _ {L : Type 0} (place : L → ℕ) (payload : L → Payload) (ids : L → List Id) where
  -- the same place, payload and children
  abbrev pub AreAlike : L → L → Type 0
  AreAlike l m = (place l ≡ place m) × (payload l ≡ payload m) × (ids l ≡ ids m)

  equal_says : (l m : L) → node_eq place payload ids l m ≡ true → AreAlike l m
  equal_says l m e =
      let places = and_parts (place l == place m) _ e in
      let payloads = and_parts (payload_eq.ghosts.eq (payload l) (payload m)) _ places.1 in
      ((unsigned_Decides (place l) (place m)).0 places.0, same_payload (payload l) (payload m) payloads.0, (same_ids (ids l) (ids m)).0 payloads.1)

  alike_equal : (l m : L) → AreAlike l m → node_eq place payload ids l m ≡ true
  alike_equal l m a =
      and_from (place l == place m) _ ((unsigned_Decides (place l) (place m)).1 a.0)
      (and_from (payload_eq.ghosts.eq (payload l) (payload m)) _ (payload_itself (payload l) (payload m) a.1) ((same_ids (ids l) (ids m)).1 a.2))

  pub equal_alike : (l m : L) → Decides (node_eq place payload ids l m) (AreAlike l m)
  equal_alike l m = (equal_says l m, alike_equal l m)
