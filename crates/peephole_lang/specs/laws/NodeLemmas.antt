-- What the comparisons of nodes say of them, and that a node's text is its head's.
use Rattle.std.specs.Prelude.{◌≡◌, ℕ, ◌==◌, true}
use Rattle.std.specs.Bool.{Decides}
use Rattle.std.specs.Cmp.{IsEquivalence, unsigned_Decides}
use Rattle.std.proofs.Common.{ap, ap₂}
use Rattle.std.proofs.lemmas.Bool.{and_parts, and_from}
use Rattle.peephole_nodes.specs.contracts.payload.PayloadPartialEq.TheImpl as payload_eq
use Rattle.peephole_lang.specs.declared.lang.Head.{Head}
use Rattle.peephole_lang.specs.declared.lang.Lang.{Lang}
use Rattle.peephole_nodes.specs.declared.payload.Payload.{Payload}
use Rattle.peephole_lang.specs.Compared.{lang_matches, given_of}
use Rattle.peephole_lang.specs.Lang.{place_of, payload_of, ids_of}
use Rattle.peephole_lang.specs.Language.{IsAlike, alike_equivalence}
use Rattle.peephole_lang.specs.Node.{head_of}
use Rattle.peephole_nodes.specs.laws.PayloadLemmas.{same_payload, payload_itself}
use Rattle.peephole_lang.specs.Text.{text_of}
use Rattle.peephole_nodes.specs.Text.{text_at}

pub same_head : (place place' : ℕ) (p p' : Payload) → place ≡ place' → p ≡ p' →
    ◌≡◌ {A = Head} (record { place = place; payload = p }) (record { place = place'; payload = p' })
same_head place place' p p' e f = ap₂ (λ (k : ℕ) (q : Payload). record { place = k; payload = q }) e f

matches_says : (l m : Lang) → lang_matches l m ≡ true → IsAlike head_of ids_of l m
matches_says l m e =
    let places = and_parts (place_of l == place_of m) _ e in
    let payloads = and_parts (payload_eq.ghosts.eq (payload_of l) (payload_of m)) _ places.1 in (
      same_head (place_of l) (place_of m) (payload_of l) (payload_of m) ((unsigned_Decides (place_of l) (place_of m)).0 places.0)
          (same_payload (payload_of l) (payload_of m) payloads.0),
      (unsigned_Decides (given_of l) (given_of m)).0 payloads.1,
    )

alike_matches : (l m : Lang) → IsAlike head_of ids_of l m → lang_matches l m ≡ true
alike_matches l m a =
    and_from (place_of l == place_of m) _ ((unsigned_Decides (place_of l) (place_of m)).1 (ap (λ (h : Head). h.place) a.0))
    (and_from (payload_eq.ghosts.eq (payload_of l) (payload_of m)) _ (payload_itself (payload_of l) (payload_of m) (ap (λ (h : Head). h.payload) a.0))
    ((unsigned_Decides (given_of l) (given_of m)).1 a.1))

-- two nodes match exactly where they say the same and have as many children
pub matches_exactly : (l m : Lang) → Decides (lang_matches l m) (IsAlike head_of ids_of l m)
matches_exactly l m = (matches_says l m, alike_matches l m)

pub matches_equivalence : IsEquivalence lang_matches
matches_equivalence = alike_equivalence head_of ids_of lang_matches matches_exactly

-- a node's text is its head's
pub says : (l m : Lang) → head_of l ≡ head_of m → text_of l ≡ text_of m
says l m e = ap (λ (h : Head). text_at h.place h.payload) e
