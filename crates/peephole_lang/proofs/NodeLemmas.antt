-- Two nodes are equal exactly where they are seen alike.
use Rattle.std.proofs.Common.{◌≡◌, true, length, sym, ap, ◌∙◌}
use Rattle.std.specs.Bool.{Decides}
use Rattle.peephole_nodes.specs.contracts.payload.PayloadPartialEq.TheImpl as payload_eq
use Rattle.peephole_nodes.specs.declared.payload.Payload.{Payload}
use Rattle.peephole_nodes.specs.laws.ComparedLemmas.{equal_alike}
use Rattle.peephole_nodes.specs.laws.PayloadLemmas.{same_payload, payload_itself}
use Rattle.peephole_lang.specs.declared.lang.Head.{Head}
use Rattle.peephole_lang.specs.declared.lang.Lang.{Lang}
use Rattle.peephole_lang.specs.laws.Again.{determined}
use Rattle.peephole_lang.specs.laws.EqualLemmas.{equal_says}
use Rattle.peephole_lang.specs.Compared.{lang_eq}
use Rattle.peephole_lang.specs.Equal.{IsEqual}
use Rattle.peephole_lang.specs.laws.Fits.{fits_own}
use Rattle.peephole_lang.specs.Lang.{place_of, payload_of, ids_of}
use Rattle.peephole_lang.specs.Language.{IsSame}
use Rattle.peephole_lang.specs.Node.{IsNode, head_of}
use Rattle.peephole_nodes.specs.Variants.{variant_fits}
use Rattle.peephole_lang.specs.laws.NodeLemmas.{same_head}

eq_says : (l m : Lang) → lang_eq l m ≡ true → IsSame head_of ids_of l m
eq_says l m e =
    let a = (equal_alike place_of payload_of ids_of l m).0 e in
    (sym (same_head (place_of l) (place_of m) (payload_of l) (payload_of m) a.0 a.1), sym a.2)

same_equal : (l m : Lang) → IsSame head_of ids_of l m → lang_eq l m ≡ true
same_equal l m s = (equal_alike place_of payload_of ids_of l m).1 (
  ap (λ (h : Head). h.place) (sym s.0),
  ap (λ (h : Head). h.payload) (sym s.0),
  sym s.1,
)

pub equal_is_same : (l m : Lang) → Decides (lang_eq l m) (IsSame head_of ids_of l m)
equal_is_same l m = (eq_says l m, same_equal l m)

-- ---- equal nodes, but for how much memory a list of children keeps for more

pub equal_nodes : (l m : Lang) → Decides (lang_eq l m) (IsEqual l m)
equal_nodes l m = (
  λ e. let same = eq_says l m e in determined l m (sym same.0) (sym same.1),
  λ e. same_equal l m (equal_says l m e),
)

-- the test for equal payloads is true exactly where they are equal
pub payloads_equal : (p q : Payload) → Decides (payload_eq.ghosts.eq p q) (p ≡ q)
payloads_equal p q = (same_payload p q, payload_itself p q)

-- a node's place, payload and number of children are a variant's
pub fits_again : (l : Lang) → IsNode l → variant_fits (place_of l) (payload_of l) (length (ids_of l)) ≡ true
fits_again l is = ap (variant_fits (place_of l) (payload_of l)) is.1 ∙ fits_own l
