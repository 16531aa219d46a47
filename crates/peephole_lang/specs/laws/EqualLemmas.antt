-- Equal nodes say the same, and have the same children.
use Rattle.std.specs.Prelude.{ℕ, refl}
use Rattle.std.specs.Global.{Vec}
use Rattle.std.proofs.Common.{sym, ap}
use Rattle.peephole_nodes.specs.declared.id.Id.{Id}
use Rattle.peephole_nodes.specs.declared.payload.Payload.TheVariants as payload
use Rattle.peephole_lang.specs.declared.lang.Lang.{Lang}
use Rattle.peephole_lang.specs.declared.lang.Lang.TheVariants.{Container, Call}
use Rattle.peephole_lang.specs.Equal.{IsContainer, IsCall, IsEqual}
use Rattle.peephole_lang.specs.Lang.{place_of, payload_of, ids_of}
use Rattle.peephole_lang.specs.Language.{IsSame}
use Rattle.peephole_lang.specs.Node.{head_of}
use Rattle.peephole_lang.specs.laws.NodeLemmas.{same_head}

call_same : (p : ℕ) (children : Vec Id) (m : Lang) → IsCall p children.items m → IsSame head_of ids_of (Call p children) m
unfolding place_of payload_of ids_of
call_same p children (Call q given) e = (
  sym (same_head 13 13 (payload.Index p) (payload.Index q) refl (ap (λ (k : ℕ). payload.Index k) e.0)),
  sym e.1,
)
call_same p children _ e = absurd e

container_same : (children : Vec Id) (m : Lang) → IsContainer children.items m → IsSame head_of ids_of (Container children) m
unfolding place_of payload_of ids_of
container_same children (Container given) e = (refl, sym e)
container_same children _ e = absurd e

-- equal nodes say the same, and have the same children
pub equal_says : (l m : Lang) → IsEqual l m → IsSame head_of ids_of l m
unfolding IsEqual
equal_says (Container children) m e = container_same children m e
equal_says (Call p children) m e = call_same p children m e
equal_says l m e = (ap head_of (sym e), ap ids_of (sym e))
