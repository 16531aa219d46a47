-- What fits a variant of the table, and its text (this project).
use Rattle.std.specs.Prelude.{◌≡◌, ℕ, [], ◌++◌, true, Option, Some, None, refl}
use Rattle.std.specs.Option.{option_map, unwrap_or}
use Rattle.std.proofs.Common.{sym, ap, ap₂, ◌∙◌}
use Rattle.std.proofs.lemmas.Bool.{and_parts, true≢false}
use Rattle.std.proofs.lemmas.List.{append_assoc}
use Rattle.peephole_nodes.specs.declared.payload.Payload.{Payload}
use Rattle.peephole_nodes.specs.declared.payload.Payload.TheVariants as payload
use Rattle.peephole_nodes.specs.declared.payload.PayloadKind.{PayloadKind}
use Rattle.peephole_nodes.specs.declared.payload.PayloadKind.TheVariants as kind
use Rattle.peephole_nodes.specs.Fronts.{dot_of, variant_front_of, front_at}
use Rattle.peephole_nodes.specs.Payload.{is_payload_of}
use Rattle.peephole_nodes.specs.PayloadText.{inner_text, payload_text}
use Rattle.peephole_nodes.specs.Text.{variant_name_in, text_at}
use Rattle.peephole_nodes.specs.Variants.{Variant, variant_at, is_right, is_node_of, variant_fits}

-- the variant with that place, whose kind of payload and number of children these are
pub record HasVariant (place : ℕ) (p : Payload) (given : ℕ) : Type 0 where
  pub variant : Variant
  pub at : variant_at place ≡ Some variant
  pub kind : is_payload_of variant.payload p ≡ true
  pub right : is_right variant.children given ≡ true

variant_of : (o : Option Variant) (p : Payload) (given : ℕ) → is_node_of o p given ≡ true →
    (v : Variant) × ((o ≡ Some v) × ((is_payload_of v.payload p ≡ true) × (is_right v.children given ≡ true)))
variant_of None p given e = absurd cc
variant_of (Some v) p given e = (v, (refl, and_parts (is_payload_of v.payload p) (is_right v.children given) e))

pub has_variant : (place : ℕ) (p : Payload) (given : ℕ) → variant_fits place p given ≡ true → HasVariant place p given
has_variant place p given e =
    let h = variant_of (variant_at place) p given e in
    record { variant = h.0; at = h.1.0; kind = h.1.1.0; right = h.1.1.1 }

dot_and_payload : (k : PayloadKind) (p : Payload) → is_payload_of k p ≡ true → payload_text p ≡ dot_of k ++ inner_text p
dot_and_payload kind.Nothing payload.Nothing is = refl
dot_and_payload kind.Nothing _ is = absurd (true≢false (sym is))
dot_and_payload _ payload.Nothing is = absurd (true≢false (sym is))
dot_and_payload _ _ is = refl

-- the text of what fits a variant is what begins the variant's texts, and the payload's text
pub fitting_text : (place : ℕ) (p : Payload) (given : ℕ) → variant_fits place p given ≡ true → text_at place p ≡ front_at place ++ inner_text p
fitting_text place p given e =
    let own = has_variant place p given e in
    let v = own.variant in
    ap₂ (λ a b. a ++ b) (ap variant_name_in own.at) (dot_and_payload v.payload p own.kind)
    ∙ (sym (append_assoc v.name (dot_of v.payload) (inner_text p)) ∙ ap (λ o. unwrap_or (option_map variant_front_of o) [] ++ inner_text p) (sym own.at))
