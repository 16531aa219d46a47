-- A node's text is what begins its variant's texts, and its payload's text; and with its children it reads as that node.
use Rattle.std.specs.Prelude.{◌≡◌, ℕ, List, [], ◌∷◌, ◌++◌, length, true, Some, None, Ok, refl}
use Rattle.std.proofs.Common.{sym, ap, ap₂, ◌∙◌}
use Rattle.std.proofs.lemmas.Bool.{eqb-true, eq-eqb, cond-true, true≢false}
use Rattle.peephole_lang.specs.declared.lang.Lang.{Lang}
use Rattle.peephole_nodes.specs.declared.payload.Payload.{Payload}
use Rattle.peephole_nodes.specs.declared.payload.Payload.TheVariants as payload
use Rattle.peephole_nodes.specs.declared.payload.PayloadKind.{PayloadKind}
use Rattle.peephole_nodes.specs.declared.payload.PayloadKind.TheVariants as kind
use Rattle.peephole_nodes.specs.declared.arity.Arity.{Arity}
use Rattle.peephole_nodes.specs.declared.arity.Arity.TheVariants as arity
use Rattle.peephole_lang.specs.laws.Fits.{fits_own}
use Rattle.peephole_nodes.specs.Fronts.{front_at}
use Rattle.peephole_lang.specs.Lang.{place_of, payload_of, ids_of, variant_child_count}
use Rattle.peephole_nodes.specs.laws.VariantLemmas.{has_variant, fitting_text}
use Rattle.peephole_lang.specs.Names.{rest_after, behind_name}
use Rattle.peephole_lang.specs.Node.{head_of, IsNode}
use Rattle.peephole_nodes.specs.Payload.{is_payload_of}
use Rattle.peephole_nodes.specs.laws.PayloadLemmas.{payload_back}
use Rattle.peephole_nodes.specs.PayloadText.{inner_text, payload_text, read_payload}
use Rattle.peephole_lang.specs.Text.{text_of, wrong_count, checked_reading, with_place, read_found, reads}
use Rattle.peephole_nodes.specs.Text.{variant_name_in}
use Rattle.peephole_lang.specs.laws.TableLemmas.{place_is}
use Rattle.peephole_lang.specs.laws.VariantLemmas.{found_at}
use Rattle.peephole_nodes.specs.Variants.{Variant, is_right}

-- ---- writing

-- a node's text is what begins its variant's texts, and its payload's text
pub text_is : (l : Lang) → text_of l ≡ front_at (place_of l) ++ inner_text (payload_of l)
text_is l = fitting_text (place_of l) (payload_of l) (variant_child_count l) (fits_own l)

-- ---- reading

after_front : (front rest : List ℕ) → rest_after front (front ++ rest) ≡ Some rest
after_front [] rest = refl
after_front (c ∷ front) rest = cond-true _ _ _ (eq-eqb c c refl) ∙ after_front front rest

rest_back : (k : PayloadKind) (p : Payload) → is_payload_of k p ≡ true → behind_name k (Some (payload_text p)) ≡ Some (inner_text p)
rest_back kind.Nothing payload.Nothing is = refl
rest_back kind.Nothing _ is = absurd (true≢false (sym is))
rest_back _ payload.Nothing is = absurd (true≢false (sym is))
rest_back _ _ is = refl

right_none : (a : Arity) (count : ℕ) → is_right a count ≡ true → wrong_count a count ≡ None
right_none arity.Zero count e = cond-true _ _ _ (eq-eqb count 0 (sym (eqb-true 0 count e)))
right_none arity.One count e = cond-true _ _ _ (eq-eqb count 1 (sym (eqb-true 1 count e)))
right_none (arity.Several n) count e = cond-true _ _ _ (eq-eqb count n (sym (eqb-true n count e)))
right_none arity.Any count e = refl

checked_right : (a : Arity) (p : Payload) → checked_reading a None (Ok p) ≡ Ok p
checked_right arity.Zero p = refl
checked_right arity.One p = refl
checked_right (arity.Several n) p = refl
checked_right arity.Any p = refl

read_right : (v : Variant) (place : ℕ) (p : Payload) (rest : List ℕ) (count : ℕ) → v.place ≡ place → wrong_count v.children count ≡ None →
    read_payload v.payload rest ≡ Ok p
    → read_found (Some (v, rest)) count ≡ Ok (record { place = place; payload = p })
read_right v place p rest count at right read =
    ap₂ (λ wrong r. with_place v.place (checked_reading v.children wrong r)) right read
    ∙ (ap (with_place v.place) (checked_right v.children p) ∙ ap (λ (n : ℕ). Ok (record { place = n; payload = p })) at)

-- what a node's text reads as, with its children, is that node
pub reads_back : (l : Lang) → IsNode l → reads (text_of l) (length (ids_of l)) ≡ Ok (head_of l)
reads_back l is =
    let own = has_variant (place_of l) (payload_of l) (variant_child_count l) (fits_own l) in
    let v = own.variant in
    let p = payload_of l in
    let whole : text_of l ≡ v.name ++ payload_text p = ap (λ o. variant_name_in o ++ payload_text p) own.at in
    let fits : behind_name v.payload (rest_after v.name (text_of l)) ≡ Some (inner_text p) =
    ap (λ text. behind_name v.payload (rest_after v.name text)) whole
    ∙ (ap (behind_name v.payload) (after_front v.name (payload_text p)) ∙ rest_back v.payload p own.kind) in
    let right : wrong_count v.children (length (ids_of l)) ≡ None =
    ap (wrong_count v.children) is.1 ∙ right_none v.children (variant_child_count l) own.right in
    ap (λ found. read_found found (length (ids_of l))) (found_at (place_of l) v (text_of l) (inner_text p) own.at fits)
    ∙ read_right v (place_of l) p (inner_text p) (length (ids_of l)) (place_is (place_of l) v own.at) right (payload_back v.payload p own.kind is.0)
