-- What is read by a variant of the table makes a node.
use Rattle.std.proofs.Common.{◌≡◌, ℕ, true, List, Option, Some, None, Result, Ok, Err, refl, sym, ap, ◌∙◌, inl, inr}
use Rattle.std.proofs.lemmas.Bool.{ne_eqb, cases_eq, eq-eqb}
use Rattle.std.proofs.lemmas.Option.{same_Some}
use Rattle.peephole_payloads.specs.declared.term_error.TermError.{TermError}
use Rattle.peephole_nodes.specs.declared.payload.Payload.{Payload}
use Rattle.peephole_nodes.specs.declared.arity.Arity.{Arity}
use Rattle.peephole_nodes.specs.declared.arity.Arity.TheVariants as arity
use Rattle.peephole_lang.specs.declared.variants.VariantRow.{VariantRow}
use Rattle.peephole_lang.specs.VariantRows.{variant_row, found}
use Rattle.peephole_lang.specs.laws.MadeLemmas.{fits_variant, fits_made}
use Rattle.peephole_lang.specs.Making.{is_made}
use Rattle.peephole_lang.specs.Names.{find_in}
use Rattle.peephole_nodes.specs.laws.PayloadLemmas.{read_is_of}
use Rattle.peephole_nodes.specs.PayloadText.{read_payload}
use Rattle.peephole_lang.specs.laws.TableLemmas.{place_is}
use Rattle.peephole_lang.specs.Text.{wrong_count, checked_reading}
use Rattle.peephole_lang.specs.laws.VariantLemmas.{found_is}
use Rattle.peephole_nodes.specs.Variants.{Variant, variants, is_right}

-- what a variant of the table reads
abbrev pub variant_reads : VariantRow → List ℕ → ℕ → Result Payload TermError
variant_reads variant rest count = checked_reading variant.children (wrong_count variant.children count) (read_payload variant.payload rest)

checked_ok : (a : Arity) (wrong : Option TermError) (read : Result Payload TermError) (p : Payload) → Ok p ≡ checked_reading a wrong read → (wrong ≡ None)
    × (read ≡ Ok p)
checked_ok arity.Zero None (Ok q) p e = (refl, sym e)
checked_ok arity.Zero None (Err x) p e = absurd cc
checked_ok arity.Zero (Some x) read p e = absurd cc
checked_ok arity.One None (Ok q) p e = (refl, sym e)
checked_ok arity.One None (Err x) p e = absurd cc
checked_ok arity.One (Some x) (Ok q) p e = absurd cc
checked_ok arity.One (Some x) (Err y) p e = absurd cc
checked_ok (arity.Several n) None (Ok q) p e = (refl, sym e)
checked_ok (arity.Several n) None (Err x) p e = absurd cc
checked_ok (arity.Several n) (Some x) (Ok q) p e = absurd cc
checked_ok (arity.Several n) (Some x) (Err y) p e = absurd cc
checked_ok arity.Any None (Ok q) p e = (refl, sym e)
checked_ok arity.Any None (Err x) p e = absurd cc
checked_ok arity.Any (Some x) (Ok q) p e = absurd cc
checked_ok arity.Any (Some x) (Err y) p e = absurd cc

some_is_none : (e : TermError) → Some e ≡ None → ⊥
some_is_none e h = cc

none_right : (a : Arity) (count : ℕ) → wrong_count a count ≡ None → is_right a count ≡ true
none_right arity.Zero count e =
    elim (cases_eq count 0) [ inl is ↦ eq-eqb 0 count (sym is) | inr other ↦ absurd (some_is_none _ (rw (ne_eqb count 0 other) at e)) ]
none_right arity.One count e =
    elim (cases_eq count 1) [ inl is ↦ eq-eqb 1 count (sym is) | inr other ↦ absurd (some_is_none _ (rw (ne_eqb count 1 other) at e)) ]
none_right (arity.Several n) count e =
    elim (cases_eq count n) [ inl is ↦ eq-eqb n count (sym is) | inr other ↦ absurd (some_is_none _ (rw (ne_eqb count n other) at e)) ]
none_right arity.Any count e = refl

made_of_variant : (text : List ℕ) (x : Variant × List ℕ) (p : Payload) (count : ℕ) → find_in variants text ≡ Some x →
    Ok p ≡ variant_reads (variant_row x.0) x.1 count
    → is_made x.0.place p count ≡ true
made_of_variant text x p count e ok =
    let f = found_is text x e in
    let own = place_is f.0 x.0 f.1 in
    let parts = checked_ok x.0.children (wrong_count x.0.children count) (read_payload x.0.payload x.1) p ok in
    let fits = fits_variant f.0 p count (record {
      variant = x.0;
      at = f.1;
      kind = read_is_of x.0.payload x.1 p parts.1;
      right = none_right x.0.children count parts.0;
    }) in
    ap (λ n. is_made n p count) own ∙ fits_made f.0 p count fits

-- what was found and read is a node's
pub is_a_node : (o : Option (Variant × List ℕ)) (text : List ℕ) (variant : VariantRow) (rest : List ℕ) (p : Payload) (count : ℕ) →
    find_in variants text ≡ o → Some (variant, rest) ≡ found o
    → Ok p ≡ variant_reads variant rest count → is_made variant.place p count ≡ true
is_a_node None text variant rest p count e same ok = absurd cc
is_a_node (Some x) text variant rest p count e same ok =
    let known : (variant_row x.0, x.1) ≡ (variant, rest) = same_Some _ _ (sym same) in
    ap (λ (y : VariantRow × List ℕ). is_made y.0.place p count) (sym known)
    ∙ made_of_variant text x p count e (ok ∙ ap (λ (y : VariantRow × List ℕ). variant_reads y.0 y.1 count) (sym known))
