-- The rows of the instruction table and the variants from place 12 on: kinds of immediates and numbers of operands agree.
use Rattle.std.proofs.Common.{◌≡◌, ℕ, zero, suc, ◌+◌, List, [], ◌∷◌, map, drop, Option, Some, None, refl, sym, ap, ◌∙◌, arith}
use Rattle.std.specs.Prelude.{slice_get}
use Rattle.std.specs.Option.{option_map}
use Rattle.std.proofs.lemmas.Option.{slice_get-map}
use Rattle.wasm_code.specs.declared.table.Kind.{Kind}
use Rattle.wasm_code.specs.declared.table.Row.{Row}
use Rattle.wasm_code.specs.Table.{table, row_at}
use Rattle.peephole_nodes.specs.declared.arity.Arity.{Arity}
use Rattle.peephole_nodes.specs.declared.arity.Arity.TheVariants as arity
use Rattle.peephole_lang.specs.Node.{is_count}
use Rattle.peephole_nodes.specs.PayloadKind.{imm_kind}
use Rattle.peephole_nodes.specs.Variants.{Variant, variants, variant_at, is_right}

-- the number of operands of a row whose node has so many children
operands_of : Arity → Option ℕ
operands_of arity.Zero = Some 0
operands_of arity.One = Some 1
operands_of (arity.Several n) = Some n
operands_of arity.Any = None

kind_in : Row → Kind
kind_in r = r.kind

operands_in : Row → Option ℕ
operands_in r = r.info.operands

kinds_agree : map kind_in table ≡ map (λ (v : Variant). imm_kind v.payload) (drop 12 variants)
unfolding table variants kind_in
kinds_agree = refl

operands_agree : map operands_in table ≡ map (λ (v : Variant). operands_of v.children) (drop 12 variants)
unfolding table variants operands_in operands_of
operands_agree = refl

-- a row and the variant of its node
pub record IsOfRow (r : Row) (v : Variant) : Type 0 where
  pub kind : r.kind ≡ imm_kind v.payload
  pub operands : (count : ℕ) → is_count r.info.operands count ≡ is_right v.children count

behind : {X : Type 0} (n i : ℕ) (xs : List X) → slice_get (drop n xs) i ≡ slice_get xs (n + i)
behind zero i xs = ap (slice_get xs) (omega arith)
behind (suc n) i [] = refl
behind (suc n) i (x ∷ xs) = behind n i xs ∙ ap (slice_get (x ∷ xs)) (let same : suc (n + i) ≡ suc n + i = omega arith in same)

same_count : (a : Arity) (count : ℕ) → is_count (operands_of a) count ≡ is_right a count
unfolding operands_of
same_count arity.Zero count = refl
same_count arity.One count = refl
same_count (arity.Several n) count = refl
same_count arity.Any count = refl

variant_kind : Variant → Kind
variant_kind v = imm_kind v.payload

variant_operands : Variant → Option ℕ
variant_operands v = operands_of v.children

kind_at : (i : ℕ) → option_map kind_in (row_at i) ≡ option_map variant_kind (variant_at (12 + i))
unfolding row_at variant_kind
kind_at i =
    sym (slice_get-map kind_in table i) ∙ (ap (λ xs. slice_get xs i) kinds_agree ∙ (slice_get-map variant_kind (drop 12 variants) i
    ∙ ap (option_map variant_kind) (behind 12 i variants)))

operands_at : (i : ℕ) → option_map operands_in (row_at i) ≡ option_map variant_operands (variant_at (12 + i))
unfolding row_at variant_operands
operands_at i =
    sym (slice_get-map operands_in table i)
    ∙ (ap (λ xs. slice_get xs i) operands_agree ∙ (slice_get-map variant_operands (drop 12 variants) i
    ∙ ap (option_map variant_operands) (behind 12 i variants)))

agrees : (r : Row) (v : Variant) → kind_in r ≡ variant_kind v → operands_in r ≡ variant_operands v → IsOfRow r v
unfolding kind_in operands_in variant_kind variant_operands
agrees r v k o = record { kind = k; operands = λ count. ap (λ x. is_count x count) o ∙ same_count v.children count }

of_variant : (o : Option Row) (v : Variant) → option_map kind_in o ≡ Some (variant_kind v) → option_map operands_in o ≡ Some (variant_operands v)
    → (r : Row) × ((o ≡ Some r) × IsOfRow r v)
of_variant None v k e = absurd cc
of_variant (Some r) v k e =
    let kind : kind_in r ≡ variant_kind v = cc in
    let operands : operands_in r ≡ variant_operands v = cc in
    (r, (refl, agrees r v kind operands))

of_row : (r : Row) (w : Option Variant) → Some (kind_in r) ≡ option_map variant_kind w → Some (operands_in r) ≡ option_map variant_operands w
    → (v : Variant) × ((w ≡ Some v) × IsOfRow r v)
of_row r None k e = absurd cc
of_row r (Some v) k e =
    let kind : kind_in r ≡ variant_kind v = cc in
    let operands : operands_in r ≡ variant_operands v = cc in
    (v, (refl, agrees r v kind operands))

-- the variant with a place from 12 on has a row
pub has_row : (i : ℕ) (v : Variant) → variant_at (12 + i) ≡ Some v → (r : Row) × ((row_at i ≡ Some r) × IsOfRow r v)
has_row i v e = of_variant (row_at i) v (kind_at i ∙ ap (option_map variant_kind) e) (operands_at i ∙ ap (option_map variant_operands) e)

-- each row has a variant
pub has_variant : (i : ℕ) (r : Row) → row_at i ≡ Some r → (v : Variant) × ((variant_at (12 + i) ≡ Some v) × IsOfRow r v)
has_variant i r e = of_row r (variant_at (12 + i)) (sym (ap (option_map kind_in) e) ∙ kind_at i) (sym (ap (option_map operands_in) e) ∙ operands_at i)
