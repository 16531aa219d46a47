-- A node's instruction is of its row, and the node of an instruction says it.
use Rattle.std.proofs.Common.{◌≡◌, ℕ, ◌+◌, ◌-◌, ◌<◌, ◌≤◌, Bool, true, false, Option, Some, None, refl, sym, ap, ap₂, ◌∙◌, arith, nat_lt}
use Rattle.std.specs.Prelude.{IsTrue, IsFalse, IfSome, IfNone, is_some, ◌&&◌, if◌then◌else◌}
use Rattle.std.proofs.lemmas.Bool.{cond-false, true≢false, false≢true}
use Rattle.std.proofs.lemmas.Option.{same_Some, slice_get_within}
use Rattle.wasm_code.specs.declared.immediate.Imm.{Imm}
use Rattle.wasm_code.specs.declared.immediate.Imm.TheVariants as imm
use Rattle.wasm_code.specs.declared.table.Kind.TheVariants as Kind
use Rattle.wasm_code.specs.declared.table.Row.{Row}
use Rattle.wasm_code.specs.Instruction.{Instruction, IsInstruction, is_of_kind, fits_row}
use Rattle.wasm_code.specs.Table.{table, row_at, info_in, row_info_of}
use Rattle.peephole_lang.specs.declared.lang.Lang.{Lang}
use Rattle.peephole_nodes.specs.declared.payload.Payload.{Payload}
use Rattle.peephole_nodes.specs.declared.payload.Payload.TheVariants as payload
use Rattle.peephole_nodes.specs.declared.payload.PayloadKind.{PayloadKind}
use Rattle.peephole_nodes.specs.declared.payload.PayloadKind.TheVariants as kind
use Rattle.peephole_lang.specs.declared.variants.VariantRow.{VariantRow}
use Rattle.peephole_lang.specs.VariantRows.{variant_row}
use Rattle.peephole_lang.specs.laws.Fits.{fits_own}
use Rattle.peephole_lang.specs.Lang.{place_of, payload_of, variant_child_count}
use Rattle.peephole_lang.specs.laws.MadeLemmas.{fits_made}
use Rattle.peephole_nodes.specs.laws.VariantLemmas.{has_variant}
use Rattle.peephole_lang.specs.Making.{is_made}
use Rattle.peephole_lang.specs.Node.{instr_of, row_takes_count, takes_children}
use Rattle.peephole_nodes.specs.Payload.{imm_of, payload_of_imm, is_payload_of, is_writable}
use Rattle.peephole_nodes.specs.PayloadKind.{imm_kind}
use Rattle.peephole_nodes.specs.laws.PayloadLemmas.{imm_fits, of_imm_back, of_imm_some}
use Rattle.peephole_lang.specs.laws.TableLemmas.{place_is}
use Rattle.peephole_nodes.specs.Variants.{Variant, variant_at, is_right, is_node_of, variant_fits}
use Rattle.std.specs.Option.{option_map}
use Rattle.peephole_lang.proofs.InstrLaws.{takes_own}
use Rattle.peephole_lang.proofs.RowLemmas.{IsOfRow, has_row}
use Rattle.peephole_lang.proofs.RowLemmas.{has_variant as has_variant_of_row}

-- an instruction of the node's row says its payload exactly where the node is writable
is_row : (l : Lang) → 12 ≤ place_of l → fits_row (row_at (place_of l - 12)) (imm_of (payload_of l)) ≡ is_writable (payload_of l)
is_row l h =
    let own = has_variant (place_of l) (payload_of l) (variant_child_count l) (fits_own l) in
    let again : 12 + (place_of l - 12) ≡ place_of l = omega arith in
    let row = has_row (place_of l - 12) own.variant (ap variant_at again ∙ own.at) in
    ap (λ r. fits_row r (imm_of (payload_of l))) row.1.0
    ∙ (ap (λ k. is_of_kind k (imm_of (payload_of l))) row.1.1.kind ∙ imm_fits own.variant.payload (payload_of l) own.kind)

not_below : (m n : ℕ) → n ≤ m → nat_lt m n ≡ false
not_below m n l = grind arith

written : (writable : Bool) (i : Instruction) → writable ≡ true → (if writable then Some i else None) ≡ Some i
written true i e = refl
written false i e = absurd cc

unwritten : (writable : Bool) (i : Instruction) → writable ≡ false → (if writable then Some i else None) ≡ None
unwritten false i e = refl
unwritten true i e = absurd cc

-- what `Instr::new` answers for a row and an immediate
new_is : (result : Option Instruction) (i : Instruction) (writable : Bool) → fits_row (row_at i.row) i.imm ≡ writable →
    IfSome result (λ j. (j ≡ i) × IsInstruction j)
    → IfNone result (IsFalse (fits_row (row_at i.row) i.imm)) → result ≡ (if writable then Some i else None)
new_is None i writable fits some none = sym (unwritten writable i (sym fits ∙ none))
new_is (Some j) i writable fits some none =
    ap (λ (x : Instruction). Some x) some.0
    ∙ sym (written writable i (sym fits ∙ (ap (λ (x : Instruction). fits_row (row_at x.row) x.imm) (sym some.0) ∙ some.1.kind)))

-- and for those of a node
pub new_of_node : (l : Lang) (place : ℕ) (imm : Imm) (result : Option Instruction) → place ≡ place_of l → imm ≡ imm_of (payload_of l) → 12 ≤ place
    → IfSome result (λ i. (i ≡ record { row = place - 12; imm = imm }) × IsInstruction i)
    → IfNone result (IsFalse (fits_row (row_at (place - 12)) imm)) → result ≡ instr_of l
new_of_node l place imm result p i h some none =
    let above : 12 ≤ place_of l = omega arith in
    let some' = rw (p, i) at some in
    let none' = rw (p, i) at none in
    new_is result (record { row = place_of l - 12; imm = imm_of (payload_of l) }) (is_writable (payload_of l)) (is_row l above) some' none'
    ∙ sym (cond-false _ _ _ (not_below (place_of l) 12 above))

-- ---- the node of an instruction

all_fit : (a b : Bool) → a ≡ true → (a && b) ≡ b
all_fit true b e = refl
all_fit false b e = absurd cc

-- what is made is what fits
made_fits : (result : Option Lang) (place : ℕ) (p : Payload) (given : ℕ) → IfSome result (λ l. place_of l ≡ place) →
    IfSome result (λ l. payload_of l ≡ p)
    → IfSome result (λ l. variant_child_count l ≡ given) → is_some result ≡ is_made place p given → is_some result ≡ variant_fits place p given
made_fits (Some l) place p given at same count made = sym (fits_own l)
    ∙ (ap₂ (λ n q. variant_fits n q (variant_child_count l)) at same ∙ ap (variant_fits place p) count)
made_fits None place p given at same count made = none_fits (variant_fits place p given) refl
  where
    none_fits : (b : Bool) → variant_fits place p given ≡ b → false ≡ variant_fits place p given
    none_fits true e = absurd (true≢false (sym (fits_made place p given e) ∙ sym made))
    none_fits false e = sym e

-- the instruction's row, its variant, and the payload that its immediate stands for
pub record IsNodeOf (i : Instruction) (v : Variant) (p : Payload) : Type 0 where
  pub at : variant_at (12 + i.row) ≡ Some v
  pub own : v.place ≡ 12 + i.row
  pub payload : payload_of_imm v.payload i.imm ≡ Some p

row_of : (o : Option Row) (imm : Imm) → IsTrue (fits_row o imm) → (r : Row) × ((o ≡ Some r) × (is_of_kind r.kind imm ≡ true))
row_of None imm is = absurd cc
row_of (Some r) imm is = (r, (refl, is))

abbrev VariantOf : Instruction → Type 0
VariantOf i = (v : Variant)
    × ((variant_at (12 + i.row) ≡ Some v) × ((r : Row) × ((row_at i.row ≡ Some r) × (IsOfRow r v × (is_of_kind r.kind i.imm ≡ true)))))

-- an instruction has a variant
pub variant_of_instr : (i : Instruction) → IsInstruction i → VariantOf i
variant_of_instr i is =
    let row = row_of (row_at i.row) i.imm is.kind in
    let v = has_variant_of_row i.row row.0 row.1.0 in
    (v.0, (v.1.0, (row.0, (row.1.0, (v.1.1, row.1.1)))))

small : (row : ℕ) (o : Option Row) → row_at row ≡ o → is_some o ≡ true → row < 446
unfolding row_at table
small row None e is = absurd cc
small row (Some r) e is = slice_get_within table row r e

pub row_small : (i : Instruction) → IsInstruction i → i.row < 446
row_small i is = let v = variant_of_instr i is in small i.row (Some v.1.1.0) v.1.1.1.0 refl

pub has_payload : (i : Instruction) (is : IsInstruction i) (v : Variant) → variant_at (12 + i.row) ≡ Some v →
    is_some (payload_of_imm v.payload i.imm) ≡ true
has_payload i is v e =
    let known = variant_of_instr i is in
    let same : known.0 ≡ v = same_Some _ _ (sym known.1.0 ∙ e) in
    of_imm_some v.payload i.imm (ap (λ (w : Variant). is_of_kind (imm_kind w.payload) i.imm) (sym same)
    ∙ (ap (λ k. is_of_kind k i.imm) (sym known.1.1.1.1.0.kind) ∙ known.1.1.1.1.1))

-- the node says the instruction
pub says_instr : (i : Instruction) → IsInstruction i → (v : Variant) (p : Payload) → IsNodeOf i v p → (l : Lang) → place_of l ≡ v.place →
    payload_of l ≡ p → instr_of l ≡ Some i
says_instr i is v p node l at same =
    let known = variant_of_instr i is in
    let same_variant : known.0 ≡ v = same_Some _ _ (sym known.1.0 ∙ node.at) in
    let kind : is_of_kind (imm_kind v.payload) i.imm ≡ true =
    ap (λ (w : Variant). is_of_kind (imm_kind w.payload) i.imm) (sym same_variant) ∙ (ap (λ k. is_of_kind k i.imm) (sym known.1.1.1.1.0.kind)
    ∙ known.1.1.1.1.1) in
    let back = of_imm_back v.payload i.imm p node.payload in
    let writable : is_writable p ≡ true = sym (imm_fits v.payload p back.1) ∙ (ap (is_of_kind (imm_kind v.payload)) back.0 ∙ kind) in
    let place : place_of l ≡ 12 + i.row = at ∙ node.own in
    let above : 12 ≤ place_of l = omega arith in
    cond-false _ _ _ (not_below (place_of l) 12 above)
    ∙ (written (is_writable (payload_of l)) _ (ap is_writable same ∙ writable) ∙ same_instr i (place_of l - 12) (imm_of (payload_of l)) (omega arith)
    (ap imm_of same ∙ back.0))
  where
    same_instr : (i : Instruction) (row : ℕ) (imm : Imm) → row ≡ i.row → imm ≡ i.imm →
        ◌≡◌ {A = Option Instruction} (Some (record { row = row; imm = imm })) (Some i)
    same_instr i row imm e f = ap₂ (λ (r : ℕ) (m : Imm). Some (record { row = r; imm = m })) e f

-- and is there exactly where the row takes so many children
pub takes_made : (i : Instruction) → IsInstruction i → (v : Variant) (p : Payload) → IsNodeOf i v p → (result : Option Lang) (given : ℕ)
    → IfSome result (λ l. place_of l ≡ v.place) → IfSome result (λ l. payload_of l ≡ p) → IfSome result (λ l. variant_child_count l ≡ given)
    → is_some result ≡ is_made v.place p given → is_some result ≡ takes_children i.row given
unfolding row_info_of
takes_made i is v p node result given at same count made =
    let known = variant_of_instr i is in
    let same_variant : known.0 ≡ v = same_Some _ _ (sym known.1.0 ∙ node.at) in
    let back = of_imm_back v.payload i.imm p node.payload in
    made_fits result v.place p given at same count made
    ∙ (ap (λ n. is_node_of (variant_at n) p given) node.own
    ∙ (ap (λ o. is_node_of o p given) node.at
    ∙ (all_fit (is_payload_of v.payload p) (is_right v.children given) back.1
    ∙ (ap (λ (w : Variant). is_right w.children given) (sym same_variant)
    ∙ (sym (known.1.1.1.1.0.operands given) ∙ sym (ap (λ r. row_takes_count (info_in r) given) known.1.1.1.0))))))

-- a node at the place of the instruction's row that says its immediate says the instruction
pub says_imm : (i : Instruction) → IsInstruction i → (l : Lang) → place_of l ≡ 12 + i.row → imm_of (payload_of l) ≡ i.imm → instr_of l ≡ Some i
says_imm i is l at same =
    let above : 12 ≤ place_of l = omega (arith, at) in
    let row : place_of l - 12 ≡ i.row = omega (arith, at) in
    let fits : fits_row (row_at i.row) i.imm ≡ is_writable (payload_of l) = sym (ap₂ (λ n x. fits_row (row_at n) x) row same) ∙ is_row l above in
    let whole : record { row = place_of l - 12; imm = imm_of (payload_of l) } ≡ i = ap₂ (λ (n : ℕ) (x : Imm). record { row = n; imm = x }) row same in
    cond-false _ _ _ (not_below (place_of l) 12 above)
    ∙ (written (is_writable (payload_of l)) _ (sym fits ∙ is.kind) ∙ ap (λ (x : Instruction). Some x) whole)

-- an immediate of the kind without one
only_nothing : (x : Imm) → is_of_kind Kind.Nothing x ≡ true → x ≡ imm.Nothing
only_nothing imm.Nothing e = refl
only_nothing _ e = absurd (false≢true e)

kind_of_nothing : (k : PayloadKind) → is_payload_of k payload.Nothing ≡ true → imm_kind k ≡ Kind.Nothing
kind_of_nothing kind.Nothing e = refl
kind_of_nothing _ e = absurd (false≢true e)

-- a node at that place without a payload says the instruction
pub says_nothing : (i : Instruction) → IsInstruction i → (l : Lang) → place_of l ≡ 12 + i.row → payload_of l ≡ payload.Nothing → instr_of l ≡ Some i
says_nothing i is l at plain =
    let own = has_variant (place_of l) (payload_of l) (variant_child_count l) (fits_own l) in
    let known = variant_of_instr i is in
    let same : known.0 ≡ own.variant = same_Some _ _ (sym known.1.0 ∙ (ap variant_at (sym at) ∙ own.at)) in
    let kind : imm_kind known.0.payload ≡ Kind.Nothing = ap (λ (v : Variant). imm_kind v.payload) same
    ∙ kind_of_nothing own.variant.payload (sym (ap (is_payload_of own.variant.payload) plain) ∙ own.kind) in
    let none : i.imm ≡ imm.Nothing = only_nothing i.imm (sym (ap (λ k. is_of_kind k i.imm) (known.1.1.1.1.0.kind ∙ kind)) ∙ known.1.1.1.1.1) in
    says_imm i is l at (ap imm_of plain ∙ sym none)

-- ---- the steps of `of_instr`

-- what is made of the place alone says the instruction
pub operation_says : (i : Instruction) → IsInstruction i → (row : ℕ) → row ≡ i.row → (l : Lang) → place_of l ≡ 12 + row → payload_of l ≡ payload.Nothing →
    instr_of l ≡ Some i
operation_says i is row same l at plain = says_nothing i is l (at ∙ ap (λ n. 12 + n) same) plain

-- and what is made of the place and the immediate
pub imm_says : (i : Instruction) → IsInstruction i → (row : ℕ) → row ≡ i.row → (x : Imm) → x ≡ i.imm → (l : Lang) → place_of l ≡ 12 + row →
    imm_of (payload_of l) ≡ x → instr_of l ≡ Some i
imm_says i is row same x whose l at says = says_imm i is l (at ∙ ap (λ n. 12 + n) same) (says ∙ whose)

-- with as many children as the row takes
pub made_takes : (i : Instruction) (l : Lang) (given : ℕ) → variant_child_count l ≡ given → instr_of l ≡ Some i → true ≡ takes_children i.row given
made_takes i l given count says = sym (takes_own l i given says (sym count))

found_row : (i : Instruction) → IsInstruction i → (o : Option VariantRow) → o ≡ option_map variant_row (variant_at (12 + i.row)) →
    (v : Variant) × ((variant_at (12 + i.row) ≡ Some v) × (o ≡ Some (variant_row v)))
found_row i is o e = let known = variant_of_instr i is in (known.0, (known.1.0, e ∙ ap (option_map variant_row) known.1.0))

at_row : (row : ℕ) (i : Instruction) (o : Option VariantRow) → row ≡ i.row → o ≡ option_map variant_row (variant_at (12 + row)) →
    o ≡ option_map variant_row (variant_at (12 + i.row))
at_row row i o same e = e ∙ ap (λ n. option_map variant_row (variant_at (12 + n))) same

no_variant_row : (o : Option VariantRow) (told : VariantRow) → o ≡ Some told → o ≡ None → ⊥
no_variant_row o told e f = some_none told (sym e ∙ f)
  where
    some_none : (told : VariantRow) → Some told ≡ None → ⊥
    some_none told e = cc

-- the table has a row for the instruction
pub has_variant_row : (i : Instruction) → IsInstruction i → (row : ℕ) (o : Option VariantRow) → row ≡ i.row →
    o ≡ option_map variant_row (variant_at (12 + row)) →
    o ≡ None → ⊥
has_variant_row i is row o same e none = let f = found_row i is o (at_row row i o same e) in no_variant_row o (variant_row f.0) f.1.1 none

-- what the row and the payload that were found are to the instruction
pub record IsFound (i : Instruction) (told : VariantRow) (p : Payload) : Type 0 where
  pub variant : Variant
  pub node : IsNodeOf i variant p
  pub place : variant.place ≡ told.place

abbrev RowOf : Instruction → VariantRow → Type 0
RowOf i told = (v : Variant) × ((variant_at (12 + i.row) ≡ Some v) × (variant_row v ≡ told))

row_found : (i : Instruction) → IsInstruction i → (row : ℕ) (o : Option VariantRow) → row ≡ i.row → o ≡ option_map variant_row (variant_at (12 + row)) →
    (told : VariantRow) → o ≡ Some told
    → RowOf i told
row_found i is row o same e told some = let f = found_row i is o (at_row row i o same e) in (f.0, (f.1.0, same_Some _ _ (sym f.1.1 ∙ some)))

-- and the immediate stands for a payload
pub payload_there : (i : Instruction) → IsInstruction i → (row : ℕ) (o : Option VariantRow) → row ≡ i.row →
    o ≡ option_map variant_row (variant_at (12 + row)) → (told : VariantRow) → o ≡ Some told
    → (q : Option Payload) → q ≡ payload_of_imm told.payload i.imm → q ≡ None → ⊥
payload_there i is row o same e told some q made none =
    let f = row_found i is row o same e told some in
    let there = has_payload i is f.0 f.1.0 in
    false≢true (sym (ap is_some (sym made ∙ none)) ∙ (ap (λ (x : VariantRow). is_some (payload_of_imm x.payload i.imm)) (sym f.1.1) ∙ there))

pub node_found : (i : Instruction) → IsInstruction i → (row : ℕ) (o : Option VariantRow) → row ≡ i.row → o ≡ option_map variant_row (variant_at (12 + row)) →
    (told : VariantRow) → o ≡ Some told
    → (q : Option Payload) → q ≡ payload_of_imm told.payload i.imm → (p : Payload) → q ≡ Some p → IsFound i told p
node_found i is row o same e told some q made p there =
    let f = row_found i is row o same e told some in
    record {
      variant = f.0;
      node = record {
        at = f.1.0;
        own = place_is (12 + i.row) f.0 f.1.0;
        payload = ap (λ (x : VariantRow). payload_of_imm x.payload i.imm) f.1.1 ∙ (sym made ∙ there);
      };
      place = ap (λ (x : VariantRow). x.place) f.1.1;
    }

pub says_found : (i : Instruction) → IsInstruction i → (told : VariantRow) (p : Payload) → IsFound i told p → (result : Option Lang) →
    IfSome result (λ l. place_of l ≡ told.place)
    → IfSome result (λ l. payload_of l ≡ p) → IfSome result (λ l. instr_of l ≡ Some i)
says_found i is told p found None at same = at
says_found i is told p found (Some l) at same = says_instr i is found.variant p found.node l (at ∙ sym found.place) same

pub takes_found : (i : Instruction) → IsInstruction i → (told : VariantRow) (p : Payload) → IsFound i told p → (result : Option Lang) (given : ℕ)
    → IfSome result (λ l. place_of l ≡ told.place) → IfSome result (λ l. payload_of l ≡ p) → IfSome result (λ l. variant_child_count l ≡ given)
    → is_some result ≡ is_made told.place p given → is_some result ≡ takes_children i.row given
takes_found i is told p found None given at same count made = takes_made i is found.variant p found.node None given at same count (made
    ∙ ap (λ n. is_made n p given) (sym found.place))
takes_found i is told p found (Some l) given at same count made =
    takes_made i is found.variant p found.node (Some l) given (at ∙ sym found.place) same count (made ∙ ap (λ n. is_made n p given) (sym found.place))
