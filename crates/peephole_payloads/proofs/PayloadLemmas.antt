-- What the reading of payloads comes to, step by step.
use Rattle.std.proofs.Common.{◌≡◌, ◌≢◌, ℕ, ◌+◌, ◌<◌, ◌≤◌, true, false, List, [], ◌∷◌, ◌++◌, length, get_or, take, drop, Option, Some, None}
use Rattle.std.proofs.Common.{Ok, Err, refl, sym, ap, subst, ◌∙◌, lit<}
use Rattle.std.specs.Prelude.{MatchOption}
use Rattle.std.specs.Str.{bytes_eq}
use Rattle.std.specs.Str.Pattern.{RFindsChar}
use Rattle.std.proofs.lemmas.List.{take-append-drop}
use Rattle.std.proofs.lemmas.Slice.Eq.{bytes_eq-Decides}
use Rattle.std.proofs.lemmas.Str.Pattern.{IsSplitOnceResult, split_parts, drop_at_char, NoCharPasses-char}
use denote.Ref.{Bor}
use Rattle.wasm_code.specs.declared.immediate.ValType.{ValType}
use Rattle.wasm_code.specs.declared.immediate.ValType.TheVariants as val
use Rattle.wasm_code.specs.ValType.{val_type_name}
use Rattle.peephole_payloads.specs.PayloadText.{dot_parts, read_lane_parts, read_lane_behind, read_mem_arg_lane, read_val_type}
use Rattle.peephole_payloads.specs.declared.term_error.TermError.TheVariants.{BadValType}
use Rattle.peephole_payloads.specs.laws.PartsLemmas.{HasNoDot, one_part, front_part, last_part, lanes_is}
use Rattle.peephole_payloads.specs.laws.LawLemmas.{val_type_back}

-- ---- parts

pub cut_first : (text : List ℕ) (x : Bor (List ℕ) × Bor (List ℕ)) → IsSplitOnceResult 46 text (Some x) → dot_parts text ≡ x.0.now ∷ dot_parts x.1.now
cut_first text x h =
    let parts = split_parts 46 text (Some x) h (lit< tt) in
    ap dot_parts parts.0 ∙ front_part x.0.now x.1.now parts.1

pub no_cut : (text : List ℕ) → IsSplitOnceResult 46 text None → dot_parts text ≡ text ∷ []
no_cut text h = one_part text (split_parts 46 text None h (lit< tt))

-- the clause of `rsplit_once` at a character
abbrev pub IsLastSplit : ℕ → List ℕ → Option (Bor (List ℕ) × Bor (List ℕ)) → Type 0
IsLastSplit c bs r =
    MatchOption r (RFindsChar c bs None)
    (λ x. (i : ℕ) × (j : ℕ) × RFindsChar c bs (Some (i, j)) × (x.0.now ≡ take i bs) × (x.1.now ≡ drop j bs) × (i ≤ j) × (length x.0.now ≡ i)
    × (length x.1.now + j ≡ length bs))

pub cut_last : (text : List ℕ) (x : Bor (List ℕ) × Bor (List ℕ)) → IsLastSplit 46 text (Some x) → dot_parts text ≡ dot_parts x.0.now ++ (x.1.now ∷ [])
cut_last text x h =
    let whole : text ≡ x.0.now ++ (46 ∷ x.1.now) =
    sym (take-append-drop h.0 text) ∙ (λ k. sym h.3 k ++ (drop_at_char 46 text h.0 h.1 h.2.1 (lit< tt) ∙ ap (λ l. 46 ∷ l) (sym h.4)) k) in
    let none : HasNoDot x.1.now = λ i low e. NoCharPasses-char 46 (drop h.1 text) i h.2.0 (lit< tt) (subst (λ l. i < length l) h.4 low)
    (sym (ap (λ l. get_or l i 0) h.4) ∙ e) in
    ap dot_parts whole ∙ last_part x.0.now x.1.now none

pub no_last_cut : (text : List ℕ) → IsLastSplit 46 text None → dot_parts text ≡ text ∷ []
no_last_cut text h = one_part text (λ i low. NoCharPasses-char 46 text i h (lit< tt) low)

-- ---- a memory argument and a lane

pub lane_reads : (text front last : List ℕ) → dot_parts text ≡ dot_parts front ++ (last ∷ []) →
    read_mem_arg_lane text ≡ read_lane_behind (dot_parts front) last
lane_reads text front last e = ap read_lane_parts e ∙ lanes_is (dot_parts front) last

pub lane_alone : (text : List ℕ) → dot_parts text ≡ text ∷ [] → read_mem_arg_lane text ≡ read_lane_behind [] text
lane_alone text e = ap read_lane_parts e ∙ lanes_is [] text

-- ---- names

differs : (xs ys : List ℕ) → xs ≢ ys → bytes_eq xs ys ≡ false
differs xs ys other = elim (bytes_eq xs ys) as (λ b. ((b ≡ true) → xs ≡ ys) → b ≡ false) [
  | true ↦ (λ h. absurd (other (h refl)))
  | false ↦
      (λ _. refl)
] (bytes_eq-Decides xs ys).0

pub val_type_named : (t : ValType) (text : List ℕ) → val_type_name t ≡ text → Ok t ≡ read_val_type text
val_type_named t text e = sym (val_type_back t) ∙ ap read_val_type e

pub val_type_unnamed : (text : List ℕ) → ((t : ValType) → val_type_name t ≢ text) → Err BadValType ≡ read_val_type text
val_type_unnamed text none =
    rw (
      differs (val_type_name val.I32) text (none val.I32),
      differs (val_type_name val.I64) text (none val.I64),
      differs (val_type_name val.F32) text (none val.F32),
      differs (val_type_name val.F64) text (none val.F64),
      differs (val_type_name val.V128) text (none val.V128),
      differs (val_type_name val.FuncRef) text (none val.FuncRef),
      differs (val_type_name val.ExternRef) text (none val.ExternRef),
    ) refl
