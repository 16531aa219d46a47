-- Subsections and names of functions: what is read is what is there.
use Rattle.std.proofs.Common.{◌≡◌, ℕ, ◌+◌, ◌<◌, ◌≤◌, List, length, Ok, Err, refl, sym, ap, subst, ◌∙◌, arith}
use Rattle.std.proofs.lemmas.List.{length-append}
use Rattle.wasm_code.specs.declared.fault.Cause.{Cause}
use Rattle.wasm_code.specs.Reader.{unsigned_at}
use Rattle.wasm_code.specs.laws.GrammarLemmas.{ok_is}
use Rattle.wasm_code.specs.laws.NumberExact.{unsigned_exact}
use Rattle.wasm_sections.specs.declared.section.Section.{Section}
use Rattle.wasm_sections.specs.Names.{SpellsSubsection, SpellsNaming, HasSubsection, HasName, ListsName, HasNameSection, NamesFunction}
use Rattle.wasm_sections.specs.NameReader.{subsection_at, naming_at}
use Rattle.wasm_sections.proofs.NameReaderLemmas.{subsection_exact, naming_exact}
use Rattle.wasm_sections.proofs.FirstLemmas.{IsBehind, first_is, only_value, none_leads, goes_on}

-- ---- subsections

pub subsection_found : (bytes rest contents behind : List ℕ) (id found number : ℕ) → IsBehind SpellsSubsection id number bytes rest →
    subsection_at rest ≡ Ok ((found, contents), behind) → found ≡ id → HasSubsection bytes id contents
subsection_found bytes rest contents behind id found number b e is =
    let here : subsection_at rest ≡ Ok ((id, contents), behind) = rw (← is) e in
    let g = b.from contents 0 (first_is subsection_exact rest behind contents id here) in
    record { before = g.before; leads = g.leads }

pub subsection_only : (bytes rest contents behind other : List ℕ) (id found number : ℕ) → IsBehind SpellsSubsection id number bytes rest →
    subsection_at rest ≡ Ok ((found, contents), behind) → found ≡ id → HasSubsection bytes id other → contents ≡ other
subsection_only bytes rest contents behind other id found number b e is h =
    let here : subsection_at rest ≡ Ok ((id, contents), behind) = rw (← is) e in
    let g = (b.to other (length h.before) (record { before = h.before; count = refl; leads = h.leads })).2 in
    only_value subsection_exact rest behind contents other id g.before here g.leads

pub no_subsection : (bytes rest other : List ℕ) (id number : ℕ) (cause : Cause) → IsBehind SpellsSubsection id number bytes rest →
    subsection_at rest ≡ Err cause → HasSubsection bytes id other → ⊥
no_subsection bytes rest other id number cause b e h =
    let g = (b.to other (length h.before) (record { before = h.before; count = refl; leads = h.leads })).2 in
    none_leads subsection_exact rest other id g.before cause e g.leads

pub next_subsection : (bytes rest contents behind : List ℕ) (id found number : ℕ) → IsBehind SpellsSubsection id number bytes rest →
    subsection_at rest ≡ Ok ((found, contents), behind) → (found ≡ id → ⊥) → IsBehind SpellsSubsection id (number + 1) bytes behind
next_subsection bytes rest contents behind id found number b e other = goes_on subsection_exact bytes rest behind id number (found, contents) b e other

-- a subsection has its id at least
pub shorter : (bytes contents behind : List ℕ) (found : ℕ) → subsection_at bytes ≡ Ok ((found, contents), behind) → length behind < length bytes
shorter bytes contents behind found e =
    let t = subsection_exact.takes bytes (found, contents) behind e in
    let s = t.2 in
    omega (arith, ap length t.1, length-append t.0 behind, ap length s.parts, length-append s.front s.back, ap length s.first)

-- ---- names

pub name_found : (bytes rest name behind : List ℕ) (index found count number : ℕ) → IsBehind SpellsNaming index number bytes rest → number < count →
    naming_at rest ≡ Ok ((found, name), behind) → found ≡ index → HasName index count bytes name
name_found bytes rest name behind index found count number b lt e is =
    let here : naming_at rest ≡ Ok ((index, name), behind) = rw (← is) e in
    let g = b.from name 0 (first_is naming_exact rest behind name index here) in
    record { before = g.before; fewer = omega (arith, g.count); leads = g.leads }

pub name_only : (bytes rest name behind other : List ℕ) (index found count number : ℕ) → IsBehind SpellsNaming index number bytes rest →
    naming_at rest ≡ Ok ((found, name), behind) → found ≡ index → HasName index count bytes other → name ≡ other
name_only bytes rest name behind other index found count number b e is h =
    let here : naming_at rest ≡ Ok ((index, name), behind) = rw (← is) e in
    let g = (b.to other (length h.before) (record { before = h.before; count = refl; leads = h.leads })).2 in
    only_value naming_exact rest behind name other index g.before here g.leads

pub no_name : (bytes rest other : List ℕ) (index count number : ℕ) (cause : Cause) → IsBehind SpellsNaming index number bytes rest →
    naming_at rest ≡ Err cause → HasName index count bytes other → ⊥
no_name bytes rest other index count number cause b e h =
    let g = (b.to other (length h.before) (record { before = h.before; count = refl; leads = h.leads })).2 in
    none_leads naming_exact rest other index g.before cause e g.leads

-- all were others
pub all_others : (bytes rest other : List ℕ) (index count number : ℕ) → IsBehind SpellsNaming index number bytes rest → count ≤ number →
    HasName index count bytes other → ⊥
all_others bytes rest other index count number b le h =
    let g = b.to other (length h.before) (record { before = h.before; count = refl; leads = h.leads }) in
    omega (arith, g.1, h.fewer)

pub next_name : (bytes rest name behind : List ℕ) (index found number : ℕ) → IsBehind SpellsNaming index number bytes rest →
    naming_at rest ≡ Ok ((found, name), behind) → (found ≡ index → ⊥) → IsBehind SpellsNaming index (number + 1) bytes behind
next_name bytes rest name behind index found number b e other = goes_on naming_exact bytes rest behind index number (found, name) b e other

-- ---- lists of names

pub lists : (contents rest name : List ℕ) (index count : ℕ) → unsigned_at 32 contents ≡ Ok (count, rest) → HasName index count rest name →
    ListsName index contents name
lists contents rest name index count e h =
    let t = (unsigned_exact 32).takes contents count rest e in
    record { value = count; front = t.0; back = rest; parts = t.1; first = t.2; second = h }

pub has_listed : (contents rest name : List ℕ) (index count : ℕ) → unsigned_at 32 contents ≡ Ok (count, rest) → ListsName index contents name →
    HasName index count rest name
has_listed contents rest name index count e l =
    let again = (unsigned_exact 32).again l.front l.back l.value l.first in
    let same = ok_is (l.value, l.back) (count, rest) (sym again ∙ ap (unsigned_at 32) (sym l.parts) ∙ e) in
    subst (λ (x : ℕ × List ℕ). HasName index x.0 x.1 name) same l.second

pub no_list : (contents name : List ℕ) (index : ℕ) (cause : Cause) → unsigned_at 32 contents ≡ Err cause → ListsName index contents name → ⊥
no_list contents name index cause e l =
    let again = sym e ∙ ap (unsigned_at 32) l.parts ∙ (unsigned_exact 32).again l.front l.back l.value l.first in
    absurd cc

-- ---- in the section

pub no_name_there : (bytes subsections name : List ℕ) (sections : List Section) (index : ℕ) →
    ((rest : List ℕ) → HasNameSection bytes sections rest → subsections ≡ rest) →
    ((contents : List ℕ) → HasSubsection subsections 1 contents → ⊥) → NamesFunction bytes sections index name → ⊥
no_name_there bytes subsections name sections index one none n =
    none n.contents (subst (λ (s : List ℕ). HasSubsection s 1 n.contents) (sym (one n.subsections n.section)) n.subsection)

pub is_listed : (bytes subsections contents name : List ℕ) (sections : List Section) (index : ℕ) →
    ((rest : List ℕ) → HasNameSection bytes sections rest → subsections ≡ rest) →
    ((other : List ℕ) → HasSubsection subsections 1 other → contents ≡ other) → NamesFunction bytes sections index name → ListsName index contents name
is_listed bytes subsections contents name sections index one only n =
    let has = subst (λ (s : List ℕ). HasSubsection s 1 n.contents) (sym (one n.subsections n.section)) n.subsection in
    subst (λ (s : List ℕ). ListsName index s name) (sym (only n.contents has)) n.listed
