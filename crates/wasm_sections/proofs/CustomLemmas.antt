-- The first name section among sections.
use Rattle.std.proofs.Common.{◌≡◌, ℕ, ◌+◌, ◌<◌, ◌≤◌, List, [], ◌∷◌, ◌++◌, length, drop, get_or, Option, Some, None, Ok, Err, sym, ap, subst, ◌∙◌}
use Rattle.std.specs.Prelude.{codes, slice_range, IfNone}
use Rattle.std.proofs.lemmas.List.{drop_more, drop_all}
use Rattle.wasm_code.specs.declared.fault.Cause.{Cause}
use Rattle.wasm_code.specs.laws.GrammarLemmas.{ok_is}
use Rattle.wasm_sections.specs.declared.section.Section.{Section}
use Rattle.wasm_sections.specs.Names.{AreNamed, IsNameSection, LackNameSection, HasNameSection}
use Rattle.wasm_sections.specs.NameReader.{sized_at}
use Rattle.wasm_sections.proofs.NameReaderLemmas.{sized_exact}

-- ---- a name and what follows it

pub named : (contents name wanted rest : List ℕ) → sized_at contents ≡ Ok (name, rest) → name ≡ wanted → AreNamed contents wanted rest
named contents name wanted rest e is =
    let t = sized_exact.takes contents name rest e in
    subst (λ (w : List ℕ). AreNamed contents w rest) is (record { front = t.0; parts = t.1; named = t.2 })

begins : (contents name rest : List ℕ) → AreNamed contents name rest → sized_at contents ≡ Ok (name, rest)
begins contents name rest n = ap sized_at n.parts ∙ sized_exact.again n.front rest name n.named

pub other_name : (contents name wanted rest other : List ℕ) → sized_at contents ≡ Ok (name, rest) → (name ≡ wanted → ⊥) →
    AreNamed contents wanted other → ⊥
other_name contents name wanted rest other e differs n =
    differs (ap (λ (x : List ℕ × List ℕ). x.0) (ok_is (name, rest) (wanted, other) (sym e ∙ begins contents wanted other n)))

pub no_name : (contents wanted other : List ℕ) (cause : Cause) → sized_at contents ≡ Err cause → AreNamed contents wanted other → ⊥
no_name contents wanted other cause e n = let again = sym e ∙ begins contents wanted other n in absurd cc

one_rest : (contents name rest other : List ℕ) → AreNamed contents name rest → AreNamed contents name other → rest ≡ other
one_rest contents name rest other one two =
    ap (λ (x : List ℕ × List ℕ). x.1)
    (ok_is (name, rest) (name, other) (sym (begins contents name rest one) ∙ begins contents name other two))

-- what isn't named so is no such section
pub no_name_section : {A : Type 0} (o : Option A) (bytes : List ℕ) (s : Section) →
    IfNone o ((rest : List ℕ) → AreNamed (slice_range bytes s.contents s.end) (codes "name") rest → ⊥) →
    IfNone o ((rest : List ℕ) → IsNameSection bytes s rest → ⊥)
no_name_section None bytes s none = λ rest is. none rest is.named
no_name_section (Some x) bytes s none = tt

-- ---- one section after another

-- in the one list the first name section is that of the other list
pub record SameFirst (bytes : List ℕ) (sections all : List Section) : Type 0 where
  pub to : (rest : List ℕ) → HasNameSection bytes all rest → HasNameSection bytes sections rest
  pub from : (rest : List ℕ) → HasNameSection bytes sections rest → HasNameSection bytes all rest

head_is : (s t : Section) (ss ts : List Section) → s ∷ ss ≡ t ∷ ts → (s ≡ t) × (ss ≡ ts)
head_is s t ss ts e = (cc, cc)

skips : (bytes rest : List ℕ) (s : Section) (ss before : List Section) (section : Section) (behind : List Section) →
    ((other : List ℕ) → IsNameSection bytes s other → ⊥) → s ∷ ss ≡ before ++ section ∷ behind → LackNameSection bytes before →
    IsNameSection bytes section rest → HasNameSection bytes ss rest
skips bytes rest s ss [] section behind none e lack is =
    absurd (none rest (subst (λ (t : Section). IsNameSection bytes t rest) (sym (head_is s section ss behind e).0) is))
skips bytes rest s ss (t ∷ before) section behind none e lack is = record {
  before = before;
  section = section;
  behind = behind;
  parts = (head_is s t ss (before ++ section ∷ behind) e).1;
  none = lack.1;
  is = is;
}

more : (bytes : List ℕ) (s : Section) (ss all : List Section) → ((other : List ℕ) → IsNameSection bytes s other → ⊥) →
    SameFirst bytes (s ∷ ss) all → SameFirst bytes ss all
more bytes s ss all none same = record {
  to = λ rest h. let k = same.to rest h in skips bytes rest s ss k.before k.section k.behind none k.parts k.none k.is;
  from = λ rest h. same.from rest (record {
    before = s ∷ h.before;
    section = h.section;
    behind = h.behind;
    parts = ap (λ (l : List Section). s ∷ l) h.parts;
    none = (none, h.none);
    is = h.is;
  });
}

pub next_section : (bytes : List ℕ) (all : List Section) (i : ℕ) (d : Section) → i < length all → SameFirst bytes (drop i all) all →
    ((other : List ℕ) → IsNameSection bytes (get_or all i d) other → ⊥) → SameFirst bytes (drop (i + 1) all) all
next_section bytes all i d lt same none =
    more bytes (get_or all i d) (drop (i + 1) all) all none (subst (λ (l : List Section). SameFirst bytes l all) (drop_more all i d lt) same)

pub has_section : (bytes rest : List ℕ) (all : List Section) (i : ℕ) (d : Section) → i < length all → SameFirst bytes (drop i all) all →
    IsNameSection bytes (get_or all i d) rest → HasNameSection bytes all rest
has_section bytes rest all i d lt same is = same.from rest (record {
  before = [];
  section = get_or all i d;
  behind = drop (i + 1) all;
  parts = drop_more all i d lt;
  none = tt;
  is = is;
})

first_rest : (bytes rest other : List ℕ) (s : Section) (ss before : List Section) (section : Section) (behind : List Section) →
    IsNameSection bytes s rest → s ∷ ss ≡ before ++ section ∷ behind → LackNameSection bytes before → IsNameSection bytes section other →
    rest ≡ other
first_rest bytes rest other s ss [] section behind one e lack is =
    let two = subst (λ (t : Section). IsNameSection bytes t other) (sym (head_is s section ss behind e).0) is in
    one_rest (slice_range bytes s.contents s.end) (codes "name") rest other one.named two.named
first_rest bytes rest other s ss (t ∷ before) section behind one e lack is =
    absurd (lack.0 rest (subst (λ (x : Section). IsNameSection bytes x rest) (head_is s t ss (before ++ section ∷ behind) e).0 one))

pub only_section : (bytes rest other : List ℕ) (all : List Section) (i : ℕ) (d : Section) → i < length all → SameFirst bytes (drop i all) all →
    IsNameSection bytes (get_or all i d) rest → HasNameSection bytes all other → rest ≡ other
only_section bytes rest other all i d lt same is h =
    let k = same.to other h in
    first_rest bytes rest other (get_or all i d) (drop (i + 1) all) k.before k.section k.behind is (sym (drop_more all i d lt) ∙ k.parts) k.none k.is

none_left : (bytes other : List ℕ) (before : List Section) (section : Section) (behind : List Section) → [] ≡ before ++ section ∷ behind → ⊥
none_left bytes other [] section behind e = cc
none_left bytes other (t ∷ before) section behind e = cc

pub no_section : (bytes other : List ℕ) (all : List Section) (i : ℕ) → length all ≤ i → SameFirst bytes (drop i all) all →
    HasNameSection bytes all other → ⊥
no_section bytes other all i le same h =
    let k = same.to other h in
    none_left bytes other k.before k.section k.behind (sym (drop_all i all le) ∙ k.parts)
