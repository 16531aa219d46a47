-- When two terms agree: they have the same types, and mean the same in every state of the context's types; and terms with a hole (this project).
use Rattle.std.specs.Prelude.{◌≡◌, ℕ, List, [], Some, ⊤}
use Rattle.wasm_types.specs.declared.types.PrimitiveTypeInfo.{PrimitiveTypeInfo}
use Rattle.peephole_lang.specs.declared.lang.Head.{Head}
use Rattle.peephole_lang.specs.Term.{Term, Terms, absent, node, no_terms, ◌▸◌}
use Rattle.wasm_execution.specs.Values.{Context, State, HasTypes}
use Rattle.wasm_execution.specs.Agreement.{SameOutcome, EndsTyped}
use Rattle.peephole_terms.specs.Expansion.{draws_of}
use Rattle.peephole_terms.specs.Typing.{types_of}
use Rattle.peephole_terms.specs.Meaning.{meaning_of}

-- The first term with the words `us` and the second with the words `vs` have the same types, and in every state of the context's types mean the same.
pub record Agree (context : Context) (us vs : List ℕ) (t u : Term Head) : Type 0 where
  pub list : List PrimitiveTypeInfo
  pub first_types : types_of context t ≡ Some list
  pub second_types : types_of context u ≡ Some list
  pub means : (s : State) → HasTypes context s → SameOutcome (meaning_of us t s) (meaning_of vs u s)

-- ---- terms with a hole

-- the hole itself, or a node with the hole in one of its children; children with the hole in the first, or in one behind the first
mutual
  pub data Holed : Type 0 where
    hole : Holed
    under : Head → HoledTerms → Holed

  pub data HoledTerms : Type 0 where
    here : Holed → Terms Head → HoledTerms
    next : Term Head → HoledTerms → HoledTerms

-- the term with another in the hole
abbrev mutual
  pub fill : Holed → Term Head → Term Head
  fill hole t = t
  fill (under h cs) t = node h (fill_in cs t)

  pub fill_in : HoledTerms → Term Head → Terms Head
  fill_in (here c ts) t = fill c t ▸ ts
  fill_in (next u cs) t = u ▸ fill_in cs t

-- No word is drawn outside the hole; so the hole is below no unfold.
abbrev pub DrawsNothing : Holed → Type 0
DrawsNothing c = draws_of (fill c absent) ≡ []

-- ---- whatever words are drawn

-- Where the first has types and draws no word, the second may stand for it: they agree, whatever words the second draws.
abbrev pub TermStandsFor : Context → (t u : Term Head) → Type 0
TermStandsFor context t u =
    (list : List PrimitiveTypeInfo) → types_of context t ≡ Some list → draws_of t ≡ [] → (us vs : List ℕ) → Agree context us vs t u

-- and as many terms, one by one
abbrev pub StandFor : Context → (ts us : Terms Head) → Type 0
StandFor context no_terms no_terms = ⊤
StandFor context (t ▸ ts) (u ▸ us) = TermStandsFor context t u × StandFor context ts us
StandFor context _ _ = ⊥

-- ---- laws

-- A typed term leaves values of its types, in a state of the context's types, or traps.
abbrev pub LeavesItsTypes : Type 0
LeavesItsTypes =
    (context : Context) (list : List PrimitiveTypeInfo) (words : List ℕ) (t : Term Head) (s : State) →
    types_of context t ≡ Some list → HasTypes context s → EndsTyped context list (meaning_of words t s)

-- Agreement is an equivalence of typed terms; a term that draws no word agrees with itself for all words; agreeing terms agree in every place
-- of a typed term that draws no other word; and a node may stand for another with the same head where its children may stand for the other's.
pub record IsCongruence : Type 0 where
  pub reflexive : (context : Context) (list : List PrimitiveTypeInfo) (words : List ℕ) (t : Term Head) →
      types_of context t ≡ Some list → Agree context words words t t
  pub wordless : (context : Context) (list : List PrimitiveTypeInfo) (us vs : List ℕ) (t : Term Head) → draws_of t ≡ [] →
      types_of context t ≡ Some list → Agree context us vs t t
  pub symmetric : (context : Context) (us vs : List ℕ) (t u : Term Head) →
      Agree context us vs t u → Agree context vs us u t
  pub transitive : (context : Context) (us vs ws : List ℕ) (t u v : Term Head) →
      Agree context us vs t u → Agree context vs ws u v → Agree context us ws t v
  pub congruent : (context : Context) (list : List PrimitiveTypeInfo) (us vs : List ℕ) (c : Holed) (t u : Term Head) →
      DrawsNothing c → types_of context (fill c t) ≡ Some list →
      Agree context us vs t u → Agree context us vs (fill c t) (fill c u)
  pub childwise : (context : Context) (h : Head) (ts us : Terms Head) →
      StandFor context ts us → TermStandsFor context (node h ts) (node h us)
