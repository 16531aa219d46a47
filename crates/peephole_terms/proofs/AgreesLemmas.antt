-- Terms agree as an equivalence, and in every place of a term.
use Rattle.std.proofs.Common.{◌≡◌, ℕ, List, [], ◌++◌, length, drop, Option, Some, None, refl, sym, ap, ap₂, ◌∙◌, subst}
use Rattle.std.specs.Prelude.{option_and_then}
use Rattle.std.specs.List.{All}
use Rattle.wasm_types.specs.declared.types.PrimitiveTypeInfo.{PrimitiveTypeInfo}
use Rattle.peephole_lang.specs.declared.lang.Head.{Head}
use Rattle.peephole_lang.specs.Term.{Term, Terms, absent, node, no_terms, ◌▸◌}
use Rattle.wasm_execution.specs.Values.{Value, IsValue, types, State, HasTypes, Outcome, Ends, Traps, Stuck, then_run, above, Context}
use Rattle.wasm_execution.specs.Agreement.{SameOutcome, EndsTyped}
use Rattle.wasm_execution.specs.RowLemmas.{and_then_some}
use Rattle.wasm_execution.specs.SameLemmas.{same_is}
use Rattle.peephole_terms.specs.NodeKind.{NumberType, NodeKind, node_kind, Own, Random, Unfold, UseGlobal, Container, Nothing}
use Rattle.peephole_terms.specs.Expansion.{own_draws, with_own_draws, draws_of, draws}
use Rattle.peephole_terms.specs.Typing.{own_types, with_own_types, joined_types, types_of, types_in}
use Rattle.peephole_terms.specs.Meaning.{own_meaning, with_own_meaning, meaning_of, meaning}
use Rattle.peephole_terms.specs.Agrees.{Agree, Holed, hole, under, HoledTerms, here, next, fill, fill_in, DrawsNothing, TermStandsFor}
use Rattle.peephole_terms.specs.Agrees.{StandFor, LeavesItsTypes, IsCongruence}
use Rattle.peephole_terms.proofs.MeaningLemmas.{parts_of_types, own_typed, typed_of, typed_in}
use Rattle.peephole_terms.proofs.WordLemmas.{both_empty, nothing_below, own_free, free_of, free_in}

-- ---- the same outcomes

same_self : (context : Context) (list : List PrimitiveTypeInfo) (o : Outcome) → EndsTyped context list o → SameOutcome o o
same_self context list (Ends xs s) h = (refl, (refl, refl, refl, refl))
same_self context list (Traps c gs r) h = (refl, refl, refl)
same_self context list Stuck h = h

above_same : (stack : List Value) (o r : Outcome) → SameOutcome o r → SameOutcome (above stack o) (above stack r)
above_same stack (Ends xs s) (Ends ys m) h = (ap (λ x. stack ++ x) h.0, h.1)
above_same stack (Traps c gs r) (Traps d hs q) h = h
above_same stack _ _ h = absurd h

same_sym : (o r : Outcome) → SameOutcome o r → SameOutcome r o
same_sym (Ends xs s) (Ends ys m) h = (sym h.0, (sym h.1.0, sym h.1.1, sym h.1.2, sym h.1.3))
same_sym (Traps c gs r) (Traps d hs q) h = (sym h.0, sym h.1, sym h.2)
same_sym _ _ h = absurd h

same_trans : (o r q : Outcome) → SameOutcome o r → SameOutcome r q → SameOutcome o q
same_trans (Ends xs s) (Ends ys m) (Ends zs n) h k = (h.0 ∙ k.0, (h.1.0 ∙ k.1.0, h.1.1 ∙ k.1.1, h.1.2 ∙ k.1.2, h.1.3 ∙ k.1.3))
same_trans (Traps c gs r) (Traps d hs q) (Traps e is p) h k = (h.0 ∙ k.0, h.1 ∙ k.1, h.2 ∙ k.2)
same_trans (Ends xs s) (Ends ys m) _ h k = absurd k
same_trans (Traps c gs r) (Traps d hs q) _ h k = absurd k
same_trans _ _ q h k = absurd h

-- one after the other, from outcomes that are the same and of the same types
then_same : (context : Context) (ks : List PrimitiveTypeInfo) (o r : Outcome) (f g : List Value → State → Outcome) →
    SameOutcome o r → EndsTyped context ks o → EndsTyped context ks r →
    ((xs : List Value) (s : State) → types xs ≡ ks → All IsValue xs → HasTypes context s → SameOutcome (f xs s) (g xs s)) →
    SameOutcome (then_run o f) (then_run r g)
then_same context ks o r f g h a b k =
    subst (λ x. SameOutcome (then_run o f) (then_run x g)) (same_is context ks ks o r a b h) (go o a)
  where
    go : (o : Outcome) → EndsTyped context ks o → SameOutcome (then_run o f) (then_run o g)
    go (Ends xs s) a = k xs s a.0 a.1 a.2
    go (Traps c gs r) a = (refl, refl, refl)
    go Stuck a = a

-- ---- a term with a hole

node_types_same : (context : Context) (k : NodeKind) (below : List NumberType) (kids others : Terms Head) →
    with_own_draws k below ≡ [] → types_in context kids ≡ types_in context others →
    with_own_types context k kids (types_in context kids) ≡ with_own_types context k others (types_in context others)
node_types_same context (Unfold t) below kids others e h = absurd cc
node_types_same context (Own i) below kids others e h = ap (option_and_then (own_types context (Own i))) h
node_types_same context (Random t) below kids others e h = ap (option_and_then (own_types context (Random t))) h
node_types_same context (UseGlobal t) below kids others e h = ap (option_and_then (own_types context (UseGlobal t))) h
node_types_same context Container below kids others e h = ap (option_and_then (own_types context Container)) h
node_types_same context Nothing below kids others e h = ap (option_and_then (own_types context Nothing)) h

mutual
  types_same_of : (context : Context) (c : Holed) (t u : Term Head) → DrawsNothing c →
      types_of context t ≡ types_of context u → types_of context (fill c t) ≡ types_of context (fill c u)
  types_same_of context hole t u d e = e
  types_same_of context (under x cs) t u d e =
      node_types_same context (node_kind x) (draws (fill_in cs absent)) (fill_in cs t) (fill_in cs u) d
      (types_same_in context cs t u (nothing_below (node_kind x) (draws (fill_in cs absent)) d).0 e)

  types_same_in : (context : Context) (cs : HoledTerms) (t u : Term Head) → draws (fill_in cs absent) ≡ [] →
      types_of context t ≡ types_of context u → types_in context (fill_in cs t) ≡ types_in context (fill_in cs u)
  types_same_in context (here c ts) t u d e = ap (λ o. joined_types o (types_in context ts))
      (types_same_of context c t u (both_empty (draws_of (fill c absent)) (draws ts) d).0 e)
  types_same_in context (next v cs) t u d e = ap (joined_types (types_of context v))
      (types_same_in context cs t u (both_empty (draws_of v) (draws (fill_in cs absent)) d).1 e)

-- a node behind children that mean the same
behind_same : (context : Context) (ks ts : List PrimitiveTypeInfo) (us vs : List ℕ) (k : NodeKind) (o r : Outcome) → own_draws k ≡ [] →
    own_types context k ks ≡ Some ts → SameOutcome o r → EndsTyped context ks o →
    EndsTyped context ks r → SameOutcome (then_run o (own_meaning us k)) (then_run r (own_meaning vs k))
behind_same context ks ts us vs k o r d e h a b =
    then_same context ks o r (own_meaning us k) (own_meaning vs k) h a b
    (λ xs s hx hv hs. subst (λ y. SameOutcome (own_meaning us k xs s) y) (own_free us vs k xs s d)
    (same_self context ts (own_meaning us k xs s)
    (own_typed context us k xs s (ap (own_types context k) hx ∙ e) hv hs)))

-- children that mean the same
abbrev KidsSame : (context : Context) → (us vs : List ℕ) → (kids others : Terms Head) → State → Type 0
KidsSame context us vs kids others s =
    (ks : List PrimitiveTypeInfo) → types_in context kids ≡ Some ks →
    SameOutcome (meaning us kids s) (meaning vs others s)

below_same : (context : Context) (ts : List PrimitiveTypeInfo) (us vs : List ℕ) (k : NodeKind) (kids others : Terms Head) (s : State) →
    own_draws k ≡ [] → types_in context kids ≡ types_in context others → HasTypes context s →
    KidsSame context us vs kids others s →
    option_and_then (own_types context k) (types_in context kids) ≡ Some ts →
    SameOutcome (then_run (meaning us kids s) (own_meaning (drop (length (draws kids)) us) k))
    (then_run (meaning vs others s) (own_meaning (drop (length (draws others)) vs) k))
below_same context ts us vs k kids others s d same h below e =
    let (ks, a, b) = and_then_some (own_types context k) (types_in context kids) ts e in
    behind_same context ks ts (drop (length (draws kids)) us) (drop (length (draws others)) vs) k
    (meaning us kids s) (meaning vs others s) d b (below ks a)
    (typed_in context ks kids us s a h)
    (typed_in context ks others vs s (sym same ∙ a) h)

node_same : (context : Context) (ts : List PrimitiveTypeInfo) (us vs : List ℕ) (k : NodeKind) (below : List NumberType) (kids others : Terms Head)
    (s : State) → with_own_draws k below ≡ [] → types_in context kids ≡ types_in context others → HasTypes context s →
    KidsSame context us vs kids others s →
    with_own_types context k kids (types_in context kids) ≡ Some ts →
    SameOutcome (with_own_meaning us k kids (meaning us kids s) s) (with_own_meaning vs k others (meaning vs others s) s)
node_same context ts us vs (Unfold t) below kids others s d same h k e = absurd cc
node_same context ts us vs (Own i) below kids others s d same h k e =
    below_same context ts us vs (Own i) kids others s refl same h k e
node_same context ts us vs (Random t) below kids others s d same h k e =
    below_same context ts us vs (Random t) kids others s (nothing_below (Random t) below d).1 same h k e
node_same context ts us vs (UseGlobal t) below kids others s d same h k e =
    below_same context ts us vs (UseGlobal t) kids others s refl same h k e
node_same context ts us vs Container below kids others s d same h k e =
    below_same context ts us vs Container kids others s refl same h k e
node_same context ts us vs Nothing below kids others s d same h k e =
    below_same context ts us vs Nothing kids others s refl same h k e

none_dropped : {A : Type 0} (xs : List A) (words : List ℕ) → xs ≡ [] → drop (length xs) words ≡ words
none_dropped xs words e = ap (λ x. drop (length x) words) e

mutual
  meaning_same_of : (context : Context) (list : List PrimitiveTypeInfo) (us vs : List ℕ) (c : Holed) (t u : Term Head) → DrawsNothing c →
      types_of context (fill c t) ≡ Some list → Agree context us vs t u → (s : State) → HasTypes context s →
      SameOutcome (meaning_of us (fill c t) s) (meaning_of vs (fill c u) s)
  meaning_same_of context list us vs hole t u d e a s h = a.means s h
  meaning_same_of context list us vs (under x cs) t u d e a s h =
      let below = draws (fill_in cs absent) in
      let none = (nothing_below (node_kind x) below d).0 in
      node_same context list us vs (node_kind x) below (fill_in cs t) (fill_in cs u) s d
      (types_same_in context cs t u none (a.first_types ∙ sym a.second_types)) h
      (λ ks k. meaning_same_in context ks us vs cs t u none k a s h) e

  meaning_same_in : (context : Context) (list : List PrimitiveTypeInfo) (us vs : List ℕ) (cs : HoledTerms) (t u : Term Head) →
      draws (fill_in cs absent) ≡ [] →
      types_in context (fill_in cs t) ≡ Some list → Agree context us vs t u → (s : State) → HasTypes context s →
      SameOutcome (meaning us (fill_in cs t) s) (meaning vs (fill_in cs u) s)
  meaning_same_in context list us vs (here c ts) t u d e a s h =
      let p = both_empty (draws_of (fill c absent)) (draws ts) d in
      let (ks, js, b, r, w) = parts_of_types (types_of context (fill c t)) (types_in context ts) list e in
      let other = sym (types_same_of context c t u p.0 (a.first_types ∙ sym a.second_types)) ∙ b in
      let left = drop (length (draws_of (fill c t))) us in
      let right = drop (length (draws_of (fill c u))) vs in
      then_same context ks (meaning_of us (fill c t) s) (meaning_of vs (fill c u) s)
      (λ xs m. above xs (meaning left ts m)) (λ xs m. above xs (meaning right ts m))
      (meaning_same_of context ks us vs c t u p.0 b a s h)
      (typed_of context ks (fill c t) us s b h)
      (typed_of context ks (fill c u) vs s other h)
      (λ xs m hx hv hm. above_same xs (meaning left ts m) (meaning right ts m)
      (subst (λ y. SameOutcome (meaning left ts m) y) (free_in left right ts m p.1)
      (same_self context js (meaning left ts m) (typed_in context js ts left m r hm))))
  meaning_same_in context list us vs (next v cs) t u d e a s h =
      let p = both_empty (draws_of v) (draws (fill_in cs absent)) d in
      let (ks, js, b, r, w) = parts_of_types (types_of context v) (types_in context (fill_in cs t)) list e in
      let left = drop (length (draws_of v)) us in
      let right = drop (length (draws_of v)) vs in
      let fine = typed_of context ks v us s b h in
      then_same context ks (meaning_of us v s) (meaning_of vs v s)
      (λ xs m. above xs (meaning left (fill_in cs t) m)) (λ xs m. above xs (meaning right (fill_in cs u) m))
      (subst (λ y. SameOutcome (meaning_of us v s) y) (free_of us vs v s p.0) (same_self context ks (meaning_of us v s) fine))
      fine
      (typed_of context ks v vs s b h)
      (λ xs m hx hv hm. above_same xs (meaning left (fill_in cs t) m) (meaning right (fill_in cs u) m)
      (subst (λ y. SameOutcome (meaning y (fill_in cs t) m) (meaning right (fill_in cs u) m)) (sym (none_dropped (draws_of v) us p.0))
      (subst (λ y. SameOutcome (meaning us (fill_in cs t) m) (meaning y (fill_in cs u) m)) (sym (none_dropped (draws_of v) vs p.0))
      (meaning_same_in context js us vs cs t u p.1 r a m hm))))

-- ---- the laws

agrees_self : (context : Context) (list : List PrimitiveTypeInfo) (words : List ℕ) (t : Term Head) → types_of context t ≡ Some list →
    Agree context words words t t
agrees_self context list words t e = record {
  list = list;
  first_types = e;
  second_types = e;
  means = λ s h. same_self context list (meaning_of words t s)
      (typed_of context list t words s e h);
}

agrees_sym : (context : Context) (us vs : List ℕ) (t u : Term Head) → Agree context us vs t u →
    Agree context vs us u t
agrees_sym context us vs t u a = record {
  list = a.list;
  first_types = a.second_types;
  second_types = a.first_types;
  means = λ s h. same_sym (meaning_of us t s) (meaning_of vs u s) (a.means s h);
}

agrees_trans : (context : Context) (us vs ws : List ℕ) (t u v : Term Head) → Agree context us vs t u →
    Agree context vs ws u v → Agree context us ws t v
agrees_trans context us vs ws t u v a b =
    let e : Some b.list ≡ Some a.list = sym b.first_types ∙ a.second_types in
    record {
      list = a.list;
      first_types = a.first_types;
      second_types = b.second_types ∙ e;
      means = λ s h. same_trans (meaning_of us t s) (meaning_of vs u s) (meaning_of ws v s) (a.means s h) (b.means s h);
    }

agrees_within : (context : Context) (list : List PrimitiveTypeInfo) (us vs : List ℕ) (c : Holed) (t u : Term Head) → DrawsNothing c →
    types_of context (fill c t) ≡ Some list → Agree context us vs t u → Agree context us vs (fill c t) (fill c u)
agrees_within context list us vs c t u d e a = record {
  list = list;
  first_types = e;
  second_types = sym (types_same_of context c t u d (a.first_types ∙ sym a.second_types)) ∙ e;
  means = λ s h. meaning_same_of context list us vs c t u d e a s h;
}

agrees_wordless : (context : Context) (list : List PrimitiveTypeInfo) (us vs : List ℕ) (t : Term Head) → draws_of t ≡ [] →
    types_of context t ≡ Some list → Agree context us vs t t
agrees_wordless context list us vs t d e = record {
  list = list;
  first_types = e;
  second_types = e;
  means = λ s h. subst (λ o. SameOutcome (meaning_of us t s) o) (free_of us vs t s d)
      (same_self context list (meaning_of us t s) (typed_of context list t us s e h));
}

-- ---- children that may stand for others

kids_typed : (context : Context) (ts us : Terms Head) (list : List PrimitiveTypeInfo) → StandFor context ts us →
    draws ts ≡ [] → types_in context ts ≡ Some list → types_in context us ≡ Some list
kids_typed context no_terms no_terms list a d e = e
kids_typed context (t ▸ ts) (u ▸ us) list a d e =
    let p = both_empty (draws_of t) (draws ts) d in
    let (ks, js, b, r, w) = parts_of_types (types_of context t) (types_in context ts) list e in
    let one = a.0 ks b p.0 [] [] in
    let same : types_of context u ≡ types_of context t = one.second_types ∙ sym one.first_types in
    let rest : types_in context us ≡ types_in context ts = kids_typed context ts us js a.1 p.1 r ∙ sym r in
    ap₂ joined_types same rest ∙ e
kids_typed context no_terms (u ▸ us) list a d e = absurd a
kids_typed context (t ▸ ts) no_terms list a d e = absurd a

kids_mean : (context : Context) (ts os : Terms Head) (list : List PrimitiveTypeInfo) (us vs : List ℕ) →
    StandFor context ts os → draws ts ≡ [] → types_in context ts ≡ Some list → (s : State) → HasTypes context s →
    SameOutcome (meaning us ts s) (meaning vs os s)
kids_mean context no_terms no_terms list us vs a d e s h = (refl, (refl, refl, refl, refl))
kids_mean context (t ▸ ts) (o ▸ os) list us vs a d e s h =
    let p = both_empty (draws_of t) (draws ts) d in
    let (ks, js, b, r, w) = parts_of_types (types_of context t) (types_in context ts) list e in
    let one = a.0 ks b p.0 us vs in
    let other : types_of context o ≡ Some ks = one.second_types ∙ (sym one.first_types ∙ b) in
    let left = drop (length (draws_of t)) us in
    let right = drop (length (draws_of o)) vs in
    then_same context ks (meaning_of us t s) (meaning_of vs o s)
    (λ xs m. above xs (meaning left ts m)) (λ xs m. above xs (meaning right os m))
    (one.means s h)
    (typed_of context ks t us s b h)
    (typed_of context ks o vs s other h)
    (λ xs m hx hv hm. above_same xs (meaning left ts m) (meaning right os m)
    (kids_mean context ts os js left right a.1 p.1 r m hm))
kids_mean context no_terms (o ▸ os) list us vs a d e s h = absurd a
kids_mean context (t ▸ ts) no_terms list us vs a d e s h = absurd a

kids_have : (context : Context) (list : List PrimitiveTypeInfo) (k : NodeKind) (kids : Terms Head) (below : List NumberType)
    (o : Option (List PrimitiveTypeInfo)) → with_own_draws k below ≡ [] → with_own_types context k kids o ≡ Some list →
    (ks : List PrimitiveTypeInfo) × (o ≡ Some ks)
kids_have context list k kids below None d e = absurd (go k d e)
  where
    go : (k : NodeKind) → with_own_draws k below ≡ [] → with_own_types context k kids None ≡ Some list → ⊥
    go (Unfold t) d e = absurd cc
    go (Own i) d e = absurd cc
    go (Random t) d e = absurd cc
    go (UseGlobal t) d e = absurd cc
    go Container d e = absurd cc
    go Nothing d e = absurd cc
kids_have context list k kids below (Some ks) d e = (ks, refl)

stands_childwise : (context : Context) (x : Head) (ts os : Terms Head) → StandFor context ts os →
    TermStandsFor context (node x ts) (node x os)
stands_childwise context x ts os a list e d us vs =
    let none = (nothing_below (node_kind x) (draws ts) d).0 in
    let (ks, b) = kids_have context list (node_kind x) ts (draws ts) (types_in context ts) d e in
    let same : types_in context ts ≡ types_in context os = b ∙ sym (kids_typed context ts os ks a none b) in
    record {
      list = list;
      first_types = e;
      second_types = sym (node_types_same context (node_kind x) (draws ts) ts os d same) ∙ e;
      means = λ s h. node_same context list us vs (node_kind x) (draws ts) ts os s d same h
          (λ js k. kids_mean context ts os js us vs a none k s h) e;
    }

-- what a typed term leaves
pub leaves_its_types : LeavesItsTypes
leaves_its_types context list words t s e h = typed_of context list t words s e h

pub congruence : IsCongruence
congruence = record {
  reflexive = agrees_self;
  wordless = agrees_wordless;
  symmetric = agrees_sym;
  transitive = agrees_trans;
  congruent = agrees_within;
  childwise = stands_childwise;
}
