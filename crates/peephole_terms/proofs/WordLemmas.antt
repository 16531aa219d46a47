-- A term that draws no word means the same with all words.
use Rattle.std.proofs.Common.{◌≡◌, ℕ, List, [], ◌∷◌, ◌++◌, length, drop, refl, ap, ◌∙◌}
use Rattle.peephole_lang.specs.declared.lang.Head.{Head}
use Rattle.peephole_lang.specs.Term.{Term, Terms, absent, node, no_terms, ◌▸◌}
use Rattle.wasm_execution.specs.Values.{Value, State, Outcome, Ends, Traps, Stuck, then_run, above}
use Rattle.peephole_terms.specs.NodeKind.{NumberType, NodeKind, node_kind, Own, Random, Unfold, UseGlobal, Container, Nothing}
use Rattle.peephole_terms.specs.Expansion.{own_draws, with_own_draws, draws_of, draws}
use Rattle.peephole_terms.specs.Meaning.{own_meaning, with_own_meaning, meaning_of, meaning}

pub both_empty : {A : Type 0} (xs ys : List A) → xs ++ ys ≡ [] → (xs ≡ []) × (ys ≡ [])
both_empty [] ys e = (refl, e)
both_empty (x ∷ xs) ys e = absurd cc

pub nothing_below : (k : NodeKind) (below : List NumberType) → with_own_draws k below ≡ [] → (below ≡ []) × (own_draws k ≡ [])
nothing_below (Unfold t) below e = absurd cc
nothing_below (Own i) below e = both_empty below [] e
nothing_below (Random t) below e = both_empty below (t ∷ []) e
nothing_below (UseGlobal t) below e = both_empty below [] e
nothing_below Container below e = both_empty below [] e
nothing_below Nothing below e = both_empty below [] e

pub own_free : (us vs : List ℕ) (k : NodeKind) (xs : List Value) (s : State) → own_draws k ≡ [] → own_meaning us k xs s ≡ own_meaning vs k xs s
own_free us vs (Own i) xs s e = refl
own_free us vs (Random t) xs s e = absurd cc
own_free us vs (UseGlobal t) xs s e = refl
own_free us vs Container xs s e = refl
own_free us vs (Unfold t) xs s e = refl
own_free us vs Nothing xs s e = refl

pub then_is : (o r : Outcome) (f g : List Value → State → Outcome) → o ≡ r → ((xs : List Value) (s : State) → f xs s ≡ g xs s) →
    then_run o f ≡ then_run r g
then_is o r f g e k = go o ∙ ap (λ x. then_run x g) e
  where
    go : (o : Outcome) → then_run o f ≡ then_run o g
    go (Ends xs s) = k xs s
    go (Traps c hs r) = refl
    go Stuck = refl

node_free : (us vs : List ℕ) (k : NodeKind) (kids : Terms Head) (s : State) → with_own_draws k (draws kids) ≡ [] →
    meaning us kids s ≡ meaning vs kids s →
    with_own_meaning us k kids (meaning us kids s) s ≡ with_own_meaning vs k kids (meaning vs kids s) s
node_free us vs k kids s e h = go k (nothing_below k (draws kids) e).1
  where
    behind : (k : NodeKind) → own_draws k ≡ [] → then_run (meaning us kids s) (own_meaning (drop (length (draws kids)) us) k)
        ≡ then_run (meaning vs kids s) (own_meaning (drop (length (draws kids)) vs) k)
    behind k d = then_is (meaning us kids s) (meaning vs kids s) (own_meaning (drop (length (draws kids)) us) k)
        (own_meaning (drop (length (draws kids)) vs) k) h
        (λ xs m. own_free (drop (length (draws kids)) us) (drop (length (draws kids)) vs) k xs m d)

    go : (k : NodeKind) → own_draws k ≡ [] →
        with_own_meaning us k kids (meaning us kids s) s ≡ with_own_meaning vs k kids (meaning vs kids s) s
    go (Unfold t) d = refl
    go (Own i) d = behind (Own i) d
    go (Random t) d = behind (Random t) d
    go (UseGlobal t) d = behind (UseGlobal t) d
    go Container d = behind Container d
    go Nothing d = behind Nothing d

mutual
  pub free_of : (us vs : List ℕ) (t : Term Head) (s : State) → draws_of t ≡ [] → meaning_of us t s ≡ meaning_of vs t s
  free_of us vs absent s e = refl
  free_of us vs (node x kids) s e =
      node_free us vs (node_kind x) kids s e (free_in us vs kids s (nothing_below (node_kind x) (draws kids) e).0)

  pub free_in : (us vs : List ℕ) (ts : Terms Head) (s : State) → draws ts ≡ [] → meaning us ts s ≡ meaning vs ts s
  free_in us vs no_terms s e = refl
  free_in us vs (t ▸ ts) s e =
      let p = both_empty (draws_of t) (draws ts) e in
      let n = length (draws_of t) in
      then_is (meaning_of us t s) (meaning_of vs t s) (λ xs m. above xs (meaning (drop n us) ts m)) (λ xs m. above xs (meaning (drop n vs) ts m))
      (free_of us vs t s p.0) (λ xs m. ap (above xs) (free_in (drop n us) (drop n vs) ts m p.1))
