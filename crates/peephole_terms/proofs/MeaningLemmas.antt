-- A typed term's meaning leaves values of the term's types, and is never stuck.
use Rattle.std.proofs.Common.{◌≡◌, ℕ, ℤ, List, [], ◌∷◌, ◌++◌, length, drop, Option, Some, None, ap, ◌∙◌, subst}
use Rattle.std.specs.Prelude.{option_map}
use Rattle.std.specs.Int.{cast_unsigned}
use Rattle.std.specs.List.{All}
use Rattle.std.proofs.lemmas.List.Elements.{All-nil}
use Rattle.wasm_types.specs.declared.types.PrimitiveTypeInfo.{PrimitiveTypeInfo}
use Rattle.peephole_lang.specs.declared.lang.Head.{Head}
use Rattle.peephole_lang.specs.Term.{Term, Terms, absent, node, no_terms, ◌▸◌}
use Rattle.wasm_execution.specs.Values.{Value, IsValue, type_of, width_of, whole, same_types, types, Context, State, HasTypes}
use Rattle.wasm_execution.specs.IntegerRow.{if_typed, integer_row}
use Rattle.wasm_execution.specs.Agreement.{EndsTyped}
use Rattle.wasm_execution.specs.RowLemmas.{some_if, and_then_some, map_some, same_types_is}
use Rattle.wasm_execution.specs.TypeLemmas.{whole_is, one, act_typed, then_typed, then_above_typed}
use Rattle.peephole_terms.specs.NodeKind.{IntegerType, NodeKind, node_kind, primitive_of, Own, Random, Unfold, UseGlobal, Container}
use Rattle.peephole_terms.specs.Expansion.{constant, constant_in, draws_of, draws, first_expansion_word}
use Rattle.peephole_terms.specs.Typing.{own_types, with_own_types, joined_types, types_of, types_in}
use Rattle.peephole_terms.specs.Meaning.{number_meaning, own_meaning, with_own_meaning, meaning_of, meaning}
use Rattle.peephole_terms.proofs.MeaningRows.{constant_types}

-- ---- types

-- the parts of a list's types
pub parts_of_types : (o r : Option (List PrimitiveTypeInfo)) (ts : List PrimitiveTypeInfo) → joined_types o r ≡ Some ts →
    (ks js : List PrimitiveTypeInfo) × (o ≡ Some ks) × (r ≡ Some js) × (ks ++ js ≡ ts)
parts_of_types o r ts e =
    let (ks, a, b) = and_then_some (λ ks. option_map (λ us. ks ++ us) r) o ts e in
    let (js, c, d) = map_some (λ us. ks ++ us) r ts b in
    (ks, js, a, c, d)

-- what a node that uses a global stands behind
pub that_type : (t : PrimitiveTypeInfo) (us ts : List PrimitiveTypeInfo) → if_typed (same_types us (t ∷ [])) us ≡ Some ts → (us ≡ t ∷ []) × (us ≡ ts)
that_type t us ts e = let p = some_if (same_types us (t ∷ [])) us ts e in (same_types_is us (t ∷ []) p.0, p.1)

-- ---- meanings

module _ (context : Context) where
  -- a node behind its children
  pub own_typed : {ts : List PrimitiveTypeInfo} (words : List ℕ) (k : NodeKind) (vs : List Value) (s : State) → own_types context k (types vs) ≡ Some ts →
      All IsValue vs → HasTypes context s → EndsTyped context ts (own_meaning words k vs s)
  own_typed {ts} words (Own i) vs s e hv h = act_typed h (integer_row i) vs ts hv e
  own_typed {ts} words (Random t) [] s e hv h =
      let word = first_expansion_word words in
      act_typed h (integer_row (constant t word)) [] ts hv (constant_types context t word ∙ e)
  own_typed {ts} words (UseGlobal t) vs s e hv h = let p = that_type (primitive_of t) (types vs) ts e in (p.1, hv, h)
  own_typed words Container vs s e hv h = (cc, hv, h)
  own_typed words _ vs s e hv h = absurd cc

  number_typed : (ts : List PrimitiveTypeInfo) (t : IntegerType) (o : Option ℤ) (s : State) → option_map (λ z. type_of t ∷ []) o ≡ Some ts →
      HasTypes context s → EndsTyped context ts (number_meaning t o s)
  number_typed ts t None s e h = absurd cc
  number_typed ts t (Some z) s e h = (cc, one (whole t (cast_unsigned (width_of t) z)) (whole_is t (cast_unsigned (width_of t) z)), h)

  -- what a list of terms means
  abbrev AreTyped : List ℕ → Terms Head → State → Type 0
  AreTyped words kids s = (us : List PrimitiveTypeInfo) → types_in context kids ≡ Some us → EndsTyped context us (meaning words kids s)

  node_typed : (ts : List PrimitiveTypeInfo) (words : List ℕ) (k : NodeKind) (kids : Terms Head) (s : State) → AreTyped words kids s →
      HasTypes context s → with_own_types context k kids (types_in context kids) ≡ Some ts →
      EndsTyped context ts (with_own_meaning words k kids (meaning words kids s) s)
  node_typed ts words (Unfold t) kids s below h e = number_typed ts t (constant_in t kids) s e h
  node_typed ts words k kids s below h e =
      let (us, a, b) = and_then_some (own_types context k) (types_in context kids) ts e in
      then_typed context us ts (meaning words kids s) (own_meaning (drop (length (draws kids)) words) k) (below us a)
      (λ vs m t hv hm. own_typed (drop (length (draws kids)) words) k vs m (ap (own_types context k) t ∙ b) hv hm)

  mutual
    pub typed_of : (list : List PrimitiveTypeInfo) (t : Term Head) (words : List ℕ) (s : State) → types_of context t ≡ Some list →
        HasTypes context s → EndsTyped context list (meaning_of words t s)
    typed_of list absent words s e h = absurd cc
    typed_of list (node x kids) words s e h = node_typed list words (node_kind x) kids s (λ us a. typed_in us kids words s a h) h e

    pub typed_in : (list : List PrimitiveTypeInfo) (ts : Terms Head) (words : List ℕ) (s : State) → types_in context ts ≡ Some list →
        HasTypes context s → EndsTyped context list (meaning words ts s)
    typed_in list no_terms words s e h = (cc, All-nil IsValue, h)
    typed_in list (t ▸ ts) words s e h =
        let (ks, js, a, b, c) = parts_of_types (types_of context t) (types_in context ts) list e in
        let after = drop (length (draws_of t)) words in
        subst (λ x. EndsTyped context x (meaning words (t ▸ ts) s)) c (then_above_typed context ks js (meaning_of words t s) (meaning after ts)
        (typed_of ks t words s a h) (λ m k. typed_in js ts after m b k))
