-- A typed term's code is made of typed instructions, one after another: whatever holds of these holds of it; so it is valid on every frame, and pushes the
-- term's types.
use Rattle.std.proofs.Common.{◌≡◌, ℕ, ℤ, ◌+◌, List, [], ◌∷◌, ◌++◌, length, drop, Option, Some, None, Ok, refl, sym, ap, ◌∙◌, subst, append-nil}
use Rattle.std.specs.Prelude.{slice_get, option_map, option_and_then}
use Rattle.wasm_code.specs.Instruction.{Instruction}
use Rattle.wasm_code.specs.Table.{row_at, table}
use Rattle.wasm_types.specs.declared.types.PrimitiveTypeInfo.{PrimitiveTypeInfo}
use Rattle.peephole_lang.specs.declared.lang.Head.{Head}
use Rattle.peephole_lang.specs.Term.{Term, Terms, absent, node, no_terms, ◌▸◌}
use Rattle.wasm_execution.specs.declared.integer.IntegerType.TheVariants as integer
use Rattle.wasm_execution.specs.Values.{type_of, same_type, Context, global}
use Rattle.wasm_execution.specs.Integer.{binary, add}
use Rattle.wasm_execution.specs.IntegerRow as rows
use Rattle.wasm_execution.specs.IntegerRow.{IntegerRow, if_typed, row_types, integer_row}
use Rattle.wasm_execution.specs.RowLemmas.{and_then_some, if_typed_is, same_type_self}
use Rattle.wasm_equivalence.specs.validation.Algorithm.{Frame, check_code}
use Rattle.wasm_equivalence.specs.validation.StaysValid.{with_types, Pushes, TypedCodePushes, PushesOnFrames, RowTypesStay}
use Rattle.peephole_terms.specs.NodeKind.{IntegerType, NodeKind, node_kind, number_type_of, primitive_of, Own, Random, Unfold, UseGlobal, Container}
use Rattle.peephole_terms.specs.Expansion.{constant, rest_of, add_of, sum, global_set_code, global_get_code, constant_in, unfolded_sum_of, first_expansion_word}
use Rattle.peephole_terms.specs.Expansion.{own_code, with_own_code, own_requests, with_own_requests, requests_of, requests, draws_of, draws, expansion_of}
use Rattle.peephole_terms.specs.Expansion.{expansion}
use Rattle.peephole_terms.specs.Typing.{own_types, with_own_types, types_of, types_in}
use Rattle.peephole_terms.proofs.MeaningRows.{constant_types, rest_types, add_row}
use Rattle.peephole_terms.proofs.MeaningLemmas.{parts_of_types, that_type}
use Rattle.peephole_terms.proofs.StackCodeLemmas.{Provided, provided_left, provided_right, drop_get, ok_is, joined_ok, through_code}

set_row : (g : ℕ) → integer_row (global_set_code g) ≡ rows.set (global g)
unfolding integer_row row_at table
set_row g = refl

get_row : (g : ℕ) → integer_row (global_get_code g) ≡ rows.get (global g)
unfolding integer_row row_at table
get_row g = refl

adds : (context : Context) (t : IntegerType) → row_types context (rows.operation (binary t add)) (type_of t ∷ type_of t ∷ []) ≡ Some (type_of t ∷ [])
adds context integer.I32 = refl
adds context integer.I64 = refl

number_type : (t : IntegerType) → primitive_of (number_type_of t) ≡ type_of t
number_type integer.I32 = refl
number_type integer.I64 = refl

-- ---- typed instructions, one after another

-- what is known of them
pub record TypedRowsCheck : Type 0 where
  pub push : TypedCodePushes
  pub on : PushesOnFrames
  pub stay : RowTypesStay

module _ (law : TypedRowsCheck) (context all : Context)
    (weaker : (row : IntegerRow) (ts us : List PrimitiveTypeInfo) → row_types context row ts ≡ Some us → row_types all row ts ≡ Some us) where
  -- in the wider context the code pushes these types in the place of those
  abbrev Push : List Instruction → (ts us : List PrimitiveTypeInfo) → Type 0
  Push code ts us = Pushes all code ts us

  row_pushes : (i : Instruction) (row : IntegerRow) (ts us : List PrimitiveTypeInfo) → integer_row i ≡ row → row_types all row ts ≡ Some us →
      Push (i ∷ []) ts us
  row_pushes i row ts us is e = law.push.row all i ts us (ap (λ r. row_types all r ts) is ∙ e)

  -- ---- nodes

  sum_pushes : (t : IntegerType) (word : ℕ) (z : ℤ) → Push (sum t word z) [] (type_of t ∷ [])
  sum_pushes t word z =
      let one = type_of t ∷ [] in
      let first : Push (constant (number_type_of t) word ∷ []) [] one =
      row_pushes (constant (number_type_of t) word) (integer_row (constant (number_type_of t) word)) [] one refl
      (constant_types all (number_type_of t) word ∙ ap (λ (u : PrimitiveTypeInfo). Some (u ∷ [])) (number_type t)) in
      let second : Push (rest_of t word z ∷ []) [] one =
      row_pushes (rest_of t word z) (integer_row (rest_of t word z)) [] one refl (rest_types all t word z) in
      let third : Push (add_of t ∷ []) (type_of t ∷ type_of t ∷ []) one =
      row_pushes (add_of t) (rows.operation (binary t add)) (type_of t ∷ type_of t ∷ []) one (add_row t) (adds all t) in
      law.push.follow all (constant (number_type_of t) word ∷ []) (rest_of t word z ∷ add_of t ∷ []) [] one one first
      (law.push.follow all (rest_of t word z ∷ []) (add_of t ∷ []) one (type_of t ∷ type_of t ∷ []) one
      (law.push.above all (rest_of t word z ∷ []) one [] one second) third)

  through_pushes : (g : ℕ) (t : PrimitiveTypeInfo) → slice_get all.info.globals g ≡ Some t →
      Push (global_set_code g ∷ global_get_code g ∷ []) (t ∷ []) (t ∷ [])
  through_pushes g t e =
      let sets : row_types all (rows.set (global g)) (t ∷ []) ≡ Some [] =
      ap (option_and_then (λ u. if_typed (same_type t u) [])) e ∙ if_typed_is (same_type t t) [] (same_type_self t) in
      let gets : row_types all (rows.get (global g)) [] ≡ Some (t ∷ []) = ap (option_and_then (λ u. Some (u ∷ []))) e in
      law.push.follow all (global_set_code g ∷ []) (global_get_code g ∷ []) (t ∷ []) [] (t ∷ [])
      (row_pushes (global_set_code g) (rows.set (global g)) (t ∷ []) [] (set_row g) sets)
      (row_pushes (global_get_code g) (rows.get (global g)) [] (t ∷ []) (get_row g) gets)

  own_pushes : (k : NodeKind) (words : List ℕ) (ts us : List PrimitiveTypeInfo) (next : ℕ) (code : List Instruction) →
      own_types context k ts ≡ Some us → own_code next words k ≡ Ok code → Provided next (own_requests k) all.info.globals → Push code ts us
  own_pushes (Own i) words ts us next code e x h =
      subst (λ y. Push y ts us) (ok_is (i ∷ []) code x) (row_pushes i (integer_row i) ts us refl (weaker (integer_row i) ts us e))
  own_pushes (Random t) words [] us next code e x h =
      let i = constant t (first_expansion_word words) in
      subst (λ y. Push y [] us) (ok_is (i ∷ []) code x) (row_pushes i (integer_row i) [] us refl (constant_types all t (first_expansion_word words) ∙ e))
  own_pushes (Random t) words (v ∷ vs) us next code e x h = absurd cc
  own_pushes (UseGlobal t) words ts us next code e x h =
      let (one, same) = that_type (primitive_of t) ts us e in
      let there : slice_get all.info.globals next ≡ Some (primitive_of t) = drop_get next all.info.globals h.0 (primitive_of t) h.1 in
      let through : Push code (primitive_of t ∷ []) (primitive_of t ∷ []) =
      subst (λ y. Push y (primitive_of t ∷ []) (primitive_of t ∷ [])) (through_code next code x) (through_pushes next (primitive_of t) there) in
      subst (λ (y : List PrimitiveTypeInfo). Push code ts y) same
      (subst (λ (y : List PrimitiveTypeInfo). Push code y y) (sym one) through)
  own_pushes Container words ts us next code e x h =
      subst (λ (y : List Instruction). Push y ts us) (ok_is [] code x) (subst (λ (y : List PrimitiveTypeInfo). Push [] ts y) (cc) (law.push.nothing all ts))
  own_pushes _ words ts us next code e x h = absurd cc

  unfold_pushes : {us : List PrimitiveTypeInfo} {code : List Instruction} (t : IntegerType) (o : Option ℤ) (word : ℕ) →
      option_map (λ z. type_of t ∷ []) o ≡ Some us → unfolded_sum_of t word o ≡ Ok code → Push code [] us
  unfold_pushes t None word e x = absurd cc
  unfold_pushes {us} {code} t (Some z) word e x =
      subst (λ (y : List Instruction). Push y [] us) (ok_is (sum t word z) code x)
      (let same : type_of t ∷ [] ≡ us = cc in subst (λ (y : List PrimitiveTypeInfo). Push (sum t word z) [] y) same (sum_pushes t word z))

  -- ---- terms

  abbrev PushAll : Terms Head → Type 0
  PushAll ts = (list : List PrimitiveTypeInfo) (next : ℕ) (code : List Instruction) (words : List ℕ) →
      types_in context ts ≡ Some list → expansion next words ts ≡ Ok code → Provided next (requests ts) all.info.globals → Push code [] list

  node_pushes : (k : NodeKind) (kids : Terms Head) (words : List ℕ) (list : List PrimitiveTypeInfo) (next : ℕ) (code : List Instruction) →
      PushAll kids → with_own_types context k kids (types_in context kids) ≡ Some list →
      with_own_code next words k kids (expansion next words kids) ≡ Ok code → Provided next (with_own_requests k (requests kids)) all.info.globals →
      Push code [] list
  node_pushes (Unfold t) kids words list next code below e x h = unfold_pushes t (constant_in t kids) (first_expansion_word words) e x
  node_pushes k kids words list next code below e x h =
      let left = drop (length (draws kids)) words in
      let (us, a, b) = and_then_some (own_types context k) (types_in context kids) list e in
      let (front, back, c, d, f) = joined_ok (expansion next words kids) (own_code (next + length (requests kids)) left k) code x in
      subst (λ y. Push y [] list) f (law.push.follow all front back [] us list
      (below us next front words a c (provided_left next (requests kids) (own_requests k) all.info.globals h))
      (own_pushes k left us list (next + length (requests kids)) back b d (provided_right next (requests kids) (own_requests k) all.info.globals h)))

  mutual
    term_pushes : (t : Term Head) (words : List ℕ) (list : List PrimitiveTypeInfo) (next : ℕ) (code : List Instruction) →
        types_of context t ≡ Some list → expansion_of next words t ≡ Ok code → Provided next (requests_of t) all.info.globals → Push code [] list
    term_pushes absent words list next code e x h = absurd cc
    term_pushes (node d kids) words list next code e x h = node_pushes (node_kind d) kids words list next code (terms_push kids) e x h

    terms_push : (ts : Terms Head) → PushAll ts
    terms_push no_terms list next code words e x h =
        subst (λ (y : List Instruction). Push y [] list) (ok_is [] code x)
        (let same : [] ≡ list = cc in subst (λ (y : List PrimitiveTypeInfo). Push [] [] y) same (law.push.nothing all []))
    terms_push (t ▸ ts) list next code words e x h =
        let left = drop (length (draws_of t)) words in
        let (ks, js, a, b, c) = parts_of_types (types_of context t) (types_in context ts) list e in
        let (front, back, d, f, q) = joined_ok (expansion_of next words t) (expansion (next + length (requests_of t)) left ts) code x in
        let later : Push back (ks ++ []) (ks ++ js) =
        law.push.above all back ks [] js (terms_push ts js (next + length (requests_of t)) back left b f
        (provided_right next (requests_of t) (requests ts) all.info.globals h)) in
        subst (λ (y : List Instruction). Push y [] list) q
        (subst (λ (y : List PrimitiveTypeInfo). Push (front ++ back) [] y) c
        (law.push.follow all front back [] ks (ks ++ js) (term_pushes t words ks next front a d
        (provided_left next (requests_of t) (requests ts) all.info.globals h))
        (subst (λ y. Push back y (ks ++ js)) (append-nil ks) later)))

  -- On every frame the term's code is valid, and pushes its types.
  pub typed_term : (t : Term Head) (words : List ℕ) (list : List PrimitiveTypeInfo) (code : List Instruction) → types_of context t ≡ Some list →
      expansion_of (length context.info.globals) words t ≡ Ok code → Provided (length context.info.globals) (requests_of t) all.info.globals →
      (f : Frame) → check_code all code f ≡ Some (with_types list f)
  typed_term t words list code e x h =
      law.on all code list (term_pushes t words list (length context.info.globals) code e x h)
