-- A typed term's instructions do what the term means.
use Rattle.std.proofs.Common.{◌≡◌, ℕ, ℤ, zero, suc, ◌+◌, ◌-◌, ◌≤◌, Bool, true, false, cond, List, [], ◌∷◌, ◌++◌, length, map, drop, Option}
use Rattle.std.proofs.Common.{Some, None, Result, Ok}
use Rattle.std.proofs.Common.{Err, refl, sym, ap, ◌∙◌, subst, arith, append_assoc, append-nil}
use Rattle.std.specs.Prelude.{nat_le, slice_get, set as slice_set, option_map}
use Rattle.std.specs.List.{All}
use Rattle.std.proofs.lemmas.List.{drop_at, drop-drop, length-map, map-append}
use Rattle.wasm_code.specs.Instruction.{Instruction}
use Rattle.wasm_types.specs.declared.types.PrimitiveTypeInfo.{PrimitiveTypeInfo}
use Rattle.mutate_base.specs.declared.error.Error.{Error}
use Rattle.mutate_base.specs.declared.error.Error.TheVariants.{GlobalIndex}
use Rattle.peephole_lang.specs.declared.lang.Head.{Head}
use Rattle.peephole_lang.specs.Term.{Term, Terms, absent, node, no_terms, ◌▸◌}
use Rattle.wasm_execution.specs.Values.{type_of, Value, IsValue, types, Context, context_in, State, HasTypes, Outcome, Ends, Traps, Stuck, then_run, above}
use Rattle.wasm_execution.specs.IntegerRow.{operand_count, integer_row, row_types}
use Rattle.wasm_execution.specs.Machine.{act, run}
use Rattle.wasm_execution.specs.Agreement.{with_globals, SameOutcome, EndsTyped}
use Rattle.wasm_execution.specs.OutcomeLemmas.{above_above, run_append, run_one, types_append, length_types}
use Rattle.wasm_execution.specs.RowLemmas.{and_then_some, row_types_count, step_at}
use Rattle.wasm_execution.specs.StateLemmas.{own_is, own_front, with_more, above_more, Follows}
use Rattle.wasm_execution.specs.SameLemmas.{act_follows}
use Rattle.peephole_terms.specs.NodeKind.{NumberType, IntegerType, NodeKind, node_kind, primitive_of, Own, Random, Unfold, UseGlobal, Container}
use Rattle.peephole_terms.specs.Expansion.{constant, sum, global_set_code, global_get_code, constant_in, unfolded_sum_of, through_global}
use Rattle.peephole_terms.specs.Expansion.{joined_code, first_expansion_word}
use Rattle.peephole_terms.specs.Expansion.{own_code, with_own_code, own_requests, with_own_requests, requests_of, requests, draws_of, draws, expansion_of}
use Rattle.peephole_terms.specs.Expansion.{expansion}
use Rattle.peephole_terms.specs.Typing.{own_types, with_own_types, types_of, types_in}
use Rattle.peephole_terms.specs.Meaning.{number_meaning, own_meaning, with_own_meaning, meaning_of, meaning}
use Rattle.peephole_terms.specs.StackCode.{IsStackCode}
use Rattle.peephole_terms.proofs.MeaningRows.{constant_types, run_sum_of, run_through_global}
use Rattle.peephole_terms.proofs.MeaningLemmas.{parts_of_types, that_type, typed_of, typed_in}

-- ---- requested globals

-- from `next` on the globals have the wanted types
abbrev pub Provided : ℕ → List NumberType → List PrimitiveTypeInfo → Type 0
Provided next wanted globals = (rest : List PrimitiveTypeInfo) × (drop next globals ≡ map primitive_of wanted ++ rest)

split_wanted : (ks js : List NumberType) (rest : List PrimitiveTypeInfo) →
    map primitive_of (ks ++ js) ++ rest ≡ map primitive_of ks ++ (map primitive_of js ++ rest)
split_wanted ks js rest = ap (λ (x : List PrimitiveTypeInfo). x ++ rest) (map-append primitive_of ks js)
    ∙ append_assoc (map primitive_of ks) (map primitive_of js) rest

pub provided_left : (next : ℕ) (ks js : List NumberType) (globals : List PrimitiveTypeInfo) → Provided next (ks ++ js) globals →
    Provided next ks globals
provided_left next ks js globals h = (map primitive_of js ++ h.0, h.1 ∙ split_wanted ks js h.0)

pub provided_right : (next : ℕ) (ks js : List NumberType) (globals : List PrimitiveTypeInfo) → Provided next (ks ++ js) globals →
    Provided (next + length ks) js globals
provided_right next ks js globals h = (
  h.0,
  sym (drop-drop (length ks) next globals) ∙ (ap (drop (length ks)) (h.1 ∙ split_wanted ks js h.0)
      ∙ drop_at (map primitive_of ks) (map primitive_of js ++ h.0) (length ks) (length-map ks primitive_of)),
)

pub drop_get : {X : Type 0} (n : ℕ) (xs ys : List X) (x : X) → drop n xs ≡ x ∷ ys → slice_get xs n ≡ Some x
drop_get zero [] ys x e = absurd cc
drop_get zero (z ∷ xs) ys x e = cc
drop_get (suc n) [] ys x e = absurd cc
drop_get (suc n) (z ∷ xs) ys x e = drop_get n xs ys x e

-- a global behind those of a state
set_behind : {X : Type 0} (xs ys : List X) (i : ℕ) (x : X) → length xs ≤ i → slice_set (xs ++ ys) i x ≡ xs ++ slice_set ys (i - length xs) x
set_behind [] ys i x l = let e : i ≡ i - 0 = omega arith in ap (λ k. slice_set ys k x) e
set_behind (y ∷ xs) ys zero x l = absurd (omega arith)
set_behind (y ∷ xs) ys (suc i) x l =
    let e : i - length xs ≡ suc i - suc (length xs) = omega arith in
    ap (λ zs. y ∷ zs) (set_behind xs ys i x (omega arith) ∙ ap (λ k. xs ++ slice_set ys k x) e)

get_behind : {X : Type 0} (xs ys : List X) (i : ℕ) → length xs ≤ i → slice_get (xs ++ ys) i ≡ slice_get ys (i - length xs)
get_behind [] ys i l = let e : i ≡ i - 0 = omega arith in ap (slice_get ys) e
get_behind (y ∷ xs) ys zero l = absurd (omega arith)
get_behind (y ∷ xs) ys (suc i) l =
    let e : i - length xs ≡ suc i - suc (length xs) = omega arith in get_behind xs ys i (omega arith) ∙ ap (slice_get ys) e

set_types : (vs : List Value) (i : ℕ) (v : Value) → slice_get (types vs) i ≡ Some v.type → types (slice_set vs i v) ≡ types vs
set_types [] i v e = refl
set_types (u ∷ vs) zero v e = let k : u.type ≡ v.type = cc in ap (λ t. t ∷ types vs) (sym k)
set_types (u ∷ vs) (suc i) v e = ap (λ ts. u.type ∷ ts) (set_types vs i v e)

-- ---- outcomes

-- what runs behind an outcome
pub then_follows : (context : Context) (us : List PrimitiveTypeInfo) (more stack : List Value) (o r : Outcome) (f g : List Value → State → Outcome) →
    Follows more (above stack o) r → EndsTyped context us o →
    ((vs : List Value) (s : State) (after : List Value) → types vs ≡ us → All IsValue vs → HasTypes context s → types after ≡ types more →
    Follows after (above stack (f vs s)) (g (stack ++ vs) (with_globals after s))) →
    Follows more (above stack (then_run o f)) (then_run r g)
then_follows context us more stack (Ends vs s) r f g h typed next =
    let n = next vs s h.0 typed.0 typed.1 typed.2 h.1 in (n.0, n.1 ∙ h.1, ap (λ x. then_run x g) h.2 ∙ n.2)
then_follows context us more stack (Traps c gs q) r f g h typed next = (h.0, h.1, ap (λ x. then_run x g) h.2)
then_follows context us more stack Stuck r f g h typed next = absurd typed

-- ---- codes

pub ok_is : (x y : List Instruction) → ◌≡◌ {A = Result (List Instruction) Error} (Ok x) (Ok y) → x ≡ y
ok_is x y e = cc

-- the parts of a code
pub joined_ok : (a b : Result (List Instruction) Error) (code : List Instruction) → joined_code a b ≡ Ok code →
    (front back : List Instruction) × (a ≡ Ok front) × (b ≡ Ok back) × (front ++ back ≡ code)
joined_ok (Ok front) (Ok back) code e = (front, back, refl, refl, cc)
joined_ok (Ok front) (Err d) code e = absurd cc
joined_ok (Err d) b code e = absurd cc

pub through_code : (g : ℕ) (code : List Instruction) → through_global g ≡ Ok code → global_set_code g ∷ global_get_code g ∷ [] ≡ code
through_code g code e = go (nat_le g 4294967295) e
  where
    go : (b : Bool) → cond b (Ok (global_set_code g ∷ global_get_code g ∷ [])) (Err GlobalIndex) ≡ Ok code → global_set_code g ∷ global_get_code g ∷ [] ≡ code
    go true e = cc
    go false e = absurd cc

-- ---- each kind of node

module _ (context : Context) where
  abbrev own : ℕ
  own = length context.info.globals

  -- The state has the context's types; from `next` on the further globals have the wanted ones.
  pub record Meet (next : ℕ) (wanted : List NumberType) (s : State) (more : List Value) : Type 0 where
    pub typed : HasTypes context s
    pub behind : length context.info.globals ≤ next
    pub provided : Provided next wanted (context.info.globals ++ types more)

  front_meets : {next : ℕ} {s : State} {more : List Value} (ks js : List NumberType) → Meet next (ks ++ js) s more → Meet next ks s more
  front_meets {next} {s} {more} ks js h = record {
    typed = h.typed;
    behind = h.behind;
    provided = provided_left next ks js (context.info.globals ++ types more) h.provided;
  }

  back_meets : {next : ℕ} {s s' : State} {more after : List Value} (ks js : List NumberType) → Meet next (ks ++ js) s more →
      HasTypes context s' → types after ≡ types more → Meet (next + length ks) js s' after
  back_meets {next} {more = more} ks js h typed e = record {
    typed = typed;
    behind = let l = h.behind in omega arith;
    provided = rw e (provided_right next ks js (context.info.globals ++ types more) h.provided);
  }

  -- a global that is set and read, behind one value
  through_follows : (t : PrimitiveTypeInfo) (g : ℕ) (stack vs : List Value) (s : State) (more : List Value) → types vs ≡ t ∷ [] →
      slice_get (context.info.globals ++ types more) g ≡ Some t → length context.info.globals ≤ g → HasTypes context s →
      Follows more (Ends (stack ++ vs) s) (run (global_set_code g ∷ global_get_code g ∷ []) (stack ++ vs) (with_globals more s))
  through_follows t g stack (v ∷ []) s more e there l h =
      let one : v.type ≡ t = cc in
      let count : length s.globals ≡ length context.info.globals = sym (length_types s.globals) ∙ ap length h.globals_are in
      let place = g - length s.globals in
      let least : length s.globals ≤ g = omega arith in
      let same : g - length context.info.globals ≡ place = omega arith in
      let typed : slice_get (types more) place ≡ Some v.type =
      ap (slice_get (types more)) (sym same) ∙ (sym (get_behind context.info.globals (types more) g l) ∙ (there ∙ ap Some (sym one))) in
      let all : types (s.globals ++ more) ≡ context.info.globals ++ types more =
      types_append s.globals more ∙ ap (λ (ts : List PrimitiveTypeInfo). ts ++ types more) h.globals_are in (
        slice_set more place v,
        set_types more place v typed,
        run_through_global t g v stack (with_globals more s) one (ap (λ ts. slice_get ts g) all ∙ there) ∙
            ap (λ (gs : List Value). Ends (stack ++ v ∷ []) (record s { globals = gs })) (set_behind s.globals more g v least),
      )
  through_follows t g stack _ s more e there l h = absurd cc

  -- an instruction behind its operands
  instruction_follows : {ts : List PrimitiveTypeInfo} {code : List Instruction} {s : State} (more : List Value) (i : Instruction)
      (stack vs : List Value) → All IsValue vs → row_types context (integer_row i) (types vs) ≡ Some ts → i ∷ [] ≡ code → HasTypes context s →
      Follows more (above stack (act (integer_row i) vs s)) (run code (stack ++ vs) (with_globals more s))
  instruction_follows {ts} {code} {s} more i stack vs hv e x h =
      let row = integer_row i in
      let m = with_globals more s in
      let n : operand_count m.world.info row ≡ length vs =
      ap (λ info. operand_count info row) h.info_is ∙ (row_types_count context row (types vs) ts e ∙ length_types vs) in
      let f = act_follows h more row vs ts hv e in (
        f.0,
        f.1,
        ap (λ y. run y (stack ++ vs) m) (sym x) ∙ (run_one i row (stack ++ vs) m refl ∙ (step_at row stack vs m n ∙
            (ap (above stack) f.2 ∙ above_more stack f.0 (act row vs s)))),
      )

  -- a node behind its children's values
  own_follows : {ts : List PrimitiveTypeInfo} {next : ℕ} {code : List Instruction} {s : State} {more : List Value} (k : NodeKind) (words : List ℕ)
      (stack vs : List Value) → All IsValue vs → own_types context k (types vs) ≡ Some ts → own_code next words k ≡ Ok code →
      Meet next (own_requests k) s more → Follows more (above stack (own_meaning words k vs s)) (run code (stack ++ vs) (with_globals more s))
  own_follows {ts} {next} {code} {s} {more} (Own i) words stack vs hv e x h = instruction_follows more i stack vs hv e (ok_is (i ∷ []) code x) h.typed
  own_follows {ts} {next} {code} {s} {more} (Random t) words stack [] hv e x h =
      let word = first_expansion_word words in
      instruction_follows more (constant t word) stack [] hv (constant_types context t word ∙ e) (ok_is (constant t word ∷ []) code x) h.typed
  own_follows {next = next} {code = code} {s = s} {more = more} (UseGlobal t) words stack vs hv e x h =
      let p = that_type (primitive_of t) (types vs) _ e in
      let there = drop_get next (context.info.globals ++ types more) h.provided.0 (primitive_of t) h.provided.1 in
      subst (λ y. Follows more (Ends (stack ++ vs) s) (run y (stack ++ vs) (with_globals more s))) (through_code next code x)
      (through_follows (primitive_of t) next stack vs s more p.0 there h.behind h.typed)
  own_follows {code = code} {s = s} {more = more} Container words stack vs hv e x h =
      subst (λ y. Follows more (Ends (stack ++ vs) s) (run y (stack ++ vs) (with_globals more s))) (ok_is [] code x) (more, refl, refl)
  own_follows _ words stack vs hv e x h = absurd cc

  unfold_follows : {ts : List PrimitiveTypeInfo} {code : List Instruction} (t : IntegerType) (o : Option ℤ) (word : ℕ) (stack : List Value) (s : State)
      (more : List Value) → option_map (λ z. type_of t ∷ []) o ≡ Some ts → unfolded_sum_of t word o ≡ Ok code →
      Follows more (above stack (number_meaning t o s)) (run code stack (with_globals more s))
  unfold_follows t None word stack s more e x = absurd cc
  unfold_follows {code = code} t (Some z) word stack s more e x = (
    more,
    refl,
    ap (λ y. run y stack (with_globals more s)) (sym (ok_is (sum t word z) code x)) ∙ run_sum_of t word z stack (with_globals more s),
  )

  -- ---- terms

  -- what a list of terms is run as
  abbrev AreFollowed : Terms Head → Type 0
  AreFollowed ts = (list : List PrimitiveTypeInfo) (next : ℕ) (code : List Instruction) (s : State) (more : List Value) (words : List ℕ)
      (stack : List Value) → types_in context ts ≡ Some list → expansion next words ts ≡ Ok code → Meet next (requests ts) s more →
      Follows more (above stack (meaning words ts s)) (run code stack (with_globals more s))

  node_follows : {list : List PrimitiveTypeInfo} {next : ℕ} {code : List Instruction} {s : State} {more : List Value} (k : NodeKind) (kids : Terms Head)
      (words : List ℕ) (stack : List Value) → AreFollowed kids → with_own_types context k kids (types_in context kids) ≡ Some list →
      with_own_code next words k kids (expansion next words kids) ≡ Ok code → Meet next (with_own_requests k (requests kids)) s more →
      Follows more (above stack (with_own_meaning words k kids (meaning words kids s) s)) (run code stack (with_globals more s))
  node_follows {s = s} {more = more} (Unfold t) kids words stack below e x h =
      unfold_follows t (constant_in t kids) (first_expansion_word words) stack s more e x
  node_follows {list} {next} {code} {s} {more} k kids words stack below e x h =
      let left = drop (length (draws kids)) words in
      let m = with_globals more s in
      let (us, a, b) = and_then_some (own_types context k) (types_in context kids) list e in
      let (front, back, c, d, f) = joined_ok (expansion next words kids) (own_code (next + length (requests kids)) left k) code x in
      let it : run code stack m ≡ then_run (run front stack m) (run back) = ap (λ y. run y stack m) (sym f) ∙ run_append front back stack m in
      rw it (then_follows context us more stack (meaning words kids s) (run front stack m) (own_meaning left k) (run back)
      (below us next front s more words stack a c (front_meets (requests kids) (own_requests k) h))
      (typed_in context us kids words s a h.typed)
      (λ vs s' after t hv hs ha. own_follows k left stack vs hv (ap (own_types context k) t ∙ b) d
      (back_meets (requests kids) (own_requests k) h hs ha)))

  mutual
    follows_of : {list : List PrimitiveTypeInfo} {next : ℕ} {code : List Instruction} {s : State} {more : List Value} (t : Term Head) (words : List ℕ)
        (stack : List Value) → types_of context t ≡ Some list → expansion_of next words t ≡ Ok code → Meet next (requests_of t) s more →
        Follows more (above stack (meaning_of words t s)) (run code stack (with_globals more s))
    follows_of absent words stack e x h = absurd cc
    follows_of (node h kids) words stack e x meet = node_follows (node_kind h) kids words stack (follows_in kids) e x meet

    follows_in : (ts : Terms Head) → AreFollowed ts
    follows_in no_terms list next code s more words stack e x h =
        subst (λ y. Follows more (Ends (stack ++ []) s) (run y stack (with_globals more s))) (ok_is [] code x)
        (more, refl, ap (λ (y : List Value). Ends y (with_globals more s)) (sym (append-nil stack)))
    follows_in (t ▸ ts) list next code s more words stack e x h =
        let left = drop (length (draws_of t)) words in
        let m = with_globals more s in
        let (ks, js, a, b, c) = parts_of_types (types_of context t) (types_in context ts) list e in
        let (front, back, d, f, q) = joined_ok (expansion_of next words t) (expansion (next + length (requests_of t)) left ts) code x in
        let it : run code stack m ≡ then_run (run front stack m) (run back) = ap (λ y. run y stack m) (sym q) ∙ run_append front back stack m in
        rw it (then_follows context ks more stack (meaning_of words t s) (run front stack m) (λ vs s. above vs (meaning left ts s)) (run back)
        (follows_of t words stack a d (front_meets (requests_of t) (requests ts) h)) (typed_of context ks t words s a h.typed)
        (λ vs s' after k hv hs ha. subst (λ x. Follows after x (run back (stack ++ vs) (with_globals after s')))
        (above_above stack vs (meaning left ts s')) (follows_in ts js (next + length (requests_of t)) back s' after left (stack ++ vs) b f
        (back_meets (requests_of t) (requests ts) h hs ha))))

-- ---- the law

-- with requested globals behind those of the module
pub code_follows : (context : Context) (list more : List PrimitiveTypeInfo) (t : Term Head) (words : List ℕ) (code : List Instruction) →
    types_of context t ≡ Some list → expansion_of (length context.info.globals) words t ≡ Ok code → (stack : List Value) (s : State)
    (requested : List Value) → HasTypes context s → types requested ≡ map primitive_of (requests_of t) ++ more →
    Follows requested (above stack (meaning_of words t s)) (run code stack (with_globals requested s))
code_follows context list more t words code e x stack s requested h q =
    follows_of context t words stack e x (record {
      typed = h;
      behind = omega arith;
      provided = (
        more,
        ap (λ (ts : List PrimitiveTypeInfo). drop (length context.info.globals) (context.info.globals ++ ts)) q
            ∙ drop_at context.info.globals (map primitive_of (requests_of t) ++ more) (length context.info.globals) refl,
      );
    })

same_follows : (context : Context) (ts : List PrimitiveTypeInfo) (stack more : List Value) (o r : Outcome) → EndsTyped context ts o →
    Follows more (above stack o) r → SameOutcome (above stack o) r
same_follows context ts stack more o r typed h = subst (SameOutcome (above stack o)) (sym h.2) (go o typed)
  where
    go : (o : Outcome) → EndsTyped context ts o → SameOutcome (above stack o) (with_more h.0 (above stack o))
    go (Ends vs s) typed = (refl, (refl, own_is typed.2 ∙ sym (own_front typed.2 h.0), refl, refl))
    go (Traps c gs q) typed = (refl, refl, refl)
    go Stuck typed = typed

pub stack_code : IsStackCode
stack_code info words t code x locals list more e stack s requested h q =
    let context = context_in info locals in
    same_follows context list stack requested (meaning_of words t s) (run code stack (with_globals requested s)) (typed_of context list t words s e h)
    (code_follows context list more t words code e x stack s requested h q)
