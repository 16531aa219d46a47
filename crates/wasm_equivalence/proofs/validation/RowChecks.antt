-- A row on the checker's stack: on known operands it is valid where it has types, and it stays valid with further globals.
use Rattle.std.proofs.Common.{◌≡◌, ℕ, ◌+◌, ◌-◌, Bool, true, false, List, [], ◌∷◌, ◌++◌, length, drop, Option, Some, None, refl, sym, ap}
use Rattle.std.proofs.Common.{ap₂, ◌∙◌, arith, append_assoc, append-nil, length-append}
use Rattle.std.specs.Prelude.{◌&&◌, ◌||◌, replicate, slice_get, option_map, option_and_then, if◌then◌else◌}
use Rattle.std.proofs.lemmas.Bool.{le-leb}
use Rattle.std.proofs.lemmas.List.{take_at, drop_at, map-append, length-map}
use Rattle.wasm_code.specs.Instruction.{Instruction}
use Rattle.wasm_code.specs.Table.{row_at, table}
use Rattle.wasm_types.specs.Module.{Module}
use Rattle.wasm_types.specs.declared.types.PrimitiveTypeInfo.{PrimitiveTypeInfo}
use Rattle.wasm_types.specs.declared.types.PrimitiveTypeInfo.TheVariants as primitive
use Rattle.wasm_types.specs.declared.types.TypeInfo.{TypeInfo}
use Rattle.wasm_types.specs.declared.types.TypeInfo.TheVariants.{Func, Other}
use Rattle.wasm_execution.specs.OtherRow.{Operand, OtherType, names_in, other_type}
use Rattle.wasm_execution.specs.Values.{type_of, same_type, same_types, accepts, accept, results_on, foreign_call, function_results}
use Rattle.wasm_execution.specs.Values.{asked_types, Context, Variable, local, global}
use Rattle.wasm_execution.specs.IntegerRow.{IntegerRow, constant, operation, get, set, tee, discard, select, nop, other, operand_count}
use Rattle.wasm_execution.specs.IntegerRow.{if_typed, row_types, variable_type, is_numeric, integer_row}
use Rattle.wasm_execution.specs.RowLemmas.{and_then_some, map_some, same_type_is, row_types_count}
use Rattle.wasm_execution.specs.StateLemmas.{get_front}
use Rattle.wasm_equivalence.specs.control.Blocks.{function_arity, is_arity}
use Rattle.wasm_equivalence.specs.control.Wider.{wider}
use Rattle.wasm_equivalence.specs.validation.Algorithm.{OperandEntry, may_be, all_may_be, take_all, known, other_entries, row_entries}
use Rattle.wasm_equivalence.specs.validation.Algorithm.{Frame, can_pop, popped, with_pushed, check_row, check_code}
use Rattle.wasm_equivalence.specs.validation.StaysValid.{with_types, Pushes, KnownOperandsCheckByTypes, TypedCodePushes, PushesOnFrames, RowTypesStay}
use Rattle.wasm_equivalence.proofs.control.WiderLemmas.{count_alike}
use Rattle.wasm_equivalence.proofs.control.NumberLemmas.{same_types_self}

-- ---- known operands

if_map : {A B : Type 0} (b : Bool) (f : A → B) (x : A) → if_typed b (f x) ≡ option_map f (if_typed b x)
if_map true f x = refl
if_map false f x = refl

pub all_known : (ts us : List PrimitiveTypeInfo) → all_may_be (known ts) us ≡ same_types ts us
all_known [] [] = refl
all_known [] (u ∷ us) = refl
all_known (t ∷ ts) [] = refl
all_known (t ∷ ts) (u ∷ us) = ap (λ b. same_type t u && b) (all_known ts us)

take_known : (os : List Operand) (ts : List PrimitiveTypeInfo) → take_all os (known ts) ≡ accept os ts
take_known [] [] = refl
take_known [] (t ∷ ts) = refl
take_known (o ∷ os) [] = refl
take_known (o ∷ os) (t ∷ ts) = ap (λ b. accepts o t && b) (take_known os ts)

get_known : (o : Option PrimitiveTypeInfo) →
    option_and_then (λ u. Some (known (u ∷ []))) o ≡ option_map known (option_and_then (λ u. Some (u ∷ [])) o)
get_known (Some u) = refl
get_known None = refl

set_known : (t : PrimitiveTypeInfo) (o : Option PrimitiveTypeInfo) →
    option_and_then (λ u. if_typed (same_type t u) (known [])) o ≡ option_map known (option_and_then (λ u. if_typed (same_type t u) []) o)
set_known t (Some u) = if_map (same_type t u) known []
set_known t None = refl

tee_known : (t : PrimitiveTypeInfo) (o : Option PrimitiveTypeInfo) →
    option_and_then (λ u. if_typed (same_type t u) (known (u ∷ []))) o ≡
    option_map known (option_and_then (λ u. if_typed (same_type t u) (t ∷ [])) o)
tee_known t (Some u) = go (same_type t u) refl
  where
    go : (b : Bool) → same_type t u ≡ b → if_typed b (known (u ∷ [])) ≡ option_map known (if_typed b (t ∷ []))
    go true e = ap (λ x. Some (known (x ∷ []))) (sym (same_type_is t u e))
    go false e = refl
tee_known t None = refl

select_known : (t u c : PrimitiveTypeInfo) →
    if_typed (is_numeric t && (is_numeric u && (same_type u t && same_type c primitive.I32))) (known (t ∷ [])) ≡
    option_map known (if_typed (is_numeric t && same_types (u ∷ c ∷ []) (t ∷ primitive.I32 ∷ [])) (t ∷ []))
select_known t u c = ap (λ b. if_typed b (known (t ∷ []))) (go (is_numeric t) (same_type u t) (same_type c primitive.I32) refl refl) ∙
    if_map (is_numeric t && (same_type u t && (same_type c primitive.I32 && true))) known (t ∷ [])
  where
    last : (b : Bool) → b ≡ b && true
    last true = refl
    last false = refl

    no_more : (b : Bool) → b && false ≡ false
    no_more true = refl
    no_more false = refl

    go : (a b d : Bool) → is_numeric t ≡ a → same_type u t ≡ b → a && (is_numeric u && (b && d)) ≡ a && (b && (d && true))
    go true true d e f = ap (λ x. x && d) (ap is_numeric (same_type_is u t f) ∙ e) ∙ last d
    go true false d e f = no_more (is_numeric u)
    go false b d e f = refl

other_known : (ts : List PrimitiveTypeInfo) (o : Option OtherType) →
    option_and_then (other_entries (known ts)) o ≡ option_map known (option_and_then (results_on ts) o)
other_known ts (Some t) =
    ap (λ b. if_typed b (known t.results)) (take_known t.operands ts) ∙ if_map (accept t.operands ts) known t.results
other_known ts None = refl

pub known_checks : KnownOperandsCheckByTypes
known_checks context (constant t n) [] = refl
known_checks context (constant t n) (u ∷ us) = refl
known_checks context (operation f) ts =
    ap (λ b. if_typed b (known (type_of f.result ∷ []))) (all_known ts f.operands) ∙
    if_map (same_types ts f.operands) known (type_of f.result ∷ [])
known_checks context (get x) [] = get_known (variable_type context x)
known_checks context (get x) (u ∷ us) = refl
known_checks context (set x) [] = refl
known_checks context (set x) (t ∷ []) = set_known t (variable_type context x)
known_checks context (set x) (t ∷ u ∷ us) = refl
known_checks context (tee x) [] = refl
known_checks context (tee x) (t ∷ []) = tee_known t (variable_type context x)
known_checks context (tee x) (t ∷ u ∷ us) = refl
known_checks context discard [] = refl
known_checks context discard (t ∷ []) = refl
known_checks context discard (t ∷ u ∷ us) = refl
known_checks context select [] = refl
known_checks context select (t ∷ []) = refl
known_checks context select (t ∷ u ∷ []) = refl
known_checks context select (t ∷ u ∷ c ∷ []) = select_known t u c
known_checks context select (t ∷ u ∷ c ∷ v ∷ us) = refl
known_checks context nop [] = refl
known_checks context nop (u ∷ us) = refl
known_checks context (other i) ts = other_known ts (other_type (names_in context.info i.imm) i)

-- ---- further globals

module _ (input : List ℕ) (more : List PrimitiveTypeInfo) (context : Context) where
  variable_wider : (x : Variable) (t : PrimitiveTypeInfo) → variable_type context x ≡ Some t → variable_type (wider input more context) x ≡ Some t
  variable_wider (local i) t e = e
  variable_wider (global i) t e = get_front context.info.globals more i t e

  with_variable : (f : PrimitiveTypeInfo → Option (List OperandEntry)) (x : Variable) (rs : List OperandEntry) →
      option_and_then f (variable_type context x) ≡ Some rs → option_and_then f (variable_type (wider input more context) x) ≡ Some rs
  with_variable f x rs e =
      let (t, a, b) = and_then_some f (variable_type context x) rs e in ap (option_and_then f) (variable_wider x t a) ∙ b

  pub row_wider : (row : IntegerRow) (es rs : List OperandEntry) → row_entries context row es ≡ Some rs →
      row_entries (wider input more context) row es ≡ Some rs
  row_wider (constant t n) [] rs e = e
  row_wider (constant t n) (d ∷ es) rs e = absurd cc
  row_wider (operation f) es rs e = e
  row_wider (get x) [] rs e = with_variable (λ u. Some (known (u ∷ []))) x rs e
  row_wider (get x) (d ∷ es) rs e = absurd cc
  row_wider (set x) [] rs e = absurd cc
  row_wider (set x) (d ∷ []) rs e = with_variable (λ u. if_typed (may_be d u) []) x rs e
  row_wider (set x) (d ∷ c ∷ es) rs e = absurd cc
  row_wider (tee x) [] rs e = absurd cc
  row_wider (tee x) (d ∷ []) rs e = with_variable (λ u. if_typed (may_be d u) (known (u ∷ []))) x rs e
  row_wider (tee x) (d ∷ c ∷ es) rs e = absurd cc
  row_wider discard [] rs e = absurd cc
  row_wider discard (d ∷ []) rs e = e
  row_wider discard (d ∷ c ∷ es) rs e = absurd cc
  row_wider select [] rs e = absurd cc
  row_wider select (a ∷ []) rs e = absurd cc
  row_wider select (a ∷ b ∷ []) rs e = absurd cc
  row_wider select (a ∷ b ∷ c ∷ []) rs e = e
  row_wider select (a ∷ b ∷ c ∷ d ∷ es) rs e = absurd cc
  row_wider nop [] rs e = e
  row_wider nop (d ∷ es) rs e = absurd cc
  row_wider (other i) es rs e = e

-- ---- frames

module _ (f : Frame) (ts : List PrimitiveTypeInfo) (n : ℕ) (sized : n ≡ length ts) where
  abbrev count : ℕ
  count = length (f.operands ++ known ts)

  whole : count ≡ length f.operands + n
  whole = omega (arith, length-append f.operands (known ts), length-map ts (λ (t : PrimitiveTypeInfo). Some t))

  below : length f.operands ≡ count - n
  below = let e = whole in omega arith

  none_missing : n - count ≡ 0
  none_missing = let e = whole in omega arith

  pub pops : can_pop n (with_types ts f) ≡ true
  pops = ap (λ b. b || f.unreachable) (le-leb n count (let e = whole in omega arith))

  pub popped_known : popped n (with_types ts f) ≡ known ts
  popped_known =
      ap (λ (k : ℕ). replicate k None ++ drop (count - n) (f.operands ++ known ts)) none_missing ∙
      drop_at f.operands (known ts) (count - n) below

  pub pushed_known : (es : List OperandEntry) → with_pushed n (with_types ts f) es ≡ record f { operands = f.operands ++ es }
  pushed_known es =
      ap (λ (x : List OperandEntry). record f { operands = x ++ es }) (take_at f.operands (known ts) (count - n) below)

  pub row_checks : (context : Context) (row : IntegerRow) (us : List PrimitiveTypeInfo) → operand_count context.info row ≡ n →
      row_entries context row (known ts) ≡ Some (known us) → check_row context row (with_types ts f) ≡ Some (with_types us f)
  row_checks context row us e h =
      ap (λ (k : ℕ). if can_pop k (with_types ts f) then option_map (with_pushed k (with_types ts f)) (row_entries context row (popped k (with_types ts f)))
      else None) e ∙
      (ap (λ (b : Bool). if b then option_map (with_pushed n (with_types ts f)) (row_entries context row (popped n (with_types ts f))) else None) pops ∙
      (ap (λ (x : List OperandEntry). option_map (with_pushed n (with_types ts f)) (row_entries context row x)) popped_known ∙
      (ap (option_map (with_pushed n (with_types ts f))) h ∙ ap Some (pushed_known (known us)))))

pub check_append : (context : Context) (a b : List Instruction) (f : Frame) →
    check_code context (a ++ b) f ≡ option_and_then (check_code context b) (check_code context a f)
check_append context [] b f = refl
check_append context (i ∷ a) b f = go (check_row context (integer_row i) f) (check_append context a b)
  where
    go : (o : Option Frame) → ((g : Frame) → check_code context (a ++ b) g ≡ option_and_then (check_code context b) (check_code context a g)) →
        option_and_then (check_code context (a ++ b)) o ≡ option_and_then (check_code context b) (option_and_then (check_code context a) o)
    go (Some g) next = next g
    go None next = refl

-- an instruction at the front, by its row
pub check_first : (context : Context) (i : Instruction) (code : List Instruction) (row : IntegerRow) (ts us : List PrimitiveTypeInfo) (f : Frame) →
    integer_row i ≡ row → operand_count context.info row ≡ length ts → row_entries context row (known ts) ≡ Some (known us) →
    check_code context (i ∷ code) (with_types ts f) ≡ check_code context code (with_types us f)
check_first context i code row ts us f is n h =
    ap (λ (r : IntegerRow). option_and_then (check_code context code) (check_row context r (with_types ts f))) is ∙
    ap (option_and_then (check_code context code)) (row_checks f ts (length ts) refl context row us n h)

pub none_on : (f : Frame) → with_types [] f ≡ f
none_on f = ap (λ (es : List OperandEntry). record f { operands = es }) (append-nil f.operands)

pub one_on_other : (ts us : List PrimitiveTypeInfo) (f : Frame) → with_types us (with_types ts f) ≡ with_types (ts ++ us) f
one_on_other ts us f =
    ap (λ (es : List OperandEntry). record f { operands = es }) (append_assoc f.operands (known ts) (known us) ∙
    ap (λ (es : List OperandEntry). f.operands ++ es) (sym (map-append (λ (t : PrimitiveTypeInfo). Some t) ts us)))

module _ (input : List ℕ) (more : List PrimitiveTypeInfo) (context : Context) where
  pop_wider : (row : IntegerRow) (n : ℕ) (f g : Frame) (b : Bool) →
      (if b then option_map (with_pushed n f) (row_entries context row (popped n f)) else None) ≡ Some g →
      (if b then option_map (with_pushed n f) (row_entries (wider input more context) row (popped n f)) else None) ≡ Some g
  pop_wider row n f g true h =
      let (rs, a, b) = map_some (with_pushed n f) (row_entries context row (popped n f)) g h in
      ap (option_map (with_pushed n f)) (row_wider input more context row (popped n f) rs a) ∙ ap Some b
  pop_wider row n f g false h = absurd cc

  pub check_row_wider : (row : IntegerRow) (f g : Frame) → check_row context row f ≡ Some g → check_row (wider input more context) row f ≡ Some g
  check_row_wider row f g e =
      ap (λ (k : ℕ). if can_pop k f then option_map (with_pushed k f) (row_entries (wider input more context) row (popped k f)) else None)
      (sym (count_alike input more context.info row)) ∙
      pop_wider row (operand_count context.info row) f g (can_pop (operand_count context.info row) f) e

-- ---- typed code

known_is : (ts us : List PrimitiveTypeInfo) → known ts ≡ known us → ts ≡ us
known_is [] [] e = refl
known_is [] (u ∷ us) e = absurd cc
known_is (t ∷ ts) [] e = absurd cc
known_is (t ∷ ts) (u ∷ us) e =
    let first : ◌≡◌ {A = OperandEntry} (Some t) (Some u) = cc in
    let later : known ts ≡ known us = cc in
    ap₂ (λ (x : PrimitiveTypeInfo) (xs : List PrimitiveTypeInfo). x ∷ xs) (let k : t ≡ u = cc in k) (known_is ts us later)

pub row_types_stay : RowTypesStay
row_types_stay context input more row ts us e =
    let all = wider input more context in
    let there : option_map known (row_types all row ts) ≡ Some (known us) =
    sym (known_checks all row ts) ∙ row_wider input more context row (known ts) (known us) (known_checks context row ts ∙ ap (option_map known) e) in
    let (vs, a, b) = map_some known (row_types all row ts) (known us) there in
    a ∙ ap Some (known_is vs us b)

pub row_pushes : (context : Context) (i : Instruction) (ts us : List PrimitiveTypeInfo) → row_types context (integer_row i) ts ≡ Some us →
    Pushes context (i ∷ []) ts us
row_pushes context i ts us e f =
    check_first context i [] (integer_row i) ts us f refl (row_types_count context (integer_row i) ts us e)
    (known_checks context (integer_row i) ts ∙ ap (option_map known) e)

pub typed_pushes : TypedCodePushes
typed_pushes = record {
  nothing = λ context ts f. refl;
  row = row_pushes;
  follow = λ context a b ts us vs h k f.
      check_append context a b (with_types ts f) ∙ (ap (option_and_then (check_code context b)) (h f) ∙ k f);
  above = λ context code ks ts us h f.
      ap (check_code context code) (sym (one_on_other ks ts f)) ∙ (h (with_types ks f) ∙ ap Some (one_on_other ks us f));
}

pub pushes_on : PushesOnFrames
pushes_on context code list h f = ap (check_code context code) (sym (none_on f)) ∙ h f

some_is : (f g : Frame) → ◌≡◌ {A = Option Frame} (Some f) (Some g) → f ≡ g
some_is f g e = cc

-- ---- foreign functions

-- a foreign function's call has the types of its function type
pub foreign_asked : (m : Module) (mark type : ℕ) (ts : List PrimitiveTypeInfo) → is_arity (slice_get m.types type) ≡ true →
    ts ≡ (function_arity (slice_get m.types type)).starts → asked_types m (foreign_call mark type) ts ≡ Some (function_arity (slice_get m.types type)).ends
unfolding other_type row_at table
foreign_asked m mark type ts is e = go (slice_get m.types type) is e
  where
    go : (o : Option TypeInfo) → is_arity o ≡ true → ts ≡ (function_arity o).starts →
        option_and_then (function_results ts) o ≡ Some (function_arity o).ends
    go (Some (Func t)) is e =
        ap (λ (b : Bool). if b then Some t.returns else None) (ap (λ (x : List PrimitiveTypeInfo). same_types x t.params) e ∙ same_types_self t.params)
    go (Some Other) is e = absurd cc
    go None is e = absurd cc
