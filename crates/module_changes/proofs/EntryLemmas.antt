-- A code entry with a change.
use Rattle.std.proofs.Common.{◌≡◌, ◌⊎◌, ℕ, zero, suc, ◌+◌, ◌-◌, ◌<◌, ◌≤◌, inl, inr, true, List, [], ◌∷◌, ◌++◌, length, map, take, drop}
use Rattle.std.proofs.Common.{Some, None, refl, sym, ap, ◌∙◌}
use Rattle.std.proofs.Common.{subst, arith}
use Rattle.std.specs.Prelude.{◌≢◌, slice_get, slice_range, IsTrue}
use Rattle.std.specs.List.{All}
use Rattle.std.proofs.lemmas.Bool.{false≢true}
use Rattle.std.proofs.lemmas.List.{drop-map, take-map}
use Rattle.std.proofs.lemmas.List.Elements.{All-nil}
use Rattle.std.proofs.lemmas.Option.{same_Some}
use Rattle.wasm_code.specs.Body.{is_end, ends, SpellsCode}
use Rattle.wasm_code.specs.Instruction.{Instruction}
use Rattle.wasm_code.specs.declared.operator.Operator.{Operator}
use Rattle.wasm_code.specs.declared.operator.Operator.TheVariants.{Instr}
use Rattle.wasm_types.specs.Module.{Module}
use Rattle.wasm_types.specs.declared.types.PrimitiveTypeInfo.{PrimitiveTypeInfo}
use Rattle.wasm_types.specs.declared.types.PrimitiveTypeInfo.TheVariants.{Empty}
use Rattle.wasm_lists.specs.declared.entries.Entry.{Entry}
use Rattle.wasm_module.specs.Limits.{IsTooLarge}
use Rattle.wasm_module.specs.Module.{Layout, IsModule}
use Rattle.wasm_module.specs.Reread.{IsReread}
use Rattle.wasm_module.specs.Rewritten.{IsRewritten}
use Rattle.wasm_execution.specs.Values.{Context, context_in}
use Rattle.wasm_equivalence.specs.control.Standard.{asks_beyond}
use Rattle.body_splices.specs.Laws.{pieces_operators, SplicesKeepOperators}
use Rattle.body_splices.specs.OwnBytes.{none_of, own_bytes, without_offsets, IsBodyIn}
use Rattle.body_changes.specs.Chosen.{ChoosesChange, ChangesNone}
use Rattle.body_changes.specs.Kinds.{Material}
use Rattle.body_changes.specs.Replacing.{new_pieces, AppendsReplaced, AreTheseInstructions, HasInstruction}
use Rattle.body_changes.specs.declared.change.Change.{Change}
use Rattle.module_rewrites.specs.Function.{IsFunction}
use Rattle.module_rewrites.specs.ReadAgain.{BodiesAreReadAgain}
use Rattle.module_rewrites.specs.Structure.{asking_operators}
use Rattle.module_changes.specs.Changed.{ChangeDoesNotFit, HasNoChange, IsTooLong, MakesChange, WritesBody, WritesCode}
use Rattle.module_changes.specs.Entry.{IsLarge}
use Rattle.module_changes.specs.Scope.{material_of, Choice}
use Rattle.module_changes.specs.declared.entry.MadeChange.{MadeChange}

abbrev Operators : Type 0
Operators = List (Operator × ℕ)

-- something stands behind an instruction of a body
behind_instruction : (operators : List (Operator × ℕ)) (at : ℕ) (i : Instruction) → HasInstruction operators at i → IsTrue (ends operators) →
    at + 1 < length operators
behind_instruction [] at i e h = absurd (false≢true h)
behind_instruction (x ∷ []) zero i e h = absurd (false≢true (sym (ap is_end (let is : x.0 ≡ Instr i = cc in is)) ∙ h))
behind_instruction (x ∷ []) (suc at) i e h = absurd cc
behind_instruction (x ∷ y ∷ xs) zero i e h = omega arith
behind_instruction (x ∷ y ∷ xs) (suc at) i e h = let l = behind_instruction (y ∷ xs) at i e h in omega arith

-- so behind the code that is changed
pub behind_changed : (context : Context) (input : List ℕ) (operators : List (Operator × ℕ)) (material : Material) (changes : List Change) (words : List ℕ)
    (change : Change) (at start : ℕ) (code : List Instruction) → IsBodyIn input operators →
    ChoosesChange context operators material changes words change at start code → at + 1 < length operators
behind_changed context input operators material changes words change at start code body c =
    let unit = c.is.is in behind_instruction operators at unit.instruction unit.has body.spells.last

-- ---- the body that is written

-- no instruction asks more than it carries
instructions_ask_nothing : (code : List Instruction) → none_of asks_beyond (map (λ (i : Instruction). Instr i) code) ≡ true
instructions_ask_nothing [] = refl
instructions_ask_nothing (i ∷ code) = instructions_ask_nothing code

new_operators : (os : List Operator) (code : List Instruction) → pieces_operators os (new_pieces code) ≡ map (λ (i : Instruction). Instr i) code
new_operators os [] = refl
new_operators os (i ∷ code) = ap (λ (xs : List Operator). Instr i ∷ xs) (new_operators os code)

range_is : (operators : Operators) (start end : ℕ) (own : List Instruction) → AreTheseInstructions (slice_range operators start end) own →
    slice_range (without_offsets operators) start end ≡ map (λ (i : Instruction). Instr i) own
range_is operators start end own h =
    let first : Operator × ℕ → Operator = λ o. o.0 in
    ap (take (end - start)) (drop-map first start operators) ∙ (take-map first (end - start) (drop start operators) ∙ h.are)

-- so those that do stay as they were
asking_stays : SplicesKeepOperators → (context : Context) (input : List ℕ) (operators : Operators) (start end : ℕ) (code : List Instruction)
    (old new : List ℕ) (r : AppendsReplaced context input operators start end code old new) →
    asking_operators (own_bytes r.spliced.text r.spliced.again) ≡ asking_operators (own_bytes input operators)
asking_stays law context input operators start end code old new r =
    let closed = r.can.closed in
    let some = closed.some in
    law asks_beyond input operators start end (new_pieces code) old new r.spliced (omega arith)
    (ap (none_of asks_beyond) (range_is operators start end closed.own closed.stands) ∙ instructions_ask_nothing closed.own)
    (ap (none_of asks_beyond) (new_operators (without_offsets operators) code) ∙ instructions_ask_nothing code)

-- ---- the module with it

-- what is known
pub record OfModules : Type 0 where
  pub splices : SplicesKeepOperators
  pub reread : (bytes : List ℕ) (info : Module) (layout : Layout) (n : ℕ) (contents : List ℕ) (more : List PrimitiveTypeInfo) (new : List ℕ) →
      IsModule bytes info layout → IsRewritten bytes layout n contents more new → layout.unknown.imports ≡ None → layout.unknown.globals ≡ None →
      All (λ (t : PrimitiveTypeInfo). t ≢ Empty) more → IsReread bytes info layout n contents more new
  pub again : BodiesAreReadAgain

module _ (choice : Choice) (bytes : List ℕ) (info : Module) (layout : Layout) (words : List ℕ) (n : ℕ) (made : MadeChange) (locals lent :
    List PrimitiveTypeInfo)
    (expression : ℕ) (operators given : Operators) (entry : Entry) (old body front written : List ℕ)
    (f : IsFunction bytes info layout n locals expression operators) (lent_is : lent ≡ locals) (given_is : given ≡ operators) (empty : old ≡ [])
    (found : slice_get layout.entries n ≡ Some entry) (front_is : front ≡ slice_range bytes entry.contents expression) (written_is : written ≡ body)
    (code : WritesCode choice (context_in info lent) bytes given words made.change made.operator made.start old body) where
  contents_is : front ++ written ≡ slice_range bytes f.entry.contents expression ++ body
  contents_is =
      let same : entry ≡ f.entry = same_Some _ _ (sym found ∙ f.is.at) in
      let start : front ≡ slice_range bytes f.entry.contents expression =
      front_is ∙ ap (λ (e : Entry). slice_range bytes e.contents expression) same in
      ap (λ (xs : List ℕ). xs ++ written) start ∙ ap (λ (ys : List ℕ). slice_range bytes f.entry.contents expression ++ ys) written_is

  own_code : WritesCode choice (context_in info locals) bytes operators words made.change made.operator made.start [] body
  own_code =
      subst (λ (ts : List PrimitiveTypeInfo). WritesCode choice (context_in info ts) bytes operators words made.change made.operator made.start [] body) lent_is
      (subst (λ (os : Operators). WritesCode choice (context_in info lent) bytes os words made.change made.operator made.start [] body) given_is
      (subst (λ (o : List ℕ). WritesCode choice (context_in info lent) bytes given words made.change made.operator made.start o body) empty code))

  writes : WritesBody choice bytes info layout words n made (front ++ written)
  writes = record {
    locals = locals;
    expression = expression;
    operators = operators;
    function = f;
    body = body;
    code = own_code;
    contents_are = contents_is;
  }

  pub makes : OfModules → (new : List ℕ) → IsModule bytes info layout → made.function ≡ layout.imported_functions + n →
      IsRewritten bytes layout n (front ++ written) [] new → length new ≤ choice.scope.size → MakesChange choice bytes info layout words n made new
  unfolding writes own_code
  makes law new known function is fits =
      let rewritten : IsRewritten bytes layout n (slice_range bytes f.entry.contents expression ++ body) [] new =
      subst (λ (c : List ℕ). IsRewritten bytes layout n c [] new) contents_is is in
      let r = own_code.replaced in
      let spells : SpellsCode 0 body r.spliced.again =
      subst (λ (b : List ℕ). SpellsCode 0 b r.spliced.again) (sym r.spliced.appended) r.spliced.spells in
      let asking : asking_operators (own_bytes body r.spliced.again) ≡ asking_operators (own_bytes bytes operators) =
      ap (λ (b : List ℕ). asking_operators (own_bytes b r.spliced.again)) r.spliced.appended
      ∙ asking_stays law.splices (context_in info locals) bytes operators made.start (made.operator + 1) own_code.code [] body r in
      record {
        function_is = function;
        contents = front ++ written;
        writes = writes;
        written = is;
        fits = fits;
        again = law.again bytes info layout n locals expression operators f body r.spliced.again new spells asking
            (law.reread bytes info layout n (slice_range bytes f.entry.contents expression ++ body) [] new known rewritten f.is.indices.imports
            f.is.indices.globals (All-nil (λ (t : PrimitiveTypeInfo). t ≢ Empty)));
      }

  pub does_not_fit : IsLarge bytes layout n (front ++ written) choice.scope.size → ChangeDoesNotFit choice bytes info layout words n
  does_not_fit large = record { made = made; contents = front ++ written; writes = writes; large = go large }
    where
      go : IsLarge bytes layout n (front ++ written) choice.scope.size →
          IsTooLarge bytes layout n (front ++ written) [] ⊎ IsTooLong choice bytes layout n (front ++ written)
      go (inl x) = inl x
      go (inr (new, is, long)) = inr (record { new = new; is = is; long = long })

-- ---- nothing is made

-- the function has one reading
pub none_here : (choice : Choice) (bytes : List ℕ) (info : Module) (layout : Layout) (words : List ℕ) (n : ℕ) (locals lent : List PrimitiveTypeInfo)
    (operators given : Operators) → lent ≡ locals → given ≡ operators →
    ((l : List PrimitiveTypeInfo) (x : ℕ) (o : Operators) → IsFunction bytes info layout n l x o → (locals ≡ l) × (operators ≡ o)) →
    ChangesNone (context_in info lent) given (material_of choice) choice.scope.changes words → HasNoChange choice bytes info layout words n
none_here choice bytes info layout words n locals lent operators given lent_is given_is only none l x o f =
    let same = only l x o f in
    subst (λ (ts : List PrimitiveTypeInfo). ChangesNone (context_in info ts) o (material_of choice) choice.scope.changes words) (lent_is ∙ same.0)
    (subst (λ (os : Operators). ChangesNone (context_in info lent) os (material_of choice) choice.scope.changes words) (given_is ∙ same.1) none)
