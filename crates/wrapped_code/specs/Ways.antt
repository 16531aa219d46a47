-- Ways to wrap code: which code pushes what, and which runs as the instructions that it replaces (this project).
use Rattle.std.specs.Prelude.{◌≡◌, ℕ, suc, ◌^◌, ◌<◌, ◌==◌, Bool, true, false, not, ◌&&◌, ◌||◌, List, [], ◌∷◌, ◌++◌, Some, is_some}
use Rattle.std.specs.List.{All}
use Rattle.wasm_code.specs.Instruction.{Instruction}
use Rattle.wasm_code.specs.declared.immediate.BlockType.{BlockType}
use Rattle.wasm_types.specs.declared.types.PrimitiveTypeInfo.{PrimitiveTypeInfo}
use Rattle.wasm_types.specs.declared.types.PrimitiveTypeInfo.TheVariants as primitive
use Rattle.wasm_execution.specs.declared.integer.IntegerType.{IntegerType}
use Rattle.wasm_execution.specs.declared.integer.IntegerType.TheVariants as integer
use Rattle.wasm_execution.specs.Integer.{IntegerOperator}
use Rattle.wasm_execution.specs.OtherRow.{changes}
use Rattle.wasm_execution.specs.Agreement.{EndsTyped}
use Rattle.wasm_execution.specs.Values.{type_of, Value, IsValue, Context, State, Variable, local, global, HasTypes, Outcome, Ends, above}
use Rattle.wasm_execution.specs.IntegerRow.{IntegerRow, constant, operation, get, set, tee, select, other, variable_type, is_numeric, integer_row}
use Rattle.wasm_execution.specs.Machine.{run}
use Rattle.wasm_equivalence.specs.control.Function.{RunsAs}
use Rattle.wasm_equivalence.specs.control.Blocks.{arity_of, has_arity}
use Rattle.wasm_equivalence.specs.validation.Algorithm.{Frame}
use Rattle.wasm_equivalence.specs.validation.StaysValid.{with_types, Pushes}
use Rattle.wrapped_code.specs.Wrapped.{Wrapped, has_operators, plain, both, block, loop, choice, leaving, exits, once, trap, check_wrapped}
use Rattle.wrapped_code.specs.Wrapped.{WrappedRunsAs, WrappedChecksAs}

-- ---- types

-- On every frame the code is valid with the first types on top, and leaves the others in their place, whatever the frames around it.
abbrev pub WrappedPushes : Context → Wrapped → (ts us : List PrimitiveTypeInfo) → Type 0
WrappedPushes context c ts us = (f : Frame) (outer : List Frame) → check_wrapped context c (with_types ts f ∷ outer) ≡ Some (with_types us f ∷ outer)

-- What wrapped code pushes. Where one part of a conditional traps, the other pushes; code behind a branch is typed from nothing, isn't there, or traps. A
-- branch drops what lies beneath what it carries, also a conditional one with a trap behind.
pub record WrappedCodePushes : Type 0 where
  pub plain_code : (context : Context) (code : List Instruction) (ts us : List PrimitiveTypeInfo) → Pushes context code ts us →
      WrappedPushes context (plain code) ts us
  pub follow : (context : Context) (a b : Wrapped) (ts us vs : List PrimitiveTypeInfo) → WrappedPushes context a ts us → WrappedPushes context b us vs →
      WrappedPushes context (both a b) ts vs
  pub above : (context : Context) (c : Wrapped) (below ts us : List PrimitiveTypeInfo) → WrappedPushes context c ts us →
      WrappedPushes context c (below ++ ts) (below ++ us)
  pub in_block : (context : Context) (t : BlockType) (a : Wrapped) → has_arity context.info t ≡ true →
      WrappedPushes context a (arity_of context.info t).starts (arity_of context.info t).ends →
      WrappedPushes context (block t a) (arity_of context.info t).starts (arity_of context.info t).ends
  pub in_loop : (context : Context) (t : BlockType) (a : Wrapped) → has_arity context.info t ≡ true →
      WrappedPushes context a (arity_of context.info t).starts (arity_of context.info t).ends →
      WrappedPushes context (loop t a) (arity_of context.info t).starts (arity_of context.info t).ends
  pub in_parts : (context : Context) (t : BlockType) (a b : Wrapped) → has_arity context.info t ≡ true →
      WrappedPushes context a (arity_of context.info t).starts (arity_of context.info t).ends →
      WrappedPushes context b (arity_of context.info t).starts (arity_of context.info t).ends →
      WrappedPushes context (choice t a b) ((arity_of context.info t).starts ++ primitive.I32 ∷ []) (arity_of context.info t).ends
  pub in_first : (context : Context) (t : BlockType) (a : Wrapped) → has_arity context.info t ≡ true →
      WrappedPushes context a (arity_of context.info t).starts (arity_of context.info t).ends →
      WrappedPushes context (choice t a trap) ((arity_of context.info t).starts ++ primitive.I32 ∷ []) (arity_of context.info t).ends
  pub in_second : (context : Context) (t : BlockType) (a : Wrapped) → has_arity context.info t ≡ true →
      WrappedPushes context a (arity_of context.info t).starts (arity_of context.info t).ends →
      WrappedPushes context (choice t trap a) ((arity_of context.info t).starts ++ primitive.I32 ∷ []) (arity_of context.info t).ends
  pub before_dead : (context : Context) (t : BlockType) (a dead : Wrapped) → has_arity context.info t ≡ true →
      WrappedPushes context a (arity_of context.info t).starts (arity_of context.info t).ends →
      WrappedPushes context dead [] (arity_of context.info t).ends →
      WrappedPushes context (leaving t a dead) (arity_of context.info t).starts (arity_of context.info t).ends
  pub before_end : (context : Context) (t : BlockType) (a : Wrapped) → has_arity context.info t ≡ true →
      WrappedPushes context a (arity_of context.info t).starts (arity_of context.info t).ends →
      WrappedPushes context (leaving t a (plain [])) (arity_of context.info t).starts (arity_of context.info t).ends
  pub before_end_over : (context : Context) (t : BlockType) (a : Wrapped) (vs : List PrimitiveTypeInfo) → has_arity context.info t ≡ true →
      WrappedPushes context a (arity_of context.info t).starts (vs ++ (arity_of context.info t).ends) →
      WrappedPushes context (leaving t a (plain [])) (arity_of context.info t).starts (arity_of context.info t).ends
  pub before_trap_over : (context : Context) (t : BlockType) (a : Wrapped) (vs : List PrimitiveTypeInfo) → has_arity context.info t ≡ true →
      WrappedPushes context a (arity_of context.info t).starts (vs ++ (arity_of context.info t).ends) →
      WrappedPushes context (leaving t a trap) (arity_of context.info t).starts (arity_of context.info t).ends
  pub before_sure_branch : (context : Context) (t : BlockType) (a : Wrapped) (vs : List PrimitiveTypeInfo) → has_arity context.info t ≡ true →
      WrappedPushes context a (arity_of context.info t).starts (vs ++ ((arity_of context.info t).ends ++ primitive.I32 ∷ [])) →
      WrappedPushes context (exits t a trap) (arity_of context.info t).starts (arity_of context.info t).ends
  pub before_exit : (context : Context) (t : BlockType) (a b : Wrapped) → has_arity context.info t ≡ true →
      WrappedPushes context a (arity_of context.info t).starts ((arity_of context.info t).ends ++ primitive.I32 ∷ []) →
      WrappedPushes context b (arity_of context.info t).ends (arity_of context.info t).ends →
      WrappedPushes context (exits t a b) (arity_of context.info t).starts (arity_of context.info t).ends
  pub in_once : (context : Context) (t : BlockType) (a : Wrapped) → has_arity context.info t ≡ true → (arity_of context.info t).starts ≡ [] →
      WrappedPushes context a [] ((arity_of context.info t).ends ++ primitive.I32 ∷ []) →
      WrappedPushes context (once t a) [] (arity_of context.info t).ends

-- Where the instructions push these types from nothing, and so does the code in the module with further globals, it is checked as they are.
abbrev pub PushedCodeChecksAs : Type 0
PushedCodeChecksAs =
    (context after : Context) (own : List Instruction) (c : Wrapped) (us : List PrimitiveTypeInfo) → Pushes context own [] us →
    WrappedPushes after c [] us → WrappedChecksAs context after own c

-- Code that pushes something has an operator.
abbrev pub PushingCodeIsThere : Type 0
PushingCodeIsThere =
    (context : Context) (c : Wrapped) (t : PrimitiveTypeInfo) (us : List PrimitiveTypeInfo) → WrappedPushes context c [] (t ∷ us) →
    has_operators c ≡ true

-- ---- runs

-- From every state of the context's types the code pushes one value of that type, which the state alone tells, and changes nothing.
pub record IsPure (context : Context) (t : PrimitiveTypeInfo) (code : List Instruction) : Type 0 where
  pub value : State → Value
  pub typed : (s : State) → HasTypes context s → (value s).type ≡ t
  pub is_value : (s : State) → HasTypes context s → IsValue (value s)
  pub gives : (stack : List Value) (s : State) → All IsValue stack → HasTypes context s → run code stack s ≡ Ends (stack ++ value s ∷ []) s

-- What the code does is the same above every stack: from every state of the context's types it pushes one value of that type, or traps.
pub record IsAlone (context : Context) (t : PrimitiveTypeInfo) (code : List Instruction) : Type 0 where
  pub does : State → Outcome
  pub typed : (s : State) → HasTypes context s → EndsTyped context (t ∷ []) (does s)
  pub gives : (stack : List Value) (s : State) → All IsValue stack → HasTypes context s → run code stack s ≡ above stack (does s)

-- It leaves that pure code's value as it is.
abbrev pub LeavesValue : (context : Context) (t u : PrimitiveTypeInfo) (code beside : List Instruction) → IsAlone context t code → IsPure context u beside →
    Type 0
LeavesValue context t u code beside alone pure =
    (s after : State) (vs : List Value) → HasTypes context s → alone.does s ≡ Ends vs after → pure.value after ≡ pure.value s

-- Code that is pure: a constant, a variable's value, and an integer operator that never traps, on pure code.
pub record PureCode : Type 0 where
  pub of_constant : (context : Context) (i : Instruction) (t : IntegerType) (n : ℕ) → integer_row i ≡ constant t n → IsPure context (type_of t) (i ∷ [])
  pub of_variable : (context : Context) (i : Instruction) (x : Variable) (t : PrimitiveTypeInfo) → integer_row i ≡ get x →
      variable_type context x ≡ Some t → IsPure context t (i ∷ [])
  pub of_one : (context : Context) (i : Instruction) (f : IntegerOperator) (t : PrimitiveTypeInfo) (x : List Instruction) →
      integer_row i ≡ operation f → f.operands ≡ t ∷ [] → ((n : ℕ) → is_some (f.value (n ∷ [])) ≡ true) → IsPure context t x →
      IsPure context (type_of f.result) (x ++ i ∷ [])
  pub of_two : (context : Context) (i : Instruction) (f : IntegerOperator) (t u : PrimitiveTypeInfo) (x y : List Instruction) →
      integer_row i ≡ operation f → f.operands ≡ t ∷ u ∷ [] → ((n k : ℕ) → is_some (f.value (n ∷ k ∷ [])) ≡ true) → IsPure context t x →
      IsPure context u y → IsPure context (type_of f.result) (x ++ (y ++ i ∷ []))

-- ---- what typed code leaves as it is

-- the same variable
abbrev pub same_variable : Variable → Variable → Bool
same_variable (local i) (local j) = i == j
same_variable (global i) (global j) = i == j
same_variable x y = false

-- the row may write the variable: a global also where it is no integer row, and may change more than the stack
abbrev pub row_writes_variable : Variable → IntegerRow → Bool
row_writes_variable x (set y) = same_variable x y
row_writes_variable x (tee y) = same_variable x y
row_writes_variable (global n) (other i) = changes i
row_writes_variable x row = false

-- one of the instructions may
abbrev pub code_writes : Variable → List Instruction → Bool
code_writes x [] = false
code_writes x (i ∷ code) = row_writes_variable x (integer_row i) || code_writes x code

-- the row may change more than the stack: a variable, or what a world does
abbrev pub row_changes : IntegerRow → Bool
row_changes (set x) = true
row_changes (tee x) = true
row_changes (other i) = changes i
row_changes row = false

-- one of the instructions may
abbrev pub code_changes : List Instruction → Bool
code_changes [] = false
code_changes (i ∷ code) = row_changes (integer_row i) || code_changes code

-- the row is an integer row that writes nothing, and reads no variable that the code may write
abbrev pub row_is_left : List Instruction → IntegerRow → Bool
row_is_left code (get x) = not (code_writes x code)
row_is_left code (set x) = false
row_is_left code (tee x) = false
row_is_left code (other i) = false
row_is_left code row = true

-- all of those beside it are so
abbrev pub is_left : (code beside : List Instruction) → Bool
is_left code [] = true
is_left code (i ∷ beside) = row_is_left code (integer_row i) && is_left code beside

-- Code that pushes one value does the same above every stack. It leaves a constant's value as it is; that of a variable that it doesn't write; that of integer
-- rows over such ones; and all where it changes nothing.
pub record CodeIsAlone : Type 0 where
  pub alone : (context : Context) (t : PrimitiveTypeInfo) (code : List Instruction) → Pushes context code [] (t ∷ []) → IsAlone context t code
  pub constant_stays : (context : Context) (t u : PrimitiveTypeInfo) (code : List Instruction) (i : Instruction) (k : IntegerType) (n : ℕ)
      (alone : IsAlone context t code) (pure : IsPure context u (i ∷ [])) → integer_row i ≡ constant k n →
      LeavesValue context t u code (i ∷ []) alone pure
  pub variable_stays : (context : Context) (t u : PrimitiveTypeInfo) (code : List Instruction) (i : Instruction) (x : Variable)
      (alone : IsAlone context t code) (pure : IsPure context u (i ∷ [])) → integer_row i ≡ get x → code_writes x code ≡ false →
      LeavesValue context t u code (i ∷ []) alone pure
  pub left_stays : (context : Context) (t u : PrimitiveTypeInfo) (code beside : List Instruction) (alone : IsAlone context t code)
      (pure : IsPure context u beside) → is_left code beside ≡ true → LeavesValue context t u code beside alone pure
  pub all_stays : (context : Context) (t u : PrimitiveTypeInfo) (code beside : List Instruction) (alone : IsAlone context t code)
      (pure : IsPure context u beside) → code_changes code ≡ false → LeavesValue context t u code beside alone pure

-- ---- code that does as instructions

-- What runs as the instructions that it replaces: instructions that do; code that does, in a block or a loop; as the part of a conditional that a
-- constant chooses; before a branch to the end of its block, where the instructions push what the block gives, also under a pure condition, whatever that
-- is, or under a constant that isn't zero, with a trap behind; above pure code that such a branch drops; in a loop before a jump back under a pure condition
-- that is always zero; and for a select of pure code, a conditional.
pub record WrappedCodeRuns : Type 0 where
  pub plain_code : (context : Context) (requests : List PrimitiveTypeInfo) (own code : List Instruction) → RunsAs context requests own code →
      WrappedRunsAs context requests own (plain code)
  pub in_block : (context : Context) (requests : List PrimitiveTypeInfo) (own : List Instruction) (t : BlockType) (c : Wrapped) →
      WrappedRunsAs context requests own c → WrappedRunsAs context requests own (block t c)
  pub in_loop : (context : Context) (requests : List PrimitiveTypeInfo) (own : List Instruction) (t : BlockType) (c : Wrapped) →
      WrappedRunsAs context requests own c → WrappedRunsAs context requests own (loop t c)
  pub in_first : (context : Context) (requests : List PrimitiveTypeInfo) (own : List Instruction) (t : BlockType) (one : Instruction) (n : ℕ)
      (c d : Wrapped) → suc n < 2 ^ 32 → integer_row one ≡ constant integer.I32 (suc n) → WrappedRunsAs context requests own c →
      WrappedRunsAs context requests own (both (plain (one ∷ [])) (choice t c d))
  pub in_second : (context : Context) (requests : List PrimitiveTypeInfo) (own : List Instruction) (t : BlockType) (none : Instruction) (c d : Wrapped) →
      integer_row none ≡ constant integer.I32 0 → WrappedRunsAs context requests own d →
      WrappedRunsAs context requests own (both (plain (none ∷ [])) (choice t c d))
  pub before_branch : (context : Context) (requests : List PrimitiveTypeInfo) (own : List Instruction) (t : BlockType) (c dead : Wrapped) →
      (arity_of context.info t).starts ≡ [] → Pushes context own [] (arity_of context.info t).ends → WrappedRunsAs context requests own c →
      WrappedRunsAs context requests own (leaving t c dead)
  pub before_branch_over : (context : Context) (requests : List PrimitiveTypeInfo) (own : List Instruction) (t : BlockType) (below : List Instruction)
      (c dead : Wrapped) (u : PrimitiveTypeInfo) → (arity_of context.info t).starts ≡ [] → Pushes context own [] (arity_of context.info t).ends →
      IsPure context u below → WrappedRunsAs context requests own c → WrappedRunsAs context requests own (leaving t (both (plain below) c) dead)
  pub before_sure_branch : (context : Context) (requests : List PrimitiveTypeInfo) (own : List Instruction) (t : BlockType) (c : Wrapped)
      (one : Instruction) (n : ℕ) → (arity_of context.info t).starts ≡ [] → Pushes context own [] (arity_of context.info t).ends → suc n < 2 ^ 32 →
      integer_row one ≡ constant integer.I32 (suc n) → WrappedRunsAs context requests own c →
      WrappedRunsAs context requests own (exits t (both c (plain (one ∷ []))) trap)
  pub before_sure_branch_over : (context : Context) (requests : List PrimitiveTypeInfo) (own : List Instruction) (t : BlockType)
      (below : List Instruction) (c : Wrapped) (one : Instruction) (n : ℕ) (u : PrimitiveTypeInfo) → (arity_of context.info t).starts ≡ [] →
      Pushes context own [] (arity_of context.info t).ends → IsPure context u below → suc n < 2 ^ 32 →
      integer_row one ≡ constant integer.I32 (suc n) → WrappedRunsAs context requests own c →
      WrappedRunsAs context requests own (exits t (both (plain below) (both c (plain (one ∷ [])))) trap)
  pub before_condition : (context : Context) (requests : List PrimitiveTypeInfo) (own : List Instruction) (t : BlockType) (c : Wrapped)
      (condition : List Instruction) → (arity_of context.info t).starts ≡ [] → Pushes context own [] (arity_of context.info t).ends →
      IsPure context primitive.I32 condition → WrappedRunsAs context requests own c →
      WrappedRunsAs context requests own (exits t (both c (plain condition)) (plain []))
  pub before_jump : (context : Context) (requests : List PrimitiveTypeInfo) (own : List Instruction) (t : BlockType) (c : Wrapped)
      (condition : List Instruction) (pure : IsPure context primitive.I32 condition) →
      ((s : State) → HasTypes context s → (pure.value s).number ≡ 0) → WrappedRunsAs context requests own c →
      WrappedRunsAs context requests own (once t (both c (plain condition)))
  pub selected : (context : Context) (requests : List PrimitiveTypeInfo) (x y c : List Instruction) (pick : Instruction) (t : PrimitiveTypeInfo)
      (u : BlockType) → integer_row pick ≡ select → is_numeric t ≡ true → IsPure context t x → IsPure context t y → IsPure context primitive.I32 c →
      WrappedRunsAs context requests (x ++ (y ++ (c ++ pick ∷ []))) (both (plain c) (choice u (plain x) (plain y)))
  pub selected_after : (context : Context) (requests : List PrimitiveTypeInfo) (x y c : List Instruction) (pick : Instruction) (t : PrimitiveTypeInfo)
      (u : BlockType) → integer_row pick ≡ select → is_numeric t ≡ true → (px : IsPure context t x) (py : IsPure context t y)
      (alone : IsAlone context primitive.I32 c) → LeavesValue context primitive.I32 t c x alone px → LeavesValue context primitive.I32 t c y alone py →
      WrappedRunsAs context requests (x ++ (y ++ (c ++ pick ∷ []))) (both (plain c) (choice u (plain x) (plain y)))
