-- One operator's step of validation: by other numbers, and in a module with further globals.
use Rattle.std.proofs.Common.{◌≡◌, ℕ, Bool, List, [], ◌∷◌, ◌++◌, take, Option, Some, None, refl, sym, ap, ap₂, ◌∙◌}
use Rattle.std.specs.Prelude.{map, slice_get, option_map, option_and_then, if◌then◌else◌}
use Rattle.wasm_code.specs.Instruction.{Instruction}
use Rattle.wasm_code.specs.declared.immediate.BlockType.{BlockType}
use Rattle.wasm_code.specs.declared.immediate.BlockType.TheVariants as type
use Rattle.wasm_code.specs.declared.operator.Operator.{Operator}
use Rattle.wasm_code.specs.declared.operator.Operator.TheVariants as op
use Rattle.wasm_code.specs.declared.other.Other.{Other}
use Rattle.wasm_types.specs.Module.{Module}
use Rattle.wasm_types.specs.declared.types.PrimitiveTypeInfo.{PrimitiveTypeInfo}
use Rattle.wasm_types.specs.declared.types.PrimitiveTypeInfo.TheVariants as primitive
use Rattle.wasm_execution.specs.Values.{Context}
use Rattle.wasm_execution.specs.IntegerRow.{integer_row}
use Rattle.wasm_equivalence.specs.control.Blocks.{Arity, arity_of, has_arity, Role, handles, tries, catches, delegates, does, role_of}
use Rattle.wasm_equivalence.specs.control.Standard.{Beyond, left_types, handler_arity}
use Rattle.wasm_equivalence.specs.control.Wider.{wider_module, wider}
use Rattle.wasm_equivalence.specs.validation.Algorithm.{Frame, check_row, check_code, Structural, on_innermost, check}
use Rattle.wasm_equivalence.specs.validation.StandardSteps.{pop, cut_off, label_types, open_frame, can_jump_all, can_branch}
use Rattle.wasm_equivalence.specs.validation.StandardSteps.{left as left_by, only_where, are_labels, catch_frame, other_step, by_step}
use Rattle.wasm_equivalence.specs.validation.StaysValid.{MoreGlobalsCheckAlike}

-- ---- by other numbers

-- what another operator does to the frames, by what it takes, leaves and may branch to
abbrev stepped : (takes : List PrimitiveTypeInfo) → (leaves : Option (List PrimitiveTypeInfo)) → (label : Option (ℕ × List PrimitiveTypeInfo)) →
    List Frame → Option (List Frame)
stepped takes leaves label fs =
    on_innermost (λ (g : Frame). option_and_then (λ (d : Frame). if can_branch fs d label then Some (left_by leaves d) else None) (pop takes g)) fs

-- the standard's steps by other numbers
module _ (m : Module) (results : List PrimitiveTypeInfo) (beyond other : Beyond) (k j : ℕ) (ls : beyond.labels k ≡ other.labels j)
    (d : beyond.default k ≡ other.default j) (takes : beyond.takes k ≡ other.takes j) (leaves : beyond.leaves k ≡ other.leaves j)
    (label : beyond.label k ≡ other.label j) (clauses : beyond.clauses k ≡ other.clauses j) where
  arity_numbers : handler_arity beyond k ≡ handler_arity other j
  arity_numbers =
      ap₂ (λ (ts : List PrimitiveTypeInfo) (us : Option (List PrimitiveTypeInfo)). record { starts = ts; ends = left_types us }) takes leaves

  other_numbers : (o : Other) (role : Role) (fs : List Frame) → other_step o role beyond k fs ≡ other_step o role other j fs
  other_numbers o handles fs =
      ap₂ (λ (cs : List (ℕ × List PrimitiveTypeInfo)) (a : Arity). only_where (are_labels fs cs) (open_frame (op.Other o) a fs)) clauses arity_numbers
  other_numbers o tries fs = ap (λ (a : Arity). open_frame (op.Other o) a fs) arity_numbers
  other_numbers o catches fs = ap (λ (a : Arity). catch_frame (op.Other o) a fs) arity_numbers
  other_numbers o delegates fs = refl
  other_numbers o does fs =
      ap (λ ts. stepped ts (beyond.leaves k) (beyond.label k) fs) takes ∙
      (ap (λ ts. stepped (other.takes j) ts (beyond.label k) fs) leaves ∙ ap (λ l. stepped (other.takes j) (other.leaves j) l fs) label)

  pub step_numbers : (o : Option Operator) (fs : List Frame) → by_step m results beyond o k fs ≡ by_step m results other o j fs
  step_numbers (Some (op.Block t)) fs = refl
  step_numbers (Some (op.Loop t)) fs = refl
  step_numbers (Some (op.If t)) fs = refl
  step_numbers (Some op.Else) fs = refl
  step_numbers (Some op.End) fs = refl
  step_numbers (Some (op.Br l)) fs = refl
  step_numbers (Some (op.BrIf l)) fs = refl
  step_numbers (Some (op.BrTable n)) fs =
      ap₂ (λ (i : ℕ) (is : List ℕ). option_and_then (λ f. on_innermost (λ g. option_and_then (λ d. if can_jump_all fs f d (take n is) then
      option_map cut_off (pop (label_types f) d) else None) (pop (primitive.I32 ∷ []) g)) fs) (slice_get fs i)) d ls
  step_numbers (Some (op.CallIndirect type table)) fs = refl
  step_numbers (Some op.Return) fs = refl
  step_numbers (Some op.Unreachable) fs = refl
  step_numbers (Some (op.Other o)) fs = other_numbers o (role_of o) fs
  step_numbers None fs = refl
  step_numbers (Some o) fs = refl

-- ---- in a module with further globals

module _ (input : List ℕ) (more : List PrimitiveTypeInfo) where
  arity_same : (m : Module) (t : BlockType) → arity_of m t ≡ arity_of (wider_module input more m) t
  arity_same m type.Empty = refl
  arity_same m (type.Value t) = refl
  arity_same m (type.FuncType i) = refl
  arity_same m type.Reference = refl

  has_same : (m : Module) (t : BlockType) → has_arity m t ≡ has_arity (wider_module input more m) t
  has_same m type.Empty = refl
  has_same m (type.Value t) = refl
  has_same m (type.FuncType i) = refl
  has_same m type.Reference = refl

  pub step_wider : (m : Module) (results : List PrimitiveTypeInfo) (beyond : Beyond) (o : Option Operator) (k : ℕ) (fs : List Frame) →
      by_step m results beyond o k fs ≡ by_step (wider_module input more m) results beyond o k fs
  step_wider m results beyond (Some (op.Block t)) k fs =
      ap₂ (λ (b : Bool) (a : Arity). only_where b (open_frame (op.Block t) a fs)) (has_same m t) (arity_same m t)
  step_wider m results beyond (Some (op.Loop t)) k fs =
      ap₂ (λ (b : Bool) (a : Arity). only_where b (open_frame (op.Loop t) a fs)) (has_same m t) (arity_same m t)
  step_wider m results beyond (Some (op.If t)) k fs =
      ap₂ (λ (b : Bool) (a : Arity). only_where b (option_and_then (open_frame (op.If t) a) (on_innermost (pop (primitive.I32 ∷ [])) fs)))
      (has_same m t) (arity_same m t)
  step_wider m results beyond (Some op.Else) k fs = refl
  step_wider m results beyond (Some op.End) k fs = refl
  step_wider m results beyond (Some (op.Br l)) k fs = refl
  step_wider m results beyond (Some (op.BrIf l)) k fs = refl
  step_wider m results beyond (Some (op.BrTable n)) k fs = refl
  step_wider m results beyond (Some (op.CallIndirect type table)) k fs = refl
  step_wider m results beyond (Some op.Return) k fs = refl
  step_wider m results beyond (Some op.Unreachable) k fs = refl
  step_wider m results beyond (Some (op.Other o)) k fs = refl
  step_wider m results beyond None k fs = refl
  step_wider m results beyond (Some o) k fs = refl

  -- an instruction that is valid is so there too
  pub innermost_wider : MoreGlobalsCheckAlike → (context : Context) (i : Instruction) (frames next : List Frame) →
      on_innermost (check_row context (integer_row i)) frames ≡ Some next →
      on_innermost (check_row (wider input more context) (integer_row i)) frames ≡ Some next
  innermost_wider law context i frames next e =
      let none : Structural = λ k fs. None in
      let same = law context input more (op.Instr i ∷ []) in
      sym (some_of (wider input more context) none (on_innermost (check_row (wider input more context) (integer_row i)) frames)) ∙
      same.checks none 0 frames next (ap (option_and_then (check context none 0 [])) e)
    where
      some_of : (c : Context) (none : Structural) (o : Option (List Frame)) → option_and_then (check c none 0 []) o ≡ o
      some_of c none (Some fs) = refl
      some_of c none None = refl

-- ---- instructions at the front, in one frame

pub coded_check : (context : Context) (steps : Structural) (code : List Instruction) (back : List Operator) (k : ℕ) (f : Frame) (fs : List Frame) →
    check context steps k (map (λ (i : Instruction). op.Instr i) code ++ back) (f ∷ fs) ≡
    option_and_then (λ g. check context steps k back (g ∷ fs)) (check_code context code f)
coded_check context steps [] back k f fs = refl
coded_check context steps (i ∷ code) back k f fs =
    go (check_row context (integer_row i) f) (λ g. coded_check context steps code back k g fs)
  where
    go : (o : Option Frame) → ((g : Frame) → check context steps k (map (λ (i : Instruction). op.Instr i) code ++ back) (g ∷ fs) ≡
        option_and_then (λ g. check context steps k back (g ∷ fs)) (check_code context code g)) →
        option_and_then (check context steps k (map (λ (i : Instruction). op.Instr i) code ++ back)) (option_map (λ g. g ∷ fs) o) ≡
        option_and_then (λ g. check context steps k back (g ∷ fs)) (option_and_then (check_code context code) o)
    go (Some g) next = next g
    go None next = refl
