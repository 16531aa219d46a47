-- Bodies that stay valid.
use Rattle.std.proofs.Common.{◌≡◌, ℕ, suc, Bool, List, [], ◌∷◌, ◌++◌, Option, Some, None, refl, sym, ap, ap₂, ◌∙◌}
use Rattle.std.specs.Prelude.{slice_get, option_map, option_and_then}
use Rattle.wasm_code.specs.Instruction.{Instruction}
use Rattle.wasm_code.specs.declared.immediate.BlockType.{BlockType}
use Rattle.wasm_code.specs.declared.immediate.BlockType.TheVariants as block
use Rattle.wasm_code.specs.declared.operator.Operator.{Operator}
use Rattle.wasm_code.specs.declared.operator.Operator.TheVariants as op
use Rattle.wasm_code.specs.declared.operator.Operator.TheVariants.{Instr}
use Rattle.wasm_types.specs.Module.{Module}
use Rattle.wasm_types.specs.declared.types.PrimitiveTypeInfo.{PrimitiveTypeInfo}
use Rattle.wasm_types.specs.declared.types.PrimitiveTypeInfo.TheVariants as primitive
use Rattle.wasm_execution.specs.Values.{Context}
use Rattle.wasm_execution.specs.IntegerRow.{integer_row}
use Rattle.wasm_execution.specs.RowLemmas.{and_then_some, map_some}
use Rattle.wasm_equivalence.specs.control.Function.{structural}
use Rattle.wasm_equivalence.specs.control.Blocks.{Arity, arity_of, has_arity}
use Rattle.wasm_equivalence.specs.control.Standard.{Deed, gives, jumps, breaks, enters, returns, Beyond}
use Rattle.wasm_equivalence.specs.control.Wider.{wider_module, wider}
use Rattle.wasm_equivalence.specs.validation.Algorithm.{Frame, check_row, check_code, Structural, on_innermost, check}
use Rattle.wasm_equivalence.specs.validation.StandardSteps.{pop, body_frame, open_frame, only_where, by_step, standard_steps}
use Rattle.wasm_equivalence.specs.validation.StaysValid.{ChecksAs, MoreGlobalsCheckAlike, ReplacedCodeStaysValid, ValidityFollows}
use Rattle.wasm_equivalence.specs.validation.Sound.{IsDeed, ValidBodiesStayValid, TargetsStay, DeedsStay}
use Rattle.wasm_equivalence.proofs.control.PieceLemmas.{coded, replaced_structure}
use Rattle.wasm_equivalence.proofs.validation.RowChecks.{check_row_wider}

-- ---- bodies

module _ (input : List ℕ) (more : List PrimitiveTypeInfo) (context : Context) (steps : Structural) where
  abbrev all : Context
  all = wider input more context

  -- one operator more at the front
  abbrev Alike : List Operator → List Operator → Type 0
  Alike os ps = (k : ℕ) (frames left : List Frame) → check context steps k os frames ≡ Some left → check all steps k ps frames ≡ Some left

  pub innermost_wider : (i : Instruction) (frames next : List Frame) → on_innermost (check_row context (integer_row i)) frames ≡ Some next →
      on_innermost (check_row all (integer_row i)) frames ≡ Some next
  innermost_wider i [] next e = absurd cc
  innermost_wider i (f ∷ fs) next e =
      let (g, a, b) = map_some (λ (g : Frame). g ∷ fs) (check_row context (integer_row i) f) next e in
      ap (option_map (λ (g : Frame). g ∷ fs)) (check_row_wider input more context (integer_row i) f g a) ∙ ap Some b

  alike_behind : (o : Operator) (os ps : List Operator) → Alike os ps → Alike (o ∷ os) (o ∷ ps)
  alike_behind (Instr i) os ps h k frames left e =
      let (next, a, b) = and_then_some (check context steps k os) (on_innermost (check_row context (integer_row i)) frames) left e in
      ap (option_and_then (check all steps k ps)) (innermost_wider i frames next a) ∙ h k next left b
  alike_behind o os ps h k frames left e =
      let (next, a, b) = and_then_some (check context steps (suc k) os) (steps k frames) left e in
      ap (option_and_then (check all steps (suc k) ps)) a ∙ h (suc k) next left b

  pub body_wider : (os : List Operator) → Alike os os
  body_wider [] k frames left e = e
  body_wider (o ∷ os) k frames left e = alike_behind o os os (body_wider os) k frames left e

  -- instructions at the front, in one frame
  pub coded_check : (c : Context) (code : List Instruction) (back : List Operator) (k : ℕ) (f : Frame) (fs : List Frame) →
      check c steps k (coded code ++ back) (f ∷ fs) ≡ option_and_then (λ g. check c steps k back (g ∷ fs)) (check_code c code f)
  coded_check c [] back k f fs = refl
  coded_check c (i ∷ code) back k f fs = go (check_row c (integer_row i) f) (λ g. coded_check c code back k g fs)
    where
      go : (o : Option Frame) →
          ((g : Frame) → check c steps k (coded code ++ back) (g ∷ fs) ≡ option_and_then (λ g. check c steps k back (g ∷ fs)) (check_code c code g)) →
          option_and_then (check c steps k (coded code ++ back)) (option_map (λ g. g ∷ fs) o) ≡
          option_and_then (λ g. check c steps k back (g ∷ fs)) (option_and_then (check_code c code) o)
      go (Some g) next = next g
      go None next = refl

  replaced_check : (i : Instruction) (own code : List Instruction) → ChecksAs context all (i ∷ own) code → (front back : List Operator) →
      Alike (front ++ (coded (i ∷ own) ++ back)) (front ++ (coded code ++ back))
  replaced_check i own code h [] back k [] left e = absurd cc
  replaced_check i own code h [] back k (f ∷ fs) left e =
      let (g, a, b) = and_then_some (λ (g : Frame). check context steps k back (g ∷ fs)) (check_code context (i ∷ own) f) left
      (sym (coded_check context (i ∷ own) back k f fs) ∙ e) in
      coded_check all code back k f fs ∙ (ap (option_and_then (λ (g : Frame). check all steps k back (g ∷ fs))) (h f g a) ∙
      body_wider back k (g ∷ fs) left b)
  replaced_check i own code h (o ∷ front) back k frames left e =
      alike_behind o (front ++ (coded (i ∷ own) ++ back)) (front ++ (coded code ++ back)) (replaced_check i own code h front back) k frames left e

pub more_globals : MoreGlobalsCheckAlike
more_globals context input more body = record { structure = refl; checks = λ steps. body_wider input more context steps body }

pub replaced_valid : ReplacedCodeStaysValid
replaced_valid context input requests front back i own code h = record {
  structure = replaced_structure (i ∷ own) code front back;
  checks = λ steps. replaced_check input requests context steps i own code h front back;
}

pub follows : ValidityFollows
follows context between after old middle new h k = record {
  structure = h.structure ∙ k.structure;
  checks = λ steps n frames left e. k.checks steps n frames left (h.checks steps n frames left e);
}

-- ---- the standard's steps in the module with further globals

arity_same : (input : List ℕ) (more : List PrimitiveTypeInfo) (m : Module) (t : BlockType) → arity_of m t ≡ arity_of (wider_module input more m) t
arity_same input more m block.Empty = refl
arity_same input more m (block.Value t) = refl
arity_same input more m (block.FuncType i) = refl
arity_same input more m block.Reference = refl

has_same : (input : List ℕ) (more : List PrimitiveTypeInfo) (m : Module) (t : BlockType) → has_arity m t ≡ has_arity (wider_module input more m) t
has_same input more m block.Empty = refl
has_same input more m (block.Value t) = refl
has_same input more m (block.FuncType i) = refl
has_same input more m block.Reference = refl

pub step_same : (input : List ℕ) (more : List PrimitiveTypeInfo) (m : Module) (results : List PrimitiveTypeInfo) (beyond : Beyond)
    (o : Option Operator) (k : ℕ) (fs : List Frame) → by_step m results beyond o k fs ≡ by_step (wider_module input more m) results beyond o k fs
step_same input more m results beyond (Some (op.Block t)) k fs =
    ap₂ (λ (b : Bool) (a : Arity). only_where b (open_frame (op.Block t) a fs)) (has_same input more m t) (arity_same input more m t)
step_same input more m results beyond (Some (op.Loop t)) k fs =
    ap₂ (λ (b : Bool) (a : Arity). only_where b (open_frame (op.Loop t) a fs)) (has_same input more m t) (arity_same input more m t)
step_same input more m results beyond (Some (op.If t)) k fs =
    ap₂ (λ (b : Bool) (a : Arity). only_where b (option_and_then (open_frame (op.If t) a) (on_innermost (pop (primitive.I32 ∷ [])) fs)))
    (has_same input more m t) (arity_same input more m t)
step_same input more m results beyond (Some op.Else) k fs = refl
step_same input more m results beyond (Some op.End) k fs = refl
step_same input more m results beyond (Some (op.Br l)) k fs = refl
step_same input more m results beyond (Some (op.BrIf l)) k fs = refl
step_same input more m results beyond (Some (op.BrTable n)) k fs = refl
step_same input more m results beyond (Some (op.CallIndirect type table)) k fs = refl
step_same input more m results beyond (Some op.Return) k fs = refl
step_same input more m results beyond (Some op.Unreachable) k fs = refl
step_same input more m results beyond (Some (op.Other o)) k fs = refl
step_same input more m results beyond None k fs = refl
step_same input more m results beyond (Some o) k fs = refl

check_same : (context : Context) (a b : Structural) → ((k : ℕ) (fs : List Frame) → a k fs ≡ b k fs) → (os : List Operator) (k : ℕ) (fs left : List Frame) →
    check context a k os fs ≡ Some left → check context b k os fs ≡ Some left
check_same context a b h [] k fs left e = e
check_same context a b h (op.Instr i ∷ os) k fs left e =
    let (mid, u, v) = and_then_some (check context a k os) (on_innermost (check_row context (integer_row i)) fs) left e in
    ap (option_and_then (check context b k os)) u ∙ check_same context a b h os k mid left v
check_same context a b h (o ∷ os) k fs left e =
    let (mid, u, v) = and_then_some (check context a (suc k) os) (a k fs) left e in
    ap (option_and_then (check context b (suc k) os)) (sym (h k fs) ∙ u) ∙ check_same context a b h os (suc k) mid left v

pub stays_valid : ValidBodiesStayValid
stays_valid context input requests results beyond old new valid h =
    let all = wider input requests context in
    let steps = standard_steps context.info results (structural old) beyond in
    let new_steps = standard_steps all.info results (structural new) beyond in
    check_same all steps new_steps
    (λ k fs. step_same input requests context.info results beyond (slice_get (structural old) k) k fs ∙
    ap (λ (os : List Operator). by_step all.info results beyond (slice_get os k) k fs) h.structure) new 0
    (body_frame results ∷ []) [] (h.checks steps 0 (body_frame results ∷ []) [] valid)

pub targets_stay : TargetsStay
targets_stay m input more structure beyond h k type table rest place i at e = h k type table rest place i at e

-- what another operator comes to is of its types there too
deed_stays : (m : Module) (input : List ℕ) (more results : List PrimitiveTypeInfo) (beyond : Beyond) (k : ℕ) (d : Deed) → IsDeed m results beyond k d →
    IsDeed (wider_module input more m) results beyond k d
deed_stays m input more results beyond k (gives vs r) h = h
deed_stays m input more results beyond k (jumps l vs r) h = h
deed_stays m input more results beyond k (breaks mark r) h = tt
deed_stays m input more results beyond k (enters i vs) h = (h.0, h.1, h.2, h.3)
deed_stays m input more results beyond k (returns i vs) h = (h.0, h.1)

pub deeds_stay : DeedsStay
deeds_stay m input more results structure beyond h = record {
  deeds = λ k o operands rest at part t a.
      deed_stays m input more results beyond k (beyond.deed k operands rest) (h.deeds k o operands rest at part t a);
  caught = h.caught;
}
