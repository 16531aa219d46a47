-- A branch under a condition, and a conditional with a branch in it, to a label that takes nothing: both change the frames alike.
use Rattle.std.proofs.Common.{◌≡◌, ℕ, suc, Bool, false, List, [], ◌∷◌, length, drop, Option, Some, None, refl, sym, ap, ◌∙◌, arith}
use Rattle.std.specs.Prelude.{◌&&◌, ◌||◌, slice_get, option_map, option_and_then, if◌then◌else◌}
use Rattle.std.proofs.lemmas.Bool.{lt-leb}
use Rattle.std.proofs.lemmas.Option.{same_Some}
use Rattle.wasm_code.specs.declared.immediate.BlockType.TheVariants as type
use Rattle.wasm_code.specs.declared.operator.Operator.{Operator}
use Rattle.wasm_code.specs.declared.operator.Operator.TheVariants as op
use Rattle.wasm_types.specs.Module.{Module}
use Rattle.wasm_types.specs.declared.types.PrimitiveTypeInfo.{PrimitiveTypeInfo}
use Rattle.wasm_types.specs.declared.types.PrimitiveTypeInfo.TheVariants as primitive
use Rattle.wasm_execution.specs.Values.{Context}
use Rattle.wasm_execution.specs.RowLemmas.{and_then_some, map_some}
use Rattle.wasm_equivalence.specs.control.Standard.{Beyond}
use Rattle.wasm_equivalence.specs.validation.Algorithm.{all_may_be, Frame, can_pop, popped, with_pushed, Structural, on_innermost, check}
use Rattle.wasm_equivalence.specs.validation.StandardSteps.{pop, push, cut_off, opened_by, open_frame, label_types, by_step, standard_steps}
use Rattle.wrapped_code.proofs.PlaceLemmas.{dropped}
use Rattle.wrapped_code.proofs.FrameLemmas.{pop_known, none_on}
use Rattle.wrapped_code.proofs.CheckLemmas.{one_step}
use Rattle.wrapped_code.proofs.OpenedLemmas.{IsBare, bare_instead, label_same, pop_keeps}

-- ---- the condition

-- what both do: the innermost frame loses the condition, and the label takes nothing
pub record Pops (l : ℕ) (fs : List Frame) : Type 0 where
  pub one : Frame
  pub other : Frame
  pub outer : List Frame
  pub are : fs ≡ one ∷ outer
  pub pops : pop (primitive.I32 ∷ []) one ≡ Some other
  pub to : IsBare l (other ∷ outer)

pop_none : (f : Frame) → pop [] f ≡ Some f
pop_none f = ap (pop []) (sym (none_on f)) ∙ pop_known [] f

-- a conditional branch to a label that takes these
abbrev branched : List PrimitiveTypeInfo → Frame → Option Frame
branched ts g = option_and_then (λ d. option_map (push ts) (pop ts d)) (pop (primitive.I32 ∷ []) g)

branched_none : (f g : Frame) → pop (primitive.I32 ∷ []) f ≡ Some g → branched [] f ≡ Some g
branched_none f g e =
    ap (option_and_then (λ d. option_map (push []) (pop [] d))) e ∙ (ap (option_map (push [])) (pop_none g) ∙ ap Some (none_on g))

-- ---- the steps

module _ (context : Context) (results : List PrimitiveTypeInfo) (structure : List Operator) (beyond : Beyond) where
  abbrev info : Module
  info = context.info

  abbrev steps : Structural
  steps = standard_steps info results structure beyond

  pub plain_goes : (l k : ℕ) (fs : List Frame) (w : Pops l fs) → by_step info results beyond (Some (op.BrIf l)) k fs ≡ Some (w.other ∷ w.outer)
  plain_goes l k fs w =
      let all = w.one ∷ w.outer in
      let before = bare_instead l w.other w.one w.outer (label_same w.one w.other (pop_keeps (primitive.I32 ∷ []) w.one w.other w.pops)) w.to in
      ap (by_step info results beyond (Some (op.BrIf l)) k) w.are ∙
      (ap (option_and_then (λ (f : Frame). on_innermost (branched (label_types f)) all)) before.at ∙
      (ap (λ (ts : List PrimitiveTypeInfo). on_innermost (branched ts) all) before.bare ∙
      ap (option_map (λ (g : Frame). g ∷ w.outer)) (branched_none w.one w.other w.pops)))

  pub plain_needs : (l k : ℕ) (fs next : List Frame) → by_step info results beyond (Some (op.BrIf l)) k fs ≡ Some next → IsBare l fs → Pops l fs
  plain_needs l k [] next e b = absurd cc
  plain_needs l k (f ∷ fs) next e b =
      let (to, x, y) = and_then_some (λ (t : Frame). on_innermost (branched (label_types t)) (f ∷ fs)) (slice_get (f ∷ fs) l) next e in
      let (g, u, is) = map_some (λ (g : Frame). g ∷ fs) (branched (label_types to) f) next y in
      let (d, v, w) = and_then_some (λ (d : Frame). option_map (push (label_types to)) (pop (label_types to) d)) (pop (primitive.I32 ∷ []) f) g u in
      record {
        one = f;
        other = d;
        outer = fs;
        are = refl;
        pops = v;
        to = bare_instead l f d fs (label_same d f (sym (pop_keeps (primitive.I32 ∷ []) f d v))) b;
      }

  -- the conditional's frame
  abbrev inner : Frame
  inner = opened_by (op.If type.Empty) (record { starts = []; ends = [] })

  if_goes : (k : ℕ) (f d : Frame) (fs : List Frame) → pop (primitive.I32 ∷ []) f ≡ Some d →
      by_step info results beyond (Some (op.If type.Empty)) k (f ∷ fs) ≡ Some (inner ∷ d ∷ fs)
  if_goes k f d fs e =
      ap (λ (o : Option Frame). option_and_then (open_frame (op.If type.Empty) (record { starts = []; ends = [] })) (option_map (λ g. g ∷ fs) o)) e ∙
      ap (λ (o : Option Frame). option_map (λ gs. inner ∷ gs) (option_map (λ g. g ∷ fs) o)) (pop_none d)

  pub nested_goes : (l k : ℕ) (fs : List Frame) (back rest : List Operator) (w : Pops l fs) →
      drop k structure ≡ op.If type.Empty ∷ op.Br (suc l) ∷ op.End ∷ rest →
      check context steps k (op.If type.Empty ∷ op.Br (suc l) ∷ op.End ∷ back) fs ≡ check context steps (suc (suc (suc k))) back (w.other ∷ w.outer)
  nested_goes l k fs back rest w d =
      let x = dropped structure k (op.If type.Empty) (op.Br (suc l) ∷ op.End ∷ rest) d in
      let y = dropped structure (suc k) (op.Br (suc l)) (op.End ∷ rest) x.1 in
      let z = dropped structure (suc (suc k)) op.End rest y.1 in
      let all = w.other ∷ w.outer in
      one_step context results structure beyond k (op.If type.Empty) (op.Br (suc l) ∷ op.End ∷ back) fs (inner ∷ all) x.0
      (ap (by_step info results beyond (Some (op.If type.Empty)) k) w.are ∙ if_goes k w.one w.other w.outer w.pops) ∙
      (one_step context results structure beyond (suc k) (op.Br (suc l)) (op.End ∷ back) (inner ∷ all) (cut_off inner ∷ all) y.0
      (ap (option_and_then (λ (f : Frame). on_innermost (λ (g : Frame). option_map cut_off (pop (label_types f) g)) (inner ∷ all))) w.to.at ∙
      ap (λ (ts : List PrimitiveTypeInfo). on_innermost (λ (g : Frame). option_map cut_off (pop ts g)) (inner ∷ all)) w.to.bare) ∙
      one_step context results structure beyond (suc (suc k)) op.End back (cut_off inner ∷ all) all z.0
      (ap (λ (g : Frame). Some (g ∷ w.outer)) (none_on w.other)))

  -- a branch from a frame without operands, which is reached
  pops_bare : (ts : List PrimitiveTypeInfo) (g : Frame) → pop ts inner ≡ Some g → ts ≡ []
  pops_bare [] g e = refl
  pops_bare (t ∷ ts) g e =
      let n = suc (length ts) in
      let few : can_pop n inner ≡ false = ap (λ (b : Bool). b || false) (lt-leb n 0 (omega arith)) in
      let z : ◌≡◌ {A = Option Frame} None (Some g) =
      sym (ap (λ (b : Bool). if b && all_may_be (popped n inner) (t ∷ ts) then Some (with_pushed n inner []) else None) few) ∙ e in
      absurd cc

  pub nested_needs : (l k : ℕ) (fs left : List Frame) (back rest : List Operator) → drop k structure ≡ op.If type.Empty ∷ op.Br (suc l) ∷ op.End ∷ rest →
      check context steps k (op.If type.Empty ∷ op.Br (suc l) ∷ op.End ∷ back) fs ≡ Some left → Pops l fs
  nested_needs l k fs left back rest d h =
      let x = dropped structure k (op.If type.Empty) (op.Br (suc l) ∷ op.End ∷ rest) d in
      let y = dropped structure (suc k) (op.Br (suc l)) (op.End ∷ rest) x.1 in
      let (one, a, b) = and_then_some (check context steps (suc k) (op.Br (suc l) ∷ op.End ∷ back)) (steps k fs) left h in
      let (two, u, v) = and_then_some (check context steps (suc (suc k)) (op.End ∷ back)) (steps (suc k) one) left b in
      go fs one two (ap (λ o. by_step info results beyond o k fs) (sym x.0) ∙ a) (ap (λ o. by_step info results beyond o (suc k) one) (sym y.0) ∙ u)
    where
      go : (fs one two : List Frame) → by_step info results beyond (Some (op.If type.Empty)) k fs ≡ Some one →
          by_step info results beyond (Some (op.Br (suc l))) (suc k) one ≡ Some two → Pops l fs
      go [] one two e h = absurd cc
      go (f ∷ fs) one two e h =
          let opening : List Frame → Option (List Frame) = open_frame (op.If type.Empty) (record { starts = []; ends = [] }) in
          let (gs, x, y) = and_then_some opening (on_innermost (pop (primitive.I32 ∷ [])) (f ∷ fs)) one e in
          let (d, v, w) = map_some (λ (g : Frame). g ∷ fs) (pop (primitive.I32 ∷ []) f) gs x in
          let is : inner ∷ d ∷ fs ≡ one = same_Some (inner ∷ d ∷ fs) one (sym (if_goes k f d fs v) ∙ e) in
          let jump : Frame → Frame → Option Frame = λ t g. option_map cut_off (pop (label_types t) g) in
          let (to, p, q) = and_then_some (λ (t : Frame). on_innermost (jump t) (inner ∷ d ∷ fs)) (slice_get (d ∷ fs) l) two
          (ap (by_step info results beyond (Some (op.Br (suc l))) (suc k)) is ∙ h) in
          let (g, r, s) = map_some (λ (g : Frame). g ∷ d ∷ fs) (jump to inner) two q in
          let (c, m, n) = map_some cut_off (pop (label_types to) inner) g r in
          record {
            one = f;
            other = d;
            outer = fs;
            are = refl;
            pops = v;
            to = record { frame = to; at = p; bare = pops_bare (label_types to) c m };
          }
