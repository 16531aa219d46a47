-- A branch in a valid body stands where its label leads.
use Rattle.std.proofs.Common.{◌≡◌, ℕ, zero, suc, ◌-◌, ◌<◌, inl, inr, true, List, [], ◌∷◌, ◌++◌, length, take, Option, Some, None, refl, sym}
use Rattle.std.proofs.Common.{ap, ap₂, ◌∙◌, subst, arith, append_assoc, append-nil, Bool, false}
use Rattle.std.specs.Prelude.{slice_get, option_map, option_and_then, is_some, if◌then◌else◌, ◌==◌}
use Rattle.std.specs.List.{All}
use Rattle.std.proofs.lemmas.Bool.{and_parts}
use Rattle.std.proofs.lemmas.List.{take_at}
use Rattle.std.proofs.lemmas.List.Elements.{All-append}
use Rattle.wasm_code.specs.declared.operator.Operator.{Operator}
use Rattle.wasm_code.specs.declared.operator.Operator.TheVariants as op
use Rattle.wasm_types.specs.Module.{Module}
use Rattle.wasm_types.specs.declared.types.PrimitiveTypeInfo.TheVariants as primitive
use Rattle.wasm_execution.specs.Values.{Value, IsValue, types, State, HasTypes}
use Rattle.wasm_execution.specs.OutcomeLemmas.{length_types}
use Rattle.wasm_execution.specs.RowLemmas.{and_then_some, map_some}
use Rattle.wasm_equivalence.specs.control.Function.{Label, Reached, At}
use Rattle.wasm_equivalence.specs.control.Blocks.{Arity, arity_of}
use Rattle.wasm_equivalence.specs.control.Standard.{last_of, unwound, label_at, end_of, jump_to, branch, branch_by, branch_on}
use Rattle.wasm_equivalence.specs.validation.Algorithm.{Frame, popped, on_innermost}
use Rattle.wasm_equivalence.specs.validation.StandardSteps.{pop, push, cut_off, opened_by, types_by, label_types, can_jump, can_jump_all}
use Rattle.wasm_equivalence.proofs.validation.PoppedLemmas.{pop_values, push_values, opened_values, last_is, front_is}
use Rattle.wasm_equivalence.proofs.validation.RunChecks.{if_some}
use Rattle.wasm_equivalence.proofs.validation.FrameLemmas.{Like, like_then}
use Rattle.wasm_equivalence.proofs.validation.WalkLemmas.{Walk, all_front, all_behind, IsOpen, leads_by, Fits, top_of, Stands, Next, ends_stand}
use Rattle.wasm_equivalence.proofs.validation.ConditionLemmas.{condition, choose_stands}

get_inside : {X : Type 0} (xs : List X) (i : ℕ) (x : X) → slice_get xs i ≡ Some x → i < length xs
get_inside [] i x e = absurd cc
get_inside (y ∷ xs) zero x e = omega arith
get_inside (y ∷ xs) (suc i) x e = let l = get_inside xs i x e in omega arith

-- the stack down to the label's height, and the last values
unwound_is : (below middle ws : List Value) (stack : List Value) (height n : ℕ) → stack ≡ below ++ middle → last_of n stack ≡ ws →
    height ≡ length below → unwound height n stack ≡ below ++ ws
unwound_is below middle ws stack height n e last h =
    ap₂ (λ (x y : List Value). x ++ y) (ap₂ (λ (k : ℕ) (x : List Value). take k x) h e ∙ take_at below middle (length below) refl) last

types_like : (o : Option Operator) (f g : Frame) → f.starts ≡ g.starts → f.ends ≡ g.ends → types_by o f ≡ types_by o g
types_like (Some (op.Loop t)) f g a b = a
types_like o f g a b = b

label_like : (f g : Frame) → Like f g → label_types f ≡ label_types g
label_like f g like = ap (λ o. types_by o f) like.opened ∙ types_like g.opened f g like.starts like.ends

pub found_like : (l : ℕ) (f g to : Frame) (outer : List Frame) → Like f g → slice_get (g ∷ outer) l ≡ Some to →
    (x : Frame) × (slice_get (f ∷ outer) l ≡ Some x) × (label_types x ≡ label_types to)
found_like zero f g to outer like e = let same : g ≡ to = cc in (f, refl, label_like f g like ∙ ap label_types same)
found_like (suc l) f g to outer like e = (to, e, refl)

module _ (walk : Walk) where
  open walk use {context, results, structure, beyond, trace}

  abbrev m : Module
  m = context.info

  abbrev ending : ℕ → ℕ
  ending opener = end_of m results structure opener

  -- ---- to a label

  jump_stands : (f g : Frame) (gs : List Frame) (label : Label) (labels : List Label) (below middle ws stack : List Value) (s : State) →
      IsOpen walk f label (g ∷ gs) → Fits walk g gs labels below → label.height ≡ length below → stack ≡ below ++ middle → last_of (length ws) stack ≡ ws →
      types ws ≡ label_types f → All IsValue stack → All IsValue ws → HasTypes context s →
      Stands walk (jump_to m results structure beyond (slice_get structure label.opener) label labels stack s)
  jump_stands f g gs label labels below middle ws stack s h fits height e last w a b typed = elim h.kind [
    | inl loop ↦
        let (t, at, same, opened_is, there) = loop in
        let ar = h.arity in
        let wt : types ws ≡ ar.starts = w ∙ (ap (λ o. types_by o f) opened_is ∙ h.starts) in
        let n : length (arity_of m t).starts ≡ length ws =
        ap (λ (x : Arity). length x.starts) (sym same) ∙ (sym (ap length wt) ∙ length_types ws) in
        let whole : unwound label.height (length (arity_of m t).starts) stack ≡ below ++ ws =
        unwound_is below middle ws stack label.height (length (arity_of m t).starts) e (ap (λ k. last_of k stack) n ∙ last) height in
        let new = opened_by (op.Loop t) ar in
        let opened : IsOpen walk new label (g ∷ gs) = record {
          arity = ar;
          starts = refl;
          ends = refl;
          inside = h.inside;
          after = h.after;
          kind = inl (t, at, same, refl, there);
          catches = λ mark rest c x. leads_by walk f new (g ∷ gs) h.ends c (h.catches mark rest c x);
        } in
        let l = get_inside structure label.opener (op.Loop t) at in
        subst (λ o. Stands walk (jump_to m results structure beyond o label labels stack s)) (sym at)
        (subst (λ x. Stands walk (At (suc label.opener) (label ∷ labels) x s)) (sym whole) (
          omega arith,
          new,
          g ∷ gs,
          there,
          (below, ws, refl, opened_values (op.Loop t) ar ws wt, height, opened, fits),
          All-append IsValue below ws (all_front below middle (subst (All IsValue) e a)) b,
          typed,
        ))
    | inr forward ↦
        let ar = h.arity in
        let wt : types ws ≡ ar.ends = w ∙ (forward.1 f ∙ h.ends) in
        let n : length ar.ends ≡ length ws = sym (ap length wt) ∙ length_types ws in
        let whole : unwound label.height (length ar.ends) stack ≡ below ++ ws =
        unwound_is below middle ws stack label.height (length ar.ends) e (ap (λ k. last_of k stack) n ∙ last) height in
        subst (λ (r : Reached). Stands walk r) (sym (forward.0 labels stack s))
        (subst (λ x. Stands walk (At (suc (ending label.opener)) labels x s)) (sym whole)
        (ends_stand walk f (g ∷ gs) label labels below ws s h wt g gs refl fits
        (All-append IsValue below ws (all_front below middle (subst (All IsValue) e a)) b) typed))
  ]

  pub branch_stands : (l : ℕ) (f to : Frame) (outer : List Frame) (labels : List Label) (base middle ws stack : List Value) (s : State) →
      Fits walk f outer labels base → stack ≡ base ++ middle → last_of (length ws) stack ≡ ws → slice_get (f ∷ outer) l ≡ Some to →
      types ws ≡ label_types to → All IsValue stack → All IsValue ws → HasTypes context s →
      Stands walk (branch m results structure beyond l labels stack s)
  branch_stands zero f to [] [] base middle ws stack s fits e last at w a b typed =
      let same : f ≡ to = cc in
      let own : types ws ≡ results = w ∙ (ap label_types (sym same) ∙ (ap (λ o. types_by o f) fits.0 ∙ fits.1)) in
      let n : length results ≡ length ws = sym (ap length own) ∙ length_types ws in
      subst (λ (vs : List Value). (types vs ≡ results) × All IsValue vs) (sym (ap (λ k. last_of k stack) n ∙ last)) (own, b)
  branch_stands (suc l) f to [] [] base middle ws stack s fits e last at w a b typed = absurd cc
  branch_stands l f to [] (label ∷ labels) base middle ws stack s fits e last at w a b typed = absurd fits
  branch_stands l f to (g ∷ gs) [] base middle ws stack s fits e last at w a b typed = absurd fits
  branch_stands zero f to (g ∷ gs) (label ∷ labels) base middle ws stack s fits e last at w a b typed =
      let (below, vs, is, v, height, opened, outer) = fits in
      let same : f ≡ to = cc in
      let whole : stack ≡ below ++ (vs ++ middle) = e ∙ (ap (λ (x : List Value). x ++ middle) is ∙ append_assoc below vs middle) in
      jump_stands f g gs label labels below (vs ++ middle) ws stack s opened outer height whole last (w ∙ ap label_types (sym same)) a b typed
  branch_stands (suc l) f to (g ∷ gs) (label ∷ labels) base middle ws stack s fits e last at w a b typed =
      let (below, vs, is, v, height, opened, outer) = fits in
      let whole : stack ≡ below ++ (vs ++ middle) = e ∙ (ap (λ (x : List Value). x ++ middle) is ∙ append_assoc below vs middle) in
      branch_stands l g to gs labels below (vs ++ middle) ws stack s outer whole last at w a b typed

  -- to a label with the values that it takes on top
  pub taken_stands : (l : ℕ) (g h to : Frame) (outer : List Frame) (labels : List Label) (stack : List Value) (s : State) → Fits walk g outer labels stack →
      slice_get (g ∷ outer) l ≡ Some to → pop (label_types to) g ≡ Some h → All IsValue stack → HasTypes context s →
      Stands walk (branch m results structure beyond l labels stack s)
  taken_stands l g h to outer labels stack s fits at popped a typed =
      let top = top_of walk g outer labels stack fits in
      let p = pop_values (label_types to) g h top.vs top.values popped in
      let whole : stack ≡ (top.below ++ p.rest) ++ p.top =
      top.is ∙ (ap (λ (x : List Value). top.below ++ x) p.is ∙ sym (append_assoc top.below p.rest p.top)) in
      let last : last_of (length p.top) stack ≡ p.top =
      ap (last_of (length p.top)) whole ∙ last_is (top.below ++ p.rest) p.top (length p.top) refl in
      branch_stands l g to outer labels stack [] p.top stack s fits (sym (append-nil stack)) last at p.typed a
      (all_behind (top.below ++ p.rest) p.top (subst (All IsValue) whole a)) typed

  -- ---- branches

  pub br_if_stands : (to : ℕ) (k : ℕ) → k < length structure → Next walk k (op.BrIf to)
  br_if_stands n k l g outer labels stack s fits e a typed =
      let one = primitive.I32 ∷ [] in
      let next = trace.frames (suc k) in
      let (to, at, b) = and_then_some (λ f. on_innermost (λ g. option_and_then (λ d. option_map (push (label_types f)) (pop (label_types f) d))
      (pop one g)) (g ∷ outer)) (slice_get (g ∷ outer) n) next e in
      let ts = label_types to in
      let (h, c, d) = map_some (λ (h : Frame). h ∷ outer) (option_and_then (λ d. option_map (push ts) (pop ts d)) (pop one g)) next b in
      let (f, u, v) = and_then_some (λ d. option_map (push ts) (pop ts d)) (pop one g) h c in
      let (q, w, x) = map_some (push ts) (pop ts f) h v in
      let cond = condition walk g f outer labels stack fits u in
      let base_all : All IsValue cond.base = all_front cond.base (cond.value ∷ []) (subst (All IsValue) cond.is a) in
      let outside = top_of walk g outer labels stack fits in
      let like = (pop_values one g f outside.vs outside.values u).like in
      let (to', at', same) = found_like n f g to outer like at in
      let top = top_of walk f outer labels cond.base cond.fits in
      let p = pop_values ts f q top.vs top.values w in
      let whole : cond.base ≡ top.below ++ (p.rest ++ p.top) = top.is ∙ ap (λ (z : List Value). top.below ++ z) p.is in
      choose_stands walk f outer labels stack cond (λ below. branch m results structure beyond n labels below s) (λ below. At (suc k) labels below s)
      (taken_stands n f q to' outer labels cond.base s cond.fits at' (ap (λ z. pop z f) same ∙ w) base_all typed) (
        omega arith,
        push ts q,
        outer,
        sym d ∙ ap (λ (z : Frame). z ∷ outer) (sym x),
        subst (Fits walk (push ts q) outer labels) (sym whole) (top.again (push ts q) (p.rest ++ p.top)
            (like_then (record { opened = refl; starts = refl; ends = refl }) p.like) (push_values ts q p.rest p.top p.left p.typed)),
        base_all,
        typed,
      )

  -- every label that may be chosen is one that can be jumped to
  label_holds : (frames : List Frame) (to f : Frame) (P : ℕ → Type 0) →
      ((l : ℕ) (x h : Frame) → slice_get frames l ≡ Some x → pop (label_types x) f ≡ Some h → P l) →
      (ls : List ℕ) (default i : ℕ) → P default → can_jump_all frames to f ls ≡ true → P (label_at ls default i)
  label_holds frames to f P each [] default i d e = d
  label_holds frames to f P each (l ∷ ls) default zero d e =
      go (slice_get frames l) refl (and_parts (can_jump frames to f l) (can_jump_all frames to f ls) e).0
    where
      again : (b : Bool) (o : Option Frame) (x : Frame) → slice_get frames l ≡ Some x → pop (label_types x) f ≡ o →
          is_some (if b then o else None) ≡ true → P l
      again true (Some h) x a c e = each l x h a c
      again true None x a c e = absurd cc
      again false o x a c e = absurd cc

      go : (o : Option Frame) → slice_get frames l ≡ o → is_some (option_and_then
          (λ (x : Frame). if length (label_types x) == length (label_types to) then pop (label_types x) f else None) o) ≡ true → P l
      go (Some x) a e = again (length (label_types x) == length (label_types to)) (pop (label_types x) f) x a refl e
      go None a e = absurd cc
  label_holds frames to f P each (l ∷ ls) default (suc i) d e =
      label_holds frames to f P each ls default i d (and_parts (can_jump frames to f l) (can_jump_all frames to f ls) e).1

  branch_by_stands : (n k : ℕ) (c : Value) (labels : List Label) (stack : List Value) (s : State) → c.type ≡ primitive.I32 →
      Stands walk (branch m results structure beyond (label_at (take n (beyond.labels k)) (beyond.default k) c.number) labels stack s) →
      Stands walk (branch_by m results structure beyond n k c.type c.number labels stack s)
  branch_by_stands n k c labels stack s e h = subst (λ t. Stands walk (branch_by m results structure beyond n k t c.number labels stack s)) (sym e) h

  pub br_table_stands : (n k : ℕ) → k < length structure → Next walk k (op.BrTable n)
  br_table_stands n k l g outer labels stack s fits e a typed =
      let one = primitive.I32 ∷ [] in
      let next = trace.frames (suc k) in
      let frames = g ∷ outer in
      let (to, at, b) = and_then_some (λ (f : Frame). on_innermost (λ (g : Frame). option_and_then (λ (d : Frame).
      if can_jump_all frames f d (take n (beyond.labels k)) then option_map cut_off (pop (label_types f) d) else None) (pop one g)) frames)
      (slice_get frames (beyond.default k)) next e in
      let (h, c, d) = map_some (λ (h : Frame). h ∷ outer) (option_and_then (λ (d : Frame). if can_jump_all frames to d (take n (beyond.labels k)) then
      option_map cut_off (pop (label_types to) d) else None) (pop one g)) next b in
      let (f, u, v) = and_then_some (λ (d : Frame). if can_jump_all frames to d (take n (beyond.labels k)) then
      option_map cut_off (pop (label_types to) d) else None) (pop one g) h c in
      let (can, w) = if_some (can_jump_all frames to f (take n (beyond.labels k))) (option_map cut_off (pop (label_types to) f)) h v in
      let (q, x, y) = map_some cut_off (pop (label_types to) f) h w in
      let cond = condition walk g f outer labels stack fits u in
      let base_all : All IsValue cond.base = all_front cond.base (cond.value ∷ []) (subst (All IsValue) cond.is a) in
      let outside = top_of walk g outer labels stack fits in
      let like = (pop_values one g f outside.vs outside.values u).like in
      let each = λ (l : ℕ) (x h : Frame) (a : slice_get frames l ≡ Some x) (p : pop (label_types x) f ≡ Some h).
      (let (x', at', same) = found_like l f g x outer like a in
      taken_stands l f h x' outer labels cond.base s cond.fits at' (ap (λ z. pop z f) same ∙ p) base_all typed) in
      subst (λ (z : List Value). Stands walk (branch_on m results structure beyond n k (last_of 1 z) labels (take (length z - 1) z) s)) (sym cond.is)
      (subst (λ (z : List Value). Stands walk (branch_on m results structure beyond n k z labels
      (take (length (cond.base ++ cond.value ∷ []) - 1) (cond.base ++ cond.value ∷ [])) s)) (sym (last_is cond.base (cond.value ∷ []) 1 refl))
      (subst (λ (z : List Value). Stands walk (branch_by m results structure beyond n k cond.value.type cond.value.number labels z s))
      (sym (front_is cond.base (cond.value ∷ []) 1 refl))
      (branch_by_stands n k cond.value labels cond.base s cond.typed
      (label_holds frames to f (λ l. Stands walk (branch m results structure beyond l labels cond.base s)) each (take n (beyond.labels k))
      (beyond.default k)
      cond.value.number (each (beyond.default k) to q at x) can))))
