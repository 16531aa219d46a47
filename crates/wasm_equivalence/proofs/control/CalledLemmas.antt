-- What a call answers, and the exception that it meets: both keep the types, and see nothing of what stands behind the module's globals.
use Rattle.std.proofs.Common.{◌≡◌, ℕ, List, [], ◌++◌, length, take, drop, Option, Some, None, refl, sym, ap, ap₂, ◌∙◌, subst, append-nil}
use Rattle.std.specs.Prelude.{◌≢◌, is_some, if◌then◌else◌}
use Rattle.std.specs.List.{All}
use Rattle.std.proofs.lemmas.List.Elements.{All-take, All-drop, All-append}
use Rattle.wasm_code.specs.Instruction.{Instruction}
use Rattle.wasm_code.specs.declared.operator.Operator.{Operator}
use Rattle.wasm_types.specs.Module.{Module}
use Rattle.wasm_types.specs.declared.types.PrimitiveTypeInfo.{PrimitiveTypeInfo}
use Rattle.wasm_execution.specs.Values.{asked_types, Value, IsValue, types, Context, World, State, own_globals, further_globals, HasTypes}
use Rattle.wasm_execution.specs.Values.{Cause, met, Answer, Gives, Fails, Stuck}
use Rattle.wasm_execution.specs.Machine.{answered}
use Rattle.wasm_execution.specs.Agreement.{with_globals, EndsTyped}
use Rattle.wasm_execution.specs.StateLemmas.{own_is, own_front, further_is, others_none}
use Rattle.wasm_execution.specs.TypeLemmas.{asked_typed}
use Rattle.wasm_equivalence.specs.control.Function.{Label, Reached, Done, FollowsReached, Others, OthersKeepTypes, state_by, reached_by, IsTyped}
use Rattle.wasm_equivalence.specs.control.Standard.{Beyond, thrown, answered_by, called}
use Rattle.wasm_equivalence.specs.control.Wider.{wider, state_of, IsWiderAnswer, IsWiderWorld, IsWiderReached}
use Rattle.wasm_equivalence.proofs.control.AloneLemmas.{typed_by}
use Rattle.wasm_equivalence.proofs.control.WiderLemmas.{front_types, behind_types, own_both}
use Rattle.wasm_equivalence.proofs.control.FineLemmas.{Widening, IsFine, with_own, stuck_fine}
use Rattle.wasm_equivalence.proofs.control.ThrownLemmas.{thrown_fine}

-- behind a trap the state has the globals that it left
pub behind_trap : {context : Context} {s : State} (h : HasTypes context s) → (gs others : List Value) (r : ℕ) → others ≡ [] → types gs ≡ context.info.globals →
    All IsValue gs → HasTypes context (record s { globals = gs ++ others; rest = r })
behind_trap {context} {s} h gs others r n t k =
    let is : gs ≡ gs ++ others = sym (append-nil gs) ∙ ap (λ (x : List Value). gs ++ x) (sym n) in
    subst (λ (x : List Value). HasTypes context (record s { globals = x; rest = r })) is (with_own h gs r t k)

module _ (widening : Widening) (results : List PrimitiveTypeInfo) (structure : List Operator) (beyond : Beyond) (next : List Value → State → Reached)
    (on_fine : (vs : List Value) → All IsValue vs → IsFine widening (next vs)) (i : Instruction) (vs : List Value) (labels : List Label)
    (below : List Value) (a : All IsValue vs) (b : All IsValue below) where
  open widening use {input, extra, context}

  abbrev m : Module
  m = context.info

  abbrev after : Answer → (behind : List Value) → State → Reached
  after o behind s = answered_by m results structure beyond next o behind labels below s

  abbrev thrown_on : ℕ → State → Reached
  thrown_on mark = thrown m results structure beyond mark 0 labels below

  fine_on : (us : List Value) → All IsValue us → IsFine widening (next (below ++ us))
  fine_on us k = on_fine (below ++ us) (All-append IsValue below us b k)

  fine_thrown : (mark : ℕ) → IsFine widening (thrown_on mark)
  fine_thrown mark = thrown_fine widening m results structure beyond mark 0 labels below b

  module _ (rs : List PrimitiveTypeInfo) (e : asked_types m i (types vs) ≡ Some rs) where
    keeps_answer : (o : Answer) (others : List Value) (s : State) → HasTypes context s → others ≡ [] → EndsTyped context rs (answered o others s) →
        IsTyped context (after o others s)
    keeps_answer (Gives us gs r) others s h n k = (fine_on us k.1).keeps (record s { globals = gs ++ others; rest = r }) k.2
    keeps_answer (Fails (met mark) gs r) others s h n k =
        (fine_thrown mark).keeps (record s { globals = gs ++ others; rest = r }) (behind_trap h gs others r n k.0 k.1)
    keeps_answer (Fails cause gs r) others s h n k = k

    -- with those behind the others
    join : (gs others more : List Value) → others ≡ [] → (gs ++ others) ++ more ≡ gs ++ more
    join gs others more n = ap (λ (x : List Value). (gs ++ x) ++ more) n ∙ ap (λ (x : List Value). x ++ more) (append-nil gs)

    carried : (more kept : List Value) (p q : Reached) → types kept ≡ types more → FollowsReached kept p q → FollowsReached more p q
    carried more kept p q t f = (f.0, f.1 ∙ t, f.2)

    follows_answer : (o : Answer) (others kept more : List Value) (s : State) → HasTypes context s → others ≡ [] → types kept ≡ types more →
        EndsTyped context rs (answered o others s) → after o others s ≢ Done Stuck →
        FollowsReached more (after o others s) (after o kept (with_globals more s))
    follows_answer (Gives us gs r) others kept more s h n t k free =
        let at : State = record s { globals = gs ++ others; rest = r } in
        subst (λ (x : List Value). FollowsReached more (next (below ++ us) at) (next (below ++ us) (record s { globals = x; rest = r })))
        (join gs others kept n) (carried more kept _ _ t ((fine_on us k.1).follows kept at k.2 free))
    follows_answer (Fails (met mark) gs r) others kept more s h n t k free =
        let at : State = record s { globals = gs ++ others; rest = r } in
        subst (λ (x : List Value). FollowsReached more (thrown_on mark at) (thrown_on mark (record s { globals = x; rest = r })))
        (join gs others kept n)
        (carried more kept _ _ t ((fine_thrown mark).follows kept at (behind_trap h gs others r n k.0 k.1) free))
    follows_answer (Fails cause gs r) others kept more s h n t k free = (more, refl, refl)

    alone_answer : (x : Others) (o : Answer) (others kept : List Value) (s : State) → OthersKeepTypes x → HasTypes context s → kept ≡ others → others ≡ [] →
        EndsTyped context rs (answered o others s) → after o kept (state_by x s) ≡ reached_by x (after o others s)
    alone_answer x (Gives us gs r) others kept s is h n z k =
        ap (λ (l : List Value). next (below ++ us) (state_by x (record s { globals = gs ++ l; rest = r }))) n ∙
        (fine_on us k.1).alone x (record s { globals = gs ++ others; rest = r }) is k.2
    alone_answer x (Fails (met mark) gs r) others kept s is h n z k =
        ap (λ (l : List Value). thrown_on mark (state_by x (record s { globals = gs ++ l; rest = r }))) n ∙
        (fine_thrown mark).alone x (record s { globals = gs ++ others; rest = r }) is (behind_trap h gs others r z k.0 k.1)
    alone_answer x (Fails cause gs r) others kept s is h n z k = refl

    module _ (w v : World) (widens : IsWiderWorld input extra w v) (at : w.info ≡ m) (ls gs : List Value) (r : ℕ)
        (h : HasTypes (wider input extra context) (state_of v ls gs r)) where
      wide_trap : (cause : Cause) (hs ks : List Value) (p q : ℕ) (behind others : List Value) → others ≡ [] → ks ≡ hs ++ behind → q ≡ p →
          (types ks ≡ m.globals ++ extra) × All IsValue ks →
          IsWiderReached w v (after (Fails cause hs p) behind (state_of w ls gs r)) (after (Fails cause ks q) others (state_of v ls gs r))
      wide_trap (met mark) hs ks p q behind others n x y k =
          let is : ks ++ others ≡ hs ++ behind = ap (λ (l : List Value). ks ++ l) n ∙ (append-nil ks ∙ x) in
          let both : (ks ++ others, q) ≡ (hs ++ behind, p) = ap₂ (λ (l : List Value) (y : ℕ). (l, y)) is y in
          let typed : HasTypes (wider input extra context) (state_of v ls (hs ++ behind) p) =
          subst (λ (l : List Value × ℕ). HasTypes (wider input extra context) (state_of v ls l.0 l.1)) both (behind_trap h ks others q n k.0 k.1) in
          subst (λ (l : List Value × ℕ). IsWiderReached w v (thrown_on mark (state_of w ls (hs ++ behind) p)) (thrown_on mark (state_of v ls l.0 l.1)))
          (sym both) ((fine_thrown mark).wide w v widens at ls (hs ++ behind) p typed)
      wide_trap cause hs ks p q behind others n x y k = (refl, (behind, x), y)

      wide_answer : (o q : Answer) (behind others : List Value) → others ≡ [] → IsWiderAnswer behind o q →
          EndsTyped (wider input extra context) rs (answered q others (state_of v ls gs r)) →
          IsWiderReached w v (after o behind (state_of w ls gs r)) (after q others (state_of v ls gs r))
      wide_answer (Gives us hs p) (Gives xs ks q) behind others n x k =
          let is : ks ++ others ≡ hs ++ behind = ap (λ (l : List Value). ks ++ l) n ∙ (append-nil ks ∙ x.1) in
          let typed : HasTypes (wider input extra context) (state_of v ls (hs ++ behind) p) =
          subst (λ (l : List Value × ℕ). HasTypes (wider input extra context) (state_of v ls l.0 l.1))
          (ap₂ (λ (l : List Value) (y : ℕ). (l, y)) is x.2) k.2 in
          subst (λ (l : List Value × List Value × ℕ). IsWiderReached w v (next (below ++ us) (state_of w ls (hs ++ behind) p))
          (next (below ++ l.0) (state_of v ls l.1 l.2)))
          (sym (ap₂ (λ (l : List Value) (y : List Value × ℕ). (l, y.0, y.1)) x.0 (ap₂ (λ (l : List Value) (y : ℕ). (l, y)) is x.2)))
          ((fine_on us (subst (All IsValue) x.0 k.1)).wide w v widens at ls (hs ++ behind) p typed)
      wide_answer (Fails cause hs p) (Fails why ks q) behind others n x k =
          subst (λ (c : Cause). IsWiderReached w v (after (Fails cause hs p) behind (state_of w ls gs r)) (after (Fails c ks q) others (state_of v ls gs r)))
          (sym x.0) (wide_trap cause hs ks p q behind others n x.1 x.2 k)
      wide_answer (Gives us hs p) (Fails why ks q) behind others n x k = absurd x
      wide_answer (Fails cause hs p) (Gives xs ks q) behind others n x k = absurd x

  pub called_fine : IsFine widening (called m results structure beyond next i vs labels below)
  called_fine = go (asked_types m i (types vs)) refl
    where
      go : (o : Option (List PrimitiveTypeInfo)) → asked_types m i (types vs) ≡ o → IsFine widening (λ s. if is_some o then
          after (s.world.answer i vs (own_globals s) s.rest) (s.world.others i vs (own_globals s) s.rest (further_globals s)) s else Done Stuck)
      go None e = stuck_fine widening
      go (Some rs) e = record {
        keeps = λ s h. keeps_answer rs e (s.world.answer i vs (own_globals s) s.rest) _ s h (others_none h i vs (own_globals s)) (asked_typed h i vs rs a e);
        follows = λ more s h n.
            let all : State = with_globals more s in
            let kept = s.world.others i vs (own_globals all) s.rest (further_globals all) in
            subst (λ (gs : List Value).
            FollowsReached more (after (s.world.answer i vs (own_globals s) s.rest) (s.world.others i vs (own_globals s) s.rest (further_globals s)) s)
            (after (s.world.answer i vs gs s.rest) kept all))
            (own_is h ∙ sym (own_front h more))
            (follows_answer rs e (s.world.answer i vs (own_globals s) s.rest) _ kept more s h (others_none h i vs (own_globals s))
            (h.sound.kept i vs (own_globals all) s.rest (further_globals all) ∙ ap types (further_is h more)) (asked_typed h i vs rs a e) n);
        alone = λ x s is h.
            alone_answer rs e x (s.world.answer i vs (own_globals s) s.rest) _ _ s is h
            (others_none (typed_by x is context s h) i vs (own_globals s) ∙ sym (others_none h i vs (own_globals s))) (others_none h i vs (own_globals s))
            (asked_typed h i vs rs a e);
        wide = λ w v widens at ls gs r h.
            let count = length w.info.globals in
            let t : State = state_of v ls gs r in
            let behind = w.others i vs (take count gs) r (drop count gs) in
            wide_answer rs e w v widens at ls gs r h (w.answer i vs (take count gs) r) (v.answer i vs (own_globals t) r) behind
            (v.others i vs (own_globals t) r (further_globals t)) (others_none h i vs (own_globals t))
            (subst (λ (x : List Value). IsWiderAnswer behind (w.answer i vs (take count gs) r) (v.answer i vs x r))
            (sym (own_both input extra w v widens context at ls gs r h))
            (widens.answers i rs vs (take count gs) (drop count gs) r (ap (λ (x : Module). asked_types x i (types vs)) at ∙ e) a
            (front_types input extra w v widens context at ls gs r h) (All-take IsValue count gs h.global_values)
            (behind_types input extra w v widens context at ls gs r h) (All-drop IsValue count gs h.global_values)))
            (asked_typed h i vs rs a e);
      }
