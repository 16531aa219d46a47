-- Where one module does more than another, so it does in calls one after another.
use Rattle.std.proofs.Common.{◌≡◌, ℕ, List, [], ◌∷◌, ◌++◌, length, drop, refl, sym, ap, ap₂, ◌∙◌, subst}
use Rattle.std.specs.List.{All}
use Rattle.std.proofs.lemmas.List.{drop_at}
use Rattle.std.proofs.lemmas.List.Elements.{All-head, All-tail, All-drop, All-append}
use Rattle.wasm_code.specs.Instruction.{Instruction}
use Rattle.wasm_types.specs.Module.{Module}
use Rattle.wasm_types.specs.declared.types.PrimitiveTypeInfo.{PrimitiveTypeInfo}
use Rattle.wasm_execution.specs.Values.{asked_types, Value, IsValue, types, Cause, divide_by_zero, overflow, unreachable, unfinished, stuck}
use Rattle.wasm_execution.specs.Values.{met, Answer, Gives, Fails, World, IsAnswer, IsSound}
use Rattle.wasm_execution.specs.OutcomeLemmas.{types_append}
use Rattle.wasm_equivalence.specs.control.Wider.{wider_module, Begins, IsMore}
use Rattle.wasm_equivalence.specs.modules.Running.{Running, world_of, DoesMore, Called, IsTypedCall, after_trap, and_on, session, AreMore, SessionsDoMore}

-- behind a trap both go on, and behind a call that hasn't ended neither does
after_both : (cause : Cause) (xs ys : List Answer) → AreMore xs ys → AreMore (after_trap cause xs) (after_trap cause ys)
after_both divide_by_zero xs ys h = h
after_both overflow xs ys h = h
after_both unreachable xs ys h = h
after_both unfinished xs ys h = tt
after_both stuck xs ys h = tt
after_both (met mark) xs ys h = h

module _ (input : List ℕ) (more : List PrimitiveTypeInfo) (m n : Running) (info : n.host.info ≡ wider_module input more m.host.info)
    (h : DoesMore more m n) (fuel depth : ℕ) (first : IsSound (world_of m fuel depth)) (second : IsSound (world_of n fuel depth)) where
  abbrev w : World
  w = world_of m fuel depth

  abbrev v : World
  v = world_of n fuel depth

  behind_types : (gs after : List Value) → types gs ≡ m.host.info.globals → types (gs ++ after) ≡ m.host.info.globals ++ more → types after ≡ more
  behind_types gs after e k =
      let count = length m.host.info.globals in
      sym (drop_at (types gs) (types after) count (ap length e)) ∙
      (ap (drop count) (sym (types_append gs after) ∙ k) ∙ drop_at m.host.info.globals more count refl)

  abbrev Sessions : List Called → Type 0
  Sessions calls = (gs behind : List Value) (r : ℕ) → types gs ≡ m.host.info.globals → All IsValue gs → types behind ≡ more → All IsValue behind →
      AreMore (session w calls gs r) (session v calls (gs ++ behind) r)

  -- in the globals and the rest that were left
  then_on : (calls : List Called) (hs ks : List Value) (q p : ℕ) → Sessions calls → Begins hs ks → p ≡ q → types hs ≡ w.info.globals → All IsValue hs →
      types ks ≡ v.info.globals → All IsValue ks → AreMore (session w calls hs q) (session v calls ks p)
  then_on calls hs ks q p next begins rests first_types first_values second_types second_values =
      let own : types hs ≡ m.host.info.globals = first_types in
      let wide : types ks ≡ m.host.info.globals ++ more = second_types ∙ ap (λ (z : Module). z.globals) info in
      let after = begins.0 in
      let is : ks ≡ hs ++ after = begins.1 in
      let after_values : All IsValue after =
      subst (All IsValue) (ap (drop (length hs)) is ∙ drop_at hs after (length hs) refl) (All-drop IsValue (length hs) ks second_values) in
      subst (λ (z : List Value × ℕ). AreMore (session w calls hs q) (session v calls z.0 z.1)) (ap₂ (λ (z : List Value) (t : ℕ). (z, t)) (sym is) (sym rests))
      (next hs after q own first_values (behind_types hs after own (ap types (sym is) ∙ wide)) after_values)

  go : (calls : List Called) (i : Instruction) (results others : List PrimitiveTypeInfo) (gs all : List Value) (r : ℕ) (a b : Answer) → IsMore a b →
      IsAnswer w.info i results gs r a → IsAnswer v.info i others all r b → Sessions calls →
      AreMore (and_on a (session w calls)) (and_on b (session v calls))
  go calls i results others gs all r (Gives us hs q) (Gives vs ks p) k x y next = (k, then_on calls hs ks q p next k.1 k.2 x.2 x.3 y.2 y.3)
  go calls i results others gs all r (Fails cause hs q) (Fails why ks p) k x y next = (
    k,
    subst (λ (z : Cause). AreMore (after_trap cause (session w calls hs q)) (after_trap z (session v calls ks p))) (sym k.0)
        (after_both cause (session w calls hs q) (session v calls ks p) (then_on calls hs ks q p next k.1 k.2 x.1 x.2 y.1 y.2)),
  )
  go calls i results others gs all r (Gives us hs q) (Fails why ks p) k x y next = absurd k
  go calls i results others gs all r (Fails cause hs q) (Gives vs ks p) k x y next = absurd k

  all_sessions : (calls : List Called) → All (IsTypedCall m.host.info) calls → Sessions calls
  all_sessions [] t gs behind r g a b u = tt
  all_sessions (c ∷ calls) t gs behind r g a b u =
      let (results, e, values) = All-head (IsTypedCall m.host.info) c calls t in
      let all : types (gs ++ behind) ≡ v.info.globals =
      types_append gs behind ∙ (ap₂ (λ (x y : List PrimitiveTypeInfo). x ++ y) g b ∙ sym (ap (λ (z : Module). z.globals) info)) in
      go calls c.instruction results results gs (gs ++ behind) r (w.answer c.instruction c.operands gs r) (v.answer c.instruction c.operands (gs ++ behind) r)
      (h fuel depth c.instruction results c.operands gs behind r e values g a b u)
      (first.answers c.instruction results c.operands gs r e values g a)
      (second.answers c.instruction results c.operands (gs ++ behind) r
      (ap (λ (z : Module). asked_types z c.instruction (types c.operands)) info ∙ e) values all (All-append IsValue gs behind a u))
      (all_sessions calls (All-tail (IsTypedCall m.host.info) c calls t))

pub sessions : SessionsDoMore
sessions input more m n info h fuel depth first second calls gs behind r t g a b u =
    all_sessions input more m n info h fuel depth first second calls t gs behind r g a b u
