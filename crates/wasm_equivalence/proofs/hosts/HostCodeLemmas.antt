-- Embedders whose imports run code of the host's own are sound where the code is typed.
use Rattle.std.proofs.Common.{◌≡◌, ℕ, List, [], ◌++◌, length, take, drop, true, Option, Some, None, refl, sym, ap, ap₂, ◌∙◌, subst, append_assoc}
use Rattle.std.specs.List.{All}
use Rattle.std.proofs.lemmas.List.{take_at, drop_at, take-map, drop-map, take-append-drop}
use Rattle.std.proofs.lemmas.List.Elements.{All-nil, All-take, All-drop, All-append}
use Rattle.wasm_code.specs.Instruction.{Instruction}
use Rattle.wasm_types.specs.Module.{Module}
use Rattle.wasm_types.specs.declared.types.PrimitiveTypeInfo.{PrimitiveTypeInfo}
use Rattle.wasm_execution.specs.ExactRow.{ExactRow, exact_row}
use Rattle.wasm_execution.specs.OtherRow.{changes}
use Rattle.wasm_execution.specs.Values.{asked_types, Value, IsValue, types, Cause, divide_by_zero, overflow, unreachable, unfinished, stuck}
use Rattle.wasm_execution.specs.Values.{met, Answer, Gives, Fails, IsAnswer, IsSound}
use Rattle.wasm_execution.specs.OutcomeLemmas.{types_append, length_types}
use Rattle.wasm_equivalence.specs.modules.Program.{Answering, world_with, Host, IsSoundHost}
use Rattle.wasm_equivalence.specs.control.Wider.{wider_module, Begins, IsMore, IsMoreWorld}
use Rattle.wasm_equivalence.specs.modules.Running.{IsWiderHost}
use Rattle.wasm_equivalence.specs.hosts.Embedder.{Embedder, host_in, IsSoundEmbedder, with_behind}
use Rattle.wasm_equivalence.specs.hosts.HostCode.{HostCode, answers, asks, if_told, tell, run_code, AnswerIsTold, IsTypedCode, Import}
use Rattle.wasm_equivalence.specs.hosts.HostCode.{Imports, IsImport, AreImports, answer_later, answer_code, hosting, globals_left}
use Rattle.wasm_equivalence.specs.hosts.HostCode.{rest_left, catching, IsCatching}
use Rattle.wasm_equivalence.proofs.hosts.CallBackLemmas.{trapping, never, unfinished_is}

-- ---- what is told

told_of : (m : Module) (i : Instruction) (results : List PrimitiveTypeInfo) (gs : List Value) (r : ℕ) (a : Answer) → IsAnswer m i results gs r a →
    AnswerIsTold m results a
told_of m i results gs r (Gives us hs q) h = (h.0, h.1, h.2, h.3)
told_of m i results gs r (Fails cause hs q) h = (h.1, h.2)

answer_by_told : (m : Module) (i : Instruction) → changes i ≡ true → (results : List PrimitiveTypeInfo) (gs : List Value) (r : ℕ) (a : Answer) →
    AnswerIsTold m results a → IsAnswer m i results gs r a
answer_by_told m i changing results gs r (Gives us hs q) h = (h.0, h.1, h.2, h.3, λ c. absurd (never m i changing results gs r c))
answer_by_told m i changing results gs r (Fails cause hs q) h = (trapping i changing, h.0, h.1, λ c. absurd (never m i changing results gs r c))

if_typed : (m : Module) (results : List PrimitiveTypeInfo) (cause : Cause) (a b : Answer) → AnswerIsTold m results a → AnswerIsTold m results b →
    AnswerIsTold m results (if_told cause a b)
if_typed m results divide_by_zero a b h k = h
if_typed m results overflow a b h k = h
if_typed m results unreachable a b h k = h
if_typed m results unfinished a b h k = k
if_typed m results stuck a b h k = k
if_typed m results (met mark) a b h k = h

if_more : (cause : Cause) (a b c d : Answer) → IsMore a b → IsMore c d → IsMore (if_told cause a c) (if_told cause b d)
if_more divide_by_zero a b c d h k = h
if_more overflow a b c d h k = h
if_more unreachable a b c d h k = h
if_more unfinished a b c d h k = k
if_more stuck a b c d h k = k
if_more (met mark) a b c d h k = h

-- ---- in a module with globals behind

module _ (m : Module) (input : List ℕ) (more : List PrimitiveTypeInfo) where
  abbrev k : Module
  k = wider_module input more m

  abbrev count : ℕ
  count = length m.globals

  front_types : (all : List Value) → types all ≡ k.globals → types (take count all) ≡ m.globals
  front_types all e = sym (take-map (λ (v : Value). v.type) count all) ∙ (ap (take count) e ∙ take_at m.globals more count refl)

  back_types : (all : List Value) → types all ≡ k.globals → types (drop count all) ≡ more
  back_types all e = sym (drop-map (λ (v : Value). v.type) count all) ∙ (ap (drop count) e ∙ drop_at m.globals more count refl)

  both_types : (gs behind : List Value) → types gs ≡ m.globals → types behind ≡ more → types (gs ++ behind) ≡ k.globals
  both_types gs behind g b = types_append gs behind ∙ ap₂ (λ (x y : List PrimitiveTypeInfo). x ++ y) g b

  tell_typed : (given results : List PrimitiveTypeInfo) (next : Answer → List Value → Answer) →
      ((a : Answer) (after : List Value) → AnswerIsTold m given a → types after ≡ more → All IsValue after → AnswerIsTold k results (next a after)) →
      (a : Answer) → AnswerIsTold k given a → AnswerIsTold k results (tell count next a)
  tell_typed given results next h (Gives us hs q) t =
      h (Gives us (take count hs) q) (drop count hs) (t.0, t.1, front_types hs t.2, All-take IsValue count hs t.3) (back_types hs t.2)
      (All-drop IsValue count hs t.3)
  tell_typed given results next h (Fails cause hs q) t =
      if_typed k results cause (next (Fails cause (take count hs) q) (drop count hs)) (Fails cause hs q)
      (h (Fails cause (take count hs) q) (drop count hs) (front_types hs t.0, All-take IsValue count hs t.1) (back_types hs t.0)
      (All-drop IsValue count hs t.1)) t

  module _ (calls : Answering) (sound : IsSound (world_with k calls)) where
    told_in : (i : Instruction) (given : List PrimitiveTypeInfo) (vs gs behind : List Value) (r : ℕ) → asked_types m i (types vs) ≡ Some given →
        All IsValue vs → types gs ≡ m.globals → All IsValue gs → types behind ≡ more → All IsValue behind → AnswerIsTold k given (calls i vs (gs ++ behind) r)
    told_in i given vs gs behind r e a g v b u =
        told_of k i given (gs ++ behind) r (calls i vs (gs ++ behind) r)
        (sound.answers i given vs (gs ++ behind) r e a (both_types gs behind g b) (All-append IsValue gs behind v u))

    code_typed : (results : List PrimitiveTypeInfo) (code : HostCode) (behind : List Value) → IsTypedCode m results code → types behind ≡ more →
        All IsValue behind → AnswerIsTold k results (run_code calls count code behind)
    code_typed results (answers (Gives vs gs r)) behind h b u = (h.0, h.1, both_types gs behind h.2 b, All-append IsValue gs behind h.3 u)
    code_typed results (answers (Fails cause gs r)) behind h b u = (both_types gs behind h.0 b, All-append IsValue gs behind h.1 u)
    code_typed results (asks i vs gs r next) behind h b u =
        let (given, e, a, g, v, later) = h in
        tell_typed given results (λ x after. run_code calls count (next x) after) (λ x after t c d. code_typed results (next x) after (later x t) c d)
        (calls i vs (gs ++ behind) r) (told_in i given vs gs behind r e a g v b u)

  -- ---- and in one with more behind these

  module _ (second : List ℕ) (further : List PrimitiveTypeInfo) where
    abbrev after_k : Module
    after_k = wider_module second further k

    -- the globals that are shown are the same, and the others stand behind those that pass by
    record Splits (hs ks : List Value) : Type 0 where
      last : List Value
      front : take count hs ≡ take count ks
      back : drop count hs ++ last ≡ drop count ks
      last_types : types last ≡ further
      last_values : All IsValue last

    splits : (hs ks : List Value) → Begins hs ks → types hs ≡ k.globals → types ks ≡ after_k.globals → All IsValue ks → Splits hs ks
    splits hs ks begins h t u =
        let x = begins.0 in
        let sized : length (take count hs) ≡ count = sym (length_types (take count hs)) ∙ ap length (front_types hs h) in
        let parts : ks ≡ take count hs ++ (drop count hs ++ x) =
        begins.1 ∙ (ap (λ (z : List Value). z ++ x) (sym (take-append-drop count hs)) ∙ append_assoc (take count hs) (drop count hs) x) in
        let whole : length (types hs) ≡ length k.globals = ap length h in
        record {
          last = x;
          front = sym (ap (take count) parts ∙ take_at (take count hs) (drop count hs ++ x) count sized);
          back = sym (ap (drop count) parts ∙ drop_at (take count hs) (drop count hs ++ x) count sized);
          last_types = sym (drop_at (types hs) (types x) (length k.globals) whole) ∙
              (ap (drop (length k.globals)) (sym (types_append hs x) ∙ (ap types (sym begins.1) ∙ t)) ∙
              drop_at k.globals further (length k.globals) refl);
          last_values = subst (All IsValue) (ap (drop (length hs)) begins.1 ∙ drop_at hs x (length hs) refl) (All-drop IsValue (length hs) ks u);
        }

    abbrev GoesOn : (given : List PrimitiveTypeInfo) → (next other : Answer → List Value → Answer) → Type 0
    GoesOn given next other =
        (a : Answer) (behind last : List Value) → AnswerIsTold m given a → types behind ≡ more → All IsValue behind → types last ≡ further → All IsValue last →
        IsMore (next a behind) (other a (behind ++ last))

    tell_more : (given : List PrimitiveTypeInfo) (next other : Answer → List Value → Answer) → GoesOn given next other → (a b : Answer) → IsMore a b →
        AnswerIsTold k given a → AnswerIsTold after_k given b → IsMore (tell count next a) (tell count other b)
    tell_more given next other h (Gives us hs q) (Gives vs ks p) same t z =
        let s = splits hs ks same.1 t.2 z.2 z.3 in
        subst (λ (x : List Value × List Value × ℕ × List Value). IsMore (next (Gives us (take count hs) q) (drop count hs)) (other (Gives x.0 x.1 x.2) x.3))
        (ap₂ (λ (x y : List Value × List Value). (x.0, x.1, q, y.1)) (ap₂ (λ (x y : List Value). (x, y)) (sym same.0) s.front)
        (ap (λ (x : List Value). (x, x)) s.back) ∙ ap (λ (x : ℕ). (vs, take count ks, x, drop count ks)) (sym same.2))
        (h (Gives us (take count hs) q) (drop count hs) s.last (t.0, t.1, front_types hs t.2, All-take IsValue count hs t.3) (back_types hs t.2)
        (All-drop IsValue count hs t.3) s.last_types s.last_values)
    tell_more given next other h (Fails cause hs q) (Fails why ks p) same t z =
        let s = splits hs ks same.1 t.0 z.0 z.1 in
        subst (λ (x : Cause × List Value × ℕ × List Value). IsMore
        (if_told cause (next (Fails cause (take count hs) q) (drop count hs)) (Fails cause hs q))
        (if_told x.0 (other (Fails x.0 x.1 x.2) x.3) (Fails x.0 ks x.2)))
        (ap₂ (λ (x : Cause × ℕ) (y : List Value × List Value). (x.0, y.0, x.1, y.1)) (ap₂ (λ (x : Cause) (y : ℕ). (x, y)) (sym same.0) (sym same.2))
        (ap₂ (λ (x y : List Value). (x, y)) s.front s.back))
        (if_more cause (next (Fails cause (take count hs) q) (drop count hs)) (other (Fails cause (take count hs) q) (drop count hs ++ s.last))
        (Fails cause hs q) (Fails cause ks q)
        (h (Fails cause (take count hs) q) (drop count hs) s.last (front_types hs t.0, All-take IsValue count hs t.1) (back_types hs t.0)
        (All-drop IsValue count hs t.1) s.last_types s.last_values) (refl, same.1, refl))
    tell_more given next other h (Gives us hs q) (Fails why ks p) same t z = absurd same
    tell_more given next other h (Fails cause hs q) (Gives vs ks p) same t z = absurd same

    with_more : (behind last : List Value) (a : Answer) → IsMore (with_behind behind a) (with_behind (behind ++ last) a)
    with_more behind last (Gives vs gs r) = (refl, (last, sym (append_assoc gs behind last)), refl)
    with_more behind last (Fails cause gs r) = (refl, (last, sym (append_assoc gs behind last)), refl)

    module _ (calls wide : Answering) (sound : IsSound (world_with k calls)) (wide_sound : IsSound (world_with after_k wide))
        (widens : IsMoreWorld second further (world_with k calls) (world_with after_k wide)) where
      told_there : (i : Instruction) (given : List PrimitiveTypeInfo) (vs gs behind last : List Value) (r : ℕ) → asked_types m i (types vs) ≡ Some given →
          All IsValue vs → types gs ≡ m.globals → All IsValue gs → types behind ≡ more → All IsValue behind → types last ≡ further → All IsValue last →
          AnswerIsTold after_k given (wide i vs ((gs ++ behind) ++ last) r)
      told_there i given vs gs behind last r e a g x b u l y =
          let all : types ((gs ++ behind) ++ last) ≡ after_k.globals =
          types_append (gs ++ behind) last ∙ ap₂ (λ (p q : List PrimitiveTypeInfo). p ++ q) (both_types gs behind g b) l in
          told_of after_k i given ((gs ++ behind) ++ last) r (wide i vs ((gs ++ behind) ++ last) r)
          (wide_sound.answers i given vs ((gs ++ behind) ++ last) r e a all (All-append IsValue (gs ++ behind) last (All-append IsValue gs behind x u) y))

      pub code_more : (results : List PrimitiveTypeInfo) (code : HostCode) (behind last : List Value) → IsTypedCode m results code → types behind ≡ more →
          All IsValue behind → types last ≡ further → All IsValue last → IsMore (run_code calls count code behind) (run_code wide count code (behind ++ last))
      code_more results (answers a) behind last h b u l y = with_more behind last a
      code_more results (asks i vs gs r next) behind last h b u l y =
          let (given, e, a, g, x, later) = h in
          subst (λ (z : List Value). IsMore (tell count (λ p after. run_code calls count (next p) after) (calls i vs (gs ++ behind) r))
          (tell count (λ p after. run_code wide count (next p) after) (wide i vs z r))) (append_assoc gs behind last)
          (tell_more given (λ p after. run_code calls count (next p) after) (λ p after. run_code wide count (next p) after)
          (λ p after end t c d f z. code_more results (next p) after end (later p t) c d f z) (calls i vs (gs ++ behind) r)
          (wide i vs ((gs ++ behind) ++ last) r)
          (widens.answers i given vs (gs ++ behind) last r e a (both_types gs behind g b) (All-append IsValue gs behind x u) l y)
          (told_in calls sound i given vs gs behind r e a g x b u) (told_there i given vs gs behind last r e a g x b u l y))

-- ---- embedders

module _ (m : Module) (imports : Imports) (e : Embedder) (fine : AreImports m imports) (input : List ℕ) (more : List PrimitiveTypeInfo) where
  abbrev here : Module
  here = wider_module input more m

  abbrev own : ℕ
  own = length m.globals

  abbrev in_module : Module → Host
  in_module x = host_in (hosting m imports e) x

  -- the code of an import, with the globals that stand behind those that it is shown
  typed_at : (i : Instruction) (code : Import) → imports i ≡ Some code → (results : List PrimitiveTypeInfo) (vs gs : List Value) (r : ℕ) →
      asked_types m i (types vs) ≡ Some results → All IsValue vs → types gs ≡ here.globals → All IsValue gs →
      IsTypedCode m results (code vs (take own gs) r)
  typed_at i code x results vs gs r t a g v =
      (fine i code x).typed results vs (take own gs) r t a (front_types m input more gs g) (All-take IsValue own gs v)

  module _ (sound : IsSoundHost (host_in e here)) where
    -- an exact row runs no code
    no_code : (i : Instruction) (row : ExactRow) → here.exact ≡ true → exact_row i ≡ Some row → imports i ≡ None
    no_code i row h y = go (imports i) refl
      where
        go : (o : Option Import) → imports i ≡ o → o ≡ None
        go None x = refl
        go (Some code) x = let z : Some row ≡ None = sym y ∙ (fine i code x).not_exact h in absurd cc

    base_sound : IsSound (world_with here ((in_module here).base))
    base_sound = record {
      answers = λ i results vs gs r t a g v. go i results vs gs r g v (sound.base_sound.answers i results vs gs r t a g v) (imports i) refl;
      kept = λ i vs gs r others. refl;
      exact = λ h.
          let x = sound.base_sound.exact h in
          record {
            memories = x.memories;
            follows = λ i row results vs gs r y t a g v.
                ap (λ (o : Option Import). answer_later o (e.base here i vs gs r) gs r) (no_code i row h y) ∙
                x.follows i row results vs gs r y t a g v;
          };
    }
      where
        go : (i : Instruction) (results : List PrimitiveTypeInfo) (vs gs : List Value) (r : ℕ) → types gs ≡ here.globals → All IsValue gs →
            IsAnswer here i results gs r (e.base here i vs gs r) → (o : Option Import) → imports i ≡ o →
            IsAnswer here i results gs r (answer_later o (e.base here i vs gs r) gs r)
        go i results vs gs r g v h None x = h
        go i results vs gs r g v h (Some code) x = unfinished_is here i (fine i code x).changes_all results gs r g v

    over_sound : (calls : Answering) → IsSound (world_with here calls) → IsSound (world_with here ((in_module here).over calls))
    over_sound calls s = record {
      answers = λ i results vs gs r t a g v. go i results vs gs r t a g v (imports i) refl;
      kept = λ i vs gs r others. refl;
      exact = λ h.
          let x = (sound.over_sound calls s).exact h in
          record {
            memories = x.memories;
            follows = λ i row results vs gs r y t a g v.
                ap (λ (o : Option Import). answer_code own o calls (e.over here calls i vs gs r) vs gs r) (no_code i row h y) ∙
                x.follows i row results vs gs r y t a g v;
          };
    }
      where
        go : (i : Instruction) (results : List PrimitiveTypeInfo) (vs gs : List Value) (r : ℕ) → asked_types here i (types vs) ≡ Some results →
            All IsValue vs → types gs ≡ here.globals → All IsValue gs → (o : Option Import) → imports i ≡ o →
            IsAnswer here i results gs r (answer_code own o calls (e.over here calls i vs gs r) vs gs r)
        go i results vs gs r t a g v None x = (sound.over_sound calls s).answers i results vs gs r t a g v
        go i results vs gs r t a g v (Some code) x =
            answer_by_told here i (fine i code x).changes_all results gs r (run_code calls own (code vs (take own gs) r) (drop own gs))
            (code_typed m input more calls s results (code vs (take own gs) r) (drop own gs) (typed_at i code x results vs gs r t a g v)
            (back_types m input more gs g) (All-drop IsValue own gs v))

    host_sound : IsSoundHost (in_module here)
    host_sound = record { base_sound = base_sound; over_sound = over_sound }

    module _ (second : List ℕ) (further : List PrimitiveTypeInfo)
        (wider : IsWiderHost second further (host_in e here) (host_in e (wider_module second further here))) where
      abbrev after : Module
      after = wider_module second further here

      base_more : IsMoreWorld second further (world_with here ((in_module here).base)) (world_with after ((in_module after).base))
      base_more = record {
        info_is = refl;
        answers = λ i results vs gs behind r t a g v b u.
            go i vs gs behind r (wider.base_is.answers i results vs gs behind r t a g v b u) (imports i);
      }
        where
          go : (i : Instruction) (vs gs behind : List Value) (r : ℕ) → IsMore (e.base here i vs gs r) (e.base after i vs (gs ++ behind) r) →
              (o : Option Import) →
              IsMore (answer_later o (e.base here i vs gs r) gs r) (answer_later o (e.base after i vs (gs ++ behind) r) (gs ++ behind) r)
          go i vs gs behind r h None = h
          go i vs gs behind r h (Some code) = (refl, (behind, refl), refl)

      over_more : (calls wide : Answering) → IsSound (world_with here calls) → IsSound (world_with after wide) →
          IsMoreWorld second further (world_with here calls) (world_with after wide) →
          IsMoreWorld second further (world_with here ((in_module here).over calls)) (world_with after ((in_module after).over wide))
      over_more calls wide s z widens = record {
        info_is = refl;
        answers = λ i results vs gs behind r t a g q b u. go i results vs gs behind r t a g q b u (imports i) refl;
      }
        where
          go : (i : Instruction) (results : List PrimitiveTypeInfo) (vs gs behind : List Value) (r : ℕ) → asked_types here i (types vs) ≡ Some results →
              All IsValue vs → types gs ≡ here.globals → All IsValue gs → types behind ≡ further → All IsValue behind →
              (o : Option Import) → imports i ≡ o →
              IsMore (answer_code own o calls (e.over here calls i vs gs r) vs gs r)
              (answer_code own o wide (e.over after wide i vs (gs ++ behind) r) vs (gs ++ behind) r)
          go i results vs gs behind r t a g q b u None x = (wider.over_is calls wide s z widens).answers i results vs gs behind r t a g q b u
          go i results vs gs behind r t a g q b u (Some code) x =
              let front = take own gs in
              let back = drop own gs in
              let sized : length front ≡ own = sym (length_types front) ∙ ap length (front_types m input more gs g) in
              let parts : gs ++ behind ≡ front ++ (back ++ behind) =
              ap (λ (y : List Value). y ++ behind) (sym (take-append-drop own gs)) ∙ append_assoc front back behind in
              subst (λ (y : List Value × List Value). IsMore (run_code calls own (code vs front r) back) (run_code wide own (code vs y.0 r) y.1))
              (sym (ap₂ (λ (y z : List Value). (y, z)) (ap (take own) parts ∙ take_at front (back ++ behind) own sized)
              (ap (drop own) parts ∙ drop_at front (back ++ behind) own sized)))
              (code_more m input more second further calls wide s z widens results (code vs front r) back behind (typed_at i code x results vs gs r t a g q)
              (back_types m input more gs g) (All-drop IsValue own gs q) b u)

      host_more : IsWiderHost second further (in_module here) (in_module after)
      host_more = record { info_is = refl; base_is = base_more; over_is = over_more }

pub hosting_sound : (m : Module) (imports : Imports) (e : Embedder) → IsSoundEmbedder m e → AreImports m imports → IsSoundEmbedder m (hosting m imports e)
hosting_sound m imports e h fine = record {
  sound = λ k w.
      subst (λ (x : Module). IsSoundHost (host_in (hosting m imports e) x)) (sym w.2)
      (host_sound m imports e fine w.0 w.1 (subst (λ (x : Module). IsSoundHost (host_in e x)) w.2 (h.sound k w)));
  wider = λ k w second further.
      subst (λ (x : Module). IsWiderHost second further (host_in (hosting m imports e) x) (host_in (hosting m imports e) (wider_module second further x)))
      (sym w.2)
      (host_more m imports e fine w.0 w.1 (subst (λ (x : Module). IsSoundHost (host_in e x)) w.2 (h.sound k w)) second further
      (subst (λ (x : Module). IsWiderHost second further (host_in e x) (host_in e (wider_module second further x))) w.2 (h.wider k w second further)));
}

-- ---- a host that catches every trap

pub catching_fine : (m : Module) (i back : Instruction) → IsCatching m i back → IsImport m i (catching back)
catching_fine m i back h = record {
  changes_all = h.changes_all;
  not_exact = h.not_exact;
  typed = λ results vs gs r e a g v. (
    h.results,
    h.takes_nothing,
    All-nil IsValue,
    g,
    v,
    λ x t. go x results (h.gives_nothing (types vs) results e) t,
  );
}
  where
    go : (x : Answer) (results : List PrimitiveTypeInfo) → results ≡ [] → AnswerIsTold m h.results x →
        IsTypedCode m results (answers (Gives [] (globals_left x) (rest_left x)))
    go (Gives us hs q) results e t = (sym e, All-nil IsValue, t.2, t.3)
    go (Fails cause hs q) results e t = (sym e, All-nil IsValue, t.0, t.1)
