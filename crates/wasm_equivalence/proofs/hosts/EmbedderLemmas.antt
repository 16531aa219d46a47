-- Embedders that leave globals alone, and those that are sound in modules with more globals.
use Rattle.std.proofs.Common.{◌≡◌, ℕ, ◌+◌, Bool, true, false, List, [], ◌∷◌, ◌++◌, length, map, take, drop, refl, sym, ap, ap₂, ◌∙◌, subst}
use Rattle.std.proofs.Common.{append-nil, append_assoc}
use Rattle.std.specs.Prelude.{nat_le}
use Rattle.std.specs.List.{All}
use Rattle.std.proofs.lemmas.List.{take_at, drop_at, take-map, drop-map, take-append-drop}
use Rattle.std.proofs.lemmas.List.Elements.{All-take, All-drop, All-append}
use Rattle.wasm_code.specs.Instruction.{Instruction}
use Rattle.wasm_types.specs.Module.{Module}
use Rattle.wasm_types.specs.declared.types.PrimitiveTypeInfo.{PrimitiveTypeInfo}
use Rattle.wasm_execution.specs.ExactRow.{ExactRow, computes, loads, stores}
use Rattle.wasm_execution.specs.Values.{Value, IsValue, types, Answer, Gives, Fails, World, IsAnswer, IsSound, Memories, within, exactly}
use Rattle.wasm_execution.specs.Laws.{SoundWorldsExist}
use Rattle.wasm_execution.specs.OutcomeLemmas.{types_append, length_types}
use Rattle.wasm_equivalence.specs.modules.Program.{world_with, IsSoundHost}
use Rattle.wasm_equivalence.specs.control.Wider.{wider_module, IsMore, IsMoreWorld}
use Rattle.wasm_equivalence.specs.modules.Running.{IsWiderHost}
use Rattle.wasm_equivalence.specs.hosts.Embedder.{Embedder, host_in, IsWithMore, IsSoundEmbedder, with_behind, leaving}
use Rattle.wasm_equivalence.specs.hosts.EmbedderLaws.{EmbeddersAreSound}
use Rattle.wasm_equivalence.proofs.hosts.CallBackLemmas.{calling_back_sound}
use Rattle.wasm_equivalence.proofs.hosts.HostCodeLemmas.{hosting_sound, catching_fine}

-- ---- modules with more

pub none_more : (m : Module) → m ≡ wider_module m.input [] m
none_more m = ap (λ (gs : List PrimitiveTypeInfo). record m { globals = gs }) (sym (append-nil m.globals))

pub with_none : (m : Module) → IsWithMore m m
with_none m = (m.input, [], none_more m)

pub with_some : (m : Module) (input : List ℕ) (more : List PrimitiveTypeInfo) → IsWithMore m (wider_module input more m)
with_some m input more = (input, more, refl)

with_further : (m k : Module) (input : List ℕ) (more : List PrimitiveTypeInfo) → IsWithMore (wider_module input more m) k → IsWithMore m k
with_further m k input more h = (
  h.0,
  more ++ h.1,
  h.2 ∙ ap (λ (gs : List PrimitiveTypeInfo). record m { input = h.0; globals = gs }) (append_assoc m.globals more h.1),
)

pub stay : (m : Module) (e : Embedder) (input : List ℕ) (more : List PrimitiveTypeInfo) → IsSoundEmbedder m e → IsSoundEmbedder (wider_module input more m) e
stay m e input more h = record {
  sound = λ k w. h.sound k (with_further m k input more w);
  wider = λ k w. h.wider k (with_further m k input more w);
}

-- ---- an embedder that leaves globals alone

-- what an exact row does leaves globals behind as they are
within_behind : (b : Bool) (a : Answer) (outside : ℕ) (gs behind : List Value) (r : ℕ) →
    with_behind behind (within b a outside gs r) ≡ within b (with_behind behind a) outside (gs ++ behind) r
within_behind true a outside gs behind r = refl
within_behind false a outside gs behind r = refl

exactly_behind : (m : Memories) (row : ExactRow) (ts : List PrimitiveTypeInfo) (ns : List ℕ) (gs behind : List Value) (r : ℕ) →
    with_behind behind (exactly m row ts ns gs r) ≡ exactly m row ts ns (gs ++ behind) r
exactly_behind m (computes f) ts ns gs behind r = refl
exactly_behind m (loads a l) ts [] gs behind r = refl
exactly_behind m (loads a l) ts (n ∷ []) gs behind r =
    within_behind (nat_le (n + a.offset + l.count) (length (m.bytes r a.memory))) _ m.outside gs behind r
exactly_behind m (loads a l) ts (n ∷ k ∷ ns) gs behind r = refl
exactly_behind m (stores a count) [] [] gs behind r = refl
exactly_behind m (stores a count) [] (n ∷ []) gs behind r = refl
exactly_behind m (stores a count) [] (n ∷ k ∷ []) gs behind r =
    within_behind (nat_le (n + a.offset + count) (length (m.bytes r a.memory))) _ m.outside gs behind r
exactly_behind m (stores a count) [] (n ∷ k ∷ j ∷ ns) gs behind r = refl
exactly_behind m (stores a count) (t ∷ ts) ns gs behind r = refl

module _ (w : World) (sound : IsSound w) where
  abbrev count : ℕ
  count = length w.info.globals

  abbrev in_module : Module → World
  in_module k = world_with k ((leaving w).base k)

  module _ (input : List ℕ) (more : List PrimitiveTypeInfo) where
    abbrev k : Module
    k = wider_module input more w.info

    front_types : (all : List Value) → types all ≡ k.globals → types (take count all) ≡ w.info.globals
    front_types all e = sym (take-map (λ (v : Value). v.type) count all) ∙ (ap (take count) e ∙ take_at w.info.globals more count refl)

    back_types : (all : List Value) → types all ≡ k.globals → types (drop count all) ≡ more
    back_types all e = sym (drop-map (λ (v : Value). v.type) count all) ∙ (ap (drop count) e ∙ drop_at w.info.globals more count refl)

    answer_left : (i : Instruction) (results : List PrimitiveTypeInfo) (all : List Value) (r : ℕ) → types all ≡ k.globals → All IsValue all →
        (a : Answer) → IsAnswer w.info i results (take count all) r a → IsAnswer k i results all r (with_behind (drop count all) a)
    answer_left i results all r e u (Gives us gs q) h = (
      h.0,
      h.1,
      types_append gs (drop count all) ∙ ap₂ (λ (x y : List PrimitiveTypeInfo). x ++ y) h.2 (back_types all e),
      All-append IsValue gs (drop count all) h.3 (All-drop IsValue count all u),
      λ c. (ap (λ (x : List Value). x ++ drop count all) (h.4 c).0 ∙ take-append-drop count all, (h.4 c).1),
    )
    answer_left i results all r e u (Fails cause gs q) h = (
      h.0,
      types_append gs (drop count all) ∙ ap₂ (λ (x y : List PrimitiveTypeInfo). x ++ y) h.1 (back_types all e),
      All-append IsValue gs (drop count all) h.2 (All-drop IsValue count all u),
      λ c. (ap (λ (x : List Value). x ++ drop count all) (h.3 c).0 ∙ take-append-drop count all, (h.3 c).1),
    )

    left_sound : IsSound (in_module k)
    left_sound = record {
      answers = λ i results vs all r e a g u.
          answer_left i results all r g u (w.answer i vs (take count all) r)
          (sound.answers i results vs (take count all) r e a (front_types all g) (All-take IsValue count all u));
      kept = λ i vs all r others. refl;
      exact = λ h.
          let x = sound.exact h in
          record {
            memories = x.memories;
            follows = λ i row results vs all r e t a g u.
                ap (with_behind (drop count all)) (x.follows i row results vs (take count all) r e t a (front_types all g) (All-take IsValue count all u)) ∙
                (exactly_behind x.memories row results (map (λ (y : Value). y.number) vs) (take count all) (drop count all) r ∙
                ap (λ (gs : List Value). exactly x.memories row results (map (λ (y : Value). y.number) vs) gs r) (take-append-drop count all));
          };
    }

    host_sound : IsSoundHost (host_in (leaving w) k)
    host_sound = record { base_sound = left_sound; over_sound = λ calls t. left_sound }

    -- with globals behind these

    further : (behind after : List Value) (a : Answer) → IsMore (with_behind behind a) (with_behind (behind ++ after) a)
    further behind after (Gives vs gs r) = (refl, (after, sym (append_assoc gs behind after)), refl)
    further behind after (Fails cause gs r) = (refl, (after, sym (append_assoc gs behind after)), refl)

    sized : (gs : List Value) → types gs ≡ k.globals → length (take count gs) ≡ count
    sized gs e = sym (length_types (take count gs)) ∙ ap length (front_types gs e)

    parts : (gs behind : List Value) → gs ++ behind ≡ take count gs ++ (drop count gs ++ behind)
    parts gs behind = ap (λ (x : List Value). x ++ behind) (sym (take-append-drop count gs)) ∙ append_assoc (take count gs) (drop count gs) behind

    left_wider : (second : List ℕ) (further_types : List PrimitiveTypeInfo) →
        IsMoreWorld second further_types (in_module k) (in_module (wider_module second further_types k))
    left_wider second further_types = record {
      info_is = refl;
      answers = λ i results vs gs behind r e a g v b u.
          let front = take count gs in
          let rest = drop count gs ++ behind in
          subst (λ (x : List Value × List Value). IsMore (with_behind (drop count gs) (w.answer i vs front r)) (with_behind x.1 (w.answer i vs x.0 r)))
          (sym (ap₂ (λ (x y : List Value). (x, y))
          (ap (take count) (parts gs behind) ∙ take_at front rest count (sized gs g))
          (ap (drop count) (parts gs behind) ∙ drop_at front rest count (sized gs g))))
          (further (drop count gs) behind (w.answer i vs front r));
    }

    host_wider : (second : List ℕ) (further_types : List PrimitiveTypeInfo) →
        IsWiderHost second further_types (host_in (leaving w) k) (host_in (leaving w) (wider_module second further_types k))
    host_wider second further_types = record {
      info_is = refl;
      base_is = left_wider second further_types;
      over_is = λ a b s t h. left_wider second further_types;
    }

  leaving_sound : IsSoundEmbedder w.info (leaving w)
  leaving_sound = record {
    sound = λ k h. subst (λ (x : Module). IsSoundHost (host_in (leaving w) x)) (sym h.2) (host_sound h.0 h.1);
    wider = λ k h second further_types.
        subst (λ (x : Module). IsWiderHost second further_types (host_in (leaving w) x) (host_in (leaving w) (wider_module second further_types x)))
        (sym h.2) (host_wider h.0 h.1 second further_types);
  }

pub embedders : SoundWorldsExist → EmbeddersAreSound
embedders worlds = record {
  exist = λ w s. leaving_sound w s;
  each = λ m. let (w, at, s) = worlds m in (leaving w, subst (λ (x : Module). IsSoundEmbedder x (leaving w)) at (leaving_sound w s));
  stay = stay;
  back = λ m e backs h fine. calling_back_sound m e backs h fine;
  code = λ m e imports h fine. hosting_sound m imports e h fine;
  catches = catching_fine;
}
