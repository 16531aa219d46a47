-- Embedders in which imports call exports back.
use Rattle.std.proofs.Common.{◌≡◌, ℕ, List, ◌++◌, true, false, Option, Some, None, refl, sym, ap, ◌∙◌, subst}
use Rattle.std.specs.Prelude.{◌||◌}
use Rattle.std.specs.List.{All}
use Rattle.wasm_code.specs.Instruction.{Instruction}
use Rattle.wasm_code.specs.Table.{row_at, opcode_in}
use Rattle.wasm_types.specs.Module.{Module}
use Rattle.wasm_types.specs.declared.types.PrimitiveTypeInfo.{PrimitiveTypeInfo}
use Rattle.wasm_execution.specs.ExactRow.{ExactRow, exact_row}
use Rattle.wasm_execution.specs.OtherRow.{changes, may_trap, opcode_fails}
use Rattle.wasm_execution.specs.Values.{asked_types, Value, IsValue, types, unfinished, Answer, Gives, Fails, IsAnswer, IsSound}
use Rattle.wasm_equivalence.specs.modules.Program.{Answering, world_with, Host, IsSoundHost}
use Rattle.wasm_equivalence.specs.control.Wider.{wider_module, IsMore, IsMoreWorld}
use Rattle.wasm_equivalence.specs.modules.Running.{IsWiderHost}
use Rattle.wasm_equivalence.specs.hosts.Embedder.{Embedder, host_in, IsWithMore, IsSoundEmbedder}
use Rattle.wasm_equivalence.specs.hosts.CallBack.{Backs, IsBack, CallsBack, answer_unfinished, answer_back, calling_back}

pub trapping : (i : Instruction) → changes i ≡ true → may_trap i ≡ true
unfolding may_trap
trapping i e = ap (λ b. b || opcode_fails (opcode_in (row_at i.row))) e

module _ (m : Module) (i : Instruction) (changing : changes i ≡ true) (results : List PrimitiveTypeInfo) (gs : List Value) (r : ℕ) where
  pub never : changes i ≡ false → ⊥
  never c = let x : true ≡ false = sym changing ∙ c in cc

  pub unfinished_is : types gs ≡ m.globals → All IsValue gs → IsAnswer m i results gs r (Fails unfinished gs r)
  unfinished_is g v = (trapping i changing, g, v, λ c. (refl, refl))

  as_back : (back : Instruction) (a : Answer) → IsAnswer m back results gs r a → IsAnswer m i results gs r a
  as_back back (Gives us hs q) h = (h.0, h.1, h.2, h.3, λ c. absurd (never c))
  as_back back (Fails cause hs q) h = (trapping i changing, h.1, h.2, λ c. absurd (never c))

module _ (backs : Backs) (e : Embedder) where
  abbrev in_module : Module → Host
  in_module k = host_in (calling_back backs e) k

  module _ (k : Module) (fine : CallsBack k backs) (sound : IsSoundHost (host_in e k)) where
    -- an exact row doesn't come back
    no_back : (i : Instruction) (row : ExactRow) → k.exact ≡ true → exact_row i ≡ Some row → backs i ≡ None
    no_back i row h y = go (backs i) refl
      where
        go : (o : Option Instruction) → backs i ≡ o → o ≡ None
        go None b = refl
        go (Some back) b = let z : Some row ≡ None = sym y ∙ (fine i back b).not_exact h in absurd cc

    base_sound : IsSound (world_with k ((in_module k).base))
    base_sound = record {
      answers = λ i results vs gs r t a g v. go i results vs gs r g v (sound.base_sound.answers i results vs gs r t a g v) (backs i) refl;
      kept = λ i vs gs r more. refl;
      exact = λ h.
          let x = sound.base_sound.exact h in
          record {
            memories = x.memories;
            follows = λ i row results vs gs r y t a g v.
                ap (λ (o : Option Instruction). answer_unfinished o (e.base k i vs gs r) gs r) (no_back i row h y) ∙
                x.follows i row results vs gs r y t a g v;
          };
    }
      where
        go : (i : Instruction) (results : List PrimitiveTypeInfo) (vs gs : List Value) (r : ℕ) → types gs ≡ k.globals → All IsValue gs →
            IsAnswer k i results gs r (e.base k i vs gs r) → (o : Option Instruction) → backs i ≡ o →
            IsAnswer k i results gs r (answer_unfinished o (e.base k i vs gs r) gs r)
        go i results vs gs r g v h None b = h
        go i results vs gs r g v h (Some back) b = unfinished_is k i (fine i back b).changes_all results gs r g v

    over_sound : (calls : Answering) → IsSound (world_with k calls) → IsSound (world_with k ((in_module k).over calls))
    over_sound calls s = record {
      answers = λ i results vs gs r t a g v. go i results vs gs r t a g v (backs i) refl;
      kept = λ i vs gs r more. refl;
      exact = λ h.
          let x = (sound.over_sound calls s).exact h in
          record {
            memories = x.memories;
            follows = λ i row results vs gs r y t a g v.
                ap (λ (o : Option Instruction). answer_back o calls (e.over k calls i vs gs r) vs gs r) (no_back i row h y) ∙
                x.follows i row results vs gs r y t a g v;
          };
    }
      where
        go : (i : Instruction) (results : List PrimitiveTypeInfo) (vs gs : List Value) (r : ℕ) → asked_types k i (types vs) ≡ Some results →
            All IsValue vs → types gs ≡ k.globals → All IsValue gs → (o : Option Instruction) → backs i ≡ o →
            IsAnswer k i results gs r (answer_back o calls (e.over k calls i vs gs r) vs gs r)
        go i results vs gs r t a g v None b = (sound.over_sound calls s).answers i results vs gs r t a g v
        go i results vs gs r t a g v (Some back) b =
            let f = fine i back b in
            as_back k i f.changes_all results gs r back (calls back vs gs r)
            (s.answers back results vs gs r (sym (f.types_are (types vs)) ∙ t) a g v)

    host_sound : IsSoundHost (in_module k)
    host_sound = record { base_sound = base_sound; over_sound = over_sound }

    module _ (input : List ℕ) (more : List PrimitiveTypeInfo) (wider : IsWiderHost input more (host_in e k) (host_in e (wider_module input more k))) where
      abbrev after : Module
      after = wider_module input more k

      base_wider : IsMoreWorld input more (world_with k ((in_module k).base)) (world_with after ((in_module after).base))
      base_wider = record {
        info_is = refl;
        answers = λ i results vs gs behind r t a g v b u.
            go i vs gs behind r (wider.base_is.answers i results vs gs behind r t a g v b u) (backs i);
      }
        where
          go : (i : Instruction) (vs gs behind : List Value) (r : ℕ) → IsMore (e.base k i vs gs r) (e.base after i vs (gs ++ behind) r) →
              (o : Option Instruction) →
              IsMore (answer_unfinished o (e.base k i vs gs r) gs r) (answer_unfinished o (e.base after i vs (gs ++ behind) r) (gs ++ behind) r)
          go i vs gs behind r h None = h
          go i vs gs behind r h (Some back) = (refl, (behind, refl), refl)

      over_wider : (calls wide : Answering) → IsSound (world_with k calls) → IsSound (world_with after wide) →
          IsMoreWorld input more (world_with k calls) (world_with after wide) →
          IsMoreWorld input more (world_with k ((in_module k).over calls)) (world_with after ((in_module after).over wide))
      over_wider calls wide s z widens = record {
        info_is = refl;
        answers = λ i results vs gs behind r t a g q b u. go i results vs gs behind r t a g q b u (backs i) refl;
      }
        where
          go : (i : Instruction) (results : List PrimitiveTypeInfo) (vs gs behind : List Value) (r : ℕ) → asked_types k i (types vs) ≡ Some results →
              All IsValue vs → types gs ≡ k.globals → All IsValue gs → types behind ≡ more → All IsValue behind →
              (o : Option Instruction) → backs i ≡ o →
              IsMore (answer_back o calls (e.over k calls i vs gs r) vs gs r)
              (answer_back o wide (e.over after wide i vs (gs ++ behind) r) vs (gs ++ behind) r)
          go i results vs gs behind r t a g q b u None x = (wider.over_is calls wide s z widens).answers i results vs gs behind r t a g q b u
          go i results vs gs behind r t a g q b u (Some back) x =
              widens.answers back results vs gs behind r (sym ((fine i back x).types_are (types vs)) ∙ t) a g q b u

      host_wider : IsWiderHost input more (in_module k) (in_module after)
      host_wider = record { info_is = refl; base_is = base_wider; over_is = over_wider }

pub calling_back_sound : (m : Module) (e : Embedder) (backs : Backs) → IsSoundEmbedder m e → CallsBack m backs → IsSoundEmbedder m (calling_back backs e)
calling_back_sound m e backs h fine = record {
  sound = λ k w. host_sound backs e k (moved k w) (h.sound k w);
  wider = λ k w input more. host_wider backs e k (moved k w) (h.sound k w) input more (h.wider k w input more);
}
  where
    moved : (k : Module) → IsWithMore m k → CallsBack k backs
    moved k w i back b =
        let f = fine i back b in
        subst (λ (x : Module). IsBack x i back) (sym w.2)
        (record { types_are = f.types_are; changes_all = f.changes_all; not_exact = f.not_exact })
