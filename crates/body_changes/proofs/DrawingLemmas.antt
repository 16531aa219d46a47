-- Code as it is drawn, instruction by instruction.
use Rattle.std.proofs.Common.{get_or, ◌≡◌, ℕ, ◌+◌, ◌-◌, ◌<◌, ◌≤◌, ◌⊎◌, inl, inr, List, [], ◌∷◌, ◌++◌, length, Some, refl, sym, ap, ap₂, ◌∙◌}
use Rattle.std.proofs.Common.{subst, append_assoc}
use Rattle.std.proofs.Common.{length-append, arith}
use Rattle.std.specs.Prelude.{reverse, IsTrue}
use Rattle.std.specs.List.{All}
use Rattle.std.proofs.lemmas.List.{map-append, reverse-append, length-reverse}
use Rattle.std.proofs.lemmas.List.Elements.{All-head, All-tail, All-append, All-push, All-cons, All-nil}
use Rattle.wasm_code.specs.Instruction.{Instruction}
use Rattle.wasm_types.specs.declared.types.PrimitiveTypeInfo.{PrimitiveTypeInfo}
use Rattle.wasm_execution.specs.Values.{Context}
use Rattle.body_changes.specs.declared.goal.Goal.{Goal}
use Rattle.body_changes.specs.declared.goal.Words.{Words}
use Rattle.body_changes.specs.Drawing.{asks_types_alone, is_drawable, three_words, drawing_words_of, AreDrawable, AskTypesAlone, IsLeaf}
use Rattle.body_changes.specs.Goals.{first_words, operand_types_in, wanted_types, whole_size, WordsDrawInstruction, DrawsOnly, HasDrawn}
use Rattle.body_changes.specs.Goals.{HasPushed, IsDrawing, GoalIsOpen}
use Rattle.body_changes.specs.Typed.{told_types_after, LeavesTypes}
use Rattle.body_changes.proofs.ConstantLemmas.{drawable_told}
use Rattle.body_changes.proofs.TypedLemmas.{behind_others, after_one, told_known}

size_append : (gs hs : List Goal) → whole_size (gs ++ hs) ≡ whole_size gs + whole_size hs
size_append [] hs = omega arith
size_append (g ∷ gs) hs = let n = size_append gs hs in omega arith

module _ (context : Context) where
  -- ---- one more

  pub drawing_goes_on : (wanted : PrimitiveTypeInfo) (size step : ℕ) (goals front left : List Goal) (goal : Goal) (words : Words)
      (code grown : List Instruction) → goals ≡ front ++ goal ∷ [] → IsDrawing context wanted size step goals code → All (GoalIsOpen context) front →
      GoalIsOpen context goal → HasDrawn context goal words front code left grown → IsDrawing context wanted size (step + 1) left grown
  drawing_goes_on wanted size step goals front left goal words code grown e d some is_open h =
      let ts = operand_types_in h.chosen.operands in
      let types : wanted_types goals ≡ wanted_types front ++ goal.wanted ∷ [] = ap wanted_types e ∙ map-append (λ (g : Goal). g.wanted) front (goal ∷ []) in
      let new_types : wanted_types left ≡ wanted_types front ++ ts =
      ap wanted_types h.pushed.grown ∙ (map-append (λ (g : Goal). g.wanted) front h.pushed.more ∙ ap (λ us. wanted_types front ++ us) h.pushed.types) in
      let old_size = ap whole_size e ∙ size_append front (goal ∷ []) in
      let new_size = ap whole_size h.pushed.grown ∙ size_append front h.pushed.more in
      let few = h.pushed.size in
      let room = h.room_is in
      let count = ap (λ (xs : List Instruction). length xs) h.added ∙ length-append code (h.chosen.instr ∷ []) in
      let all = d.size_is in
      let turned : reverse grown ≡ h.chosen.instr ∷ reverse code = ap reverse h.added ∙ reverse-append code (h.chosen.instr ∷ []) in
      record {
        size_is = omega arith;
        goes_on = inr (longer d.goes_on count);
        some = subst (All (GoalIsOpen context)) (sym h.pushed.grown) (All-append (GoalIsOpen context) front h.pushed.more some h.pushed.some);
        whole = ap₂ (λ xs us. told_types_after context xs us) turned new_types
            ∙ (after_one context h.chosen.instr (reverse code) (wanted_types front ++ ts) (wanted_types front ++ goal.wanted ∷ [])
            (behind_others context h.chosen.instr (wanted_types front) ts (Some goal.wanted)
            (told_known context h.chosen.instr ts goal.wanted (drawable_told context.info goal.wanted is_open.drawable) h.fits.types))
            ∙ (ap (told_types_after context (reverse code)) (sym types) ∙ d.whole));
        plain = subst AskTypesAlone (sym h.added) (All-push (λ (i : Instruction). IsTrue (asks_types_alone i)) code h.chosen.instr d.plain h.fits.plain);
      }
    where
      longer : (goals ≡ []) ⊎ (length code ≡ step) → length grown ≡ length code + 1 → length grown ≡ step + 1
      longer (inl none) n = absurd (let l = length-append front (goal ∷ []) in let m = ap (λ (gs : List Goal). length gs) (sym e ∙ none) in omega arith)
      longer (inr is) n = omega arith

  -- where nothing is left to be drawn, it stays so
  pub drawing_stays : (wanted : PrimitiveTypeInfo) (size step : ℕ) (goals left : List Goal) (code : List Instruction) → goals ≡ [] → left ≡ [] →
      IsDrawing context wanted size step goals code → IsDrawing context wanted size (step + 1) left code
  drawing_stays wanted size step goals left code e f d = record {
    size_is = let n = d.size_is in let a = ap whole_size e in let b = ap whole_size f in omega arith;
    goes_on = inl f;
    some = subst (All (GoalIsOpen context)) (e ∙ sym f) d.some;
    whole = ap (λ (gs : List Goal). told_types_after context (reverse code) (wanted_types gs)) (f ∙ sym e) ∙ d.whole;
    plain = d.plain;
  }

  -- ---- the end

  nothing_left : (goals : List Goal) → All (GoalIsOpen context) goals → whole_size goals ≤ 0 → goals ≡ []
  nothing_left [] some l = refl
  nothing_left (g ∷ goals) some l = absurd (let n = (All-head (GoalIsOpen context) g goals some).some in omega arith)

  all_drawn : (wanted : PrimitiveTypeInfo) (size step : ℕ) (goals : List Goal) (code : List Instruction) → size ≤ step →
      IsDrawing context wanted size step goals code → goals ≡ []
  all_drawn wanted size step goals code l d = empty d.goes_on
    where
      empty : (goals ≡ []) ⊎ (length code ≡ step) → goals ≡ []
      empty (inl is) = is
      empty (inr is) = nothing_left goals d.some (let k = d.size_is in omega arith)

  pub drawing_ends : (wanted : PrimitiveTypeInfo) (size step : ℕ) (goals : List Goal) (code turned : List Instruction) → size ≤ step →
      turned ≡ reverse code → IsDrawing context wanted size step goals code → LeavesTypes context turned (wanted ∷ []) × (length turned ≤ size)
  drawing_ends wanted size step goals code turned l e d =
      let none = all_drawn wanted size step goals code l d in
      let n = length-reverse code in
      let m = ap (λ (xs : List Instruction). length xs) e in
      let k = d.size_is in (
        ap (λ xs. told_types_after context xs []) e
            ∙ (ap (λ (gs : List Goal). told_types_after context (reverse code) (wanted_types gs)) (sym none) ∙ d.whole),
        omega arith,
      )

  all_reversed : {X : Type 0} (P : X → Type 0) (xs : List X) → All P xs → All P (reverse xs)
  all_reversed P [] h = h
  all_reversed P (x ∷ xs) h =
      subst (All P) (sym (reverse-append (x ∷ []) xs)) (All-push P (reverse xs) x (all_reversed P xs (All-tail P x xs h)) (All-head P x xs h))

  pub drawn_plain : (wanted : PrimitiveTypeInfo) (size step : ℕ) (goals : List Goal) (code turned : List Instruction) → turned ≡ reverse code →
      IsDrawing context wanted size step goals code → AskTypesAlone turned
  drawn_plain wanted size step goals code turned e d =
      subst AskTypesAlone (sym e) (all_reversed (λ (i : Instruction). IsTrue (asks_types_alone i)) code d.plain)

  -- ---- a single instruction

  -- the words are those for the instruction
  pub words_are_for : (t : PrimitiveTypeInfo) (i : Instruction) (words : List ℕ) → three_words words ≡ drawing_words_of context t i →
      WordsDrawInstruction context t i (first_words words)
  words_are_for t i words e = record { choice = same 0; low = same 1; high = same 2 }
    where
      same : (n : ℕ) → get_or (three_words words) n 0 ≡ get_or (drawing_words_of context t i) n 0
      same n = ap (λ (ws : List ℕ). get_or ws n 0) e

  no_more : (goals : List Goal) (ts : List PrimitiveTypeInfo) → wanted_types goals ≡ ts → ts ≡ [] → goals ≡ []
  no_more [] ts e f = refl
  no_more (g ∷ goals) ts e f = absurd (let n = ap (λ (us : List PrimitiveTypeInfo). length us) (e ∙ f) in omega arith)

  pub only_goes_on : (first goal : Goal) (step : ℕ) (words rest after : List ℕ) (goals front left : List Goal) (code grown : List Instruction) →
      goals ≡ front ++ goal ∷ [] → HasDrawn context goal (first_words rest) front code left grown → DrawsOnly context first step words rest goals code →
      DrawsOnly context first (step + 1) words after left grown
  only_goes_on first goal step words rest after goals front left code grown e h d i is named = elim (d i is named) [
    | inl f ↦
        let alone : front ++ goal ∷ [] ≡ [] ++ first ∷ [] = sym e ∙ f.goals_are in
        let none : front ≡ [] = front_none front alone in
        let same : goal ≡ first = front_same front alone in
        let chosen = h.drawn i (subst (λ (g : Goal). IsLeaf context g.wanted i) (sym same) is)
        (subst (λ (g : Goal). WordsDrawInstruction context g.wanted i (first_words rest)) (sym same)
        (words_are_for first.wanted i rest (ap three_words f.rest_is ∙ named))) in
        let more : h.pushed.more ≡ [] = no_more h.pushed.more (operand_types_in h.chosen.operands) h.pushed.types (ap operand_types_in chosen.1) in
        inr (record {
          goals_are = h.pushed.grown ∙ ap₂ (λ (xs ys : List Goal). xs ++ ys) none more;
          code_is = h.added ∙ ap₂ (λ (xs : List Instruction) (j : Instruction). xs ++ j ∷ []) f.code_is chosen.0;
        })
    | inr o ↦ absurd (let n = ap (λ (gs : List Goal). length gs) (sym e ∙ o.goals_are) in let m = length-append front (goal ∷ []) in omega arith)
  ]
    where
      front_none : (front : List Goal) → front ++ goal ∷ [] ≡ first ∷ [] → front ≡ []
      front_none [] e = refl
      front_none (g ∷ gs) e = absurd (let n = ap (λ (hs : List Goal). length hs) e in let m = length-append gs (goal ∷ []) in omega arith)

      front_same : (front : List Goal) → front ++ goal ∷ [] ≡ first ∷ [] → goal ≡ first
      front_same [] e = cc
      front_same (g ∷ gs) e = absurd (let n = ap (λ (hs : List Goal). length hs) e in let m = length-append gs (goal ∷ []) in omega arith)

  pub only_stays : (first : Goal) (step : ℕ) (words rest after : List ℕ) (goals left : List Goal) (code : List Instruction) → goals ≡ [] → left ≡ [] →
      DrawsOnly context first step words rest goals code → DrawsOnly context first (step + 1) words after left code
  only_stays first step words rest after goals left code e f d i is named = elim (d i is named) [
    | inl g ↦ absurd (let n = ap (λ (gs : List Goal). length gs) (sym e ∙ g.goals_are) in omega arith)
    | inr o ↦ inr (record { goals_are = f; code_is = o.code_is })
  ]

  pub only_ends : (first : Goal) (step : ℕ) (words rest : List ℕ) (goals : List Goal) (code turned : List Instruction) → first.size ≤ step →
      turned ≡ reverse code → IsDrawing context first.wanted first.size step goals code → DrawsOnly context first step words rest goals code →
      (i : Instruction) → IsLeaf context first.wanted i → three_words words ≡ drawing_words_of context first.wanted i → turned ≡ i ∷ []
  only_ends first step words rest goals code turned l e drawing d i is named =
      let none = all_drawn first.wanted first.size step goals code l drawing in
      elim (d i is named) [
        | inl f ↦ absurd (let n = ap (λ (gs : List Goal). length gs) (sym none ∙ f.goals_are) in omega arith)
        | inr o ↦ e ∙ ap reverse o.code_is
      ]

  -- ---- goals for operands

  pub two_pushed : (a b : PrimitiveTypeInfo) (room first : ℕ) (old one two : List Goal) → 0 < first → first < room →
      AreDrawable context.info (a ∷ b ∷ []) → one ≡ old ++ record { wanted = a; size = first } ∷ [] →
      two ≡ one ++ record { wanted = b; size = room - first } ∷ [] → HasPushed context (a ∷ b ∷ []) room old two
  two_pushed a b room first old one two f l drawable e g =
      let x : Goal = record { wanted = a; size = first } in
      let y : Goal = record { wanted = b; size = room - first } in
      let each : PrimitiveTypeInfo → Type 0 = λ t. IsTrue (is_drawable context.info t) in
      let last = All-tail each a (b ∷ []) drawable in
      record {
        more = x ∷ y ∷ [];
        grown = g ∙ (ap (λ gs. gs ++ y ∷ []) e ∙ append_assoc old (x ∷ []) (y ∷ []));
        types = refl;
        size = omega arith;
        some = All-cons (GoalIsOpen context) x (y ∷ []) (record { some = f; drawable = All-head each a (b ∷ []) drawable })
            (All-cons (GoalIsOpen context) y [] (record { some = omega arith; drawable = All-head each b [] last }) (All-nil (GoalIsOpen context)));
      }

  pub three_pushed : (a b c : PrimitiveTypeInfo) (room first second : ℕ) (old one two three : List Goal) → 0 < first → 0 < second → first + second < room →
      AreDrawable context.info (a ∷ b ∷ c ∷ []) → one ≡ old ++ record { wanted = a; size = first } ∷ [] →
      two ≡ one ++ record { wanted = b; size = second } ∷ [] → three ≡ two ++ record { wanted = c; size = (room - first) - second } ∷ [] →
      HasPushed context (a ∷ b ∷ c ∷ []) room old three
  three_pushed a b c room first second old one two three f s l drawable e g h =
      let x : Goal = record { wanted = a; size = first } in
      let y : Goal = record { wanted = b; size = second } in
      let z : Goal = record { wanted = c; size = (room - first) - second } in
      let each : PrimitiveTypeInfo → Type 0 = λ t. IsTrue (is_drawable context.info t) in
      let rest = All-tail each a (b ∷ c ∷ []) drawable in
      let last = All-tail each b (c ∷ []) rest in
      record {
        more = x ∷ y ∷ z ∷ [];
        grown = h ∙ (ap (λ gs. gs ++ z ∷ []) (g ∙ (ap (λ gs. gs ++ y ∷ []) e ∙ append_assoc old (x ∷ []) (y ∷ []))) ∙ append_assoc old (x ∷ y ∷ []) (z ∷ []));
        types = refl;
        size = omega arith;
        some = All-cons (GoalIsOpen context) x (y ∷ z ∷ []) (record { some = f; drawable = All-head each a (b ∷ c ∷ []) drawable })
            (All-cons (GoalIsOpen context) y (z ∷ []) (record { some = s; drawable = All-head each b (c ∷ []) rest })
            (All-cons (GoalIsOpen context) z [] (record { some = omega arith; drawable = All-head each c [] last }) (All-nil (GoalIsOpen context))));
      }
