-- Where a load or a store is found that is another one.
use Rattle.std.proofs.Common.{◌≡◌, ℕ, suc, ◌+◌, ◌≤◌, true, List, [], ◌∷◌, ◌++◌, length, Option, Some, None, refl, sym, ap, subst, ◌∙◌, append_assoc, arith}
use Rattle.std.specs.Prelude.{IfNone, slice_get}
use Rattle.std.proofs.lemmas.List.{append-nil}
use Rattle.std.proofs.lemmas.Option.{same_Some, slice_get_within}
use Rattle.wasm_code.specs.Instruction.{Instruction}
use Rattle.wasm_code.specs.declared.immediate.Imm.{Imm}
use Rattle.wasm_execution.specs.Values.{Context}
use Rattle.rewrite_rules.specs.declared.access.Access.{Access}
use Rattle.rewrite_rules.specs.declared.table.Own.TheVariants.{Access as Accesses}
use Rattle.rewrite_rules.specs.Access.{access_at, conversion_size, left_code, code_with, side_code, written_imm}
use Rattle.body_rewrites.specs.declared.own.Made.{Made}
use Rattle.body_rewrites.specs.declared.own.Made.TheVariants as made
use Rattle.body_rewrites.specs.Trees.{Stands}
use Rattle.body_rewrites.specs.Open.{HasInstruction}
use Rattle.body_rewrites.specs.Own.{IsAccessed, Rewrites}
use Rattle.body_rewrites.specs.OwnSites.{IsImmediateOf, StandFrom}
use Rattle.body_rewrites.proofs.AccessLemmas.{access_start, same_immediate, side_size}
use Rattle.body_rewrites.proofs.AloneLemmas.{one_code}
use Rattle.body_rewrites.proofs.OwnAloneLemmas.{instruction_in, one_instruction}
use Rattle.body_rewrites.proofs.StandsLemmas.{Operators, stands_nothing, stands_snoc}

-- ---- code

module _ (operators : Operators) where
  more_stand : (front code : List Instruction) (start at : ℕ) → start ≤ at → Stands operators start at front → StandFrom operators at code →
      Stands operators start (at + length code) (front ++ code)
  more_stand front [] start at le h g =
      let end : at ≡ at + 0 = omega arith in
      subst (λ c. Stands operators start (at + 0) c) (sym (append-nil front)) (subst (λ e. Stands operators start e front) end h)
  more_stand front (i ∷ code) start at le h g =
      let end : at + 1 + length code ≡ at + suc (length code) = omega arith in
      subst (λ e. Stands operators start e (front ++ i ∷ code)) end
      (subst (λ c. Stands operators start (at + 1 + length code) c) (append_assoc front (i ∷ []) code)
      (more_stand (front ++ i ∷ []) code start (at + 1) (omega (arith, le)) (stands_snoc operators start at front i le g.0 h) g.1))

  pub they_stand : (code : List Instruction) (start end : ℕ) → start + length code ≡ end → StandFrom operators start code → Stands operators start end code
  they_stand code start end e g =
      subst (λ k. Stands operators start k code) e (more_stand [] code start start (omega arith) (stands_nothing operators start) g)

  one_by_one : (code : List Instruction) (start : ℕ) →
      ((k : ℕ) (i : Instruction) → slice_get code k ≡ Some i → HasInstruction operators (start + k) i) → StandFrom operators start code
  one_by_one [] start each = tt
  one_by_one (i ∷ code) start each =
      let here : start + 0 ≡ start = omega arith in (
        subst (λ k. HasInstruction operators k i) here (each 0 i refl),
        one_by_one code (start + 1) (λ k j e.
            let there : start + suc k ≡ start + 1 + k = omega arith in subst (λ n. HasInstruction operators n j) there (each (suc k) j e)),
      )

  pub they_stand_from : (code : List Instruction) (start end : ℕ) → start + length code ≡ end → Stands operators start end code →
      StandFrom operators start code
  they_stand_from code start end e h =
      one_by_one code start (λ k i is.
      let l = slice_get_within code k i is in
      instruction_in operators start end code k i (omega (arith, l, e)) h is)

-- ---- an immediate

pub no_immediate : (operators : Operators) (at row : ℕ) (i : Instruction) (o : Option Imm) → HasInstruction operators at i →
    IfNone o ((m : Imm) → i ≡ code_with row m → ⊥) → IfNone o ((m : Imm) → HasInstruction operators at (code_with row m) → ⊥)
no_immediate operators at row i (Some m) h none = tt
no_immediate operators at row i None h none = λ m has. none m (one_instruction operators at i (code_with row m) h has)

-- ---- the rule

nothing : {A : Type 0} {x : A} → ◌≡◌ {A = Option A} None (Some x) → ⊥
nothing e = cc

module _ (context : Context) (operators : Operators) (n at : ℕ) where
  abbrev Never : Type 0
  Never = (start : ℕ) (m : Made) → Rewrites context operators (Accesses n) start at m → ⊥

  never : ((start : ℕ) (a : Access) (w : Imm) → IsAccessed context operators n start at a w → ⊥) → Never
  never none start (made.Access a w) h = none start a w h
  never none start m h = h

  module _ (a : Access) (listed : access_at n ≡ Some a) where
    -- of that one
    of_it : ((start : ℕ) (w : Imm) → IsAccessed context operators n start at a w → ⊥) → Never
    of_it none = never (λ start b w is. none start w (subst (λ c. IsAccessed context operators n start at c w) (same_Some b a (sym is.listed ∙ listed)) is))

    -- the side stands from its start on
    stands_so : (start other : ℕ) (w : Imm) → other + conversion_size a.left.conversion ≡ at → (is : IsAccessed context operators n start at a w) →
        StandFrom operators other (left_code a is.immediate)
    stands_so start other w e is =
        let begins = access_start context operators n start at a w is in
        let same : start ≡ other = omega (arith, e, begins) in
        subst (λ k. StandFrom operators k (left_code a is.immediate)) same
        (they_stand_from operators (left_code a is.immediate) start (at + 1) is.ends is.stands)

    pub no_side : (start : ℕ) → start + conversion_size a.left.conversion ≡ at →
        ((m : Imm) → StandFrom operators start (side_code a.kind a.left m) → ⊥) → Never
    no_side start e none = of_it (λ other w is. none is.immediate (stands_so other start w e is))

    -- the immediate is this one
    one_immediate : (start other : ℕ) (w m : Imm) → other + conversion_size a.left.conversion ≡ at → StandFrom operators other (left_code a m) →
        (is : IsAccessed context operators n start at a w) → is.immediate ≡ m
    one_immediate start other w m e stand is =
        let size = side_size a.kind a.left.row a.left.conversion is.immediate in
        let count = side_size a.kind a.left.row a.left.conversion m in
        same_immediate a.kind a.left.row a.left.conversion is.immediate m
        (one_code operators other (at + 1) (left_code a is.immediate) (left_code a m)
        (they_stand operators (left_code a is.immediate) other (at + 1) (omega (arith, e, size)) (stands_so start other w e is))
        (they_stand operators (left_code a m) other (at + 1) (omega (arith, e, count)) stand))

    pub none_written : (start : ℕ) (m : Imm) → start + conversion_size a.left.conversion ≡ at → IsImmediateOf operators start a.kind a.left m →
        written_imm a m ≡ None → Never
    none_written start m e stand none =
        of_it (λ other w is.
        nothing (sym none ∙ (ap (written_imm a) (sym (one_immediate other start w m e stand.stand is)) ∙ is.written_is)))

    pub found : (start : ℕ) (m w : Imm) → start + conversion_size a.left.conversion ≡ at → context.info.exact ≡ true →
        IsImmediateOf operators start a.kind a.left m → written_imm a m ≡ Some w → Rewrites context operators (Accesses n) start at (made.Access a w)
    found start m w e exact stand is =
        let size = side_size a.kind a.left.row a.left.conversion m in
        let ends : start + length (left_code a m) ≡ at + 1 = omega (arith, e, size) in
        record {
          exact = exact;
          listed = listed;
          immediate = m;
          fits = stand.fits;
          ends = ends;
          stands = they_stand operators (left_code a m) start (at + 1) ends stand.stand;
          written_is = is;
        }
