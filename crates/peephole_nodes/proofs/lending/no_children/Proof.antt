-- `no_children` lends no ids, and the node stays, for every T. Assumes `Logic`.
use mathlib.Core.Path.{refl}
use Prim.Native.Nat.{ℕ}
use lib.Dec.{lit<}
use native.Mathlib.Omega.{arith}
use mathlib.Core.List.{[], ◌∷◌}
use seplogic.Ra.Ura.{Ura}
use mir.Syntax.{Args, Body, Fn, named, a_type, seq, assign, place, rv_opd, copy, return}
use mir.MapTy.{inst_fn}
use mir.Val.{Val, vptr}
use base.Logic.{SProp, ent}
use base.Fml.{Lft, GName, Share, ftrue, flft}
use prog.Memory.{Memory}
use prog.Routine.{Routine}
use prog.Wp.{Env, Calls, Loops, WpFn, Tables}
use types.Logic.{Logic}
use contract.Lifetimes.{AllOutlive}
use contract.Monad.{Fun}
use contract.Running.{tables, tables_of}
use sound.WpLaws.{WpFn-mono}
use types.Kit.{‵, ◌⊛◌, raw, some, later, at_ret, ◌$◌, ◌∵◌, !, qed, by, move, keep, split, split3, join, fsplit, fjoin, use2, await, pick, suffices, frame, done}
use types.Part.{agg}
use types.Run.{stop, addr, lit, and_then, no_more, of_opd, first, blocks, exec, returns, enter}
use types.ByLocal.{alloc_all, pass_all, free_all, look_at, get, through, sets, sets_last, env}
use denote.Builtin.{RefMutOf}
use denote.Exit.{no}
use denote.Param.{param, layouts}
use denote.RattleType.{RattleType, owns}
use denote.Ref.{MutBor, MutRef, mut_vals, mut_Tells}
use denote.Signature.{plain}
use denote.Slice.{Room, slice_val}
use denote.Steps.{nothing}
use denote.Triple.Clauses.{Clauses, Ended, closing}
use denote.Triple.Entry.{on_entry}
use denote.Triple.Spec.{Meets, triple_of}
use denote.Triple.Table.{entered}
use denote.Triple.Walked.{says, Stays, stay_dropped, walk_of, ends_at, walked, Goes-spent_ref, walk_Meets}
use Rattle.peephole_nodes.proofs.Relends.{slice_lent, lends_none}
use Rattle.peephole_nodes.specs.contracts.id.Id.{the_row}
use Rattle.peephole_nodes.specs.contracts.lending.no_children as F
use Rattle.peephole_nodes.specs.contracts.lending.no_children.Key.{name as #self}
use Rattle.peephole_nodes.proofs.lending.no_children.Statement as stated
use Rattle.peephole_nodes.proofs.lending.no_children.Code as code

module _ (X : RattleType) where
  abbrev args : Args
  args = layouts (a_type ∷ []) (X, tt)

  abbrev function : Fn
  function = inst_fn args code.function

  abbrev R : RattleType
  R = the_row

  abbrev S : RattleType
  S = param 0 X

  abbrev ended : Ended
  ended = F.ended X

  abbrev stayed : Stays ended.signature.params ended.kept
  stayed = (stay_dropped (RefMutOf (0 ∷ []) tt (plain (λ _. S)) (λ _. tt)) no, tt)

abbrev rest : Body
rest = seq (assign (place 0 []) (rv_opd (copy (place 2 [])))) return

module _ (X : RattleType) {M : Type 1} {𝓤 : Ura M} (𝓛 : Logic 𝓤) (at_mem : Memory → SProp 𝓤) (run : Routine → Fun 𝓤) where
  open 𝓛 use {H}

  abbrev clauses : Clauses 𝓤 (ended X)
  clauses = F.clauses X 𝓛 at_mem run

  module _ (C : Calls 𝓤 H) (Λ : Loops 𝓤 H) (κ κT : Lft) (q qT : Share) (bd : AllOutlive 2 (ended X).signature.outlives (κ, (κT, tt))) (b o : ℕ)
      (γ : GName) (x : (S X).Denot) where
    abbrev self : MutBor (S X).Denot
    self = record { ref_ptr = (b, o); ghost_name = γ; now = x }

    abbrev bound : (walk_of 𝓛 (ended X) (stayed X) clauses).Ghost
    bound = (((κ, (κT, tt)), (q, (qT, tt)), bd, (self, tt), (mut_vals self, tt)), tt)

    abbrev Post : Val → SProp 𝓤
    Post = (walk_of 𝓛 (ended X) (stayed X) clauses).post bound

    walk : Room (R X) 0 → ent 𝓤 (on_entry 𝓛 (ended X).signature (κ, (κT, tt)) (q, (qT, tt)) (self, tt) (mut_vals self, tt))
        (WpFn 𝓤 H C Λ (function X) (vptr b o ∷ []) Post)
    walk rm =
        qed 𝓛 ((‵ (flft κ q) ⊛ ‵ (flft κT qT) ⊛ ‵ ftrue) ∷ ‵ (owns (MutRef (named 0) κ (S X) ∷ []) (self, tt) (mut_vals self, tt)) ∷ []) ∵ enter ! C Λ
        (function X) (vptr b o ∷ []) _ $
        alloc_all ! (λ l. pass_all ! refl ((tt, tt), tt) $
        let En : Env 𝓤 H = env (function X).locals l in
        first ! $ blocks ! $
        sets ! (addr ! (through ! refl (stop !))) refl (tt, tt) $
        sets ! (of_opd ! (get ! refl)) refl (tt, tt) $
        sets_last ! (agg ! (and_then ! (get ! refl) (and_then ! (lit ! tt) (no_more !)))) refl (tt, (tt, (record { fits = rm.0 }, tt))) $
        exec ! C Λ En rest (at_ret En Post) $
        sets ! (of_opd ! (get ! refl)) refl (tt, (tt, (record { fits = rm.0 }, tt))) $
        split ! $ move ! (2 ∷ []) $ fsplit ! $ move ! (0 ∷ 2 ∷ []) $
        use2 𝓛 (later (some (slice_lent 𝓛 (named 0) κ q b o γ (S X) (R X) (λ _. x) ([])))) (lends_none 𝓛 (named 0) κ q b o γ (S X) (R X) x rm
        (vptr b o ∷ [])) $ await ! tt $ pick ! (λ δ.
        returns ! (look_at ! 0 refl) $ free_all ! refl $ keep ! (0 ∷ 2 ∷ []) $ split3 ! $
        suffices ! _ (ends_at 𝓛 (ended X) (stayed X) clauses bound (slice_val (b, o) 0) (record { ref_ptr = (b, o); ghost_name = δ; now = [] }) (
          tt,
          tt,
        ) (tt, tt)) $
        nothing ! $ nothing ! $ fjoin ! $ join ! $ move ! (1 ∷ 3 ∷ []) $ join ! $ join ! $ frame ! $ says ! refl $ done !))

  meets : (𝓣 : Tables 𝓤 H) → Meets 𝓛 (ended X).signature (WpFn 𝓤 H 𝓣.C 𝓣.Λ (function X)) (closing 𝓛 (ended X) clauses)
  meets 𝓣 =
      walk_Meets 𝓛 (ended X) (stayed X) (Goes-spent_ref 𝓛 2 (0 ∷ []) tt (plain (λ _. S X)), tt) clauses (WpFn 𝓤 H 𝓣.C 𝓣.Λ (function X))
      (WpFn-mono 𝓤 H 𝓛.laws 𝓣 (function X))
      (walked 𝓛 (ended X) (stayed X) clauses (WpFn 𝓤 H 𝓣.C 𝓣.Λ (function X)) (λ κs. (mut_vals, tt)) (λ κs. (mut_Tells (named 0) κs.0 (S X), tt))
      (λ κs qs bounds a g are.
      qed 𝓛 (raw (on_entry 𝓛 (ended X).signature κs qs a (mut_vals a.0, tt)) ∷ raw ((clauses κs a).requires g) ∷ []) ∵
      keep ! (0 ∷ []) $ by ! (walk 𝓣.C 𝓣.Λ κs.0 κs.1.0 qs.0 qs.1.0 bounds a.0.ref_ptr.0 a.0.ref_ptr.1 a.0.ghost_name a.0.now (lit< tt, omega arith))))

pub no_children_spec : {M : Type 1} → stated.statement M
unfolding tables_of
no_children_spec 𝓤 𝓛 𝓜 𝓡 wired X L =
    let A = 𝓛.A in
    let 𝓣 : Tables 𝓤 𝓛.H = tables_of 𝓤 𝓛.H 𝓜 (tables 𝓤 𝓛.H 𝓜 𝓡 𝓡.env) in
    entered 𝓤 𝓛.H (triple_of 𝓛 (ended X).signature (F.spec X 𝓛 𝓜.mem 𝓡.returns)) 𝓣.C 𝓣.Λ (#self (args X)) (function X)
    (code.unfolded 𝓤 𝓛.H 𝓜 𝓡 wired (X, tt))
    (meets X 𝓛 𝓜.mem 𝓡.returns 𝓣)
