-- Loans of a slice of no elements out of any value.
use mathlib.Core.Path.{◌≡◌}
use Prim.Native.Nat.{ℕ}
use mathlib.Core.List.{List, [], ◌∷◌}
use lib.ListN.{length}
use seplogic.Ra.Ura.{Ura}
use mir.Syntax.{Lifetime}
use mir.Val.{Val}
use base.Logic.{SProp, ent, sep, ex}
use base.Fml.{Lft, GName, Share, flft}
use types.Logic.{Logic, sem}
use types.Kit.{Item, ‵, ◌⊛◌, raw, ◌$◌, ◌∵◌, !, qed, move, drop, fsplit3, updating, await, later, some, use1, group, pick, now, show, done}
use types.SemTy.{cells}
use types.Mut.{open_ref}
use denote.RattleType.{RattleType}
use denote.Memory.{mem}
use denote.Ref.{MutRef}
use denote.Array.{Array}
use denote.Slice.{MutSlice, Room, slice_val}
use denote.Steps.{nothing}
use denote.Follow.{follows}
use denote.FollowSlice.{lends_Elements}

-- ---- the loans
module _ {M : Type 1} {𝓤 : Ura M} (𝓛 : Logic 𝓤) (ℓ : Lifetime) (κ : Lft) (q : Share) (b o : ℕ) (γ : GName) where
  open 𝓛 use {H, A}

  -- the slice xs at (b, o) under a new name, the token, and what S ends as
  abbrev pub SliceLent : (S R : RattleType) → (List R.Denot → S.Denot) → List R.Denot → GName → SProp 𝓤
  SliceLent S R F xs δ =
      sep 𝓤 (sem 𝓛 ((MutSlice ℓ κ R).own_val (record { ref_ptr = (b, o); ghost_name = δ; now = xs }) (slice_val (b, o) (length xs) ∷ [])))
      (sep 𝓤 (A.lft κ q) (sem 𝓛 (follows S (Array R 0) γ δ F)))

  -- the same, as an item of a walk
  abbrev pub slice_lent : (S R : RattleType) → (List R.Denot → S.Denot) → List R.Denot → GName → Item 𝓤
  slice_lent S R F xs δ = ‵ ((MutSlice ℓ κ R).own_val (record { ref_ptr = (b, o); ghost_name = δ; now = xs }) (slice_val (b, o) (length xs) ∷ [])) ⊛ ‵
      (flft κ q) ⊛ ‵ (follows S (Array R 0) γ δ F)

  module _ (S R : RattleType) (x : S.Denot) where
    stays : (ws : List R.Denot) → length ws ≡ length {A = R.Denot} [] → ent 𝓤 (sep 𝓤 (sem 𝓛 (cells (mem R) ws b o)) (sem 𝓛 ((mem S).own_at x b o)))
        (sem 𝓛 ((mem S).own_at x b o))
    stays ws e = qed 𝓛 (‵ (cells (mem R) ws b o) ∷ ‵ ((mem S).own_at x b o) ∷ []) ∵ drop ! $ done !

    pub lends_none : Room R 0 → (vs : List Val)
        → ent 𝓤 (sep 𝓤 (sem 𝓛 ((MutRef ℓ κ S).own_val (record { ref_ptr = (b, o); ghost_name = γ; now = x }) vs)) (A.lft κ q))
        (H.⇛ (ex 𝓤 (SliceLent S R (λ _. x) [])))
    lends_none rm vs = qed 𝓛 (‵ ((MutRef ℓ κ S).own_val (record { ref_ptr = (b, o); ghost_name = γ; now = x }) vs) ∷ ‵
        (flft κ q) ∷ []) ∵ updating ! $ fsplit3 ! $ drop ! $
        open_ref ! tt (mem S) {b = b} {o = o} $ nothing ! $ move ! (2 ∷ 3 ∷ 4 ∷ 0 ∷ 1 ∷ []) $ group ! 5 $
        use1 𝓛 (later (some (λ (δ : GName). raw (SliceLent S R (λ _. x) [] δ))))
        (lends_Elements 𝓛 S R (λ _. x) ℓ κ q b o b o γ [] rm (sem 𝓛 ((mem S).own_at x b o)) stays (S.coded.code x)
        (S.coded.code x)) $ await ! tt $ pick ! (λ δ.
        now ! $ show ! (SliceLent S R (λ _. x) []) δ $ done !)
