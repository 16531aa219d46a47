-- The bytes behind a pointer are lent as a slice, and come back as the slice's last value.
use Rattle.std.proofs.Common.{◌≡◌, ℕ, ◌^◌, ◌<◌, List, [], ◌∷◌, length, refl, arith, w8, MutBor}
use seplogic.Ra.Ura.{Ura}
use base.Fraction.{full_share}
use base.Fml.{Lft, GName, Fml, fdead, flent}
use base.Logic.{ent, ex, sep, via}
use mir.Syntax.{named}
use types.Kit.{‵, later, ◌$◌, ◌∵◌, !, qed, by, use3, rewrite, await, updating, now as at_once}
use types.Logic.{Logic, sem}
use types.SemTy.{Arr, cells}
use types.Share.{PartsLaws, arr_parts, arr_laws}
use denote.ArrayMemory.{Array-apart, Array-whole}
use denote.Builtin.{u8}
use denote.Laws.{Is, shows}
use denote.Lend.{Held, lends_slice, slice_back}
use denote.Memory.{mem, shares, share_laws}
use denote.Plain.{uint_vals, uint_Tells, uint_copy}
use denote.RawPtr.{block_ptr}
use denote.Slice.{MutSlice, slice_val, finally}
use Rattle.teddertempo_c.specs.Buffer.{buffer_bytes_at}

-- the bytes one by one, and how many they are
abbrev pub Bytes : ℕ → ℕ → ℕ → List ℕ → Fml
Bytes n b o bytes = (Arr (mem u8) n).own_at bytes b o

abbrev pub slice_at : ℕ → ℕ → GName → List ℕ → MutBor (List ℕ)
slice_at b o γ bytes = record { ref_ptr = (b, o); ghost_name = γ; now = bytes }

-- the slice, lent for κ
abbrev pub Slice : Lft → ℕ → ℕ → GName → List ℕ → Fml
Slice κ b o γ bytes = (MutSlice (named 0) κ u8).own_val (slice_at b o γ bytes) (slice_val (b, o) (length bytes) ∷ [])

-- the right to the bytes once κ is over
abbrev pub Behind : Lft → ℕ → ℕ → GName → List ℕ → Fml
Behind κ b o γ bytes = flent κ (Held u8 (length bytes) b o γ)

module _ {M : Type 1} {𝓤 : Ura M} (𝓛 : Logic 𝓤) (n b o : ℕ) where
  open 𝓛 use {H, A}

  laws : PartsLaws 𝓛 (mem u8) (shares u8)
  laws = share_laws 𝓛 u8 (Is u8) (shows 𝓛 u8) (uint_vals w8) (uint_Tells w8) (uint_copy 𝓛 w8)

  pub bytes_out : (bytes : List ℕ) → ent 𝓤 (sem 𝓛 (buffer_bytes_at (block_ptr b o) n bytes)) (sem 𝓛 (Bytes n b o bytes))
  bytes_out bytes =
      via 𝓤 (sem 𝓛 ((arr_parts (shares u8) n).part full_share bytes b o)) (Array-apart 𝓛 u8 full_share tt n bytes b o)
      ((arr_laws 𝓛 (mem u8) (shares u8) laws n).whole_in bytes b o)

  bytes_in : (bytes : List ℕ) → ent 𝓤 (sem 𝓛 (Bytes n b o bytes)) (sem 𝓛 (buffer_bytes_at (block_ptr b o) n bytes))
  bytes_in bytes =
      via 𝓤 (sem 𝓛 ((arr_parts (shares u8) n).part full_share bytes b o)) ((arr_laws 𝓛 (mem u8) (shares u8) laws n).whole_out bytes b o)
      (Array-whole 𝓛 u8 full_share n bytes b o)

  module _ (old : List ℕ) (count : length old ≡ n) (low : n < 2 ^ 63) (κ : Lft) where
    pub lends_bytes : ent 𝓤 (sem 𝓛 (cells (mem u8) old b o)) (H.⇛ (ex 𝓤 (λ (γ : GName). sep 𝓤 (sem 𝓛 (Slice κ b o γ old)) (sem 𝓛 (Behind κ b o γ old)))))
    lends_bytes = lends_slice 𝓛 u8 (named 0) κ old b o (omega arith, omega arith)

    pub bytes_back : (γ : GName) (new : List ℕ) → ent 𝓤 (sep 𝓤 (A.dead κ) (sep 𝓤 (sem 𝓛 (Behind κ b o γ old)) (sem 𝓛 (finally u8 γ new))))
        (H.⇛ (sem 𝓛 (buffer_bytes_at (block_ptr b o) n new)))
    bytes_back γ new =
        qed 𝓛 (‵ (fdead κ) ∷ ‵ (Behind κ b o γ old) ∷ ‵ (finally u8 γ new) ∷ []) ∵ updating ! $
        use3 𝓛 (later (‵ (Bytes (length old) b o new))) (slice_back 𝓛 u8 κ γ new (length old) b o) $ await ! tt $
        rewrite ! 0 (λ (k : ℕ). ‵ (Bytes k b o new)) count refl $ at_once ! $ by ! (bytes_in new)
