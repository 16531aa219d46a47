-- What a run writes.
use Rattle.std.proofs.Common.{◌≡◌, ℕ, List, [], ◌∷◌, ◌∙◌, sym, subst, Option, Some, None, Result, Ok, Err, IfErr, append-nil}
use Rattle.std.specs.Prelude.{IfSome, OnOk}
use Rattle.std.specs.Io.KnownBytes.{Appends, Keeps, Consumes, IsAtEnd}

pub appends_keeps : (a b c : Option (List ℕ)) (bytes : List ℕ) → Appends a b bytes → Keeps b c → Appends a c bytes
appends_keeps None b c bytes h k = tt
appends_keeps (Some us) None c bytes h k = absurd h
appends_keeps (Some us) (Some vs) None bytes h k = absurd k
appends_keeps (Some us) (Some vs) (Some ws) bytes h k = k ∙ h

-- what holds of the bytes that were read, to the end, holds of those that were there
pub of_all : (P : List ℕ → Type 0) (old left : Option (List ℕ)) (text given : List ℕ) → Consumes old left text → IsAtEnd left → given ≡ text → P given →
    IfSome old P
of_all P None left text given c e is h = tt
of_all P (Some bytes) None text given c e is h = absurd c
of_all P (Some bytes) (Some []) text given c e is h = subst P (is ∙ (sym (append-nil text) ∙ sym c)) h
of_all P (Some bytes) (Some (b ∷ bs)) text given c e is h = absurd (let none : b ∷ bs ≡ [] = e in cc)

-- what holds anyway
pub on_ok_of : {X E : Type 0} {P : Type 0} (r : Result X E) → P → OnOk r P
on_ok_of (Ok x) p = p
on_ok_of (Err e) p = tt

-- why a call failed, by what it was told
pub err_map : {X E : Type 0} {P Q : E → Type 0} (r : Result X E) → ((e : E) → P e → Q e) → IfErr r P → IfErr r Q
err_map (Ok x) f h = h
err_map (Err e) f h = f e h
