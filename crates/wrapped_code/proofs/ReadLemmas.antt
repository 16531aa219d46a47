-- Operators that are read: none of them catches exceptions.
use Rattle.std.proofs.Common.{◌≡◌, ℕ, ◌+◌, Bool, true, false, List, [], ◌∷◌, length, Option, Some, None, refl, sym, ap, ap₂, ◌∙◌}
use Rattle.std.specs.Prelude.{◌==◌, ◌&&◌, not, if◌then◌else◌}
use Rattle.wasm_code.specs.declared.immediate.BlockType.TheVariants as block
use Rattle.wasm_code.specs.declared.operator.Operator.{Operator}
use Rattle.wasm_code.specs.declared.operator.Operator.TheVariants as op
use Rattle.wasm_code.specs.declared.other.Other.{Other}
use Rattle.wasm_code.specs.declared.other.Other.TheVariants as others
use Rattle.wasm_code.specs.declared.other.Shape.{Shape}
use Rattle.wasm_code.specs.Operator.{other_operator, SpellsAny}
use Rattle.wasm_code.specs.Other.{is_catching_byte, byte_shape, shape_of, SpellsShaped}
use Rattle.wasm_equivalence.specs.control.Blocks.{handles, tries, catches, delegates, does, role_of}
use Rattle.wrapped_code.specs.Handlers.{handles_by, is_handler, ReadCodeHasNoHandlers}

-- ---- by the tests of a byte

-- what opens a block that catches has one of the bytes that aren't read
caught : (x06 x07 x09 x18 x19 x1f : Bool) →
    handles_by (if x1f then handles else if x06 then tries else if x07 then catches else if x19 then catches else if x18 then delegates else does) ≡ true →
    (if x06 then true else if x07 then true else if x09 then true else if x18 then true else if x19 then true else x1f) ≡ true
caught true x07 x09 x18 x19 x1f e = refl
caught false true x09 x18 x19 x1f e = refl
caught false false true x18 x19 x1f e = refl
caught false false false true x19 x1f e = refl
caught false false false false true x1f e = refl
caught false false false false false true e = refl
caught false false false false false false e = absurd cc

-- a byte that is read isn't one of them
free_shaped : (b : Bool) (s : Option Shape) (v other : Other) (back : List ℕ) → SpellsShaped (if b then None else s) v back other → b ≡ false
free_shaped true s v other back h = absurd h
free_shaped false s v other back h = refl

same_shaped : (s : Option Shape) (v other : Other) (back : List ℕ) → SpellsShaped s v back other → v ≡ other
same_shaped None v other back h = absurd h
same_shaped (Some s) v other back h = h.made

other_is : (x02 x03 x04 : Bool) (v o : Other) →
    (if x02 then op.Block block.Reference else if x03 then op.Loop block.Reference else if x04 then op.If block.Reference else op.Other v) ≡ op.Other o → v ≡ o
other_is true x03 x04 v o e = absurd cc
other_is false true x04 v o e = absurd cc
other_is false false true v o e = absurd cc
other_is false false false v o e = cc

-- ---- an operator

by_shape : (v other : Other) (back : List ℕ) → SpellsShaped (shape_of v) v back other → handles_by (role_of v) ≡ true → ⊥
by_shape (others.Byte b) other back h t =
    let c = caught (b == 0x06) (b == 0x07) (b == 0x09) (b == 0x18) (b == 0x19) (b == 0x1f) t in
    let f = free_shaped (is_catching_byte b) (byte_shape b) (others.Byte b) other back h in
    let z : true ≡ false = sym c ∙ f in absurd cc
by_shape (others.Fb n) other back h t = absurd cc
by_shape (others.Fe n) other back h t = absurd cc

by_other : (other o : Other) → other_operator other ≡ op.Other o → other ≡ o
by_other (others.Byte b) o e = other_is (b == 0x02) (b == 0x03) (b == 0x04) (others.Byte b) o e
by_other (others.Fb n) o e = cc
by_other (others.Fe n) o e = cc

not_true : (b : Bool) → (b ≡ true → ⊥) → b ≡ false
not_true true h = absurd (h refl)
not_true false h = refl

spelled_free : (text : List ℕ) (x : Operator) → SpellsAny text x → is_handler x ≡ false
spelled_free text (op.Other o) h =
    let v = h.spells.value in
    let same : v ≡ o = same_shaped (shape_of v) v h.other h.spells.back h.spells.second ∙ by_other h.other o h.is in
    not_true (handles_by (role_of o))
    (λ t. by_shape v h.other h.spells.back h.spells.second (ap (λ (x : Other). handles_by (role_of x)) same ∙ t))
spelled_free text x h = refl

-- ---- the law

pub read_free : ReadCodeHasNoHandlers
read_free from text [] h = refl
read_free from text (x ∷ xs) h =
    ap₂ (λ (a b : Bool). not a && b) (spelled_free h.front x.0 h.spells) (read_free (from + length h.front) h.back xs h.rest)
