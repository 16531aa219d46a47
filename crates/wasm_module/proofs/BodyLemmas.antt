-- The code section as a list of bodies, one of which is written anew: sizes as they are spelled, and contents; the places of the entries follow.
use Rattle.std.proofs.Common.{◌≡◌, ℕ, zero, suc, ◌+◌, ◌-◌, List, [], ◌∷◌, ◌++◌, length, Some, refl, sym, ap, subst, ◌∙◌, append_assoc, arith}
use Rattle.std.specs.Prelude.{slice_get, slice_range}
use Rattle.std.proofs.lemmas.List.{length-append}
use Rattle.wasm_code.specs.Number.{SpellsUnsigned}
use Rattle.wasm_sections.specs.lemmas.PieceLemmas.{range_is}
use Rattle.wasm_lists.specs.declared.entries.Entry.{Entry}
use Rattle.wasm_lists.specs.List.{Each}
use Rattle.wasm_lists.specs.Entries.{SpellsMeasuredSize, entries_from}
use Rattle.wasm_module.specs.Reread.{HasContents}

pub record Body : Type 0 where
  pub size : List ℕ
  pub contents : List ℕ

-- the bodies, joined
abbrev pub glued : List Body → List ℕ
glued [] = []
glued (b ∷ bs) = b.size ++ (b.contents ++ glued bs)

abbrev pub AreSized : List Body → Type 0
AreSized [] = Unit {0}
AreSized (b ∷ bs) = SpellsUnsigned 32 b.size (length b.contents) × AreSized bs

abbrev pub size_of : Body → ℕ × ℕ
size_of b = (length b.contents, length b.size)

abbrev pub sizes_of : List Body → List (ℕ × ℕ)
sizes_of [] = []
sizes_of (b ∷ bs) = size_of b ∷ sizes_of bs

-- ---- sizes are those of bodies

pub record AreBodies (n : ℕ) (text : List ℕ) (sizes : List (ℕ × ℕ)) : Type 0 where
  pub bodies : List Body
  pub text_is : text ≡ glued bodies
  pub sized : AreSized bodies
  pub sizes_are : sizes ≡ sizes_of bodies
  pub counted : n ≡ length bodies

pub pair_is : (x : ℕ × ℕ) (a b : ℕ) → x.0 ≡ a → x.1 ≡ b → ◌≡◌ {A = ℕ × ℕ} x (a, b)
pair_is x a b e f = ap (λ (n : ℕ). (n, x.1)) e ∙ ap (λ (n : ℕ). (a, n)) f

pub bodies_in : (n : ℕ) (text : List ℕ) (sizes : List (ℕ × ℕ)) → Each n SpellsMeasuredSize text sizes → AreBodies n text sizes
bodies_in zero text sizes p = record { bodies = []; text_is = p.0; sized = tt; sizes_are = sym p.1; counted = refl }
bodies_in (suc n) text sizes p =
    let q = p.first in
    let b : Body = record { size = q.front; contents = q.back } in
    let rest = bodies_in n p.back p.second.value p.second.spells in
    let size : p.value ≡ size_of b = sym q.second.made ∙ pair_is q.value (length q.back) (length q.front) (sym q.second.spells.0) (sym q.first.bytes) in
    record {
      bodies = b ∷ rest.bodies;
      text_is = p.parts ∙ ap (λ (l : List ℕ). l ++ p.back) q.parts ∙ append_assoc q.front q.back p.back
          ∙ ap (λ (l : List ℕ). q.front ++ (q.back ++ l)) rest.text_is;
      sized = (subst (SpellsUnsigned 32 q.front) (sym q.second.spells.0) q.first.spells, rest.sized);
      sizes_are = sym p.second.made ∙ ap (λ (z : ℕ × ℕ). z ∷ p.second.value) size ∙ ap (λ (l : List (ℕ × ℕ)). size_of b ∷ l) rest.sizes_are;
      counted = omega (arith, rest.counted);
    }

pub bodies_spell : (bs : List Body) → AreSized bs → Each (length bs) SpellsMeasuredSize (glued bs) (sizes_of bs)
bodies_spell [] s = (refl, refl)
bodies_spell (b ∷ bs) s = record {
  value = size_of b;
  front = b.size ++ b.contents;
  back = glued bs;
  parts = sym (append_assoc b.size b.contents (glued bs));
  first = record {
    value = size_of b;
    front = b.size;
    back = b.contents;
    parts = refl;
    first = record { spells = s.0; bytes = refl };
    second = record { value = b.contents; spells = (refl, refl); made = refl };
  };
  second = record { value = sizes_of bs; spells = bodies_spell bs s.1; made = refl };
}

-- ---- the entry of a body

abbrev pub entry_at : ℕ → Body → Entry
entry_at start b = record { start = start; contents = start + length b.size; end = start + length b.size + length b.contents }

abbrev pub placed : ℕ → List Body → List Entry
placed start bs = entries_from start (sizes_of bs)

-- the k-th of the bodies, and its entry
pub record IsCut (start : ℕ) (bs : List Body) (k : ℕ) (entry : Entry) : Type 0 where
  pub before : List Body
  pub body : Body
  pub behind : List Body
  pub parts : bs ≡ before ++ body ∷ behind
  pub at : k ≡ length before
  pub is : entry ≡ entry_at (start + length (glued before)) body

no_entry : (start k : ℕ) (entry : Entry) → slice_get (placed start []) k ≡ Some entry → ⊥
no_entry start k entry e = cc

first_is : (x y : Entry) → Some x ≡ Some y → x ≡ y
first_is x y e = cc

pub glued_length : (start : ℕ) (b : Body) (bs : List Body) → start + length b.size + length b.contents + length (glued bs) ≡ start + length (glued (b ∷ bs))
glued_length start b bs = omega (arith, length-append b.size (b.contents ++ glued bs), length-append b.contents (glued bs))

pub cut : (bs : List Body) (start k : ℕ) (entry : Entry) → slice_get (placed start bs) k ≡ Some entry → IsCut start bs k entry
cut [] start k entry e = absurd (no_entry start k entry e)
cut (b ∷ bs) start zero entry e = record {
  before = [];
  body = b;
  behind = bs;
  parts = refl;
  at = refl;
  is = sym (first_is _ _ e) ∙ ap (λ (n : ℕ). entry_at n b) (omega arith);
}
cut (b ∷ bs) start (suc k) entry e =
    let r = cut bs (start + length b.size + length b.contents) k entry e in
    record {
      before = b ∷ r.before;
      body = r.body;
      behind = r.behind;
      parts = ap (λ (l : List Body). b ∷ l) r.parts;
      at = omega (arith, r.at);
      is = r.is ∙ ap (λ (n : ℕ). entry_at n r.body) (glued_length start b r.before);
    }

entry_there : (before behind : List Body) (b : Body) (start : ℕ) →
    slice_get (placed start (before ++ b ∷ behind)) (length before) ≡ Some (entry_at (start + length (glued before)) b)
entry_there [] behind b start = ap (λ (n : ℕ). Some (entry_at n b)) (omega arith)
entry_there (x ∷ before) behind b start =
    entry_there before behind b (start + length x.size + length x.contents)
    ∙ ap (λ (n : ℕ). Some (entry_at n b)) (glued_length start x before)

pub glued-append : (xs ys : List Body) → glued (xs ++ ys) ≡ glued xs ++ glued ys
glued-append [] ys = refl
glued-append (x ∷ xs) ys = ap (λ (l : List ℕ). x.size ++ (x.contents ++ l)) (glued-append xs ys)
    ∙ ap (λ (l : List ℕ). x.size ++ l) (sym (append_assoc x.contents (glued xs) (glued ys)))
    ∙ sym (append_assoc x.size (x.contents ++ glued xs) (glued ys))

-- the contents of a body stand where its entry says
pub contents_are : (bytes pre post : List ℕ) (start : ℕ) (before behind : List Body) (b : Body) →
    bytes ≡ pre ++ (glued (before ++ b ∷ behind) ++ post) → length pre ≡ start
    → slice_range bytes (entry_at (start + length (glued before)) b).contents (entry_at (start + length (glued before)) b).end ≡ b.contents
contents_are bytes pre post start before behind b e f =
    let whole : bytes ≡ ((pre ++ glued before) ++ b.size) ++ (b.contents ++ (glued behind ++ post)) = e
    ∙ ap (λ (l : List ℕ). pre ++ (l ++ post)) (glued-append before (b ∷ behind)) ∙ simp append_assoc in
    range_is bytes ((pre ++ glued before) ++ b.size) b.contents (glued behind ++ post) (start + length (glued before) + length b.size)
    (start + length (glued before) + length b.size + length b.contents) whole
    (omega (arith, length-append (pre ++ glued before) b.size, length-append pre (glued before), f)) refl

pub has_contents : (bytes pre post : List ℕ) (start : ℕ) (before behind : List Body) (b : Body) (bs : List Body) (k : ℕ) → bs ≡ before ++ b ∷ behind →
    k ≡ length before → bytes ≡ pre ++ (glued bs ++ post) → length pre ≡ start → HasContents bytes (placed start bs) k b.contents
has_contents bytes pre post start before behind b bs k parts at e f = record {
  entry = entry_at (start + length (glued before)) b;
  at = ap (λ (l : List Body). slice_get (placed start l) k) parts ∙ ap (slice_get (placed start (before ++ b ∷ behind))) at
      ∙ entry_there before behind b start;
  text_is = sym (contents_are bytes pre post start before behind b (e ∙ ap (λ (l : List Body). pre ++ (glued l ++ post)) parts) f);
}

-- the bodies behind the number of them
pub glued_in : (bytes pre post text count : List ℕ) (bs : List Body) → bytes ≡ pre ++ (text ++ post) → text ≡ count ++ glued bs →
    bytes ≡ (pre ++ count) ++ (glued bs ++ post)
glued_in bytes pre post text count bs e t =
    e ∙ ap (λ (l : List ℕ). pre ++ (l ++ post)) t ∙ ap (λ (l : List ℕ). pre ++ l) (append_assoc count (glued bs) post)
    ∙ sym (append_assoc pre count (glued bs ++ post))
