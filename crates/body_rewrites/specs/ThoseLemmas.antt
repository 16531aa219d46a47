-- Those of some items that have a property, in their order.
use Rattle.std.proofs.Common.{◌≡◌, ℕ, zero, suc, ◌+◌, ◌<◌, ◌≤◌, ◌⊎◌, inl, inr, List, [], ◌∷◌, ◌++◌, length, take, get_or, Some, refl, sym}
use Rattle.std.proofs.Common.{ap, subst, ◌∙◌, arith}
use Rattle.std.specs.Prelude.{Contains, slice_get}
use Rattle.std.proofs.lemmas.List.{take_more, take_all}
use Rattle.std.proofs.lemmas.List.Elements.{Contains-append_cases, Contains-append_left, Contains-append_right, Contains-push, Contains-push_cases}
use Rattle.body_rewrites.specs.Listing.{AreThose}

module _ {A : Type 0} where
  -- ---- an item

  pub head_contained : (x : A) (xs : List A) → Contains (x ∷ xs) x
  head_contained x xs = Contains-append_left (x ∷ []) xs x (Contains-push [] x)

  pub tail_contained : (x : A) (xs : List A) (y : A) → Contains xs y → Contains (x ∷ xs) y
  tail_contained x xs y h = Contains-append_right (x ∷ []) xs y h

  pub contained_cases : (x : A) (xs : List A) (y : A) → Contains (x ∷ xs) y → (x ≡ y) ⊎ Contains xs y
  contained_cases x xs y h = elim (Contains-append_cases (x ∷ []) xs y h) [
    | inl c ↦ elim (Contains-push_cases [] x y c) [ inl none ↦ absurd (let l : none.0 < 0 = none.1 in omega arith) | inr e ↦ inl e ]
    | inr c ↦ inr c
  ]

  -- ---- more items

  pub those_with : (P : A → Type 0) (xs : List A) (x : A) (ys : List A) → AreThose P xs ys → P x → AreThose P (xs ++ x ∷ []) (ys ++ x ∷ [])
  those_with P [] x ys e p = inl (p, [], ap (λ zs. zs ++ x ∷ []) e, refl)
  those_with P (y ∷ xs) x ys (inl (q, rest, e, are)) p = inl (q, rest ++ x ∷ [], ap (λ zs. zs ++ x ∷ []) e, those_with P xs x rest are p)
  those_with P (y ∷ xs) x ys (inr (never, are)) p = inr (never, those_with P xs x ys are p)

  pub those_without : (P : A → Type 0) (xs : List A) (x : A) (ys : List A) → AreThose P xs ys → (P x → ⊥) → AreThose P (xs ++ x ∷ []) ys
  those_without P [] x ys e never = inr (never, e)
  those_without P (y ∷ xs) x ys (inl (q, rest, e, are)) never = inl (q, rest, e, those_without P xs x rest are never)
  those_without P (y ∷ xs) x ys (inr (not_y, are)) never = inr (not_y, those_without P xs x ys are never)

  pub those_append : (P : A → Type 0) (xs ys us vs : List A) → AreThose P xs us → AreThose P ys vs → AreThose P (xs ++ ys) (us ++ vs)
  those_append P [] ys us vs e more = subst (λ zs. AreThose P ys (zs ++ vs)) (sym e) more
  those_append P (x ∷ xs) ys us vs (inl (p, rest, e, are)) more = inl (p, rest ++ vs, ap (λ zs. zs ++ vs) e, those_append P xs ys rest vs are more)
  those_append P (x ∷ xs) ys us vs (inr (never, are)) more = inr (never, those_append P xs ys us vs are more)

  pub those_parts : (P : A → Type 0) (xs ys ws : List A) → AreThose P (xs ++ ys) ws →
      (us vs : List A) × (ws ≡ us ++ vs) × AreThose P xs us × AreThose P ys vs
  those_parts P [] ys ws h = ([], ws, refl, refl, h)
  those_parts P (x ∷ xs) ys ws (inl (p, rest, e, are)) =
      let (us, vs, same, front, back) = those_parts P xs ys rest are in
      (x ∷ us, vs, e ∙ ap (λ zs. x ∷ zs) same, inl (p, us, refl, front), back)
  those_parts P (x ∷ xs) ys ws (inr (never, are)) =
      let (us, vs, same, front, back) = those_parts P xs ys ws are in
      (us, vs, same, inr (never, front), back)

  -- ---- what they are

  pub those_as : (P Q : A → Type 0) → ((x : A) → P x → Q x) → ((x : A) → Q x → P x) → (xs ys : List A) → AreThose P xs ys → AreThose Q xs ys
  those_as P Q to from [] ys e = e
  those_as P Q to from (x ∷ xs) ys (inl (p, rest, e, are)) = inl (to x p, rest, e, those_as P Q to from xs rest are)
  those_as P Q to from (x ∷ xs) ys (inr (never, are)) = inr (λ q. never (from x q), those_as P Q to from xs ys are)

  -- those of the same items are the same
  pub those_same : (P : A → Type 0) (items those others : List A) → AreThose P items those → AreThose P items others → those ≡ others
  those_same P [] those others e f = e ∙ sym f
  those_same P (x ∷ items) those others (inl (p, rest, e, are)) (inl (q, more, f, as_well)) =
      e ∙ ap (λ zs. x ∷ zs) (those_same P items rest more are as_well) ∙ sym f
  those_same P (x ∷ items) those others (inl (p, rest, e, are)) (inr (never, as_well)) = absurd (never p)
  those_same P (x ∷ items) those others (inr (never, are)) (inl (q, more, f, as_well)) = absurd (never q)
  those_same P (x ∷ items) those others (inr (never, are)) (inr (nor, as_well)) = those_same P items those others are as_well

  -- those of the first items come first
  pub those_first : (P : A → Type 0) (xs ys : List A) (us vs : List A) → AreThose P xs us → AreThose P (xs ++ ys) vs → (ws : List A) × (vs ≡ us ++ ws)
  those_first P [] ys us vs e h = (vs, sym (ap (λ zs. zs ++ vs) e))
  those_first P (x ∷ xs) ys us vs (inl (p, rest, e, are)) (inl (q, others, f, h)) =
      let (ws, same) = those_first P xs ys rest others are h in
      (ws, f ∙ ap (λ zs. x ∷ zs) same ∙ sym (ap (λ zs. zs ++ ws) e))
  those_first P (x ∷ xs) ys us vs (inl (p, rest, e, are)) (inr (never, h)) = absurd (never p)
  those_first P (x ∷ xs) ys us vs (inr (never, are)) (inl (q, others, f, h)) = absurd (never q)
  those_first P (x ∷ xs) ys us vs (inr (never, are)) (inr (n, h)) = those_first P xs ys us vs are h

  -- none of them has the property where there are none
  pub none_of : (P : A → Type 0) (xs : List A) → AreThose P xs [] → (x : A) → Contains xs x → P x → ⊥
  none_of P [] e x h p = absurd (let l : h.0 < 0 = h.1 in omega arith)
  none_of P (y ∷ xs) (inl (q, rest, e, are)) x h p = absurd cc
  none_of P (y ∷ xs) (inr (never, are)) x h p = elim (contained_cases y xs x h) [
    | inl same ↦ never (subst P (sym same) p)
    | inr c ↦ none_of P xs are x c p
  ]

  -- there are none where no item has it
  pub none_are : (P : A → Type 0) (xs : List A) → ((x : A) → Contains xs x → P x → ⊥) → AreThose P xs []
  none_are P [] none = refl
  none_are P (x ∷ xs) none = inr (none x (head_contained x xs), none_are P xs (λ y h. none y (tail_contained x xs y h)))

  -- each of them is an item with the property
  pub one_of : (P : A → Type 0) (xs ys : List A) → AreThose P xs ys → (i : ℕ) (x : A) → slice_get ys i ≡ Some x → Contains xs x × P x
  one_of P [] ys e i x h = absurd (let none = ap (λ zs. slice_get zs i) (sym e) ∙ h in cc)
  one_of P (y ∷ xs) ys (inr (never, are)) i x h = let (c, p) = one_of P xs ys are i x h in (tail_contained y xs x c, p)
  one_of P (y ∷ xs) ys (inl (q, rest, e, are)) zero x h =
      let same : y ≡ x = (let first : Some y ≡ Some x = ap (λ zs. slice_get zs 0) (sym e) ∙ h in cc) in
      (subst (Contains (y ∷ xs)) same (head_contained y xs), subst P same q)
  one_of P (y ∷ xs) ys (inl (q, rest, e, are)) (suc i) x h =
      let (c, p) = one_of P xs rest are i x (ap (λ zs. slice_get zs (suc i)) (sym e) ∙ h) in (tail_contained y xs x c, p)

  -- there are some where an item has the property
  pub some_of : (P : A → Type 0) (xs ys : List A) (x : A) → Contains xs x → P x → AreThose P xs ys → 0 < length ys
  some_of P xs [] x h p are = absurd (none_of P xs are x h p)
  some_of P xs (y ∷ ys) x h p are = omega arith

  pub those_bounded : (P : A → Type 0) (xs ys : List A) → AreThose P xs ys → length ys ≤ length xs
  those_bounded P [] ys e = let none = ap length e in omega arith
  those_bounded P (x ∷ xs) ys (inl (p, rest, e, are)) = let size = ap length e in let l = those_bounded P xs rest are in omega arith
  those_bounded P (x ∷ xs) ys (inr (never, are)) = let l = those_bounded P xs ys are in omega arith

-- ---- the next item of a list

module _ {A : Type 0} (P : A → Type 0) (xs : List A) (i : ℕ) (d x : A) (l : i < length xs) (is : x ≡ get_or xs i d) where
  one_more : take (i + 1) xs ≡ take i xs ++ x ∷ []
  one_more = take_more xs i d l ∙ ap (λ y. take i xs ++ y ∷ []) (sym is)

  pub next_with : (ys : List A) → P x → AreThose P (take i xs) ys → AreThose P (take (i + 1) xs) (ys ++ x ∷ [])
  next_with ys p are = subst (λ zs. AreThose P zs (ys ++ x ∷ [])) (sym one_more) (those_with P (take i xs) x ys are p)

  pub next_without : (ys : List A) → (P x → ⊥) → AreThose P (take i xs) ys → AreThose P (take (i + 1) xs) ys
  next_without ys never are = subst (λ zs. AreThose P zs ys) (sym one_more) (those_without P (take i xs) x ys are never)

  -- none of the items so far has the property
  pub none_next : (P x → ⊥) → ((y : A) → Contains (take i xs) y → P y → ⊥) → (y : A) → Contains (take (i + 1) xs) y → P y → ⊥
  none_next never before y h p =
      elim (Contains-push_cases (take i xs) x y (subst (λ zs. Contains zs y) one_more h)) [
        | inl c ↦ before y c p
        | inr e ↦ never (subst P (sym e) p)
      ]

module _ {A : Type 0} (P : A → Type 0) (xs : List A) where
  pub none_start : (x : A) → Contains (take 0 xs) x → P x → ⊥
  none_start x h p = let l : h.0 < 0 = h.1 in absurd (omega arith)

  pub none_of_all : (i : ℕ) → length xs ≤ i → ((x : A) → Contains (take i xs) x → P x → ⊥) → (x : A) → Contains xs x → P x → ⊥
  none_of_all i past before x h p = before x (subst (λ zs. Contains zs x) (sym (take_all i xs past)) h) p

  pub those_of_all : (i : ℕ) → length xs ≤ i → (ys : List A) → AreThose P (take i xs) ys → AreThose P xs ys
  those_of_all i past ys are = subst (λ zs. AreThose P zs ys) (take_all i xs past) are
