-- Attempts one after another end at one entry, with one stream.
use Rattle.std.proofs.Common.{◌≡◌, ◌⊎◌, inl, inr, ℕ, zero, suc, ◌+◌, ◌<◌, List, length, sym, ap, subst, ◌∙◌, arith}
use Rattle.std.proofs.lemmas.Bool.{cases_eq, cases_lt}
use Rattle.rand_core.specs.Stream.{Stream}
use Rattle.wasm_lists.specs.declared.entries.Entry.{Entry}
use Rattle.body_rewrites.specs.Choice.{after_word}
use Rattle.module_rewrites.specs.Drawing.{DrawsEntry, EachInVain, IsFirstBefore, IsFirstBehind, NamesEntry, NamesInVain, by_word, in_order}

-- An attempt in vain leaves one stream, and none ends the search.
pub record AreApart (Vain : Stream → ℕ → Stream → Type 0) (Ends : Stream → ℕ → Type 0) : Type 0 where
  pub one : (s : Stream) (n : ℕ) (a b : Stream) → Vain s n a → Vain s n b → a ≡ b
  pub apart : (s : Stream) (n : ℕ) (a : Stream) → Vain s n a → Ends s n → ⊥

module _ (Vain : Stream → ℕ → Stream → Type 0) (Ends : Stream → ℕ → Type 0) (are : AreApart Vain Ends) where
  -- ---- at entries that are known

  pub each_as : (at as_well : ℕ → ℕ) → ((j : ℕ) → at j ≡ as_well j) → (count : ℕ) (s after : Stream) → EachInVain Vain at count s after →
      EachInVain Vain as_well count s after
  each_as at as_well same zero s after h = h
  each_as at as_well same (suc count) s after h =
      (h.0, each_as at as_well same count s h.0 h.1, subst (λ i. Vain h.0 i after) (same count) h.2)

  pub each_one : (at : ℕ → ℕ) (count : ℕ) (s a b : Stream) → EachInVain Vain at count s a → EachInVain Vain at count s b → a ≡ b
  each_one at zero s a b h k = h ∙ sym k
  each_one at (suc count) s a b h k =
      let same = each_one at count s h.0 k.0 h.1 k.1 in
      are.one k.0 (at count) a b (subst (λ (x : Stream). Vain x (at count) a) same h.2) k.2

  -- those before one of the attempts in vain, and that one
  each_before : (at : ℕ → ℕ) (i j : ℕ) (s b : Stream) → i < j → EachInVain Vain at j s b →
      (a : Stream) × (later : Stream) × EachInVain Vain at i s a × Vain a (at i) later
  each_before at i zero s b less h = absurd (omega (arith, less))
  each_before at i (suc j) s b less h = elim (cases_eq i j) [
    | inl same ↦ (h.0, b, subst (λ k. EachInVain Vain at k s h.0) (sym same) h.1, subst (λ k. Vain h.0 (at k) b) (sym same) h.2)
    | inr other ↦ each_before at i j s h.0 (omega (arith, less, other)) h.1
  ]

  -- the attempt that ends the search isn't among those
  pub each_apart : (at : ℕ → ℕ) (i j : ℕ) (s a b : Stream) → i < j → EachInVain Vain at i s a → Ends a (at i) → EachInVain Vain at j s b → ⊥
  each_apart at i j s a b less h ends k =
      let (c, later, before, vain) = each_before at i j s b less k in
      let same = each_one at i s c a before h in
      are.apart a (at i) later (subst (λ (x : Stream). Vain x (at i) later) same vain) ends

  pub each_count : (at : ℕ → ℕ) (i j : ℕ) (s a b : Stream) → EachInVain Vain at i s a → Ends a (at i) → EachInVain Vain at j s b → Ends b (at j) →
      (i ≡ j) × (a ≡ b)
  each_count at i j s a b h p k q = elim (cases_lt i j) [
    | inl less ↦ absurd (each_apart at i j s a b less h p k)
    | inr no_less ↦ elim (cases_eq i j) [
      | inl same ↦ (same, each_one at i s a b h (subst (λ n. EachInVain Vain at n s b) (sym same) k))
      | inr other ↦ absurd (each_apart at j i s b a (omega (arith, no_less, other)) k q h)
    ]
  ]

  -- ---- in order

  behind_one : (from n m : ℕ) (s a b : Stream) → IsFirstBehind Vain from n s a → Ends a n → IsFirstBehind Vain from m s b → Ends b m → (n ≡ m) × (a ≡ b)
  behind_one from n m s a b h p k q =
      let (same, there) = each_count (λ j. from + j) h.0 k.0 s a b h.2 (subst (λ i. Ends a i) h.1 p) k.2 (subst (λ i. Ends b i) k.1 q) in
      (h.1 ∙ ap (λ i. from + i) same ∙ sym k.1, there)

  before_one : (count from n m : ℕ) (s a b : Stream) → IsFirstBefore Vain count from n s a → Ends a n → IsFirstBefore Vain count from m s b → Ends b m →
      (n ≡ m) × (a ≡ b)
  before_one count from n m s a b h p k q =
      let number : h.1 ≡ k.1 = omega (arith, h.3, k.3) in
      let middle = each_one (λ j. from + j) k.1 s h.2 k.2 (subst (λ i. EachInVain Vain (λ j. from + j) i s h.2) number h.4) k.4 in
      let there = subst (λ (x : Stream). EachInVain Vain (λ j. j) n x a) middle h.5 in
      each_count (λ j. j) n m k.2 a b there p k.5 q

  -- an entry from there on comes before all those before that
  behind_apart : (count from n m : ℕ) (s a b : Stream) → n < count → IsFirstBehind Vain from n s a → Ends a n → IsFirstBefore Vain count from m s b → ⊥
  behind_apart count from n m s a b inside h p k =
      each_apart (λ j. from + j) h.0 k.1 s a k.2 (omega (arith, h.1, k.3, inside)) h.2 (subst (λ i. Ends a i) h.1 p) k.4

  order_one : (count from n m : ℕ) (s a b : Stream) → n < count → m < count → Ends a n → Ends b m →
      IsFirstBehind Vain from n s a ⊎ IsFirstBefore Vain count from n s a → IsFirstBehind Vain from m s b ⊎ IsFirstBefore Vain count from m s b →
      (n ≡ m) × (a ≡ b)
  order_one count from n m s a b inside within p q (inl h) (inl k) = behind_one from n m s a b h p k q
  order_one count from n m s a b inside within p q (inl h) (inr k) = absurd (behind_apart count from n m s a b inside h p k)
  order_one count from n m s a b inside within p q (inr h) (inl k) = absurd (behind_apart count from m n s b a within k q h)
  order_one count from n m s a b inside within p q (inr h) (inr k) = before_one count from n m s a b h p k q

  -- ---- where words name entries

  module _ (entries : List Entry) (named : (s : Stream) (n m : ℕ) → NamesEntry s entries n → NamesEntry s entries m → n ≡ m) where
    pub names_one : (count : ℕ) (s : Stream) (l m : ℕ) (a b : Stream) → NamesInVain Vain entries count s l a → NamesInVain Vain entries count s m b →
        (l ≡ m) × (a ≡ b)
    names_one zero s l m a b h k = (h.0 ∙ sym k.0, h.1 ∙ sym k.1)
    names_one (suc count) s l m a b h k =
        let same = (names_one count s h.0 k.0 h.1 k.1 h.2 k.2).1 in
        let here = named k.1 l m (subst (λ (x : Stream). NamesEntry x entries l) same h.3) k.3 in
        let there = subst (λ n. Vain (after_word k.1) n a) here (subst (λ (x : Stream). Vain (after_word x) l a) same h.4) in
        (here, are.one (after_word k.1) m a b there k.4)

    -- those before one of the words, and that one
    names_before : (i j : ℕ) (s : Stream) (m : ℕ) (b : Stream) → i < j → NamesInVain Vain entries j s m b →
        (l : ℕ) × (a : Stream) × (n : ℕ) × (later : Stream) × NamesInVain Vain entries i s l a × NamesEntry a entries n × Vain (after_word a) n later
    names_before i zero s m b less h = absurd (omega (arith, less))
    names_before i (suc j) s m b less h = elim (cases_eq i j) [
      | inl same ↦ (h.0, h.1, m, b, subst (λ k. NamesInVain Vain entries k s h.0 h.1) (sym same) h.2, h.3, h.4)
      | inr other ↦ names_before i j s h.0 h.1 (omega (arith, less, other)) h.2
    ]

    -- the word that ends the search isn't among those
    pub names_apart : (i j : ℕ) (s : Stream) (l : ℕ) (a : Stream) (n m : ℕ) (b : Stream) → i < j → NamesInVain Vain entries i s l a →
        NamesEntry a entries n → Ends (after_word a) n → NamesInVain Vain entries j s m b → ⊥
    names_apart i j s l a n m b less h is ends k =
        let (o, c, other, later, before, names, vain) = names_before i j s m b less k in
        let same : c ≡ a = (names_one i s o l c a before h).1 in
        let here = named a other n (subst (λ (x : Stream). NamesEntry x entries other) same names) is in
        are.apart (after_word a) n later
        (subst (λ y. Vain (after_word a) y later) here (subst (λ (x : Stream). Vain (after_word x) other later) same vain)) ends

    words_one : (i j : ℕ) (s : Stream) (l : ℕ) (a : Stream) (n o : ℕ) (b : Stream) (m : ℕ) → NamesInVain Vain entries i s l a → NamesEntry a entries n →
        Ends (after_word a) n → NamesInVain Vain entries j s o b → NamesEntry b entries m → Ends (after_word b) m → (n ≡ m) × (a ≡ b)
    words_one i j s l a n o b m h is p k has q = elim (cases_lt i j) [
      | inl less ↦ absurd (names_apart i j s l a n o b less h is p k)
      | inr no_less ↦ elim (cases_eq i j) [
        | inl same ↦
            let there = (names_one i s l o a b h (subst (λ x. NamesInVain Vain entries x s o b) (sym same) k)).1 in
            (named b n m (subst (λ (x : Stream). NamesEntry x entries n) there is) has, there)
        | inr other ↦ absurd (names_apart j i s o b m l a (omega (arith, no_less, other)) k has q h)
      ]
    ]

    pub draws_one : (most : ℕ) (s : Stream) (n m : ℕ) (a b : Stream) → n < length entries → m < length entries → Ends a n → Ends b m →
        DrawsEntry Vain entries most s n a → DrawsEntry Vain entries most s m b → (n ≡ m) × (a ≡ b)
    draws_one most s n m a b inside within p q (by_word i l c few h is after) (by_word j o d few' k has later) =
        let (same, there) = words_one i j s l c n o d m h is (subst (λ (x : Stream). Ends x n) after p) k has (subst (λ (x : Stream). Ends x m) later q) in
        (same, after ∙ ap after_word there ∙ sym later)
    draws_one most s n m a b inside within p q (by_word i l c few h is after) (in_order o d k order) =
        absurd (names_apart i most s l c n o d few h is (subst (λ (x : Stream). Ends x n) after p) k)
    draws_one most s n m a b inside within p q (in_order l c h order) (by_word j o d few k has later) =
        absurd (names_apart j most s o d m l c few k has (subst (λ (x : Stream). Ends x m) later q) h)
    draws_one most s n m a b inside within p q (in_order l c h order) (in_order o d k again) =
        let same = names_one most s l o c d h k in
        let there = subst (λ (x : Stream). IsFirstBehind Vain o n x a ⊎ IsFirstBefore Vain (length entries) o n x a) same.1
        (subst (λ i. IsFirstBehind Vain i n c a ⊎ IsFirstBefore Vain (length entries) i n c a) same.0 order) in
        order_one (length entries) o n m d a b inside within p q there again
