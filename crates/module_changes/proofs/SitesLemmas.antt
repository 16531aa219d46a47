-- The sites of a function, one behind another.
use Rattle.std.proofs.Common.{◌≡◌, ℕ, ◌+◌, ◌<◌, List, [], ◌∷◌, ◌++◌, length, take, get_or, refl, sym, ap, ◌∙◌, subst, append_assoc, append-nil}
use Rattle.std.proofs.lemmas.List.{map_more}
use Rattle.wasm_code.specs.Instruction.{Instruction}
use Rattle.wasm_code.specs.declared.operator.Operator.{Operator}
use Rattle.wasm_types.specs.Module.{Module}
use Rattle.wasm_types.specs.declared.types.PrimitiveTypeInfo.{PrimitiveTypeInfo}
use Rattle.wasm_module.specs.Module.{Layout}
use Rattle.wasm_execution.specs.Values.{Context, context_in}
use Rattle.body_changes.specs.Chosen.{Changes}
use Rattle.body_changes.specs.declared.change.Change.{Change}
use Rattle.body_rewrites.specs.Listing.{AreThose}
use Rattle.body_rewrites.specs.ThoseLemmas.{those_with, those_without}
use Rattle.module_rewrites.specs.Function.{IsFunction}
use Rattle.module_changes.specs.Placed.{ChangeMakesAt}
use Rattle.module_changes.specs.Sites.{sites_at, sites_below, AddsSites, AreSites, AreSitesOf, IsSite}
use Rattle.module_changes.specs.declared.sites.Site.{Site}

module _ (Makes : Change → ℕ → Type 0) (changes : List Change) (operator : ℕ) where
  abbrev one : Change → Site
  one change = record { operator = operator; change = change }

  -- none so far
  pub adds_none : (sites : List Site) → AddsSites Makes [] operator sites sites
  adds_none sites items are = subst (λ (xs : List Site). AreThose (IsSite Makes) xs sites) (sym (append-nil items)) are

  module _ (k : ℕ) (d : Change) (inside : k < length changes) where
    next_sites : (items : List Site) →
        items ++ sites_at (take (k + 1) changes) operator ≡ (items ++ sites_at (take k changes) operator) ++ one (get_or changes k d) ∷ []
    next_sites items =
        ap (λ (xs : List Site). items ++ xs) (map_more one changes k d inside)
        ∙ sym (append_assoc items (sites_at (take k changes) operator) (one (get_or changes k d) ∷ []))

    -- one change more, which makes something
    pub adds_one : (old sites new : List Site) → AddsSites Makes (take k changes) operator old sites → Makes (get_or changes k d) operator →
        new ≡ sites ++ one (get_or changes k d) ∷ [] → AddsSites Makes (take (k + 1) changes) operator old new
    adds_one old sites new h makes e items are =
        subst (λ (xs : List Site). AreThose (IsSite Makes) xs new) (sym (next_sites items))
        (subst (AreThose (IsSite Makes) ((items ++ sites_at (take k changes) operator) ++ one (get_or changes k d) ∷ [])) (sym e)
        (those_with (IsSite Makes) (items ++ sites_at (take k changes) operator) (one (get_or changes k d)) sites (h items are) makes))

    -- or nothing
    pub adds_nothing : (old sites : List Site) → AddsSites Makes (take k changes) operator old sites → (Makes (get_or changes k d) operator → ⊥) →
        AddsSites Makes (take (k + 1) changes) operator old sites
    adds_nothing old sites h never items are =
        subst (λ (xs : List Site). AreThose (IsSite Makes) xs sites) (sym (next_sites items))
        (those_without (IsSite Makes) (items ++ sites_at (take k changes) operator) (one (get_or changes k d)) sites (h items are) never)

-- nothing is copied
pub sites_so : (context : Context) (operators : List (Operator × ℕ)) (copied : List Instruction) (changes : List Change) (count : ℕ) (sites : List Site) →
    copied ≡ [] → count ≡ length operators →
    AreThose (IsSite (Changes context operators (record { most = 1; copied = copied }) [])) (sites_below changes count) sites →
    AreSites context operators changes sites
sites_so context operators copied changes count sites none all h =
    subst (λ (k : ℕ). AreThose (IsSite (ChangeMakesAt context operators)) (sites_below changes k) sites) all
    (subst (λ (c : List Instruction). AreThose (IsSite (Changes context operators (record { most = 1; copied = c }) [])) (sites_below changes count) sites)
    none h)

-- ---- of the function of an entry

module _ (changes : List Change) (bytes : List ℕ) (info : Module) (layout : Layout) (n : ℕ) where
  pub of_read : (lent locals : List PrimitiveTypeInfo) (given operators : List (Operator × ℕ)) (expression : ℕ) (sites : List Site) → lent ≡ locals →
      given ≡ operators → IsFunction bytes info layout n locals expression operators →
      ((l : List PrimitiveTypeInfo) (x : ℕ) (o : List (Operator × ℕ)) → IsFunction bytes info layout n l x o → (locals ≡ l) × (operators ≡ o)) →
      AreSites (context_in info lent) given changes sites → AreSitesOf changes bytes info layout n sites
  of_read lent locals given operators expression sites lent_is given_is f only are = record {
    are = λ l x o k.
        let s = only l x o k in
        subst (λ (ts : List PrimitiveTypeInfo). AreSites (context_in info ts) o changes sites) (lent_is ∙ s.0)
        (subst (λ (os : List (Operator × ℕ)). AreSites (context_in info lent) os changes sites) (given_is ∙ s.1) are);
    none = λ never. absurd (never (record { locals = locals; expression = expression; operators = operators; is = f }));
  }

  pub of_unread : ((l : List PrimitiveTypeInfo) (x : ℕ) (o : List (Operator × ℕ)) → IsFunction bytes info layout n l x o → ⊥) →
      AreSitesOf changes bytes info layout n []
  of_unread never = record { are = λ l x o f. absurd (never l x o f); none = λ _. refl }
