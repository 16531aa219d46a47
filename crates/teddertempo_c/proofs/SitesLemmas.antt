-- The rows of a module's sites.
use Rattle.std.proofs.Common.{◌≡◌, ℕ, suc, ◌+◌, ◌-◌, ◌<◌, ◌≤◌, List, [], ◌∷◌, ◌++◌, length, min, take, drop, get_or}
use Rattle.std.proofs.Common.{refl, sym, ap, ◌∙◌, subst, append_assoc, arith}
use Rattle.std.specs.Prelude.{◌^◌}
use Rattle.std.proofs.lemmas.List.{drop_min, map_more, take_min}
use Rattle.std.proofs.Math.Nat.{min_comm}
use Rattle.wasm_types.specs.Module.{Module}
use Rattle.wasm_module.specs.Module.{Layout}
use Rattle.body_changes.specs.declared.change.Change.{Change}
use Rattle.module_rewrites.specs.declared.attempt.Reason.{Reason}
use Rattle.module_rewrites.specs.declared.attempt.Reason.TheVariants as reasons
use Rattle.module_rewrites.specs.declared.mutation.MutationError.TheVariants as mutations
use Rattle.module_changes.specs.Sites.{AreSitesOf}
use Rattle.module_changes.specs.declared.sites.Site.{Site}
use Rattle.teddertempo_c.specs.ChangeOptions.{change_number}
use Rattle.teddertempo_c.specs.Outcome.{offset_by, outcome_by}
use Rattle.teddertempo_c.specs.Sites.{site_rows_of, AreRows, HoldsRows, IsOutcome, IsWhyNone}
use Rattle.teddertempo_c.specs.declared.change_options.ChangeOptions.{ChangeOptions}
use Rattle.teddertempo_c.specs.declared.sites.SiteRow.{SiteRow}
use Rattle.teddertempo_c.proofs.OutcomeLemmas.{by_fault}

-- one row more
pub next_row : (function : ℕ) (sites : List Site) (k : ℕ) (d : Site) (old rows new : List SiteRow) (r : SiteRow) → k < length sites →
    rows ≡ old ++ site_rows_of function (take k sites) →
    r ≡ record { function = function; operator_index = (get_or sites k d).operator; change = change_number (get_or sites k d).change } →
    new ≡ rows ++ r ∷ [] → new ≡ old ++ site_rows_of function (take (k + 1) sites)
next_row function sites k d old rows new r inside h r_is e =
    e ∙ (ap (λ (xs : List SiteRow). xs ++ r ∷ []) h ∙ (append_assoc old (site_rows_of function (take k sites)) (r ∷ [])
    ∙ ap (λ (xs : List SiteRow). old ++ xs) (ap (λ (x : SiteRow). site_rows_of function (take k sites) ++ x ∷ []) r_is
    ∙ sym (map_more (λ (s : Site). record { function = function; operator_index = s.operator; change = change_number s.change }) sites k d inside))))

-- those of one function more
pub next_rows : (changes : List Change) (bytes : List ℕ) (info : Module) (layout : Layout) (from n index : ℕ) (front rows : List SiteRow) (sites : List Site) →
    from ≤ n → AreRows changes bytes info layout from (n - from) front → AreSitesOf changes bytes info layout n sites →
    (layout.imported_functions + n < 2 ^ 64 → index ≡ layout.imported_functions + n) → rows ≡ front ++ site_rows_of index sites →
    AreRows changes bytes info layout from ((n + 1) - from) rows
next_rows changes bytes info layout from n index front rows sites low h are at e =
    let count : suc (n - from) ≡ (n + 1) - from = omega arith in
    let place : n ≡ from + (n - from) = omega arith in
    subst (λ (c : ℕ). AreRows changes bytes info layout from c rows) count (
      front,
      sites,
      h,
      subst (λ (m : ℕ). AreSitesOf changes bytes info layout m sites) place are,
      subst (λ (m : ℕ). layout.imported_functions + m < 2 ^ 64 → rows ≡ front ++ site_rows_of (layout.imported_functions + m) sites) place
          (λ few. e ∙ ap (λ (i : ℕ). front ++ site_rows_of i sites) (at few)),
    )

-- as many as there is room for
pub holds_rows : (rows old new : List SiteRow) (count result : ℕ) → count ≡ min (length rows) (length old) → new ≡ take count rows ++ drop count old →
    result ≡ length rows → HoldsRows rows old result new
holds_rows rows old new count result is put size = record {
  size = size;
  is =
      put ∙ ap (λ n. take n rows ++ drop n old) is
      ∙ ap (λ n. take n rows ++ drop (min (length rows) (length old)) old) (min_comm (length rows) (length old))
      ∙ ap (λ xs. xs ++ drop (min (length rows) (length old)) old) (take_min (length old) rows)
      ∙ ap (λ xs. take (length old) rows ++ xs) (drop_min (length rows) old);
}

-- why nothing is listed
module _ (options : ChangeOptions) (bytes : List ℕ) where
  pub by_why : (reason : Reason) → IsWhyNone options bytes reason → IsOutcome options bytes (offset_by reason) (outcome_by reason)
  by_why (reasons.Refused (mutations.Read e)) h =
      by_fault (IsOutcome options bytes) bytes (λ offset h. h) (λ offset h. h) refl e.kind e.offset h
  by_why (reasons.Refused mutations.Memory) h = refl
  by_why (reasons.Refused (mutations.Write e)) h = absurd h
  by_why (reasons.Refused mutations.TooLong) h = absurd h
  by_why (reasons.Refused mutations.NotSmaller) h = absurd h
  by_why (reasons.NoFunction function) h = (refl, (reasons.NoFunction function, h))
  by_why (reasons.UnknownImport e) h = (refl, (reasons.UnknownImport e, h))
  by_why reasons.NoRule h = absurd h
  by_why reasons.NoOwnFunction h = absurd h
  by_why (reasons.Unreadable e) h = absurd h
