-- Lines on exact rows make nothing where what runs the module isn't exact.
use Rattle.std.proofs.Common.{◌≡◌, ℕ, suc, Bool, true, false, cond, List, [], ◌∷◌, inl, inr, refl, sym, ◌∙◌}
use Rattle.std.specs.Prelude.{◌||◌, not}
use Rattle.std.specs.List.{filter}
use Rattle.std.proofs.lemmas.Bool.{false≢true}
use Rattle.wasm_execution.specs.Values.{Context}
use Rattle.rewrite_rules.specs.declared.table.Row.{Row}
use Rattle.rewrite_rules.specs.declared.table.Widths.{Widths}
use Rattle.rewrite_rules.specs.declared.table.Widths.TheVariants as widths
use Rattle.rewrite_rules.specs.Applying.{ExactRowsAreTold}
use Rattle.rewrite_rules.specs.Laws.{TableIsRight}
use Rattle.rewrite_rules.specs.Table.{needs_exact}
use Rattle.body_rewrites.specs.declared.asked.Asked.{Asked}
use Rattle.body_rewrites.specs.declared.asked.Form.{Form}
use Rattle.body_rewrites.specs.declared.asked.Form.TheVariants.{Own, Alone, Other}
use Rattle.body_rewrites.specs.declared.found.Found.{Found}
use Rattle.body_rewrites.specs.Alone.{form_by}
use Rattle.body_rewrites.specs.Asking.{is_ready, is_ready_by, rewrite_of, rewrites_of, AreAsked, IsAskedSo}
use Rattle.body_rewrites.specs.Listing.{AreFound}
use Rattle.body_rewrites.specs.Rewrites.{IsMade}
use Rattle.body_rewrites.proofs.StandsLemmas.{Operators}
use Rattle.body_rewrites.proofs.FormLemmas.{is_line, made_by, IsNotOwn}
use Rattle.body_rewrites.proofs.ListingLemmas.{line_nothing}
use Rattle.body_rewrites.proofs.PlaceLemmas.{formed}

-- a line is none of a rule beside the table
not_own : (row : Row) (w : Widths) → Other ≡ form_by row w → IsNotOwn w
not_own row widths.Both e = tt
not_own row (widths.Only t) e = tt
not_own row widths.Any e = tt
not_own row (widths.Operands a b c) e = tt
not_own row (widths.Own o) e = absurd cc

not_ready : (exact needs : Bool) → (exact || not needs) ≡ false → (exact ≡ false) × (needs ≡ true)
not_ready true needs off = absurd (false≢true (sym off))
not_ready false true off = (refl, refl)
not_ready false false off = absurd (false≢true (sym off))

module _ (right : TableIsRight) (exacts : ExactRowsAreTold) (context : Context) (operators : Operators) (at : ℕ) where
  -- one on exact rows makes nothing where what runs the module isn't exact
  pub exact_nothing : (a : Asked) → IsAskedSo a → a.form ≡ Other → needs_exact a.line.row ≡ true → context.info.exact ≡ false →
      IsMade context operators (rewrite_of at a) → ⊥
  exact_nothing a is form needs off =
      let own = not_own a.line.row a.line.row.widths (sym form ∙ is.form_is) in
      let line = is_line a.number a.line is.line own in
      line_nothing context operators at a.number a.line is.line
      (λ change made.
      let so = made_by context operators a.line at change a.line.row.widths own made in
      false≢true (sym off ∙ so.is.is.applies.exact (exacts a.line.row a.line.width (formed right a.line line) ∙ needs)))

  -- so does each that isn't ready
  unready_nothing : (a : Asked) → IsAskedSo a → (form : Form) → a.form ≡ form → is_ready_by context.info.exact a.line.row form ≡ false →
      IsMade context operators (rewrite_of at a) → ⊥
  unready_nothing a is (Own o) form off made = false≢true (sym off)
  unready_nothing a is (Alone d) form off made = false≢true (sym off)
  unready_nothing a is Other form off made =
      let h = not_ready context.info.exact (needs_exact a.line.row) off in
      exact_nothing a is form h.1 h.0 made

  -- what those that are ready make is all that is made
  pub found_ready : (list : List Asked) → AreAsked list → (found : List Found) →
      AreFound context operators (rewrites_of at (filter (is_ready context.info.exact) list)) found → AreFound context operators (rewrites_of at list) found
  found_ready [] are found h = h
  found_ready (a ∷ list) are found h = go (is_ready context.info.exact a) refl (found_ready list (λ n. are (suc n))) h
    where
      go : (b : Bool) → is_ready context.info.exact a ≡ b → ((more : List Found) →
          AreFound context operators (rewrites_of at (filter (is_ready context.info.exact) list)) more →
          AreFound context operators (rewrites_of at list) more) →
          AreFound context operators (rewrites_of at (cond b (a ∷ filter (is_ready context.info.exact) list) (filter (is_ready context.info.exact) list)))
          found → AreFound context operators (rewrites_of at (a ∷ list)) found
      go true on rest (inl (growth, has, more, is, so)) = inl (growth, has, more, is, rest more so)
      go true on rest (inr (never, so)) = inr (never, rest found so)
      go false off rest so = inr (unready_nothing a (are 0 a refl) a.form refl off, rest found so)
