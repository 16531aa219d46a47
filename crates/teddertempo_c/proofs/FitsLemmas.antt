-- A module that rewrites made has bytes, and no more than it may have; each of them is by a rule.
use Rattle.std.proofs.Common.{◌≡◌, ℕ, zero, suc, inl, inr, ◌∙◌, Some, ◌<◌, ◌≤◌, List, [], ◌∷◌, ◌++◌, length, drop, Option, sym, ap, subst, arith, length-append}
use Rattle.std.specs.Prelude.{All, slice_get}
use Rattle.std.proofs.lemmas.List.Elements.{All-nil, All-cons}
use Rattle.std.proofs.lemmas.Option.{same_Some}
use Rattle.wasm_code.specs.Code.{shortest}
use Rattle.wasm_types.specs.declared.types.PrimitiveTypeInfo.{PrimitiveTypeInfo}
use Rattle.wasm_sections.specs.declared.id.SectionId.TheVariants as ids
use Rattle.wasm_sections.specs.Id.{id_code}
use Rattle.wasm_module.specs.Module.{Layout}
use Rattle.wasm_module.specs.Rewritten.{code_section_with, IsRewritten}
use Rattle.rewrite_rules.specs.Rule.{rule_number}
use Rattle.body_rewrites.specs.Choice.{IsOf}
use Rattle.body_rewrites.specs.Listing.{AreThose}
use Rattle.body_rewrites.specs.Rewrites.{asked_below}
use Rattle.module_rewrites.specs.Mutated.{IsMutated}
use Rattle.module_rewrites.specs.Mutates.{Mutates, RewritesEach}
use Rattle.module_rewrites.specs.Scope.{Scope}
use Rattle.module_rewrites.specs.declared.mutation.MutationError.{MutationError}
use Rattle.module_rewrites.specs.declared.times.MadeRewrite.{MadeRewrite}
use Rattle.teddertempo_c.specs.Writes.{Fits, HasRule}

not_empty : (front size contents behind new : List ℕ) (id : ℕ) → new ≡ (front ++ (id ∷ size ++ contents)) ++ behind → 0 < length new
not_empty front size contents behind new id is = omega (arith, simp length-append at (ap length is))

pub length-rewritten : (bytes : List ℕ) (layout : Layout) (n : ℕ) (contents : List ℕ) (more : List PrimitiveTypeInfo) (new : List ℕ) →
    IsRewritten bytes layout n contents more new → 0 < length new
length-rewritten bytes layout n contents more new w =
    let code = code_section_with bytes w.code w.entry contents in
    not_empty w.front (shortest (length code)) code (drop w.code.end bytes) new (id_code ids.Code) w.new_is

record HasSize (most : ℕ) (new : List ℕ) : Type 0 where
  some : 0 < length new
  fits : length new ≤ most

size_of_one : (scope : Scope) (bytes : List ℕ) (m : MadeRewrite) (new : List ℕ) → IsMutated scope bytes m.function m.rewrite new → HasSize scope.most new
size_of_one scope bytes m new mutated = record {
  some = length-rewritten _ _ _ _ _ new mutated.mutates.2.written;
  fits = mutated.fits.few;
}

size_of_each : (scope : Scope) (bytes : List ℕ) (m : MadeRewrite) (ms : List MadeRewrite) (new : List ℕ) → RewritesEach scope bytes (m ∷ ms) new →
    HasSize scope.most new
size_of_each scope bytes m [] new (next, mutated, is) = subst (HasSize scope.most) (sym is) (size_of_one scope bytes m next mutated)
size_of_each scope bytes m (k ∷ ks) new (next, mutated, each) = size_of_each scope next k ks new each

-- ---- each rewrite is by a rule

held : {A : Type 0} (P : A → Type 0) (items those : List A) (i : ℕ) (x : A) → AreThose P items those → slice_get those i ≡ Some x → P x
held P [] those i x none is = let e = sym (ap (λ zs. slice_get zs i) none) ∙ is in absurd cc
held P (y ∷ ys) those zero x (inl (p, rest, begins, are)) is = subst P (same_Some y x (sym (ap (λ zs. slice_get zs zero) begins) ∙ is)) p
held P (y ∷ ys) those (suc i) x (inl (p, rest, begins, are)) is = held P ys rest i x are (sym (ap (λ zs. slice_get zs (suc i)) begins) ∙ is)
held P (y ∷ ys) those i x (inr (never, are)) is = held P ys those i x are is

named_one : (scope : Scope) (bytes : List ℕ) (m : MadeRewrite) (new : List ℕ) → IsMutated scope bytes m.function m.rewrite new → HasRule m
named_one scope bytes m new mutated =
    let entry = mutated.mutates.2 in let c = entry.rewritten.chooses in let d = c.draws_rewrite in
    let is = held (IsOf _ entry.operators c.growth c.rule) (asked_below (length entry.operators)) d.those _ m.rewrite d.are d.is in
    (rule_number c.rule, is.1)

named_each : (scope : Scope) (bytes : List ℕ) (made : List MadeRewrite) (new : List ℕ) → RewritesEach scope bytes made new → All HasRule made
named_each scope bytes [] new each = All-nil HasRule
named_each scope bytes (m ∷ ms) new (next, mutated, each) =
    All-cons HasRule m ms (named_one scope bytes m next mutated) (named_each scope next ms new each)

-- ---- both

fits_each : (scope : Scope) (bytes : List ℕ) (made : List MadeRewrite) (new : List ℕ) → 0 < length made → RewritesEach scope bytes made new →
    Fits scope.most made new
fits_each scope bytes [] new some each = absurd (omega arith)
fits_each scope bytes (m ∷ ms) new some each =
    let size = size_of_each scope bytes m ms new each in record {
      one = some;
      named = named_each scope bytes (m ∷ ms) new each;
      some = size.some;
      fits = size.fits;
    }

pub fits_mutated : (scope : Scope) (count : ℕ) (bytes : List ℕ) (made : List MadeRewrite) (new : List ℕ) (stopped : Option MutationError) →
    Mutates scope count bytes made new stopped → Fits scope.most made new
fits_mutated scope count bytes made new stopped m = fits_each scope bytes made new m.some m.each
