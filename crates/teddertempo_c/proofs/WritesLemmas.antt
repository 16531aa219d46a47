-- What is written over the front of a buffer.
use Rattle.std.proofs.Common.{◌≡◌, ℕ, ◌<◌, ◌≤◌, inl, inr, List, length, take, drop, refl, sym, ap, subst, ◌∙◌, arith, length-append, length-drop}
use Rattle.std.proofs.lemmas.List.{take_at, drop_at}
use Rattle.wasm_sections.specs.declared.fault.ModuleError.{ModuleError}
use Rattle.wasm_sections.specs.declared.fault.ModuleFault.TheVariants as faults
use Rattle.wasm_module.specs.Fault.IsModuleFault.{of_memory}
use Rattle.module_rewrites.specs.declared.attempt.Reason.{Reason}
use Rattle.module_rewrites.specs.declared.attempt.Reason.TheVariants as reasons
use Rattle.module_rewrites.specs.declared.mutation.MutationError.TheVariants as mutations
use Rattle.module_rewrites.specs.declared.times.MadeRewrite.{MadeRewrite}
use Rattle.teddertempo_c.specs.Writes.{Fits, IsPutInBuffer, IsRefusedFor, IsRewrittenBy, RewritesOnce, WritesFront, once}

module _ (bytes old : List ℕ) (result : ℕ) (new : List ℕ) (put : IsPutInBuffer bytes old result new) where
  pub front_is : take result new ≡ bytes
  front_is = ap (take result) put.is ∙ take_at bytes (drop (length bytes) old) result (sym put.size)

  pub writes_front : length bytes ≤ length old → 0 < length bytes → WritesFront old result new
  writes_front fits some = record {
    inside = omega (arith, put.size);
    whole = omega (arith, fits, ap length put.is, length-append bytes (drop (length bytes) old), length-drop (length bytes) old);
    behind =
        ap (drop result) put.is ∙ drop_at bytes (drop (length bytes) old) result (sym put.size)
        ∙ ap (λ n. drop n old) (sym put.size);
    untouched = λ none. absurd (omega (arith, put.size, some));
  }

-- nothing is written
pub writes_nothing : (old : List ℕ) → WritesFront old 0 old
writes_nothing old = record { inside = omega arith; whole = refl; behind = refl; untouched = λ none. refl }

-- ---- the simple call

module _ (seed size : ℕ) (old : List ℕ) where
  pub once_made : (made : List MadeRewrite) (bytes : List ℕ) (result : ℕ) (new : List ℕ) → size ≤ length old →
      IsRewrittenBy (once seed (length old)) (take size old) made bytes → Fits (length old) made bytes → IsPutInBuffer bytes old result new →
      RewritesOnce seed size old result new
  once_made made bytes result new inside is fits put = record {
    writes = writes_front bytes old result new put fits.fits fits.some;
    rewritten = λ some. record {
      inside = inside;
      made = made;
      is = subst (IsRewrittenBy (once seed (length old)) (take size old) made) (sym (front_is bytes old result new put)) is;
    };
    refused = λ none. absurd (omega (arith, put.size, fits.some));
  }

  pub once_outside : length old < size → RewritesOnce seed size old 0 old
  once_outside outside = record { writes = writes_nothing old; rewritten = λ some. absurd (some refl); refused = λ none. inl outside }

  -- memory is wanting
  pub once_memory : RewritesOnce seed size old 0 old
  once_memory =
      let e : ModuleError = record { kind = faults.Memory; offset = 0 } in
      record {
        writes = writes_nothing old;
        rewritten = λ some. absurd (some refl);
        refused = λ none. inr (reasons.Refused (mutations.Read e), record { is = of_memory; gives_up = λ for_size. absurd for_size });
      }

  pub once_refused : (reason : Reason) → IsRefusedFor (once seed (length old)) (take size old) reason → RewritesOnce seed size old 0 old
  once_refused reason why = record { writes = writes_nothing old; rewritten = λ some. absurd (some refl); refused = λ none. inr (reason, why) }
