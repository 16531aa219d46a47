-- Lines, one behind another.
use Rattle.std.proofs.Common.{◌≡◌, ℕ, ◌+◌, ◌<◌, length, take, get_or, List, [], ◌∷◌, ◌++◌, Option, refl, sym, ap, ◌∙◌, subst, append_assoc, append-nil}
use Rattle.std.specs.Prelude.{◌^◌}
use Rattle.std.proofs.lemmas.List.{take_more}
use Rattle.std.specs.Io.KnownBytes.{Appends}
use Rattle.wasm_code.specs.declared.operator.Operator.{Operator}
use Rattle.wasm_types.specs.Module.{Module}
use Rattle.wasm_types.specs.declared.types.PrimitiveTypeInfo.{PrimitiveTypeInfo}
use Rattle.wasm_module.specs.Module.{Layout}
use Rattle.wasm_execution.specs.Values.{context_in}
use Rattle.body_rewrites.specs.declared.rewrite.Rewrite.{Rewrite}
use Rattle.module_rewrites.specs.Function.{IsFunction}
use Rattle.module_rewrites.specs.Scope.{Scope, IsMarked}
use Rattle.module_commands.specs.Lines.{rewrite_line, rewrite_lines}
use Rattle.module_commands.specs.Lists.{AreTheRewrites, ListsFunction}
use Rattle.module_options.specs.declared.form.Form.{Form}
use Rattle.module_commands.proofs.TurnLemmas.{appends_more}

-- one line more
pub lines_more : (form : Form) (function : ℕ) (rs : List Rewrite) (r : Rewrite) →
    rewrite_lines form function (rs ++ r ∷ []) ≡ rewrite_lines form function rs ++ rewrite_line form function r
lines_more form function [] r = append-nil (rewrite_line form function r)
lines_more form function (x ∷ rs) r =
    ap (λ (l : List ℕ). rewrite_line form function x ++ l) (lines_more form function rs r)
    ∙ sym (append_assoc (rewrite_line form function x) (rewrite_lines form function rs) (rewrite_line form function r))

-- the lines of the first so many, and the next one
pub lines_next : (a b c : Option (List ℕ)) (form : Form) (function : ℕ) (rs : List Rewrite) (k : ℕ) (d : Rewrite) → k < length rs →
    Appends a b (rewrite_lines form function (take k rs)) → Appends b c (rewrite_line form function (get_or rs k d)) →
    Appends a c (rewrite_lines form function (take (k + 1) rs))
lines_next a b c form function rs k d l front own =
    subst (Appends a c) (sym (ap (rewrite_lines form function) (take_more rs k d l) ∙ lines_more form function (take k rs) (get_or rs k d)))
    (appends_more a b c (rewrite_lines form function (take k rs)) (rewrite_line form function (get_or rs k d)) front own)

abbrev Types : Type 0
Types = List PrimitiveTypeInfo

abbrev Operators : Type 0
Operators = List (Operator × ℕ)

-- the lines of a function that was read
pub lists_function : (form : Form) (scope lent : Scope) (bytes : List ℕ) (info : Module) (layout : Layout) (n : ℕ) (locals : Types)
    (expression : ℕ) (operators : Operators) (list : List Rewrite) (index : ℕ) (text : List ℕ) → lent ≡ scope →
    IsMarked scope info → IsFunction bytes info layout n locals expression operators →
    ((l : Types) (x : ℕ) (o : Operators) → IsFunction bytes info layout n l x o → (locals ≡ l) × (operators ≡ o)) →
    AreTheRewrites (context_in info locals) lent operators list → (layout.imported_functions + n < 2 ^ 64 → index ≡ layout.imported_functions + n) →
    text ≡ rewrite_lines form index list → ListsFunction form scope bytes info layout n text
lists_function form scope lent bytes info layout n locals expression operators list index text scope_is marked f only are at is = record {
  marked = marked;
  list = list;
  are = λ l x o k.
      let s = only l x o k in
      subst (λ (s : Scope). AreTheRewrites (context_in info l) s o list) scope_is
      (subst (λ (ts : Types). AreTheRewrites (context_in info ts) lent o list) s.0
      (subst (λ (os : Operators). AreTheRewrites (context_in info locals) lent os list) s.1 are));
  none = λ never. absurd (never (record { locals = locals; expression = expression; operators = operators; is = f }));
  lines = λ l. is ∙ ap (λ i. rewrite_lines form i list) (at l);
}

-- the lines of one that can't be read: none
pub lists_nothing : (form : Form) (scope : Scope) (bytes : List ℕ) (info : Module) (layout : Layout) (n : ℕ) → IsMarked scope info →
    ((l : Types) (x : ℕ) (o : Operators) → IsFunction bytes info layout n l x o → ⊥) → ListsFunction form scope bytes info layout n []
lists_nothing form scope bytes info layout n marked never = record {
  marked = marked;
  list = [];
  are = λ l x o f. absurd (never l x o f);
  none = λ _. refl;
  lines = λ _. refl;
}
