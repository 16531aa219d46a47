-- An attempt at a code entry comes to one thing.
use Rattle.std.proofs.Common.{◌≡◌, inl, inr, ℕ, List, [], ◌++◌, length, sym, ap, ap₂, subst, ◌∙◌, arith}
use Rattle.std.specs.Prelude.{slice_range}
use Rattle.std.proofs.lemmas.Option.{same_Some}
use Rattle.rand_core.specs.Stream.{Stream}
use Rattle.wasm_code.specs.declared.operator.Operator.{Operator}
use Rattle.wasm_types.specs.Module.{Module}
use Rattle.wasm_types.specs.declared.types.PrimitiveTypeInfo.{PrimitiveTypeInfo}
use Rattle.wasm_lists.specs.declared.entries.Entry.{Entry}
use Rattle.wasm_lists.specs.Locals.{SpellsLocals}
use Rattle.wasm_module.specs.Limits.{IsTooLarge}
use Rattle.wasm_module.specs.Module.{Layout, IsModule}
use Rattle.wasm_module.specs.Rewritten.{IsRewritten}
use Rattle.wasm_execution.specs.Values.{Context, context_in}
use Rattle.rewrite_rules.specs.declared.rule.Rule.{Rule}
use Rattle.body_rewrites.specs.Choice.{Chooses}
use Rattle.body_rewrites.specs.Random.{AppendsByWords, HasNoRewrite}
use Rattle.body_rewrites.specs.declared.rewrite.Rewrite.{Rewrite}
use Rattle.module_rewrites.specs.Chosen.{TriesInVain}
use Rattle.module_rewrites.specs.Chosen.TriesInVain.{by_lack, by_size}
use Rattle.module_rewrites.specs.Function.{IsFunction}
use Rattle.module_rewrites.specs.Mutated.{HasNoMutation}
use Rattle.body_rewrites.specs.declared.growth.Growth.{Growth}
use Rattle.module_rewrites.specs.Scope.{Scope, wanted_of}
use Rattle.module_rewrites.specs.Size.{IsSmaller}
use Rattle.module_rewrites.specs.Writing.{MakesAt, WritesAt}
use Rattle.module_rewrites.proofs.StandAgainLemmas.{OneReading, one_body}
use Rattle.module_rewrites.proofs.OneSearchLemmas.{AreApart}

-- What is said of bodies and modules that are written: each is one text, where it is one at all.
pub record OneWriting : Type 0 where
  pub reading : OneReading
  pub body : (context : Context) (stream : Stream) (rules : List Rule) (wanted : List Growth) (input : List ℕ) (operators : List (Operator × ℕ)) (r q : Rewrite)
      (old new other : List ℕ) (asks others : List PrimitiveTypeInfo) (after later : Stream) →
      AppendsByWords context stream rules wanted input operators r old new asks after →
      AppendsByWords context stream rules wanted input operators q old other others later →
      (r ≡ q) × (new ≡ other) × (asks ≡ others) × (after ≡ later)
  pub none : (context : Context) (stream : Stream) (rules : List Rule) (wanted : List Growth) (operators : List (Operator × ℕ)) (r : Rewrite) →
      HasNoRewrite context rules wanted operators → Chooses context stream rules wanted operators r → ⊥
  pub text : (bytes : List ℕ) (layout : Layout) (n : ℕ) (contents : List ℕ) (more : List PrimitiveTypeInfo) (new other : List ℕ) →
      IsRewritten bytes layout n contents more new → IsRewritten bytes layout n contents more other → new ≡ other
  pub fits : (bytes : List ℕ) (info : Module) (layout : Layout) (n : ℕ) (contents : List ℕ) (more : List PrimitiveTypeInfo) (new : List ℕ) →
      IsModule bytes info layout → IsRewritten bytes layout n contents more new → IsTooLarge bytes layout n contents more → ⊥

-- ---- where an entry's expression begins

one_place : OneReading → (bytes : List ℕ) (info : Module) (layout : Layout) (n : ℕ) (locals types : List PrimitiveTypeInfo) (expression other : ℕ)
    (operators located : List (Operator × ℕ)) (f : IsFunction bytes info layout n locals expression operators)
    (g : IsFunction bytes info layout n types other located) → (f.entry ≡ g.entry) × (expression ≡ other)
one_place one bytes info layout n locals types expression other operators located f g =
    let entry : f.entry ≡ g.entry = same_Some f.entry g.entry (sym f.is.at ∙ g.is.at) in
    let params : f.params ≡ g.params = same_Some f.params g.params (sym f.is.parameters ∙ g.is.parameters) in
    let there : SpellsLocals g.params g.entry.contents (slice_range bytes g.entry.contents g.entry.end) locals expression =
    subst (λ (p : Entry × List PrimitiveTypeInfo). SpellsLocals p.1 p.0.contents (slice_range bytes p.0.contents p.0.end) locals expression)
    (ap₂ (λ (e : Entry) (ps : List PrimitiveTypeInfo). (e, ps)) entry params) f.locals_are in
    (entry, (one.locals g.params g.entry.contents (slice_range bytes g.entry.contents g.entry.end) locals types expression other there g.locals_are).1)

module _ (one : OneWriting) where
  -- ---- what is written

  pub writes_one : (scope : Scope) (bytes : List ℕ) (info : Module) (layout : Layout) (s : Stream) (n : ℕ) (r q : Rewrite) (contents others : List ℕ)
      (more globals : List PrimitiveTypeInfo) (after later : Stream) → WritesAt scope bytes info layout s n r contents more after →
      WritesAt scope bytes info layout s n q others globals later → (r ≡ q) × (contents ≡ others) × (more ≡ globals) × (after ≡ later)
  writes_one scope bytes info layout s n r q contents others more globals after later a b =
      let alike = one_body one.reading bytes info layout n a.locals b.locals a.expression b.expression a.operators b.operators a.function b.function in
      let place = one_place one.reading bytes info layout n a.locals b.locals a.expression b.expression a.operators b.operators a.function b.function in
      let there : AppendsByWords (context_in info a.locals) s scope.rules (wanted_of scope) bytes a.operators q [] b.body globals later =
      subst (λ (ts : List PrimitiveTypeInfo). AppendsByWords (context_in info ts) s scope.rules (wanted_of scope) bytes a.operators q [] b.body
      globals later) (sym alike.0)
      (subst (λ (os : List (Operator × ℕ)). AppendsByWords (context_in info b.locals) s scope.rules (wanted_of scope) bytes os q [] b.body globals
      later) (sym alike.1) b.writes) in
      let same = one.body (context_in info a.locals) s scope.rules (wanted_of scope) bytes a.operators r q [] a.body b.body more globals after later
      a.writes there in
      let text =
      ap₂ (λ (e : Entry) (x : ℕ). slice_range bytes e.contents x ++ a.body) place.0 place.1
      ∙ ap (λ (t : List ℕ). slice_range bytes b.function.entry.contents b.expression ++ t) same.1 in
      (same.0, a.contents_are ∙ text ∙ sym b.contents_are, same.2, same.3)

  -- the module with that is one text
  module_one : (bytes : List ℕ) (layout : Layout) (n : ℕ) (contents others : List ℕ) (more globals : List PrimitiveTypeInfo) (new other : List ℕ) →
      contents ≡ others → more ≡ globals → IsRewritten bytes layout n contents more new → IsRewritten bytes layout n others globals other → new ≡ other
  module_one bytes layout n contents others more globals new other e f a b =
      one.text bytes layout n others globals new other
      (subst (λ (ts : List PrimitiveTypeInfo). IsRewritten bytes layout n others ts new) f
      (subst (λ (t : List ℕ). IsRewritten bytes layout n t more new) e a)) b

  pub makes_one : (scope : Scope) (bytes : List ℕ) (info : Module) (layout : Layout) (s : Stream) (n : ℕ) (r q : Rewrite) (new other : List ℕ)
      (after later : Stream) → MakesAt scope bytes info layout s n r new after → MakesAt scope bytes info layout s n q other later →
      (r ≡ q) × (new ≡ other) × (after ≡ later)
  makes_one scope bytes info layout s n r q new other after later a b =
      let same = writes_one scope bytes info layout s n r q a.contents b.contents a.more b.more after later a.writes b.writes in
      (same.0, module_one bytes layout n a.contents b.contents a.more b.more new other same.1 same.2 a.made b.made, same.3)

  -- ---- in vain

  pub lacks : (scope : Scope) (bytes : List ℕ) (info : Module) (layout : Layout) (s : Stream) (n : ℕ) (r : Rewrite) (contents : List ℕ)
      (more : List PrimitiveTypeInfo) (after : Stream) → HasNoMutation scope bytes info layout n → WritesAt scope bytes info layout s n r contents more after →
      ⊥
  lacks scope bytes info layout s n r contents more after lack w =
      one.none (context_in info w.locals) s scope.rules (wanted_of scope) w.operators r (lack w.locals w.expression w.operators w.function) w.writes.chooses

  vain_one : (scope : Scope) (bytes : List ℕ) (info : Module) (layout : Layout) (s : Stream) (n : ℕ) (a b : Stream) →
      TriesInVain scope bytes info layout s n a → TriesInVain scope bytes info layout s n b → a ≡ b
  vain_one scope bytes info layout s n a b (by_lack none e) (by_lack nor f) = e ∙ sym f
  vain_one scope bytes info layout s n a b (by_lack none e) (by_size d) =
      absurd (lacks scope bytes info layout s n d.rewrite d.contents d.more b none d.writes)
  vain_one scope bytes info layout s n a b (by_size c) (by_lack none f) =
      absurd (lacks scope bytes info layout s n c.rewrite c.contents c.more a none c.writes)
  vain_one scope bytes info layout s n a b (by_size c) (by_size d) =
      (writes_one scope bytes info layout s n c.rewrite d.rewrite c.contents d.contents c.more d.more a b c.writes d.writes).3

  vain_apart : (scope : Scope) (bytes : List ℕ) (info : Module) (layout : Layout) → IsModule bytes info layout → (s : Stream) (n : ℕ) (r : Rewrite)
      (new : List ℕ) (a after : Stream) → TriesInVain scope bytes info layout s n a → MakesAt scope bytes info layout s n r new after → ⊥
  vain_apart scope bytes info layout is s n r new a after (by_lack none e) m =
      lacks scope bytes info layout s n r m.contents m.more after none m.writes
  vain_apart scope bytes info layout is s n r new a after (by_size d) m =
      let same = writes_one scope bytes info layout s n d.rewrite r d.contents m.contents d.more m.more a after d.writes m.writes in
      elim d.large [
        | inl large ↦
            one.fits bytes info layout n m.contents m.more new is m.made
            (subst (λ (ts : List PrimitiveTypeInfo). IsTooLarge bytes layout n m.contents ts) same.2
            (subst (λ (t : List ℕ). IsTooLarge bytes layout n t d.more) same.1 large))
        | inr (inl long) ↦
            let text = module_one bytes layout n d.contents m.contents d.more m.more long.new new same.1 same.2 long.is m.made in
            omega (arith, ap length text, long.long, m.fits.few)
        | inr (inr (on, large)) ↦
            let text = module_one bytes layout n d.contents m.contents d.more m.more large.new new same.1 same.2 large.is m.made in
            large.not (subst (λ (t : List ℕ). IsSmaller t bytes) (sym text) (m.fits.smaller on))
      ]

-- the attempt makes something
pub record Makes (scope : Scope) (bytes : List ℕ) (info : Module) (layout : Layout) (s : Stream) (n : ℕ) : Type 0 where
  pub rewrite : Rewrite
  pub new : List ℕ
  pub after : Stream
  pub makes : MakesAt scope bytes info layout s n rewrite new after

pub attempts_apart : OneWriting → (scope : Scope) (bytes : List ℕ) (info : Module) (layout : Layout) → IsModule bytes info layout →
    AreApart (TriesInVain scope bytes info layout) (Makes scope bytes info layout)
attempts_apart one scope bytes info layout is = record {
  one = λ s n a b h k. vain_one one scope bytes info layout s n a b h k;
  apart = λ s n a h m. vain_apart one scope bytes info layout is s n m.rewrite m.new a m.after h m.makes;
}
