-- A body that words rewrite is one text.
use Rattle.std.proofs.Common.{◌≡◌, ◌%◌, ℕ, ◌+◌, List, ◌++◌, length, take, drop, sym, ap, subst, ◌∙◌}
use Rattle.rand_core.specs.Stream.{Stream, next_u64}
use Rattle.wasm_code.specs.Body.{bytes_of}
use Rattle.wasm_code.specs.declared.operator.Operator.{Operator}
use Rattle.wasm_types.specs.declared.types.PrimitiveTypeInfo.{PrimitiveTypeInfo}
use Rattle.body_splices.specs.OwnBytes.{own_bytes}
use Rattle.body_splices.specs.Splice.{pieces_bytes}
use Rattle.wasm_execution.specs.Values.{Context}
use Rattle.rewrite_rules.specs.declared.rule.Rule.{Rule}
use Rattle.body_rewrites.specs.declared.growth.Growth.{Growth}
use Rattle.body_rewrites.specs.declared.places.Line.{Line}
use Rattle.body_rewrites.specs.declared.rewrite.Rewrite.{Rewrite}
use Rattle.body_rewrites.specs.Changed.{AppendsChanged}
use Rattle.body_rewrites.specs.Changes.{Change}
use Rattle.body_rewrites.specs.Choice.{Chooses, IsOf, after_choice, after_word}
use Rattle.body_rewrites.specs.Listing.{IsWantedBy, OneChange}
use Rattle.body_rewrites.specs.Random.{AppendsByWords, HasNoRewrite}
use Rattle.body_rewrites.specs.Rewrites.{AppendsRewritten, IsMadeBy, Makes, asked_below}
use Rattle.body_rewrites.specs.ThoseLemmas.{none_of, one_of}
use Rattle.body_rewrites.proofs.MadeLemmas.{same_line}
use Rattle.body_rewrites.proofs.RandomLemmas.{chosen_is_wanted}

-- a rewrite makes one change
one_change_of : OneChange → (context : Context) (operators : List (Operator × ℕ)) (r : Rewrite) (change other : Change) →
    IsMadeBy context operators r change → IsMadeBy context operators r other → change ≡ other
one_change_of one context operators r change other a b =
    let line = same_line r a.line b.line (a.asked, a.width_is) (b.asked, b.width_is) in
    one context operators a.line r.operator change other a.makes
    (subst (λ (l : Line). Makes context operators l r.operator other) (sym line) b.makes)

-- a change is one text
abbrev text_of : (input : List ℕ) → List (Operator × ℕ) → (at : ℕ) → Change → (word : ℕ) → (old : List ℕ) → List ℕ
text_of input operators at change word old =
    old ++ (bytes_of (take change.start (own_bytes input operators))
    ++ (bytes_of (pieces_bytes (own_bytes input operators) (change.pieces word)) ++ bytes_of (drop (at + 1) (own_bytes input operators))))

changed_is : (context : Context) (input : List ℕ) (operators : List (Operator × ℕ)) (at : ℕ) (change : Change) (word : ℕ) (old new : List ℕ) →
    AppendsChanged context input operators at change word old new → new ≡ text_of input operators at change word old
changed_is context input operators at change word old new a = a.spliced.appended ∙ ap (λ (text : List ℕ). old ++ text) a.spliced.text_is

-- a rewrite is one text
rewritten_one : OneChange → (context : Context) (input : List ℕ) (operators : List (Operator × ℕ)) (r : Rewrite) (word : ℕ) (old new other : List ℕ)
    (asks others : List PrimitiveTypeInfo) → AppendsRewritten context input operators r word old new asks →
    AppendsRewritten context input operators r word old other others → (new ≡ other) × (asks ≡ others)
rewritten_one one context input operators r word old new other asks others a b =
    let same = one_change_of one context operators r a.change b.change a.made b.made in (
      changed_is context input operators r.operator a.change word old new a.written
          ∙ ap (λ (change : Change). text_of input operators r.operator change word old) same
          ∙ sym (changed_is context input operators r.operator b.change word old other b.written),
      a.asks_are ∙ ap (λ (change : Change). change.asks) same ∙ sym b.asks_are,
    )

pub one_body : OneChange → ((context : Context) (stream : Stream) (rules : List Rule) (wanted : List Growth) (operators : List (Operator × ℕ))
    (r q : Rewrite) → Chooses context stream rules wanted operators r → Chooses context stream rules wanted operators q → r ≡ q) → (context : Context)
    (stream : Stream) (rules : List Rule) (wanted : List Growth) (input : List ℕ) (operators : List (Operator × ℕ)) (r q : Rewrite) (old new other :
    List ℕ) (asks others : List PrimitiveTypeInfo)
    (after later : Stream) → AppendsByWords context stream rules wanted input operators r old new asks after →
    AppendsByWords context stream rules wanted input operators q old other others later →
    (r ≡ q) × (new ≡ other) × (asks ≡ others) × (after ≡ later)
one_body one law context stream rules wanted input operators r q old new other asks others after later a b =
    let same = law context stream rules wanted operators r q a.chooses b.chooses in
    let there = subst (λ (k : Rewrite). AppendsRewritten context input operators k (next_u64 (after_choice stream)).0 old other others) (sym same) b.appends in
    let text = rewritten_one one context input operators r (next_u64 (after_choice stream)).0 old new other asks others a.appends there in
    (same, text.0, text.1, a.after_is ∙ sym b.after_is)

-- none is chosen where there is none
pub none_chosen : (context : Context) (stream : Stream) (rules : List Rule) (wanted : List Growth) (operators : List (Operator × ℕ)) (r : Rewrite) →
    HasNoRewrite context rules wanted operators → Chooses context stream rules wanted operators r → ⊥
none_chosen context stream rules wanted operators r none c =
    let places = c.draws_rewrite in
    let (asked, of) = one_of (IsOf context operators c.growth c.rule) (asked_below (length operators)) places.those places.are
    ((next_u64 (after_word (after_word stream))).0 % length places.those) r places.is in
    none_of (IsWantedBy context operators rules wanted) (asked_below (length operators)) none r asked
    (chosen_is_wanted context stream rules wanted operators r c)
