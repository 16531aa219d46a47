-- One code entry of a module rewritten.
use Rattle.std.proofs.Common.{◌≡◌, ◌⊎◌, ℕ, ◌-◌, ◌≤◌, true, inl, inr, List, [], ◌∷◌, ◌++◌, length, drop, map, Option, Some, None, Result, Ok}
use Rattle.std.proofs.Common.{Err, sym, ap, subst, ◌∙◌, arith, refl}
use Rattle.std.specs.Prelude.{◌≢◌, IfOk, IfErr, IfNone, IfSome, slice_get, slice_range}
use Rattle.std.specs.List.{All, Contains}
use Rattle.std.proofs.lemmas.Bool.{true≢false}
use Rattle.std.proofs.lemmas.List.{length-append, length-take, length-drop}
use Rattle.std.proofs.lemmas.List.Elements.{All-nil, All-cons, All-contains}
use Rattle.std.proofs.lemmas.Option.{same_Some}
use Rattle.rand_core.specs.Stream.{Stream}
use Rattle.wasm_code.specs.Body.{SpellsCode}
use Rattle.wasm_code.specs.declared.operator.Operator.{Operator}
use Rattle.body_splices.specs.OwnBytes.{IsBodyIn, own_bytes}
use Rattle.module_rewrites.specs.Structure.{asking_operators}
use Rattle.body_splices.specs.Laws.{OwnBytesStay}
use Rattle.wasm_types.specs.Module.{Module, merged}
use Rattle.wasm_types.specs.declared.types.PrimitiveTypeInfo.{PrimitiveTypeInfo}
use Rattle.wasm_types.specs.declared.types.PrimitiveTypeInfo.TheVariants as primitive
use Rattle.wasm_types.specs.declared.types.PrimitiveTypeInfo.TheVariants.{Empty}
use Rattle.wasm_lists.specs.declared.entries.Entry.{Entry}
use Rattle.wasm_module.specs.Module.{Layout, IsModule}
use Rattle.wasm_module.specs.Reread.{IsReread}
use Rattle.wasm_module.specs.Inside.{IsInside}
use Rattle.wasm_module.specs.Limits.{IsTooLarge}
use Rattle.wasm_module.specs.Rewritten.{IsRewritten}
use Rattle.wasm_module.specs.declared.refusal.WriteError.{WriteError}
use Rattle.wasm_module.specs.declared.refusal.WriteError.TheVariants.{TooLarge, EmptyType, Memory}
use Rattle.wasm_execution.specs.Values.{Context, context_in}
use Rattle.rewrite_rules.specs.declared.rule.Rule.{Rule}
use Rattle.rewrite_rules.specs.declared.table.Own.{Own}
use Rattle.rewrite_rules.specs.declared.table.Own.TheVariants as own
use Rattle.rewrite_rules.specs.declared.table.Widths.{Widths}
use Rattle.rewrite_rules.specs.declared.table.Widths.TheVariants as widths
use Rattle.body_rewrites.specs.Changes.{Change}
use Rattle.body_rewrites.specs.Own.{Rewrites, is_number, made_asks}
use Rattle.body_rewrites.specs.Random.{AppendsByWords, HasNoRewrite}
use Rattle.body_rewrites.specs.Rewrites.{MakesBy}
use Rattle.body_rewrites.specs.declared.growth.Growth.{Growth}
use Rattle.body_rewrites.specs.declared.own.Made.{Made}
use Rattle.body_rewrites.specs.declared.own.Made.TheVariants as made
use Rattle.body_rewrites.specs.declared.places.Line.{Line}
use Rattle.body_rewrites.specs.declared.rewrite.Rewrite.{Rewrite}
use Rattle.module_rewrites.specs.Function.{IsFunction}
use Rattle.module_rewrites.specs.Chosen.{TriesInVain, by_size}
use Rattle.module_rewrites.specs.Mutated.{HasNoMutation, IsBehindLocals, IsMutated, IsOfSize, MutatesEntry, RefusesEntry, WasRewrittenAt}
use Rattle.module_rewrites.specs.Scope.{Scope, IsMarked, wanted_of}
use Rattle.module_rewrites.specs.Writing.{WritesAt}
use Rattle.module_rewrites.specs.Size.{IsNotFor}
use Rattle.module_rewrites.specs.declared.mutation.MutationError.{MutationError}
use Rattle.module_rewrites.specs.declared.mutation.MutationError.TheVariants.{Read, Memory as NoMemory, Write, TooLong, NotSmaller}
use Rattle.module_rewrites.proofs.ReadAgainLemmas.{read_again}

abbrev Types : Type 0
Types = List PrimitiveTypeInfo

abbrev Operators : Type 0
Operators = List (Operator × ℕ)

-- what is known of rewritten bytes
abbrev pub RewrittenBytesAreAModule : Type 0
RewrittenBytesAreAModule =
    (bytes : List ℕ) (info : Module) (layout : Layout) (n : ℕ) (contents : List ℕ) (more : Types) (new : List ℕ) → IsModule bytes info layout →
    IsRewritten bytes layout n contents more new → layout.unknown.imports ≡ None → layout.unknown.globals ≡ None →
    All (λ (t : PrimitiveTypeInfo). t ≢ Empty) more → IsReread bytes info layout n contents more new

-- bytes are one module at most
abbrev pub OneReading : Type 0
OneReading =
    (bytes : List ℕ) (info other : Module) (layout place : Layout) → IsModule bytes info layout → IsModule bytes other place →
    info.exact ≡ other.exact → (info ≡ other) × (layout ≡ place)

-- ---- what calls answer

pub err_map : {X E : Type 0} {P Q : E → Type 0} (r : Result X E) → ((e : E) → P e → Q e) → IfErr r P → IfErr r Q
err_map (Ok x) f h = h
err_map (Err e) f h = f e h

-- what an answer of some says
pub some_map : {X E : Type 0} {P Q : X → Type 0} (r : Result (Option X) E) → ((x : X) → P x → Q x) → IfOk r (λ o. IfSome o P) →
    IfOk r (λ o. IfSome o Q)
some_map (Ok None) f h = h
some_map (Ok (Some x)) f h = f x h
some_map (Err e) f h = h

-- two things that it says
pub some_both : {X E : Type 0} (P Q : X → Type 0) (r : Result (Option X) E) → IfOk r (λ o. IfSome o P) → IfOk r (λ o. IfSome o Q) →
    IfOk r (λ o. IfSome o (λ x. P x × Q x))
some_both P Q (Ok None) p q = tt
some_both P Q (Ok (Some x)) p q = (p, q)
some_both P Q (Err e) p q = tt

-- what an answer of none says
pub none_map : {X E : Type 0} {P Q : Type 0} (r : Result (Option X) E) → (P → Q) → IfOk r (λ o. IfNone o P) → IfOk r (λ o. IfNone o Q)
none_map (Ok None) f h = f h
none_map (Ok (Some x)) f h = h
none_map (Err e) f h = h

-- ---- where a function stands

-- its expression starts and ends inside its entry
pub expression_inside : (bytes : List ℕ) (info : Module) (layout : Layout) (n : ℕ) (locals : Types) (expression : ℕ) (operators : Operators)
    (f : IsFunction bytes info layout n locals expression operators) → IsInside bytes f.entry →
    (f.entry.contents ≤ expression) × (expression ≤ f.entry.end)
expression_inside bytes info layout n locals expression operators f inside =
    let at = f.locals_are.at in
    let parts = ap length f.locals_are.parts in
    let sum = length-append f.locals_are.front f.locals_are.back in
    let taken = length-take (f.entry.end - f.entry.contents) (drop f.entry.contents bytes) in
    let left = length-drop f.entry.contents bytes in
    let ordered = inside.ordered in
    let ends = inside.ends in
    (omega (arith, at), omega (arith, at, parts, sum, taken, left, ordered, ends))

pub body_in : (bytes : List ℕ) (info : Module) (layout : Layout) (n : ℕ) (locals : Types) (expression : ℕ) (operators : Operators)
    (f : IsFunction bytes info layout n locals expression operators) → IsInside bytes f.entry → IsBodyIn bytes operators
body_in bytes info layout n locals expression operators f inside = record {
  from = expression;
  to = f.entry.end;
  ordered = (expression_inside bytes info layout n locals expression operators f inside).1;
  inside = inside.ends;
  spells = f.body;
}

-- the same of the entry that was found
pub behind_locals : (bytes : List ℕ) (info : Module) (layout : Layout) (n : ℕ) (locals : Types) (expression : ℕ) (operators : Operators)
    (entry : Entry) (f : IsFunction bytes info layout n locals expression operators) → IsInside bytes f.entry →
    slice_get layout.entries n ≡ Some entry → IsBehindLocals bytes entry expression
behind_locals bytes info layout n locals expression operators entry f inside at =
    let same : f.entry ≡ entry = same_Some _ _ (sym f.is.at ∙ at) in
    let e = expression_inside bytes info layout n locals expression operators f inside in
    subst (λ (x : Entry). IsBehindLocals bytes x expression) same
    (record { behind = e.0; ends = omega (arith, e.1, inside.ends) })

-- ---- nothing to rewrite

pub nothing_here : (scope : Scope) (bytes : List ℕ) (info : Module) (layout : Layout) (n : ℕ) (locals : Types) (operators : Operators) →
    ((l : Types) (x : ℕ) (o : Operators) → IsFunction bytes info layout n l x o → (locals ≡ l) × (operators ≡ o)) →
    HasNoRewrite (context_in info locals) scope.rules (wanted_of scope) operators → HasNoMutation scope bytes info layout n
nothing_here scope bytes info layout n locals operators only none l x o f =
    let same = only l x o f in
    subst (λ (ts : Types). HasNoRewrite (context_in info ts) scope.rules (wanted_of scope) o) same.0
    (subst (λ (os : Operators). HasNoRewrite (context_in info locals) scope.rules (wanted_of scope) os) same.1 none)

-- ---- the globals that are asked for

-- none, or one of a number
abbrev AsksForNumbers : Types → Type 0
AsksForNumbers asks = (asks ≡ []) ⊎ ((t : PrimitiveTypeInfo) × (is_number t ≡ true) × (asks ≡ t ∷ []))

own_asks : (context : Context) (operators : Operators) (o : Own) (start at : ℕ) (m : Made) → Rewrites context operators o start at m →
    AsksForNumbers (made_asks m)
own_asks context operators own.ThroughGlobal start at (made.Global t g) h = inr (t, h.1, refl)
own_asks context operators own.Unfold start at (made.Global t g) h = absurd h
own_asks context operators own.WithNop start at (made.Global t g) h = absurd h
own_asks context operators own.Fold start at (made.Global t g) h = absurd h
own_asks context operators own.Forget start at (made.Global t g) h = absurd h
own_asks context operators own.TeeToSet start at (made.Global t g) h = absurd h
own_asks context operators own.DropNop start at (made.Global t g) h = absurd h
own_asks context operators own.SetToTee start at (made.Global t g) h = absurd h
own_asks context operators (own.Access n) start at (made.Global t g) h = absurd h
own_asks context operators (own.Wrap w) start at (made.Global t g) h = absurd h
own_asks context operators (own.Unwrap w) start at (made.Global t g) h = absurd h
own_asks context operators own.SelectToIf start at (made.Global t g) h = absurd h
own_asks context operators own.IfToSelect start at (made.Global t g) h = absurd h
own_asks context operators own.TestCondition start at (made.Global t g) h = absurd h
own_asks context operators own.DropConditionTest start at (made.Global t g) h = absurd h
own_asks context operators own.DoubleCondition start at (made.Global t g) h = absurd h
own_asks context operators own.DropDoubleCondition start at (made.Global t g) h = absurd h
own_asks context operators own.PutDead start at (made.Global t g) h = absurd h
own_asks context operators own.DropDead start at (made.Global t g) h = absurd h
own_asks context operators own.BoundIndex start at (made.Global t g) h = absurd h
own_asks context operators own.DropIndexBound start at (made.Global t g) h = absurd h
own_asks context operators own.BrIfToIf start at (made.Global t g) h = absurd h
own_asks context operators own.IfToBrIf start at (made.Global t g) h = absurd h
own_asks context operators o start at made.Nothing h = inl refl
own_asks context operators o start at (made.Constant t n) h = inl refl
own_asks context operators o start at (made.Sum t n) h = inl refl
own_asks context operators o start at made.Nop h = inl refl
own_asks context operators o start at (made.SetAndGet n) h = inl refl
own_asks context operators o start at (made.Tee n) h = inl refl
own_asks context operators o start at (made.Access a w) h = inl refl
own_asks context operators o start at (made.Wrapped w t) h = inl refl
own_asks context operators o start at (made.Inner from end) h = inl refl
own_asks context operators o start at (made.Conditional v condition) h = inl refl
own_asks context operators o start at made.Selected h = inl refl
own_asks context operators o start at made.Tested h = inl refl
own_asks context operators o start at made.DoublyTested h = inl refl
own_asks context operators o start at made.Dead h = inl refl
own_asks context operators o start at (made.Bounded count) h = inl refl
own_asks context operators o start at (made.InConditional label) h = inl refl
own_asks context operators o start at (made.BranchIf label) h = inl refl

row_asks : (context : Context) (operators : Operators) (line : Line) (at : ℕ) (change : Change) (w : Widths) → MakesBy context operators line at change w →
    AsksForNumbers change.asks
row_asks context operators line at change (widths.Own o) h =
    subst (λ (c : Change). AsksForNumbers c.asks) (sym h.is) (own_asks context operators o h.site.start at h.site.made h.rewrites)
row_asks context operators line at change widths.Both h = inl (ap (λ (c : Change). c.asks) h.change_is)
row_asks context operators line at change (widths.Only t) h = inl (ap (λ (c : Change). c.asks) h.change_is)
row_asks context operators line at change widths.Any h = inl (ap (λ (c : Change). c.asks) h.change_is)
row_asks context operators line at change (widths.Operands a b c) h = inl (ap (λ (k : Change). k.asks) h.change_is)

asks_for_numbers : {context : Context} {s : Stream} {rules : List Rule} {wanted : List Growth} {input : List ℕ} {operators : Operators} {r :
    Rewrite} {old new : List ℕ}
    {asks : Types} {after : Stream} → AppendsByWords context s rules wanted input operators r old new asks after → AsksForNumbers asks
asks_for_numbers {context = context} {operators = operators} {r = r} w =
    let m = w.appends.made in
    subst AsksForNumbers (sym w.appends.asks_are)
    (row_asks context operators m.line r.operator w.appends.change m.line.row.widths m.makes)

-- none of which is `Empty`
some_type : (t : PrimitiveTypeInfo) → is_number t ≡ true → t ≢ Empty
some_type t h e = absurd (true≢false (sym h ∙ ap is_number e))

some_types : (ts : Types) → AsksForNumbers ts → All (λ (t : PrimitiveTypeInfo). t ≢ Empty) ts
some_types ts (inl e) = subst (All (λ (t : PrimitiveTypeInfo). t ≢ Empty)) (sym e) (All-nil (λ (t : PrimitiveTypeInfo). t ≢ Empty))
some_types ts (inr (t, h, e)) = subst (All (λ (t : PrimitiveTypeInfo). t ≢ Empty)) (sym e)
    (All-cons (λ (t : PrimitiveTypeInfo). t ≢ Empty) t [] (some_type t h) (All-nil (λ (t : PrimitiveTypeInfo). t ≢ Empty)))

-- no number is a reference
plain_type : (t : PrimitiveTypeInfo) → is_number t ≡ true → merged true t ≡ t
plain_type primitive.I32 h = refl
plain_type primitive.I64 h = refl
plain_type primitive.F32 h = refl
plain_type primitive.F64 h = refl
plain_type primitive.V128 h = refl
plain_type primitive.FuncRef h = absurd (true≢false (sym h))
plain_type primitive.ExternRef h = absurd (true≢false (sym h))
plain_type primitive.Empty h = refl

plain_types : (ts : Types) → AsksForNumbers ts → map (merged true) ts ≡ ts
plain_types ts (inl e) = subst (λ (us : Types). map (merged true) us ≡ us) (sym e) refl
plain_types ts (inr (t, h, e)) =
    subst (λ (us : Types). map (merged true) us ≡ us) (sym e) (ap (λ (u : PrimitiveTypeInfo). u ∷ []) (plain_type t h))

-- ---- what was written

module _ (scope : Scope) (bytes : List ℕ) (info : Module) (layout : Layout) (n : ℕ) (locals : Types) (expression : ℕ) (operators : Operators)
    (entry : Entry) (rewrite : Rewrite) (old body : List ℕ) (more : Types) (s after : Stream) (front written : List ℕ) (globals : Types)
    (f : IsFunction bytes info layout n locals expression operators) (empty : old ≡ [])
    (appended : AppendsByWords (context_in info locals) s scope.rules (wanted_of scope) bytes operators rewrite old body more after) (at :
    slice_get layout.entries n ≡ Some entry)
    (front_is : front ≡ slice_range bytes entry.contents expression) (written_is : written ≡ body) (globals_are : globals ≡ more) where
  contents_is : front ++ written ≡ slice_range bytes f.entry.contents expression ++ body
  contents_is =
      let same : entry ≡ f.entry = same_Some _ _ (sym at ∙ f.is.at) in
      let start : front ≡ slice_range bytes f.entry.contents expression =
      front_is ∙ ap (λ (e : Entry). slice_range bytes e.contents expression) same in
      ap (λ xs. xs ++ written) start ∙ ap (λ ys. slice_range bytes f.entry.contents expression ++ ys) written_is

  appends : AppendsByWords (context_in info locals) s scope.rules (wanted_of scope) bytes operators rewrite [] body globals after
  appends =
      subst (λ (ts : Types). AppendsByWords (context_in info locals) s scope.rules (wanted_of scope) bytes operators rewrite [] body ts after) (sym globals_are)
      (subst (λ (o : List ℕ). AppendsByWords (context_in info locals) s scope.rules (wanted_of scope) bytes operators rewrite o body more after) empty appended)

  -- by these words
  pub writes_here : WritesAt scope bytes info layout s n rewrite (front ++ written) globals after
  writes_here = record {
    locals = locals;
    expression = expression;
    operators = operators;
    function = f;
    body = body;
    writes = appends;
    contents_are = contents_is;
  }

  -- the new module
  pub mutates : OwnBytesStay → RewrittenBytesAreAModule → (new : List ℕ) → IsModule bytes info layout →
      IsRewritten bytes layout n (front ++ written) globals new → MutatesEntry scope bytes info layout n rewrite new
  mutates stay law new known rewritten =
      let is : IsRewritten bytes layout n (slice_range bytes f.entry.contents expression ++ body) globals new =
      subst (λ (contents : List ℕ). IsRewritten bytes layout n contents globals new) contents_is rewritten in
      let w = appends.appends.written in
      let numbers : AsksForNumbers globals = asks_for_numbers appends in
      let spells : SpellsCode 0 body w.spliced.again =
      subst (λ (b : List ℕ). SpellsCode 0 b w.spliced.again) (sym w.spliced.appended) w.spliced.spells in
      let asking : asking_operators (own_bytes body w.spliced.again) ≡ asking_operators (own_bytes bytes operators) =
      ap (λ (b : List ℕ). asking_operators (own_bytes b w.spliced.again)) w.spliced.appended ∙ w.asking in
      record {
        locals = locals;
        expression = expression;
        operators = operators;
        function = f;
        body = body;
        more = globals;
        stream = s;
        after = after;
        rewritten = appends;
        written = is;
        again = read_again stay f body w.spliced.again globals new spells asking (plain_types globals numbers)
            (law bytes info layout n (slice_range bytes f.entry.contents expression ++ body) globals new known is
            f.is.indices.imports f.is.indices.globals (some_types globals numbers));
      }

-- what was read of a module that was rewritten, but for its bytes
pub was_rewritten : (scope : Scope) (bytes : List ℕ) (info : Module) (layout : Layout) (function : ℕ) (rewrite : Rewrite) (new : List ℕ) (read : Module)
    (place : Layout) → OneReading → IsModule bytes info layout → IsMarked scope info → read ≡ record info { input = [] } → place ≡ layout →
    IsMutated scope bytes function rewrite new → WasRewrittenAt scope read place function new
was_rewritten scope bytes info layout function rewrite new read place one is marked read_is place_is m =
    let same = one bytes m.info info m.layout layout m.is is (m.marked ∙ sym marked) in
    let k = m.mutates.2 in
    let input : m.info ≡ record m.info { input = bytes } = ap (λ (b : List ℕ). record m.info { input = b }) m.is.input in
    let mine : WasRewrittenAt scope (record m.info { input = [] }) m.layout function new = (
      m.mutates.0,
      m.mutates.1,
      record {
        bytes = bytes;
        is = subst (λ (i : Module). IsModule bytes i m.layout) input m.is;
        contents = slice_range bytes k.function.entry.contents k.expression ++ k.body;
        more = k.more;
        rewritten = k.written;
        imports = k.function.is.indices.imports;
        globals = k.function.is.indices.globals;
        some = some_types k.more (asks_for_numbers k.rewritten);
      },
      m.marked,
    ) in
    subst (λ (l : Layout). WasRewrittenAt scope read l function new) (same.1 ∙ sym place_is)
    (subst (λ (i : Module). WasRewrittenAt scope i m.layout function new) (ap (λ (i : Module). record i { input = [] }) same.0 ∙ sym read_is) mine)

-- no global that is asked for has the type `Empty`
asks_for_none : {scope : Scope} {bytes : List ℕ} {info : Module} {layout : Layout} {s : Stream} {n : ℕ} {rewrite : Rewrite} {contents : List ℕ}
    {more : Types} {after : Stream} → WritesAt scope bytes info layout s n rewrite contents more after → Contains more Empty → ⊥
asks_for_none {more = more} w has =
    All-contains (λ (t : PrimitiveTypeInfo). t ≢ Empty) more Empty (some_types more (asks_for_numbers w.writes)) has refl

module _ (scope : Scope) (bytes : List ℕ) (info : Module) (layout : Layout) (n : ℕ) (s after : Stream) (rewrite : Rewrite) (contents : List ℕ) (more : Types)
    (w : WritesAt scope bytes info layout s n rewrite contents more after) where
  -- the same where 32 bits don't hold it
  pub refuses_writing : (e : WriteError) → (e ≡ TooLarge → IsTooLarge bytes layout n contents more) → (e ≡ EmptyType → Contains more Empty) →
      RefusesEntry scope bytes info layout n (Write e)
  refuses_writing Memory large empty = tt
  refuses_writing EmptyType large empty = asks_for_none w (empty refl)
  refuses_writing TooLarge large empty = record {
    s = s;
    rewrite = rewrite;
    contents = contents;
    more = more;
    after = after;
    writes = w;
    holds = large refl;
  }

  -- that attempt is in vain
  pub tried_writing : (e : WriteError) → (e ≡ TooLarge → IsTooLarge bytes layout n contents more) → IsOfSize (Write e) →
      TriesInVain scope bytes info layout s n after
  tried_writing Memory large vain = absurd vain
  tried_writing EmptyType large vain = absurd vain
  tried_writing TooLarge large vain =
      by_size (record { rewrite = rewrite; contents = contents; more = more; writes = w; large = inl (large refl) })

  -- the same where the module with it isn't small enough
  pub refuses_size : (new : List ℕ) → IsRewritten bytes layout n contents more new → (e : MutationError) → IsNotFor scope bytes new e →
      RefusesEntry scope bytes info layout n e
  refuses_size new is (Read fault) h = absurd h
  refuses_size new is NoMemory h = absurd h
  refuses_size new is (Write fault) h = absurd h
  refuses_size new is TooLong (h, k) = record {
    s = s;
    rewrite = rewrite;
    contents = contents;
    more = more;
    after = after;
    writes = w;
    holds = record { new = new; is = is; long = h; smaller = k };
  }
  refuses_size new is NotSmaller (on, h) = (
    on,
    record { s = s; rewrite = rewrite; contents = contents; more = more; after = after; writes = w; holds = record { new = new; is = is; not = h } },
  )

  pub tried_size : (new : List ℕ) → IsRewritten bytes layout n contents more new → (e : MutationError) → IsNotFor scope bytes new e →
      TriesInVain scope bytes info layout s n after
  tried_size new is (Read fault) h = absurd h
  tried_size new is NoMemory h = absurd h
  tried_size new is (Write fault) h = absurd h
  tried_size new is TooLong (h, k) =
      by_size (record {
        rewrite = rewrite;
        contents = contents;
        more = more;
        writes = w;
        large = inr (inl (record { new = new; is = is; long = h; smaller = k }));
      })
  tried_size new is NotSmaller (on, h) =
      by_size (record {
        rewrite = rewrite;
        contents = contents;
        more = more;
        writes = w;
        large = inr (inr (on, record { new = new; is = is; not = h }));
      })
