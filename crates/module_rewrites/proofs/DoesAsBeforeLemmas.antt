-- A module with a rewritten function does what it did, and so does one that was rewritten several times.
use Rattle.std.proofs.Common.{◌≡◌, ℕ, ◌+◌, Bool, List, [], ◌∷◌, ◌++◌, length, Option, Some, None, refl, sym, ap, ap₂}
use Rattle.std.proofs.Common.{subst, ◌∙◌, arith, append_assoc}
use Rattle.std.specs.Prelude.{slice_get, slice_range}
use Rattle.std.proofs.lemmas.List.{length-append}
use Rattle.std.proofs.lemmas.Option.{same_Some}
use Rattle.wasm_code.specs.declared.operator.Operator.{Operator}
use Rattle.wasm_types.specs.Module.{Module}
use Rattle.wasm_types.specs.declared.types.PrimitiveTypeInfo.{PrimitiveTypeInfo}
use Rattle.wasm_lists.specs.declared.entries.Entry.{Entry}
use Rattle.wasm_sections.specs.Section.{SpellsModule}
use Rattle.wasm_sections.specs.declared.section.Section.{Section}
use Rattle.wasm_module.specs.Instance.{Making, IsMadeOf, with_more_globals}
use Rattle.wasm_module.specs.Module.{Layout, IsModule}
use Rattle.wasm_module.specs.Reread.{HasContents}
use Rattle.wasm_module.specs.Rewritten.{global_code, globals_code, IsRewritten}
use Rattle.wasm_execution.specs.Values.{context_in, IsSound}
use Rattle.wasm_equivalence.specs.hosts.Embedder.{Embedder, IsSoundEmbedder, Functions, Beyonds, running, AreValid, with_operators}
use Rattle.wasm_equivalence.specs.hosts.Embedder.{with_function, DoesAs, BothDo, DoAsFunctions}
use Rattle.wasm_equivalence.specs.hosts.EmbedderLaws.{EmbeddersAreSound, HarnessesDoMore, PiecesDo, OneFunctionRewritten}
use Rattle.wasm_equivalence.specs.hosts.EmbedderLaws.{FunctionsDoThemselves, ValidModulesStayValid, ValidModulesDoMore, ValidSessionsDoMore}
use Rattle.wasm_equivalence.specs.hosts.EmbedderLaws.{ValidHarnessesDoMore, ValidModulesAreSound}
use Rattle.wasm_equivalence.specs.control.Function.{structural}
use Rattle.wasm_equivalence.specs.modules.Running.{DoesMore, world_of, RewritesFollowOneAnother, SessionsDoMore}
use Rattle.wasm_equivalence.specs.modules.Program.{Body}
use Rattle.wasm_equivalence.specs.validation.Sound.{IsValid}
use Rattle.wasm_equivalence.specs.control.Standard.{by_asked}
use Rattle.wasm_equivalence.specs.control.Wider.{wider_module}
use Rattle.body_rewrites.specs.Doing.{DoesAsBody}
use Rattle.body_rewrites.specs.declared.rewrite.Rewrite.{Rewrite}
use Rattle.body_splices.specs.OwnBytes.{without_offsets}
use Rattle.module_rewrites.specs.Structure.{HasAsking, AreLabelled}
use Rattle.module_rewrites.specs.Function.{parameters_of}
use Rattle.module_rewrites.specs.Mutated.{MutatesEntry, IsMutated}
use Rattle.module_rewrites.specs.Scope.{Scope}
use Rattle.module_rewrites.specs.Mutates.{RewritesEach, Mutates}
use Rattle.module_rewrites.specs.DoesAsBefore.{IsBodyOf, AreFunctions, BothStay, CannotRead, FunctionsDoAsBefore, IsModuleAfter, DoesAsBefore}
use Rattle.module_rewrites.specs.declared.mutation.MutationError.{MutationError}
use Rattle.module_rewrites.specs.declared.times.MadeRewrite.{MadeRewrite}
use Rattle.module_rewrites.proofs.ReadAgainLemmas.{entry_moved}
use Rattle.module_rewrites.proofs.StandAgainLemmas.{all_functions, had_before, labels_stay, own_body, unread_stay, OneReading}

-- ---- what is known

-- that bytes are one module
abbrev pub OneModule : Type 0
OneModule =
    (bytes : List ℕ) (info other : Module) (layout place : Layout) → IsModule bytes info layout → IsModule bytes other place →
    info.exact ≡ other.exact → (info ≡ other) × (layout ≡ place)

-- that a rewritten module is made of what the module is made of, with globals more
abbrev pub MadeAlike : Type 0
MadeAlike =
    (bytes : List ℕ) (info : Module) (layout : Layout) (n : ℕ) (contents : List ℕ) (more : List PrimitiveTypeInfo) (new : List ℕ)
    (sections : List Section) (making : Making) → IsModule bytes info layout → IsRewritten bytes layout n contents more new →
    SpellsModule new sections → IsMadeOf bytes layout.sections making → IsMadeOf new sections (with_more_globals more making)

-- what holds of modules
pub record OfModules : Type 0 where
  pub one : OneModule
  pub made : MadeAlike

-- what holds of programs
pub record OfPrograms : Type 0 where
  pub one : OneFunctionRewritten
  pub themselves : FunctionsDoThemselves
  pub pieces : PiecesDo
  pub valid : ValidModulesStayValid
  pub more : ValidModulesDoMore
  pub sessions : ValidSessionsDoMore
  pub harnesses : ValidHarnessesDoMore
  pub sound : ValidModulesAreSound
  pub embedders : EmbeddersAreSound
  pub again : RewritesFollowOneAnother
  pub calls : SessionsDoMore
  pub tells : HarnessesDoMore

-- ---- functions that do as others

-- so they stay
both_stay : (info : Module) (input : List ℕ) (more : List PrimitiveTypeInfo) (o n : Option Body) → BothDo info input more o n → BothStay info input more o n
both_stay info input more (Some b) (Some c) d = record { params_are = d.params_are; locals_are = d.locals_are; valid = d.valid }
both_stay info input more None None d = tt
both_stay info input more (Some b) None d = d
both_stay info input more None (Some c) d = d

pub do_as_before : OfPrograms → (info : Module) (input : List ℕ) (more : List PrimitiveTypeInfo) (old new : Functions) →
    DoAsFunctions info input more old new → FunctionsDoAsBefore info input more old new
do_as_before law info input more old new d = record {
  same = λ f. both_stay info input more (old f) (new f) (d f);
  valid = λ beyonds v. law.valid info input more beyonds old new v d;
  does = λ e beyonds sound v. law.more info input more e beyonds old new sound v d;
  sessions = λ e beyonds sound v. law.sessions info input more e beyonds old new sound v d;
  harnesses = λ e beyonds sound v. law.harnesses info input more e beyonds old new sound v d;
}

-- ---- one rewrite after another

wider_twice : (info : Module) (b c : List ℕ) (first second : List PrimitiveTypeInfo) →
    wider_module c second (wider_module b first info) ≡ wider_module c (first ++ second) info
wider_twice info b c first second =
    ap (λ (gs : List PrimitiveTypeInfo). record info { input = c; globals = gs }) (append_assoc info.globals first second)

module _ (law : OfPrograms) (info : Module) (b c : List ℕ) (first second : List PrimitiveTypeInfo) where
  abbrev between : Module
  between = wider_module b first info

  abbrev last : Module
  last = wider_module c second between

  stay_twice : (o m n : Option Body) → BothStay info b first o m → BothStay between c second m n → BothStay info c (first ++ second) o n
  stay_twice (Some o) (Some m) (Some n) s t =
      let locals : o.params ++ o.locals ≡ m.params ++ m.locals = ap₂ (λ (x y : List PrimitiveTypeInfo). x ++ y) s.params_are s.locals_are in
      record {
        params_are = s.params_are ∙ t.params_are;
        locals_are = s.locals_are ∙ t.locals_are;
        valid = λ results beyond x.
            let there : IsValid (context_in between (m.params ++ m.locals)) results (by_asked (structural m.operators) beyond) m.operators =
            subst (λ (ts : List PrimitiveTypeInfo). IsValid (context_in between ts) results (by_asked (structural m.operators) beyond) m.operators) locals
            (s.valid results beyond x) in
            subst (λ (k : Module × List PrimitiveTypeInfo). IsValid (context_in k.0 k.1) results (by_asked (structural n.operators) beyond) n.operators)
            (ap₂ (λ (k : Module) (ts : List PrimitiveTypeInfo). (k, ts)) (wider_twice info b c first second) (sym locals))
            (t.valid results beyond there);
      }
  stay_twice None None None s t = tt
  stay_twice (Some o) None n s t = absurd s
  stay_twice None (Some m) n s t = absurd s
  stay_twice None None (Some n) s t = absurd t
  stay_twice (Some o) (Some m) None s t = absurd t

  module _ (old middle new : Functions) (h : FunctionsDoAsBefore info b first old middle) (k : FunctionsDoAsBefore between c second middle new) where
    valid_twice : (beyonds : Beyonds) → AreValid info old beyonds → AreValid last new beyonds
    valid_twice beyonds v = k.valid beyonds (h.valid beyonds v)

    do_twice : (e : Embedder) (beyonds : Beyonds) → IsSoundEmbedder info e → AreValid info old beyonds →
        DoesMore (first ++ second) (running info e old beyonds) (running last e new beyonds)
    do_twice e beyonds sound v =
        law.again b first second (running info e old beyonds) (running between e middle beyonds) (running last e new beyonds) refl
        (h.does e beyonds sound v) (k.does e beyonds (law.embedders.stay info e b first sound) (h.valid beyonds v))

    sound_at_last : (e : Embedder) → IsSoundEmbedder info e → IsSoundEmbedder last e
    sound_at_last e sound = law.embedders.stay between e c second (law.embedders.stay info e b first sound)

    follow_one_another : FunctionsDoAsBefore info c (first ++ second) old new
    follow_one_another =
        let twice = wider_twice info b c first second in
        let more : (e : Embedder) (beyonds : Beyonds) → IsSoundEmbedder info e → AreValid info old beyonds →
        DoesMore (first ++ second) (running info e old beyonds) (running (wider_module c (first ++ second) info) e new beyonds) =
        λ e beyonds sound v. subst (λ (x : Module). DoesMore (first ++ second) (running info e old beyonds) (running x e new beyonds)) twice
        (do_twice e beyonds sound v) in
        record {
          same = λ f. stay_twice (old f) (middle f) (new f) (h.same f) (k.same f);
          valid = λ beyonds v. subst (λ (x : Module). AreValid x new beyonds) twice (valid_twice beyonds v);
          does = more;
          sessions = λ e beyonds sound v fuel depth.
              law.calls c (first ++ second) (running info e old beyonds) (running (wider_module c (first ++ second) info) e new beyonds) refl
              (more e beyonds sound v) fuel depth (law.sound info e beyonds old sound v fuel depth)
              (subst (λ (x : Module). IsSound (world_of (running x e new beyonds) fuel depth)) twice
              (law.sound last e beyonds new (sound_at_last e sound) (valid_twice beyonds v) fuel depth));
          harnesses = λ e beyonds sound v fuel depth.
              law.tells c (first ++ second) (running info e old beyonds) (running (wider_module c (first ++ second) info) e new beyonds) refl
              (more e beyonds sound v) fuel depth (law.sound info e beyonds old sound v fuel depth)
              (subst (λ (x : Module). IsSound (world_of (running x e new beyonds) fuel depth)) twice
              (law.sound last e beyonds new (sound_at_last e sound) (valid_twice beyonds v) fuel depth));
        }

-- globals more, and then others
globals_append : (ts us : List PrimitiveTypeInfo) → globals_code (ts ++ us) ≡ globals_code ts ++ globals_code us
globals_append [] us = refl
globals_append (t ∷ ts) us =
    ap (λ (x : List ℕ). global_code t ++ x) (globals_append ts us) ∙ sym (append_assoc (global_code t) (globals_code ts) (globals_code us))

made_twice : (first second : List PrimitiveTypeInfo) (making : Making) →
    with_more_globals second (with_more_globals first making) ≡ with_more_globals (first ++ second) making
made_twice first second making =
    let count : (making.count + length first) + length second ≡ making.count + length (first ++ second) = omega (arith, length-append first second) in
    let codes : (making.globals ++ globals_code first) ++ globals_code second ≡ making.globals ++ globals_code (first ++ second) =
    append_assoc making.globals (globals_code first) (globals_code second)
    ∙ ap (λ (x : List ℕ). making.globals ++ x) (sym (globals_append first second)) in
    ap₂ (λ (n : ℕ) (x : List ℕ). record making { count = n; globals = x }) count codes

-- what can't be read contains what it did, behind both
unread_twice : (a b c : List ℕ) (info : Module) (layout : Layout) (old : Functions) (x : IsModuleAfter a info layout old b)
    (y : IsModuleAfter b (wider_module b x.more info) x.again x.functions c) (n : ℕ) (entry : Entry) → slice_get layout.entries n ≡ Some entry →
    CannotRead a info layout n → HasContents c y.again.entries n (slice_range a entry.contents entry.end)
unread_twice a b c info layout old x y n entry at cannot =
    let between = x.unread n entry at cannot in
    let back : HasContents a layout.entries n (slice_range b between.entry.contents between.entry.end) =
    record { entry = entry; at = at; text_is = sym between.text_is } in
    let never : CannotRead b (wider_module b x.more info) x.again n =
    λ locals expression operators f.
    let here = subst (λ (e : Entry). HasContents a layout.entries n (slice_range b e.contents e.end)) (same_Some _ _ (sym between.at ∙ f.is.at)) back in
    let there = entry_moved b (wider_module b x.more info) x.again a info layout n locals expression operators (x.indices f.is.indices)
    (ap (λ (i : ℕ). parameters_of info (i + n)) (sym x.imported)) f here in
    cannot locals there.function.expression there.function.located there.function.is in
    let last = y.unread n between.entry between.at never in
    record { entry = last.entry; at = last.at; text_is = between.text_is ∙ last.text_is }

pub does_after : OfPrograms → (exact : Bool) (a b c : List ℕ) → DoesAsBefore exact a b → DoesAsBefore exact b c → DoesAsBefore exact a c
does_after law exact a b c h k = record { functions = λ info layout old is mark are. go info layout old mark (h.functions info layout old is mark are) }
  where
    go : (info : Module) (layout : Layout) (old : Functions) → info.exact ≡ exact → IsModuleAfter a info layout old b → IsModuleAfter a info layout old c
    go info layout old mark x =
        let y = k.functions (wider_module b x.more info) x.again x.functions x.is mark x.are in
        let twice = wider_twice info b c x.more y.more in
        record {
          more = x.more ++ y.more;
          again = y.again;
          is = subst (λ (m : Module). IsModule c m y.again) twice y.is;
          functions = y.functions;
          are = subst (λ (m : Module). AreFunctions c m y.again y.functions) twice y.are;
          after = follow_one_another law info b c x.more y.more old x.functions y.functions x.after y.after;
          imported = y.imported ∙ x.imported;
          indices = λ h. x.indices (y.indices h);
          asking = λ n theirs h. x.asking n theirs
              (y.asking n theirs (subst (λ (m : Module). HasAsking c m y.again n theirs) (sym twice) h));
          labels = λ beyonds l. subst (λ (m : Module). AreLabelled c m y.again beyonds) twice (y.labels beyonds (x.labels beyonds l));
          unread = λ n entry at cannot. unread_twice a b c info layout old x y n entry at cannot;
          made = λ making is. subst (IsMadeOf c y.again.sections) (made_twice x.more y.more making)
              (y.made (with_more_globals x.more making) (x.made making is));
        }

-- ---- a rewritten function among the others

module _ (one : OneReading) (law : OfPrograms) (alike : MadeAlike) {scope : Scope} {bytes : List ℕ} {info : Module} {layout : Layout} {n : ℕ}
    {rewrite : Rewrite} {new : List ℕ} (known : IsModule bytes info layout) (m : MutatesEntry scope bytes info layout n rewrite new) where
  abbrev more : List PrimitiveTypeInfo
  more = m.more

  abbrev written : List Operator
  written = without_offsets m.rewritten.appends.written.spliced.again

  abbrev index : ℕ
  index = layout.imported_functions + n

  -- what the rewritten body does
  body_does : DoesAsBody (context_in info m.locals) more (without_offsets m.operators) written
  body_does =
      let w = m.rewritten.appends in
      subst (λ (ts : List PrimitiveTypeInfo). DoesAsBody (context_in info m.locals) ts (without_offsets m.operators) written) (sym w.asks_are) w.written.whole

  rewritten_does : (b : Body) → IsBodyOf bytes info layout index b → DoesAs info new more b (with_operators written b)
  rewritten_does b h =
      let (locals, operators) = own_body one m.function m.again b h in
      body_does info new b (ap (context_in info) locals) operators

  module _ (old : Functions) (are : AreFunctions bytes info layout old) where
    both_do : DoAsFunctions info new more old (with_function old index written)
    both_do = law.one info new more old index written (λ b k. rewritten_does b (are index b k))

    module_after : IsModuleAfter bytes info layout old new
    module_after =
        let functions = with_function old index written in
        record {
          more = more;
          again = m.again.again;
          is = m.again.is;
          functions = functions;
          are = all_functions one m.function m.again old are;
          after = do_as_before law info new more old functions both_do;
          imported = m.again.imported;
          indices = m.again.indices.0;
          asking = had_before one m.function m.again;
          labels = labels_stay one m.function m.again;
          unread = unread_stay one m.function m.again;
          made = λ making is. alike bytes info layout n (slice_range bytes m.function.entry.contents m.expression ++ m.body) more new
              m.again.again.sections making known m.written m.again.is.spells is;
        }

-- ---- whole modules

pub mutated_does : OneReading → OfPrograms → OfModules → (scope : Scope) (bytes : List ℕ) (function : ℕ) (rewrite : Rewrite)
    (new : List ℕ) → IsMutated scope bytes function rewrite new → DoesAsBefore scope.exact bytes new
mutated_does one law unique scope bytes function rewrite new m = record { functions = λ info layout old is mark are. go info layout old is mark are }
  where
    go : (info : Module) (layout : Layout) (old : Functions) → IsModule bytes info layout → info.exact ≡ scope.exact → AreFunctions bytes info layout old →
        IsModuleAfter bytes info layout old new
    go info layout old is mark are =
        let (infos, layouts) = unique.one bytes info m.info layout m.layout is m.is (mark ∙ sym m.marked) in
        let entry : MutatesEntry scope bytes info layout m.mutates.0 rewrite new =
        subst (λ (p : Module × Layout). MutatesEntry scope bytes p.0 p.1 m.mutates.0 rewrite new)
        (ap₂ (λ (i : Module) (l : Layout). (i, l)) (sym infos) (sym layouts)) m.mutates.2 in
        module_after one law unique.made is entry old are

pub each_does : OneReading → OfPrograms → OfModules → (scope : Scope) (bytes : List ℕ) (m : MadeRewrite) (made : List MadeRewrite)
    (new : List ℕ) → RewritesEach scope bytes (m ∷ made) new → DoesAsBefore scope.exact bytes new
each_does one law unique scope bytes m [] new h =
    subst (DoesAsBefore scope.exact bytes) (sym h.2) (mutated_does one law unique scope bytes m.function m.rewrite h.0 h.1)
each_does one law unique scope bytes m (k ∷ made) new h =
    does_after law scope.exact bytes h.0 new (mutated_does one law unique scope bytes m.function m.rewrite h.0 h.1)
    (each_does one law unique scope h.0 k made new h.2)

pub mutates_does : OneReading → OfPrograms → OfModules → (scope : Scope) (count : ℕ) (bytes : List ℕ) (made : List MadeRewrite)
    (new : List ℕ) (stopped : Option MutationError) → Mutates scope count bytes made new stopped → DoesAsBefore scope.exact bytes new
mutates_does one law unique scope count bytes [] new stopped h = absurd (let some = h.some in omega (arith, some))
mutates_does one law unique scope count bytes (m ∷ made) new stopped h = each_does one law unique scope bytes m made new h.each
