-- A term's code in the place of some operators of a body: it is read again, and where a tree stood that it evaluates as, it runs as before.
use Rattle.std.proofs.Common.{◌≡◌, ℕ, ◌+◌, ◌-◌, ◌<◌, ◌≤◌, List, [], ◌∷◌, ◌++◌, length, map, take, drop, Option, Some, None, Result, Ok, Err, refl, sym, ap}
use Rattle.std.proofs.Common.{ap₂, subst, ◌∙◌, append_assoc, arith}
use Rattle.std.specs.Prelude.{slice_range, option_map}
use Rattle.std.specs.List.{All}
use Rattle.std.proofs.Math.Seq.{take-add}
use Rattle.std.proofs.lemmas.List.{drop_at, drop-drop}
use Rattle.rand_core.specs.Stream.{Stream}
use Rattle.wasm_code.specs.Code.{codes}
use Rattle.wasm_code.specs.Instruction.{Instruction, IsInstruction}
use Rattle.wasm_code.specs.declared.operator.Operator.{Operator}
use Rattle.wasm_code.specs.declared.operator.Operator.TheVariants.{Instr}
use Rattle.wasm_types.specs.Module.{Module}
use Rattle.mutate_base.specs.declared.error.Error.{Error}
use Rattle.wasm_types.specs.declared.types.PrimitiveTypeInfo.{PrimitiveTypeInfo}
use Rattle.peephole_lang.specs.declared.lang.Head.{Head}
use Rattle.peephole_lang.specs.Node.{instr_of_head}
use Rattle.peephole_lang.specs.Term.{Term, Terms, absent, node, no_terms, ◌▸◌}
use Rattle.wasm_execution.specs.Values.{Context, context_in}
use Rattle.peephole_terms.specs.declared.encoder.request.ResourceRequest.{ResourceRequest}
use Rattle.wasm_equivalence.specs.validation.Algorithm.{check_code}
use Rattle.wasm_equivalence.specs.validation.StaysValid.{with_types, ChecksAs}
use Rattle.wasm_equivalence.specs.control.Wider.{wider}
use Rattle.peephole_terms.specs.NodeKind.{NumberType, node_kind, primitive_of}
use Rattle.peephole_terms.specs.EncoderSteps.{Writing, Does, around, writing_with_bytes, writing_of, steps_of}
use Rattle.peephole_terms.specs.Expansion.{Setting, draw_words, draws_of, requests_of, request, expansion_in, after_term, Refuses}
use Rattle.peephole_terms.specs.SameRun.{EvaluatesAs, and_instruction, instructions_in}
use Rattle.peephole_terms.specs.Spliced.{operator_of_head, tree_operators, operators_of_trees, some_operator, range_as_block}
use Rattle.peephole_terms.specs.Spliced.{StandsAt, KeepsEveryRun, KeepsItsRun, RunsSpliced, AppendsSplicedTerm}
use Rattle.peephole_terms.specs.StackCode.{words_for}
use Rattle.peephole_terms.specs.Written.{site_at, IsBodyIn, before_block, after_block}
use Rattle.peephole_terms.proofs.ExpansionLemmas.{finished, from_start, refused}
use Rattle.peephole_terms.proofs.RangeLemmas.{term_in_range}
use Rattle.peephole_terms.proofs.ReadAgainLemmas.{reads_again}
use Rattle.peephole_terms.proofs.SameRunLemmas.{AreWritten, tree_follows, keeps_run}
use Rattle.peephole_terms.proofs.SettingLemmas.{setting, start_at}
use Rattle.peephole_terms.proofs.SpellingLemmas.{CodesSpell}
use Rattle.peephole_terms.proofs.StackCodeLemmas.{Provided}
use Rattle.peephole_terms.proofs.TypedCode.{TypedRowsCheck, typed_term}
use Rattle.peephole_terms.proofs.TermOfLemmas.{IsItself, AreThemselves, absent_itself, none_themselves, more_themselves, row_kind, node_itself}
use Rattle.peephole_terms.proofs.WalkLemmas.{around_ok, around_refused, inside_in_range}

-- ---- the instructions of operators

instructions_append : (xs ys : List (Operator × ℕ)) → instructions_in (xs ++ ys) ≡ instructions_in xs ++ instructions_in ys
instructions_append [] ys = refl
instructions_append (x ∷ xs) ys = ap (and_instruction x.0) (instructions_append xs ys) ∙ go x.0 (instructions_in xs) (instructions_in ys)
  where
    go : (o : Operator) (a b : List Instruction) → and_instruction o (a ++ b) ≡ and_instruction o a ++ b
    go (Instr i) a b = refl
    go _ a b = refl

range_parts : {A : Type 0} (xs : List A) (a b c : ℕ) → a ≤ b → b ≤ c → slice_range xs a c ≡ slice_range xs a b ++ slice_range xs b c
range_parts xs a b c l m =
    let n : c - a ≡ (b - a) + (c - b) = omega arith in
    let k : a + (b - a) ≡ b = omega arith in
    ap (λ x. take x (drop a xs)) n ∙ (take-add (b - a) (c - b) (drop a xs)
    ∙ ap (λ ys. take (b - a) (drop a xs) ++ take (c - b) ys) (drop-drop (b - a) a xs ∙ ap (λ x. drop x xs) k))

-- those of a range are those before a part of it, its own and those behind
range_instructions : (os : List (Operator × ℕ)) (from start end to : ℕ) → from ≤ start → start ≤ end → end ≤ to →
    instructions_in (slice_range os from to)
    ≡ (instructions_in (slice_range os from start) ++ instructions_in (slice_range os start end)) ++ instructions_in (slice_range os end to)
range_instructions os from start end to a b c =
    let parts = range_parts os from end to (omega arith) c ∙ ap (λ xs. xs ++ slice_range os end to) (range_parts os from start end a b) in
    ap instructions_in parts ∙ (instructions_append (slice_range os from start ++ slice_range os start end) (slice_range os end to)
    ∙ ap (λ is. is ++ instructions_in (slice_range os end to)) (instructions_append (slice_range os from start) (slice_range os start end)))

-- ---- operators that are a tree's nodes

-- The operators are these, and then those.
record AreParts (xs ys : List (Option Operator)) (os : List (Operator × ℕ)) : Type 0 where
  front : List (Operator × ℕ)
  back : List (Operator × ℕ)
  whole : front ++ back ≡ os
  first : map some_operator front ≡ xs
  second : map some_operator back ≡ ys

same_head : {A : Type 0} (x y : A) (xs ys : List A) → x ∷ xs ≡ y ∷ ys → x ≡ y
same_head x y xs ys e = cc

same_tail : {A : Type 0} (x y : A) (xs ys : List A) → x ∷ xs ≡ y ∷ ys → xs ≡ ys
same_tail x y xs ys e = cc

parts_of : (xs ys : List (Option Operator)) (os : List (Operator × ℕ)) → map some_operator os ≡ xs ++ ys → AreParts xs ys os
parts_of [] ys os e = record { front = []; back = os; whole = refl; first = refl; second = e }
parts_of (x ∷ xs) ys [] e = absurd cc
parts_of (x ∷ xs) ys (o ∷ os) e =
    let p = parts_of xs ys os (same_tail (some_operator o) x (map some_operator os) (xs ++ ys) e) in
    let here = same_head (some_operator o) x (map some_operator os) (xs ++ ys) e in
    record {
      front = o ∷ p.front;
      back = p.back;
      whole = ap (λ l. o ∷ l) p.whole;
      first = ap₂ (λ (y : Option Operator) l. y ∷ l) here p.first;
      second = p.second;
    }

an_instruction : (o : Operator) (x : Option Instruction) → Some o ≡ option_map (λ i. Instr i) x → (i : Instruction) × (x ≡ Some i) × (o ≡ Instr i)
an_instruction o None e = absurd cc
an_instruction o (Some i) e = (i, refl, cc)

-- a node with an instruction comes behind its children
own_itself : (h : Head) (kids : Terms Head) (front back : List (Operator × ℕ)) → map some_operator back ≡ operator_of_head h ∷ [] →
    AreThemselves kids (instructions_in front) → IsItself (node h kids) (instructions_in front ++ instructions_in back)
own_itself h kids front [] e k = absurd cc
own_itself h kids front (o ∷ []) e k =
    let (i, is, same) = an_instruction o.0 (instr_of_head h) (same_head (some_operator o) (operator_of_head h) [] [] e) in
    let own = node_itself (node_kind h) i kids (instructions_in front) (row_kind h i is) k in
    subst (λ x. IsItself (node h kids) (instructions_in front ++ and_instruction x [])) (sym same)
    (record { expands = own.0; asks = own.1; takes = own.2 })
own_itself h kids front (o ∷ p ∷ back) e k = absurd cc

mutual
  -- a tree whose nodes these operators are is written as their instructions
  tree_itself : (t : Term Head) (os : List (Operator × ℕ)) → map some_operator os ≡ tree_operators t → IsItself t (instructions_in os)
  tree_itself absent [] e = absent_itself
  tree_itself absent (o ∷ os) e = absurd cc
  tree_itself (node h kids) os e =
      let p = parts_of (operators_of_trees kids) (operator_of_head h ∷ []) os e in
      subst (IsItself (node h kids)) (sym (instructions_append p.front p.back) ∙ ap instructions_in p.whole)
      (own_itself h kids p.front p.back p.second (trees_themselves kids p.front p.first))

  trees_themselves : (ts : Terms Head) (os : List (Operator × ℕ)) → map some_operator os ≡ operators_of_trees ts → AreThemselves ts (instructions_in os)
  trees_themselves no_terms [] e = none_themselves
  trees_themselves no_terms (o ∷ os) e = absurd cc
  trees_themselves (t ▸ ts) os e =
      let p = parts_of (tree_operators t) (operators_of_trees ts) os e in
      subst (AreThemselves (t ▸ ts)) (sym (instructions_append p.front p.back) ∙ ap instructions_in p.whole)
      (more_themselves (tree_itself t p.front p.first) (trees_themselves ts p.back p.second))

-- ---- runs

keeps_its_run : (context : Context) (os : List (Operator × ℕ)) (start end : ℕ) (new : Term Head) (code : List Instruction) → start ≤ end →
    KeepsEveryRun context new (instructions_in (slice_range os start end)) code → KeepsItsRun context os start end new code
keeps_its_run context os start end new code l k from to a b more stack state others requested hs h hr n =
    let e = range_instructions os from start end to a l b in
    rw e (k (instructions_in (slice_range os from start)) (instructions_in (slice_range os end to)) more stack state others requested hs h hr (rw e at n))

-- what a tree asks for is there
none_provided : (ks : List NumberType) (next : ℕ) (globals : List PrimitiveTypeInfo) → ks ≡ [] → Provided next ks globals
none_provided ks next globals e = subst (λ (js : List NumberType). Provided next js globals) (sym e) (drop next globals, refl)

-- The term's code is valid wherever the tree's is.
checks_as : TypedRowsCheck → {info : Module} {locals : List PrimitiveTypeInfo} {words : List ℕ} {tree t : Term Head} {own code : List Instruction}
    (a : EvaluatesAs (context_in info locals) words tree t) → AreWritten info words tree t own code → (input : List ℕ) (more : List PrimitiveTypeInfo) →
    ChecksAs (context_in info locals) (wider input (map primitive_of (requests_of t) ++ more) (context_in info locals)) own code
checks_as law {info} {locals} {words} {tree} {t} {own} {code} a x input more f g e =
    let context = context_in info locals in
    let behind = map primitive_of (requests_of t) ++ more in
    let all = wider input behind context in
    let old : check_code context own f ≡ Some (with_types a.list f) =
    typed_term law context context (λ row ts us h. h) tree [] a.list own a.first_types (x.itself.expands (length info.globals) [])
    (none_provided (requests_of tree) (length info.globals) info.globals x.itself.asks) f in
    let new : check_code all code f ≡ Some (with_types a.list f) =
    typed_term law context all (law.stay context input behind) t words a.list code a.second_types x.expands
    (more, drop_at info.globals behind (length info.globals) refl) f in
    new ∙ (sym old ∙ e)

runs_spliced : TypedRowsCheck → (s : Setting) (operators : List (Operator × ℕ)) (start end : ℕ) (t : Term Head) (code : List Instruction) →
    start ≤ end → expansion_in s t ≡ Ok code → (locals : List PrimitiveTypeInfo) (tree : Term Head) → StandsAt operators start end tree →
    EvaluatesAs (context_in s.info locals) (words_for s t) tree t → RunsSpliced s operators start end t code locals
runs_spliced law s operators start end t code l e locals tree stands a =
    let context = context_in s.info locals in
    let own = instructions_in (slice_range operators start end) in
    let written : AreWritten s.info (words_for s t) tree t own code =
    record { itself = tree_itself tree (slice_range operators start end) stands; expands = e } in
    let every : KeepsEveryRun context t own code = λ front back more stack state others requested hs h hr n.
    keeps_run more a written front back stack state others requested hs h hr n in
    record {
      every = every;
      its = keeps_its_run context operators start end t code l every;
      alone = record {
        runs = λ more stack requested state hs h hr n. tree_follows more a written requested stack state h hr;
        checks = checks_as law a written;
      };
    }

-- ---- what is written

abbrev pub DoesAround : Setting → (before after : List ℕ) → Term Head → List ℕ → Writing → Result (Unit {0}) Error → Type 0
DoesAround s before after t old v out = Does (length s.info.globals) (around before (steps_of t) after) (start_at s old) v out

-- what the code read is the term, nothing was requested, and the bytes are those outside the range
pub around_given : {count globals : ℕ} {front before back after : List ℕ} {read t : Term Head} {none : List ResourceRequest} {old : List ℕ}
    {stream : Stream} {v : Writing} {out : Result (Unit {0}) Error} → count ≡ globals → front ≡ before → back ≡ after → read ≡ t → none ≡ [] →
    Does count (around front (steps_of read) back) (writing_of old none stream) v out →
    Does globals (around before (steps_of t) after) (writing_of old [] stream) v out
around_given c f b same empty d = rw (c, f, b, same, empty) at d

-- What a call has done that succeeded.
pub record HasSpliced (s : Setting) (input : List ℕ) (operators : List (Operator × ℕ)) (start end : ℕ) (t : Term Head) (old : List ℕ) (v : Writing) :
    Type 0 where
  pub body : AppendsSplicedTerm s input operators start end t old v.bytes
  pub asks : v.requests ≡ map request (requests_of t)
  pub leaves : setting s.info v.stream ≡ after_term s t

module _ (s : Setting) (input : List ℕ) (operators : List (Operator × ℕ)) (start end : ℕ) (t : Term Head) where
  abbrev count : ℕ
  count = length s.info.globals

  abbrev before : List ℕ
  before = before_block input operators (range_as_block start end)

  abbrev after : List ℕ
  after = after_block input operators (range_as_block start end)

  pub spliced_done : CodesSpell → TypedRowsCheck → IsBodyIn input operators → start ≤ end → end < length operators → (old : List ℕ) (v : Writing) →
      DoesAround s before after t old v (Ok tt) → HasSpliced s input operators start end t old v
  spliced_done spell law body l m old v d =
      let (w, e, f) = around_ok count before after (steps_of t) (start_at s old) v d.ok in
      let h = finished (old ++ before) s.stream w (requests_of t) (draws_of t) (expansion_in s t) (sym (from_start t count (old ++ before) s.stream) ∙ e) in
      let code = h.instructions in
      let in_range : All IsInstruction code =
      term_in_range t count (draw_words (draws_of t) s.stream).0 code (inside_in_range before after (steps_of t) d.in_range) h.expands in
      record {
        body = record {
          code = code;
          expands = h.expands;
          appended = ap (λ (x : Writing). x.bytes) f ∙ (ap (λ x. x ++ after) h.bytes
              ∙ (append_assoc (old ++ before) (codes code) after ∙ append_assoc old before (codes code ++ after)));
          reads = reads_again spell (site_at input operators (range_as_block start end) start) code body (record { ordered = l; inside = m }) in_range;
          runs = runs_spliced law s operators start end t code l h.expands;
        };
        asks = ap (λ (x : Writing). x.requests) f ∙ h.asks;
        leaves = ap (λ (x : Writing). setting s.info x.stream) f ∙ ap (setting s.info) h.leaves;
      }

  pub spliced_refused : (old : List ℕ) (v : Writing) (e : Error) → DoesAround s before after t old v (Err e) → Refuses (expansion_in s t) e
  spliced_refused old v e d =
      let r = around_refused count before after (steps_of t) (start_at s old) e d.err in
      refused e (writing_with_bytes before (start_at s old)) (requests_of t) (draws_of t) (expansion_in s t)
      (rw (from_start t count (old ++ before) s.stream) at r)
