-- What is written under a configuration that is set up.
use Rattle.std.proofs.Common.{◌≡◌, refl, ℕ, Bool, true, false, cond, List, [], ◌++◌, length, map, Option, Some, None, Result, Ok, Err, sym, ap, ap₂, ◌∙◌}
use Rattle.std.proofs.Common.{append_assoc}
use Rattle.std.specs.Prelude.{option_map}
use Rattle.std.specs.List.{All}
use Rattle.rand_core.specs.Stream.{Stream}
use Rattle.wasm_code.specs.Code.{codes}
use Rattle.wasm_code.specs.Instruction.{Instruction, IsInstruction}
use Rattle.mutate_base.specs.Config.{Setup, Config, info_of, generator_of}
use Rattle.wasm_types.specs.Module.{Module}
use Rattle.mutate_base.specs.declared.error.Error.{Error}
use Rattle.mutate_base.specs.declared.error.Error.TheVariants.{Memory, CannotUnfold, GlobalIndex}
use Rattle.peephole_lang.specs.declared.lang.Head.{Head}
use Rattle.peephole_lang.specs.Term.{Term, Terms}
use Rattle.peephole_graphs.specs.Entries.{Graph, roots_of}
use Rattle.peephole_graphs.specs.Forest.{forest}
use Rattle.peephole_graphs.specs.GraphOf.{IsGraphOf}
use Rattle.peephole_terms.specs.declared.encoder.request.ResourceRequest.{ResourceRequest}
use Rattle.peephole_terms.specs.EncoderSteps.{Writing, Does, around, writing_with_bytes, writing_of, root_terms, root_steps, steps_of, steps}
use Rattle.peephole_terms.specs.Expansion.{Setting, expansion_in, after_term, Refuses, then_code, expansion, requests_of, requests, request, draws_of, draws}
use Rattle.peephole_terms.specs.Expansion.{draw_words}
use Rattle.peephole_terms.specs.Written.{Site, source_at, AppendsBody, RefusesBody, block_shapes, is_written, term_requests, after_block_term, before_block}
use Rattle.peephole_terms.specs.Written.{after_block, written_block}
use Rattle.peephole_terms.proofs.ExpansionLemmas.{IsFinished, finished, from_start, all_from_start, refused}
use Rattle.peephole_terms.proofs.RangeLemmas.{block_in_range}
use Rattle.peephole_terms.proofs.RootTerms.{IsWrittenAs, term_where, block_written_as}
use Rattle.peephole_terms.proofs.WalkLemmas.{around_ok, around_refused, inside_in_range}

-- what a configuration is set up with
abbrev pub set_up_with : {R : Type 0} → Module → R → Option (Setup Module R)
set_up_with info generator = Some (record { info = info; generator = generator })

pub is_set_up : {R : Type 0} (config : Config Module R) (info : Module) (generator : R) → info_of config ≡ Some info →
    generator_of config ≡ Some generator → config.setup ≡ set_up_with info generator
is_set_up {R} config info generator i g = go config.setup i g
  where
    go : (o : Option (Setup Module R)) → option_map (λ s. s.info) o ≡ Some info → option_map (λ s. s.generator) o ≡ Some generator →
        o ≡ set_up_with info generator
    go None i g = cc
    go (Some s) i g = let same : s.info ≡ info = cc in let own : s.generator ≡ generator = cc in ap₂ (λ (m : Module) (r : R). set_up_with m r) same own

-- the setting of a module and of what a generator will give
abbrev pub setting : Module → Stream → Setting
setting info stream = record { info = info; stream = stream }

abbrev pub some_setting : Module → Stream → Option Setting
some_setting info stream = Some (setting info stream)

-- nothing is requested yet
abbrev pub start_at : Setting → List ℕ → Writing
start_at s old = writing_of old [] s.stream

-- ---- a term

abbrev DoesTerm : Setting → Term Head → List ℕ → Writing → Result (Unit {0}) Error → Type 0
DoesTerm s t old v out = Does (length s.info.globals) (steps_of t) (start_at s old) v out

-- what the code read is the term, and nothing was requested
pub as_given : {count globals : ℕ} {read t : Term Head} {none : List ResourceRequest} {old : List ℕ} {stream : Stream} {v : Writing}
    {out : Result (Unit {0}) Error} → count ≡ globals → read ≡ t → none ≡ [] → Does count (steps_of read) (writing_of old none stream) v out →
    Does globals (steps_of t) (writing_of old [] stream) v out
as_given c same empty d = rw (c, same, empty) at d

pub term_done : (s : Setting) (t : Term Head) (old : List ℕ) (v : Writing) → DoesTerm s t old v (Ok tt) →
    IsFinished old s.stream v (requests_of t) (draws_of t) (expansion_in s t)
term_done s t old v d =
    finished old s.stream v (requests_of t) (draws_of t) (expansion_in s t) (sym (from_start t (length s.info.globals) old s.stream) ∙ d.ok)

pub term_refused : (s : Setting) (t : Term Head) (old : List ℕ) (v : Writing) (e : Error) → DoesTerm s t old v (Err e) → Refuses (expansion_in s t) e
term_refused s t old v e d =
    refused e (start_at s old) (requests_of t) (draws_of t) (expansion_in s t) (rw (from_start t (length s.info.globals) old s.stream) at d.err)

-- ---- a body

abbrev pub front_of : Site → List ℕ
front_of site = before_block site.input site.operators site.block

abbrev pub back_of : Site → List ℕ
back_of site = after_block site.input site.operators site.block

abbrev pub DoesBody : Setting → Site → Graph → Term Head → List ℕ → Writing → Result (Unit {0}) Error → Type 0
DoesBody s site g t old v out =
    Does (length s.info.globals) (around (front_of site) (root_steps site.at t g.entries g.parents) (back_of site)) (start_at s old) v out

-- what the code read is the term, nothing was requested, and the bytes are those outside the block
pub body_given : {count globals : ℕ} {front before back after : List ℕ} {read t : Term Head} {none : List ResourceRequest} {old : List ℕ}
    {stream : Stream} {v : Writing} {out : Result (Unit {0}) Error} (at : ℕ) (g : Graph) → count ≡ globals → front ≡ before → back ≡ after →
    read ≡ t → none ≡ [] → Does count (around front (root_steps at read g.entries g.parents) back) (writing_of old none stream) v out →
    Does globals (around before (root_steps at t g.entries g.parents) after) (writing_of old [] stream) v out
body_given at g c f b same empty d = rw (c, f, b, same, empty) at d

-- What a call for a body has done that succeeded.
pub record HasWritten (s : Setting) (site : Site) (t : Term Head) (old : List ℕ) (v : Writing) : Type 0 where
  pub body : AppendsBody s site t old v.bytes
  pub asks : v.requests ≡ term_requests s.info site t
  pub leaves : setting s.info v.stream ≡ after_block_term s site t
  pub in_range : All IsInstruction (written_block s.info site body.code)

-- a term that isn't written is none
pub written_where : (b : Bool) (s : Setting) (t : Term Head) → (cond b (expansion_in s t) (Ok []) ≡ expansion_in s (term_where b t))
    × (cond b (map request (requests_of t)) [] ≡ map request (requests_of (term_where b t))) × (cond b (after_term s t) s ≡ after_term s (term_where b t))
written_where true s t = (refl, refl, refl)
written_where false s t = (refl, refl, refl)

followed_ok : (e : Result (List Instruction) Error) (f : List Instruction → List Instruction) (is : List Instruction) →
    then_code e (λ code. Ok (f code)) ≡ Ok is → (code : List Instruction) × (e ≡ Ok code) × (f code ≡ is)
followed_ok (Ok code) f is e = (code, refl, cc)
followed_ok (Err d) f is e = absurd cc

followed_err : (e : Result (List Instruction) Error) (f : List Instruction → List Instruction) (d : Error) →
    Refuses (then_code e (λ code. Ok (f code))) d → Refuses e d
followed_err (Err c) f d r = r
followed_err (Ok code) f Memory r = tt
followed_err (Ok code) f CannotUnfold r = absurd cc
followed_err (Ok code) f GlobalIndex r = absurd cc
followed_err (Ok code) f _ r = r

module _ (s : Setting) (preserving : Bool) (site : Site) (g : Graph) (t : Term Head) (h : IsGraphOf (source_at s.info preserving site) g) where
  abbrev count : ℕ
  count = length s.info.globals

  abbrev us : Terms Head
  us = root_terms site.at t g.entries (roots_of g.parents)

  -- the term, if it is written
  abbrev own : Term Head
  own = term_where (is_written s.info site) t

  written_as : IsWrittenAs site.block.start site.at own (forest (block_shapes s.info site)) us
  written_as = block_written_as (source_at s.info preserving site) g site.at t h

  code_is : expansion count (draw_words (draws us) s.stream).0 us ≡ then_code (expansion_in s own) (λ code. Ok (written_block s.info site code))
  code_is = ap (λ ds. expansion count (draw_words ds s.stream).0 us) written_as.takes ∙ written_as.code count (draw_words (draws_of own) s.stream).0

  pub body_done : (old : List ℕ) (v : Writing) → DoesBody s site g t old v (Ok tt) → HasWritten s site t old v
  body_done old v d =
      let (m, e, f) = around_ok count (front_of site) (back_of site) (steps us) (start_at s old) v d.ok in
      let all = finished (old ++ front_of site) s.stream m (requests us) (draws us) (expansion count (draw_words (draws us) s.stream).0 us)
      (sym (all_from_start us count (old ++ front_of site) s.stream) ∙ e) in
      let (code, expands, is) = followed_ok (expansion_in s own) (λ code. written_block s.info site code) all.instructions (sym code_is ∙ all.expands) in
      let form = written_where (is_written s.info site) s t in
      record {
        body = record {
          code = code;
          expands = form.0 ∙ expands;
          appended = ap (λ (x : Writing). x.bytes) f ∙ (ap (λ x. x ++ back_of site) (all.bytes ∙ ap (λ is. (old ++ front_of site) ++ codes is) (sym is))
              ∙ (append_assoc (old ++ front_of site) _ (back_of site) ∙ append_assoc old (front_of site) _));
        };
        asks = ap (λ (x : Writing). x.requests) f ∙ (all.asks ∙ (ap (map request) written_as.asks ∙ sym form.1));
        leaves = ap (λ (x : Writing). setting s.info x.stream) f
            ∙ (ap (setting s.info) (all.leaves ∙ ap (λ ds. (draw_words ds s.stream).1) written_as.takes) ∙ sym form.2);
        in_range = block_in_range count (draw_words (draws_of own) s.stream).0 code written_as
            (inside_in_range (front_of site) (back_of site) (steps us) d.in_range) expands;
      }

  pub body_refused : (old : List ℕ) (v : Writing) (e : Error) → DoesBody s site g t old v (Err e) → RefusesBody s site t e
  body_refused old v e d = λ other.
      let r = around_refused count (front_of site) (back_of site) (steps us) (start_at s old) e d.err in
      let q = refused e (writing_with_bytes (front_of site) (start_at s old)) (requests us) (draws us) (expansion count (draw_words (draws us) s.stream).0 us)
      (rw (all_from_start us count (old ++ front_of site) s.stream) at r) in
      rw ((written_where (is_written s.info site) s t).0) (followed_err (expansion_in s own) (λ code. written_block s.info site code) e (rw code_is at q))
