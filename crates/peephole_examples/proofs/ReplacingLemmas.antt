-- A new body is what the writer says of it, with the block and the graph that it was written from.
use Rattle.std.specs.Prelude.{◌≡◌, ◌⊎◌, true, Result, Err, IfErr, ℕ, List, [], ◌++◌, length, slice_range, Bool, Option, Some, None, IfSome, option_map}
use Rattle.std.proofs.Common.{inl, inr, refl, ◌∙◌, ap, subst, sym, arith}
use Rattle.std.proofs.lemmas.Grind.{common_steps}
use Rattle.wasm_code.specs.Body.{SpellsBody}
use Rattle.rand_core.specs.Stream.{Stream}
use Rattle.wasm_code.specs.declared.operator.Operator.{Operator}
use Rattle.mutate_base.specs.Config.{Setup}
use Rattle.wasm_types.specs.Module.{Module}
use Rattle.mutate_base.specs.declared.error.Error.{Error}
use Rattle.mutate_base.specs.declared.error.Error.TheVariants.{Memory, NoMutationsApplicable, UnknownFunction, UnknownLocal, UnknownGlobal}
use Rattle.mutate_base.specs.declared.error.Error.TheVariants.{UnknownTable, UnknownMemory, UnknownOperand, CannotUnfold, GlobalIndex}
use Rattle.mutate_base.specs.declared.error.Error.TheVariants.{TooLarge}
use Rattle.peephole_lang.specs.declared.lang.Head.{Head}
use Rattle.peephole_lang.specs.Term.{Term}
use Rattle.peephole_graphs.specs.Entries.{Graph}
use Rattle.peephole_graphs.specs.Source.{source_of}
use Rattle.peephole_graphs.specs.Block.{BlockRange, IsBlockOf}
use Rattle.peephole_graphs.specs.Forest.{IsInOrder}
use Rattle.peephole_graphs.specs.GraphOf.{IsGraphOf}
use Rattle.peephole_terms.specs.declared.encoder.request.ResourceRequest.{ResourceRequest}
use Rattle.peephole_terms.specs.Expansion.{Setting, Refuses}
use Rattle.peephole_terms.specs.Written.{Site, source_at, KeepsOrder, RefusesBody, block_shapes, term_code, term_requests, written_block, written_body}
use Rattle.peephole_terms.specs.SameRun.{AppendsSameRun}
use Rattle.peephole_examples.specs.declared.replacing.ReplaceError.{ReplaceError}
use Rattle.peephole_examples.specs.declared.replacing.ReplaceError.TheVariants.{Write}
use Rattle.peephole_examples.specs.Replacing.{IsPoint, IsReplaced, IsNotWritten, IsNotReplaced}

-- a configuration's module and generator, as the setting that they make
abbrev set_up : {R : Type 0} → (R → Stream) → Option (Setup Module R) → Option Setting
set_up stream setup = option_map (λ s. record { info = s.info; stream = stream s.generator }) setup

abbrev info_in : {R : Type 0} → Option (Setup Module R) → Option Module
info_in setup = option_map (λ s. s.info) setup

pub replaced_is : {R : Type 0} (stream : R → Stream) (setup : Option (Setup Module R)) (preserving : Bool) (site : Site) (graph : Graph)
    (t : Term Head) (old body : List ℕ) (requests : List ResourceRequest) → old ≡ [] → IsPoint site →
    IfSome (info_in setup) (λ info. IsGraphOf (source_at info preserving site) graph) →
    IfSome (set_up stream setup) (λ s. AppendsSameRun s site graph t old body) →
    IfSome (info_in setup) (λ info. requests ≡ term_requests info site t) →
    IfSome (set_up stream setup) (λ s. IsReplaced s preserving site.input site.at t body requests)
replaced_is stream None preserving site graph t old body requests e at g w r = w
replaced_is stream (Some s) preserving site graph t old body requests e at g w r = record {
  operators = site.operators;
  block = site.block;
  at = at;
  code = w.code;
  expands = w.expands;
  written = w.appended ∙ ap (λ front. front ++ written_body site (written_block s.info site w.code)) e;
  asks = r;
  graph = graph;
  graph_is = g;
  runs = w.runs;
}

-- the graph that was made of a module that is there
pub graph_is : (info : Option Module) (m : Module) (preserving mode : Bool) (operators os : List (Operator × ℕ)) (block : BlockRange)
    (graph : Graph) → info ≡ Some m → mode ≡ preserving → os ≡ operators → IsGraphOf (source_of m mode os block) graph →
    IfSome info (λ info. IsGraphOf (source_of info preserving operators block) graph)
graph_is info m preserving mode operators os block graph e k o g = rw (e, sym k, sym o) g

whole : (bytes : List ℕ) → slice_range bytes 0 (length bytes) ≡ bytes
whole bytes = grind (arith, common_steps)

-- the operators that were read, and the block that was found among them
pub point_is : (site : Site) (read found : List (Operator × ℕ)) → SpellsBody 0 (slice_range site.input 0 (length site.input)) read →
    site.operators ≡ read → found ≡ read → IsBlockOf found site.at site.block.start site.block.end → IsPoint site
point_is site read found s o f b = record {
  spelled = subst (SpellsBody 0 site.input) (sym o) (subst (λ xs. SpellsBody 0 xs read) (whole site.input) s);
  block_is = subst (λ (os : List (Operator × ℕ)). IsBlockOf os site.at site.block.start site.block.end) (f ∙ sym o) b;
}

-- why the writer wrote nothing
pub refused_is : {R : Type 0} (A : Type 0) (stream : R → Stream) (setup : Option (Setup Module R)) (preserving : Bool) (site : Site) (t : Term Head)
    (e : Error) → IsPoint site → IfSome (info_in setup) (λ info. KeepsOrder {A = A} preserving (block_shapes info site) (Err e)) →
    IfSome (set_up stream setup) (λ s. RefusesBody s site t e) →
    IfSome (set_up stream setup) (λ s. IsNotWritten s preserving site.input site.at t e)
refused_is A stream None preserving site t e at o r = tt
refused_is A stream (Some s) preserving site t e at o r = record {
  operators = site.operators;
  block = site.block;
  at = at;
  why = inr (why e o r);
}
  where
    setting : Setting
    setting = record { info = s.info; stream = stream s.generator }

    why : (e : Error) → KeepsOrder {A = A} preserving (block_shapes s.info site) (Err e) → RefusesBody setting site t e →
        ((e ≡ NoMutationsApplicable) × ((preserving ≡ true) × ¬ (IsInOrder (block_shapes s.info site)))) ⊎ Refuses (term_code setting site t) e
    why NoMutationsApplicable o r = inl (refl, o.refused.0 refl)
    why Memory o r = inr tt
    why CannotUnfold o r = inr (r (λ q. absurd cc))
    why GlobalIndex o r = inr (r (λ q. absurd cc))
    why TooLarge o r = inr (r (λ q. absurd cc))
    why UnknownOperand o r = inr (r (λ q. absurd cc))
    why (UnknownFunction f) o r = inr (r (λ q. absurd cc))
    why (UnknownLocal f) o r = inr (r (λ q. absurd cc))
    why (UnknownGlobal f) o r = inr (r (λ q. absurd cc))
    why (UnknownTable f) o r = inr (r (λ q. absurd cc))
    why (UnknownMemory f) o r = inr (r (λ q. absurd cc))

-- the writer's refusal is passed on
pub passed_on : {R A : Type 0} (stream : R → Stream) (setup : Option (Setup Module R)) (preserving : Bool) (bytes : List ℕ) (point : ℕ)
    (t : Term Head) (e : Error) (answer : Result A ReplaceError) → answer ≡ Err (Write e) →
    IfSome (set_up stream setup) (λ s. IsNotWritten s preserving bytes point t e) →
    IfErr answer (λ x. IfSome (set_up stream setup) (λ s. IsNotReplaced s preserving bytes point t x))
passed_on stream setup preserving bytes point t e answer is h = rw is h
