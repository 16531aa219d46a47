-- What `show`, `result` and `write` print at the place where they work.
use Rattle.std.proofs.Common.{◌≡◌, ◌≢◌, ◌⊎◌, inl, inr, ℕ, List, [], ◌∷◌, Option, Some, None, Ok, Err, Bool, ap, sym, ◌∙◌}
use Rattle.std.specs.Prelude.{Vec, Result, OnOk, IfErr, IfSome, option_map}
use Rattle.std.proofs.lemmas.Option.{same_Some}
use Rattle.mutate_base.specs.Config.{Config, Setup, info_of}
use Rattle.wasm_types.specs.Module.{Module}
use Rattle.mutate_base.specs.declared.error.Error.TheVariants.{Memory}
use Rattle.wasm_types.specs.declared.types.PrimitiveTypeInfo.{PrimitiveTypeInfo}
use Rattle.peephole_graphs.specs.Block.{BlockRange}
use Rattle.peephole_graphs.specs.declared.dfg.MiniDFG.{MiniDFG}
use Rattle.peephole_terms.specs.Written.{Site}
use Rattle.peephole_script.specs.declared.fault.Fault.{Fault}
use Rattle.peephole_commands.specs.Body.{Contents}
use Rattle.peephole_commands.specs.declared.graphs.Refusal.{Refusal}
use Rattle.peephole_commands.specs.declared.graphs.Refusal.TheVariants as refusal
use Rattle.peephole_commands.specs.declared.place.Place.{Place}
use Rattle.peephole_commands.specs.Commands.{place_in, place_for, working_place, at_working_place, answer_text, refusal_line, result_step}
use Rattle.peephole_commands.specs.Commands.{type_line, analysis_of, Steps, Prints}
use Rattle.peephole_commands.specs.Graphs.{site_of, AnswersAs, IsGraphIn, KeepsTheGraph}
use Rattle.peephole_commands.specs.Results.{result_output}
use Rattle.peephole_commands.specs.State.{SessionState, Reply, KeepsTheBlock, block_in}

-- a reply that leaves the state as it was
abbrev saying : SessionState → List ℕ → Result Reply Fault
saying s line = Ok (record { text = line; next = s })

-- the line that a call made is what is to be said
printed : {A : Type 0} (line : List ℕ) (told : Result Reply Fault) (s : SessionState) (result : Result (Vec ℕ A) Fault) →
    told ≡ saying s line → Prints line result → Steps told s result
printed line told s (Ok text) h p = h ∙ ap (saying s) (sym p)
printed line told s (Err f) h p = inl p

-- the same of a refusal's line, which isn't made for want of memory
refused : {A : Type 0} (r : Refusal) (told : Result Reply Fault) (s : SessionState) (result : Result (Vec ℕ A) Fault) →
    (r ≡ refusal.Refused Memory) ⊎ (told ≡ saying s (refusal_line r)) → Prints (refusal_line r) result → OnOk result (r ≢ refusal.Refused Memory) →
    Steps told s result
refused r told s (Ok text) (inl m) p other = absurd (other m)
refused r told s (Ok text) (inr h) p other = h ∙ ap (saying s) (sym p)
refused r told s (Err f) h p other = inl p

at_place : (s : SessionState) (words : List (List ℕ)) (site : Site) (text : Site → List ℕ) → place_for s.body s.point words ≡ Ok site →
    at_working_place s (working_place s words) text ≡ saying s (text site)
at_place s words site text h = ap (λ (r : Result Site Fault). at_working_place s r text) h

-- ---- what is told of the site is what is printed

result_told : (s : SessionState) (words : List (List ℕ)) (site : Site) (said : Result PrimitiveTypeInfo Refusal) →
    place_for s.body s.point words ≡ Ok site → result_output (analysis_of s) s.preserving site ≡ said →
    result_step s words ≡ saying s (answer_text type_line said)
result_told s words site said h k =
    at_place s words site (λ site. answer_text type_line (result_output (analysis_of s) s.preserving site)) h
    ∙ ap (λ (r : Result PrimitiveTypeInfo Refusal). saying s (answer_text type_line r)) k

pub result_printed : {A : Type 0} (s : SessionState) (words : List (List ℕ)) (site : Site) (told : Result PrimitiveTypeInfo Refusal)
    (result : Result (Vec ℕ A) Fault) → place_for s.body s.point words ≡ Ok site →
    AnswersAs (λ t. t) (result_output (analysis_of s) s.preserving site) told → Prints (answer_text type_line told) result →
    IfErr told (λ r. OnOk result (r ≢ refusal.Refused Memory)) → Steps (result_step s words) s result
result_printed s words site (Ok t) result h k p other = printed _ _ s result (result_told s words site (Ok t) h k) p
result_printed s words site (Err r) result h (inl m) p other = refused r _ s result (inl m) p other
result_printed s words site (Err r) result h (inr k) p other = refused r _ s result (inr (result_told s words site (Err r) h k)) p other

-- a configuration's module is the session's again
pub module_back : (config new : Config Module (List ℕ)) (info back : Module) (words : List ℕ) →
    config.setup ≡ Some (record { info = info; generator = words }) →
    info_of new ≡ info_of config → info_of new ≡ Some back → back ≡ info
module_back config new info back words e same taken = same_Some back info (sym taken ∙ (same ∙ ap module_in_setup e))
  where
    module_in_setup : Option (Setup Module (List ℕ)) → Option Module
    module_in_setup setup = option_map (λ s. s.info) setup

-- ---- the block and the graph that are kept

-- the point's block may be kept
pub keeps_block : (body : Option Contents) (point : Option ℕ) (found : Option BlockRange) → found ≡ block_in body point →
    KeepsTheBlock body point found
keeps_block body point None e = tt
keeps_block body point (Some block) e = sym e

-- a graph that is kept is the place's
pub kept_here : (info : Module) (preserving : Bool) (body : Option Contents) (point : Option ℕ) (words : List (List ℕ)) (p : Place)
    (kept taken : Option MiniDFG) → place_for body point words ≡ Ok (site_of p) → taken ≡ kept →
    KeepsTheGraph info preserving (place_in body point) kept → IfSome taken (IsGraphIn info preserving p)
kept_here info preserving body point [] p None taken h e k = rw e tt
kept_here info preserving body point [] p (Some graph) taken h e k = rw e (rw h at k)
kept_here info preserving body point (word ∷ words) p kept taken h e k = absurd (cc)

-- the place's graph may be kept
pub keeps_here : (info : Module) (preserving : Bool) (body : Option Contents) (point : Option ℕ) (words : List (List ℕ)) (p : Place)
    (graph : MiniDFG) → place_for body point words ≡ Ok (site_of p) → IsGraphIn info preserving p graph →
    KeepsTheGraph info preserving (place_in body point) (Some graph)
keeps_here info preserving body point [] p graph h g = rw h g
keeps_here info preserving body point (word ∷ words) p graph h g = absurd (cc)
