-- What `write` answers, by what its calls answer.
use Rattle.std.proofs.Common.{◌≡◌, ℕ, ◌<◌, ◌⊎◌, inl, inr, List, [], ◌∷◌, length, map, Bool, true, false, refl, sym, ap, ap₂, ◌∙◌, arith, cond}
use Rattle.std.specs.Prelude.{◌&&◌, not, is_some, option_map, Option, Some, None, Result, Ok, Err, IfSome}
use Rattle.std.specs.Result.{result_map_both}
use Rattle.std.proofs.lemmas.List.{length-map}
use Rattle.given_words.specs.Words.{word_stream}
use Rattle.wasm_code.specs.Instruction.{Instruction}
use Rattle.wasm_code.specs.declared.operator.Operator.{Operator}
use Rattle.mutate_base.specs.Config.{Setup}
use Rattle.wasm_types.specs.Module.{Module}
use Rattle.mutate_base.specs.declared.error.Error.{Error}
use Rattle.mutate_base.specs.declared.error.Error.TheVariants as error
use Rattle.peephole_lang.specs.declared.lang.Head.{Head}
use Rattle.peephole_lang.specs.declared.lang.Lang.{Lang}
use Rattle.peephole_lang.specs.Node.{node_of}
use Rattle.peephole_lang.specs.Term.{Term}
use Rattle.peephole_graphs.specs.declared.shape.Shape.{Shape}
use Rattle.peephole_graphs.specs.declared.dfg.MiniDFG.{MiniDFG}
use Rattle.peephole_terms.specs.declared.encoder.request.ResourceRequest.{ResourceRequest}
use Rattle.peephole_terms.specs.Expansion.{Setting, term_in}
use Rattle.peephole_graphs.specs.Dfg.{graph_of}
use Rattle.peephole_graphs.specs.Faults.{HasNoFault}
use Rattle.peephole_graphs.specs.Forest.{IsInOrder, is_in_order, DecidesTheOrder}
use Rattle.peephole_graphs.specs.GraphOf.{IsGraphOf}
use Rattle.peephole_graphs.specs.Source.{source_of}
use Rattle.peephole_terms.specs.Laws.{OwnTreesAreKept}
use Rattle.peephole_terms.specs.Written.{Site, AppendsBody, KeepsOrder, RefusesBody, site_at, term_code, term_requests, block_shapes, written_block}
use Rattle.peephole_commands.specs.declared.graphs.Refusal.{Refusal}
use Rattle.peephole_commands.specs.declared.graphs.Refusal.TheVariants as refusal
use Rattle.peephole_commands.specs.declared.place.Place.{Place}
use Rattle.peephole_commands.specs.Graphs.{of_graph, site_of, module_in, words_in, IsGraphIn, IsPlaceInBlock}
use Rattle.peephole_commands.specs.Writing.{in_order_alone, Output, output, with_code, with_term, with_nodes, term_output, written_output}
use Rattle.peephole_commands.proofs.Refusals.{shapes_found}
use Rattle.peephole_commands.proofs.Shows.{place_length}
use Rattle.peephole_commands.proofs.Unwritten.{written_nowhere}

-- ---- the test of the order

out_of_order : DecidesTheOrder → (block : List Shape) → is_in_order block ≡ false → ¬ (IsInOrder block)
out_of_order law block h o = let k : is_in_order block ≡ true = (law block).1 o in absurd (cc)

passes : DecidesTheOrder → (preserving : Bool) (block : List Shape) → ((preserving ≡ true) × ¬ (IsInOrder block) → ⊥) →
    (preserving && not (is_in_order block)) ≡ false
passes law false block h = refl
passes law true block h = go (is_in_order block) refl
  where
    go : (b : Bool) → is_in_order block ≡ b → not b ≡ false
    go true e = refl
    go false e = absurd (h (refl, out_of_order law block e))

stops : DecidesTheOrder → (preserving : Bool) (block : List Shape) → (preserving ≡ true) × ¬ (IsInOrder block) →
    (preserving && not (is_in_order block)) ≡ true
stops law false block h = let k = h.0 in cc
stops law true block h = go (is_in_order block) refl
  where
    go : (b : Bool) → is_in_order block ≡ b → not b ≡ true
    go true e = absurd (h.1 ((law block).0 e))
    go false e = refl

abbrev chosen : Bool → Result Output Refusal → Result Output Refusal
chosen stopped answer = cond stopped (Err (refusal.Refused error.NoMutationsApplicable)) answer

-- ---- one body

-- what a configuration is set up with, its words as the generator
abbrev Drawing : Type 0
Drawing = Setup Module (List ℕ)

-- its module and its words, as the definitions read them
abbrev info_in : Option Drawing → Option Module
info_in setup = option_map (λ s. s.info) setup

abbrev under : Option Drawing → Setting
under setup = record { info = module_in (info_in setup); stream = word_stream (words_in (option_map (λ s. s.generator) setup)) }

abbrev found : Option Drawing → Option Setting
found setup = option_map (λ s. let t : Setting = record { info = s.info; stream = word_stream s.generator } in t) setup

abbrev IsForOrder : {A : Type 0} → Option Module → Bool → Site → Result A Error → Type 0
IsForOrder info preserving site r = IfSome info (λ info. KeepsOrder preserving (block_shapes info site) r)

-- the expansion makes the body, or is why it isn't made
abbrev made : Setting → Site → Term Head → Result (List Instruction) Error → Result Output Refusal
made s site t r =
    result_map_both (λ code. with_code site (term_requests s.info site t) (written_block s.info site code)) refusal.Refused r

-- the site by the names of its parts
abbrev named : Place → List ℕ → List (Operator × ℕ) → Site
named p input os = site_at input os p.block.now p.point

pub build_ok : DecidesTheOrder → (A : Type 0) (setup : Option Drawing) (preserving : Bool) (p : Place) (input : List ℕ) (os : List (Operator × ℕ))
    (t : Term Head) (old new : List ℕ) (requests : List ResourceRequest) (x : A) →
    is_some setup ≡ true → input ≡ p.body.now.bytes → os ≡ p.body.now.operators → old ≡ [] →
    IfSome (found setup) (λ s. AppendsBody s (named p input os) t old new) →
    IfSome (info_in setup) (λ info. requests ≡ term_requests info (named p input os) t) →
    IsForOrder (info_in setup) preserving (named p input os) (Ok x) →
    term_output (under setup) preserving (site_of p) t ≡ Ok (output new requests)
build_ok law A None preserving p input os t old new requests x u i e none w a o = cc
build_ok law A (Some own) preserving p input os t old new requests x u i e none w a o =
    let s = under (Some own) in
    let site = site_of p in
    let said = rw (i, e, none) at w in
    let asked = rw e at a in
    let order = rw e at o in
    let pass = passes law preserving (block_shapes s.info site)
    (λ h. let k : ◌≡◌ {A = Result A Error} (Ok x) (Err error.NoMutationsApplicable) = order.refused.1 h in absurd (cc)) in
    ap (λ (b : Bool). chosen b (with_term s site t)) pass
    ∙ (ap (made s site t) said.expands
    ∙ ap₂ (λ (bytes : List ℕ) (requests : List ResourceRequest). let r : Result Output Refusal = Ok (output bytes requests) in r)
    (sym said.appended) (sym asked))

refuses : (s : Setting) (preserving : Bool) (site : Site) (t : Term Head) (e : Error) →
    (preserving && not (is_in_order (block_shapes s.info site))) ≡ false →
    term_code s site t ≡ Err e → term_output s preserving site t ≡ Err (refusal.Refused e)
refuses s preserving site t e pass r = ap (λ (b : Bool). chosen b (with_term s site t)) pass ∙ ap (made s site t) r

pub build_err : DecidesTheOrder → (A : Type 0) (setup : Option Drawing) (preserving : Bool) (p : Place) (input : List ℕ) (os : List (Operator × ℕ))
    (t : Term Head) (e : Error) → is_some setup ≡ true → input ≡ p.body.now.bytes → os ≡ p.body.now.operators →
    IsForOrder {A = A} (info_in setup) preserving (named p input os) (Err e) →
    IfSome (found setup) (λ s. RefusesBody s (named p input os) t e) →
    (refusal.Refused e ≡ refusal.Refused error.Memory) ⊎ (term_output (under setup) preserving (site_of p) t ≡ Err (refusal.Refused e))
build_err law A None preserving p input os t e u i same o r = cc
build_err law A (Some own) preserving p input os t e u i same o r = go e (rw same at o) (rw same at r)
  where
    s : Setting
    s = under (Some own)

    site : Site
    site = site_of p

    pass : (e : Error) → (◌≡◌ {A = Result A Error} (Err e) (Err error.NoMutationsApplicable) → ⊥) →
        IsForOrder {A = A} (Some own.info) preserving (site_of p) (Err e) → (preserving && not (is_in_order (block_shapes own.info (site_of p)))) ≡ false
    pass e other o = passes law preserving (block_shapes own.info (site_of p)) (λ h. other (o.refused.1 h))

    go : (e : Error) → IsForOrder {A = A} (Some own.info) preserving (site_of p) (Err e) → RefusesBody (under (Some own)) (site_of p) t e →
        (refusal.Refused e ≡ refusal.Refused error.Memory)
        ⊎ (term_output (under (Some own)) preserving (site_of p) t ≡ Err (refusal.Refused e))
    go error.NoMutationsApplicable o r =
        inr (ap (λ (b : Bool). chosen b (with_term s site t)) (stops law preserving (block_shapes s.info site) (o.refused.0 refl)))
    go error.Memory o r = inl refl
    go error.CannotUnfold o r = inr (refuses s preserving site t error.CannotUnfold (pass error.CannotUnfold (λ h. cc) o) (r (λ h. cc)))
    go error.GlobalIndex o r = inr (refuses s preserving site t error.GlobalIndex (pass error.GlobalIndex (λ h. cc) o) (r (λ h. cc)))
    go _ o r = absurd (r (λ h. cc))

-- a graph under the configuration's module is one under its module's name
pub graph_under : (under : Option Module) (preserving : Bool) (p : Place) (graph : MiniDFG) (os : List (Operator × ℕ)) →
    is_some under ≡ true → os ≡ p.body.now.operators → IsGraphIn (module_in under) preserving p graph →
    IfSome under (λ info. IsGraphOf (source_of info preserving os p.block.now) (graph_of graph))
graph_under None preserving p graph os u e g = cc
graph_under (Some info) preserving p graph os u e g = rw e g

-- ---- with the nodes or without

abbrev answer_of : Setting → Bool → Place → List Lang → Result Output Refusal
answer_of s preserving p nodes = written_output s preserving (site_of p) (map node_of nodes)

with_graph : HasNoFault → (s : Setting) (preserving : Bool) (p : Place) (graph : MiniDFG) (nodes : List Lang) → IsGraphIn s.info preserving p graph →
    answer_of s preserving p nodes ≡ in_order_alone preserving (block_shapes s.info (site_of p)) (with_nodes s (site_of p) (map node_of nodes))
with_graph fits s preserving p graph nodes g =
    ap (λ (r : Result (List Shape) Refusal). of_graph r (λ block. in_order_alone preserving block (with_nodes s (site_of p) (map node_of nodes))))
    (shapes_found fits s.info preserving p graph g)

-- the term that nodes are
pub some_nodes : HasNoFault → (s : Setting) (preserving : Bool) (p : Place) (graph : MiniDFG) (nodes : List Lang) → IsGraphIn s.info preserving p graph →
    0 < length nodes → answer_of s preserving p nodes ≡ term_output s preserving (site_of p) (term_in nodes)
some_nodes fits s preserving p graph [] g n = absurd (omega arith)
some_nodes fits s preserving p graph (l ∷ ls) g n = with_graph fits s preserving p graph (l ∷ ls) g ∙ rw (length-map (l ∷ ls) node_of)

-- the same block, and another point
abbrev moved : Place → ℕ → Place
moved p at = record { body = p.body; point = at; block = p.block }

-- without nodes: a term for the point behind the block is written nowhere, so that the block's own trees are
pub no_nodes : HasNoFault → OwnTreesAreKept → (s : Setting) (preserving : Bool) (p : Place) (at : ℕ) (graph : MiniDFG) (nodes : List Lang) (t : Term Head) →
    IsPlaceInBlock p → IsGraphIn s.info preserving p graph → length nodes ≡ 0 → at ≡ p.block.now.end →
    answer_of s preserving p nodes ≡ term_output s preserving (site_of (moved p at)) t
no_nodes fits kept s preserving p at graph (x ∷ nodes) t place g n behind = absurd (omega arith)
no_nodes fits kept s preserving p at graph [] t place g n behind =
    let site = site_of (moved p at) in
    let size = place_length p place in
    let last = place.block.last in
    let some = place.block.some in
    let nowhere = written_nowhere s.info site (omega (arith, size, last, some, behind)) in
    let trees = kept s preserving site (graph_of graph) t g (inl nowhere) in
    let answer : List ResourceRequest → List Instruction → Result Output Refusal = λ requests code. Ok (with_code site requests code) in
    with_graph fits s preserving p graph [] g
    ∙ ap (in_order_alone preserving (block_shapes s.info site)) (sym (ap (made s site t) trees.expands ∙ ap₂ answer trees.asks trees.trees))
