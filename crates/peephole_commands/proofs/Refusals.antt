-- What making a graph refused is what the block's operators say, by the laws on their faults.
use Rattle.std.proofs.Common.{◌≡◌, ℕ, ◌⊎◌, inl, inr, List, Bool, Option, Some, Ok, Err, refl, ap}
use Rattle.std.specs.Result.{result_map_both}
use Rattle.wasm_code.specs.declared.operator.Operator.{Operator}
use Rattle.wasm_types.specs.Module.{Module}
use Rattle.mutate_base.specs.declared.error.Error.{Error}
use Rattle.mutate_base.specs.declared.error.Error.TheVariants as error
use Rattle.peephole_graphs.specs.declared.dfg.MiniDFG.{MiniDFG}
use Rattle.peephole_graphs.specs.Shape.{shapes_of_block}
use Rattle.peephole_graphs.specs.Faults.{Fault, held_by_none, calls_unknown, too_large, block_fault_of, unless, HasNoFault, FindsNoGraph}
use Rattle.peephole_graphs.specs.Faults.{FindsUnknown, FindsTooLarge}
use Rattle.peephole_graphs.specs.GraphOf.{HasNoGraph, IsRefused}
use Rattle.peephole_commands.specs.declared.graphs.Refusal.TheVariants as refusal
use Rattle.peephole_commands.specs.declared.place.Place.{Place}
use Rattle.peephole_terms.specs.Written.{Site, source_at, block_operators, block_shapes}
use Rattle.peephole_commands.specs.Graphs.{refusal_of, shapes_or_refusal, site_of, IsGraphIn}

-- a place whose block has a graph
pub shapes_found : HasNoFault → (info : Module) (preserving : Bool) (p : Place) (graph : MiniDFG) → IsGraphIn info preserving p graph →
    shapes_or_refusal info preserving (site_of p) ≡ Ok (block_shapes info (site_of p))
shapes_found law info preserving p graph g =
    let os = block_operators (site_of p) in
    ap (λ (f : Option Fault). result_map_both (λ block. block) refusal_of (unless f (shapes_of_block info os))) ((law info preserving os).1 (g.fit, g.small))

at_fault : (info : Module) (preserving : Bool) (site : Site) (f : Fault) → block_fault_of info preserving (block_operators site)
    ≡ Some f →
    shapes_or_refusal info preserving site ≡ Err (refusal_of f)
at_fault info preserving site f e =
    ap (λ (f : Option Fault). result_map_both (λ block. block) refusal_of (unless f (shapes_of_block info (block_operators site)))) e

-- no graph
pub none_for : FindsNoGraph → (info : Module) (preserving : Bool) (site : Site) →
    HasNoGraph (source_at info preserving site) → shapes_or_refusal info preserving site ≡ Err refusal.NoGraph
none_for law info preserving site h = at_fault info preserving site held_by_none ((law (source_at info preserving site)).1 h)

-- a call that refused
pub refused_for : FindsUnknown → FindsTooLarge → (info : Module) (preserving : Bool) (site : Site) (e : Error) →
    IsRefused (source_at info preserving site) e →
    (refusal.Refused e ≡ refusal.Refused error.Memory) ⊎ (shapes_or_refusal info preserving site ≡ Err (refusal.Refused e))
refused_for unknown large info preserving site error.Memory h = inl refl
refused_for unknown large info preserving site error.TooLarge h =
    inr (at_fault info preserving site too_large ((large (source_at info preserving site)).1 h))
refused_for unknown large info preserving site (error.UnknownFunction function) h =
    inr (at_fault info preserving site (calls_unknown function) ((unknown (source_at info preserving site) function).1 h))
refused_for unknown large info preserving site _ h = absurd h

-- the same whatever the mode and the operators are called
pub called : (P : Bool → List (Operator × ℕ) → Type 0) {preserving mode : Bool} {all os : List (Operator × ℕ)} →
    mode ≡ preserving → os ≡ all → P mode os → P preserving all
called P m e h = rw (m, e) at h
