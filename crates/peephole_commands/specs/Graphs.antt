-- Whether a block has a graph under a module and a mode, and what is refused where it has none (this project's rules).
use Rattle.std.specs.Prelude.{◌≡◌, ◌⊎◌, ℕ, ◌<◌, MatchResult, Bool, List, [], length, Option, Some, None, Result, Ok, Err, IfOk, IfSome}
use Rattle.std.specs.Result.{result_map_both}
use Rattle.mutate_base.specs.declared.error.Error.TheVariants.{Memory, TooLarge, UnknownFunction}
use Rattle.mutate_base.specs.Config.{Config, info_of, generator_of}
use Rattle.wasm_types.specs.Module.{Module, module_of}
use Rattle.given_words.specs.Words.{word_stream}
use Rattle.peephole_graphs.specs.Block.{IsBlockOf}
use Rattle.peephole_graphs.specs.declared.shape.Shape.{Shape}
use Rattle.peephole_graphs.specs.declared.dfg.MiniDFG.{MiniDFG}
use Rattle.peephole_terms.specs.Expansion.{Setting}
use Rattle.peephole_terms.specs.Written.{Site, site_at, source_at, block_operators}
use Rattle.peephole_graphs.specs.Dfg.{graph_of}
use Rattle.peephole_graphs.specs.Faults.{Fault, held_by_none, calls_unknown, too_large, shapes_or_fault}
use Rattle.peephole_graphs.specs.GraphOf.{IsGraphOf}
use Rattle.peephole_commands.specs.declared.graphs.Refusal.{Refusal}
use Rattle.peephole_commands.specs.declared.graphs.Refusal.TheVariants as refusal
use Rattle.peephole_commands.specs.declared.place.Place.{Place}

-- why a command has no answer where an operator is at fault
abbrev pub refusal_of : Fault → Refusal
refusal_of held_by_none = refusal.NoGraph
refusal_of (calls_unknown function) = refusal.Refused (UnknownFunction function)
refusal_of too_large = refusal.Refused TooLarge

-- the shapes of a block's operators, the last one first, where a graph holds them
abbrev pub shapes_or_refusal : Module → Bool → Site → Result (List Shape) Refusal
shapes_or_refusal info preserving site = result_map_both (λ block. block) refusal_of (shapes_or_fault info preserving (block_operators site))

-- what is said of a block by its shapes, where it has a graph
abbrev pub of_graph : {A : Type 0} → Result (List Shape) Refusal → (List Shape → Result A Refusal) → Result A Refusal
of_graph (Ok block) f = f block
of_graph (Err r) f = Err r

-- ---- what calls are given and answer

-- the point is an operator of the body, and the block is its
pub record IsPlaceInBlock (p : Place) : Type 0 where
  pub within : p.point < length p.body.now.operators
  pub block : IsBlockOf p.body.now.operators p.point p.block.now.start p.block.now.end

-- what it says of a body to be written
abbrev pub site_of : Place → Site
site_of p = site_at p.body.now.bytes p.body.now.operators p.block.now p.point

-- the module of a configuration that is set up
abbrev pub module_in : Option Module → Module
module_in None = module_of []
module_in (Some info) = info

-- the words of its generator
abbrev pub words_in : Option (List ℕ) → List ℕ
words_in None = []
words_in (Some words) = words

-- what it writes terms by
abbrev pub setting_in : Config Module (List ℕ) → Setting
setting_in config = record { info = module_in (info_of config); stream = word_stream (words_in (generator_of config)) }

-- the graph is the block's in a module and a mode
abbrev pub IsGraphIn : Module → Bool → Place → MiniDFG → Type 0
IsGraphIn info preserving p graph =
    IsGraphOf (source_at info preserving (site_of p)) (graph_of graph)

-- under a configuration
abbrev pub IsGraphAt : {R : Type 0} → Config Module R → Place → MiniDFG → Type 0
IsGraphAt config = IsGraphIn (module_in (info_of config)) config.preserving

-- a graph that is kept is that of the site where commands work
abbrev pub KeepsTheGraph : {E : Type 0} → Module → Bool → Result Site E → Option MiniDFG → Type 0
KeepsTheGraph info preserving place kept =
    IfSome kept (λ graph. IfOk place (λ site. IsGraphOf (source_at info preserving site) (graph_of graph)))

-- a call answered what is said, which `read` reads of its answer, or memory was refused
abbrev pub AnswersAs : {A B : Type 0} → (A → B) → Result B Refusal → Result A Refusal → Type 0
AnswersAs read said result = MatchResult result (λ x. said ≡ Ok (read x)) (λ r. (r ≡ refusal.Refused Memory) ⊎ (said ≡ Err r))
