-- A term that stands for a tree is written as the tree's instructions: its expansion draws nothing and asks for nothing.
use Rattle.std.proofs.Common.{◌≡◌, ℕ, ◌+◌, ◌<◌, Bool, true, false, cond, List, [], ◌∷◌, ◌++◌, length, drop, Option, Some, None, Result, Ok, refl, ap, ap₂}
use Rattle.std.proofs.Common.{◌∙◌}
use Rattle.std.specs.Prelude.{nat_lt, slice_get}
use Rattle.std.proofs.lemmas.Bool.{ltb-false}
use Rattle.std.proofs.lemmas.Option.{slice_get_past}
use Rattle.wasm_code.specs.Instruction.{Instruction}
use Rattle.mutate_base.specs.declared.error.Error.{Error}
use Rattle.peephole_lang.specs.declared.lang.Head.{Head}
use Rattle.peephole_lang.specs.declared.lang.Lang.TheVariants.{Undef}
use Rattle.peephole_lang.specs.Lang.{place_of}
use Rattle.peephole_lang.specs.Node.{head_of, instr_of_head}
use Rattle.peephole_lang.specs.Term as term
use Rattle.peephole_lang.specs.Term.{Term, Terms, no_terms, ◌▸◌}
use Rattle.peephole_graphs.specs.Entries.{Graph, entry_tree}
use Rattle.peephole_graphs.specs.GraphOf.{IsGraphOf}
use Rattle.peephole_graphs.specs.Layout.{entry_nodes}
use Rattle.peephole_graphs.specs.Source.{Source}
use Rattle.peephole_graphs.specs.TermOf.{IsTermOf, AreTermsOf}
use Rattle.peephole_graphs.specs.Tree as tree
use Rattle.peephole_graphs.specs.Tree.{Tree, Trees, instructions_of, instructions}
use Rattle.peephole_graphs.proofs.graph.TermOfLemmas.{has_terms_of_trees}
use Rattle.peephole_terms.specs.NodeKind.{NodeKind, NumberType, rowless, kind_found, node_kind, of_instruction, Own}
use Rattle.peephole_terms.specs.Expansion.{draw_words, with_own_requests, requests_of, requests, with_own_draws, draws_of, draws, joined_code, with_own_code}
use Rattle.peephole_terms.specs.Expansion.{expansion_of, expansion}
use Rattle.peephole_terms.specs.Laws.{TreesAreWrittenAsTheyAre}

-- What a term expands to whatever is drawn, and wherever requested globals begin.
pub record IsItself (t : Term Head) (code : List Instruction) : Type 0 where
  pub expands : (n : ℕ) (words : List ℕ) → expansion_of n words t ≡ Ok code
  pub asks : requests_of t ≡ []
  pub takes : draws_of t ≡ []

pub absent_itself : IsItself term.absent []
absent_itself = record { expands = λ n words. refl; asks = refl; takes = refl }

-- The same of a list of terms.
pub record AreThemselves (ts : Terms Head) (code : List Instruction) : Type 0 where
  pub expands : (n : ℕ) (words : List ℕ) → expansion n words ts ≡ Ok code
  pub asks : requests ts ≡ []
  pub takes : draws ts ≡ []

pub none_themselves : AreThemselves no_terms []
none_themselves = record { expands = λ n words. refl; asks = refl; takes = refl }

pub more_themselves : {t : Term Head} {ts : Terms Head} {front back : List Instruction} → IsItself t front → AreThemselves ts back →
    AreThemselves (t ▸ ts) (front ++ back)
more_themselves {t} h k = record {
  expands = λ n words. ap₂ joined_code (h.expands n words) (k.expands (n + length (requests_of t)) (drop (length (draws_of t)) words));
  asks = ap₂ (λ (x y : List NumberType). x ++ y) h.asks k.asks;
  takes = ap₂ (λ (x y : List NumberType). x ++ y) h.takes k.takes;
}

-- a node with an instruction has a row
pub row_kind : (h : Head) (i : Instruction) → instr_of_head h ≡ Some i → node_kind h ≡ Own i
row_kind h i e =
    let past : slice_get rowless h.place ≡ None = slice_get_past rowless h.place (ltb-false h.place 12 (later (nat_lt h.place 12) _ e)) in
    ap (λ (k : Option NodeKind). kind_found k (instr_of_head h)) past ∙ ap of_instruction e
  where
    later : (b : Bool) (more : Option Instruction) → cond b None more ≡ Some i → b ≡ false
    later true more e = absurd cc
    later false more e = refl

-- so it comes behind its children
pub node_itself : (k : NodeKind) (i : Instruction) (kids : Terms Head) (code : List Instruction) → k ≡ Own i → AreThemselves kids code →
    ((n : ℕ) (words : List ℕ) → with_own_code n words k kids (expansion n words kids) ≡ Ok (code ++ i ∷ []))
    × (with_own_requests k (requests kids) ≡ []) × (with_own_draws k (draws kids) ≡ [])
node_itself k i kids code e h = rw e (
  λ n words. ap (λ (r : Result (List Instruction) Error). joined_code r (Ok (i ∷ []))) (h.expands n words),
  ap (λ (x : List NumberType). x ++ []) h.asks,
  ap (λ (x : List NumberType). x ++ []) h.takes,
)

-- an entry operand adds nothing
missing_itself : IsItself (term.node (head_of Undef) no_terms) []
unfolding place_of
missing_itself = record { expands = λ n words. refl; asks = refl; takes = refl }

mutual
  itself : (t : Term Head) (u : Tree) → IsTermOf t u → IsItself t (instructions_of u)
  itself t (tree.entry m) s = rw s missing_itself
  itself term.absent (tree.node i shape operands) s = absurd s
  itself (term.node h kids) (tree.node i shape operands) s =
      let own = node_itself (node_kind h) shape.instr kids (instructions operands) (row_kind h shape.instr s.0) (themselves kids operands s.1) in
      record { expands = own.0; asks = own.1; takes = own.2 }

  themselves : (ts : Terms Head) (us : Trees) → AreTermsOf ts us → AreThemselves ts (instructions us)
  themselves no_terms tree.no_trees s = none_themselves
  themselves no_terms (tree.◌▸◌ u us) s = absurd s
  themselves (t ▸ ts) tree.no_trees s = absurd s
  themselves (t ▸ ts) (tree.◌▸◌ u us) s = more_themselves (itself t u s.0) (themselves ts us s.1)

pub as_they_are : TreesAreWrittenAsTheyAre
as_they_are t u s =
    let own = itself t u s in
    record { expands = λ s. own.expands (length s.info.globals) (draw_words (draws_of t) s.stream).0; asks = own.asks; draws = own.takes }

-- so is the term of an entry of a block's graph
pub entry_itself : (s : Source) (g : Graph) → IsGraphOf s g → (i : ℕ) → i < length g.entries →
    IsItself (term.tree_at (entry_nodes g.entries) i) (instructions_of (entry_tree s g i))
entry_itself s g h i l = itself (term.tree_at (entry_nodes g.entries) i) (entry_tree s g i) (has_terms_of_trees s g h i l)
