-- No step and no command is at fault for want of memory.
use Rattle.std.proofs.Common.{◌≡◌, ◌≢◌, ◌⊎◌, inl, inr, ℕ, List, [], ◌∷◌, length, Option, Some, None, Ok, Err, Bool, true, false, refl, ap, subst}
use Rattle.std.specs.Prelude.{◌^◌, ◌+◌, ◌-◌, reverse, not, nat_lt, Result, if◌then◌else◌}
use Rattle.std.specs.List.{concat, list_all}
use Rattle.std.specs.Result.{result_ok, result_map_both}
use Rattle.hex.specs.Hex.{decode_of}
use Rattle.wasm_code.specs.Body.{IsFault}
use Rattle.wasm_code.specs.Reader.{body_at}
use Rattle.wasm_code.specs.Table.{row_info_of}
use Rattle.wasm_code.specs.declared.fault.ReadKind.{ReadKind}
use Rattle.wasm_code.specs.declared.fault.ReadKind.TheVariants as kinds
use Rattle.wasm_code.specs.declared.immediate.Imm.{Imm}
use Rattle.wasm_code.specs.declared.operator.Operator.{Operator}
use Rattle.wasm_code.specs.declared.table.ResultKind.{ResultKind}
use Rattle.wasm_code.specs.declared.table.ResultKind.TheVariants as by
use Rattle.wasm_code.specs.declared.table.RowInfo.{RowInfo}
use Rattle.wasm_types.specs.Module.{function_type}
use Rattle.mutate_base.specs.declared.error.Error.{Error}
use Rattle.mutate_base.specs.declared.error.Error.TheVariants as error
use Rattle.peephole_payloads.specs.declared.term_error.TermError.{TermError}
use Rattle.wasm_types.specs.declared.types.PrimitiveTypeInfo.{PrimitiveTypeInfo}
use Rattle.wasm_types.specs.declared.types.TypeInfo.{TypeInfo}
use Rattle.wasm_types.specs.declared.types.TypeInfo.TheVariants.{Func, Other}
use Rattle.peephole_lang.specs.declared.lang.Head.{Head}
use Rattle.peephole_lang.specs.Term.{Term, Node, tree_at}
use Rattle.peephole_lang.specs.Text.{reads}
use Rattle.peephole_nodes.specs.Payload.{is_writable}
use Rattle.peephole_analysis.specs.Analysis.{Analysis, or_refusal, one_result, call_type, immediate_index, result_type, row_type}
use Rattle.peephole_graphs.specs.declared.shape.Shape.{Shape}
use Rattle.peephole_graphs.specs.Block.{BlockRange, block_at}
use Rattle.peephole_graphs.specs.Faults as graph
use Rattle.peephole_graphs.specs.Tree as tree
use Rattle.peephole_graphs.specs.Tree.{Tree}
use Rattle.peephole_terms.specs.Expansion.{Setting, expansion_in}
use Rattle.peephole_terms.specs.Laws.{RefusesByName}
use Rattle.peephole_terms.specs.Written.{Site, is_written, term_code, term_requests, written_block, block_operators}
use Rattle.peephole_script.specs.declared.command.Command.{Command}
use Rattle.peephole_script.specs.declared.command.Command.TheVariants as name
use Rattle.peephole_script.specs.declared.fault.Fault.{Fault}
use Rattle.peephole_script.specs.declared.fault.Fault.TheVariants as fault
use Rattle.peephole_script.specs.Arguments.{all_of, type_of, is_yes}
use Rattle.peephole_script.specs.Command.{command_of}
use Rattle.peephole_script.specs.Declarations.{with_declaration}
use Rattle.peephole_script.specs.Text.{is_text, words_of, number_of}
use Rattle.peephole_commands.specs.declared.graphs.Refusal.{Refusal}
use Rattle.peephole_commands.specs.declared.graphs.Refusal.TheVariants as refusal
use Rattle.peephole_commands.specs.Arguments.{only_word, all_below}
use Rattle.peephole_commands.specs.Body.{Contents, contents_with_operators, body_of}
use Rattle.peephole_commands.specs.Commands.{reply_with_argument, body_read, at_body, node_read, node_with, node_step, place_at, place_in}
use Rattle.peephole_commands.specs.Commands.{working_place, at_working_place, command_step, run_command, words_step, step_line}
use Rattle.peephole_commands.specs.Graphs.{refusal_of, of_graph}
use Rattle.peephole_commands.specs.Laws.{IsOfNoMemory, NeverFaultsForMemory, NeverRefusesForMemory}
use Rattle.peephole_commands.specs.Results.{tree_type, first_tree_type}
use Rattle.peephole_commands.specs.State.{SessionState, Reply}
use Rattle.peephole_commands.specs.Writing.{with_code, with_nodes, with_term}

-- ---- faults

abbrev fault_in : {A : Type 0} → Result A Fault → Fault
fault_in (Ok x) = fault.Text
fault_in (Err f) = f

-- a step's answer is no fault for want of memory
abbrev Sound : Result Reply Fault → Type 0
Sound (Ok reply) = Unit {0}
Sound (Err f) = IsOfNoMemory f

sound_is : (r : Result Reply Fault) → Sound r → (f : Fault) → r ≡ Err f → IsOfNoMemory f
sound_is (Ok reply) h f e = absurd (cc)
sound_is (Err g) h f e = subst IsOfNoMemory (ap fault_in e) h

either : (b : Bool) (x y : Result Reply Fault) → Sound x → Sound y → Sound (if b then x else y)
either true x y h k = h
either false x y h k = k

argument_sound : {A : Type 0} (o : Option A) (k : A → Result Reply Fault) → ((x : A) → Sound (k x)) → Sound (reply_with_argument o k)
argument_sound None k h = (λ e. cc, λ e. cc)
argument_sound (Some x) k h = h x

abbrev HasNoMemoryFault : Type 0
HasNoMemoryFault = (start : ℕ) (text : List ℕ) (kind : ReadKind) (offset : ℕ) → body_at start text ≡ Err (kind, offset) →
    IsFault start (start + length text) text kind offset × (kind ≢ kinds.Memory)

abbrev read_kind : Fault → ReadKind
read_kind (fault.Read kind) = kind
read_kind _ = kinds.NoEnd

body_sound : HasNoMemoryFault → (s : SessionState) (bytes : List ℕ) → Sound (body_read s (body_of bytes))
body_sound law s bytes = go (body_at 0 bytes) refl
  where
    go : (r : Result (List (Operator × ℕ)) (ReadKind × ℕ)) → body_at 0 bytes ≡ r → Sound (body_read s (contents_with_operators bytes r))
    go (Ok xs) is = tt
    go (Err why) is = (λ e. cc, λ e. (law 0 bytes why.0 why.1 is).1 (ap read_kind e))

at_sound : (s : SessionState) (n : ℕ) (body : Option Contents) → Sound (at_body s n body)
at_sound s n None = (λ e. cc, λ e. cc)
at_sound s n (Some body) = either (nat_lt n (length body.operators)) _ (Err fault.OutOfRange) tt (λ e. cc, λ e. cc)

read_sound : (s : SessionState) (children : List ℕ) (r : Result Head TermError) → Sound (node_read s children r)
read_sound s children (Ok head) =
    either (not (is_writable head.payload)) (Err fault.Unwritable) _ (λ e. cc, λ e. cc)
    (either (nat_lt (length s.nodes) (2 ^ 32)) _ (Err fault.TooLarge) tt (λ e. cc, λ e. cc))
read_sound s children (Err why) = (λ e. cc, λ e. cc)

below_sound : (count : ℕ) (o : Option (List ℕ)) (s : SessionState) (text : List ℕ) → Sound (node_with s text (all_below count o))
below_sound count None s text = (λ e. cc, λ e. cc)
below_sound count (Some children) s text = go (list_all (λ n. nat_lt n count) children)
  where
    go : (b : Bool) → Sound (node_with s text (if b then Ok children else Err fault.BadChild))
    go true = read_sound s children (reads text (length children))
    go false = (λ e. cc, λ e. cc)

node_sound : (s : SessionState) (words : List (List ℕ)) → Sound (node_step s words)
node_sound s [] = (λ e. cc, λ e. cc)
node_sound s (text ∷ words) = below_sound (length s.nodes) (all_of number_of words) s text

place_sound : (s : SessionState) (body : Option Contents) (point : Option ℕ) (text : Site → List ℕ) →
    Sound (at_working_place s (place_in body point) text)
place_sound s None point text = (λ e. cc, λ e. cc)
place_sound s (Some body) None text = (λ e. cc, λ e. cc)
place_sound s (Some body) (Some point) text = go (block_at body.operators point)
  where
    go : (b : Option BlockRange) → Sound (at_working_place s (place_at body point b) text)
    go None = (λ e. cc, λ e. cc)
    go (Some block) = tt

working_sound : (s : SessionState) (words : List (List ℕ)) (text : Site → List ℕ) →
    Sound (at_working_place s (working_place s words) text)
working_sound s [] text = place_sound s s.body s.point text
working_sound s (word ∷ words) text = (λ e. cc, λ e. cc)

command_sound : HasNoMemoryFault → (c : Command) (s : SessionState) (words : List (List ℕ)) → Sound (command_step c s words)
command_sound law name.Body s words = argument_sound (result_ok (decode_of (concat words))) _ (body_sound law s)
command_sound law name.At s words = argument_sound (only_word number_of words) _ (λ n. at_sound s n s.body)
command_sound law name.Node s words = node_sound s words
command_sound law name.Write s words = working_sound s words _
command_sound law name.Show s words = working_sound s words _
command_sound law name.Result s words = working_sound s words _
command_sound law name.Local s words = argument_sound (only_word type_of words) _ (λ t. tt)
command_sound law name.Preserve s words = argument_sound (only_word is_yes words) _ (λ b. tt)
command_sound law name.Word s words = argument_sound (only_word number_of words) _ (λ n. tt)
command_sound law (name.Declare declaration) s words = argument_sound (with_declaration declaration s.info words) _ (λ info. tt)

words_sound : HasNoMemoryFault → (s : SessionState) (words : List (List ℕ)) → Sound (words_step s words)
words_sound law s [] = tt
words_sound law s (word ∷ words) = go (command_of word)
  where
    go : (c : Option Command) → Sound (run_command s c words)
    go None = (λ e. cc, λ e. cc)
    go (Some c) = command_sound law c s words

pub never_faults : HasNoMemoryFault → NeverFaultsForMemory
never_faults law s line =
    sound_is (step_line s line) (either (is_text line) _ (Err fault.Text) (words_sound law s (words_of line)) (λ e. cc, λ e. cc))

-- ---- refusals

abbrev Refuses : {A : Type 0} → Result A Error → Type 0
Refuses r = r ≢ Err error.Memory

one_never : (ts : List PrimitiveTypeInfo) → Refuses (one_result ts)
one_never [] e = cc
one_never (t ∷ []) e = cc
one_never (t ∷ u ∷ ts) e = cc

call_never : (i : ℕ) (t : Option TypeInfo) → Refuses (call_type i t)
call_never i None e = cc
call_never i (Some Other) e = cc
call_never i (Some (Func t)) e = one_never t.returns e

abbrev error_in : Result PrimitiveTypeInfo Error → Error
error_in (Ok t) = error.TooLarge
error_in (Err e) = e

or_never : (t : Option PrimitiveTypeInfo) (why : Error) → why ≢ error.Memory → Refuses (or_refusal t why)
or_never (Some t) why h e = cc
or_never None why h e = h (ap error_in e)

type_never : (a : Analysis) (first : Option PrimitiveTypeInfo) (i : Imm) (k : ResultKind) → Refuses (result_type a first i k)
type_never a first i by.Nothing e = cc
type_never a first i (by.Fixed t) e = cc
type_never a first i by.First e = or_never first error.UnknownOperand (λ h. cc) e
type_never a first i by.Immediate e = cc
type_never a first i by.Local e = or_never _ (error.UnknownLocal (immediate_index i)) (λ h. cc) e
type_never a first i by.Global e = or_never _ (error.UnknownGlobal (immediate_index i)) (λ h. cc) e
type_never a first i by.Call e = call_never (immediate_index i) (function_type a.info (immediate_index i)) e
type_never a first i by.Memory e = or_never _ (error.UnknownMemory (immediate_index i)) (λ h. cc) e
type_never a first i by.Table e = or_never _ (error.UnknownTable (immediate_index i)) (λ h. cc) e
type_never a first i by.Element e = or_never _ (error.UnknownTable (immediate_index i)) (λ h. cc) e

row_never : (a : Analysis) (first : Option PrimitiveTypeInfo) (i : Imm) (row : Option RowInfo) → Refuses (row_type a first i row)
row_never a first i None e = cc
row_never a first i (Some row) e = type_never a first i row.result e

tree_never : (a : Analysis) (t : Tree) → Refuses (tree_type a t)
tree_never a (tree.entry m) e = cc
tree_never a (tree.node i s kids) e = row_never a (first_tree_type a kids) s.instr.imm (row_info_of s.instr.row) e

-- ---- commands

abbrev Tells : {A : Type 0} → Result A Refusal → Type 0
Tells r = r ≢ Err (refusal.Refused error.Memory)

abbrev refused_error : Refusal → Error
refused_error refusal.NoGraph = error.TooLarge
refused_error (refusal.Refused e) = e

abbrev refusal_in : {A : Type 0} → Result A Refusal → Refusal
refusal_in (Ok x) = refusal.NoGraph
refusal_in (Err r) = r

mapped_never : {A B : Type 0} (f : A → B) (r : Result A Error) → Refuses r → Tells (result_map_both f refusal.Refused r)
mapped_never f (Ok x) p e = cc
mapped_never f (Err why) p e = p (ap (λ (r : Refusal). Err (refused_error r)) (ap refusal_in e))

fault_never : (f : graph.Fault) → refusal_of f ≢ refusal.Refused error.Memory
fault_never graph.held_by_none e = cc
fault_never (graph.calls_unknown function) e = cc
fault_never graph.too_large e = cc

shapes_never : (o : Option graph.Fault) (block : List Shape) → Tells (result_map_both (λ (b : List Shape). b) refusal_of (graph.unless o block))
shapes_never None block e = cc
shapes_never (Some f) block e = fault_never f (ap refusal_in e)

of_graph_never : {A : Type 0} (r : Result (List Shape) Refusal) (k : List Shape → Result A Refusal) → Tells r → ((block : List Shape) → Tells (k block)) →
    Tells (of_graph r k)
of_graph_never (Ok block) k p q e = q block e
of_graph_never (Err why) k p q e = p (ap (λ (r : Refusal). Err r) (ap refusal_in e))

term_never : RefusesByName → (s : Setting) (site : Site) (t : Term Head) → Refuses (term_code s site t)
term_never law s site t = go (is_written s.info site)
  where
    other : (error.Memory ≡ error.CannotUnfold) ⊎ (error.Memory ≡ error.GlobalIndex) → ⊥
    other (inl e) = cc
    other (inr e) = cc

    go : (b : Bool) → Refuses (if b then expansion_in s t else Ok [])
    go true e = other (law s t error.Memory e)
    go false e = cc

whole_never : RefusesByName → (s : Setting) (site : Site) (t : Term Head) → Tells (with_term s site t)
whole_never law s site t =
    mapped_never (λ code. with_code site (term_requests s.info site t) (written_block s.info site code)) (term_code s site t) (term_never law s site t)

nodes_never : RefusesByName → (s : Setting) (site : Site) (nodes : List (Node Head)) → Tells (with_nodes s site nodes)
nodes_never law s site [] e = cc
nodes_never law s site (n ∷ nodes) e = whole_never law s site (tree_at (reverse (n ∷ nodes)) (length (n ∷ nodes) - 1)) e

order_never : {A : Type 0} (stopped : Bool) (answer : Result A Refusal) → Tells answer →
    Tells (if stopped then Err (refusal.Refused error.NoMutationsApplicable) else answer)
order_never true answer p e = cc
order_never false answer p e = p e

pub never_refuses : RefusesByName → NeverRefusesForMemory
never_refuses law = record {
  show = λ info preserving site. of_graph_never _ _ (shapes_never (graph.block_fault_of info preserving (block_operators site)) _) (λ block e. cc);
  result = λ a preserving site. of_graph_never _ _ (shapes_never (graph.block_fault_of a.info preserving (block_operators site)) _)
      (λ block. mapped_never _ _ (tree_never a _));
  write = λ s preserving site nodes.
      of_graph_never _ _ (shapes_never (graph.block_fault_of s.info preserving (block_operators site)) _)
      (λ block. order_never _ _ (nodes_never law s site nodes));
}
