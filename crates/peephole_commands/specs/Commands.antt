-- What each command does (this project's rules).
use Rattle.std.specs.Prelude.{◌≡◌, ◌⊎◌, ◌^◌, MatchResult, Vec, ℕ, not, List, [], ◌∷◌, ◌++◌, length, map, codes, decimal, nat_lt, Option}
use Rattle.std.specs.Prelude.{Some, None, Result, Ok, Err, if◌then◌else◌}
use Rattle.std.specs.List.{concat}
use Rattle.std.specs.Result.{result_ok}
use Rattle.hex.specs.Hex.{decode_of, encode_lower}
use Rattle.wasm_code.specs.declared.fault.ReadKind.{ReadKind}
use Rattle.peephole_payloads.specs.declared.term_error.TermError.{TermError}
use Rattle.mutate_base.specs.Error.{error_name}
use Rattle.wasm_types.specs.Types.{type_name}
use Rattle.wasm_types.specs.declared.types.PrimitiveTypeInfo.{PrimitiveTypeInfo}
use Rattle.given_words.specs.Words.{word_stream}
use Rattle.peephole_lang.specs.declared.lang.Head.{Head}
use Rattle.peephole_nodes.specs.Payload.{is_writable}
use Rattle.peephole_lang.specs.Term.{Node}
use Rattle.peephole_lang.specs.Text.{reads}
use Rattle.peephole_analysis.specs.Analysis.{Analysis}
use Rattle.peephole_graphs.specs.Block.{BlockRange, block_at}
use Rattle.peephole_terms.specs.declared.encoder.request.ResourceRequest.{ResourceRequest}
use Rattle.peephole_terms.specs.declared.encoder.request.ResourceRequest.TheVariants.{Global}
use Rattle.peephole_terms.specs.Expansion.{Setting}
use Rattle.peephole_terms.specs.Written.{Site, site_at}
use Rattle.peephole_script.specs.declared.command.Command.{Command}
use Rattle.peephole_script.specs.declared.command.Command.TheVariants as name
use Rattle.peephole_script.specs.declared.fault.Fault.{Fault}
use Rattle.peephole_script.specs.declared.fault.Fault.TheVariants as fault
use Rattle.peephole_script.specs.declared.declarations.Declaration.{Declaration}
use Rattle.peephole_commands.specs.declared.graphs.Refusal.{Refusal}
use Rattle.peephole_commands.specs.declared.graphs.Refusal.TheVariants as refusal
use Rattle.peephole_commands.specs.declared.place.Place.{Place}
use Rattle.peephole_script.specs.Text.{is_text, words_of, number_of}
use Rattle.peephole_script.specs.Arguments.{type_of, is_yes}
use Rattle.peephole_script.specs.Command.{command_of}
use Rattle.peephole_commands.specs.Body.{Contents, body_of}
use Rattle.peephole_script.specs.Declarations.{with_declaration}
use Rattle.peephole_commands.specs.State.{SessionState, Reply}
use Rattle.peephole_commands.specs.Arguments.{only_word, named_children}
use Rattle.peephole_commands.specs.Graphs.{site_of}
use Rattle.peephole_commands.specs.Writing.{Output, written_output}
use Rattle.peephole_commands.specs.Show.{show_output}
use Rattle.peephole_commands.specs.Results.{result_output}

-- a line that writes nothing
abbrev pub quiet : SessionState → Result Reply Fault
quiet s = Ok (record { text = []; next = s })

-- what comes of an argument that may not be what the command wants
abbrev pub reply_with_argument : {A : Type 0} → Option A → (A → Result Reply Fault) → Result Reply Fault
reply_with_argument None f = Err fault.BadArgument
reply_with_argument (Some x) f = f x

-- the module's lines
abbrev pub declare_step : Declaration → SessionState → List (List ℕ) → Result Reply Fault
declare_step declaration s words = reply_with_argument (with_declaration declaration s.info words) (λ info. quiet (record s { info = info }))

-- `local T`: a local of that type
abbrev pub local_step : SessionState → List (List ℕ) → Result Reply Fault
local_step s words = reply_with_argument (only_word type_of words) (λ t. quiet (record s { locals = s.locals ++ t ∷ [] }))

-- `preserve yes|no`: the mode
abbrev pub preserve_step : SessionState → List (List ℕ) → Result Reply Fault
preserve_step s words = reply_with_argument (only_word is_yes words) (λ preserving. quiet (record s { preserving = preserving }))

-- `word N`: a further word to be drawn
abbrev pub draw_step : SessionState → List (List ℕ) → Result Reply Fault
draw_step s words = reply_with_argument (only_word number_of words) (λ n. quiet (record s { words = s.words ++ n ∷ [] }))

-- `body HEX*`: the words joined are the body, in hexadecimal digits; point and nodes are cleared
abbrev pub body_read : SessionState → Result Contents ReadKind → Result Reply Fault
body_read s (Ok body) = quiet (record s { body = Some body; point = None; nodes = [] })
body_read s (Err kind) = Err (fault.Read kind)

abbrev pub body_step : SessionState → List (List ℕ) → Result Reply Fault
body_step s words = reply_with_argument (result_ok (decode_of (concat words))) (λ bytes. body_read s (body_of bytes))

-- `at N`: the operator N is the point, whose block is told; the nodes are cleared
abbrev pub block_line : Option BlockRange → List ℕ
block_line None = codes "no block\n"
block_line (Some block) = codes "block " ++ (decimal block.start ++ (codes ".." ++ (decimal block.end ++ codes "\n")))

abbrev pub at_body : SessionState → ℕ → Option Contents → Result Reply Fault
at_body s n None = Err fault.NoBody
at_body s n (Some body) =
    if nat_lt n (length body.operators)
    then Ok (record { text = block_line (block_at body.operators n); next = record s { point = Some n; nodes = [] } })
    else Err fault.OutOfRange

abbrev pub at_step : SessionState → List (List ℕ) → Result Reply Fault
at_step s words = reply_with_argument (only_word number_of words) (λ n. at_body s n s.body)

-- `node TEXT ID*`: the text with earlier nodes as children is the next node of the term, where it can be written
abbrev pub node_added : SessionState → Node Head → Result Reply Fault
node_added s node =
    if not (is_writable node.head.payload) then Err fault.Unwritable
    else if nat_lt (length s.nodes) (2 ^ 32) then quiet (record s { nodes = s.nodes ++ node ∷ [] })
    else Err fault.TooLarge

abbrev pub node_read : SessionState → List ℕ → Result Head TermError → Result Reply Fault
node_read s children (Ok head) = node_added s (record { head = head; children = children })
node_read s children (Err e) = Err (fault.Term e)

abbrev pub node_with : SessionState → List ℕ → Result (List ℕ) Fault → Result Reply Fault
node_with s text (Ok children) = node_read s children (reads text (length children))
node_with s text (Err f) = Err f

abbrev pub node_step : SessionState → List (List ℕ) → Result Reply Fault
node_step s [] = Err fault.BadArgument
node_step s (text ∷ words) = node_with s text (named_children (length s.nodes) words)

-- where `show`, `result` and `write` work, which take no words: the body, the point and its block
abbrev pub place_at : Contents → ℕ → Option BlockRange → Result Site Fault
place_at body point None = Err fault.NoBlock
place_at body point (Some block) = Ok (site_at body.bytes body.operators block point)

abbrev pub place_in : Option Contents → Option ℕ → Result Site Fault
place_in None point = Err fault.NoBlock
place_in (Some body) None = Err fault.NoBlock
place_in (Some body) (Some point) = place_at body point (block_at body.operators point)

abbrev pub place_for : Option Contents → Option ℕ → List (List ℕ) → Result Site Fault
place_for body point [] = place_in body point
place_for body point _ = Err fault.BadArgument

abbrev pub working_place : SessionState → List (List ℕ) → Result Site Fault
working_place s words = place_for s.body s.point words

abbrev pub at_working_place : SessionState → Result Site Fault → (Site → List ℕ) → Result Reply Fault
at_working_place s (Ok site) text = Ok (record { text = text site; next = s })
at_working_place s (Err f) text = Err f

-- what is said where a call refused, or there is no graph
abbrev pub refusal_line : Refusal → List ℕ
refusal_line refusal.NoGraph = codes "no graph\n"
refusal_line (refusal.Refused e) = codes "refused " ++ (error_name e ++ codes "\n")

abbrev pub answer_text : {A : Type 0} → (A → List ℕ) → Result A Refusal → List ℕ
answer_text text (Ok answer) = text answer
answer_text text (Err r) = refusal_line r

-- `show`: the forest, and two answers
abbrev pub show_step : SessionState → List (List ℕ) → Result Reply Fault
show_step s words = at_working_place s (working_place s words) (λ site.
    answer_text (λ text. text) (show_output s.info s.preserving site))

-- `result`: the type of the result of the operator at the point
abbrev pub type_line : PrimitiveTypeInfo → List ℕ
type_line t = codes "result " ++ (type_name t ++ codes "\n")

-- what types are read from
abbrev pub analysis_of : SessionState → Analysis
analysis_of s = record { info = s.info; locals = s.locals }

abbrev pub result_step : SessionState → List (List ℕ) → Result Reply Fault
result_step s words = at_working_place s (working_place s words) (λ site.
    answer_text type_line (result_output (analysis_of s) s.preserving site))

-- `write`: the body with the term, then the globals that it asks for
abbrev pub bytes_line : List ℕ → List ℕ
bytes_line bytes = codes "bytes " ++ (encode_lower bytes ++ codes "\n")

abbrev pub global_line : ResourceRequest → List ℕ
global_line (Global t mutable shared) = codes "global " ++ (type_name t ++ codes "\n")

abbrev pub output_lines : Output → List ℕ
output_lines o = bytes_line o.bytes ++ concat (map global_line o.requests)

-- what it goes by: each time the words from the first one on
abbrev pub state_setting : SessionState → Setting
state_setting s = record { info = s.info; stream = word_stream s.words }

abbrev pub write_step : SessionState → List (List ℕ) → Result Reply Fault
write_step s words = at_working_place s (working_place s words) (λ site.
    answer_text output_lines (written_output (state_setting s) s.preserving site s.nodes))

-- the commands
abbrev pub command_step : Command → SessionState → List (List ℕ) → Result Reply Fault
command_step name.Body = body_step
command_step name.At = at_step
command_step name.Node = node_step
command_step name.Write = write_step
command_step name.Show = show_step
command_step name.Result = result_step
command_step name.Local = local_step
command_step name.Preserve = preserve_step
command_step name.Word = draw_step
command_step (name.Declare declaration) = declare_step declaration

abbrev pub run_command : SessionState → Option Command → List (List ℕ) → Result Reply Fault
run_command s None arguments = Err fault.UnknownCommand
run_command s (Some command) arguments = command_step command s arguments

-- a line's words, the command's name first; a line without words does nothing
abbrev pub words_step : SessionState → List (List ℕ) → Result Reply Fault
words_step s [] = quiet s
words_step s (word ∷ arguments) = run_command s (command_of word) arguments

-- a line
abbrev pub step_line : SessionState → List ℕ → Result Reply Fault
step_line s line = if is_text line then words_step s (words_of line) else Err fault.Text

-- a call that runs a step answered what the step says, or that no memory was left
abbrev pub Steps : {A : Type 0} → Result Reply Fault → SessionState → Result (Vec ℕ A) Fault → Type 0
Steps answer new result = MatchResult result (λ text. answer ≡ Ok (record { text = text.items; next = new })) (λ f. (f ≡ fault.Memory) ⊎ (answer ≡ Err f))

-- a call found the place, or answered the fault
abbrev pub Finds : Result Site Fault → Result Place Fault → Type 0
Finds said result = MatchResult result (λ p. said ≡ Ok (site_of p)) (λ f. said ≡ Err f)

-- a call made this line, or no memory was left
abbrev pub Prints : {A : Type 0} → List ℕ → Result (Vec ℕ A) Fault → Type 0
Prints line result = MatchResult result (λ text. text.items ≡ line) (λ f. f ≡ fault.Memory)
