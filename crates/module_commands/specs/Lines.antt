-- The lines that a run writes, as text and as JSON (this project).
use Rattle.std.specs.Prelude.{ℕ, ◌-◌, List, [], ◌∷◌, ◌++◌, length, replicate, codes, decimal, Option, Some, None}
use Rattle.serde_json.specs.Data.{Data, Members, member, no_members, number, object, string, unsigned}
use Rattle.serde_json.specs.Written.{compact_text}
use Rattle.wasm_code.specs.Fault.{kind_name}
use Rattle.wasm_sections.specs.Fault.{fault_name}
use Rattle.body_rewrites.specs.declared.rewrite.Rewrite.{Rewrite}
use Rattle.module_rewrites.specs.OperatorCode.{code_text, family_name, unreadable_code_family}
use Rattle.module_rewrites.specs.declared.function.FunctionError.{FunctionError}
use Rattle.module_rewrites.specs.declared.function.FunctionError.TheVariants.{Unknown, UnknownType, Locals, Body}
use Rattle.module_rewrites.specs.declared.operator_code.OperatorCode.{OperatorCode}
use Rattle.wasm_module.specs.declared.refusal.WriteError.TheVariants as writes
use Rattle.module_rewrites.specs.declared.mutation.MutationError.{MutationError}
use Rattle.module_rewrites.specs.declared.mutation.MutationError.TheVariants.{Read, Memory, Write, TooLong, NotSmaller}
use Rattle.module_showing.specs.Shown.{row_name}
use Rattle.module_commands.specs.declared.blocks.BlockLine.{BlockLine}
use Rattle.module_options.specs.declared.form.Form.{Form}
use Rattle.module_commands.specs.declared.reach.Part.{Part}
use Rattle.module_commands.specs.declared.reach.Reach.{Reach}
use Rattle.module_options.specs.declared.form.Form.TheVariants.{Text, Json}

-- ---- columns of text

-- the number in a column that is so wide: spaces stand behind its digits where they are fewer
unfoldable pub left_aligned : (width n : ℕ) → List ℕ
left_aligned width n = decimal n ++ replicate (width - length (decimal n)) 32

-- the same with the spaces before them
unfoldable pub right_aligned : (width n : ℕ) → List ℕ
right_aligned width n = replicate (width - length (decimal n)) 32 ++ decimal n

-- ---- objects of JSON, whose members stand in the order of their names

-- members, the first of them a number
abbrev pub with_number : (name : List ℕ) → ℕ → Members → Members
with_number name n rest = member name (number (unsigned n)) rest

-- members, the first of them a text
abbrev pub with_text : (name text : List ℕ) → Members → Members
with_text name text rest = member name (string text) rest

-- the object with no spaces, and the line's end
unfoldable pub json_line : Data → List ℕ
json_line value = compact_text value ++ codes "\n"

-- ---- a rewrite of the function with the index

-- the index of the function, the number of the operator in its body, and the name of the rule
abbrev pub rewrite_text : (function : ℕ) → Rewrite → List ℕ
rewrite_text function r =
    codes "function " ++ (left_aligned 6 function ++ (codes " operator " ++ (left_aligned 6 r.operator
    ++ (codes " rule " ++ (row_name r.row ++ codes "\n")))))

-- the same three as an object
abbrev pub rewrite_object : (function : ℕ) → Rewrite → Data
rewrite_object function r =
    object (with_number (codes "function") function (with_number (codes "operator") r.operator (with_text (codes "rule") (row_name r.row) no_members)))

-- one rewrite, in the form that was asked for
abbrev pub rewrite_line : Form → (function : ℕ) → Rewrite → List ℕ
rewrite_line Text function r = rewrite_text function r
rewrite_line Json function r = json_line (rewrite_object function r)

-- some of them, one line behind another
abbrev pub rewrite_lines : Form → (function : ℕ) → List Rewrite → List ℕ
rewrite_lines form function [] = []
rewrite_lines form function (r ∷ rs) = rewrite_line form function r ++ rewrite_lines form function rs

-- ---- a function that can't be read: its index, or the number of its code entry; its first fault, and where that is. Its entry starts at `start`.

-- the kind of the fault; `UnknownType` where the function's own type isn't there
abbrev pub fault_text : FunctionError → List ℕ
fault_text (Unknown e) = fault_name e.kind
fault_text UnknownType = codes "UnknownType"
fault_text (Locals e) = fault_name e.kind
fault_text (Body e) = kind_name e.fault.kind

-- the offset in the module; that of the entry's first byte where the type isn't there
abbrev pub fault_offset : (start : ℕ) → FunctionError → ℕ
fault_offset start (Unknown e) = e.offset
fault_offset start UnknownType = start
fault_offset start (Locals e) = e.offset
fault_offset start (Body e) = e.fault.offset

-- the code of an operator of the body that isn't known, where that is the fault
abbrev pub fault_operator : FunctionError → Option OperatorCode
fault_operator (Unknown e) = None
fault_operator UnknownType = None
fault_operator (Locals e) = None
fault_operator (Body e) = e.operator

-- the text behind a word for the number; of an operator also its code and its family
abbrev pub operator_words_of : (word : List ℕ) (index : ℕ) (name : List ℕ) (offset : ℕ) → Option OperatorCode → List ℕ
operator_words_of word index name offset None =
    word ++ (left_aligned 6 index ++ (codes " " ++ (name ++ (codes " at " ++ (decimal offset ++ codes "\n")))))
operator_words_of word index name offset (Some code) =
    word ++ (left_aligned 6 index ++ (codes " " ++ (name ++ (codes " at " ++ (decimal offset ++ (codes ": operator " ++ (code_text code
    ++ (codes " (" ++ (family_name (unreadable_code_family code) ++ codes ")\n")))))))))

-- so of the error
abbrev pub fault_words : (word : List ℕ) (index start : ℕ) → FunctionError → List ℕ
fault_words word index start e = operator_words_of word index (fault_text e) (fault_offset start e) (fault_operator e)

-- members, before them that of an operator's family, where there is one
abbrev pub with_family : Option OperatorCode → Members → Members
with_family None rest = rest
with_family (Some code) rest = with_text (codes "family") (family_name (unreadable_code_family code)) rest

-- the member of the operator's code, where there is one
abbrev pub operator_member : Option OperatorCode → Members
operator_member None = no_members
operator_member (Some code) = with_text (codes "operator") (code_text code) no_members

-- the function with the index
abbrev pub function_object : (index start : ℕ) → FunctionError → Data
function_object index start e =
    object (with_family (fault_operator e) (with_text (codes "fault") (fault_text e) (with_number (codes "function") index
    (with_number (codes "offset") (fault_offset start e) (operator_member (fault_operator e))))))

-- one such function, in the form that was asked for
abbrev pub function_line : Form → (index start : ℕ) → FunctionError → List ℕ
function_line Text index start e = fault_words (codes "function ") index start e
function_line Json index start e = json_line (function_object index start e)

-- the code entry with the number
abbrev pub entry_object : (entry start : ℕ) → FunctionError → Data
entry_object entry start e =
    object (with_number (codes "entry") entry (with_family (fault_operator e) (with_text (codes "fault") (fault_text e)
    (with_number (codes "offset") (fault_offset start e) (operator_member (fault_operator e))))))

-- the same where no index is known, since an import isn't
abbrev pub entry_line : Form → (entry start : ℕ) → FunctionError → List ℕ
entry_line Text entry start e = fault_words (codes "entry    ") entry start e
entry_line Json entry start e = json_line (entry_object entry start e)

-- ---- a block

-- its function's index, and the range of its operators, whose last one is before `end`
abbrev pub block_text : (function start end : ℕ) → List ℕ
block_text function start end =
    codes "function " ++ (left_aligned 6 function ++ (codes " block " ++ (right_aligned 6 start ++ (codes ".." ++ (decimal end ++ codes "\n")))))

-- the same as an object
abbrev pub block_object : (function start end : ℕ) → Data
block_object function start end =
    object (with_number (codes "end") end (with_number (codes "function") function (with_number (codes "start") start no_members)))

-- one block, in the form that was asked for
abbrev pub block_line_in_form : Form → BlockLine → List ℕ
block_line_in_form Text l = block_text l.function l.start l.end
block_line_in_form Json l = json_line (block_object l.function l.start l.end)

-- where there is a block, its line
abbrev pub block_lines : Form → Option BlockLine → List ℕ
block_lines form None = []
block_lines form (Some l) = block_line_in_form form l

-- ---- what is counted

-- the module's own functions, and those of them that can't be read
abbrev pub functions_text : (count unreadable : ℕ) → List ℕ
functions_text count unreadable = codes "functions  " ++ (left_aligned 10 count ++ (codes " unreadable " ++ (decimal unreadable ++ codes "\n")))

-- the same two numbers as an object
abbrev pub functions_object : (count unreadable : ℕ) → Data
functions_object count unreadable = object (with_number (codes "functions") count (with_number (codes "unreadable") unreadable no_members))

-- the numbers of functions, in the form that was asked for
abbrev pub functions_line : Form → (count unreadable : ℕ) → List ℕ
functions_line Text count unreadable = functions_text count unreadable
functions_line Json count unreadable = json_line (functions_object count unreadable)

-- how many there are of something, and how many of them a rule may rewrite
abbrev pub part_text : (word : List ℕ) → Part → List ℕ
part_text word part = word ++ (left_aligned 10 part.all ++ (codes " rewritable " ++ (decimal part.within ++ codes "\n")))

-- the same two numbers as an object, `of` what they are
abbrev pub part_object : (name : List ℕ) → Part → Data
part_object name part =
    object (with_number (codes "all") part.all (with_text (codes "of") name (with_number (codes "rewritable") part.within no_members)))

-- the word with the spaces behind it that line up its column
abbrev pub part_line : Form → (name word : List ℕ) → Part → List ℕ
part_line Text name word part = part_text word part
part_line Json name word part = json_line (part_object name part)

-- the instructions of each family
abbrev pub family_lines : Form → Reach → List ℕ
family_lines form reach =
    ((part_line form (codes "integers") (codes "integers   ") reach.integers ++ part_line form (codes "floats") (codes "floats     ") reach.floats)
    ++ part_line form (codes "vectors") (codes "vectors    ") reach.vectors)
    ++ part_line form (codes "accesses") (codes "accesses   ") reach.accesses

-- the operators, the blocks and these
abbrev pub reach_lines : Form → Reach → List ℕ
reach_lines form reach =
    (part_line form (codes "operators") (codes "operators  ") reach.operators ++ part_line form (codes "blocks") (codes "blocks     ") reach.blocks)
    ++ family_lines form reach

-- the bytes of the module, and of what is written
abbrev pub sizes_text : (before behind : ℕ) → List ℕ
sizes_text before behind = codes "bytes      " ++ (left_aligned 10 before ++ (codes " new " ++ (decimal behind ++ codes "\n")))

-- the same two sizes as an object
abbrev pub sizes_object : (before behind : ℕ) → Data
sizes_object before behind = object (with_number (codes "bytes") before (with_number (codes "new") behind no_members))

-- the sizes in bytes, in the form that was asked for
abbrev pub sizes_line : Form → (before behind : ℕ) → List ℕ
sizes_line Text before behind = sizes_text before behind
sizes_line Json before behind = json_line (sizes_object before behind)

-- ---- why no further rewrite was made

-- the name of the module's fault, or of why no rewrite is made, or the new module isn't written
abbrev pub stopped_name : MutationError → List ℕ
stopped_name (Read e) = fault_name e.kind
stopped_name Memory = codes "Memory"
stopped_name (Write writes.TooLarge) = codes "TooLarge"
stopped_name (Write writes.EmptyType) = codes "EmptyType"
stopped_name (Write writes.Memory) = codes "Memory"
stopped_name TooLong = codes "TooLong"
stopped_name NotSmaller = codes "NotSmaller"

-- a name behind the word `stopped`
abbrev pub stopped_text : (name : List ℕ) → List ℕ
stopped_text name = codes "stopped " ++ (name ++ codes "\n")

-- the same as an object
abbrev pub stopped_object : (name : List ℕ) → Data
stopped_object name = object (with_text (codes "stopped") name no_members)

-- why there are no more rewrites, in the form that was asked for
abbrev pub stopped_line : Form → (name : List ℕ) → List ℕ
stopped_line Text name = stopped_text name
stopped_line Json name = json_line (stopped_object name)

-- the line of that, where there is something to tell
abbrev pub stopped_part : Form → Option (List ℕ) → List ℕ
stopped_part form None = []
stopped_part form (Some name) = stopped_line form name
