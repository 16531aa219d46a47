-- The text of a node, and which node a text reads as (this project): the name of its variant, and where it has a payload
-- a dot and the payload.
use Rattle.std.specs.Prelude.{◌≡◌, ℕ, ◌==◌, List, length, Option, Some, None, Result, Ok, Err, if◌then◌else◌}
use Rattle.peephole_payloads.specs.declared.term_error.TermError.{TermError}
use Rattle.peephole_payloads.specs.declared.term_error.TermError.TheVariants.{InvalidToken, ExpectedZeroChildren, ExpectedOneChild, ExpectedChildren}
use Rattle.peephole_nodes.specs.declared.id.Id.{Id}
use Rattle.peephole_lang.specs.declared.lang.Head.{Head}
use Rattle.peephole_lang.specs.declared.lang.Lang.{Lang}
use Rattle.peephole_nodes.specs.declared.payload.Payload.{Payload}
use Rattle.peephole_nodes.specs.declared.arity.Arity.{Arity}
use Rattle.peephole_nodes.specs.declared.arity.Arity.TheVariants as arity
use Rattle.peephole_lang.specs.Lang.{place_of, payload_of, ids_of}
use Rattle.peephole_lang.specs.Names.{find_in}
use Rattle.peephole_lang.specs.Node.{head_of}
use Rattle.peephole_nodes.specs.PayloadText.{read_payload}
use Rattle.peephole_nodes.specs.Text.{text_at}
use Rattle.peephole_nodes.specs.Variants.{Variant, variants}

-- ---- writing

abbrev pub text_of : Lang → List ℕ
text_of l = text_at (place_of l) (payload_of l)

-- ---- reading

-- what is wrong with that many children
abbrev pub wrong_count : Arity → ℕ → Option TermError
wrong_count arity.Zero count = if count == 0 then None else Some ExpectedZeroChildren
wrong_count arity.One count = if count == 1 then None else Some (ExpectedOneChild count)
wrong_count (arity.Several n) count = if count == n then None else Some (ExpectedChildren n)
wrong_count arity.Any count = None

-- the children are judged before the payload where there are to be none, and behind it otherwise
abbrev pub checked_reading : Arity → Option TermError → Result Payload TermError → Result Payload TermError
checked_reading arity.Zero (Some e) read = Err e
checked_reading _ _ (Err e) = Err e
checked_reading _ (Some e) (Ok p) = Err e
checked_reading _ None (Ok p) = Ok p

abbrev pub with_place : ℕ → Result Payload TermError → Result Head TermError
with_place place (Err e) = Err e
with_place place (Ok p) = Ok (record { place = place; payload = p })

abbrev pub read_found : Option (Variant × List ℕ) → ℕ → Result Head TermError
read_found None count = Err InvalidToken
read_found (Some x) count = with_place x.0.place (checked_reading x.0.children (wrong_count x.0.children count) (read_payload x.0.payload x.1))

-- the head that the text reads as, given that many children, or the first refusal
abbrev pub reads : List ℕ → ℕ → Result Head TermError
reads text count = read_found (find_in variants text) count

-- the node that the text with these children reads as, or the refusal
abbrev pub NodeReadsAs : List ℕ → List Id → Result Lang TermError → Type 0
NodeReadsAs text ids (Ok l) = (reads text (length ids) ≡ Ok (head_of l)) × (ids_of l ≡ ids)
NodeReadsAs text ids (Err e) = reads text (length ids) ≡ Err e
