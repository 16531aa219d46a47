-- What single commands do where nothing is wrong with their words.
use Rattle.std.proofs.Common.{◌≡◌, ℕ, true, List, [], ◌∷◌, length, ap, ◌∙◌, arith, Some, None, Ok, ◌<◌}
use Rattle.std.specs.Prelude.{Option, nat_lt}
use Rattle.std.proofs.lemmas.Bool.Decides.{nat_tests}
use Rattle.std.specs.List.{concat}
use Rattle.std.specs.Result.{result_ok}
use Rattle.hex.specs.Hex.{decode_of}
use Rattle.std.proofs.lemmas.List.{length-map}
use Rattle.peephole_nodes.specs.declared.id.Id.{Id}
use Rattle.peephole_lang.specs.Term.{numbers_of}
use Rattle.peephole_lang.specs.Text.{reads}
use Rattle.peephole_graphs.specs.Block.{BlockRange, IsBlockOf, FindsTheBlock, block_at}
use Rattle.peephole_commands.specs.Arguments.{only_word, named_children}
use Rattle.peephole_commands.specs.Body.{Contents, body_of}
use Rattle.peephole_commands.specs.Commands.{quiet, body_step, at_body, node_read, node_with, block_line}
use Rattle.peephole_commands.specs.State.{SessionState, PointsInto, block_in}

-- the only word decides
pub only_is : {A : Type 0} (value : List ℕ → Option A) (words : List (List ℕ)) (word : List ℕ) → only_word (λ w. Some w) words ≡ Some word →
    only_word value words ≡ value word
only_is value [] word h = absurd (cc)
only_is value (w ∷ []) word h = ap value (cc)
only_is value (w ∷ other ∷ words) word h = absurd (cc)

pub body_is : (s : SessionState) (words : List (List ℕ)) (bytes : List ℕ) (body : Contents) → result_ok (decode_of (concat words)) ≡ Some bytes →
    body_of bytes ≡ Ok body →
    body_step s words ≡ quiet (record s { body = Some body; point = None; nodes = [] })
body_is s words bytes body h k = rw (h, k)

below_true : (m n : ℕ) → m < n → nat_lt m n ≡ true
below_true m n h = grind (arith, nat_tests)

pub point_is : (s : SessionState) (n : ℕ) (body : Contents) → s.body ≡ Some body → n < length body.operators →
    at_body s n s.body ≡ Ok (record { text = block_line (block_at body.operators n); next = record s { point = Some n; nodes = [] } })
point_is s n body e i = rw (e, below_true n (length body.operators) i)

-- the place of a point that has a block
pub point_place : FindsTheBlock → (body : Option Contents) (point : Option ℕ) (b : Contents) (n : ℕ) (block : BlockRange) → PointsInto body point →
    body ≡ Some b → point ≡ Some n → block_in body point ≡ Some block → (n < length b.operators) × IsBlockOf b.operators n block.start block.end
point_place law body point b n block h e k i = (rw (e, k) at h, (law b.operators n block).0 (rw (e, k) at i))

-- a node whose children were read
pub node_is : (s : SessionState) (text : List ℕ) (words : List (List ℕ)) (count : ℕ) (ids : List Id) → count ≡ length s.nodes →
    named_children count words ≡ Ok (numbers_of ids) →
    node_with s text (named_children (length s.nodes) words) ≡ node_read s (numbers_of ids) (reads text (length ids))
node_is s text words count ids n h =
    let said : named_children (length s.nodes) words ≡ Ok (numbers_of ids) = rw n at h in
    ap (node_with s text) said ∙ ap (λ (k : ℕ). node_read s (numbers_of ids) (reads text k)) (length-map ids (λ id. id.0))
