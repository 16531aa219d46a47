-- The steps of a term write its expansion.
use Rattle.std.proofs.Common.{◌≡◌, ℕ, ℤ, ◌+◌, List, [], ◌∷◌, ◌++◌, length, drop, map, refl, sym, ap, ap₂, subst, ◌∙◌, arith, append_assoc, append-nil}
use Rattle.std.proofs.Common.{length-append}
use Rattle.std.proofs.Common.{Bool, true, false, cond, Result, Ok, Err, Option, Some, None}
use Rattle.std.specs.Prelude.{nat_le}
use Rattle.std.proofs.Math.Nat.{add-zero}
use Rattle.std.proofs.lemmas.List.{length-map, map-append}
use Rattle.rand_core.specs.Stream.{Stream}
use Rattle.wasm_code.specs.Instruction.{Instruction}
use Rattle.wasm_code.specs.Code.{code, codes}
use Rattle.mutate_base.specs.declared.error.Error.{Error}
use Rattle.mutate_base.specs.declared.error.Error.TheVariants.{Memory, CannotUnfold, GlobalIndex}
use Rattle.peephole_lang.specs.declared.lang.Head.{Head}
use Rattle.peephole_lang.specs.Term.{Term, Terms, absent, node, no_terms, ◌▸◌}
use Rattle.peephole_terms.specs.NodeKind.{NumberType, IntegerType, NodeKind, node_kind, number_type_of, is_unfold, Own, Random, Unfold, UseGlobal}
use Rattle.peephole_terms.specs.EncoderSteps.{Step, Writing, writing_of, own_step, children_to_write, split, steps_of, steps, take_steps}
use Rattle.peephole_terms.specs.EncoderSteps.{then_steps, with_instruction}
use Rattle.peephole_terms.specs.EncoderSteps.{with_request, IsEncoderRefusal}
use Rattle.peephole_terms.specs.Expansion.{own_requests, with_own_requests, requests_of, requests, request, own_draws, with_own_draws, draws_of, draws}
use Rattle.peephole_terms.specs.Expansion.{next_word, draw_words, constant_in, global_set_code, global_get_code}
use Rattle.peephole_terms.specs.Expansion.{joined_code, own_code, with_own_code, unfolded_sum_of, expansion_of, expansion, Refuses}
use Rattle.peephole_terms.proofs.WalkLemmas.{take_steps-append}

pub codes-append : (is js : List Instruction) → codes (is ++ js) ≡ codes is ++ codes js
codes-append [] js = refl
codes-append (i ∷ is) js = ap (λ x. code i ++ x) (codes-append is js) ∙ sym (append_assoc (code i) (codes is) (codes js))

-- ---- words

draw_words-words : (ts us : List NumberType) (s : Stream) → (draw_words (ts ++ us) s).0 ≡ (draw_words ts s).0 ++ (draw_words us (draw_words ts s).1).0
draw_words-words [] us s = refl
draw_words-words (t ∷ ts) us s = ap (λ z. (next_word t s).0 ∷ z) (draw_words-words ts us (next_word t s).1)

draw_words-later : (ts us : List NumberType) (s : Stream) → (draw_words (ts ++ us) s).1 ≡ (draw_words us (draw_words ts s).1).1
draw_words-later [] us s = refl
draw_words-later (t ∷ ts) us s = draw_words-later ts us (next_word t s).1

words_front : (ds es : List NumberType) (s : Stream) (rest : List ℕ) →
    (draw_words (ds ++ es) s).0 ++ rest ≡ (draw_words ds s).0 ++ ((draw_words es (draw_words ds s).1).0 ++ rest)
words_front ds es s rest = ap (λ z. z ++ rest) (draw_words-words ds es s) ∙ append_assoc (draw_words ds s).0 _ rest

words_back : (ds es : List NumberType) (s : Stream) (rest : List ℕ) →
    drop (length ds) ((draw_words (ds ++ es) s).0 ++ rest) ≡ (draw_words es (draw_words ds s).1).0 ++ rest
words_back [] es s rest = refl
words_back (d ∷ ds) es s rest = words_back ds es (next_word d s).1 rest

-- ---- what is there once a term with these requests and draws is written

abbrev then : Writing → List NumberType → List NumberType → List Instruction → Writing
then w rs ds is = record { bytes = w.bytes ++ codes is; requests = w.requests ++ map request rs; stream = (draw_words ds w.stream).1 }

abbrev pub finish : Writing → List NumberType → List NumberType → Result (List Instruction) Error → Result Writing Error
finish w rs ds (Ok is) = Ok (then w rs ds is)
finish w rs ds (Err e) = Err e

abbrev done : Writing → Result Writing Error
done w = Ok w

-- two parts, one after the other
two_parts : (w : Writing) (rs qs ds es : List NumberType) (front back : Result (List Instruction) Error) (go : Writing → Result Writing Error) →
    ((is : List Instruction) → go (then w rs ds is) ≡ finish (then w rs ds is) qs es back) →
    then_steps (finish w rs ds front) go ≡ finish w (rs ++ qs) (ds ++ es) (joined_code front back)
two_parts w rs qs ds es (Err e) back go h = refl
two_parts w rs qs ds es (Ok is) (Err e) go h = h is
two_parts w rs qs ds es (Ok is) (Ok js) go h = h is ∙ simp (codes-append, append_assoc, map-append, draw_words-later)

split_is : (count : ℕ) (t : IntegerType) (w : Writing) (o : Option ℤ) →
    take_steps count (split t o ∷ []) w ≡ finish w [] (number_type_of t ∷ []) (unfolded_sum_of t (next_word (number_type_of t) w.stream).0 o)
split_is count t w (Some z) = simp (append_assoc, append-nil)
split_is count t w None = refl

store_is : (w : Writing) (t : NumberType) (g : ℕ) (b : Bool) →
    then_steps (cond b (Ok (with_instruction (global_get_code g) (with_instruction (global_set_code g) (with_request t w)))) (Err GlobalIndex)) (λ x. Ok x)
    ≡ finish w (t ∷ []) [] (cond b (Ok (global_set_code g ∷ global_get_code g ∷ [])) (Err GlobalIndex))
store_is w t g true = simp (append_assoc, append-nil)
store_is w t g false = refl

nothing_is : (w : Writing) → done w ≡ finish w [] [] (Ok [])
nothing_is w = simp append-nil

-- what a node that is no unfold adds
abbrev IsOwnStep : NodeKind → Terms Head → Type 0
IsOwnStep k kids = (count : ℕ) (w : Writing) (rest : List ℕ) → take_steps count (own_step k kids ∷ []) w
    ≡ finish w (own_requests k) (own_draws k) (own_code (count + length w.requests) ((draw_words (own_draws k) w.stream).0 ++ rest) k)

own_is : (k : NodeKind) (kids : Terms Head) → is_unfold k ≡ false → IsOwnStep k kids
own_is (Own i) kids e count w rest = simp append-nil
own_is (Random t) kids e count w rest = simp append-nil
own_is (UseGlobal t) kids e count w rest = store_is w t (count + length w.requests) (nat_le (count + length w.requests) 4294967295)
own_is (Unfold t) kids e count w rest = absurd cc
own_is _ kids e count w rest = nothing_is w

-- steps whose expansions follow one another
parts : (count : ℕ) (xs ys : List Step) (rs qs ds es : List NumberType) (F B : ℕ → List ℕ → Result (List Instruction) Error) (w : Writing) (rest : List ℕ) →
    ((r : List ℕ) → take_steps count xs w ≡ finish w rs ds (F (count + length w.requests) ((draw_words ds w.stream).0 ++ r))) →
    ((v : Writing) (r : List ℕ) → take_steps count ys v ≡ finish v qs es (B (count + length v.requests) ((draw_words es v.stream).0 ++ r))) →
    take_steps count (xs ++ ys) w ≡ finish w (rs ++ qs) (ds ++ es) (joined_code (F (count + length w.requests) ((draw_words (ds ++ es) w.stream).0 ++ rest))
    (B ((count + length w.requests) + length rs) (drop (length ds) ((draw_words (ds ++ es) w.stream).0 ++ rest))))
parts count xs ys rs qs ds es F B w rest first second =
    let n = count + length w.requests in
    let words = (draw_words (ds ++ es) w.stream).0 ++ rest in
    let front : take_steps count xs w ≡ finish w rs ds (F n words) = first ((draw_words es (draw_words ds w.stream).1).0 ++ rest)
    ∙ ap (λ (z : List ℕ). finish w rs ds (F n z)) (sym (words_front ds es w.stream rest)) in
    let next : count + length (w.requests ++ map request rs) ≡ n + length rs =
    omega (arith, length-append w.requests (map request rs), length-map rs request) in
    take_steps-append count xs ys w ∙ (ap (λ (x : Result Writing Error). then_steps x (take_steps count ys)) front
    ∙ two_parts w rs qs ds es (F n words) (B (n + length rs) (drop (length ds) words)) (take_steps count ys) (λ is. second (then w rs ds is) rest
    ∙ ap₂ (λ (k : ℕ) (z : List ℕ). finish (then w rs ds is) qs es (B k z)) next (sym (words_back ds es w.stream rest))))

-- what a list of terms writes
abbrev AreWritten : Terms Head → Type 0
AreWritten ts = (count : ℕ) (w : Writing) (rest : List ℕ) →
    take_steps count (steps ts) w ≡ finish w (requests ts) (draws ts) (expansion (count + length w.requests) ((draw_words (draws ts) w.stream).0 ++ rest) ts)

-- an unfold, or a node behind its children
node_written : (k : NodeKind) (kids : Terms Head) → AreWritten kids → (count : ℕ) (w : Writing) (rest : List ℕ) →
    take_steps count (children_to_write k (steps kids) ++ own_step k kids ∷ []) w
    ≡ finish w (with_own_requests k (requests kids)) (with_own_draws k (draws kids))
    (with_own_code (count + length w.requests) ((draw_words (with_own_draws k (draws kids)) w.stream).0 ++ rest) k kids
    (expansion (count + length w.requests) ((draw_words (with_own_draws k (draws kids)) w.stream).0 ++ rest) kids))
node_written (Unfold t) kids all count w rest = split_is count t w (constant_in t kids)
node_written k kids all count w rest =
    parts count (steps kids) (own_step k kids ∷ []) (requests kids) (own_requests k) (draws kids) (own_draws k)
    (λ n words. expansion n words kids) (λ n words. own_code n words k) w rest (all count w) (own_is k kids refl count)

mutual
  written_of : (t : Term Head) (count : ℕ) (w : Writing) (rest : List ℕ) → take_steps count (steps_of t) w
      ≡ finish w (requests_of t) (draws_of t) (expansion_of (count + length w.requests) ((draw_words (draws_of t) w.stream).0 ++ rest) t)
  written_of absent count w rest = nothing_is w
  written_of (node h kids) count w rest = node_written (node_kind h) kids (written_all kids) count w rest

  written_all : (ts : Terms Head) → AreWritten ts
  written_all no_terms count w rest = nothing_is w
  written_all (t ▸ ts) count w rest =
      parts count (steps_of t) (steps ts) (requests_of t) (requests ts) (draws_of t) (draws ts)
      (λ n words. expansion_of n words t) (λ n words. expansion n words ts) w rest (written_of t count w) (written_all ts count)

-- ---- from the beginning: the words are those that are drawn, and nothing is requested yet

pub from_start : (t : Term Head) (count : ℕ) (old : List ℕ) (s : Stream) → take_steps count (steps_of t) (writing_of old [] s)
    ≡ finish (writing_of old [] s) (requests_of t) (draws_of t) (expansion_of count (draw_words (draws_of t) s).0 t)
from_start t count old s = rw (add-zero count, append-nil (draw_words (draws_of t) s).0) at (written_of t count (writing_of old [] s) [])

pub all_from_start : (ts : Terms Head) (count : ℕ) (old : List ℕ) (s : Stream) → take_steps count (steps ts) (writing_of old [] s)
    ≡ finish (writing_of old [] s) (requests ts) (draws ts) (expansion count (draw_words (draws ts) s).0 ts)
all_from_start ts count old s = rw (add-zero count, append-nil (draw_words (draws ts) s).0) at (written_all ts count (writing_of old [] s) [])

-- What is there after success.
pub record IsFinished (old : List ℕ) (s : Stream) (v : Writing) (rs ds : List NumberType) (r : Result (List Instruction) Error) : Type 0 where
  pub instructions : List Instruction
  pub expands : r ≡ Ok instructions
  pub bytes : v.bytes ≡ old ++ codes instructions
  pub asks : v.requests ≡ map request rs
  pub leaves : v.stream ≡ (draw_words ds s).1

pub finished : (old : List ℕ) (s : Stream) (v : Writing) (rs ds : List NumberType) (r : Result (List Instruction) Error) →
    finish (writing_of old [] s) rs ds r ≡ Ok v → IsFinished old s v rs ds r
finished old s v rs ds (Ok is) e =
    let same : then (writing_of old [] s) rs ds is ≡ v = cc in
    subst (λ (x : Writing). IsFinished old s x rs ds (Ok is)) same (record { instructions = is; expands = refl; bytes = refl; asks = refl; leaves = refl })
finished old s v rs ds (Err d) e = absurd cc

-- a refusal of the steps is one of the expansion
pub refused : (d : Error) (w : Writing) (rs ds : List NumberType) (r : Result (List Instruction) Error) → IsEncoderRefusal d (finish w rs ds r) → Refuses r d
refused Memory w rs ds r q = tt
refused CannotUnfold w rs ds (Ok is) q = absurd cc
refused CannotUnfold w rs ds (Err c) q = cc
refused GlobalIndex w rs ds (Ok is) q = absurd cc
refused GlobalIndex w rs ds (Err c) q = cc
refused _ w rs ds r q = q
