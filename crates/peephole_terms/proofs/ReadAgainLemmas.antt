-- The bytes of a written body are read again.
use Rattle.std.proofs.Common.{◌≡◌, ℕ, ◌+◌, ◌-◌, ◌<◌, ◌≤◌, List, [], ◌∷◌, ◌++◌, length, take, drop, map, refl, sym, ap, ap₂, subst, ◌∙◌, append_assoc, arith}
use Rattle.std.proofs.Common.{IsTrue, inl, inr, suc, true, Some}
use Rattle.std.proofs.lemmas.Bool.{false≢true}
use Rattle.std.proofs.lemmas.Bool.Decides.{eqb_tells}
use Rattle.std.specs.Prelude.{slice_get, slice_range}
use Rattle.std.specs.List.{All}
use Rattle.std.proofs.lemmas.List.{drop-map, length-map, length-drop, map-append, take-map, take-append-drop, take_all, take-take, length-append}
use Rattle.wasm_code.specs.Instruction.{Instruction, IsInstruction}
use Rattle.wasm_code.specs.Code.{codes}
use Rattle.wasm_code.specs.Body.{AreSpelled, bytes_of, with_offsets, is_end, ends, SpellsAll, SpellsCode}
use Rattle.wasm_code.specs.Operator.{is_delimiter}
use Rattle.wasm_code.specs.declared.operator.Operator.{Operator}
use Rattle.wasm_code.specs.declared.operator.Operator.TheVariants.{Instr, End}
use Rattle.peephole_graphs.specs.Block.{BlockRange, IsBlockIn}
use Rattle.peephole_terms.specs.OwnBytes.{own_bytes}
use Rattle.peephole_terms.specs.Written.{Site, site_at, without_offsets, offset_of, before_block, after_block, written_body, IsBodyIn}
use Rattle.peephole_terms.specs.ReadAgain.{ReadsAgain}
use Rattle.peephole_terms.specs.Spliced.{coded, range_as_block}
use Rattle.peephole_terms.specs.EncoderSteps.{BlockIsInside}
use Rattle.peephole_terms.proofs.OwnBytesLemmas.{own_are}
use Rattle.peephole_terms.proofs.SpellingLemmas.{Spelling, CodesSpell, spelled, spellings_of, all_joined, spelled_append, spelled_take}
use Rattle.peephole_terms.proofs.SpellingLemmas.{spelled_drop, bytes_of-append}
use Rattle.peephole_terms.proofs.SpellingLemmas.{joined_parts, named_placed, length-with_offsets, offset_placed, coded_spelled, joined_coded, spelled_coded}
use Rattle.peephole_terms.proofs.SpellingLemmas.{ends_with, ends_named, ends_behind, last_size, StandsIn, stands_in, front_in, back_in}

-- ---- a body by its spellings

-- The operators are these spellings, which stand in the input, and the last one is `end`.
pub record IsBodyOf (input : List ℕ) (from to : ℕ) (ps : List Spelling) (operators : List (Operator × ℕ)) : Type 0 where
  pub each : AreSpelled ps
  pub read : with_offsets from ps ≡ operators
  pub stands : StandsIn input from to ps
  pub ordered : from ≤ to
  pub last : IsTrue (ends_with (spelled ps))

abbrev pub with_code : List Spelling → BlockRange → List Instruction → List Spelling
with_code ps block code = take block.start ps ++ (coded code ++ drop block.end ps)

module _ {input : List ℕ} {from to : ℕ} {ps : List Spelling} {operators : List (Operator × ℕ)} (h : IsBodyOf input from to ps operators) where
  pub alone_are : without_offsets operators ≡ spelled ps
  alone_are = ap without_offsets (sym h.read) ∙ named_placed from ps

  pub count_is : length operators ≡ length ps
  count_is = ap (λ (xs : List (Operator × ℕ)). length xs) (sym h.read) ∙ length-with_offsets from ps

  starts_at : (i : ℕ) → i < length ps → offset_of operators i ≡ from + length (bytes_of (take i ps))
  starts_at i l = ap (λ (xs : List (Operator × ℕ)). offset_of xs i) (sym h.read) ∙ offset_placed from ps i l

  before_is : (block : BlockRange) → block.start < length ps → before_block input operators block ≡ bytes_of (take block.start ps)
  before_is block l =
      let first : offset_of operators 0 ≡ from = let e = starts_at 0 (omega arith) in omega arith in
      ap₂ (slice_range input) first (starts_at block.start l) ∙ front_in input from to block.start ps h.stands

  after_is : (block : BlockRange) → block.end < length ps → after_block input operators block ≡ bytes_of (drop block.end ps)
  after_is block l =
      let last = starts_at (length ps - 1) (omega arith) in
      let one = last_size ps h.each h.last in
      let end : offset_of operators (length operators - 1) + 1 ≡ from + length (bytes_of ps) =
      ap (λ (k : ℕ). offset_of operators (k - 1) + 1) count_is ∙ omega arith in
      ap (λ (k : ℕ). slice_range input k (offset_of operators (length operators - 1) + 1)) (starts_at block.end l)
      ∙ back_in input from to (offset_of operators (length operators - 1) + 1) block.end ps h.stands end

  -- with instructions in the place of a block
  pub written_is : (block : BlockRange) (code : List Instruction) → block.start < length ps → block.end < length ps →
      written_body (site_at input operators block 0) code ≡ bytes_of (with_code ps block code)
  written_is block code l m =
      ap₂ (λ (x y : List ℕ). x ++ (codes code ++ y)) (before_is block l) (after_is block m)
      ∙ sym (bytes_of-append (take block.start ps) (coded code ++ drop block.end ps)
      ∙ ap (λ (x : List ℕ). bytes_of (take block.start ps) ++ x) (bytes_of-append (coded code) (drop block.end ps)
      ∙ ap (λ (x : List ℕ). x ++ bytes_of (drop block.end ps)) (joined_coded code)))

-- ---- the same with other instructions in the place of a block

pub spelled_with : (ps : List Spelling) (block : BlockRange) (code : List Instruction) →
    spelled (with_code ps block code) ≡ take block.start (spelled ps) ++ (map (λ (i : Instruction). Instr i) code ++ drop block.end (spelled ps))
spelled_with ps block code =
    simp (map-append, ← take-map, ← drop-map) (ap (λ os. take block.start (spelled ps) ++ (os ++ drop block.end (spelled ps))) (spelled_coded code))

-- the last operator stays
last_with : (ps : List Spelling) (block : BlockRange) (code : List Instruction) → block.end < length ps →
    ends_with (spelled (with_code ps block code)) ≡ ends_with (spelled ps)
last_with ps block code l =
    let back = drop block.end (spelled ps) in
    let some : 0 < length back = omega (arith, length-drop block.end (spelled ps), length-map ps (λ (p : Operator × List ℕ). p.0)) in
    let front = take block.start (spelled ps) in
    let middle = map (λ (i : Instruction). Instr i) code in
    ap ends_with (spelled_with ps block code ∙ sym (append_assoc front middle back)) ∙ (ends_behind (front ++ middle) back some
    ∙ sym (ap ends_with (sym (take-append-drop block.end (spelled ps))) ∙ ends_behind (take block.end (spelled ps)) back some))

-- what is written is a body by itself
pub again_of : CodesSpell → (ps : List Spelling) (block : BlockRange) (code : List Instruction) → AreSpelled ps → IsTrue (ends_with (spelled ps)) →
    block.end < length ps → All IsInstruction code →
    IsBodyOf (bytes_of (with_code ps block code)) 0 (length (bytes_of (with_code ps block code))) (with_code ps block code)
    (with_offsets 0 (with_code ps block code))
again_of spell ps block code each last l all =
    let qs = with_code ps block code in
    let whole : slice_range (bytes_of qs) 0 (length (bytes_of qs)) ≡ bytes_of qs = take_all (length (bytes_of qs) - 0) (bytes_of qs) (omega arith) in
    record {
      each = spelled_append (take block.start ps) (coded code ++ drop block.end ps) (spelled_take block.start ps each)
          (spelled_append (coded code) (drop block.end ps) (coded_spelled spell code all) (spelled_drop block.end ps each));
      read = refl;
      stands = stands_in (bytes_of qs) 0 (length (bytes_of qs)) qs (omega arith) (omega arith) whole;
      ordered = omega arith;
      last = last_with ps block code l ∙ last;
    }

pub spells_again : (text : List ℕ) (to : ℕ) (ps : List Spelling) (operators : List (Operator × ℕ)) → IsBodyOf text 0 to ps operators →
    text ≡ bytes_of ps → SpellsCode 0 text operators
spells_again text to ps operators h e = record {
  all = subst (λ (xs : List (Operator × ℕ)). SpellsAll xs 0 text) h.read (subst (SpellsAll (with_offsets 0 ps) 0) (sym e) (all_joined 0 ps h.each));
  last = ends_named operators ∙ (ap ends_with (alone_are h) ∙ h.last);
}

-- ---- a body in an input

end_delimits : (o : Operator) → IsTrue (is_end o) → is_delimiter o ≡ true
end_delimits End e = refl
end_delimits _ e = absurd cc

last_delimits : (xs : List (Operator × ℕ)) → IsTrue (ends xs) → (o : Operator × ℕ) × (slice_get xs (length xs - 1) ≡ Some o) × (is_delimiter o.0 ≡ true)
last_delimits [] e = absurd cc
last_delimits (x ∷ []) e = (x, refl, end_delimits x.0 e)
last_delimits (x ∷ y ∷ xs) e =
    let more = last_delimits (y ∷ xs) e in
    let at : length (x ∷ y ∷ xs) - 1 ≡ suc (length (y ∷ xs) - 1) = omega arith in
    (more.0, ap (λ k. slice_get (x ∷ y ∷ xs) k) at ∙ more.1, more.2)

-- A range of a body's operators behind which something stands.
pub record IsBeforeLast (operators : List (Operator × ℕ)) (block : BlockRange) : Type 0 where
  pub ordered : block.start ≤ block.end
  pub inside : block.end < length operators

-- the range of a block
pub piece_is : (block : BlockRange) {start end : ℕ} → start ≡ block.start → end ≡ block.end → range_as_block start end ≡ block
piece_is block e f = ap₂ range_as_block e f

-- behind a block something stands
pub block_before_last : {input : List ℕ} (operators : List (Operator × ℕ)) (block : BlockRange) → IsBodyIn input operators → IsBlockIn operators block →
    IsBeforeLast operators block
block_before_last operators block body b =
    let some = b.some in
    let inside = b.inside in
    elim (eqb_tells block.end (length operators)) [
      | inl h ↦
          let last = last_delimits operators body.spells.last in
          let whole : block.end ≡ length operators = h.1 in
          absurd (false≢true (sym (b.none (length operators - 1) last.0 (omega arith) (omega arith) last.1) ∙ last.2))
      | inr h ↦ let not_whole = h.1 in record { ordered = omega arith; inside = omega arith }
    ]

pub record IsSpelledIn (input : List ℕ) (operators : List (Operator × ℕ)) (block : BlockRange) : Type 0 where
  pub from : ℕ
  pub to : ℕ
  pub ps : List Spelling
  pub is : IsBodyOf input from to ps operators
  within : to ≤ length input
  pub start_there : block.start < length ps
  pub end_there : block.end < length ps

pub spelled_in : (input : List ℕ) (operators : List (Operator × ℕ)) (block : BlockRange) → IsBodyIn input operators → IsBeforeLast operators block →
    IsSpelledIn input operators block
spelled_in input operators block b k =
    let h = spellings_of operators b.from (slice_range input b.from b.to) b.spells.all in
    let n : length operators ≡ length h.spellings = ap (λ (xs : List (Operator × ℕ)). length xs) (sym h.read) ∙ length-with_offsets b.from h.spellings in
    let end_in = k.inside in
    let ordered = k.ordered in
    record {
      from = b.from;
      to = b.to;
      ps = h.spellings;
      is = record {
        each = h.each;
        read = h.read;
        stands = stands_in input b.from b.to h.spellings b.ordered b.inside (sym h.whole);
        ordered = b.ordered;
        last = sym (ends_named operators ∙ ap ends_with (ap without_offsets (sym h.read) ∙ named_placed b.from h.spellings)) ∙ b.spells.last;
      };
      within = b.inside;
      start_there = omega arith;
      end_there = omega arith;
    }

joined_less : (ps : List Spelling) (i j : ℕ) → i ≤ j → length (bytes_of (take i ps)) ≤ length (bytes_of (take j ps))
joined_less ps i j l =
    let parts = ap (λ (t : List ℕ). length t) (joined_parts i (take j ps)) in
    omega (arith, ap (λ x. length (bytes_of x)) (take-take i j ps l), length-append (bytes_of (take i (take j ps))) (bytes_of (drop i (take j ps))))

-- so the bytes outside are in the input
pub inside : (input : List ℕ) (operators : List (Operator × ℕ)) (block : BlockRange) → IsBodyIn input operators → IsBeforeLast operators block →
    BlockIsInside input operators block
inside input operators block b k =
    let h = spelled_in input operators block b k in
    let last = length h.ps - 1 in
    let n = count_is h.is in
    let start_there = h.start_there in
    let end_there = h.end_there in
    let first_at = starts_at h.is 0 (omega arith) in
    let start_at = starts_at h.is block.start start_there in
    let end_at = starts_at h.is block.end end_there in
    let last_at : offset_of operators (length operators - 1) ≡ h.from + length (bytes_of (take last h.ps)) =
    ap (λ (k : ℕ). offset_of operators (k - 1)) n ∙ starts_at h.is last (omega arith) in
    let end_less = joined_less h.ps block.end last (omega arith) in
    let start_less = joined_less h.ps block.start last (let l = k.ordered in omega arith) in
    let one = last_size h.ps h.is.each h.is.last in
    let size = h.is.stands.size in
    let to_in = h.within in
    record {
      start_there = omega arith;
      end_there = omega arith;
      before = omega arith;
      start_inside = omega arith;
      after = omega arith;
      last_inside = let ordered = h.is.ordered in omega arith;
    }

-- the clause
pub reads_again : CodesSpell → (site : Site) (code : List Instruction) → IsBodyIn site.input site.operators → IsBeforeLast site.operators site.block →
    All IsInstruction code → ReadsAgain site code (written_body site code)
reads_again spell site code b k all =
    let block = site.block in
    let h = spelled_in site.input site.operators block b k in
    let qs = with_code h.ps block code in
    let again = again_of spell h.ps block code h.is.each h.is.last h.end_there all in
    let text : written_body site code ≡ bytes_of qs = written_is h.is block code h.start_there h.end_there in
    let names = alone_are h.is in
    record {
      again = with_offsets 0 qs;
      spells = subst (λ (t : List ℕ). SpellsCode 0 t (with_offsets 0 qs)) (sym text)
          (spells_again (bytes_of qs) (length (bytes_of qs)) qs (with_offsets 0 qs) again refl);
      are = named_placed 0 qs ∙ (spelled_with h.ps block code
          ∙ ap₂ (λ (x y : List Operator). x ++ (map (λ (i : Instruction). Instr i) code ++ y))
          (ap (take block.start) (sym names) ∙ take-map (λ (o : Operator × ℕ). o.0) block.start site.operators)
          (ap (drop block.end) (sym names) ∙ drop-map (λ (o : Operator × ℕ). o.0) block.end site.operators));
      bytes_are =
          let old = ap (own_bytes site.input) (sym h.is.read) ∙ own_are site.input h.from h.to h.ps h.is.each h.is.last h.is.stands in
          ap (λ (t : List ℕ). own_bytes t (with_offsets 0 qs)) text
          ∙ (own_are (bytes_of qs) 0 (length (bytes_of qs)) qs again.each again.last again.stands
          ∙ ap (λ (ps : List Spelling). with_code ps block code) (sym old));
    }
