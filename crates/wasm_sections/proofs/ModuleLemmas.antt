-- The loop that reads a module, and that what it answers is the only answer.
use Rattle.std.proofs.Common.{◌≡◌, ℕ, ◌+◌, ◌-◌, ◌<◌, List, [], ◌∷◌, ◌++◌, length, drop, refl, sym, ap, subst, ◌∙◌, append_assoc, arith}
use Rattle.std.specs.Prelude.{max}
use Rattle.std.proofs.lemmas.List.{length-append, append-nil}
use Rattle.wasm_code.specs.Code.{BeginsWith}
use Rattle.wasm_sections.specs.declared.section.Section.{Section}
use Rattle.wasm_sections.specs.declared.fault.ModuleFault.{ModuleFault}
use Rattle.wasm_sections.specs.declared.fault.ModuleFault.TheVariants as faults
use Rattle.wasm_sections.specs.Id.{id_code, rank_of}
use Rattle.wasm_sections.specs.Section.{SpellsModule, AreFinal, preamble}
use Rattle.wasm_sections.specs.Sections.{last_rank, FailsSection, SectionsStopAt, IsSectionFault}
use Rattle.wasm_sections.specs.Reader.{IsAccepted}
use Rattle.wasm_sections.specs.lemmas.PieceLemmas.{Piece, code_of, joined, placed, all_placed, contents_at, end_at, parts, of_module}
use Rattle.wasm_sections.specs.lemmas.PieceLemmas.{of_pieces, section_is, joined-append, parts-append, counted-append, final-append}
use Rattle.wasm_sections.specs.lemmas.PieceLemmas.{sorted-append, placed-append, last_of, last_is}

pub record IsReadSoFar (bytes rest : List ℕ) (xs : List Section) (last : ℕ) : Type 0 where
  pub front : List ℕ
  pub parts : bytes ≡ front ++ rest
  pub before : SpellsModule front xs
  pub rank : last ≡ last_rank 0 xs

pub begins : (bytes rest : List ℕ) → BeginsWith bytes preamble → rest ≡ drop 8 bytes → IsReadSoFar bytes rest [] 0
begins bytes rest p e = record {
  front = preamble;
  parts = p.1 ∙ ap (λ (l : List ℕ). preamble ++ l) (sym (e ∙ ap (drop 8) p.1));
  before = of_pieces [] tt tt tt;
  rank = refl;
}

last_more : (xs : List Section) (s : Section) (last : ℕ) → last_rank last (xs ++ s ∷ []) ≡ max (last_rank last xs) (rank_of s.id)
last_more [] s last = refl
last_more (x ∷ xs) s last = last_more xs s (max last (rank_of x.id))

module_more : (front rest after : List ℕ) (xs : List Section) (s : Section) (last start : ℕ) → SpellsModule front xs → last ≡ last_rank 0 xs →
    start ≡ length front → IsAccepted last start rest s after
    → (more : List ℕ) × (rest ≡ more ++ after) × SpellsModule (front ++ more) (xs ++ s ∷ [])
module_more front rest after xs s last start m l e a =
    let v = of_module front xs m in
    let n = a.next in
    let x : Piece = record { id = s.id; size = n.size; contents = n.contents } in
    let all = v.pieces ++ x ∷ [] in
    let rank_is : last ≡ last_of 0 v.pieces = l ∙ ap (last_rank 0) v.are ∙ last_is v.pieces 8 0 in
    let front_len : start ≡ 8 + length (joined v.pieces) = e ∙ ap length v.bytes_are ∙ length-append preamble (joined v.pieces) in
    let starts : s.start ≡ 8 + length (joined v.pieces) = n.starts ∙ front_len in
    let contents_are : s.contents ≡ contents_at (8 + length (joined v.pieces)) x = n.contents_at ∙ ap (λ (k : ℕ). k + 1 + length n.size) front_len in
    let ends : s.end ≡ end_at (8 + length (joined v.pieces)) x = n.ends ∙ ap (λ (k : ℕ). k + length n.contents) contents_are in
    let sections : all_placed 8 all ≡ xs ++ s ∷ [] = placed-append v.pieces (x ∷ []) 8
    ∙ ap (λ (l : List Section). l ++ placed (8 + length (joined v.pieces)) x ∷ []) (sym v.are)
    ∙ ap (λ (z : Section). xs ++ z ∷ []) (sym (section_is s (8 + length (joined v.pieces)) (contents_at (8 + length (joined v.pieces)) x)
    (end_at (8 + length (joined v.pieces)) x) starts contents_are ends)) in
    let bytes : preamble ++ joined all ≡ front ++ code_of x = ap (λ (l : List ℕ). preamble ++ l) (joined-append v.pieces (x ∷ [])
    ∙ ap (λ (l : List ℕ). joined v.pieces ++ l) (append-nil (code_of x))) ∙ sym (append_assoc preamble (joined v.pieces) (code_of x))
    ∙ ap (λ (l : List ℕ). l ++ code_of x) (sym v.bytes_are) in
    let sorted = sorted-append v.pieces (x ∷ []) 0 v.sorted (subst (λ (k : ℕ). 0 < rank_of s.id → k < rank_of s.id) rank_is a.allowed.ordered, tt) in
    let final = subst AreFinal (sym (parts-append v.pieces (x ∷ []))) (final-append (parts v.pieces) (parts (x ∷ [])) v.final (a.allowed.final, tt)) in
    let module_is = of_pieces all (counted-append v.pieces (x ∷ []) v.counted (n.counts, tt)) sorted final in (
      code_of x,
      n.parts ∙ ap (λ (l : List ℕ). code_of x ++ l) n.rest,
      subst (SpellsModule (front ++ code_of x)) sections (subst (λ (b : List ℕ). SpellsModule b (all_placed 8 all)) bytes module_is),
    )

place : (bytes front rest : List ℕ) → bytes ≡ front ++ rest → length bytes - length rest ≡ length front
place bytes front rest e = omega (arith, ap length e, length-append front rest)

pub goes_on : (bytes rest after : List ℕ) (xs : List Section) (s : Section) (last : ℕ) → IsReadSoFar bytes rest xs last →
    IsAccepted last (length bytes - length rest) rest s after → IsReadSoFar bytes after (xs ++ s ∷ []) (max last (rank_of s.id))
goes_on bytes rest after xs s last so_far a =
    let m = module_more so_far.front rest after xs s last (length bytes - length rest) so_far.before so_far.rank
    (place bytes so_far.front rest so_far.parts) a in
    record {
      front = so_far.front ++ m.0;
      parts = so_far.parts ∙ ap (λ (l : List ℕ). so_far.front ++ l) m.1 ∙ sym (append_assoc so_far.front m.0 after);
      before = m.2;
      rank = ap (λ (k : ℕ). max k (rank_of s.id)) so_far.rank ∙ sym (last_more xs s 0);
    }

pub shrinks : (rest after : List ℕ) (s : Section) (last start : ℕ) → IsAccepted last start rest s after → length after < length rest
shrinks rest after s last start a =
    let n = a.next in
    omega (
      arith,
      ap length n.parts,
      length-append (id_code s.id ∷ n.size ++ n.contents) n.back,
      length-append (id_code s.id ∷ n.size) n.contents,
      ap length n.rest,
    )

fault_of : (bytes : List ℕ) (fault : ModuleFault) (offset : ℕ) → SectionsStopAt bytes fault offset → IsSectionFault bytes fault offset
fault_of bytes faults.UnknownSection offset s = s
fault_of bytes faults.Truncated offset s = s
fault_of bytes faults.BadInteger offset s = s
fault_of bytes faults.OutOfOrder offset s = s
fault_of bytes faults.Linkable offset s = s
fault_of bytes _ offset s = absurd s.fails

pub stops : (bytes rest : List ℕ) (xs : List Section) (last : ℕ) (fault : ModuleFault) → IsReadSoFar bytes rest xs last → FailsSection fault last rest →
    IsSectionFault bytes fault (length bytes - length rest)
stops bytes rest xs last fault so_far f = fault_of bytes fault (length bytes - length rest) (record {
  front = so_far.front;
  back = rest;
  sections = xs;
  parts = so_far.parts;
  before = so_far.before;
  at = place bytes so_far.front rest so_far.parts;
  fails = subst (λ (k : ℕ). FailsSection fault k rest) so_far.rank f;
})

whole : (front rest : List ℕ) → length rest ≡ 0 → front ++ rest ≡ front
whole front [] e = append-nil front
whole front (b ∷ rest) e = absurd (omega (arith, e))

pub done : (bytes rest : List ℕ) (xs : List Section) (last : ℕ) → length rest ≡ 0 → IsReadSoFar bytes rest xs last → SpellsModule bytes xs
done bytes rest xs last none so_far = subst (λ (b : List ℕ). SpellsModule b xs) (sym (so_far.parts ∙ whole so_far.front rest none)) so_far.before
