-- Bytes have one fault at most.
use Rattle.std.proofs.Common.{◌≡◌, ◌⊎◌, ℕ, ◌<◌, ◌≤◌, ltb, cond, List, [], ◌∷◌, ◌++◌, length, drop, Result, Ok, Err, refl, sym, ap, subst}
use Rattle.std.proofs.Common.{◌∙◌, append_assoc, inl, inr, arith}
use Rattle.std.specs.Prelude.{max}
use Rattle.std.proofs.lemmas.Bool.{lt-ltb, le-ltb}
use Rattle.std.proofs.lemmas.List.{length-append}
use Rattle.wasm_code.specs.declared.fault.Cause.{Cause}
use Rattle.wasm_code.specs.declared.fault.Cause.TheVariants as causes
use Rattle.wasm_code.specs.Number.{SpellsUnsigned}
use Rattle.wasm_code.specs.Code.{BeginsWith}
use Rattle.wasm_code.specs.Reader.{unsigned_at}
use Rattle.wasm_code.specs.laws.NumberExact.{unsigned_exact}
use Rattle.wasm_sections.specs.declared.id.SectionId.{SectionId}
use Rattle.wasm_sections.specs.declared.id.SectionId.TheVariants as ids
use Rattle.wasm_sections.specs.declared.fault.ModuleFault.{ModuleFault}
use Rattle.wasm_sections.specs.declared.fault.ModuleFault.TheVariants as faults
use Rattle.wasm_sections.specs.Id.{id_code, rank_of}
use Rattle.wasm_sections.specs.Section.{IsLinkable, AreFinal, magic, preamble}
use Rattle.wasm_sections.specs.Sections.{last_rank, LacksId, FailsSection, SectionsStopAt, IsSectionFault}
use Rattle.wasm_sections.specs.Reader.{size_fault_of}
use Rattle.wasm_sections.specs.lemmas.PieceLemmas.{Piece, code_of, joined, AreCounted, AreSorted, parts, last_of, last_is, of_module}
use Rattle.wasm_sections.specs.lemmas.IdLemmas.{one_id}
use Rattle.wasm_sections.proofs.OneModule.{cons_is, next_is, here_fails}

-- ---- one fault of a section

-- what is wrong behind a known id, by what reading the size answers
abbrev read_fault : SectionId → Result (ℕ × List ℕ) Cause → ModuleFault
read_fault id (Err cause) = size_fault_of cause
read_fault id (Ok (n, rest)) = cond (ltb (length rest) n) faults.Truncated (cond (ltb 0 (rank_of id)) faults.OutOfOrder faults.Linkable)

record IsKnown (fault : ModuleFault) (bytes : List ℕ) : Type 0 where
  pub id : SectionId
  pub rest : List ℕ
  pub parts : bytes ≡ id_code id ∷ rest
  pub is : read_fault id (unsigned_at 32 rest) ≡ fault

record IsUnknown (fault : ModuleFault) (bytes : List ℕ) : Type 0 where
  pub lacks : LacksId bytes
  pub is : faults.UnknownSection ≡ fault

whole_is : (id : SectionId) (size contents back : List ℕ) → SpellsUnsigned 32 size (length contents) →
    read_fault id (unsigned_at 32 (size ++ contents ++ back)) ≡ cond (ltb 0 (rank_of id)) faults.OutOfOrder faults.Linkable
whole_is id size contents back counts =
    let e : unsigned_at 32 (size ++ contents ++ back) ≡ Ok (length contents, contents ++ back) =
    ap (unsigned_at 32) (append_assoc size contents back) ∙ (unsigned_exact 32).again size (contents ++ back) (length contents) counts in
    let long : length contents ≤ length (contents ++ back) = omega (arith, length-append contents back) in
    ap (read_fault id) e ∙ rw (le-ltb (length (contents ++ back)) (length contents) long) refl

known : (fault : ModuleFault) (last : ℕ) (bytes : List ℕ) → FailsSection fault last bytes → IsUnknown fault bytes ⊎ IsKnown fault bytes
known faults.UnknownSection last bytes s = inl (record { lacks = s; is = refl })
known faults.Truncated last bytes (inl s) = inr (record {
  id = s.id;
  rest = s.back;
  parts = s.parts;
  is = ap (read_fault s.id) ((unsigned_exact 32).fails s.back causes.Truncated s.fails);
})
known faults.Truncated last bytes (inr s) = inr (record {
  id = s.id;
  rest = s.size ++ s.back;
  parts = s.parts;
  is = ap (read_fault s.id) ((unsigned_exact 32).again s.size s.back s.count s.counts) ∙ rw (lt-ltb (length s.back) s.count s.short) refl;
})
known faults.BadInteger last bytes s = inr (record {
  id = s.id;
  rest = s.back;
  parts = s.parts;
  is = ap (read_fault s.id) ((unsigned_exact 32).fails s.back causes.BadInteger s.fails);
})
known faults.OutOfOrder last bytes s = inr (record {
  id = s.id;
  rest = s.size ++ s.contents ++ s.back;
  parts = s.parts;
  is = whole_is s.id s.size s.contents s.back s.counts ∙ rw (lt-ltb 0 (rank_of s.id) s.is.0) refl;
})
known faults.Linkable last bytes s = inr (record {
  id = s.id;
  rest = s.size ++ s.contents ++ s.back;
  parts = s.parts;
  is = whole_is s.id s.size s.contents s.back s.counts ∙ ap (λ (i : SectionId). cond (ltb 0 (rank_of i)) faults.OutOfOrder faults.Linkable) s.is.0;
})
known _ last bytes s = absurd s

clash : (one other : ModuleFault) (bytes : List ℕ) → IsUnknown one bytes → IsKnown other bytes → ⊥
clash one other bytes u k =
    u.lacks.unknown k.id (cons_is (id_code k.id) u.lacks.first k.rest u.lacks.back (sym k.parts ∙ u.lacks.parts)).0

same_known : (one other : ModuleFault) (bytes : List ℕ) → IsKnown one bytes → IsKnown other bytes → one ≡ other
same_known one other bytes j k =
    let c = cons_is (id_code j.id) (id_code k.id) j.rest k.rest (sym j.parts ∙ k.parts) in
    sym j.is ∙ ap (λ (i : SectionId). read_fault i (unsigned_at 32 j.rest)) (one_id j.id k.id c.0)
    ∙ ap (λ (l : List ℕ). read_fault k.id (unsigned_at 32 l)) c.1 ∙ k.is

same_fails : (one other : ModuleFault) (last : ℕ) (bytes : List ℕ) → FailsSection one last bytes → FailsSection other last bytes → one ≡ other
same_fails one other last bytes p q =
    elim (known one last bytes p) [
      | inl u ↦ elim (known other last bytes q) [ inl v ↦ sym u.is ∙ v.is | inr k ↦ absurd (clash one other bytes u k) ]
      | inr j ↦ elim (known other last bytes q) [ inl v ↦ absurd (clash other one bytes v j) | inr k ↦ same_known one other bytes j k ]
    ]

-- ---- one fault of bytes

-- pieces, and behind them bytes that begin with no further one
record Stops (last : ℕ) (xs : List Piece) (back : List ℕ) (fault : ModuleFault) : Type 0 where
  pub counted : AreCounted xs
  pub sorted : AreSorted last xs
  pub final : AreFinal (parts xs)
  pub fails : FailsSection fault (last_of last xs) back

-- where pieces and a fault stand, a fault stands behind the pieces
fails_more : (fault : ModuleFault) (last : ℕ) (x : Piece) (tail back : List ℕ) → SpellsUnsigned 32 x.size (length x.contents) →
    (0 < rank_of x.id → last < rank_of x.id)
    → (x.id ≡ ids.Custom → IsLinkable x.contents → ⊥) → back ≡ code_of x ++ tail → FailsSection fault last back → ⊥
fails_more fault last x tail back counts ordered final e s =
    here_fails fault last x tail back (record { bytes = e; counts = counts; ordered = ordered; final = final }) s

same_stop : (xs ys : List Piece) (last : ℕ) (a b : List ℕ) (one other : ModuleFault) → Stops last xs a one → Stops last ys b other →
    joined xs ++ a ≡ joined ys ++ b → (one ≡ other) × (length a ≡ length b)
same_stop [] [] last a b one other p q e = (same_fails one other last a p.fails (subst (FailsSection other last) (sym e) q.fails), ap length e)
same_stop [] (y ∷ ys) last a b one other p q e =
    absurd (fails_more one last y (joined ys ++ b) a q.counted.0 q.sorted.0 q.final.0 (e ∙ append_assoc (code_of y) (joined ys) b) p.fails)
same_stop (x ∷ xs) [] last a b one other p q e =
    absurd (fails_more other last x (joined xs ++ a) b p.counted.0 p.sorted.0 p.final.0 (sym e ∙ append_assoc (code_of x) (joined xs) a) q.fails)
same_stop (x ∷ xs) (y ∷ ys) last a b one other p q e =
    let n = next_is x y (joined xs ++ a) (joined ys ++ b) p.counted.0 q.counted.0
    (sym (append_assoc (code_of x) (joined xs) a) ∙ e ∙ append_assoc (code_of y) (joined ys) b) in
    let same : max last (rank_of y.id) ≡ max last (rank_of x.id) = ap (λ (z : Piece). max last (rank_of z.id)) (sym n.0) in
    same_stop xs ys (max last (rank_of x.id)) a b one other
    (record { counted = p.counted.1; sorted = p.sorted.1; final = p.final.1; fails = p.fails })
    (record {
      counted = q.counted.1;
      sorted = subst (λ (k : ℕ). AreSorted k ys) same q.sorted.1;
      final = q.final.1;
      fails = subst (λ (k : ℕ). FailsSection other (last_of k ys) b) same q.fails;
    }) n.1

same_stops : (bytes : List ℕ) (one other : ModuleFault) (at place : ℕ) → SectionsStopAt bytes one at → SectionsStopAt bytes other place →
    (one ≡ other) × (at ≡ place)
same_stops bytes one other at place p q =
    let u = of_module p.front p.sections p.before in
    let v = of_module q.front q.sections q.before in
    let e : joined u.pieces ++ p.back ≡ joined v.pieces ++ q.back = ap (drop 8) (ap (λ (l : List ℕ). l ++ p.back) (sym u.bytes_are)
    ∙ sym p.parts ∙ q.parts ∙ ap (λ (l : List ℕ). l ++ q.back) v.bytes_are) in
    let one_last : last_rank 0 p.sections ≡ last_of 0 u.pieces = ap (last_rank 0) u.are ∙ last_is u.pieces 8 0 in
    let other_last : last_rank 0 q.sections ≡ last_of 0 v.pieces = ap (last_rank 0) v.are ∙ last_is v.pieces 8 0 in
    let s = same_stop u.pieces v.pieces 0 p.back q.back one other (record {
      counted = u.counted;
      sorted = u.sorted;
      final = u.final;
      fails = subst (λ (k : ℕ). FailsSection one k p.back) one_last p.fails;
    })
    (record {
      counted = v.counted;
      sorted = v.sorted;
      final = v.final;
      fails = subst (λ (k : ℕ). FailsSection other k q.back) other_last q.fails;
    }) e in
    (s.0, omega (arith, p.at, q.at, s.1, ap length p.parts, ap length q.parts, length-append p.front p.back, length-append q.front q.back))

-- ---- all faults

-- a fault of the first bytes, or of a section
data IsOne (bytes : List ℕ) (fault : ModuleFault) (at : ℕ) : Type 0 where
  none : fault ≡ faults.Memory → IsOne bytes fault at
  first : fault ≡ faults.BadMagic → (BeginsWith bytes magic → ⊥) → at ≡ 0 → IsOne bytes fault at
  second : fault ≡ faults.BadVersion → BeginsWith bytes magic → (BeginsWith bytes preamble → ⊥) → at ≡ 4 → IsOne bytes fault at
  behind : SectionsStopAt bytes fault at → IsOne bytes fault at

one_of : (bytes : List ℕ) (fault : ModuleFault) (at : ℕ) → IsSectionFault bytes fault at → IsOne bytes fault at
one_of bytes faults.BadMagic at s = first refl s.0 s.1
one_of bytes faults.BadVersion at s = second refl s.0 s.1 s.2
one_of bytes faults.UnknownSection at s = behind s
one_of bytes faults.Truncated at s = behind s
one_of bytes faults.BadInteger at s = behind s
one_of bytes faults.OutOfOrder at s = behind s
one_of bytes faults.Linkable at s = behind s
one_of bytes faults.Memory at s = none refl
one_of bytes _ at s = absurd s

whole_preamble : (bytes : List ℕ) (fault : ModuleFault) (at : ℕ) → SectionsStopAt bytes fault at → BeginsWith bytes preamble
whole_preamble bytes fault at s = (s.before.text ++ s.back, s.parts ∙ ap (λ (l : List ℕ). l ++ s.back) s.before.parts)

shorter : (bytes : List ℕ) → BeginsWith bytes preamble → BeginsWith bytes magic
shorter bytes p = (0x01 ∷ 0x00 ∷ 0x00 ∷ 0x00 ∷ p.0, p.1)

both : (bytes : List ℕ) (one other : ModuleFault) (at place : ℕ) → IsOne bytes one at → IsOne bytes other place → (one ≡ faults.Memory → ⊥) →
    (other ≡ faults.Memory → ⊥) → (one ≡ other) × (at ≡ place)
both bytes one other at place (none m) q n k = absurd (n m)
both bytes one other at place p (none m) n k = absurd (k m)
both bytes one other at place (first f lacks z) (first g _ y) n k = (f ∙ sym g, z ∙ sym y)
both bytes one other at place (first f lacks z) (second g magic_is _ y) n k = absurd (lacks magic_is)
both bytes one other at place (first f lacks z) (behind s) n k = absurd (lacks (shorter bytes (whole_preamble bytes other place s)))
both bytes one other at place (second f magic_is lacks z) (first g lacking y) n k = absurd (lacking magic_is)
both bytes one other at place (second f magic_is lacks z) (second g _ _ y) n k = (f ∙ sym g, z ∙ sym y)
both bytes one other at place (second f magic_is lacks z) (behind s) n k = absurd (lacks (whole_preamble bytes other place s))
both bytes one other at place (behind s) (first g lacking y) n k = absurd (lacking (shorter bytes (whole_preamble bytes one at s)))
both bytes one other at place (behind s) (second g _ lacking y) n k = absurd (lacking (whole_preamble bytes one at s))
both bytes one other at place (behind s) (behind t) n k = same_stops bytes one other at place s t

pub one_fault : (bytes : List ℕ) (one other : ModuleFault) (at place : ℕ) → IsSectionFault bytes one at → IsSectionFault bytes other place →
    (one ≡ faults.Memory → ⊥) → (other ≡ faults.Memory → ⊥) → (one ≡ other) × (at ≡ place)
one_fault bytes one other at place p q n k = both bytes one other at place (one_of bytes one at p) (one_of bytes other place q) n k
