-- The loop that reads the lanes of a shuffle.
use Rattle.std.proofs.Common.{◌≡◌, ℕ, suc, ◌+◌, ◌<◌, ◌≤◌, eqb, List, [], ◌∷◌, ◌++◌, length, take, drop, get_or, set, Result, Ok, Err, refl}
use Rattle.std.proofs.Common.{sym, ap, ◌∙◌, ◌⊎◌, inl, inr, append_assoc, append-nil, length-append, length-set, arith}
use Rattle.std.specs.Prelude.{if◌then◌else◌}
use Rattle.std.specs.Fmt.{decimal}
use Rattle.std.specs.List.{flat_map}
use Rattle.std.specs.Option.{ok_or}
use Rattle.std.proofs.lemmas.Bool.{eq-eqb}
use Rattle.std.proofs.lemmas.List.{take_all}
use Rattle.std.proofs.Math.Seq.{take-suc-set}
use Rattle.peephole_payloads.specs.Number.{read_unsigned}
use Rattle.peephole_payloads.specs.PayloadText.{and_then, dot_parts, dotted, read_lanes, read_shuffle}
use Rattle.peephole_payloads.specs.declared.payload.Shuffle.{Shuffle}
use Rattle.peephole_payloads.specs.declared.term_error.TermError.{TermError}
use Rattle.peephole_payloads.specs.declared.term_error.TermError.TheVariants.{BadInteger, WrongLanes}

abbrev pub onto : List ℕ → Result (List ℕ) TermError → Result (List ℕ) TermError
onto done r = and_then r (λ ns. Ok (done ++ ns))

-- the lanes read so far: all are there, or there are more than there is room for
abbrev pub Kept : List ℕ → List ℕ → ℕ → Type 0
Kept done indices count = ((length done ≤ 16) × (count ≡ length done) × (take count indices ≡ done)) ⊎ ((16 < length done) × (count ≡ 17))

pub record Reading (text : List ℕ) (left : List (List ℕ)) (indices : List ℕ) (count : ℕ) : Type 0 where
  pub done : List ℕ
  pub read : read_lanes (dot_parts text) ≡ onto done (read_lanes left)
  pub kept : Kept done indices count
  pub long : length indices ≡ 16

onto_nil : (r : Result (List ℕ) TermError) → r ≡ onto [] r
onto_nil (Ok ns) = refl
onto_nil (Err e) = refl

pub starts : (text : List ℕ) (left : List (List ℕ)) (indices : List ℕ) → left ≡ dot_parts text → length indices ≡ 16 → Reading text left indices 0
starts text left indices e long = record {
  done = [];
  read = onto_nil (read_lanes (dot_parts text)) ∙ ap (λ ps. onto [] (read_lanes ps)) (sym e);
  kept = inl (omega arith, refl, refl);
  long = long;
}

one_more : (done : List ℕ) (lane : ℕ) (r : Result (List ℕ) TermError) → onto done (and_then r (λ ns. Ok (lane ∷ ns))) ≡ onto (done ++ (lane ∷ [])) r
one_more done lane (Ok ns) = ap (λ (l : List ℕ). Ok l) (sym (append_assoc done (lane ∷ []) ns))
one_more done lane (Err e) = refl

abbrev Behind : List (List ℕ) → ℕ → Result (List ℕ) TermError
Behind more n = and_then (read_lanes more) (λ ns. Ok (n ∷ ns))

moved : (text : List ℕ) (left : List (List ℕ)) (part : List ℕ) (more : List (List ℕ)) (done : List ℕ) (lane : ℕ) →
    read_lanes (dot_parts text) ≡ onto done (read_lanes left) → left ≡ part ∷ more
    → Ok lane ≡ ok_or (read_unsigned 8 part) BadInteger → read_lanes (dot_parts text) ≡ onto (done ++ (lane ∷ [])) (read_lanes more)
moved text left part more done lane h e k =
    h ∙ ap (λ ps. onto done (read_lanes ps)) e ∙ ap (λ r. onto done (and_then r (Behind more))) (sym k) ∙ one_more done lane (read_lanes more)

pub keeps : (text : List ℕ) (left : List (List ℕ)) (part : List ℕ) (more : List (List ℕ)) (indices : List ℕ) (count lane : ℕ) →
    Reading text left indices count → left ≡ part ∷ more
    → Ok lane ≡ ok_or (read_unsigned 8 part) BadInteger → count < 16 → Reading text more (set indices count lane) (count + 1)
keeps text left part more indices count lane h e k low = record {
  done = h.done ++ (lane ∷ []);
  read = moved text left part more h.done lane h.read e k;
  kept = elim h.kept [
    | inl few ↦
        inl (
          omega (arith, length-append h.done (lane ∷ [])),
          omega (arith, length-append h.done (lane ∷ [])),
          ap (λ n. take n (set indices count lane)) {x = count + 1} {y = suc count} (omega arith)
              ∙ take-suc-set indices count lane (omega (arith, h.long)) ∙ ap (λ l. l ++ (lane ∷ [])) few.2,
        )
    | inr many ↦ absurd (omega arith)
  ];
  long = length-set indices count lane ∙ h.long;
}

pub overflows : (text : List ℕ) (left : List (List ℕ)) (part : List ℕ) (more : List (List ℕ)) (indices : List ℕ) (count lane : ℕ) →
    Reading text left indices count → left ≡ part ∷ more
    → Ok lane ≡ ok_or (read_unsigned 8 part) BadInteger → 16 ≤ count → Reading text more indices 17
overflows text left part more indices count lane h e k high = record {
  done = h.done ++ (lane ∷ []);
  read = moved text left part more h.done lane h.read e k;
  kept = inr (
    elim h.kept [ inl few ↦ omega (arith, length-append h.done (lane ∷ [])) | inr many ↦ omega (arith, length-append h.done (lane ∷ [])) ],
    refl,
  );
  long = h.long;
}

abbrev Made : List ℕ → Result Shuffle TermError
Made ns = if eqb (length ns) 16 then Ok (record { indices = ns }) else Err WrongLanes

pub refused : (text : List ℕ) (left : List (List ℕ)) (part : List ℕ) (more : List (List ℕ)) (indices : List ℕ) (count : ℕ) (f : TermError) →
    Reading text left indices count → left ≡ part ∷ more
    → Err f ≡ ok_or (read_unsigned 8 part) BadInteger → Err f ≡ read_shuffle text
refused text left part more indices count f h e k =
    sym (ap (λ r. and_then r Made) (h.read ∙ ap (λ ps. onto h.done (read_lanes ps)) e ∙ ap (λ r. onto h.done (and_then r (Behind more))) (sym k)))

all_read : (text : List ℕ) (left : List (List ℕ)) (done : List ℕ) → read_lanes (dot_parts text) ≡ onto done (read_lanes left) → left ≡ [] →
    read_shuffle text ≡ Made done
all_read text left done h e = ap (λ r. and_then r Made) (h ∙ ap (λ ps. onto done (read_lanes ps)) e) ∙ ap Made (append-nil done)

pub whole : (text : List ℕ) (left : List (List ℕ)) (indices : List ℕ) (count : ℕ) → Reading text left indices count → left ≡ [] → count ≡ 16
    → Ok (record { indices = indices }) ≡ read_shuffle text
whole text left indices count h e full = elim h.kept [
  | inl few ↦
      let same : indices ≡ h.done = sym (take_all count indices (omega (arith, h.long))) ∙ few.2 in
      sym (all_read text left h.done h.read e ∙ ap Made (sym same) ∙ ap (λ b. if b then Ok (record { indices = indices }) else Err WrongLanes)
      (eq-eqb (length indices) 16 h.long))
  | inr many ↦ absurd (omega arith)
]

-- ---- writing

pub dotted_is : (ns : List ℕ) → length ns ≡ 16 → decimal (get_or ns 0 0) ++ flat_map (λ m. 46 ∷ decimal m) (take 15 (drop 1 ns)) ≡ dotted ns
dotted_is [] long = absurd (omega arith)
dotted_is (n ∷ ns) long = ap (λ l. decimal n ++ flat_map (λ m. 46 ∷ decimal m) l) (take_all 15 ns (omega arith))
