-- What holds between the parts of a kind of nodes (this project): what a node is, and the ids of its children.
use Rattle.std.specs.Prelude.{◌≡◌, ℕ, List, length, Bool, Result, Ok, Err, refl}
use Rattle.std.specs.Bool.{Decides, one_answer}
use Rattle.std.specs.Cmp.{IsEquivalence}
use Rattle.std.proofs.Common.{sym, ◌∙◌}
use Rattle.peephole_payloads.specs.declared.term_error.TermError.{TermError}
use Rattle.peephole_nodes.specs.declared.id.Id.{Id}

module _ {L H : Type 0} (head : L → H) (ids : L → List Id) where
  -- both nodes say the same, and have the same children
  abbrev pub IsSame : L → L → Type 0
  IsSame l m = (head m ≡ head l) × (ids m ≡ ids l)

  -- both nodes say the same, and have as many children
  abbrev pub IsAlike : L → L → Type 0
  IsAlike l m = (head l ≡ head m) × (length (ids l) ≡ length (ids m))

  -- the node that a text with these children reads as, or the refusal
  abbrev pub ReadsInto : (List ℕ → ℕ → Result H TermError) → List ℕ → List Id → Result L TermError → Type 0
  ReadsInto reads text given (Ok l) = (reads text (length given) ≡ Ok (head l)) × (ids l ≡ given)
  ReadsInto reads text given (Err e) = reads text (length given) ≡ Err e

  -- a test that is true exactly where two nodes are alike is reflexive, symmetric and transitive
  pub alike_equivalence : (test : L → L → Bool) → ((l m : L) → Decides (test l m) (IsAlike l m)) → IsEquivalence test
  alike_equivalence test decides = record {
    refl = λ l. (decides l l).1 (refl, refl);
    symm = λ l m. one_answer (test l m) (test m l) (decides l m) (
      λ e. let a = (decides m l).0 e in
          (sym a.0, sym a.1),
      λ a. (decides m l).1 (sym a.0, sym a.1),
    );
    congr = λ l m n e.
        let a = (decides l m).0 e in
        one_answer (test l n) (test m n) (decides l n) (
          λ f. let b = (decides m n).0 f in
              (a.0 ∙ b.0, a.1 ∙ b.1),
          λ b. (decides m n).1 (sym a.0 ∙ b.0, sym a.1 ∙ b.1),
        );
  }
