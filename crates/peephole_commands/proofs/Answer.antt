-- How the answer to the lines so far grows by a line.
use Rattle.std.proofs.Common.{◌≡◌, ℕ, suc, zero, ◌+◌, ◌<◌, ◌⊎◌, true, false, List, [], ◌∷◌, ◌++◌, length, take, drop, refl, ap, sym, ◌∙◌}
use Rattle.std.proofs.Common.{arith, append_assoc, append-nil, inl, inr, Ok, Err}
use Rattle.std.specs.Prelude.{Result}
use Rattle.peephole_script.specs.declared.fault.Fault.{Fault}
use Rattle.peephole_script.specs.declared.fault.Fault.TheVariants as fault
use Rattle.peephole_script.specs.Text.{lines_of}
use Rattle.peephole_commands.specs.State.{SessionState, Reply, start}
use Rattle.peephole_commands.specs.Commands.{step_line}
use Rattle.peephole_commands.specs.Answer.{CommandAnswer, prepend, answer_line, answer_from, answer_lines, fault_line, IsCommandAnswer}

abbrev Lines : Type 0
Lines = List (List ℕ)

abbrev pub state_line : SessionState → (SessionState → SessionState) → Result Reply Fault → SessionState
state_line s more (Ok reply) = more reply.next
state_line s more (Err f) = s

-- the state after lines that are not faulty
pub state_after : SessionState → Lines → SessionState
state_after s [] = s
state_after s (line ∷ lines) = state_line s (λ next. state_after next lines) (step_line s line)

abbrev AppendsAt : SessionState → ℕ → Lines → Lines → Type 0
AppendsAt s n xs ys = (answer_from s n xs).ok ≡ true → answer_from s n (xs ++ ys) ≡ prepend (answer_from s n xs).written
    (answer_from (state_after s xs) (n + length xs) ys)

prepend_twice : (a b : List ℕ) (w : CommandAnswer) → prepend a (prepend b w) ≡ prepend (a ++ b) w
prepend_twice a b w = ap (λ t. let r : CommandAnswer = record { written = t; ok = w.ok } in r) (sym (append_assoc a b w.written))

answer_append : (s : SessionState) (n : ℕ) (xs ys : Lines) → AppendsAt s n xs ys
unfolding answer_from state_after
answer_append s n [] ys h = let e : n + 0 ≡ n = omega arith in rw e refl
answer_append s n (x ∷ xs) ys h =
    let more : SessionState → CommandAnswer = λ next. answer_from next (n + 1) (xs ++ ys) in
    let front : SessionState → CommandAnswer = λ next. answer_from next (n + 1) xs in
    let e : n + suc (length xs) ≡ n + 1 + length xs = omega arith in
    (elim (step_line s x) as (λ r. (answer_line n front r).ok ≡ true → answer_line n more r ≡ prepend (answer_line n front r).written
    (answer_from (state_line s (λ next. state_after next xs) r) (n + suc (length xs)) ys)) [
      | Ok r ↦ λ k. rw e (ap (prepend r.text) (answer_append r.next (n + 1) xs ys k) ∙ prepend_twice r.text _ _)
      | Err f ↦ λ k. cc
    ]) h

-- the lines so far are not faulty and led to the state s; `left` is what is left
pub record Reached (all : Lines) (number : ℕ) (left : Lines) (s : SessionState) : Type 0 where
  pub sound : (answer_lines (take number all)).ok ≡ true
  pub state : state_after start (take number all) ≡ s
  pub rest : drop number all ≡ left

-- what they wrote
abbrev pub front : Lines → ℕ → List ℕ
front all number = (answer_lines (take number all)).written

-- one place further
pub record OneMore (xs : Lines) (n : ℕ) (y : List ℕ) (ys : Lines) : Type 0 where
  pub taken : take (n + 1) xs ≡ take n xs ++ y ∷ []
  pub left : drop (n + 1) xs ≡ ys
  pub whole : take n xs ++ y ∷ ys ≡ xs
  pub count : length (take n xs) ≡ n
  pub there : n < length xs

one_more : (xs : Lines) (n : ℕ) (y : List ℕ) (ys : Lines) → drop n xs ≡ y ∷ ys → OneMore xs n y ys
one_more [] zero y ys h = cc
one_more [] (suc n) y ys h = cc
one_more (x ∷ xs) zero y ys h = record { taken = cc; left = cc; whole = cc; count = refl; there = omega arith }
one_more (x ∷ xs) (suc n) y ys h =
    let r : OneMore xs n y ys = one_more xs n y ys h in
    let e : suc n + 1 ≡ suc (n + 1) = omega arith in
    record {
      taken = rw (e, r.taken);
      left = rw (e, r.left);
      whole = ap (λ t. x ∷ t) r.whole;
      count = ap (λ t. suc t) r.count;
      there = omega (arith, r.there);
    }

take_all : (xs : Lines) (n : ℕ) → drop n xs ≡ [] → take n xs ≡ xs
take_all [] zero h = refl
take_all [] (suc n) h = refl
take_all (x ∷ xs) zero h = cc
take_all (x ∷ xs) (suc n) h = ap (λ t. x ∷ t) (take_all xs n h)

sound_is : (a : CommandAnswer) → a.ok ≡ true → a ≡ record { written = a.written; ok = true }
sound_is a h = ap (λ t. let r : CommandAnswer = record { written = a.written; ok = t } in r) h

pub reached_none : (all : Lines) → Reached all 0 all start
unfolding answer_from state_after
reached_none all = record { sound = refl; state = refl; rest = refl }

pub front_none : (all : Lines) → front all 0 ≡ []
unfolding answer_from
front_none all = refl

at_line : (all : Lines) (n : ℕ) (line : List ℕ) (left : Lines) (s : SessionState) (ys : Lines) → Reached all n (line ∷ left) s →
    answer_lines (take n all ++ line ∷ ys) ≡ prepend (front all n) (answer_line (n + 1) (λ next. answer_from next (n + 1 + 1) ys) (step_line s line))
unfolding answer_from
at_line all n line left s ys h =
    let count : length (take n all) ≡ n = (one_more all n line left h.rest).count in
    let e : 1 + length (take n all) ≡ n + 1 = omega arith in
    answer_append start 1 (take n all) (line ∷ ys) h.sound ∙ ap (prepend (front all n)) (
    ap (λ t. answer_from t (1 + length (take n all)) (line ∷ ys)) h.state ∙ ap (λ t. answer_from s t (line ∷ ys)) e
    )

state_append : (s : SessionState) (n : ℕ) (xs ys : Lines) → (answer_from s n xs).ok ≡ true → state_after s (xs ++ ys) ≡ state_after (state_after s xs) ys
unfolding answer_from state_after
state_append s n [] ys h = refl
state_append s n (x ∷ xs) ys h =
    let front : SessionState → CommandAnswer = λ next. answer_from next (n + 1) xs in
    (elim (step_line s x) as (λ r. (answer_line n front r).ok ≡ true → state_line s (λ next. state_after next (xs ++ ys)) r
    ≡ state_after (state_line s (λ next. state_after next xs) r) ys) [
      | Ok r ↦ λ k. state_append r.next (n + 1) xs ys k
      | Err f ↦ λ k. cc
    ]) h

after_line : (s : SessionState) (line : List ℕ) (r : Reply) → step_line s line ≡ Ok r → state_after s (line ∷ []) ≡ r.next
unfolding state_after
after_line s line r h = ap (state_line s (λ next. next)) h

quiet_end : (next : SessionState) (n : ℕ) → answer_from next n [] ≡ record { written = []; ok = true }
unfolding answer_from
quiet_end next n = refl

-- after a line that is not faulty
line_taken : (all : Lines) (n : ℕ) (line : List ℕ) (left : Lines) (s : SessionState) (r : Reply) → Reached all n (line ∷ left) s → step_line s line ≡ Ok r →
    answer_lines (take (n + 1) all) ≡ record { written = front all n ++ r.text; ok = true }
line_taken all n line left s r h k =
    let more = one_more all n line left h.rest in
    let e : answer_line (n + 1) (λ next. answer_from next (n + 1 + 1) []) (Ok r) ≡ record { written = r.text; ok = true } =
    ap (prepend r.text) (quiet_end r.next (n + 1 + 1)) ∙ ap (λ t. let a : CommandAnswer = record { written = t; ok = true } in a) (append-nil r.text) in
    ap answer_lines more.taken
    ∙ (at_line all n line left s [] h ∙ ap (prepend (front all n)) (ap (answer_line (n + 1) (λ next. answer_from next (n + 1 + 1) [])) k ∙ e))

pub reached_more : (all : Lines) (n : ℕ) (line : List ℕ) (left : Lines) (s : SessionState) (r : Reply) → Reached all n (line ∷ left) s →
    step_line s line ≡ Ok r → Reached all (n + 1) left r.next
reached_more all n line left s r h k =
    let more = one_more all n line left h.rest in
    record {
      sound = ap (λ a. a.ok) (line_taken all n line left s r h k);
      state = ap (state_after start) more.taken ∙ (state_append start 1 (take n all) (line ∷ []) h.sound ∙ (ap (λ t. state_after t (line ∷ [])) h.state
          ∙ after_line s line r k));
      rest = more.left;
    }

pub front_more : (all : Lines) (n : ℕ) (line : List ℕ) (left : Lines) (s : SessionState) (r : Reply) → Reached all n (line ∷ left) s →
    step_line s line ≡ Ok r → front all (n + 1) ≡ front all n ++ r.text
front_more all n line left s r h k = ap (λ a. a.written) (line_taken all n line left s r h k)

-- at a faulty line
reached_fault : (all : Lines) (n : ℕ) (line : List ℕ) (left : Lines) (s : SessionState) (f : Fault) → Reached all n (line ∷ left) s →
    step_line s line ≡ Err f → answer_lines all ≡ record { written = front all n ++ fault_line (n + 1) f; ok = false }
reached_fault all n line left s f h k =
    ap answer_lines (sym (one_more all n line left h.rest).whole)
    ∙ (at_line all n line left s left h ∙ ap (λ t. prepend (front all n) (answer_line (n + 1) (λ next. answer_from next (n + 1 + 1) left) t)) k)

-- at the end, and at a line that is faulty or wants memory
pub answered_end : (input : List ℕ) (n : ℕ) (s : SessionState) (rest : List ℕ) → Reached (lines_of input) n (lines_of rest) s → length rest ≡ 0 →
    IsCommandAnswer input (front (lines_of input) n) true
answered_end input n s [] h e =
    let all = lines_of input in
    inl (ap answer_lines (sym (take_all all n h.rest)) ∙ sound_is (answer_lines (take n all)) h.sound)
answered_end input n s (b ∷ rest) h e = absurd (omega arith)

pub answered_fault : (input : List ℕ) (n : ℕ) (line : List ℕ) (left : Lines) (s : SessionState) (f : Fault) → Reached (lines_of input) n (line ∷ left) s →
    (f ≡ fault.Memory) ⊎ (step_line s line ≡ Err f) → IsCommandAnswer input (front (lines_of input) n ++ fault_line (n + 1) f) false
answered_fault input n line left s f h (inl e) =
    let there = (one_more (lines_of input) n line left h.rest).there in
    inr (rw e (record { before = n; there = there; sound = h.sound; report = refl }), refl)
answered_fault input n line left s f h (inr k) = inl (reached_fault (lines_of input) n line left s f h k)
