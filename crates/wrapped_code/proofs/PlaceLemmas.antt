-- Where operators stand in a body.
use Rattle.std.proofs.Common.{◌≡◌, ℕ, zero, suc, ◌+◌, ◌<◌, List, [], ◌∷◌, ◌++◌, length, drop, Some, refl, ap, ◌∙◌, arith}
use Rattle.std.specs.Prelude.{map, slice_get}
use Rattle.wasm_code.specs.Instruction.{Instruction}
use Rattle.wasm_code.specs.declared.operator.Operator.{Operator}
use Rattle.wasm_code.specs.declared.operator.Operator.TheVariants as op
use Rattle.wasm_equivalence.specs.control.Function.{structural, piece}
use Rattle.wasm_equivalence.specs.control.Blocks.{closing, other_part}
use Rattle.wrapped_code.specs.Wrapped.{Wrapped, plain, both, block, loop, choice, leaving, exits, once, trap, written}

-- ---- the structural operators of wrapped code

-- the structural operators, before others
abbrev pub bones : Wrapped → List Operator → List Operator
bones (plain code) back = back
bones (both a b) back = bones a (bones b back)
bones (block t a) back = op.Block t ∷ bones a (op.End ∷ back)
bones (loop t a) back = op.Loop t ∷ bones a (op.End ∷ back)
bones (choice t a b) back = op.If t ∷ bones a (op.Else ∷ bones b (op.End ∷ back))
bones (leaving t a dead) back = op.Block t ∷ bones a (op.Br 0 ∷ bones dead (op.End ∷ back))
bones (exits t a b) back = op.Block t ∷ bones a (op.BrIf 0 ∷ bones b (op.End ∷ back))
bones (once t a) back = op.Loop t ∷ bones a (op.BrIf 0 ∷ op.End ∷ back)
bones trap back = op.Unreachable ∷ back

-- the number behind them, where the first has that number
abbrev pub past : Wrapped → ℕ → ℕ
past (plain code) n = n
past (both a b) n = past b (past a n)
past (block t a) n = suc (past a (suc n))
past (loop t a) n = suc (past a (suc n))
past (choice t a b) n = suc (past b (suc (past a (suc n))))
past (leaving t a dead) n = suc (past dead (suc (past a (suc n))))
past (exits t a b) n = suc (past b (suc (past a (suc n))))
past (once t a) n = suc (suc (past a (suc n)))
past trap n = suc n

pub coded_structure : (code : List Instruction) (back : List Operator) →
    structural (map (λ (i : Instruction). op.Instr i) code ++ back) ≡ structural back
coded_structure [] back = refl
coded_structure (i ∷ code) back = coded_structure code back

pub written_structure : (c : Wrapped) (back : List Operator) → structural (written c back) ≡ bones c (structural back)
written_structure (plain code) back = coded_structure code back
written_structure (both a b) back = written_structure a (written b back) ∙ ap (bones a) (written_structure b back)
written_structure (block t a) back = ap (λ os. op.Block t ∷ os) (written_structure a (op.End ∷ back))
written_structure (loop t a) back = ap (λ os. op.Loop t ∷ os) (written_structure a (op.End ∷ back))
written_structure (choice t a b) back =
    ap (λ os. op.If t ∷ os) (written_structure a (op.Else ∷ written b (op.End ∷ back)) ∙
    ap (λ os. bones a (op.Else ∷ os)) (written_structure b (op.End ∷ back)))
written_structure (leaving t a dead) back =
    ap (λ os. op.Block t ∷ os) (written_structure a (op.Br 0 ∷ written dead (op.End ∷ back)) ∙
    ap (λ os. bones a (op.Br 0 ∷ os)) (written_structure dead (op.End ∷ back)))
written_structure (exits t a dead) back =
    ap (λ os. op.Block t ∷ os) (written_structure a (op.BrIf 0 ∷ written dead (op.End ∷ back)) ∙
    ap (λ os. bones a (op.BrIf 0 ∷ os)) (written_structure dead (op.End ∷ back)))
written_structure (once t a) back = ap (λ os. op.Loop t ∷ os) (written_structure a (op.BrIf 0 ∷ op.End ∷ back))
written_structure trap back = refl

pub bones_append : (c : Wrapped) (xs ys : List Operator) → bones c (xs ++ ys) ≡ bones c xs ++ ys
bones_append (plain code) xs ys = refl
bones_append (both a b) xs ys = ap (bones a) (bones_append b xs ys) ∙ bones_append a (bones b xs) ys
bones_append (block t a) xs ys = ap (λ os. op.Block t ∷ os) (bones_append a (op.End ∷ xs) ys)
bones_append (loop t a) xs ys = ap (λ os. op.Loop t ∷ os) (bones_append a (op.End ∷ xs) ys)
bones_append (choice t a b) xs ys =
    ap (λ os. op.If t ∷ os) (ap (λ os. bones a (op.Else ∷ os)) (bones_append b (op.End ∷ xs) ys) ∙ bones_append a (op.Else ∷ bones b (op.End ∷ xs)) ys)
bones_append (leaving t a b) xs ys =
    ap (λ os. op.Block t ∷ os) (ap (λ os. bones a (op.Br 0 ∷ os)) (bones_append b (op.End ∷ xs) ys) ∙ bones_append a (op.Br 0 ∷ bones b (op.End ∷ xs)) ys)
bones_append (exits t a b) xs ys =
    ap (λ os. op.Block t ∷ os) (ap (λ os. bones a (op.BrIf 0 ∷ os)) (bones_append b (op.End ∷ xs) ys) ∙ bones_append a (op.BrIf 0 ∷ bones b (op.End ∷ xs)) ys)
bones_append (once t a) xs ys = ap (λ os. op.Loop t ∷ os) (bones_append a (op.BrIf 0 ∷ op.End ∷ xs) ys)
bones_append trap xs ys = refl

pub past_adds : (c : Wrapped) (n : ℕ) → past c n ≡ past c 0 + n
past_adds (plain code) n = omega arith
past_adds (both a b) n = let x = past_adds a n in let y = past_adds b (past a n) in let z = past_adds b (past a 0) in omega arith
past_adds (block t a) n = let x = past_adds a (suc n) in let y = past_adds a 1 in omega arith
past_adds (loop t a) n = let x = past_adds a (suc n) in let y = past_adds a 1 in omega arith
past_adds (choice t a b) n =
    let x = past_adds a (suc n) in let y = past_adds a 1 in
    let u = past_adds b (suc (past a (suc n))) in let v = past_adds b (suc (past a 1)) in omega arith
past_adds (leaving t a b) n =
    let x = past_adds a (suc n) in let y = past_adds a 1 in
    let u = past_adds b (suc (past a (suc n))) in let v = past_adds b (suc (past a 1)) in omega arith
past_adds (exits t a b) n =
    let x = past_adds a (suc n) in let y = past_adds a 1 in
    let u = past_adds b (suc (past a (suc n))) in let v = past_adds b (suc (past a 1)) in omega arith
past_adds (once t a) n = let x = past_adds a (suc n) in let y = past_adds a 1 in omega arith
past_adds trap n = omega arith

pub past_counts : (c : Wrapped) (os : List Operator) → length (bones c os) ≡ past c (length os)
past_counts (plain code) os = refl
past_counts (both a b) os =
    let n = length os in
    let x = past_adds a (past b n) in let y = past_adds b n in let u = past_adds a n in let v = past_adds b (past a n) in
    past_counts a (bones b os) ∙ (ap (past a) (past_counts b os) ∙ omega arith)
past_counts (block t a) os = ap suc (past_counts a (op.End ∷ os))
past_counts (loop t a) os = ap suc (past_counts a (op.End ∷ os))
past_counts (choice t a b) os =
    let n = length os in
    let x = past_adds a (suc (past b (suc n))) in let y = past_adds b (suc n) in let u = past_adds a (suc n) in
    let v = past_adds b (suc (past a (suc n))) in
    ap suc (past_counts a (op.Else ∷ bones b (op.End ∷ os)) ∙ (ap (λ i. past a (suc i)) (past_counts b (op.End ∷ os)) ∙ omega arith))
past_counts (leaving t a b) os =
    let n = length os in
    let x = past_adds a (suc (past b (suc n))) in let y = past_adds b (suc n) in let u = past_adds a (suc n) in
    let v = past_adds b (suc (past a (suc n))) in
    ap suc (past_counts a (op.Br 0 ∷ bones b (op.End ∷ os)) ∙ (ap (λ i. past a (suc i)) (past_counts b (op.End ∷ os)) ∙ omega arith))
past_counts (exits t a b) os =
    let n = length os in
    let x = past_adds a (suc (past b (suc n))) in let y = past_adds b (suc n) in let u = past_adds a (suc n) in
    let v = past_adds b (suc (past a (suc n))) in
    ap suc (past_counts a (op.BrIf 0 ∷ bones b (op.End ∷ os)) ∙ (ap (λ i. past a (suc i)) (past_counts b (op.End ∷ os)) ∙ omega arith))
past_counts (once t a) os =
    let x = past_adds a (suc (suc (length os))) in let y = past_adds a (suc (length os)) in
    ap suc (past_counts a (op.BrIf 0 ∷ op.End ∷ os) ∙ omega arith)
past_counts trap os = refl

-- blocks are closed where they are opened
pub closing_past : (c : Wrapped) (d k : ℕ) (back : List Operator) → closing d k (bones c back) ≡ closing d (past c k) back
closing_past (plain code) d k back = refl
closing_past (both a b) d k back = closing_past a d k (bones b back) ∙ closing_past b d (past a k) back
closing_past (block t a) d k back = closing_past a (suc d) (suc k) (op.End ∷ back)
closing_past (loop t a) d k back = closing_past a (suc d) (suc k) (op.End ∷ back)
closing_past (choice t a b) d k back =
    closing_past a (suc d) (suc k) (op.Else ∷ bones b (op.End ∷ back)) ∙ closing_past b (suc d) (suc (past a (suc k))) (op.End ∷ back)
closing_past (leaving t a b) d k back =
    closing_past a (suc d) (suc k) (op.Br 0 ∷ bones b (op.End ∷ back)) ∙ closing_past b (suc d) (suc (past a (suc k))) (op.End ∷ back)
closing_past (exits t a b) d k back =
    closing_past a (suc d) (suc k) (op.BrIf 0 ∷ bones b (op.End ∷ back)) ∙ closing_past b (suc d) (suc (past a (suc k))) (op.End ∷ back)
closing_past (once t a) d k back = closing_past a (suc d) (suc k) (op.BrIf 0 ∷ op.End ∷ back)
closing_past trap d k back = refl

pub other_past : (c : Wrapped) (d k : ℕ) (back : List Operator) → other_part d k (bones c back) ≡ other_part d (past c k) back
other_past (plain code) d k back = refl
other_past (both a b) d k back = other_past a d k (bones b back) ∙ other_past b d (past a k) back
other_past (block t a) d k back = other_past a (suc d) (suc k) (op.End ∷ back)
other_past (loop t a) d k back = other_past a (suc d) (suc k) (op.End ∷ back)
other_past (choice t a b) d k back =
    other_past a (suc d) (suc k) (op.Else ∷ bones b (op.End ∷ back)) ∙ other_past b (suc d) (suc (past a (suc k))) (op.End ∷ back)
other_past (leaving t a b) d k back =
    other_past a (suc d) (suc k) (op.Br 0 ∷ bones b (op.End ∷ back)) ∙ other_past b (suc d) (suc (past a (suc k))) (op.End ∷ back)
other_past (exits t a b) d k back =
    other_past a (suc d) (suc k) (op.BrIf 0 ∷ bones b (op.End ∷ back)) ∙ other_past b (suc d) (suc (past a (suc k))) (op.End ∷ back)
other_past (once t a) d k back = other_past a (suc d) (suc k) (op.BrIf 0 ∷ op.End ∷ back)
other_past trap d k back = refl

-- ---- behind the first operators of a body

-- These stand in the body behind its first n structural operators, in the n-th piece or at its end.
pub record IsBehind (body : List Operator) (n : ℕ) (os : List Operator) : Type 0 where
  pub pieces : (j k : ℕ) → j ≡ n + k → piece body (suc j) ≡ piece os (suc k)
  pub bones_are : drop n (structural body) ≡ structural os

-- the next one is structural
pub record Next (body : List Operator) (n : ℕ) (o : Operator) (os : List Operator) : Type 0 where
  pub at : slice_get (structural body) n ≡ Some o
  pub later : drop (suc n) (structural body) ≡ structural os
  pub first : piece body (suc n) ≡ piece os 0
  pub behind : IsBehind body (suc n) os

pub dropped : {X : Type 0} (xs : List X) (p : ℕ) (x : X) (ys : List X) → drop p xs ≡ x ∷ ys → (slice_get xs p ≡ Some x) × (drop (suc p) xs ≡ ys)
dropped [] zero x ys e = absurd cc
dropped [] (suc p) x ys e = absurd cc
dropped (z ∷ xs) zero x ys e = (cc, cc)
dropped (z ∷ xs) (suc p) x ys e = dropped xs p x ys e

pub next_is : (body : List Operator) (n : ℕ) (o : Operator) (os : List Operator) → ((k : ℕ) → piece (o ∷ os) (suc k) ≡ piece os k) →
    structural (o ∷ os) ≡ o ∷ structural os → IsBehind body n (o ∷ os) → Next body n o os
next_is body n o os cuts keeps h =
    let d = dropped (structural body) n o (structural os) (h.bones_are ∙ keeps) in
    record {
      at = d.0;
      later = d.1;
      first = h.pieces n 0 (omega arith) ∙ cuts 0;
      behind = record { pieces = λ j k e. h.pieces j (suc k) (omega arith) ∙ cuts (suc k); bones_are = d.1 };
    }

pub coded_behind : (body : List Operator) (n : ℕ) (code : List Instruction) (back : List Operator) →
    IsBehind body n (map (λ (i : Instruction). op.Instr i) code ++ back) → IsBehind body n back
coded_behind body n [] back h = h
coded_behind body n (i ∷ code) back h = coded_behind body n code back (record { pieces = h.pieces; bones_are = h.bones_are })

pub written_behind : (body : List Operator) (c : Wrapped) (n : ℕ) (back : List Operator) → IsBehind body n (written c back) →
    IsBehind body (past c n) back
written_behind body (plain code) n back h = coded_behind body n code back h
written_behind body (both a b) n back h = written_behind body b (past a n) back (written_behind body a n (written b back) h)
written_behind body (block t a) n back h =
    let x = next_is body n (op.Block t) (written a (op.End ∷ back)) (λ k. refl) refl h in
    (next_is body (past a (suc n)) op.End back (λ k. refl) refl (written_behind body a (suc n) (op.End ∷ back) x.behind)).behind
written_behind body (loop t a) n back h =
    let x = next_is body n (op.Loop t) (written a (op.End ∷ back)) (λ k. refl) refl h in
    (next_is body (past a (suc n)) op.End back (λ k. refl) refl (written_behind body a (suc n) (op.End ∷ back) x.behind)).behind
written_behind body (choice t a b) n back h =
    let x = next_is body n (op.If t) (written a (op.Else ∷ written b (op.End ∷ back))) (λ k. refl) refl h in
    let y = next_is body (past a (suc n)) op.Else (written b (op.End ∷ back)) (λ k. refl) refl
    (written_behind body a (suc n) (op.Else ∷ written b (op.End ∷ back)) x.behind) in
    let j = suc (past a (suc n)) in
    (next_is body (past b j) op.End back (λ k. refl) refl (written_behind body b j (op.End ∷ back) y.behind)).behind
written_behind body (leaving t a b) n back h =
    let x = next_is body n (op.Block t) (written a (op.Br 0 ∷ written b (op.End ∷ back))) (λ k. refl) refl h in
    let y = next_is body (past a (suc n)) (op.Br 0) (written b (op.End ∷ back)) (λ k. refl) refl
    (written_behind body a (suc n) (op.Br 0 ∷ written b (op.End ∷ back)) x.behind) in
    let j = suc (past a (suc n)) in
    (next_is body (past b j) op.End back (λ k. refl) refl (written_behind body b j (op.End ∷ back) y.behind)).behind
written_behind body (exits t a b) n back h =
    let x = next_is body n (op.Block t) (written a (op.BrIf 0 ∷ written b (op.End ∷ back))) (λ k. refl) refl h in
    let y = next_is body (past a (suc n)) (op.BrIf 0) (written b (op.End ∷ back)) (λ k. refl) refl
    (written_behind body a (suc n) (op.BrIf 0 ∷ written b (op.End ∷ back)) x.behind) in
    let j = suc (past a (suc n)) in
    (next_is body (past b j) op.End back (λ k. refl) refl (written_behind body b j (op.End ∷ back) y.behind)).behind
written_behind body (once t a) n back h =
    let x = next_is body n (op.Loop t) (written a (op.BrIf 0 ∷ op.End ∷ back)) (λ k. refl) refl h in
    let y = next_is body (past a (suc n)) (op.BrIf 0) (op.End ∷ back) (λ k. refl) refl
    (written_behind body a (suc n) (op.BrIf 0 ∷ op.End ∷ back) x.behind) in
    (next_is body (suc (past a (suc n))) op.End back (λ k. refl) refl y.behind).behind
written_behind body trap n back h = (next_is body n op.Unreachable back (λ k. refl) refl h).behind

-- ---- behind a front

abbrev pub count : List Operator → ℕ
count os = length (structural os)

pub front_behind : (front rest : List Operator) → IsBehind (front ++ rest) (count front) rest
front_behind [] rest = record { pieces = λ j k e. ap (λ i. piece rest (suc i)) (let x : j ≡ k = omega arith in x); bones_are = refl }
front_behind (op.Instr i ∷ front) rest = let h = front_behind front rest in record { pieces = h.pieces; bones_are = h.bones_are }
front_behind (o ∷ front) rest =
    let h = front_behind front rest in
    record {
      pieces = λ j k e. ap (piece (front ++ rest)) (let x : j ≡ suc (count front + k) = omega arith in x) ∙ h.pieces (count front + k) k refl;
      bones_are = h.bones_are;
    }

pub front_structure : (front rest : List Operator) → structural (front ++ rest) ≡ structural front ++ structural rest
front_structure [] rest = refl
front_structure (op.Instr i ∷ front) rest = front_structure front rest
front_structure (o ∷ front) rest = ap (λ os. o ∷ os) (front_structure front rest)

pub front_piece : (front rest : List Operator) (k : ℕ) → k < count front → piece (front ++ rest) k ≡ piece front k
front_piece [] rest k l = absurd (omega arith)
front_piece (op.Instr i ∷ front) rest zero l = ap (λ is. i ∷ is) (front_piece front rest 0 l)
front_piece (op.Instr i ∷ front) rest (suc k) l = front_piece front rest (suc k) l
front_piece (o ∷ front) rest zero l = refl
front_piece (o ∷ front) rest (suc k) l = front_piece front rest k (omega arith)

pub last_piece : (front rest : List Operator) → piece (front ++ rest) (count front) ≡ piece front (count front) ++ piece rest 0
last_piece [] rest = refl
last_piece (op.Instr i ∷ front) rest = go (count front) (last_piece front rest)
  where
    go : (n : ℕ) → piece (front ++ rest) n ≡ piece front n ++ piece rest 0 →
        piece (op.Instr i ∷ (front ++ rest)) n ≡ piece (op.Instr i ∷ front) n ++ piece rest 0
    go zero e = ap (λ is. i ∷ is) e
    go (suc n) e = e
last_piece (o ∷ front) rest = last_piece front rest
