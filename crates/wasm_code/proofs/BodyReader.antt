-- Reading a body as a function answers what the grammar says.
use Rattle.std.proofs.Common.{◌≡◌, ◌≢◌, ℕ, zero, suc, ◌+◌, ◌-◌, ◌<◌, ◌≤◌, ◌⊎◌, inl, inr, Bool, true, false, List, [], ◌∷◌, ◌++◌, length}
use Rattle.std.proofs.Common.{Result, Ok, Err, refl, sym, ap, subst, ◌∙◌, append_assoc, arith}
use Rattle.std.proofs.lemmas.List.{length-append, append-nil}
use Rattle.wasm_code.specs.declared.fault.Cause.{Cause}
use Rattle.wasm_code.specs.declared.fault.Cause.TheVariants.{Truncated, UnknownOpcode, BadInteger, BadImmediate}
use Rattle.wasm_code.specs.declared.fault.ReadKind.{ReadKind}
use Rattle.wasm_code.specs.declared.fault.ReadKind.TheVariants as kinds
use Rattle.wasm_code.specs.declared.operator.Operator.{Operator}
use Rattle.wasm_code.specs.Body.{SpellsAll, SpellsCode, SpellsBody, is_read, are_read, StopsAt, LacksEnd, IsFaultOf, IsFault, IsCodeFault}
use Rattle.wasm_code.specs.Body.{is_end, ends, kind_of}
use Rattle.wasm_code.specs.Reader.{Read, and_first, at_end, after, next_at, operators_at, read_at, body_at, any_code_at}
use Rattle.wasm_code.proofs.AnyLemmas.{SpellsRead, next_exact, some_any}
use Rattle.wasm_code.proofs.BodyLemmas.{first_read, shrinks}

-- what is answered where these operators stand in front
with_front : List (Operator × ℕ) → Read → Read
with_front [] r = r
with_front (x ∷ xs) r = and_first x (with_front xs r)

-- whether the last operator is `end`, where these stand behind another one
ended_after : Bool → List (Operator × ℕ) → Bool
ended_after ended [] = ended
ended_after ended (x ∷ xs) = ended_after (is_end x.0) xs

more_ends : (ended : Bool) (x : Operator × ℕ) (xs : List (Operator × ℕ)) → ended_after ended (x ∷ xs) ≡ ends (x ∷ xs)
unfolding ended_after
more_ends ended x [] = refl
more_ends ended x (y ∷ xs) = more_ends (is_end x.0) y xs

all_ends : (xs : List (Operator × ℕ)) → ended_after false xs ≡ ends xs
unfolding ended_after
all_ends [] = refl
all_ends (x ∷ xs) = more_ends false x xs

front_ok : (xs : List (Operator × ℕ)) → with_front xs (Ok []) ≡ Ok xs
unfolding with_front
front_ok [] = refl
front_ok (x ∷ xs) = rw (front_ok xs) refl

front_err : (xs : List (Operator × ℕ)) (e : ReadKind × ℕ) → with_front xs (Err e) ≡ Err e
unfolding with_front
front_err [] e = refl
front_err (x ∷ xs) e = rw (front_err xs e) refl

module _ (any : Bool) where
  -- one operator
  step : (most to : ℕ) (ended : Bool) (bytes rest : List ℕ) (x : Operator) → next_at any bytes ≡ Ok (x, rest) → 0 < length bytes → length bytes ≤ most
      → (m : ℕ) × (most ≡ suc m) × (operators_at any most to ended bytes ≡ and_first (x, to - length bytes) (operators_at any m to (is_end x) rest))
  unfolding operators_at
  step most to ended [] rest x e some room = absurd (omega (arith, some))
  step zero to ended (b ∷ bytes) rest x e some room = absurd (omega (arith, room))
  step (suc m) to ended (b ∷ bytes) rest x e some room = (m, refl, rw e refl)

  first_step : (most start to : ℕ) (ended : Bool) (x : Operator × ℕ) (front back : List ℕ) → x.1 ≡ start → SpellsRead any front x.0 →
      to ≡ start + (length front + length back) → length front + length back ≤ most
      → (m : ℕ) × (most ≡ suc m) × (operators_at any most to ended (front ++ back) ≡ and_first x (operators_at any m to (is_end x.0) back))
  first_step most start to ended x front back place spells at room =
      let len = length-append front back in
      let one = step most to ended (front ++ back) back x.0 ((next_exact any).again front back x.0 spells)
      (omega (arith, len, some_any front x.0 spells.0)) (omega (arith, room, len)) in
      let offset : to - length (front ++ back) ≡ x.1 = omega (arith, at, len, place) in
      (one.0, one.1, one.2 ∙ ap (λ (k : ℕ). and_first (x.0, k) (operators_at any one.0 to (is_end x.0) back)) offset)

  abbrev Walked : (most to : ℕ) (ended : Bool) (front back : List ℕ) (xs : List (Operator × ℕ)) → Type 0
  Walked most to ended front back xs = (m : ℕ) × (length back ≤ m)
      × (operators_at any most to ended (front ++ back) ≡ with_front xs (operators_at any m to (ended_after ended xs) back))

  then_walked : (most to m : ℕ) (ended : Bool) (x : Operator × ℕ) (xs : List (Operator × ℕ)) (front rear back text : List ℕ) → front ++ back ≡ text →
      operators_at any most to ended text ≡ and_first x (operators_at any m to (is_end x.0) (rear ++ back))
      → Walked m to (is_end x.0) rear back xs → Walked most to ended front back (x ∷ xs)
  unfolding with_front ended_after
  then_walked most to m ended x xs front rear back text is e w = (
    w.0,
    w.1,
    ap (λ (l : List ℕ). operators_at any most to ended l) is ∙ e
        ∙ ap (and_first x) w.2,
  )

  -- all operators in front
  walks : (xs : List (Operator × ℕ)) (most start to : ℕ) (ended : Bool) (front back : List ℕ) → SpellsAll xs start front →
      are_read any xs ≡ true → to ≡ start + length (front ++ back) → length (front ++ back) ≤ most → Walked most to ended front back xs
  unfolding with_front ended_after
  walks [] most start to ended front back all read at room = rw all (most, omega (arith, room, length-append front back), refl)
  walks (x ∷ xs) most start to ended front back all read at room =
      let reads = first_read any x xs read in
      let is : front ++ back ≡ all.front ++ (all.back ++ back) = ap (λ (l : List ℕ). l ++ back) all.parts ∙ append_assoc all.front all.back back in
      let len : length (front ++ back) ≡ length all.front + length (all.back ++ back) = ap length is ∙ length-append all.front (all.back ++ back) in
      let some = some_any all.front x.0 all.spells in
      let one = first_step most start to ended x all.front (all.back ++ back) all.offset (all.spells, reads.0) (omega (arith, at, len))
      (omega (arith, room, len)) in
      let rest = walks xs one.0 (start + length all.front) to (is_end x.0) all.back back all.rest reads.1 (omega (arith, at, len))
      (omega (arith, room, len, some, one.1)) in
      then_walked most to one.0 ended x xs front all.back back (all.front ++ (all.back ++ back)) is one.2 rest

  stop_step : (m to : ℕ) (ended : Bool) (first : ℕ) (back : List ℕ) (cause : Cause) → next_at any (first ∷ back) ≡ Err cause →
      length (first ∷ back) ≤ m → operators_at any m to ended (first ∷ back) ≡ Err (kind_of cause, to - length (first ∷ back))
  unfolding operators_at
  stop_step zero to ended first back cause e room = absurd (omega (arith, room))
  stop_step (suc m) to ended first back cause e room = rw e refl

  stops_at : (start : ℕ) (text : List ℕ) (offset : ℕ) (cause : Cause) → StopsAt any start text offset cause →
      read_at any start text ≡ Err (kind_of cause, offset)
  stops_at start text offset cause s =
      let len : length text ≡ length s.front + length (s.first ∷ s.back) = ap length s.parts ∙ length-append s.front (s.first ∷ s.back) in
      let at : start + length text - length (s.first ∷ s.back) ≡ offset = omega (arith, s.at, len) in
      let w = walks s.operators (length text) start (start + length text) false s.front (s.first ∷ s.back) s.before s.read (omega (arith, ap length s.parts))
      (omega (arith, ap length s.parts)) in
      let e = stop_step w.0 (start + length text) (ended_after false s.operators) s.first s.back cause
      ((next_exact any).fails (s.first ∷ s.back) cause s.cause) w.1 in
      ap (λ (l : List ℕ). operators_at any (length text) (start + length text) false l) s.parts ∙ w.2 ∙ ap (with_front s.operators) e
      ∙ ap (λ (k : ℕ). with_front s.operators (Err (kind_of cause, k))) at ∙ front_err s.operators (kind_of cause, offset)

  -- all bytes are operators
  whole : (start : ℕ) (text : List ℕ) (xs : List (Operator × ℕ)) → SpellsAll xs start text → are_read any xs ≡ true →
      read_at any start text ≡ with_front xs (at_end (ends xs) (start + length text))
  unfolding operators_at
  whole start text xs all read =
      let none = append-nil text in
      let w = walks xs (length text) start (start + length text) false text [] all read (omega (arith, ap length none)) (omega (arith, ap length none)) in
      ap (λ (l : List ℕ). operators_at any (length text) (start + length text) false l) (sym none) ∙ w.2
      ∙ ap (λ (b : Bool). with_front xs (at_end b (start + length text))) (all_ends xs)

  -- What is spelled is answered.
  pub read_spelled : (start : ℕ) (text : List ℕ) (xs : List (Operator × ℕ)) → SpellsCode start text xs → are_read any xs ≡ true →
      read_at any start text ≡ Ok xs
  read_spelled start text xs s read =
      let last : ends xs ≡ true = s.last in
      whole start text xs s.all read ∙ ap (λ (b : Bool). with_front xs (at_end b (start + length text))) last ∙ front_ok xs

  -- A fault is answered.
  pub read_faulty : (start : ℕ) (text : List ℕ) (kind : ReadKind) (offset : ℕ) → IsFaultOf any start (start + length text) text kind offset →
      kind ≢ kinds.Memory → read_at any start text ≡ Err (kind, offset)
  read_faulty start text kinds.Truncated offset s other = stops_at start text offset Truncated s
  read_faulty start text kinds.UnknownOpcode offset s other = stops_at start text offset UnknownOpcode s
  read_faulty start text kinds.BadInteger offset s other = stops_at start text offset BadInteger s
  read_faulty start text kinds.BadImmediate offset s other = stops_at start text offset BadImmediate s
  read_faulty start text kinds.NoEnd offset s other =
      let to = start + length text in
      whole start text s.0.operators s.0.all s.0.read ∙ ap (λ (b : Bool). with_front s.0.operators (at_end b to)) s.0.last
      ∙ front_err s.0.operators (kinds.NoEnd, to)
      ∙ ap (λ (k : ℕ). let r : Read = Err (kinds.NoEnd, k) in r) (sym s.1)
  read_faulty start text kinds.Memory offset s other = absurd (other refl)

  -- ---- every text has an outcome

  -- all bytes are operators, and the last one isn't `end`, where these stand behind another one
  record Unended (start to : ℕ) (ended : Bool) (text : List ℕ) (e : ReadKind × ℕ) : Type 0 where
    operators : List (Operator × ℕ)
    all : SpellsAll operators start text
    read : are_read any operators ≡ true
    last : ended_after ended operators ≡ false
    kind : e.0 ≡ kinds.NoEnd
    offset : e.1 ≡ to

  -- the bytes stop being operators
  record Stopped (start : ℕ) (text : List ℕ) (e : ReadKind × ℕ) : Type 0 where
    why : Cause
    stops : StopsAt any start text e.1 why
    kind : e.0 ≡ kind_of why

  abbrev Outcome : (start to : ℕ) (ended : Bool) (text : List ℕ) → Read → Type 0
  Outcome start to ended text (Ok xs) = SpellsAll xs start text × (ended_after ended xs ≡ true) × (are_read any xs ≡ true)
  Outcome start to ended text (Err e) = Unended start to ended text e ⊎ Stopped start text e

  -- an operator in front of what was read
  next_is : (start offset : ℕ) (x : Operator) (xs : List (Operator × ℕ)) (text front rest : List ℕ) → text ≡ front ++ rest → offset ≡ start →
      SpellsRead any front x → SpellsAll xs (start + length front) rest → SpellsAll ((x, offset) ∷ xs) start text
  next_is start offset x xs text front rest parts place spells all = record {
    front = front;
    back = rest;
    parts = parts;
    offset = place;
    spells = spells.0;
    rest = all;
  }

  reads_first : (v : Bool) (x : Operator × ℕ) (xs : List (Operator × ℕ)) → is_read v x.0 ≡ true → are_read v xs ≡ true → are_read v (x ∷ xs) ≡ true
  reads_first true x xs one all = refl
  reads_first false x xs one all = rw one all

  and_stopped : (start offset : ℕ) (x : Operator) (text front rest : List ℕ) (e : ReadKind × ℕ) → text ≡ front ++ rest → offset ≡ start →
      SpellsRead any front x → Stopped (start + length front) rest e → Stopped start text e
  and_stopped start offset x text front rest e parts place spells s =
      let t = s.stops in
      record {
        why = s.why;
        stops = record {
          operators = (x, offset) ∷ t.operators;
          front = front ++ t.front;
          first = t.first;
          back = t.back;
          parts = parts ∙ ap (λ (l : List ℕ). front ++ l) t.parts ∙ sym (append_assoc front t.front (t.first ∷ t.back));
          before = next_is start offset x t.operators (front ++ t.front) front t.front refl place spells t.before;
          read = reads_first any (x, offset) t.operators spells.1 t.read;
          at = omega (arith, t.at, length-append front t.front);
          cause = t.cause;
        };
        kind = s.kind;
      }

  and_first_outcome : (start to offset : ℕ) (ended : Bool) (x : Operator) (text front rest : List ℕ) (r : Read) → text ≡ front ++ rest →
      offset ≡ start → SpellsRead any front x → Outcome (start + length front) to (is_end x) rest r → Outcome start to ended text (and_first (x, offset) r)
  unfolding ended_after
  and_first_outcome start to offset ended x text front rest (Ok xs) parts place spells o =
      (next_is start offset x xs text front rest parts place spells o.0, o.1, reads_first any (x, offset) xs spells.1 o.2)
  and_first_outcome start to offset ended x text front rest (Err e) parts place spells o =
      elim o [
        | inl u ↦ inl (record {
          operators = (x, offset) ∷ u.operators;
          all = next_is start offset x u.operators text front rest parts place spells u.all;
          read = reads_first any (x, offset) u.operators spells.1 u.read;
          last = u.last;
          kind = u.kind;
          offset = u.offset;
        })
        | inr s ↦ inr (and_stopped start offset x text front rest e parts place spells s)
      ]

  none_read : (v : Bool) → are_read v [] ≡ true
  none_read true = refl
  none_read false = refl

  end_outcome : (start to : ℕ) (ended : Bool) → to ≡ start + 0 → Outcome start to ended [] (at_end ended to)
  unfolding ended_after
  end_outcome start to true at = (refl, refl, none_read any)
  end_outcome start to false at = inl (record { operators = []; all = refl; read = none_read any; last = refl; kind = refl; offset = refl })

  -- one operator, or none, and what reading behind it answers
  after_outcome : (m start to : ℕ) (ended : Bool) (b : ℕ) (bytes : List ℕ) (a : Result (Operator × List ℕ) Cause) → next_at any (b ∷ bytes) ≡ a →
      to ≡ start + length (b ∷ bytes) → length (b ∷ bytes) ≤ suc m
      → ((from : ℕ) (v : Bool) (rest : List ℕ) → to ≡ from + length rest → length rest ≤ m → Outcome from to v rest (operators_at any m to v rest))
      → Outcome start to ended (b ∷ bytes) (after (λ x rest. and_first (x, to - length (b ∷ bytes)) (operators_at any m to (is_end x) rest))
      (to - length (b ∷ bytes)) a)
  after_outcome m start to ended b bytes (Ok p) e at room more =
      let t = (next_exact any).takes (b ∷ bytes) p.0 p.1 e in
      let len : length (b ∷ bytes) ≡ length t.0 + length p.1 = ap length t.1 ∙ length-append t.0 p.1 in
      let less = shrinks any (b ∷ bytes) p.1 p.0 e in
      and_first_outcome start to (to - length (b ∷ bytes)) ended p.0 (b ∷ bytes) t.0 p.1 (operators_at any m to (is_end p.0) p.1) t.1
      (omega (arith, at)) t.2
      (more (start + length t.0) (is_end p.0) p.1 (omega (arith, at, len)) (omega (arith, less, room)))
  after_outcome m start to ended b bytes (Err cause) e at room more =
      inr (record {
        why = cause;
        stops = record {
          operators = [];
          front = [];
          first = b;
          back = bytes;
          parts = refl;
          before = refl;
          read = none_read any;
          at = omega (arith, at);
          cause = (next_exact any).stops (b ∷ bytes) cause e;
        };
        kind = refl;
      })

  outcome : (most start to : ℕ) (ended : Bool) (text : List ℕ) → to ≡ start + length text → length text ≤ most →
      Outcome start to ended text (operators_at any most to ended text)
  unfolding operators_at
  outcome most start to ended [] at room = end_outcome start to ended at
  outcome zero start to ended (b ∷ bytes) at room = absurd (omega (arith, room))
  outcome (suc m) start to ended (b ∷ bytes) at room = after_outcome m start to ended b bytes (next_at any (b ∷ bytes)) refl at room
      (λ from v rest at room. outcome m from to v rest at room)

  read_outcome : (start : ℕ) (text : List ℕ) (r : Read) → read_at any start text ≡ r → Outcome start (start + length text) false text r
  read_outcome start text r e = subst (Outcome start (start + length text) false text) e
      (outcome (length text) start (start + length text) false text refl (omega arith))

  -- What is answered is spelled.
  pub read_answers : (start : ℕ) (text : List ℕ) (xs : List (Operator × ℕ)) → read_at any start text ≡ Ok xs → SpellsCode start text xs
      × (are_read any xs ≡ true)
  read_answers start text xs e =
      let o = read_outcome start text (Ok xs) e in
      (record { all = o.0; last = sym (all_ends xs) ∙ o.1 }, o.2)

  abbrev Faulted : (start to : ℕ) (text : List ℕ) (kind : ReadKind) (offset : ℕ) → Type 0
  Faulted start to text kind offset = IsFaultOf any start to text kind offset × (kind ≢ kinds.Memory)

  stops_there : (start to : ℕ) (text : List ℕ) (offset : ℕ) (why : Cause) → StopsAt any start text offset why → Faulted start to text (kind_of why) offset
  stops_there start to text offset Truncated s = (s, λ e. absurd cc)
  stops_there start to text offset UnknownOpcode s = (s, λ e. absurd cc)
  stops_there start to text offset BadInteger s = (s, λ e. absurd cc)
  stops_there start to text offset BadImmediate s = (s, λ e. absurd cc)

  lacks_end : (start to : ℕ) (text : List ℕ) (offset : ℕ) → LacksEnd any start text → offset ≡ to → Faulted start to text kinds.NoEnd offset
  lacks_end start to text offset s at = ((s, at), λ e. absurd cc)

  -- What is answered as a fault is one.
  pub read_faults : (start : ℕ) (text : List ℕ) (kind : ReadKind) (offset : ℕ) → read_at any start text ≡ Err (kind, offset) →
      IsFaultOf any start (start + length text) text kind offset × (kind ≢ kinds.Memory)
  read_faults start text kind offset e =
      let to = start + length text in
      elim (read_outcome start text (Err (kind, offset)) e) [
        | inl u ↦ subst (λ (k : ReadKind). Faulted start to text k offset) (sym u.kind)
            (lacks_end start to text offset (record {
              operators = u.operators;
              all = u.all;
              read = u.read;
              last = sym (all_ends u.operators) ∙ u.last;
            }) u.offset)
        | inr s ↦ subst (λ (k : ReadKind). Faulted start to text k offset) (sym s.kind) (stops_there start to text offset s.why s.stops)
      ]

-- ---- bodies of known operators, and of any

pub body_spelled : (start : ℕ) (text : List ℕ) (xs : List (Operator × ℕ)) → SpellsBody start text xs → body_at start text ≡ Ok xs
unfolding body_at
body_spelled start text xs s = read_spelled false start text xs (record { all = s.all; last = s.last }) s.known

pub body_faulty : (start : ℕ) (text : List ℕ) (kind : ReadKind) (offset : ℕ) → IsFault start (start + length text) text kind offset →
    kind ≢ kinds.Memory → body_at start text ≡ Err (kind, offset)
unfolding body_at
body_faulty start text kind offset s other = read_faulty false start text kind offset s other

pub body_answers : (start : ℕ) (text : List ℕ) (xs : List (Operator × ℕ)) → body_at start text ≡ Ok xs → SpellsBody start text xs
unfolding body_at
body_answers start text xs e = let a = read_answers false start text xs e in record { all = a.0.all; last = a.0.last; known = a.1 }

pub body_faults : (start : ℕ) (text : List ℕ) (kind : ReadKind) (offset : ℕ) → body_at start text ≡ Err (kind, offset) →
    IsFault start (start + length text) text kind offset × (kind ≢ kinds.Memory)
unfolding body_at
body_faults start text kind offset e = read_faults false start text kind offset e

pub code_spelled : (start : ℕ) (text : List ℕ) (xs : List (Operator × ℕ)) → SpellsCode start text xs → any_code_at start text ≡ Ok xs
unfolding any_code_at
code_spelled start text xs s = read_spelled true start text xs s refl

pub code_faulty : (start : ℕ) (text : List ℕ) (kind : ReadKind) (offset : ℕ) → IsCodeFault start (start + length text) text kind offset →
    kind ≢ kinds.Memory → any_code_at start text ≡ Err (kind, offset)
unfolding any_code_at
code_faulty start text kind offset s other = read_faulty true start text kind offset s other

pub code_answers : (start : ℕ) (text : List ℕ) (xs : List (Operator × ℕ)) → any_code_at start text ≡ Ok xs → SpellsCode start text xs
unfolding any_code_at
code_answers start text xs e = (read_answers true start text xs e).0

pub code_faults : (start : ℕ) (text : List ℕ) (kind : ReadKind) (offset : ℕ) → any_code_at start text ≡ Err (kind, offset) →
    IsCodeFault start (start + length text) text kind offset × (kind ≢ kinds.Memory)
unfolding any_code_at
code_faults start text kind offset e = read_faults true start text kind offset e
