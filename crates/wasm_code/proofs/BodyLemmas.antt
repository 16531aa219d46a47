-- The loop that reads a body, and that what it answers is the only answer.
use Rattle.std.proofs.Common.{◌≡◌, ℕ, ◌+◌, ◌-◌, ◌<◌, ◌≤◌, Bool, true, false, cond, List, [], ◌∷◌, ◌++◌, length, drop, Result, Ok, Err, refl}
use Rattle.std.proofs.Common.{sym, ap, subst, ◌∙◌, append_assoc, arith}
use Rattle.std.specs.Prelude.{IfOk, IfErr, MatchResult, slice_range}
use Rattle.std.specs.Global.{Vec}
use Rattle.wasm_code.specs.declared.fault.ReadKind.TheVariants as kinds
use Rattle.wasm_code.specs.declared.fault.ReadError.{ReadError}
use Rattle.std.proofs.lemmas.List.{length-append, append-nil, length-take, length-drop}
use Rattle.wasm_code.specs.declared.fault.Cause.{Cause}
use Rattle.wasm_code.specs.declared.fault.Cause.TheVariants.{Truncated, UnknownOpcode, BadInteger, BadImmediate}
use Rattle.wasm_code.specs.declared.fault.ReadKind.{ReadKind}
use Rattle.wasm_code.specs.declared.operator.Operator.{Operator}
use Rattle.wasm_code.specs.Operator.{is_known, SpellsAny}
use Rattle.wasm_code.specs.Reader.{next_at}
use Rattle.wasm_code.specs.Body.{SpellsAll, is_end, ends, SpellsCode, are_known, SpellsBody, is_read, are_read, FailsRead, StopsAt, IsFaultOf, kind_of}
use Rattle.wasm_code.proofs.AnyLemmas.{next_exact, one_any, some_any}

pub record IsReadSoFar (any : Bool) (start : ℕ) (text rest : List ℕ) (xs : List (Operator × ℕ)) (ended : Bool) : Type 0 where
  pub front : List ℕ
  pub parts : text ≡ front ++ rest
  pub all : SpellsAll xs start front
  pub read : are_read any xs ≡ true
  pub last : ended ≡ ends xs

one_more : (xs : List (Operator × ℕ)) (start : ℕ) (text more : List ℕ) (x : Operator) → SpellsAll xs start text → SpellsAny more x →
    SpellsAll (xs ++ (x, start + length text) ∷ []) start (text ++ more)
one_more [] start text more x all s = record {
  front = more;
  back = [];
  parts = rw all (sym (append-nil more));
  offset = rw all (omega arith);
  spells = s;
  rest = refl;
}
one_more (y ∷ xs) start text more x all s =
    let rest = one_more xs (start + length all.front) all.back more x all.rest s in
    let len : start + length all.front + length all.back ≡ start + length text = omega (
      arith,
      ap length all.parts,
      length-append all.front all.back,
    ) in
    record {
      front = all.front;
      back = all.back ++ more;
      parts = ap (λ (t : List ℕ). t ++ more) all.parts ∙ append_assoc all.front all.back more;
      offset = all.offset;
      spells = all.spells;
      rest = subst (λ (n : ℕ). SpellsAll (xs ++ (x, n) ∷ []) (start + length all.front) (all.back ++ more)) len rest;
    }

last_is : (xs : List (Operator × ℕ)) (x : Operator × ℕ) → ends (xs ++ x ∷ []) ≡ is_end x.0
last_is [] x = refl
last_is (y ∷ []) x = refl
last_is (y ∷ z ∷ xs) x = last_is (z ∷ xs) x

-- ---- whether all are read

abbrev both_true : Bool → Bool → Type 0
both_true a b = (a ≡ true) × (b ≡ true)

known_more : (xs : List (Operator × ℕ)) (x : Operator × ℕ) → are_known xs ≡ true → is_known x.0 ≡ true → are_known (xs ++ x ∷ []) ≡ true
known_more [] x all one = rw one refl
known_more (y ∷ xs) x all one =
    let parts = split (is_known y.0) (are_known xs) all in
    rw (parts.0) (known_more xs x parts.1 one)
  where
    split : (a b : Bool) → cond a b false ≡ true → both_true a b
    split true b e = (refl, e)
    split false b e = absurd cc

pub read_more : (any : Bool) (xs : List (Operator × ℕ)) (x : Operator × ℕ) → are_read any xs ≡ true → is_read any x.0 ≡ true →
    are_read any (xs ++ x ∷ []) ≡ true
read_more true xs x all one = refl
read_more false xs x all one = known_more xs x all one

pub shrinks : (any : Bool) (rest after : List ℕ) (x : Operator) → next_at any rest ≡ Ok (x, after) → length after < length rest
shrinks any rest after x e =
    let t = (next_exact any).takes rest x after e in
    omega (arith, ap length t.1, length-append t.0 after, some_any t.0 x t.2.0)

range_len : (bytes : List ℕ) (start to : ℕ) → start ≤ to → to ≤ length bytes → length (slice_range bytes start to) ≡ to - start
range_len bytes start to order bounds = omega (arith, length-take (to - start) (drop start bytes), length-drop start bytes)

-- where the next operator starts
place : (bytes : List ℕ) (start to : ℕ) (front rest : List ℕ) → start ≤ to → to ≤ length bytes → slice_range bytes start to ≡ front ++ rest →
    to - length rest ≡ start + length front
place bytes start to front rest order bounds e = omega (arith, range_len bytes start to order bounds, ap length e, length-append front rest)

nothing_read : (any : Bool) → are_read any [] ≡ true
nothing_read true = refl
nothing_read false = refl

pub begins : (any : Bool) (start : ℕ) (text : List ℕ) → IsReadSoFar any start text text [] false
begins any start text = record { front = []; parts = refl; all = refl; read = nothing_read any; last = refl }

pub goes_on : (any : Bool) (bytes : List ℕ) (start to : ℕ) (rest after : List ℕ) (xs : List (Operator × ℕ)) (ended : Bool) (x : Operator) → start ≤ to →
    to ≤ length bytes
    → IsReadSoFar any start (slice_range bytes start to) rest xs ended → next_at any rest ≡ Ok (x, after) →
    IsReadSoFar any start (slice_range bytes start to) after (xs ++ (x, to - length rest) ∷ []) (is_end x)
goes_on any bytes start to rest after xs ended x order bounds so_far e =
    let t = (next_exact any).takes rest x after e in
    let at = place bytes start to so_far.front rest order bounds so_far.parts in
    record {
      front = so_far.front ++ t.0;
      parts = so_far.parts ∙ ap (λ (r : List ℕ). so_far.front ++ r) t.1 ∙ sym (append_assoc so_far.front t.0 after);
      all = subst (λ (n : ℕ). SpellsAll (xs ++ (x, n) ∷ []) start (so_far.front ++ t.0)) (sym at)
          (one_more xs start so_far.front t.0 x so_far.all t.2.0);
      read = read_more any xs (x, to - length rest) so_far.read t.2.1;
      last = sym (last_is xs (x, to - length rest));
    }

fault_of : (any : Bool) (start to : ℕ) (text : List ℕ) (offset : ℕ) (cause : Cause) → StopsAt any start text offset cause →
    IsFaultOf any start to text (kind_of cause) offset
fault_of any start to text offset Truncated s = s
fault_of any start to text offset UnknownOpcode s = s
fault_of any start to text offset BadInteger s = s
fault_of any start to text offset BadImmediate s = s

pub stops : (any : Bool) (bytes : List ℕ) (start to : ℕ) (rest : List ℕ) (xs : List (Operator × ℕ)) (ended : Bool) (cause : Cause) → start ≤ to →
    to ≤ length bytes → 0 < length rest
    → IsReadSoFar any start (slice_range bytes start to) rest xs ended → next_at any rest ≡ Err cause →
    IsFaultOf any start to (slice_range bytes start to) (kind_of cause) (to - length rest)
stops any bytes start to [] xs ended cause order bounds some so_far e = absurd (omega arith)
stops any bytes start to (b ∷ rest) xs ended cause order bounds some so_far e =
    fault_of any start to (slice_range bytes start to) (to - length (b ∷ rest)) cause
    (record {
      operators = xs;
      front = so_far.front;
      first = b;
      back = rest;
      parts = so_far.parts;
      before = so_far.all;
      read = so_far.read;
      at = place bytes start to so_far.front (b ∷ rest) order bounds so_far.parts;
      cause = (next_exact any).stops (b ∷ rest) cause e;
    })

whole : (text rest : List ℕ) → length rest ≡ 0 → text ++ rest ≡ text
whole text [] e = append-nil text
whole text (b ∷ rest) e = absurd (omega (arith, e))

pub done : (any : Bool) (start : ℕ) (text rest : List ℕ) (xs : List (Operator × ℕ)) → length rest ≡ 0 → IsReadSoFar any start text rest xs true →
    SpellsCode start text xs
done any start text rest xs none so_far = record {
  all = subst (SpellsAll xs start) (sym (so_far.parts ∙ whole so_far.front rest none)) so_far.all;
  last = sym so_far.last;
}

-- ---- what is answered is the only answer

next : (x y : Operator) (a b c d text : List ℕ) → text ≡ a ++ b → text ≡ c ++ d → SpellsAny a x → SpellsAny c y → (x ≡ y) × (b ≡ d)
next x y a b c d text p q s t = one_any a c b d x y s t (sym p ∙ q)

same_len : (a b c d : List ℕ) → a ++ b ≡ c ++ d → b ≡ d → length a ≡ length c
same_len a b c d e f = omega (arith, ap length e, ap length f, length-append a b, length-append c d)

nothing_is : (a b : List ℕ) (x : Operator) → [] ≡ a ++ b → SpellsAny a x → ⊥
nothing_is a b x e s = absurd (omega (arith, ap length e, length-append a b, some_any a x s))

pair_is : (x y : Operator × ℕ) → x.0 ≡ y.0 → x.1 ≡ y.1 → x ≡ y
pair_is x y p q =
    let f : Operator → Operator × ℕ = λ o. (o, x.1) in
    let g : ℕ → Operator × ℕ = λ k. (y.0, k) in
    ap f p ∙ ap g q

-- bytes spell one list of operators
pub same_all : (xs ys : List (Operator × ℕ)) (start : ℕ) (text : List ℕ) → SpellsAll xs start text → SpellsAll ys start text → xs ≡ ys
same_all [] [] start text p q = refl
same_all [] (y ∷ ys) start text p q = absurd (nothing_is q.front q.back y.0 (sym p ∙ q.parts) q.spells)
same_all (x ∷ xs) [] start text p q = absurd (nothing_is p.front p.back x.0 (sym q ∙ p.parts) p.spells)
same_all (x ∷ xs) (y ∷ ys) start text p q =
    let n = next x.0 y.0 p.front p.back q.front q.back text p.parts q.parts p.spells q.spells in
    let len = same_len p.front p.back q.front q.back (sym p.parts ∙ q.parts) n.1 in
    let rest : SpellsAll ys (start + length p.front) p.back = subst (λ (b : List ℕ). SpellsAll ys (start + length p.front) b) (sym n.1)
    (subst (λ (k : ℕ). SpellsAll ys (start + k) q.back) (sym len) q.rest) in
    let tail = same_all xs ys (start + length p.front) p.back p.rest rest in
    let place : x.1 ≡ y.1 = p.offset ∙ sym q.offset in
    ap (λ (l : List (Operator × ℕ)). x ∷ l) tail ∙ ap (λ (z : Operator × ℕ). z ∷ ys) (pair_is x y n.0 place)

ok_not_err : (p : Operator × List ℕ) (f : Cause) (r : Result (Operator × List ℕ) Cause) → r ≡ Ok p → r ≡ Err f → ⊥
ok_not_err p f r e g = absurd cc

known_first : (a b : Bool) → cond a b false ≡ true → (a ≡ true) × (b ≡ true)
known_first true b e = (refl, e)
known_first false b e = absurd cc

pub first_read : (any : Bool) (x : Operator × ℕ) (xs : List (Operator × ℕ)) → are_read any (x ∷ xs) ≡ true → (is_read any x.0 ≡ true)
    × (are_read any xs ≡ true)
first_read true x xs e = (refl, refl)
first_read false x xs e = known_first (is_known x.0) (are_known xs) e

-- an operator in front of an operator that isn't read
no_stop : (any : Bool) (xs ops : List (Operator × ℕ)) (start : ℕ) (text front : List ℕ) (first : ℕ) (back : List ℕ) (f : Cause) → SpellsAll xs start text →
    are_read any xs ≡ true → text ≡ front ++ first ∷ back
    → SpellsAll ops start front → FailsRead any (first ∷ back) f → ⊥
no_stop any [] ops start text front first back f p read parts before cause =
    absurd (omega (arith, ap length p, ap length parts, length-append front (first ∷ back)))
no_stop any (x ∷ xs) [] start text front first back f p read parts before cause =
    let is : first ∷ back ≡ p.front ++ p.back = sym (parts ∙ ap (λ (a : List ℕ). a ++ first ∷ back) before) ∙ p.parts in
    ok_not_err (x.0, p.back) f (next_at any (first ∷ back)) (ap (next_at any) is
    ∙ (next_exact any).again p.front p.back x.0 (p.spells, (first_read any x xs read).0))
    ((next_exact any).fails (first ∷ back) f cause)
no_stop any (x ∷ xs) (y ∷ ops) start text front first back f p read parts before cause =
    let q : text ≡ before.front ++ (before.back ++ first ∷ back) = parts ∙ ap (λ (a : List ℕ). a ++ first ∷ back) before.parts
    ∙ append_assoc before.front before.back (first ∷ back) in
    let n = next x.0 y.0 p.front p.back before.front (before.back ++ first ∷ back) text p.parts q p.spells before.spells in
    let len = same_len p.front p.back before.front (before.back ++ first ∷ back) (sym p.parts ∙ q) n.1 in
    no_stop any xs ops (start + length p.front) p.back before.back first back f p.rest (first_read any x xs read).1 n.1
    (subst (λ (k : ℕ). SpellsAll ops (start + k) before.back)
    (sym len) before.rest) cause

no_fault : (any : Bool) (start to : ℕ) (text : List ℕ) (xs : List (Operator × ℕ)) (kind : ReadKind) (offset : ℕ) → SpellsCode start text xs →
    are_read any xs ≡ true → IsFaultOf any start to text kind offset → kind ≡ kinds.Memory
no_fault any start to text xs kinds.Memory offset p read s = refl
no_fault any start to text xs kinds.NoEnd offset p read s = let same = same_all xs s.0.operators start text p.all s.0.all in
    let last : ends xs ≡ true = p.last in absurd cc
no_fault any start to text xs kinds.Truncated offset p read s =
    absurd (no_stop any xs s.operators start text s.front s.first s.back Truncated p.all read s.parts s.before s.cause)
no_fault any start to text xs kinds.UnknownOpcode offset p read s =
    absurd (no_stop any xs s.operators start text s.front s.first s.back UnknownOpcode p.all read s.parts s.before s.cause)
no_fault any start to text xs kinds.BadInteger offset p read s =
    absurd (no_stop any xs s.operators start text s.front s.first s.back BadInteger p.all read s.parts s.before s.cause)
no_fault any start to text xs kinds.BadImmediate offset p read s =
    absurd (no_stop any xs s.operators start text s.front s.first s.back BadImmediate p.all read s.parts s.before s.cause)

pub only : (any : Bool) (start to : ℕ) (text : List ℕ) (r : Result (Vec (Operator × ℕ)) ReadError) (xs : List (Operator × ℕ)) →
    IfOk r (λ v. SpellsCode start text v.items) → IfErr r (λ e. IsFaultOf any start to text e.kind e.offset)
    → SpellsCode start text xs → are_read any xs ≡ true → MatchResult r (λ v. v.items ≡ xs) (λ e. e.kind ≡ kinds.Memory)
only any start to text (Ok v) xs found fault p read = same_all v.items xs start text found.all p.all
only any start to text (Err e) xs found fault p read = no_fault any start to text xs e.kind e.offset p read fault

-- what is read of known operators alone is a body
pub body : (start : ℕ) (text : List ℕ) (r : Result (Vec (Operator × ℕ)) ReadError) → IfOk r (λ v. SpellsCode start text v.items) →
    IfOk r (λ v. are_read false v.items ≡ true) → IfOk r (λ v. SpellsBody start text v.items)
body start text (Ok v) found read = record { all = found.all; last = found.last; known = read }
body start text (Err e) found read = tt
