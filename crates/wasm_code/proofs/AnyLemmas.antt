-- Any operators are read exactly: a known one, or another one.
use Rattle.std.proofs.Common.{◌≡◌, ℕ, ◌<◌, Bool, true, false, cond, eqb, List, [], ◌∷◌, ◌++◌, length, Result, Ok, Err, refl, sym, ap, subst, ◌∙◌, arith}
use Rattle.std.proofs.lemmas.List.{append_cancel_right}
use Rattle.wasm_code.specs.declared.fault.Cause.{Cause}
use Rattle.wasm_code.specs.declared.fault.Cause.TheVariants.{Truncated}
use Rattle.wasm_code.specs.declared.immediate.BlockType.{BlockType}
use Rattle.wasm_code.specs.declared.immediate.BlockType.TheVariants.{Empty, Value, FuncType, Reference}
use Rattle.wasm_code.specs.declared.operator.Operator.{Operator}
use Rattle.wasm_code.specs.declared.operator.Operator.TheVariants as op
use Rattle.wasm_code.specs.declared.other.Other.{Other}
use Rattle.wasm_code.specs.declared.other.Other.TheVariants.{Byte, Fb, Fe}
use Rattle.wasm_code.specs.Immediate.{SpellsBlockType}
use Rattle.wasm_code.specs.Operator.{Spells, is_known_type, is_known, other_operator, SpellsUnknown, SpellsBy, SpellsAny, cause_of, FailsAny}
use Rattle.wasm_code.specs.Body.{is_read, FailsRead}
use Rattle.wasm_code.specs.Reader as reader
use Rattle.wasm_code.specs.laws.GrammarLemmas.{Exact, ok_is, err_is, exact_same}
use Rattle.wasm_code.proofs.OperatorLemmas.{operator_exact}
use Rattle.wasm_code.proofs.OtherLemmas.{other_exact}
use Rattle.wasm_code.proofs.OverlapLemmas.{Told, not_both, agree}

-- a block type that is spelled is known
known_block : (text : List ℕ) (t : BlockType) → SpellsBlockType text t → is_known_type t ≡ true
known_block text Empty s = refl
known_block text (Value t) s = refl
known_block text (FuncType n) s = refl
known_block text Reference s = absurd s

pub spelled_known : (text : List ℕ) (x : Operator) → Spells text x → is_known x ≡ true
spelled_known text (op.Other o) s = absurd s.second
spelled_known text (op.Block t) s = known_block s.back t s.second.1
spelled_known text (op.Loop t) s = known_block s.back t s.second.1
spelled_known text (op.If t) s = known_block s.back t s.second.1
spelled_known text x s = refl

-- a known operator is one of any
pub known_any : (text : List ℕ) (x : Operator) → Spells text x → SpellsAny text x
known_any text x s = subst (λ (v : Bool). SpellsBy v text x) (sym (spelled_known text x s)) s

pub any_known : (text : List ℕ) (x : Operator) → is_known x ≡ true → SpellsAny text x → Spells text x
any_known text x known s = subst (λ (v : Bool). SpellsBy v text x) known s

-- an operator of another opcode isn't known
byte_unknown : (b : ℕ) (u v w : Bool) → is_known (cond u (op.Block Reference)
    (cond v (op.Loop Reference) (cond w (op.If Reference) (op.Other (Byte b))))) ≡ false
byte_unknown b true v w = refl
byte_unknown b false true w = refl
byte_unknown b false false true = refl
byte_unknown b false false false = refl

other_unknown : (o : Other) → is_known (other_operator o) ≡ false
other_unknown (Byte b) = byte_unknown b (eqb b 2) (eqb b 3) (eqb b 4)
other_unknown (Fb n) = refl
other_unknown (Fe n) = refl

unknown_any : (text : List ℕ) (x : Operator) → SpellsUnknown text x → SpellsAny text x
unknown_any text x s =
    let unknown : is_known x ≡ false = subst (λ (y : Operator). is_known y ≡ false) s.is (other_unknown s.other) in
    subst (λ (v : Bool). SpellsBy v text x) (sym unknown) s

any_takes : (bytes : List ℕ) (x : Operator) (rest : List ℕ) (k : Result (Operator × List ℕ) Cause) (u : Result (Other × List ℕ) Cause) →
    reader.operator_at bytes ≡ k → reader.other_at bytes ≡ u → reader.either_at k u ≡ Ok (x, rest) → (text : List ℕ) × (bytes ≡ text ++ rest) × SpellsAny text x
any_takes bytes x rest (Ok y) u e f g =
    let p = ok_is y (x, rest) g in
    let t = operator_exact.takes bytes x rest (e ∙ ap (λ (z : Operator × List ℕ). let r : Told = Ok z in r) p) in
    (t.0, t.1, known_any t.0 x t.2)
any_takes bytes x rest (Err known) (Ok o) e f g =
    let p = ok_is (other_operator o.0, o.1) (x, rest) g in
    let t = other_exact.takes bytes o.0 o.1 f in
    let rest_is : o.1 ≡ rest = ap (λ (z : Operator × List ℕ). z.1) p in
    let none : (y : Operator) → Spells t.0 y → ⊥ = λ y s.
    not_both (reader.operator_at bytes) known (y, o.1) e (ap reader.operator_at t.1 ∙ operator_exact.again t.0 o.1 y s) in (
      t.0,
      t.1 ∙ ap (λ (r : List ℕ). t.0 ++ r) rest_is,
      unknown_any t.0 x (record { other = o.0; spells = t.2; is = ap (λ (z : Operator × List ℕ). z.0) p; none = none }),
    )
any_takes bytes x rest (Err known) (Err cause) e f g = absurd cc

other_again : (text rest : List ℕ) (x : Operator) (k : Result (Operator × List ℕ) Cause) → reader.operator_at (text ++ rest) ≡ k →
    (s : SpellsUnknown text x) → reader.either_at k (Ok (s.other, rest)) ≡ Ok (x, rest)
other_again text rest x (Err known) e s = ap (λ (y : Operator). let r : Told = Ok (y, rest) in r) s.is
other_again text rest x (Ok y) e s =
    let t = operator_exact.takes (text ++ rest) y.0 y.1 e in
    let same : y.1 ≡ rest = agree (text ++ rest) y.0 y.1 s.other rest e (other_exact.again text rest s.other s.spells) in
    let parts : text ++ rest ≡ t.0 ++ rest = t.1 ∙ ap (λ (r : List ℕ). t.0 ++ r) same in
    absurd (s.none y.0 (subst (λ (a : List ℕ). Spells a y.0) (sym (append_cancel_right text t.0 rest parts)) t.2))

by_again : (v : Bool) (text rest : List ℕ) (x : Operator) → SpellsBy v text x → reader.any_at (text ++ rest) ≡ Ok (x, rest)
unfolding reader.any_at
by_again true text rest x s = ap (λ (k : Told). reader.either_at k (reader.other_at (text ++ rest))) (operator_exact.again text rest x s)
by_again false text rest x s =
    ap (reader.either_at (reader.operator_at (text ++ rest))) (other_exact.again text rest s.other s.spells)
    ∙ other_again text rest x (reader.operator_at (text ++ rest)) refl s

any_again : (text rest : List ℕ) (x : Operator) → SpellsAny text x → reader.any_at (text ++ rest) ≡ Ok (x, rest)
any_again text rest x s = by_again (is_known x) text rest x s

any_stops : (bytes : List ℕ) (cause : Cause) (k : Result (Operator × List ℕ) Cause) (u : Result (Other × List ℕ) Cause) →
    reader.operator_at bytes ≡ k → reader.other_at bytes ≡ u → reader.either_at k u ≡ Err cause → FailsAny bytes cause
any_stops bytes cause (Ok y) u e f g = absurd cc
any_stops bytes cause (Err known) (Ok o) e f g = absurd cc
any_stops bytes cause (Err known) (Err c) e f g = record {
  known = known;
  other = c;
  fails_known = operator_exact.stops bytes known e;
  fails_other = other_exact.stops bytes c f;
  is = sym (err_is {A = Operator × List ℕ} (cause_of known c) cause g);
}

pub any_exact : Exact SpellsAny FailsAny reader.any_at
unfolding reader.any_at
any_exact = record {
  takes = λ bytes x rest e. any_takes bytes x rest (reader.operator_at bytes) (reader.other_at bytes) refl refl e;
  again = any_again;
  stops = λ bytes cause e. any_stops bytes cause (reader.operator_at bytes) (reader.other_at bytes) refl refl e;
  fails = λ bytes cause f. rw (operator_exact.fails bytes f.known f.fails_known, other_exact.fails bytes f.other f.fails_other, f.is) refl;
}

-- ---- what is read

-- a spelling of an operator that is read
abbrev pub SpellsRead : (any : Bool) → List ℕ → Operator → Type 0
SpellsRead any text x = SpellsAny text x × (is_read any x ≡ true)

pub next_exact : (any : Bool) → Exact (SpellsRead any) (FailsRead any) (reader.next_at any)
next_exact true = exact_same (λ text x s. (s, refl)) (λ text x s. s.0) (λ bytes c f. f) (λ bytes c f. f) any_exact
next_exact false = exact_same (λ text x s. (known_any text x s, spelled_known text x s)) (λ text x s. any_known text x s.1 s.0) (λ bytes c f. f)
    (λ bytes c f. f) operator_exact

-- No spelling begins another spelling, and a spelling spells one operator.
pub one_any : (a b x y : List ℕ) (m n : Operator) → SpellsAny a m → SpellsAny b n → a ++ x ≡ b ++ y → (m ≡ n) × (x ≡ y)
one_any a b x y m n p q e =
    let both : reader.any_at (a ++ x) ≡ reader.any_at (b ++ y) = ap reader.any_at e in
    let o = ok_is {A = Operator × List ℕ} (m, x) (n, y) (sym (any_exact.again a x m p) ∙ both ∙ any_exact.again b y n q) in
    (ap (λ (r : Operator × List ℕ). r.0) o, ap (λ (r : Operator × List ℕ). r.1) o)

-- an operator takes a byte or more
nothing_any : reader.any_at [] ≡ Err Truncated
unfolding reader.any_at reader.operator_at reader.opcode_at reader.other_at reader.other_opcode_at
nothing_any = refl

pub some_any : (text : List ℕ) (x : Operator) → SpellsAny text x → 0 < length text
some_any [] x s = absurd (not_both (reader.any_at []) Truncated (x, []) nothing_any (any_exact.again [] [] x s))
some_any (b ∷ text) x s = omega arith
