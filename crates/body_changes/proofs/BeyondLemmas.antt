-- What the standard asks of an instruction beyond its types: nothing, or it was asked already.
use Rattle.std.proofs.Common.{length, ◌≡◌, ℕ, zero, suc, ◌+◌, ◌-◌, List, [], ◌∷◌, ◌++◌, get_or, take, drop, Some, refl, sym, ap, ◌∙◌, subst}
use Rattle.std.specs.Prelude.{slice_get, slice_range, IsTrue}
use Rattle.std.proofs.lemmas.Bool.{eqb-true}
use Rattle.std.proofs.lemmas.List.{drop-map, take-map}
use Rattle.std.proofs.lemmas.List.Elements.{All-append, All-nil, All-push, All-weaker}
use Rattle.std.proofs.lemmas.Option.{same_Some, slice_get-get_or}
use Rattle.wasm_code.specs.Instruction.{Instruction}
use Rattle.wasm_code.specs.declared.operator.Operator.{Operator}
use Rattle.wasm_code.specs.declared.operator.Operator.TheVariants.{Instr}
use Rattle.wasm_execution.specs.Values.{Context}
use Rattle.body_splices.specs.OwnBytes.{without_offsets}
use Rattle.body_changes.specs.declared.change.Change.{Change}
use Rattle.body_changes.specs.declared.change.Change.TheVariants as change
use Rattle.body_changes.specs.declared.units.Unit.{Unit}
use Rattle.body_changes.specs.Beyond.{AsksNoMore, ChangesAskNoMore, IsAskedAlready, plain, call, stands, eased, taken}
use Rattle.body_changes.specs.Drawing.{asks_types_alone, is_leaf_row, is_local_row, AskTypesAlone}
use Rattle.body_changes.specs.Goals.{indexed}
use Rattle.body_changes.specs.Kinds.{named_of, access_with_argument, is_global_row, IsBehindOperands, ChangeMakes, Material, Stand}
use Rattle.body_changes.specs.Others.{bare}
use Rattle.body_changes.specs.Replacing.{HasInstruction}
use Rattle.body_changes.proofs.ConstantLemmas.{constants_plain, or_second}
use Rattle.body_changes.proofs.OwnLemmas.{own_there}
use Rattle.body_changes.proofs.StandLemmas.{get_behind, Operators}

-- ---- single instructions

bare_plain : (i : Instruction) → i ≡ bare i.row → IsTrue (asks_types_alone i)
bare_plain i e = subst (λ (j : Instruction). IsTrue (asks_types_alone j)) (sym e) refl

access_plain : (row n : ℕ) → IsTrue (is_local_row row) → IsTrue (asks_types_alone (indexed row n))
access_plain row n h = or_second (is_leaf_row row) (is_local_row row) h

global_plain : (row n : ℕ) → IsTrue (is_global_row row) → IsTrue (asks_types_alone (indexed row n))
global_plain row n h = subst (λ (r : ℕ). IsTrue (asks_types_alone (indexed r n))) (sym (eqb-true row 7 h)) refl

-- ---- code that stands in the body

got_within : {X : Type 0} (n : ℕ) (xs : List X) (i : ℕ) (x : X) → slice_get (take n xs) i ≡ Some x → slice_get xs i ≡ Some x
got_within zero xs zero x e = absurd cc
got_within zero xs (suc i) x e = absurd cc
got_within (suc n) [] i x e = e
got_within (suc n) (y ∷ xs) zero x e = e
got_within (suc n) (y ∷ xs) (suc i) x e = got_within n xs i x e

module _ (operators : Operators) (material : Material) where
  -- what stands in a part stands in the whole
  has_within : (a b k : ℕ) (i : Instruction) → HasInstruction (slice_range operators a b) k i → HasInstruction operators (a + k) i
  has_within a b k i h =
      let first : Operator × ℕ → Operator = λ o. o.0 in
      let back = without_offsets (drop a operators) in
      let there : slice_get back k ≡ Some (Instr i) =
      got_within (b - a) back k (Instr i) (ap (λ os. slice_get os k) (take-map first (b - a) (drop a operators)) ∙ h) in
      sym (get_behind (without_offsets operators) a k) ∙ (ap (λ os. slice_get os k) (drop-map first a operators) ∙ there)

  stood : (a b : ℕ) (code : List Instruction) → Stand operators a b code → AsksNoMore operators material.copied code
  stood a b code h k d l =
      let (x, is, there) = own_there (slice_range operators a b) code k h l in
      let same : x ≡ get_or code k d = same_Some x (get_or code k d) (sym is ∙ slice_get-get_or code k d l) in
      stands (a + k, has_within a b k (get_or code k d) (subst (λ (i : Instruction). HasInstruction (slice_range operators a b) k i) same there))

  plain_code : (code : List Instruction) → AskTypesAlone code → AsksNoMore operators material.copied code
  plain_code code h = All-weaker (λ (i : Instruction). IsTrue (asks_types_alone i)) (IsAskedAlready operators material.copied) (λ i h. plain h) code h

  behind : (at : ℕ) (unit : Unit) (other : Instruction) (code : List Instruction) → IsBehindOperands operators at unit other code →
      IsAskedAlready operators material.copied other → AsksNoMore operators material.copied code
  behind at unit other code b h =
      subst (AsksNoMore operators material.copied) (sym b.code_is)
      (All-push (IsAskedAlready operators material.copied) b.operands other (stood unit.start at b.operands b.stand) h)

  -- ---- kind by kind

  made : (context : Context) (words : List ℕ) (kind : Change) (at : ℕ) (unit : Unit) (start : ℕ) (code : List Instruction) →
      ChangeMakes context operators material words kind at unit start code → AsksNoMore operators material.copied code
  made context words change.Constant at unit start code (same, m) =
      plain_code code (constants_plain m.type m.other code m.other_row m.code_is)
  made context words change.Operator at unit start code (same, m) = behind at unit m.other code m.behind (plain (bare_plain m.other m.is.is_bare))
  made context words change.Local at unit start code (same, m) =
      let n = named_of (length context.locals) words in behind at unit (indexed m.row n) code m.behind (plain (access_plain m.row n m.is_row))
  made context words change.Draw at unit start code (same, m) = plain_code code m.plain
  made context words change.Copy at unit start code (same, m) =
      subst (AsksNoMore operators material.copied) (sym m.code_is) (λ k d l. taken k (slice_get-get_or material.copied k d l))
  made context words change.FirstOperand at unit start code (same, m) = stood unit.start unit.last code m.stand
  made context words change.LastOperand at unit start code (same, m) = stood unit.last at code m.stand
  made context words change.ExchangeOperands at unit start code (same, m) =
      subst (AsksNoMore operators material.copied) (sym m.code_is)
      (All-push (IsAskedAlready operators material.copied) (m.last ++ m.first) m.own
      (All-append (IsAskedAlready operators material.copied) m.last m.first (stood unit.last at m.last m.last_stands)
      (stood unit.start unit.last m.first m.first_stands))
      (stands (at, m.has)))
  made context words change.Delete at unit start code (same, m) =
      subst (AsksNoMore operators material.copied) (sym m.code_is) (All-nil (IsAskedAlready operators material.copied))
  made context words change.Double at unit start code (same, m) =
      let own = stood unit.start (at + 1) m.own m.stand in
      subst (AsksNoMore operators material.copied) (sym m.code_is) (All-append (IsAskedAlready operators material.copied) m.own m.own own own)
  made context words change.ExchangeStatements at unit start code m =
      subst (AsksNoMore operators material.copied) (sym m.code_is)
      (All-append (IsAskedAlready operators material.copied) m.own m.first (stood unit.start (at + 1) m.own m.own_stands)
      (stood m.before.start unit.start m.first m.first_stands))
  made context words change.Global at unit start code (same, m) =
      let n = named_of (length context.info.globals) words in behind at unit (indexed m.row n) code m.behind (plain (global_plain m.row n m.is_row))
  made context words change.Call at unit start code (same, m) =
      let n = named_of (length context.info.functions) words in behind at unit (indexed m.row n) code m.behind (call m.is_row)
  made context words change.MemoryArgument at unit start code (same, m) =
      behind at unit (access_with_argument m.other m.own) code m.behind
      (eased (record {
        own = m.own;
        stands = (at, m.has);
        argument = m.argument;
        own_argument = m.own_argument;
        other = m.other;
        asks = m.asks;
        is = refl;
      }))

pub changes_asked : ChangesAskNoMore
changes_asked context operators material words kind at start code c = made operators material context words kind at c.unit start code c.makes
