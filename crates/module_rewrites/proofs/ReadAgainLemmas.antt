-- A function is read again where its entry contains the same, and the rewritten one where its body was.
use Rattle.std.proofs.Common.{◌≡◌, ℕ, zero, suc, ◌≤◌, Bool, true, ◌+◌, ◌-◌, List, [], ◌∷◌, ◌++◌, length, take, drop, Some, refl, sym, ap}
use Rattle.std.proofs.Common.{ap₂, subst, ◌∙◌, arith}
use Rattle.std.specs.Prelude.{◌≢◌, IsTrue, map, slice_get, slice_range}
use Rattle.std.proofs.lemmas.List.{drop-drop, take_all, take-append-drop, take-take, take_at, drop_at, length-append, length-take}
use Rattle.std.proofs.lemmas.Option.{same_Some}
use Rattle.wasm_code.specs.Body.{SpellsAll, SpellsCode, ends, is_end}
use Rattle.wasm_code.specs.declared.operator.Operator.{Operator}
use Rattle.wasm_types.specs.Module.{Module, merged}
use Rattle.wasm_types.specs.declared.types.PrimitiveTypeInfo.{PrimitiveTypeInfo}
use Rattle.wasm_lists.specs.declared.entries.Entry.{Entry}
use Rattle.wasm_lists.specs.Locals.{SpellsLocals}
use Rattle.wasm_module.specs.Module.{IsModule, Layout}
use Rattle.wasm_module.specs.declared.unknown.Unknown.{Unknown}
use Rattle.wasm_module.specs.Reread.{HasContents, IsReread}
use Rattle.wasm_equivalence.specs.control.Wider.{wider_module}
use Rattle.body_splices.specs.OwnBytes.{own_bytes, without_offsets}
use Rattle.body_splices.specs.Laws.{OwnBytesStay}
use Rattle.module_rewrites.specs.Function.{IsFunction, KnowsIndices, parameters_of}
use Rattle.module_rewrites.specs.ReadAgain.{HasFunction, IsReadAgain}
use Rattle.module_rewrites.specs.Structure.{asking_operators, HasAsking}

-- ---- a body that stands somewhere else

-- the same operators, from another offset on
record IsMoved (xs : List (Operator × ℕ)) (start : ℕ) (text : List ℕ) : Type 0 where
  there : List (Operator × ℕ)
  all : SpellsAll there start text
  same : without_offsets there ≡ without_offsets xs

moved : (xs : List (Operator × ℕ)) (start other : ℕ) (text : List ℕ) → SpellsAll xs start text → IsMoved xs other text
moved [] start other text h = record { there = []; all = h; same = refl }
moved (x ∷ xs) start other text h =
    let m = moved xs (start + length h.front) (other + length h.front) h.back h.rest in
    record {
      there = (x.0, other) ∷ m.there;
      all = record { front = h.front; back = h.back; parts = h.parts; offset = refl; spells = h.spells; rest = m.all };
      same = ap (λ (os : List Operator). x.0 ∷ os) m.same;
    }

head_is : (x y : Operator) (xs ys : List Operator) → x ∷ xs ≡ y ∷ ys → x ≡ y
head_is x y xs ys e = cc

tail_is : (x y : Operator) (xs ys : List Operator) → x ∷ xs ≡ y ∷ ys → xs ≡ ys
tail_is x y xs ys e = cc

-- the last operator is `end` wherever it stands
ends_same : (xs ys : List (Operator × ℕ)) → without_offsets xs ≡ without_offsets ys → ends xs ≡ ends ys
ends_same [] [] e = refl
ends_same [] (y ∷ ys) e = absurd cc
ends_same (x ∷ xs) [] e = absurd cc
ends_same (x ∷ []) (y ∷ []) e = ap is_end (head_is x.0 y.0 [] [] e)
ends_same (x ∷ []) (y ∷ z ∷ ys) e = absurd (let none : [] ≡ z.0 ∷ without_offsets ys = tail_is x.0 y.0 [] (z.0 ∷ without_offsets ys) e in cc)
ends_same (x ∷ w ∷ xs) (y ∷ []) e = absurd (let none : w.0 ∷ without_offsets xs ≡ [] = tail_is x.0 y.0 (w.0 ∷ without_offsets xs) [] e in cc)
ends_same (x ∷ w ∷ xs) (y ∷ z ∷ ys) e = ends_same (w ∷ xs) (z ∷ ys) (tail_is x.0 y.0 (without_offsets (w ∷ xs)) (without_offsets (z ∷ ys)) e)

-- ---- what stands in an entry behind its locals

drop_take : {A : Type 0} (n m : ℕ) (xs : List A) → drop n (take m xs) ≡ take (m - n) (drop n xs)
drop_take zero m xs = let whole : m ≡ m - 0 = omega arith in ap (λ (k : ℕ). take k xs) whole
drop_take (suc n) zero xs = let none : 0 ≡ 0 - suc n = omega arith in ap (λ (k : ℕ). take k (drop (suc n) xs)) none
drop_take (suc n) (suc m) [] = sym (take_all (suc m - suc n) [] (omega arith))
drop_take (suc n) (suc m) (x ∷ xs) =
    let left : m - n ≡ suc m - suc n = omega arith in drop_take n m xs ∙ ap (λ (k : ℕ). take k (drop n xs)) left

behind_front : (bytes : List ℕ) (from to n : ℕ) → slice_range bytes (from + n) to ≡ drop n (slice_range bytes from to)
behind_front bytes from to n =
    let left : to - (from + n) ≡ (to - from) - n = omega arith in
    ap₂ (λ (k : ℕ) (xs : List ℕ). take k xs) left (sym (drop-drop n from bytes)) ∙ sym (drop_take n (to - from) (drop from bytes))

expression_text : (bytes front back text : List ℕ) (from to : ℕ) → text ≡ slice_range bytes from to → text ≡ front ++ back →
    slice_range bytes (from + length front) to ≡ back
expression_text bytes front back text from to is parts =
    behind_front bytes from to (length front) ∙ (ap (drop (length front)) (sym is ∙ parts) ∙ drop_at front back (length front) refl)

-- what stands before it, up to the expression
front_text : (bytes front back : List ℕ) (from to expression : ℕ) → slice_range bytes from to ≡ front ++ back → expression ≡ from + length front →
    slice_range bytes from expression ≡ front
front_text bytes front back from to expression parts at =
    let count : expression - from ≡ length front = omega (arith, at) in
    let least : length front ≤ to - from = long_enough in
    ap (λ (k : ℕ). take k (drop from bytes)) count ∙ (sym (take-take (length front) (to - from) (drop from bytes) least)
    ∙ (ap (take (length front)) parts ∙ take_at front back (length front) refl))
  where
    long_enough : length front ≤ to - from
    long_enough =
        let sizes = ap (λ (xs : List ℕ). length xs) parts in
        let sum = length-append front back in
        let taken = length-take (to - from) (drop from bytes) in
        omega (arith, sizes, sum, taken)

-- ---- a function that is read again

-- the function, and the bytes of its body
pub record IsPlaced (bytes : List ℕ) (info : Module) (layout : Layout) (n : ℕ) (locals : List PrimitiveTypeInfo) (operators : List Operator) (body : List ℕ) :
    Type 0 where
  pub function : HasFunction bytes info layout n locals operators
  pub text_is : slice_range bytes function.expression function.is.entry.end ≡ body

-- An entry contains the groups of these locals and, behind them, spellings of these operators.
placed : (bytes : List ℕ) (info : Module) (layout : Layout) (n : ℕ) (entry : Entry) (params locals : List PrimitiveTypeInfo) (start other : ℕ)
    (text body : List ℕ) (operators : List (Operator × ℕ)) (expression : ℕ) (spelled : SpellsLocals params start text locals expression) →
    KnowsIndices layout → slice_get layout.entries n ≡ Some entry → parameters_of info (layout.imported_functions + n) ≡ Some params →
    slice_range bytes entry.contents entry.end ≡ spelled.front ++ body → SpellsCode other body operators →
    IsPlaced bytes info layout n locals (without_offsets operators) body
placed bytes info layout n entry params locals start other text body operators expression spelled indices at parameters contents spells =
    let place = entry.contents + length spelled.front in
    let there = moved operators other place body spells.all in
    let back : slice_range bytes place entry.end ≡ body =
    expression_text bytes spelled.front body (slice_range bytes entry.contents entry.end) entry.contents entry.end refl contents in
    record {
      function = record {
        expression = place;
        located = there.there;
        is = record {
          entry = entry;
          params = params;
          is = record { indices = indices; at = at; parameters = parameters };
          locals_are = record {
            groups = spelled.groups;
            front = spelled.front;
            back = body;
            parts = contents;
            list = spelled.list;
            few = spelled.few;
            all = spelled.all;
            at = refl;
          };
          body = record {
            all = subst (λ (x : List ℕ). SpellsAll there.there place x) (sym back) there.all;
            last = subst (λ (b : Bool). IsTrue b) (sym (ends_same there.there operators there.same)) spells.last;
          };
        };
        are = there.same;
      };
      text_is = back;
    }

-- what stands behind its locals
body_text : (bytes : List ℕ) (info : Module) (layout : Layout) (n : ℕ) (locals : List PrimitiveTypeInfo) (expression : ℕ)
    (operators : List (Operator × ℕ)) (f : IsFunction bytes info layout n locals expression operators) →
    slice_range bytes expression f.entry.end ≡ f.locals_are.back
body_text bytes info layout n locals expression operators f =
    ap (λ (k : ℕ). slice_range bytes k f.entry.end) f.locals_are.at
    ∙ expression_text bytes f.locals_are.front f.locals_are.back (slice_range bytes f.entry.contents f.entry.end) f.entry.contents f.entry.end refl
    f.locals_are.parts

-- bytes begin with what stands in a range of them
begins_with : (bytes text : List ℕ) (from to : ℕ) → slice_range bytes from to ≡ text → drop from bytes ≡ text ++ drop (to - from) (drop from bytes)
begins_with bytes text from to is =
    sym (take-append-drop (to - from) (drop from bytes)) ∙ ap (λ (xs : List ℕ). xs ++ drop (to - from) (drop from bytes)) is

-- A body's operators that ask more have their bytes where it stands somewhere else.
asking_there : OwnBytesStay → (input text : List ℕ) (from to : ℕ) (operators : List (Operator × ℕ)) → slice_range input from to ≡ text →
    SpellsCode from text operators → {bytes : List ℕ} {info : Module} {layout : Layout} {n : ℕ} {locals : List PrimitiveTypeInfo} {names : List Operator}
    (p : IsPlaced bytes info layout n locals names text) → HasAsking bytes info layout n (asking_operators (own_bytes input operators))
asking_there stay input text from to operators is spells {bytes} {info} {layout} {n} {locals} {names} p =
    let h = p.function in
    let there : SpellsCode h.expression text h.located =
    subst (λ (x : List ℕ). SpellsCode h.expression x h.located) p.text_is h.is.body in
    record {
      locals = locals;
      expression = h.expression;
      located = h.located;
      is = h.is;
      are = ap asking_operators (sym (stay input bytes text (drop (to - from) (drop from input))
          (drop (h.is.entry.end - h.expression) (drop h.expression bytes)) from h.expression operators h.located (begins_with input text from to is)
          (begins_with bytes text h.expression h.is.entry.end p.text_is)
          spells there));
    }

-- An entry of another module that contains the same, where the function has the same parameters.
pub entry_moved : (bytes : List ℕ) (info : Module) (layout : Layout) (new : List ℕ) (other : Module) (again : Layout) (k : ℕ)
    (locals : List PrimitiveTypeInfo) (expression : ℕ) (operators : List (Operator × ℕ)) → KnowsIndices again →
    parameters_of other (again.imported_functions + k) ≡ parameters_of info (layout.imported_functions + k) →
    (f : IsFunction bytes info layout k locals expression operators) → HasContents new again.entries k (slice_range bytes f.entry.contents f.entry.end) →
    IsPlaced new other again k locals (without_offsets operators) f.locals_are.back
entry_moved bytes info layout new other again k locals expression operators indices same f c =
    placed new other again k c.entry f.params locals f.entry.contents expression (slice_range bytes f.entry.contents f.entry.end) f.locals_are.back
    operators expression f.locals_are indices c.at (same ∙ f.is.parameters) (sym c.text_is ∙ f.locals_are.parts)
    (subst (λ (x : List ℕ). SpellsCode expression x operators) (body_text bytes info layout k locals expression operators f) f.body)

-- It is the function that it was.
pub function_moved : (bytes : List ℕ) (info : Module) (layout : Layout) (new : List ℕ) (other : Module) (again : Layout) (k : ℕ)
    (locals : List PrimitiveTypeInfo) (operators : List Operator) → KnowsIndices again →
    parameters_of other (again.imported_functions + k) ≡ parameters_of info (layout.imported_functions + k) →
    (h : HasFunction bytes info layout k locals operators) → HasContents new again.entries k (slice_range bytes h.is.entry.contents h.is.entry.end) →
    HasFunction new other again k locals operators
function_moved bytes info layout new other again k locals operators indices same h c =
    subst (λ (os : List Operator). HasFunction new other again k locals os) h.are
    (entry_moved bytes info layout new other again k locals h.expression h.located indices same h.is c).function

-- Its operators that ask more have their bytes there.
pub asking_moved : OwnBytesStay → (bytes : List ℕ) (info : Module) (layout : Layout) (new : List ℕ) (other : Module) (again : Layout) (k : ℕ)
    (texts : List (Operator × List ℕ)) → KnowsIndices again →
    parameters_of other (again.imported_functions + k) ≡ parameters_of info (layout.imported_functions + k) →
    (h : HasAsking bytes info layout k texts) → HasContents new again.entries k (slice_range bytes h.is.entry.contents h.is.entry.end) →
    HasAsking new other again k texts
asking_moved stay bytes info layout new other again k texts indices same h c =
    let back = h.is.locals_are.back in
    let text : slice_range bytes h.expression h.is.entry.end ≡ back = body_text bytes info layout k h.locals h.expression h.located h.is in
    subst (λ (ts : List (Operator × List ℕ)). HasAsking new other again k ts) h.are
    (asking_there stay bytes back h.expression h.is.entry.end h.located text
    (subst (λ (x : List ℕ). SpellsCode h.expression x h.located) text h.is.body)
    (entry_moved bytes info layout new other again k h.locals h.expression h.located indices same h.is c))

-- ---- the rewritten module

pub get_as_long : {A : Type 0} (xs ys : List A) (k : ℕ) (x : A) → length xs ≡ length ys → slice_get xs k ≡ Some x → (y : A) × (slice_get ys k ≡ Some y)
get_as_long [] ys k x l e = absurd cc
get_as_long (z ∷ xs) [] k x l e = absurd cc
get_as_long (z ∷ xs) (y ∷ ys) zero x l e = (y, refl)
get_as_long (z ∷ xs) (y ∷ ys) (suc k) x l e = get_as_long xs ys k x (let m : length xs ≡ length ys = omega (arith, l) in m) e

indices_again : (old new : Layout) → new.unknown ≡ old.unknown → KnowsIndices old → KnowsIndices new
indices_again old new e h = record { imports = ap (λ (u : Unknown). u.imports) e ∙ h.imports; globals = ap (λ (u : Unknown). u.globals) e ∙ h.globals }

module _ {bytes : List ℕ} {info : Module} {layout : Layout} {n : ℕ} {contents : List ℕ} {more : List PrimitiveTypeInfo} {new : List ℕ}
    (r : IsReread bytes info layout n contents more new) where
  abbrev other : Module
  other = wider_module new more info

  same_parameters : (k : ℕ) → parameters_of other (r.again.imported_functions + k) ≡ parameters_of info (layout.imported_functions + k)
  same_parameters k = ap (λ (i : ℕ). parameters_of info (i + k)) r.imported

  others_there : (k : ℕ) (locals : List PrimitiveTypeInfo) (operators : List Operator) → k ≢ n → HasFunction bytes info layout k locals operators →
      HasFunction new other r.again k locals operators
  others_there k locals operators differ h =
      function_moved bytes info layout new other r.again k locals operators (indices_again layout r.again r.unknown h.is.is.indices) (same_parameters k) h
      (r.others k h.is.entry differ h.is.is.at)

  contents_back : (k : ℕ) → k ≢ n → (entry : Entry) → slice_get r.again.entries k ≡ Some entry →
      HasContents bytes layout.entries k (slice_range new entry.contents entry.end)
  contents_back k differ entry here =
      let (old, at) = get_as_long r.again.entries layout.entries k entry r.count here in
      let there = r.others k old differ at in
      let same : there.entry ≡ entry = same_Some _ _ (sym there.at ∙ here) in
      record { entry = old; at = at; text_is = sym (there.text_is ∙ ap (λ (e : Entry). slice_range new e.contents e.end) same) }

  others_back : (k : ℕ) (locals : List PrimitiveTypeInfo) (operators : List Operator) → k ≢ n → HasFunction new other r.again k locals operators →
      HasFunction bytes info layout k locals operators
  others_back k locals operators differ h =
      function_moved new other r.again bytes info layout k locals operators (indices_again r.again layout (sym r.unknown) h.is.is.indices)
      (sym (same_parameters k)) h (contents_back k differ h.is.entry h.is.is.at)

  others_have : OwnBytesStay → (k : ℕ) (texts : List (Operator × List ℕ)) → k ≢ n → HasAsking bytes info layout k texts →
      HasAsking new other r.again k texts
  others_have stay k texts differ h =
      asking_moved stay bytes info layout new other r.again k texts (indices_again layout r.again r.unknown h.is.is.indices) (same_parameters k) h
      (r.others k h.is.entry differ h.is.is.at)

  others_had : OwnBytesStay → (k : ℕ) (texts : List (Operator × List ℕ)) → k ≢ n → HasAsking new other r.again k texts →
      HasAsking bytes info layout k texts
  others_had stay k texts differ h =
      asking_moved stay new other r.again bytes info layout k texts (indices_again r.again layout (sym r.unknown) h.is.is.indices)
      (sym (same_parameters k)) h (contents_back k differ h.is.entry h.is.is.at)

-- The body that was written, behind the locals as they stood.
pub read_again : OwnBytesStay → {bytes : List ℕ} {info : Module} {layout : Layout} {n : ℕ} {locals : List PrimitiveTypeInfo} {expression : ℕ}
    {operators : List (Operator × ℕ)} (f : IsFunction bytes info layout n locals expression operators) (body : List ℕ) (written : List (Operator × ℕ))
    (more : List PrimitiveTypeInfo) (new : List ℕ) → SpellsCode 0 body written →
    asking_operators (own_bytes body written) ≡ asking_operators (own_bytes bytes operators) → map (merged true) more ≡ more →
    IsReread bytes info layout n (slice_range bytes f.entry.contents expression ++ body) more new →
    IsReadAgain bytes info layout n locals (without_offsets written) more new
read_again stay {bytes} {info} {layout} {n} {locals} {expression} {operators} f body written more new spells structure plain r =
    let other = wider_module new more info in
    let s = f.locals_are in
    let front : slice_range bytes f.entry.contents expression ≡ s.front =
    front_text bytes s.front s.back f.entry.contents f.entry.end expression s.parts s.at in
    let there = placed new other r.again n r.entry.entry f.params locals f.entry.contents 0 (slice_range bytes f.entry.contents f.entry.end) body written
    expression s (indices_again layout r.again r.unknown f.is.indices) r.entry.at (same_parameters r n ∙ f.is.parameters)
    (sym r.entry.text_is ∙ ap (λ (x : List ℕ). x ++ body) front) spells in
    let whole : slice_range body 0 (length body) ≡ body = take_all (length body - 0) body (omega arith) in
    record {
      again = r.again;
      is = subst (λ (gs : List PrimitiveTypeInfo). IsModule new (record info { input = new; globals = info.globals ++ gs }) r.again) plain r.is;
      imported = r.imported;
      count = r.count;
      function = there.function;
      others = λ k types os differ. (others_there r k types os differ, others_back r k types os differ);
      asking = asking_operators (own_bytes bytes operators);
      had = record { locals = locals; expression = expression; located = operators; is = f; are = refl };
      has = subst (λ (ts : List (Operator × List ℕ)). HasAsking new other r.again n ts) structure
          (asking_there stay body body 0 (length body) written whole spells there);
      others_have = λ k theirs differ. (others_have r stay k theirs differ, others_had r stay k theirs differ);
      indices = (indices_again r.again layout (sym r.unknown), indices_again layout r.again r.unknown);
      contents = λ k old differ at. r.others k old differ at;
    }
