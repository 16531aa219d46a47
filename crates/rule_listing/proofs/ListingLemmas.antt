-- Texts, one behind another.
use Rattle.std.proofs.Common.{◌≡◌, ℕ, zero, suc, ◌+◌, ◌<◌, List, [], ◌∷◌, ◌++◌, length, map, take, get_or, Bool, false, ◌||◌, Some, Result}
use Rattle.std.proofs.Common.{Ok, Err, refl, ap, sym, subst, ◌∙◌, append_assoc, append-nil, arith}
use Rattle.std.specs.Prelude.{OnOk, slice_get}
use Rattle.std.proofs.lemmas.Grind.{common_steps}
use Rattle.std.proofs.lemmas.List.{take_more, map-append, length-map, length-take-le, get_or-map}
use Rattle.serde_json.specs.Data.{string}
use Rattle.serde_json.specs.View.{items_of}
use Rattle.serde_json.specs.Written.{items_have_float, has_float}
use Rattle.rewrite_rules.specs.Names.{names}
use Rattle.rule_listing.specs.Listing.{Told, RuleIsTold, rule_object, table_cell_text, cells, text_line, text_lines, head_text, rule_text, rules_text}
use Rattle.rule_listing.specs.declared.form.Form.{Form}

-- ---- no floats

pub strings_have_none : (lines : List (List ℕ)) → items_have_float (items_of (map string lines)) ≡ false
strings_have_none [] = refl
strings_have_none (line ∷ lines) = strings_have_none lines

pub object_has_none : (n : ℕ) (name : List ℕ) (told : Told) → has_float (rule_object n name told) ≡ false
object_has_none n name told = ap (λ (b : Bool). b || false) (strings_have_none told.lines)

-- ---- the texts of a rule

-- one text more
pub cells_more : (n k : ℕ) (lines : List (List ℕ)) (line : List ℕ) → k ≡ n + length lines →
    cells n (lines ++ line ∷ []) ≡ cells n lines ++ table_cell_text k line
cells_more n k [] line e = grind (arith, common_steps)
cells_more n k (l ∷ lines) line e =
    ap (λ z. table_cell_text n l ++ z) (cells_more (n + 1) k lines line (omega arith))
    ∙ sym (append_assoc (table_cell_text n l) (cells (n + 1) lines) (table_cell_text k line))

pub texts_next : {X : Type 0} (f : X → List ℕ) (xs : List X) (i : ℕ) (x : X) (before text new : List ℕ) → i < length xs → x ≡ get_or xs i x →
    text ≡ before ++ cells 0 (map f (take i xs)) → new ≡ text ++ table_cell_text i (f x) → new ≡ before ++ cells 0 (map f (take (i + 1) xs))
texts_next f xs i x before text new l x_is is own =
    let next = f (get_or xs i x) in
    let so_far = map f (take i xs) in
    let split : map f (take (i + 1) xs) ≡ so_far ++ next ∷ [] = ap (map f) (take_more xs i x l) ∙ map-append f (take i xs) (get_or xs i x ∷ []) in
    let long : i ≡ length so_far = sym (length-map (take i xs) f ∙ length-take-le i xs (omega arith)) in
    own ∙ ap (λ z. text ++ table_cell_text i (f z)) x_is ∙ ap (λ z. z ++ table_cell_text i next) is
    ∙ append_assoc before (cells 0 so_far) (table_cell_text i next)
    ∙ ap (λ z. before ++ z) (sym (ap (cells 0) split ∙ cells_more 0 i so_far next (omega arith)))

-- the same, a line each
lines_more : (lines : List (List ℕ)) (line : List ℕ) → text_lines (lines ++ line ∷ []) ≡ text_lines lines ++ text_line line
lines_more [] line = append-nil (text_line line)
lines_more (l ∷ lines) line =
    ap (λ z. text_line l ++ z) (lines_more lines line) ∙ sym (append_assoc (text_line l) (text_lines lines) (text_line line))

pub lines_next : {X : Type 0} (f : X → List ℕ) (xs : List X) (i : ℕ) (x : X) (before text new : List ℕ) → i < length xs → x ≡ get_or xs i x →
    text ≡ before ++ text_lines (map f (take i xs)) → new ≡ text ++ text_line (f x) → new ≡ before ++ text_lines (map f (take (i + 1) xs))
lines_next f xs i x before text new l x_is is own =
    let next = f (get_or xs i x) in
    let so_far = map f (take i xs) in
    let split : map f (take (i + 1) xs) ≡ so_far ++ next ∷ [] = ap (map f) (take_more xs i x l) ∙ map-append f (take i xs) (get_or xs i x ∷ []) in
    own ∙ ap (λ z. text ++ text_line (f z)) x_is ∙ ap (λ z. z ++ text_line next) is ∙ append_assoc before (text_lines so_far) (text_line next)
    ∙ ap (λ z. before ++ z) (sym (ap text_lines split ∙ lines_more so_far next))

-- ---- the rules

-- one rule more
pub rules_more : (form : Form) (n k : ℕ) (list : List (List ℕ)) (told : List Told) (name : List ℕ) (t : Told) → k ≡ n + length told →
    length list ≡ length told →
    rules_text form n (list ++ name ∷ []) (told ++ t ∷ []) ≡ rules_text form n list told ++ rule_text form k name t
rules_more form n k [] [] name t e l = grind (arith, common_steps)
rules_more form n k (m ∷ list) (u ∷ told) name t e l =
    ap (λ z. rule_text form n m u ++ z) (rules_more form (n + 1) k list told name t (omega arith) (omega arith))
    ∙ sym (append_assoc (rule_text form n m u) (rules_text form (n + 1) list told) (rule_text form k name t))
rules_more form n k [] (u ∷ told) name t e l = absurd (omega arith)
rules_more form n k (m ∷ list) [] name t e l = absurd (omega arith)

-- what holds of each, with one more
pub each_more : {X : Type 0} (P : ℕ → X → Type 0) (xs : List X) (x : X) → ((n : ℕ) (y : X) → slice_get xs n ≡ Some y → P n y) → P (length xs) x →
    (n : ℕ) (y : X) → slice_get (xs ++ x ∷ []) n ≡ Some y → P n y
each_more P [] x h p zero y e = grind arith
each_more P [] x h p (suc n) y e = grind arith
each_more P (z ∷ xs) x h p zero y e = h zero y e
each_more P (z ∷ xs) x h p (suc n) y e = each_more (λ m w. P (suc m) w) xs x (λ m w. h (suc m) w) p n y e

-- the first rules are told, and the text is that of them
abbrev pub AreSoFar : Form → (k : ℕ) → (text : List ℕ) → Type 0
AreSoFar form k text =
    (told : List Told) × (length told ≡ k) × ((n : ℕ) (t : Told) → slice_get told n ≡ Some t → RuleIsTold n t)
    × (text ≡ head_text form ++ rules_text form 0 (take k names) told)

-- the next name
pub name_next : {X : Type 0} (f : X → List ℕ) (xs : List X) (list : List (List ℕ)) (k : ℕ) (x : X) → map f xs ≡ list → k < length xs →
    x ≡ get_or xs k x → take (k + 1) list ≡ take k list ++ f x ∷ []
name_next f xs list k x e l x_is =
    subst (λ z. take (k + 1) z ≡ take k z ++ f x ∷ []) e
    (take_more (map f xs) k (f x) (subst (λ n. k < n) (sym (length-map xs f)) l)
    ∙ ap (λ z. take k (map f xs) ++ z ∷ []) (get_or-map f xs k x (f x) l ∙ ap f (sym x_is)))

-- as many names
pub within : {X : Type 0} (f : X → List ℕ) (xs : List X) (list : List (List ℕ)) → map f xs ≡ list → length xs ≡ length list
within f xs list e = sym (length-map xs f) ∙ ap length e

pub rule_next : (form : Form) (k : ℕ) (text new name : List ℕ) → k < length names → take (k + 1) names ≡ take k names ++ name ∷ [] →
    AreSoFar form k text → ((t : Told) × RuleIsTold k t × (new ≡ text ++ rule_text form k name t)) → AreSoFar form (k + 1) new
rule_next form k text new name l next (told, long, each, is) (t, told_is, own) =
    let as_long : length (take k names) ≡ length told = length-take-le k names (omega arith) ∙ sym long in (
      told ++ t ∷ [],
      grind (arith, common_steps),
      each_more RuleIsTold told t each (subst (λ n. RuleIsTold n t) (sym long) told_is),
      own ∙ ap (λ z. z ++ rule_text form k name t) is ∙ append_assoc (head_text form) (rules_text form 0 (take k names) told) (rule_text form k name t)
          ∙ ap (λ z. head_text form ++ z) (sym (ap (λ z. rules_text form 0 z (told ++ t ∷ [])) next
          ∙ rules_more form 0 k (take k names) told name t (omega arith) as_long)),
    )

-- ---- others

-- what holds below a number, and of it
pub below_more : (Q : ℕ → Type 0) (k : ℕ) → ((n : ℕ) → n < k → Q n) → Q k → (n : ℕ) → n < k + 1 → Q n
below_more Q k h q n l = grind arith

-- what a call leaves where it succeeds

pub ok_map : {X E : Type 0} {P Q : Type 0} (r : Result X E) → (P → Q) → OnOk r P → OnOk r Q
ok_map (Ok x) f h = f h
ok_map (Err e) f h = h
