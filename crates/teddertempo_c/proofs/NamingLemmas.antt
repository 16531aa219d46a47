-- As much of a name as there is room for; the rule of a name.
use Rattle.std.proofs.Common.{◌≡◌, ◌≢◌, ℕ, zero, suc, Bool, true, List, [], ◌∷◌, ◌++◌, length, take, drop, Option, Some, None, refl, sym}
use Rattle.std.proofs.Common.{ap, subst, ◌∙◌, arith, lit<}
use Rattle.std.specs.Prelude.{ltb, min, slice_get, MatchOption, IsUtf8}
use Rattle.std.proofs.lemmas.List.{take_min, drop_min}
use Rattle.std.proofs.Math.Nat.{min_comm}
use Rattle.std.specs.List.{list_all}
use Rattle.std.specs.Str.{IsAscii}
use Rattle.std.proofs.lemmas.Bool.{and_parts, ltb-true}
use Rattle.std.proofs.lemmas.Option.{same_Some, slice_get-get_or, unwrap_or-slice_get}
use Rattle.std.proofs.lemmas.Str.{IsUtf8-from_ascii}
use Rattle.rewrite_rules.specs.Names.{names, AreFewRowsAndRules}
use Rattle.rewrite_rules.specs.Rule.{rule_name, rule_number}
use Rattle.rewrite_rules.specs.Table.{parts}
use Rattle.rewrite_rules.specs.declared.rule.Rule.{Rule}
use Rattle.teddertempo_c.specs.Naming.{HoldsName, HoldsNone, WritesName}

pub holds_name : (name old new : List ℕ) (count result : ℕ) → count ≡ min (length name) (length old) → new ≡ take count name ++ drop count old →
    result ≡ length name → HoldsName name old result new
holds_name name old new count result is put size = record {
  size = size;
  is =
      put ∙ ap (λ n. take n name ++ drop n old) is
      ∙ ap (λ n. take n name ++ drop (min (length name) (length old)) old) (min_comm (length name) (length old))
      ∙ ap (λ xs. xs ++ drop (min (length name) (length old)) old) (take_min (length old) name)
      ∙ ap (λ xs. take (length old) name ++ xs) (drop_min (length name) old);
}

module _ (those : List (List ℕ)) (number : ℕ) (old : List ℕ) (result : ℕ) (new : List ℕ) where
  pub writes_name : (name : List ℕ) → slice_get those number ≡ Some name → HoldsName name old result new → WritesName those number old result new
  writes_name name is holds =
      subst (λ (o : Option (List ℕ)). MatchOption o (HoldsNone old result new) (λ name. HoldsName name old result new)) (sym is) holds

  pub writes_none : slice_get those number ≡ None → HoldsNone old result new → WritesName those number old result new
  writes_none is holds =
      subst (λ (o : Option (List ℕ)). MatchOption o (HoldsNone old result new) (λ name. HoldsName name old result new)) (sym is) holds

-- ---- the names are texts

abbrev is_ascii : List ℕ → Bool
is_ascii text = list_all (λ (byte : ℕ). ltb byte 128) text

all_ascii : list_all is_ascii names ≡ true
unfolding parts
all_ascii = refl

ascii : (text : List ℕ) → is_ascii text ≡ true → IsAscii text
ascii [] e i = lit< tt
ascii (b ∷ bs) e zero = ltb-true b 128 (and_parts (ltb b 128) (is_ascii bs) e).0
ascii (b ∷ bs) e (suc i) = ascii bs (and_parts (ltb b 128) (is_ascii bs) e).1 i

ascii_at : (ns : List (List ℕ)) → list_all is_ascii ns ≡ true → (n : ℕ) (name : List ℕ) → slice_get ns n ≡ Some name → is_ascii name ≡ true
ascii_at [] e n name is = absurd cc
ascii_at (m ∷ ns) e zero name is = subst (λ t. is_ascii t ≡ true) (same_Some m name is) (and_parts (is_ascii m) (list_all is_ascii ns) e).0
ascii_at (m ∷ ns) e (suc n) name is = ascii_at ns (and_parts (is_ascii m) (list_all is_ascii ns) e).1 n name is

pub at_number : (rule : Rule) → slice_get names (rule_number rule) ≡ Some (rule_name rule)
at_number rule = slice_get-get_or names rule.number [] rule.is_there ∙ ap (λ t. Some t) (sym (unwrap_or-slice_get names rule.number []))

pub no_text : (name : List ℕ) → ¬ (IsUtf8 name) → (rule : Rule) → rule_name rule ≢ name
no_text name other rule is =
    let known = ascii_at names all_ascii (rule_number rule) (rule_name rule) (at_number rule) in
    other (subst IsUtf8 is (IsUtf8-from_ascii (rule_name rule) (ascii (rule_name rule) known)))

-- ---- numbers

module _ (rule : Rule) (number : ℕ) (is : number ≡ rule_number rule) where
  pub number_names : (name : List ℕ) → rule_name rule ≡ name → slice_get names number ≡ Some name
  number_names name e = ap (slice_get names) is ∙ at_number rule ∙ ap (λ t. Some t) e

  pub is_number : AreFewRowsAndRules → number ≢ 18446744073709551615
  is_number law most = let few = law.names in let below = rule.is_there in omega (arith, few, below, is, most)
