-- The types of a term: a list of types, or none
-- (WebAssembly Core Specification 3.0, Validation, Instructions: operand and result types; nodes without a row: this project).
use Rattle.std.specs.Prelude.{List, [], ◌∷◌, ◌++◌, Option, Some, None, option_map, option_and_then}
use Rattle.wasm_types.specs.declared.types.PrimitiveTypeInfo.{PrimitiveTypeInfo}
use Rattle.peephole_lang.specs.declared.lang.Head.{Head}
use Rattle.peephole_lang.specs.Term.{Term, Terms, absent, node, no_terms, ◌▸◌}
use Rattle.wasm_execution.specs.Values.{type_of, same_types, Context}
use Rattle.wasm_execution.specs.IntegerRow.{if_typed, row_types, integer_row}
use Rattle.peephole_terms.specs.NodeKind as kind
use Rattle.peephole_terms.specs.NodeKind.{NodeKind, node_kind, primitive_of}
use Rattle.peephole_terms.specs.Expansion.{constant_in}

-- what a node gives, by the list of its children's types
abbrev pub own_types : Context → NodeKind → List PrimitiveTypeInfo → Option (List PrimitiveTypeInfo)
own_types context (kind.Own i) ts = row_types context (integer_row i) ts
own_types context (kind.Random t) [] = Some (primitive_of t ∷ [])
own_types context (kind.UseGlobal t) ts = if_typed (same_types ts (primitive_of t ∷ [])) ts
own_types context kind.Container ts = Some ts
own_types context _ ts = None

-- an unfold has the type of its constant
abbrev pub with_own_types : Context → NodeKind → Terms Head → Option (List PrimitiveTypeInfo) →
    Option (List PrimitiveTypeInfo)
with_own_types context (kind.Unfold t) kids below = option_map (λ z. type_of t ∷ []) (constant_in t kids)
with_own_types context k kids below = option_and_then (own_types context k) below

-- one list behind the other
abbrev pub joined_types : Option (List PrimitiveTypeInfo) → Option (List PrimitiveTypeInfo) → Option (List PrimitiveTypeInfo)
joined_types o r = option_and_then (λ ts. option_map (λ us. ts ++ us) r) o

abbrev mutual
  pub types_of : Context → Term Head → Option (List PrimitiveTypeInfo)
  types_of context absent = None
  types_of context (node h kids) = with_own_types context (node_kind h) kids (types_in context kids)

  pub types_in : Context → Terms Head → Option (List PrimitiveTypeInfo)
  types_in context no_terms = Some []
  types_in context (t ▸ ts) = joined_types (types_of context t) (types_in context ts)
