-- What lines say of the module that the body comes from (this project's rules).
use Rattle.std.specs.Prelude.{◌≡◌, ◌⊎◌, ◌^◌, ◌&&◌, MatchResult, ℕ, false, List, [], ◌∷◌, ◌++◌, length, nat_lt, Option, Some, None, Result, if◌then◌else◌}
use Rattle.wasm_types.specs.Module.{Module}
use Rattle.wasm_types.specs.declared.types.TypeInfo.TheVariants.{Func}
use Rattle.peephole_script.specs.declared.fault.Fault.{Fault}
use Rattle.peephole_script.specs.declared.fault.Fault.TheVariants as fault
use Rattle.peephole_script.specs.declared.declarations.Declaration.{Declaration}
use Rattle.peephole_script.specs.declared.declarations.Declaration.TheVariants as declare
use Rattle.peephole_script.specs.Text.{number_of}
use Rattle.peephole_script.specs.Arguments.{all_of, type_of, is_64, element_of, parts_of}

-- what comes of a value, if there is one
abbrev pub module_given : {A : Type 0} → Option A → (A → Option Module) → Option Module
module_given None f = None
module_given (Some x) f = f x

-- `global T`: a global of that type
abbrev pub with_global : Module → List (List ℕ) → Option Module
with_global info (name ∷ []) = module_given (type_of name) (λ t. Some (record info { globals = info.globals ++ t ∷ [] }))
with_global info _ = None

-- `memory 32|64`: a memory with indexes of so many bits
abbrev pub with_memory : Module → List (List ℕ) → Option Module
with_memory info (bits ∷ []) = module_given (is_64 bits) (λ wide.
    Some (record info { memories = info.memories ++ record { memory64 = wide; shared = false } ∷ [] }))
with_memory info _ = None

-- `table func|extern 32|64`: a table of such elements, with indexes of so many bits
abbrev pub with_table : Module → List (List ℕ) → Option Module
with_table info (element ∷ bits ∷ []) = module_given (element_of element) (λ e. module_given (is_64 bits) (λ wide.
    Some (record info { tables = info.tables ++ record { element_type = e; table64 = wide } ∷ [] })))
with_table info _ = None

-- `type T* -> T*`: the type of functions that take and return so
abbrev pub with_type : Module → List (List ℕ) → Option Module
with_type info words = module_given (parts_of words) (λ parts.
    module_given (all_of type_of parts.0) (λ params. module_given (all_of type_of parts.1) (λ returns.
    Some (record info { types = info.types ++ Func (record { params = params; returns = returns }) ∷ [] }))))

-- `func N`: a function of the type N, which is there; the index of a type has 32 bits
abbrev pub with_declared_function : Module → List (List ℕ) → Option Module
with_declared_function info (word ∷ []) = module_given (number_of word) (λ n.
    if nat_lt n (length info.types) && nat_lt n (2 ^ 32) then Some (record info { functions = info.functions ++ n ∷ [] }) else None)
with_declared_function info _ = None

-- the module with what is declared, where the words are what the declaration wants
abbrev pub with_declaration : Declaration → Module → List (List ℕ) → Option Module
with_declaration declare.Global = with_global
with_declaration declare.Memory = with_memory
with_declaration declare.Table = with_table
with_declaration declare.Type = with_type
with_declaration declare.Function = with_declared_function

-- a call that adds to the module made it what was found; or found nothing, or had no memory left, and left it as it was
abbrev pub Declares : Option Module → Module → Module → Result (Unit {0}) Fault → Type 0
Declares found old new result = MatchResult result (λ done. found ≡ Some new) (λ f. (new ≡ old)
    × ((f ≡ fault.Memory) ⊎ ((f ≡ fault.BadArgument) × (found ≡ None))))
