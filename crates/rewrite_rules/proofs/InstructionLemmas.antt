-- The operators of patterns that are well formed are instructions of the standard.
use Rattle.std.proofs.Common.{◌≡◌, true, List, [], ◌∷◌, refl, ap, ◌∙◌, subst}
use Rattle.std.specs.Prelude.{option_map}
use Rattle.std.specs.List.{All}
use Rattle.std.proofs.lemmas.Option.{slice_get-map}
use Rattle.std.proofs.lemmas.Bool.{and_parts}
use Rattle.std.proofs.lemmas.List.Elements.{All-nil, All-cons, All-append}
use Rattle.wasm_code.specs.Instruction.{fits_row}
use Rattle.wasm_code.specs.Table as table
use Rattle.wasm_code.specs.Table.{row_at}
use Rattle.wasm_code.specs.declared.immediate.Imm.TheVariants as imm
use Rattle.wasm_execution.specs.declared.integer.IntegerType.TheVariants.{I32, I64}
use Rattle.wasm_execution.specs.declared.operation.Unary.TheVariants.{Clz, Ctz, Popcnt}
use Rattle.wasm_execution.specs.declared.operation.Binary.TheVariants.{Add, Sub, Mul, DivS, DivU, RemS, RemU, And, Or, Xor, Shl, ShrS, ShrU, Rotl, Rotr}
use Rattle.wasm_execution.specs.declared.operation.Comparison.TheVariants.{Eq, Ne, LtS, LtU, GtS, GtU, LeS, LeU, GeS, GeU}
use Rattle.wasm_execution.specs.declared.operation.Operation.{Operation}
use Rattle.wasm_execution.specs.declared.operation.Operation.TheVariants as operation
use Rattle.rewrite_rules.specs.declared.pattern.Operator.{Operator}
use Rattle.rewrite_rules.specs.declared.pattern.Operator.TheVariants.{Whole, Select, Exact}
use Rattle.rewrite_rules.specs.declared.pattern.Part.TheVariants.{Apply}
use Rattle.rewrite_rules.specs.Pattern.{Kind, is_operator_known, Pattern, Patterns, hole, constant, drawn, apply, none, ◌▹◌, fits, fit}
use Rattle.rewrite_rules.specs.Exact.{exact_code}
use Rattle.rewrite_rules.specs.Instance.{row_number, immediate_of}
use Rattle.rewrite_rules.specs.Parts.{parts_of, parts_in}
use Rattle.rewrite_rules.specs.Line.{is_formed}
use Rattle.rewrite_rules.specs.Laws.{TableIsRight}
use Rattle.rewrite_rules.specs.Table.{PartIsInstruction, PartsAreInstructions, SidesAreParts, widths_in, line_of}
use Rattle.rewrite_rules.proofs.ExactLemmas.{exact_is}
use Rattle.rewrite_rules.proofs.OperatorLemmas.{known}
use Rattle.rewrite_rules.proofs.ValueLemmas.{operator_parts}

whole_fits : (f : Operation) → fits_row (row_at (row_number (Whole f))) imm.Nothing ≡ true
unfolding row_at table.table
whole_fits (operation.Eqz I32) = refl
whole_fits (operation.Eqz I64) = refl
whole_fits (operation.Extend8S I32) = refl
whole_fits (operation.Extend8S I64) = refl
whole_fits (operation.Extend16S I32) = refl
whole_fits (operation.Extend16S I64) = refl
whole_fits operation.WrapI64 = refl
whole_fits operation.ExtendI32S = refl
whole_fits operation.ExtendI32U = refl
whole_fits operation.Extend32S = refl
whole_fits (operation.Unary I32 Clz) = refl
whole_fits (operation.Unary I32 Ctz) = refl
whole_fits (operation.Unary I32 Popcnt) = refl
whole_fits (operation.Unary I64 Clz) = refl
whole_fits (operation.Unary I64 Ctz) = refl
whole_fits (operation.Unary I64 Popcnt) = refl
whole_fits (operation.Compare I32 Eq) = refl
whole_fits (operation.Compare I32 Ne) = refl
whole_fits (operation.Compare I32 LtS) = refl
whole_fits (operation.Compare I32 LtU) = refl
whole_fits (operation.Compare I32 GtS) = refl
whole_fits (operation.Compare I32 GtU) = refl
whole_fits (operation.Compare I32 LeS) = refl
whole_fits (operation.Compare I32 LeU) = refl
whole_fits (operation.Compare I32 GeS) = refl
whole_fits (operation.Compare I32 GeU) = refl
whole_fits (operation.Compare I64 Eq) = refl
whole_fits (operation.Compare I64 Ne) = refl
whole_fits (operation.Compare I64 LtS) = refl
whole_fits (operation.Compare I64 LtU) = refl
whole_fits (operation.Compare I64 GtS) = refl
whole_fits (operation.Compare I64 GtU) = refl
whole_fits (operation.Compare I64 LeS) = refl
whole_fits (operation.Compare I64 LeU) = refl
whole_fits (operation.Compare I64 GeS) = refl
whole_fits (operation.Compare I64 GeU) = refl
whole_fits (operation.Binary I32 Add) = refl
whole_fits (operation.Binary I32 Sub) = refl
whole_fits (operation.Binary I32 Mul) = refl
whole_fits (operation.Binary I32 DivS) = refl
whole_fits (operation.Binary I32 DivU) = refl
whole_fits (operation.Binary I32 RemS) = refl
whole_fits (operation.Binary I32 RemU) = refl
whole_fits (operation.Binary I32 And) = refl
whole_fits (operation.Binary I32 Or) = refl
whole_fits (operation.Binary I32 Xor) = refl
whole_fits (operation.Binary I32 Shl) = refl
whole_fits (operation.Binary I32 ShrS) = refl
whole_fits (operation.Binary I32 ShrU) = refl
whole_fits (operation.Binary I32 Rotl) = refl
whole_fits (operation.Binary I32 Rotr) = refl
whole_fits (operation.Binary I64 Add) = refl
whole_fits (operation.Binary I64 Sub) = refl
whole_fits (operation.Binary I64 Mul) = refl
whole_fits (operation.Binary I64 DivS) = refl
whole_fits (operation.Binary I64 DivU) = refl
whole_fits (operation.Binary I64 RemS) = refl
whole_fits (operation.Binary I64 RemU) = refl
whole_fits (operation.Binary I64 And) = refl
whole_fits (operation.Binary I64 Or) = refl
whole_fits (operation.Binary I64 Xor) = refl
whole_fits (operation.Binary I64 Shl) = refl
whole_fits (operation.Binary I64 ShrS) = refl
whole_fits (operation.Binary I64 ShrU) = refl
whole_fits (operation.Binary I64 Rotl) = refl
whole_fits (operation.Binary I64 Rotr) = refl

operator_fits : (o : Operator) → is_operator_known o ≡ true → fits_row (row_at (row_number o)) (immediate_of o) ≡ true
unfolding row_at table.table
operator_fits (Whole f) k = whole_fits f
operator_fits Select k = refl
operator_fits (Exact n i) k = let (o, told) = known n i k in (exact_is (exact_code n i) o told).fits

mutual
  instructions : (kinds : List Kind) (p : Pattern) → fits kinds p ≡ true → All PartIsInstruction (parts_of p)
  instructions kinds (hole n) f = All-cons PartIsInstruction _ [] tt (All-nil PartIsInstruction)
  instructions kinds (constant t e) f = All-cons PartIsInstruction _ [] tt (All-nil PartIsInstruction)
  instructions kinds (drawn t) f = All-cons PartIsInstruction _ [] tt (All-nil PartIsInstruction)
  instructions kinds (apply o ps) f =
      let k = operator_parts kinds o ps f in
      All-append PartIsInstruction (parts_in ps) (Apply o ∷ []) (all_instructions kinds ps k.rest)
      (All-cons PartIsInstruction (Apply o) [] (operator_fits o k.known) (All-nil PartIsInstruction))

  all_instructions : (kinds : List Kind) (ps : Patterns) → fit kinds ps ≡ true → All PartIsInstruction (parts_in ps)
  all_instructions kinds none f = All-nil PartIsInstruction
  all_instructions kinds (p ▹ ps) f =
      let j = and_parts (fits kinds p) (fit kinds ps) f in
      All-append PartIsInstruction (parts_of p) (parts_in ps) (instructions kinds p j.0) (all_instructions kinds ps j.1)

pub parts_are_instructions : TableIsRight → SidesAreParts → PartsAreInstructions
parts_are_instructions table sides i row at k t width =
    let formed : is_formed (line_of row t) ≡ true = table.formed i row at k (line_of row t)
    (slice_get-map (line_of row) (widths_in row.widths) k ∙ ap (option_map (line_of row)) width) in
    let fit = (and_parts _ _ (and_parts _ _ formed).0) in
    subst (All PartIsInstruction) (sides i row at k t width).1 (instructions (line_of row t).kinds (line_of row t).right fit.1)
