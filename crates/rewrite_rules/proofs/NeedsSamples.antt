-- What some lines ask of the operands in their holes, as it is computed: which may write nothing (and of which at most one may trap), which may not trap,
-- and which may not ask the world.
use Rattle.std.proofs.Common.{◌≡◌, [], ◌∷◌, refl}
use Rattle.wasm_execution.specs.declared.integer.IntegerType.TheVariants as integer
use Rattle.wasm_execution.specs.declared.operation.Binary.TheVariants.{Add, Mul, And, Or}
use Rattle.rewrite_rules.specs.declared.pattern.Number.TheVariants.{Literal}
use Rattle.rewrite_rules.specs.Needs.{needs_of}
use Rattle.rewrite_rules.proofs.identities.Words.{back, swap, group_left, double, alone, drop_number, parted, select_turned, select_same, sum_back, again}

-- the operands change places
swap_needs : needs_of (swap Add integer.I32) ≡ record { still = 0 ∷ 1 ∷ []; left_out = []; repeated = [] }
swap_needs = refl

-- none moves
group_needs : needs_of (group_left Add integer.I32) ≡ record { still = []; left_out = []; repeated = [] }
group_needs = refl

parted_needs : needs_of (parted Mul Add integer.I32) ≡ record { still = []; left_out = []; repeated = [] }
parted_needs = refl

drop_needs : needs_of (drop_number Add (Literal 0) integer.I32) ≡ record { still = []; left_out = []; repeated = [] }
drop_needs = refl

-- one runs twice
itself_needs : needs_of (back (double Or) integer.I32) ≡ record { still = 0 ∷ []; left_out = []; repeated = 0 ∷ [] }
itself_needs = refl

double_needs : needs_of (double Or integer.I32) ≡ record { still = 0 ∷ 0 ∷ []; left_out = []; repeated = 0 ∷ 0 ∷ [] }
double_needs = refl

-- one is left out
alone_needs : needs_of (alone And (Literal 0) integer.I32) ≡ record { still = 0 ∷ []; left_out = 0 ∷ []; repeated = [] }
alone_needs = refl

-- the condition of a select stays last
turned_needs : needs_of select_turned ≡ record { still = 0 ∷ 1 ∷ []; left_out = []; repeated = [] }
turned_needs = refl

same_needs : needs_of select_same ≡ record { still = 0 ∷ 0 ∷ 2 ∷ []; left_out = 2 ∷ []; repeated = 0 ∷ 0 ∷ [] }
same_needs = refl

-- the first one runs first on both sides, and may do anything
back_needs : needs_of (sum_back integer.I32) ≡ record { still = 1 ∷ 1 ∷ []; left_out = 1 ∷ 1 ∷ []; repeated = 1 ∷ 1 ∷ [] }
back_needs = refl

-- the last one runs last
both_needs : needs_of (again Or integer.I32) ≡ record { still = 0 ∷ 0 ∷ []; left_out = []; repeated = 0 ∷ 0 ∷ [] }
both_needs = refl
