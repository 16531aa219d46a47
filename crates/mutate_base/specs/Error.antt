-- The errors' names, as the program prints them: those of the variants (this project).
use Rattle.std.specs.Prelude.{ℕ, List, codes}
use Rattle.mutate_base.specs.declared.error.Error.{Error}
use Rattle.mutate_base.specs.declared.error.Error.TheVariants as error

abbrev pub error_name : Error → List ℕ
error_name error.Memory = codes "Memory"
error_name error.NoMutationsApplicable = codes "NoMutationsApplicable"
error_name (error.UnknownFunction _) = codes "UnknownFunction"
error_name (error.UnknownLocal _) = codes "UnknownLocal"
error_name (error.UnknownGlobal _) = codes "UnknownGlobal"
error_name (error.UnknownTable _) = codes "UnknownTable"
error_name (error.UnknownMemory _) = codes "UnknownMemory"
error_name error.UnknownOperand = codes "UnknownOperand"
error_name error.CannotUnfold = codes "CannotUnfold"
error_name error.GlobalIndex = codes "GlobalIndex"
error_name error.TooLarge = codes "TooLarge"
