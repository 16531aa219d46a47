-- The names of the errors of terms, as the program prints them: those of the variants (this project).
use Rattle.std.specs.Prelude.{ℕ, List, codes}
use Rattle.peephole_payloads.specs.declared.term_error.TermError.{TermError}
use Rattle.peephole_payloads.specs.declared.term_error.TermError.TheVariants.{InvalidToken, ExpectedZeroChildren, ExpectedOneChild}
use Rattle.peephole_payloads.specs.declared.term_error.TermError.TheVariants.{ExpectedChildren, MissingInfo, TooMuchInfo, BadInteger}
use Rattle.peephole_payloads.specs.declared.term_error.TermError.TheVariants.{WrongLanes, BadBits, BadRefType, BadValType}

abbrev pub term_error_name : TermError → List ℕ
term_error_name InvalidToken = codes "InvalidToken"
term_error_name ExpectedZeroChildren = codes "ExpectedZeroChildren"
term_error_name (ExpectedOneChild _) = codes "ExpectedOneChild"
term_error_name (ExpectedChildren _) = codes "ExpectedChildren"
term_error_name MissingInfo = codes "MissingInfo"
term_error_name TooMuchInfo = codes "TooMuchInfo"
term_error_name BadInteger = codes "BadInteger"
term_error_name WrongLanes = codes "WrongLanes"
term_error_name BadBits = codes "BadBits"
term_error_name BadRefType = codes "BadRefType"
term_error_name BadValType = codes "BadValType"
