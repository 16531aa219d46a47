-- What a configuration is once the generator that it lent is back (this project).
use Rattle.std.specs.Borrow.{Lends, MutBor, Fml, RattleType}
use Rattle.mutate_base.specs.Config.{Config, with_generator}
use Rattle.mutate_base.specs.contracts.config.Config.{the_row}

-- c ends with the generator that r ends as, and with all else as it was
abbrev pub LendsGenerator : (M R : RattleType) → MutBor (Config M.Denot R.Denot) → MutBor R.Denot → Fml
LendsGenerator M R c r = Lends (the_row M R) R c r (λ w. with_generator w c.now)
