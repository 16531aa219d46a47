-- When a configuration is set up (this project).
use Rattle.std.proofs.Common.{◌≡◌, Option, Some, None, refl}
use Rattle.std.specs.Prelude.{option_map, is_some}
use Rattle.mutate_base.specs.Config.{Setup, Config, info_of}

-- it is set up where it has a module
pub is_some-info_of : {M R : Type 0} (config : Config M R) → is_some (info_of config) ≡ is_some config.setup
is_some-info_of {M} {R} config = go config.setup
  where
    go : (o : Option (Setup M R)) → is_some (option_map (λ s. s.info) o) ≡ is_some o
    go None = refl
    go (Some s) = refl
