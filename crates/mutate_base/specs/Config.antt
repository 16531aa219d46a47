-- What a configuration holds: whether the meaning is preserved, and, once it is set up, the module and the generator (this project).
use Rattle.std.specs.Prelude.{◌≡◌, Bool, Option, option_map, is_some}

-- what a configuration is set up with: what is known of the module, and the generator that random constants are drawn from
pub record Setup (M R : Type 0) : Type 0 where
  pub info : M
  pub generator : R

pub record Config (M R : Type 0) : Type 0 where
  pub preserving : Bool
  pub setup : Option (Setup M R)

-- the module, once it is set up
abbrev pub info_of : {M R : Type 0} → Config M R → Option M
info_of config = option_map (λ s. s.info) config.setup

-- the generator, once it is set up
abbrev pub generator_of : {M R : Type 0} → Config M R → Option R
generator_of config = option_map (λ s. s.generator) config.setup

-- with this generator in the place of its own
abbrev pub redrawn : {M R : Type 0} → R → Setup M R → Setup M R
redrawn w s = record s { generator = w }

-- the configuration with this generator in the place of its own, once it is set up
abbrev pub with_generator : {M R : Type 0} → R → Config M R → Config M R
with_generator w config = record config { setup = option_map (redrawn w) config.setup }

-- of the configuration the generator alone changes
abbrev pub ChangesGeneratorAlone : {M R : Type 0} → (old new : Config M R) → Type 0
ChangesGeneratorAlone old new =
    (new.preserving ≡ old.preserving) × ((info_of new ≡ info_of old) × (is_some new.setup ≡ is_some old.setup))
