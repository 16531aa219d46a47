use Rattle.std.proofs.Common.{refl}
use Rattle.peephole_lang.specs.Lang.{place_of, payload_of}
use Rattle.peephole_lang.proofs.laws.held_has_its_text.Goals as goal

pub returns-clause-numeric : goal.returns-clause-numeric
unfolding place_of payload_of
returns-clause-numeric c = λ n. refl

pub returns-clause-simd : goal.returns-clause-simd
unfolding place_of payload_of
returns-clause-simd c = λ s. refl
