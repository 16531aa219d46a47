-- What a line of the table writes in its place may stand there.
use Rattle.wasm_equivalence.specs.control.Laws.{ReplacedCodeIsInOnePiece}
use Rattle.wasm_equivalence.specs.hosts.EmbedderLaws.{PiecesDo}
use Rattle.wasm_equivalence.specs.validation.StaysValid.{ReplacedCodeStaysValid}
use Rattle.rewrite_rules.specs.Laws.{TableIsRight}
use Rattle.rewrite_rules.specs.Holes.{HolesAreTold}
use Rattle.rewrite_rules.specs.Table.{SidesAreParts}
use Rattle.rewrite_rules.specs.Parts.{PartsAreTheCode}
use Rattle.rewrite_rules.specs.Beside.{BesidesKeepCode}
use Rattle.body_rewrites.specs.LineChanges.{LineChangesMayStand}
use Rattle.body_rewrites.specs.Writing.{by_line}
use Rattle.body_rewrites.proofs.ChangedLemmas.{keeps_may_stand}
use Rattle.body_rewrites.proofs.WritingLemmas.{line_change_keeps}

pub line_changes_may_stand : ReplacedCodeIsInOnePiece → ReplacedCodeStaysValid → PiecesDo → TableIsRight → HolesAreTold → SidesAreParts →
    PartsAreTheCode → BesidesKeepCode → LineChangesMayStand
line_changes_may_stand one_piece valid do_as right holes_are sides codes besides context operators line at place is found =
    keeps_may_stand one_piece valid do_as context operators at (by_line line place)
    (line_change_keeps right holes_are sides codes besides context operators line at place is found)
