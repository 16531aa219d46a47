use Rattle.peephole_payloads.proofs.PayloadLemmas.{val_type_unnamed}
use Rattle.peephole_payloads.proofs.payload_text.read_val_type.Goals as goal

pub returns-in-None : goal.returns-in-None
returns-in-None c = val_type_unnamed c.args.text.now c.in-None.ensures.none
