use Rattle.peephole_lang.proofs.InstrLemmas.{new_of_node}
use Rattle.peephole_lang.proofs.lang.Lang.instr.Goals as goal

pub returns : goal.returns
returns c =
    new_of_node c.args.self.now c.place-place.result c.imm.result c.new.result c.place-place.ensures c.imm.ensures c.if-place-lt12.false
    c.new.ensures.some c.new.ensures.none
