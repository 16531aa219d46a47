use Rattle.std.proofs.Common.{◌∙◌, sym}
use Rattle.peephole_payloads.proofs.PayloadLemmas.{cut_last, no_last_cut, lane_reads, lane_alone}
use Rattle.peephole_payloads.proofs.payload_text.MemArgLaneFromStr.from_str.Goals as goal

pub returns-in-Some : goal.returns-in-Some
returns-in-Some c =
    c.read_lane_behind.ensures
    ∙ sym (lane_reads c.args.text.now c.in-Some.front.now c.in-Some.last.now (cut_last c.args.text.now (
      c.in-Some.front,
      c.in-Some.last,
    ) c.in-Some.ensures.cases))

pub returns-in-None : goal.returns-in-None
returns-in-None c = c.read_lane_behind-in-None.ensures ∙ sym (lane_alone c.args.text.now (no_last_cut c.args.text.now c.in-None.ensures.cases))
