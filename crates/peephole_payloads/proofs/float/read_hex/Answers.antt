use Rattle.std.proofs.Common.{◌≡◌, ◌≢◌, ◌∙◌, length, get_or, ap, arith}
use Rattle.peephole_payloads.specs.laws.HexLemmas.{parsed, not_parsed}
use Rattle.peephole_payloads.proofs.float.read_hex.Goals as goal

pub returns-in-Ok-clause-value : goal.returns-in-Ok-clause-value
returns-in-Ok-clause-value c =
    let same = c.as_bytes-bytes.ensures.value in
    let long : length c.args.text.now ≡ c.args.count = omega (arith, ap length same) in
    let plain : get_or c.args.text.now 0 0 ≢ 43 = λ e. c.if-bytes-eq43.false (ap (λ l. get_or l 0 0) same ∙ e) in
    (parsed (Unit {0}) c.args.count c.in-Ok.number c.args.text.now long plain c.in-Ok.ensures.value).0

pub returns-in-Ok-clause-fits : goal.returns-in-Ok-clause-fits
returns-in-Ok-clause-fits c =
    let same = c.as_bytes-bytes.ensures.value in
    let long : length c.args.text.now ≡ c.args.count = omega (arith, ap length same) in
    let plain : get_or c.args.text.now 0 0 ≢ 43 = λ e. c.if-bytes-eq43.false (ap (λ l. get_or l 0 0) same ∙ e) in
    (parsed (Unit {0}) c.args.count c.in-Ok.number c.args.text.now long plain c.in-Ok.ensures.value).1

pub returns-in-Err-clause-value : goal.returns-in-Err-clause-value
returns-in-Err-clause-value c =
    let same = c.as_bytes-bytes.ensures.value in
    let plain : get_or c.args.text.now 0 0 ≢ 43 = λ e. c.if-bytes-eq43.false (ap (λ l. get_or l 0 0) same ∙ e) in
    not_parsed c.args.count c.in-Err.field-0 c.args.text.now c.requires.some c.requires.few plain c.in-Err.ensures.value
