use Rattle.std.proofs.Common.{◌≡◌, ◌-◌, ◌*◌, ◌+◌, ◌%◌, ◌^◌, sym, ap, ◌∙◌, pow-add, arith}
use Rattle.std.proofs.Math.Nat.{mul-mod_left}
use Rattle.rewrite_rules.proofs.numbers.power.Goals as goal

-- src/numbers.rt:42:1
pub returns-else-number-lt64 : goal.returns-else-number-lt64
returns-else-number-lt64 c =
    let n = c.args.number in
    let large : n ≡ (n - 64) + 64 = let f = c.if-number-lt64.false in omega arith in
    let split : 2 ^ n ≡ 2 ^ (n - 64) * 2 ^ 64 = ap (λ k. 2 ^ k) large ∙ pow-add 2 (n - 64) 64 in
    sym (ap (λ k. k % 2 ^ 64) split ∙ mul-mod_left (2 ^ (n - 64)) (2 ^ 64))
