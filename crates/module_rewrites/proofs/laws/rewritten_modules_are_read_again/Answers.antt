use Rattle.module_rewrites.proofs.laws.rewritten_modules_are_read_again.Goals as goal

pub returns : goal.returns
returns c scope bytes new function rewrite m fault offset f =
    let again = m.mutates.2.again in
    c.modules_have_no_fault.ensures new _ again.again again.is fault offset f
