use Rattle.peephole_lang.proofs.text.LangDebug.fmt.Goals as goal

pub returns : goal.returns
returns c c' = record { writes = c'.fmt.ensures.writes }
