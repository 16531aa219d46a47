use Rattle.std.proofs.Common.{◌≡◌, ◌++◌, drop, map}
use Rattle.std.specs.List.{concat}
use Rattle.peephole_commands.specs.Commands.{bytes_line, global_line}
use Rattle.peephole_commands.proofs.reply.output_lines.Given as goal

-- the lines so far and those of the requests that are left are all lines
abbrev pub invariant-loop-request : goal.invariant-loop-request
invariant-loop-request l =
    l.lines.items ++ concat (map global_line (drop l.request-index l.requests)) ≡ bytes_line l.fn.sink ++ concat (map global_line l.requests)
