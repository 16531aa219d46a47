use Rattle.std.proofs.Common.{◌≡◌, ◌++◌, length}
use Rattle.std.specs.Vec.Iter.{into_iter_items, into_iter_len}
use Rattle.wasm_lists.specs.Types.{types_in}
use Rattle.wasm_module.proofs.spaces.type_space.Given as goal

abbrev pub invariant-loop-group : goal.invariant-loop-group
invariant-loop-group l = (l.all.items ++ types_in (into_iter_items l.group-iterator) ≡ types_in (into_iter_items l.initial.group-iterator))
    × (into_iter_len l.group-iterator ≡ length (into_iter_items l.group-iterator))
