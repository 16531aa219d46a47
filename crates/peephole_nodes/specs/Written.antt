-- Children that have been written.
use Rattle.std.specs.Prelude.{◌≡◌, List, [], ◌∷◌, length, refl}
use Rattle.std.specs.Global.{Vec}
use Rattle.std.specs.Vec.{with_items}
use Rattle.std.proofs.Common.{arith}
use Rattle.std.proofs.lemmas.List.{with_items_is}
use Rattle.peephole_nodes.specs.declared.id.Id.{Id}
use Rattle.peephole_nodes.specs.View.{Children, childless, lone_child, child_array, child_list, ids_in, written}

pub any_written : (v : Vec Id) (w : List Id) → length w ≡ length v.items → (with_items v w).items ≡ w
any_written v w e = with_items_is v w (let h = v.ok.0 in omega arith)

-- as many ids as there were are the ids afterwards
pub ids_written : (c : Children) (w : List Id) → length w ≡ length (ids_in c) → ids_in (written c w) ≡ w
ids_written childless [] e = refl
ids_written childless (x ∷ w) e = absurd cc
ids_written (lone_child child) [] e = absurd cc
ids_written (lone_child child) (x ∷ []) e = refl
ids_written (lone_child child) (x ∷ y ∷ w) e = absurd cc
ids_written (child_array _) w e = refl
ids_written (child_list v) w e = any_written v w e
