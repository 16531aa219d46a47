-- So many children as the instruction takes.
use Rattle.std.proofs.Common.{◌≡◌, ℕ, zero, suc, ◌+◌, ◌++◌, [], List, length, refl, sym, ap, ◌∙◌, arith}
use Rattle.std.specs.Prelude.{is_some}
use Rattle.std.proofs.lemmas.Bool.{false≢true}
use Rattle.std.proofs.lemmas.List.{length-append, length-map}
use Rattle.peephole_lang.specs.Node.{takes_children}
use Rattle.peephole_lang.specs.Term.{numbers_of}
use Rattle.peephole_nodes.specs.declared.id.Id.{Id}
use Rattle.peephole_graphs.specs.Step.{down}
use Rattle.peephole_graphs.proofs.growing.own_node.Goals as goal

length_down : (base missing : ℕ) → length (down base missing) ≡ missing
length_down base zero = refl
length_down base (suc missing) = ap suc (length_down base missing)

length_ids : (ids made : List Id) (base missing : ℕ) (taken : List ℕ) → numbers_of ids ≡ numbers_of made ++ taken → numbers_of made ≡
    down base missing → length ids ≡ missing + length taken
length_ids ids made base missing taken e f =
    let count = length-map ids (λ (i : Id). i.0) in
    omega (arith, ap length e, ap length f, length-append (numbers_of made) taken, length_down base missing)

-- what is pushed stands behind nothing
alone : (ids made : List Id) (others : List ℕ) → ids ≡ [] → numbers_of made ≡ numbers_of ids ++ others → numbers_of made ≡ others
alone ids made others e f = f ∙ ap (λ (x : List Id). numbers_of x ++ others) e

pub unreachable-requires : goal.unreachable-requires
unreachable-requires c =
    let missing = alone c.clear.new.self.items c.push_missing.new.ids.items (down c.args.base c.args.missing) c.clear.ensures.items
    c.in_ok-push_missing.ensures in
    let count = length_ids c.push_ids.new.ids.items c.push_missing.new.ids.items c.args.base c.args.missing c.args.taken.now
    c.in_ok-push_ids.ensures missing in
    false≢true (sym (ap is_some c.in-None.is) ∙ (c.in_ok-node.ensures.complete
    ∙ (ap (λ n. takes_children c.args.instr.row n) (ap (λ (x : List Id). length x) c.deref.ensures.value ∙ count) ∙ c.requires.fits)))
