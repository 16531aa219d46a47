use Rattle.module_rewrites.proofs.MutatesLemmas.{chooses_join, chooses_split, mutates_join}
use Rattle.module_rewrites.proofs.laws.rewrites_go_on.Goals as goal

pub returns : goal.returns
returns c = record {
  mutated = mutates_join;
  chosen = λ scope bytes between new stream middle first second stopped each rest. record {
    after = rest.after;
    each = chooses_join scope bytes stream first between middle second new rest.after each rest.each;
    gives_up = rest.gives_up;
  };
  front = chooses_split;
}
