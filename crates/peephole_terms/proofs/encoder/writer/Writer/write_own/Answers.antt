use Rattle.std.proofs.Common.{◌∙◌, sym}
use Rattle.peephole_terms.specs.EncoderSteps.{nodes_in}
use Rattle.peephole_terms.specs.Writer.{writing_in}
use Rattle.peephole_terms.proofs.KindLemmas.{IsPlain, none_left, adds_nothing}
use Rattle.peephole_terms.proofs.WriterLemmas.{nothing_done}
use Rattle.peephole_terms.proofs.encoder.writer.Writer.write_own.Goals as goal

pub returns-in_default-node-clause-taken : goal.returns-in_default-node-clause-taken
returns-in_default-node-clause-taken g c =
    let plain : IsPlain c.args.node.now = record {
      rand_i32 = c.in_default-node.not-RandI32;
      rand_i64 = c.in_default-node.not-RandI64;
      rand_f32 = c.in_default-node.not-RandF32;
      rand_f64 = c.in_default-node.not-RandF64;
      unfold_i32 = c.in_default-node.not-UnfoldI32;
      unfold_i64 = c.in_default-node.not-UnfoldI64;
      global_i32 = c.in_default-node.not-I32UseGlobal;
      global_i64 = c.in_default-node.not-I64UseGlobal;
      global_f32 = c.in_default-node.not-F32UseGlobal;
      global_f64 = c.in_default-node.not-F64UseGlobal;
    } in
    rw (adds_nothing (nodes_in g.N.Holds.held c.args.nodes.now) c.args.node.now
    (sym c.instr.ensures ∙ none_left c.instr.result c.in_default.not-Some) plain)
    (nothing_done c.args.self.now.globals (writing_in g.R.Rng.stream c.args.self.now))
