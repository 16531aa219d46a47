-- A value in a block or a loop.
use Rattle.std.proofs.Common.{[], ◌∷◌, ◌++◌, refl}
use Rattle.wasm_code.specs.declared.immediate.BlockType.TheVariants as type
use Rattle.wasm_types.specs.Module.{merged}
use Rattle.wasm_execution.specs.OtherRow.{value_type}
use Rattle.wasm_equivalence.specs.modules.Program.{function_context}
use Rattle.wasm_equivalence.specs.control.Wider.{wider}
use Rattle.wasm_equivalence.specs.hosts.Embedder.{with_operators}
use Rattle.wrapped_code.specs.Wrapped.{Wrapped, plain, block, loop, written, WrappedRunsAs, WrappedChecksAs}
use Rattle.wrapped_code.specs.Laws.{WrappedCodeDoes, ValuesInBlocks}
use Rattle.wrapped_code.proofs.PushLemmas.{wrapped_pushes, pushed_checks}

pub values_in_blocks : WrappedCodeDoes → ValuesInBlocks
values_in_blocks does m input more old front back head own code t unhandled is pushes also runs =
    let context = function_context m old in
    let one = merged m.one_reference (value_type t) in
    let after = wider input more context in
    let inside = wrapped_pushes.plain_code after code [] (one ∷ []) also in
    let same : WrappedRunsAs context more (head ∷ own) (plain code) = runs in
    let made = λ (c : Wrapped) (r : WrappedRunsAs context more (head ∷ own) c) (k : WrappedChecksAs context after (head ∷ own) c).
    does m input more old (with_operators (front ++ written c back) old) (record {
      params_are = refl;
      locals_are = refl;
      unhandled = unhandled;
      front = front;
      back = back;
      head = head;
      own = own;
      code = c;
      old_is = is;
      new_is = refl;
      runs = r;
      checks = k;
    }) in (
      made (block (type.Value t) (plain code)) runs
          (pushed_checks context after (head ∷ own) (block (type.Value t) (plain code)) (one ∷ []) pushes
          (wrapped_pushes.in_block after (type.Value t) (plain code) refl inside)),
      made (loop (type.Value t) (plain code)) runs
          (pushed_checks context after (head ∷ own) (loop (type.Value t) (plain code)) (one ∷ []) pushes
          (wrapped_pushes.in_loop after (type.Value t) (plain code) refl inside)),
    )
