-- By what was read of the function.
use Rattle.std.proofs.Common.{subst, sym}
use Rattle.std.proofs.lemmas.Result.{IfOk-weaker}
use Rattle.wasm_execution.specs.Values.{context_in}
use Rattle.module_changes.specs.Sites.{AreSites, AreSitesOf}
use Rattle.module_changes.proofs.SitesLemmas.{of_read, of_unread}
use Rattle.module_changes.proofs.sites.sites_of.Goals as goal

pub returns-in-Err : goal.returns-in-Err
returns-in-Err c =
    subst (AreSitesOf c.args.changes.now c.args.bytes.now c.args.wasm.now.info c.args.wasm.now.layout c.args.n) (sym c.new.ensures.items)
    (of_unread c.args.changes.now c.args.bytes.now c.args.wasm.now.info c.args.wasm.now.layout c.args.n (λ l x o f.
    let memory = c.is_memory.ensures.1 (c.in-Err.ensures.only l x o f) in
    let other = c.if-is_memory.false in
    absurd cc))

pub returns : goal.returns
returns c =
    let info = c.args.wasm.now.info in
    let function = c.in-Ok.function in
    IfOk-weaker c.function_sites.result (λ sites. AreSites (context_in info c.deref.result.now) c.deref-2.result.now c.args.changes.now sites.items)
    (λ sites. AreSitesOf c.args.changes.now c.args.bytes.now info c.args.wasm.now.layout c.args.n sites.items)
    (λ sites are. of_read c.args.changes.now c.args.bytes.now info c.args.wasm.now.layout c.args.n c.deref.result.now function.locals.items
    c.deref-2.result.now function.operators.items function.expression sites.items c.deref.ensures.value c.deref-2.ensures.value c.in-Ok.ensures.read
    c.in-Ok.ensures.only are) c.function_sites.ensures
