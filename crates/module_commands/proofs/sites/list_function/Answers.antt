-- The lines of its sites.
use Rattle.std.proofs.Common.{◌∙◌, List, ap, subst}
use Rattle.body_changes.specs.declared.change.Change.{Change}
use Rattle.module_changes.specs.Sites.{AreSitesOf}
use Rattle.module_options.specs.Form.{output_form_of}
use Rattle.module_commands.specs.Sites.{site_lines}
use Rattle.module_options.specs.declared.form.Form.{Form}
use Rattle.module_commands.proofs.TurnLemmas.{ok_map}
use Rattle.module_commands.proofs.sites.list_function.Goals as goal

pub returns-clause-lines : goal.returns-clause-lines
returns-clause-lines g c =
    let index = c.index_of-index.result in
    let sites = c.in_ok-sites.sites.items in
    ok_map c.write_sites.result (λ h. (
      site_lines c.form.result index c.deref-2.result.now,
      h,
      record {
        list = sites;
        are = subst (λ (cs : List Change). AreSitesOf cs c.args.bytes.now c.args.wasm.now.info c.args.wasm.now.layout c.args.n sites) c.deref.ensures.value
            c.in_ok-sites.ensures;
        lines = λ few.
            ap (λ (form : Form). site_lines form index c.deref-2.result.now) c.form.ensures
            ∙ (ap (site_lines (output_form_of c.args.options.now) index) c.deref-2.ensures.value
            ∙ ap (λ i. site_lines (output_form_of c.args.options.now) i sites) (c.index_of-index.ensures few));
      },
    )) c.write_sites.ensures.lines
