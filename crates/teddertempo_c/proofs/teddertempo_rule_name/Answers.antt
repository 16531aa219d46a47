-- The name of a rule by its number.
use Rattle.std.proofs.Common.{◌≡◌, sym, refl, rules}
use Rattle.std.proofs.lemmas.Option.{slice_get_past}
use Rattle.rewrite_rules.specs.Names.{names}
use Rattle.rewrite_rules.specs.Rule.{rule_name}
use Rattle.teddertempo_c.proofs.NamingLemmas.{number_names, writes_name, writes_none}
use Rattle.teddertempo_c.proofs.teddertempo_rule_name.Goals as goal

pub returns-in-Some : goal.returns-in-Some
returns-in-Some c =
    let text : rule_name c.in-Some.rule ≡ c.as_bytes.result.now = search rules in
    writes_name names c.args.rule c.args.name.now c.hold.result c.hold.new.room c.as_bytes.result.now
    (number_names c.in-Some.rule c.args.rule (sym c.in-Some.ensures.some) c.as_bytes.result.now text) c.hold.ensures

pub returns-in-None : goal.returns-in-None
returns-in-None c =
    writes_none names c.args.rule c.args.name.now 0 c.args.name.now (slice_get_past names c.args.rule c.in-None.ensures.none) (record {
      size =
          refl;
      is = refl;
    })
