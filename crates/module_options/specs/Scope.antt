-- What of a module options let be rewritten or changed (this project).
use Rattle.module_changes.specs.Scope.{Scope as ChangeScope}
use Rattle.module_rewrites.specs.Scope.{Scope}
use Rattle.module_options.specs.declared.options.Options.{Options}

-- by their rules, in their function alone where one is named, the most bytes that a new module may have, and whether it is made smaller
abbrev pub scope_of : Options → Scope
scope_of options = record {
  rules = options.rules.items;
  function = options.function;
  most = options.max_size;
  shrinking = options.shrink;
  exact =
      options.exact;
}

-- by their changes, in their function alone where one is named, of eight drawn instructions at most, and the most bytes that a new module may have
abbrev pub change_scope_of : Options → ChangeScope
change_scope_of options = record { changes = options.changes.items; function = options.function; most = 8; size = options.max_size }
