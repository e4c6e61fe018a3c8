use Rattle.std.proofs.Common.{◌≡◌, drop}
use Rattle.kts_check.specs.Contexts.{bind, plain_context}
use Rattle.kts_check.proofs.contexts.bind.Given as goal

abbrev pub invariant-loop-binder : goal.invariant-loop-binder
invariant-loop-binder l =
    bind l.names.entries l.own (record { scope = l.scope.variables.items; indexes = l.indexes; way = l.way }) (drop l.binder-index l.binders) ≡ bind l.names.entries l.own (plain_context l.fn.scope.variables.items l.fn.start) l.binders
