use Rattle.std.proofs.Common.{drop, map}
use Rattle.kts_base.specs.Writes.{Part}
use Rattle.kts_syntax.specs.Texts.{spaced, binder_text}
use Rattle.kts_syntax.proofs.printer.put_binders.Given as goal

abbrev pub invariant-loop-binder : goal.invariant-loop-binder
invariant-loop-binder g l =
    Part (g.S.Sink.log l.fn.out) (g.S.Sink.log l.out) (spaced (map binder_text (drop l.binder-index l.binders))) (spaced (map binder_text l.binders))
