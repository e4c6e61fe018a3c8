use Rattle.kts_base.specs.Writes.{Part}
use Rattle.kts_spec.specs.Texts.{manifest_lines}
use Rattle.kts_show.proofs.ManifestParts.{lines_from}
use Rattle.kts_show.proofs.manifest.put_manifest.Given as goal

abbrev pub invariant-loop-m : goal.invariant-loop-m
invariant-loop-m g l = Part (g.S.Sink.log l.fn.out) (g.S.Sink.log l.out) (lines_from l.schema l.inst l.values l.x l.m) (manifest_lines l.schema l.inst l.values l.x)
