use Rattle.std.proofs.Common.{drop}
use Rattle.std.specs.List.{flat_map}
use Rattle.kts_base.specs.Writes.{Part}
use Rattle.kts_spec.specs.Texts.{declared_lines, manifests_text}
use Rattle.kts_show.proofs.manifest.put_manifests.Given as goal

abbrev pub invariant-loop-decl : goal.invariant-loop-decl
invariant-loop-decl g l =
    Part (g.S.Sink.log l.fn.out) (g.S.Sink.log l.out) (flat_map (declared_lines l.schema l.inst l.values) (drop l.decl-index l.schema.decls)) (manifests_text l.schema l.inst l.values)
