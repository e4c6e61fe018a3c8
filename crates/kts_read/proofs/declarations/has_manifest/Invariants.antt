use Rattle.std.proofs.Common.{◌≡◌, drop}
use Rattle.kts_read.specs.DeclarationLines.{has_manifest}
use Rattle.kts_read.proofs.declarations.has_manifest.Given as goal

abbrev pub invariant-loop-decl : goal.invariant-loop-decl
invariant-loop-decl l = has_manifest (drop l.decl-index l.decls) l.choice ≡ has_manifest l.decls l.choice
