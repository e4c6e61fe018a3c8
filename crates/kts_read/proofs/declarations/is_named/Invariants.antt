use Rattle.std.proofs.Common.{◌≡◌, drop, map}
use Rattle.std.specs.List.{list_any}
use Rattle.kts_spec.specs.Names.{same_name}
use Rattle.kts_spec.specs.declared.declarations.Family.{Family}
use Rattle.kts_read.proofs.declarations.is_named.Given as goal

abbrev pub invariant-loop-family : goal.invariant-loop-family
invariant-loop-family l =
    list_any (same_name l.name) (map (λ (f : Family). f.name) (drop l.family-index l.families)) ≡ list_any (same_name l.name) (map (λ (f : Family). f.name) l.families)
