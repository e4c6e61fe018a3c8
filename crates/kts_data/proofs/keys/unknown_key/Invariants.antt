use Rattle.std.proofs.Common.{◌≡◌, ◌+◌, ◌<◌, ◌^◌, ◌++◌, length, map}
use Rattle.serde_json.specs.View.{members_view}
use Rattle.kts_spec.specs.declared.declarations.Family.{Family}
use Rattle.kts_data.specs.Json.{keys, unknown_from}
use Rattle.kts_data.proofs.keys.unknown_key.Given as goal

abbrev pub invariant-loop-k : goal.invariant-loop-k
invariant-loop-k l = record {
  fits : l.k + length l.key-iterator < 2 ^ 63;
  left : unknown_from (l.indexes ++ map (λ (family : Family). family.name) l.families) l.k (keys (members_view l.key-iterator))
      ≡ unknown_from (l.indexes ++ map (λ (family : Family). family.name) l.families) 0 (keys (members_view l.object.entries));
}
