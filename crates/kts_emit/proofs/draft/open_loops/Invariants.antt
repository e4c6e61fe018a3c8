use Rattle.std.proofs.Common.{◌≡◌, ◌+◌, ◌++◌, drop}
use Rattle.kts_emit.specs.Drafts.{openings}
use Rattle.kts_emit.proofs.draft.open_loops.Given as goal

abbrev pub invariant-loop-index : goal.invariant-loop-index
invariant-loop-index l = record {
  code : l.draft ++ openings l.start (drop l.index-index l.indexes) l.depth ≡ l.initial.draft ++ openings l.start l.indexes l.scope;
  depth : l.depth ≡ l.scope + l.index-index;
}
