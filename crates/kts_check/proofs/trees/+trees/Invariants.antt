use Rattle.std.proofs.Common.{◌≡◌, drop, map}
use Rattle.kts_check.specs.Forms.{declarations_in}
use Rattle.kts_check.specs.Trees.{phrases_at, phrase_of}
use Rattle.kts_check.proofs.TreeLemmas.{phrases_after}
use Rattle.kts_check.proofs.trees.+trees.Given as goal

abbrev pub invariant-phrases_at-loop-part : goal.invariant-phrases_at-loop-part
invariant-phrases_at-loop-part l = record {
  so_far : phrases_after l.phrases (phrases_at l.fn.scope.variables.items l.way (map (phrase_of (declarations_in l.table) l.own) (drop l.part-index l.parts)))
      ≡ phrases_at l.fn.scope.variables.items l.way (map (phrase_of (declarations_in l.table) l.own) l.parts);
  same : l.scope.variables.items ≡ l.fn.scope.variables.items;
}
