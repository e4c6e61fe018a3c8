use Rattle.std.proofs.Common.{◌≡◌, ◌≤◌, ◌+◌, ◌*◌, drop, map, sum}
use Rattle.kts_spec.specs.declared.declarations.Family.{Family}
use Rattle.kts_data.specs.Drafts.{tuples_in}
use Rattle.kts_data.proofs.counts.cell_count.Given as goal

-- the cells of the first choices, and of the others
abbrev pub invariant-loop-family : goal.invariant-loop-family
invariant-loop-family l = record {
  so_far : l.count + sum (map (λ (family : Family). tuples_in l.inst family.args) (drop l.family-index l.schema.choices))
      ≡ sum (map (λ (family : Family). tuples_in l.inst family.args) l.schema.choices);
  few : l.count ≤ 262144 * l.family-index;
}
