use Rattle.std.proofs.Common.{inl, inr}
use Rattle.std.proofs.lemmas.Result.{err_from_is_err_and}
use Rattle.kts_text.proofs.FaultPlaces.{first_fault}
use Rattle.kts_text.proofs.Depths.{shallow_trees}
use Rattle.kts_text.proofs.Agreement.{found_trees, flat_nodes, within_bytes, only_trees, trees_value, no_trees, fault_value}
use Rattle.kts_text.proofs.reader.read_trees.Goals as goal

pub invariant_of-result : goal.invariant_of-result
invariant_of-result c = record {
  within = within_bytes c.args.bytes.now c.in_ok-nodes.nodes c.in_ok-nodes.ensures.ok;
  whole = flat_nodes c.args.bytes.now c.in_ok-nodes.nodes c.in_ok-nodes.ensures.ok;
  shallow = shallow_trees c.args.bytes.now _ (found_trees c.args.bytes.now c.in_ok-nodes.nodes c.in_ok-nodes.ensures.ok);
}

pub returns-in_err-nodes-clause-only : goal.returns-in_err-nodes-clause-only
returns-in_err-nodes-clause-only c =
    let p = err_from_is_err_and c.from_residual.result c.from_residual.ensures.1 in
    rw (p.1, p.2) (λ trees found. elim c.in_err-nodes.ensures.err [ inl refused ↦ refused | inr read ↦ absurd (no_trees c.args.bytes.now _ read trees found) ])

pub returns-in_err-nodes-clause-first : goal.returns-in_err-nodes-clause-first
returns-in_err-nodes-clause-first c =
    let p = err_from_is_err_and c.from_residual.result c.from_residual.ensures.1 in
    rw (p.1, p.2) (elim c.in_err-nodes.ensures.err [ inl refused ↦ inl refused | inr read ↦ inr (first_fault c.args.bytes.now _ read) ])

pub returns-in_err-nodes-clause-value : goal.returns-in_err-nodes-clause-value
returns-in_err-nodes-clause-value c =
    let p = err_from_is_err_and c.from_residual.result c.from_residual.ensures.1 in
    rw (p.1, p.2) (elim c.in_err-nodes.ensures.err [ inl refused ↦ inl refused | inr read ↦ inr (fault_value c.args.bytes.now _ read) ])

pub returns-clause-found : goal.returns-clause-found
returns-clause-found c = found_trees c.args.bytes.now c.in_ok-nodes.nodes c.in_ok-nodes.ensures.ok

pub returns-clause-only : goal.returns-clause-only
returns-clause-only c = only_trees c.args.bytes.now c.in_ok-nodes.nodes c.in_ok-nodes.ensures.ok

pub returns-clause-value : goal.returns-clause-value
returns-clause-value c = trees_value c.args.bytes.now c.in_ok-nodes.nodes c.in_ok-nodes.ensures.ok
