use Rattle.kts_text.proofs.Depths.{shallow_trees}
use Rattle.kts_text.proofs.Agreement.{complete_trees, sound_trees, first_fault_of}
use Rattle.kts_text.proofs.reader.grammar_law.Goals as goal

pub returns : goal.returns
returns c = record {
  trees = λ bytes trees. (complete_trees bytes trees, sound_trees bytes trees);
  shallow = λ bytes trees e. shallow_trees bytes trees (sound_trees bytes trees e);
  faults = first_fault_of;
}
