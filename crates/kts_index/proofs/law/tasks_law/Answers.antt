use Rattle.kts_index.proofs.PairFacts.{pairs_are_tasks}
use Rattle.kts_index.proofs.PatternPairs.{some_pattern_pairs}
use Rattle.kts_index.proofs.TaskNumbers.{tasks_have_numbers}
use Rattle.kts_index.proofs.law.tasks_law.Goals as goal

pub returns : goal.returns
returns c = record {
  numbers = tasks_have_numbers;
  paired = λ patterns x cell task. some_pattern_pairs x cell task patterns;
  pairs = pairs_are_tasks;
}
