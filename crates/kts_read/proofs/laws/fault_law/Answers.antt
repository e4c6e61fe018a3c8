use Rattle.kts_read.proofs.ExactFaults.{one_fault, no_fault}
use Rattle.kts_read.proofs.laws.fault_law.Goals as goal

pub returns-clause-one : goal.returns-clause-one
returns-clause-one c = λ bytes f g a b. one_fault bytes f g a b

pub returns-clause-none : goal.returns-clause-none
returns-clause-none c = λ code f a. no_fault code f a
