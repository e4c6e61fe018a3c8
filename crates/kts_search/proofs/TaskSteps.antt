-- The steps of tasks and filters leave no new base.
use Rattle.std.proofs.Common.{◌≡◌, true, false, Option, Some, None, refl}
use Rattle.std.specs.Prelude.{slice_get}
use Rattle.kts_code.specs.declared.instructions.Instr.{Instr}
use Rattle.kts_code.specs.declared.instructions.Instr.TheVariants as i
use Rattle.kts_code.specs.declared.modes.Mode.{Mode}
use Rattle.kts_code.specs.declared.modes.Mode.TheVariants.{Going, Halted, Trapped}
use Rattle.kts_code.specs.Setups.{Setup}
use Rattle.kts_code.specs.States.{Core, State}
use Rattle.kts_emit.specs.Effects.{is_of_tasks}
use Rattle.kts_search.specs.Bases.{moves_by, bases_by, moves_in, bases_in}

-- at an instruction of tasks
abbrev pub InTask : Setup → State → Type 0
InTask m s = is_of_tasks (slice_get m.code.instrs s.core.pc) ≡ true

task_moves : (o : Option Instr) (s : Core) → is_of_tasks o ≡ true → moves_by o s ≡ false
task_moves None s e = refl
task_moves (Some (i.Pick to)) s e = cc
task_moves (Some (i.Back to)) s e = cc
task_moves (Some _) s e = refl

task_bases : (o : Option Instr) (s : Core) → is_of_tasks o ≡ true → bases_by o s ≡ false
task_bases None s e = refl
task_bases (Some (i.Start to)) s e = cc
task_bases (Some (i.Pick to)) s e = cc
task_bases (Some (i.Back to)) s e = cc
task_bases (Some _) s e = refl

pub step_moves : (m : Setup) (mode : Mode) (s : State) → InTask m s → moves_in mode m s.core ≡ false
step_moves m Going s e = task_moves (slice_get m.code.instrs s.core.pc) s.core e
step_moves m Halted s e = refl
step_moves m (Trapped _) s e = refl

pub step_bases : (m : Setup) (mode : Mode) (s : State) → InTask m s → bases_in mode m s.core ≡ false
step_bases m Going s e = task_bases (slice_get m.code.instrs s.core.pc) s.core e
step_bases m Halted s e = refl
step_bases m (Trapped _) s e = refl
