-- A command of the program, as its definition has it.
use Rattle.kts_top.specs.declared.command.Command.{Command as Read}
use Rattle.kts_top.specs.declared.command.Command.TheVariants.{Check, Classify, Generate, Run, SolveData, Solve, Audit, Sample}
use Rattle.kts_top.specs.Commands.{Command, check, classify, generate, run, solve_data, solve, audit, sample}

abbrev pub plain_command : Read → Command
plain_command (Check spec) = check spec.now
plain_command (Classify spec) = classify spec.now
plain_command (Generate spec) = generate spec.now
plain_command (Run code table options) = run code.now table.now options
plain_command (SolveData spec table options) = solve_data spec.now table.now options
plain_command (Solve spec options) = solve spec.now options
plain_command (Audit spec table plan) = audit spec.now table.now plan.now
plain_command (Sample size) = sample size
