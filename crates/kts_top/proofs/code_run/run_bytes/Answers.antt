use Rattle.std.proofs.Common.{ℕ, List}
use Rattle.kts_code.specs.declared.code.Code.{Code}
use Rattle.kts_read.specs.CodeFiles.{code_of}
use Rattle.kts_top.specs.Courses.{unread}
use Rattle.kts_top.specs.Owed.{Want, end, load, data_run, code_run}
use Rattle.kts_top.specs.Options.{RunOptions}
use Rattle.kts_top.specs.Refusals.{refused_code}
use Rattle.kts_top.proofs.CodeLoading.{code_held, fault_held}
use Rattle.kts_top.proofs.Loading.{after_read, goes_by, fault_ends}
use Rattle.kts_top.proofs.code_run.run_bytes.Goals as goal

-- what is wanted by code: the data at a path
abbrev data_wanted : RunOptions → List ℕ → Code → Want
data_wanted options table code = load table (λ bytes. end (data_run options code bytes))

pub returns-in-Ok-read_file : goal.returns-in-Ok-read_file
unfolding code_run
returns-in-Ok-read_file g c =
    goes_by refused_code (data_wanted c.args.options c.args.data_path.now) (code_of c.args.bytes.items) c.in-Ok.code
    (code_held c.code_files_law.ensures c.args.bytes.items c.in-Ok.code (rw c.deref.ensures.value at c.in-Ok.ensures.found))
    (after_read c.args.data_path.now c.in-Ok-read_file.bytes.items (data_run c.args.options c.in-Ok.code) c.in-Ok-read_file.ensures.read c.in-Ok-read_file.ensures.quiet (rw c.deref-in-Ok-read_file.ensures.value at c.run_data.ensures))

pub returns-in-Ok : goal.returns-in-Ok
unfolding code_run
returns-in-Ok g c =
    goes_by refused_code (data_wanted c.args.options c.args.data_path.now) (code_of c.args.bytes.items) c.in-Ok.code
    (code_held c.code_files_law.ensures c.args.bytes.items c.in-Ok.code (rw c.deref.ensures.value at c.in-Ok.ensures.found))
    (unread c.in-Err-read_file.ensures.unread)

pub returns : goal.returns
unfolding code_run
returns g c =
    fault_ends refused_code _ (code_of c.args.bytes.items) c.in-Err.fault
    (fault_held c.code_files_law.ensures c.args.bytes.items c.in-Err.fault (rw c.deref.ensures.value at c.in-Err.ensures.first)) c.say_code_fault.ensures
