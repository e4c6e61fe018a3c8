-- How a command goes on from file to file.
use Rattle.std.proofs.Common.{◌≡◌, ◌⊎◌, inl, inr, refl, sym, subst, ℕ, ◌+◌, List, Option, Some, None, option_map, Result, Ok, Err}
use Rattle.kts_base.specs.declared.status.Status.{Status}
use Rattle.kts_base.specs.Stores.{Store}
use Rattle.kts_base.specs.Writes.{Log}
use Rattle.kts_code.specs.declared.code.Code.{Code}
use Rattle.kts_search.specs.WholeFaults.{IsTooLong}
use Rattle.kts_search.specs.WholeScheme.{whole_scheme}
use Rattle.kts_spec.specs.declared.spec.Spec.{Spec}
use Rattle.kts_top.specs.Courses.{IsRead, Course, ended, lacked, read}
use Rattle.kts_top.specs.Endings.{EndsOrLacks, ended as it_ended, lacked as it_lacked, EndsUnless, as_owed, for_memory}
use Rattle.kts_top.specs.Lines.{Owed, refused_length}
use Rattle.kts_top.specs.Options.{RunOptions}
use Rattle.kts_top.specs.Owed.{Want, end, load, empty_object, with_data, code_wanted, solution_wanted, with_value}

module _ {status : Status} {new : Log} {after : Store} where
  -- a command that has read a file ended
  pub end_read : {k : ℕ} {old : Log} {owed : Owed} → EndsOrLacks status old new owed → Course status old new after k after (end owed)
  end_read (it_ended ends) = ended refl ends
  end_read (it_lacked ends) = lacked refl ends

  -- one that read the file of number k and put nothing before goes on
  pub goes_on : {k : ℕ} {old middle : Log} {before between : Store} (path bytes : List ℕ) (next : List ℕ → Want) → IsRead before between path bytes
      → middle ≡ old → Course status middle new after (k + 1) between (next bytes) → Course status old new after k before (load path next)
  goes_on {k} {between = between} path bytes next is same course =
      read between bytes is (subst (λ (log : Log). Course status log new after (k + 1) between (next bytes)) same course)

  -- one that read its last file ended
  pub after_read : {k : ℕ} {old middle : Log} {before : Store} (path bytes : List ℕ) (owes : List ℕ → Owed) → IsRead before after path bytes
      → middle ≡ old → EndsOrLacks status middle new (owes bytes) → Course status old new after k before (load path (λ bytes. end (owes bytes)))
  after_read path bytes owes is same ends = goes_on path bytes (λ bytes. end (owes bytes)) is same (end_read ends)

module _ {A F : Type 0} {status : Status} {old new : Log} {after : Store} {k : ℕ} (refused : F → Owed) (next : A → Want) (content : Result A F) where
  -- a command goes on by what a file holds
  pub goes_by : {before : Store} (a : A) → content ≡ Ok a → Course status old new after k before (next a)
      → Course status old new after k before (with_value refused next content)
  goes_by {before} a e course = subst (λ (r : Result A F). Course status old new after k before (with_value refused next r)) (sym e) course

  -- it ends by the fault of a file, or by want of memory
  pub fault_ends : {Lacks : Type 0} (fault : F) → Lacks ⊎ (content ≡ Err fault) → EndsUnless status old new Lacks (refused fault)
      → Course status old new after k after (with_value refused next content)
  fault_ends fault (inl lack) (as_owed none ends) = absurd (none lack)
  fault_ends fault (inr e) (as_owed none ends) = subst (λ (r : Result A F). Course status old new after k after (with_value refused next r)) (sym e) (ended refl ends)
  fault_ends fault cause (for_memory lack ends) = lacked refl ends

-- data are at a path, or aren't told
module _ {P : Type 0} {status : Status} {old new : Log} {before after : Store} {k : ℕ} (text : P → List ℕ) (from : Option P) (owes : List ℕ → Owed) where
  pub told : (path : P) → from ≡ Some path → Course status old new after k before (load (text path) (λ bytes. end (owes bytes)))
      → Course status old new after k before (with_data (option_map text from) owes)
  told path e course = subst (λ (d : Option P). Course status old new after k before (with_data (option_map text d) owes)) (sym e) course

  pub not_told : from ≡ None → Course status old new after k before (end (owes empty_object)) → Course status old new after k before (with_data (option_map text from) owes)
  not_told e course = subst (λ (d : Option P). Course status old new after k before (with_data (option_map text d) owes)) (sym e) course

-- how `solve` goes on from a specification: by its code, or by its length
module _ {status : Status} {old new : Log} {before after : Store} (options : RunOptions) (table : Option (List ℕ)) (spec : Spec) where
  pub by_code : (code : Option Code) → whole_scheme spec ≡ code → Course status old new after 2 before (code_wanted options table spec code) → Course status old new after 2 before (solution_wanted options table (Some spec))
  by_code code e course = subst (λ (o : Option Code). Course status old new after 2 before (code_wanted options table spec o)) (sym e) course

  pub length_refused : (n : ℕ) → IsTooLong spec n → Course status old new after 2 before (end (refused_length n)) → Course status old new after 2 before (solution_wanted options table (Some spec))
  length_refused n long course = by_code None long.no_code (subst (λ m. Course status old new after 2 before (end (refused_length m))) long.length_is course)

-- what is owed at once was put, or memory was refused
pub ends_at_once : {status : Status} {old new : Log} {files : Store} {want : Want} {owed : Owed} → want ≡ end owed → EndsOrLacks status old new owed → Course status old new files 1 files want
ends_at_once {status} {old} {new} {files} e ends = subst (λ (w : Want). Course status old new files 1 files w) (sym e) (end_read ends)
