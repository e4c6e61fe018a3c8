-- When the whole answer is owed.
use Rattle.std.specs.Prelude.{◌≡◌, ◌≤◌, ℕ, List, length, false, Option, Some, None, Ok}
use Rattle.kts_base.specs.Limits.{most_file_bytes}
use Rattle.kts_check.specs.Specs.{spec_of}
use Rattle.kts_code.specs.declared.code.Code.{Code}
use Rattle.kts_code.specs.Setups.{setup_of}
use Rattle.kts_data.specs.Instances.{data_of}
use Rattle.kts_search.specs.WholeScheme.{whole_scheme}
use Rattle.kts_spec.specs.declared.instance.Instance.{Instance}
use Rattle.kts_spec.specs.declared.spec.Spec.{Spec}
use Rattle.kts_top.specs.Commands.{Command, solve, solve_data}
use Rattle.kts_top.specs.Contents.{Content, content_of}
use Rattle.kts_top.specs.Manual.{IsCommand}
use Rattle.kts_top.specs.Options.{RunOptions, steps_of}
use Rattle.kts_top.specs.Owed.{empty_object}
use Rattle.kts_top.specs.TypedFiles.{enough_for}

-- the bytes that files hold under a path, of which there are not too many
abbrev pub Holds : (List ℕ → Option (List ℕ)) → List ℕ → List ℕ → Type 0
Holds held path bytes = (held path ≡ Some bytes) × (length bytes ≤ most_file_bytes)

-- `solve` of a specification, with data at a path or without
abbrev pub solve_with : List ℕ → Option (List ℕ) → RunOptions → Command
solve_with spec None options = solve spec options
solve_with spec (Some table) options = solve_data spec table options

abbrev pub HoldsData : (List ℕ → Option (List ℕ)) → Option (List ℕ) → List ℕ → Type 0
HoldsData held None bytes = bytes ≡ empty_object
HoldsData held (Some path) bytes = Holds held path bytes

-- The words are `solve`, for all schedules and without nodes, of a file that is well typed and has code, on data that say an
-- instance, within steps that are enough.
pub record SolvesWhole (words : List (List ℕ)) (held : List ℕ → Option (List ℕ)) (spec : Spec) (inst : Instance) : Type 0 where
  pub path : List ℕ
  pub table : Option (List ℕ)
  pub options : RunOptions
  pub command : IsCommand (solve_with path table options) words
  pub all : options.first ≡ None
  pub untraced : options.trace ≡ false
  pub bytes : List ℕ
  pub spec_held : Holds held path bytes
  pub content : Content
  pub typed : content_of bytes ≡ Ok content
  pub spec_is : spec_of content.parts ≡ Some spec
  pub code : Code
  pub code_is : whole_scheme spec ≡ Some code
  pub told : List ℕ
  pub data_held : HoldsData held table told
  pub says : data_of code.schema told ≡ Ok inst
  pub enough : enough_for spec (setup_of code inst) ≤ steps_of options
