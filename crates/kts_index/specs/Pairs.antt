-- Which tasks patterns pair with a cell.
use Rattle.std.specs.Prelude.{ℕ, zero, suc, List, [], ◌∷◌, length, Bool, true, false, ◌&&◌, nat_eq, Option, Some, None}
use Rattle.std.specs.List.{list_any, filter, range_with_len}
use Rattle.kts_spec.specs.declared.schema.Schema.{Schema}
use Rattle.kts_spec.specs.declared.instance.Instance.{Instance}
use Rattle.kts_spec.specs.Worlds.{world_of}
use Rattle.kts_index.specs.declared.pattern.Pattern.{Pattern}
use Rattle.kts_index.specs.TaskOrder.{Task, tasks, task_at}

-- whether a tuple has this member at a place
abbrev pub has_member : List ℕ → ℕ → ℕ → Bool
has_member [] k m = false
has_member (x ∷ xs) zero m = nat_eq x m
has_member (x ∷ xs) (suc k) m = has_member xs k m

-- whether a tuple agrees with an argument of a pattern, where the cell has this member
abbrev pub argument_agrees : List ℕ → Option ℕ → ℕ → Bool
argument_agrees tuple None m = true
argument_agrees tuple (Some k) m = has_member tuple k m

-- whether it agrees with all of them, where the cell has these members
abbrev pub arguments_agree : List ℕ → List (Option ℕ) → List ℕ → Bool
arguments_agree tuple [] cell = true
arguments_agree tuple (a ∷ args) [] = true
arguments_agree tuple (a ∷ args) (m ∷ cell) = argument_agrees tuple a m && arguments_agree tuple args cell

-- whether a pattern pairs a task with the cell of this choice at these members
abbrev pub agrees : ℕ → List ℕ → Task → Pattern → Bool
agrees x cell task p = nat_eq p.definite task.definite && nat_eq p.choice x && arguments_agree task.tuple p.args cell

-- whether some pattern does
unfoldable pub is_paired : List Pattern → ℕ → List ℕ → Task → Bool
is_paired patterns x cell task = list_any (agrees x cell task) patterns

-- whether the task of this number is paired with a cell
abbrev pub is_pair : List Pattern → Schema → Instance → ℕ → List ℕ → ℕ → Bool
is_pair patterns schema inst x cell t = is_paired patterns x cell (task_at (world_of schema inst) schema.tasks t)

-- the numbers of the tasks that are paired with the cell of a choice at these members
unfoldable pub pairs : List Pattern → Schema → Instance → ℕ → List ℕ → List ℕ
pairs patterns schema inst x cell =
    filter (is_pair patterns schema inst x cell) (range_with_len 0 (length (tasks (world_of schema inst) schema.tasks)))
