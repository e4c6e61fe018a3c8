-- The base of each moment of a run: the space that the latest start, split or undone split has left.
use Rattle.std.specs.Prelude.{ℕ, suc, List, [], ◌∷◌, Bool, true, false, is_some, Option, Some, None, option_and_then, slice_get, if◌then◌else◌}
use Rattle.kts_abs.specs.Spaces.{split_cell}
use Rattle.kts_abs.specs.Values.{Abs}
use Rattle.kts_code.specs.declared.instructions.Instr.{Instr}
use Rattle.kts_code.specs.declared.instructions.Instr.TheVariants as i
use Rattle.kts_code.specs.declared.modes.Mode.{Mode}
use Rattle.kts_code.specs.declared.modes.Mode.TheVariants.{Going, Halted, Trapped}
use Rattle.kts_code.specs.Machine.{step, steps}
use Rattle.kts_code.specs.Setups.{Setup}
use Rattle.kts_code.specs.States.{ChoicePoint, Core, State, opening}

-- a state with its base, and how often a space was split or a split undone before
pub record Tracked : Type 0 where
  pub state : State
  pub base : Option (List Abs)
  pub moves : ℕ

-- whether there is a choice to be undone
abbrev pub has_choices : List ChoicePoint → Bool
has_choices [] = false
has_choices (c ∷ choices) = true

-- whether the step of an instruction splits a space, or undoes a split
abbrev pub moves_by : Option Instr → Core → Bool
moves_by (Some (i.Pick to)) s = is_some (option_and_then split_cell s.space)
moves_by (Some (i.Back to)) s = has_choices s.choices
moves_by _ s = false

-- whether the space that it leaves is a new base
abbrev pub bases_by : Option Instr → Core → Bool
bases_by (Some (i.Start to)) s = true
bases_by instr s = moves_by instr s

-- the same of the next step of a run
abbrev pub moves_in : Mode → Setup → Core → Bool
moves_in Going m s = moves_by (slice_get m.code.instrs s.pc) s
moves_in Halted m s = false
moves_in (Trapped _) m s = false

abbrev pub bases_in : Mode → Setup → Core → Bool
bases_in Going m s = bases_by (slice_get m.code.instrs s.pc) s
bases_in Halted m s = false
bases_in (Trapped _) m s = false

-- one step
abbrev pub track : Setup → ℕ → Tracked → Tracked
track m pick x =
    let s = step m pick x.state in
    record {
      state = s;
      base = if bases_in x.state.core.mode m x.state.core then s.core.space else x.base;
      moves = if moves_in x.state.core.mode m x.state.core then suc x.moves else x.moves;
    }

-- at first there is no base
abbrev pub tracked_opening : Tracked
tracked_opening = record { state = opening; base = None; moves = 0 }

-- the run from the opening state, with its bases
abbrev pub tracked_of : Setup → (ℕ → ℕ) → ℕ → Tracked
tracked_of m picks n = steps (track m) picks n tracked_opening

-- the base after so many steps of the run
abbrev pub base_of : Setup → (ℕ → ℕ) → ℕ → Option (List Abs)
base_of m picks n = (tracked_of m picks n).base

-- how many of them split a space or undid a split
abbrev pub moves_of : Setup → (ℕ → ℕ) → ℕ → ℕ
moves_of m picks n = (tracked_of m picks n).moves
