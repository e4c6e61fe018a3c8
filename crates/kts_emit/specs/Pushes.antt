-- What running the code of terms and formulas does: it pushes their abstract values.
use Rattle.std.specs.Prelude.{◌≡◌, ◌≤◌, ◌<◌, ℕ, ◌+◌, ◌*◌, true, false, List, [], ◌∷◌, ◌++◌, length, take, slice_get, Some, None}
use Rattle.kts_abs.specs.InSpace.{value_in, truth_in}
use Rattle.kts_abs.specs.Ranged.{ValuesAreRanged, ValuesHaveRanges}
use Rattle.kts_abs.specs.Spaces.{IsAbove, initial}
use Rattle.kts_abs.specs.Values.{Abs}
use Rattle.kts_base.specs.Limits.{most_variables}
use Rattle.kts_code.specs.declared.instructions.Instr.{Instr}
use Rattle.kts_code.specs.declared.modes.Mode.TheVariants.{Going}
use Rattle.kts_code.specs.Machine.{step, written}
use Rattle.kts_code.specs.NamedTasks.{takes}
use Rattle.kts_code.specs.Reaches.{Reaches}
use Rattle.kts_code.specs.Setups.{Setup, world_in}
use Rattle.kts_code.specs.States.{Operand, Truth, operand_of, Register, State}
use Rattle.kts_spec.specs.declared.tree.Term.{Term}
use Rattle.kts_spec.specs.declared.tree.Formula.{Formula}
use Rattle.kts_spec.specs.Data.{is_valid}
use Rattle.kts_spec.specs.Sizes.{size_of_term, size_of_formula}
use Rattle.kts_spec.specs.Typing.{Kind, kind_of, is_typed}
use Rattle.kts_spec.specs.Worlds.{World, size_of}
use Rattle.kts_emit.specs.Codes.{term_code, formula_code}
use Rattle.kts_emit.specs.Weights.{weight_of_term, weight_of_formula}

-- the first registers have the variables, each a member of its index
abbrev pub HasVariables : World → List ℕ → List ℕ → List Register → Type 0
HasVariables w [] [] registers = Unit {0}
HasVariables w [] (m ∷ vars) registers = ⊥
HasVariables w (index ∷ scope) [] registers = ⊥
HasVariables w (index ∷ scope) (m ∷ vars) [] = ⊥
HasVariables w (index ∷ scope) (m ∷ vars) (register ∷ registers) =
    (register ≡ Some (index, m)) × (m < size_of w index) × HasVariables w scope vars registers

-- these instructions stand in code from a place on
pub record StandsAt (code : List Instr) (place : ℕ) (is : List Instr) : Type 0 where
  pub before : List Instr
  pub behind : List Instr
  pub whole : code ≡ before ++ (is ++ behind)
  pub begins : place ≡ length before

-- a run that goes on in a space, with the variables in registers and so many free places on the stack
pub record IsReady (m : Setup) (space : List Abs) (scope vars : List ℕ) (places : ℕ) (s : State) : Type 0 where
  pub going : s.core.mode ≡ Going
  pub within : s.core.space ≡ Some space
  pub registers : length s.core.registers ≡ most_variables
  pub variables : HasVariables (world_in m) scope vars s.core.registers
  pub room : places + length s.core.stack ≤ m.code.stack

-- the second state is at the place with the operand pushed; all else is as before, but for the registers above the first so many
pub record HasPushed (variables : ℕ) (place : ℕ) (x : Operand) (s s2 : State) : Type 0 where
  pub place_is : s2.core.pc ≡ place
  pub stack : s2.core.stack ≡ x ∷ s.core.stack
  pub lower : take variables s2.core.registers ≡ take variables s.core.registers
  pub registers : length s2.core.registers ≡ length s.core.registers
  pub space : s2.core.space ≡ s.core.space
  pub queue : s2.core.queue ≡ s.core.queue
  pub choices : s2.core.choices ≡ s.core.choices
  pub path : s2.core.path ≡ s.core.path
  pub mode : s2.core.mode ≡ s.core.mode
  pub items : s2.items ≡ s.items

-- the next step takes no task and writes nothing
pub record IsQuiet (m : Setup) (s : State) : Type 0 where
  pub takes_none : takes m s.core ≡ false
  pub writes_none : written (slice_get m.code.instrs s.core.pc) s.core ≡ None

-- in so many steps at most the instructions that stand at the place of a state push the operand, and the run goes on behind them
abbrev pub Push : Setup → List Instr → ℕ → ℕ → Operand → State → Type 0
Push m is steps variables x s = Reaches (step m) (IsQuiet m) s steps (HasPushed variables (s.core.pc + length is) x s)

-- in a space, the code of each well typed term and formula pushes its abstract value in as many steps as its weight
pub record CodePushesIn (m : Setup) (space : List Abs) : Type 0 where
  pub term : (t : Term) (scope vars : List ℕ) (k : Kind) (s : State) → kind_of m.code.schema t scope ≡ Some k
      → IsReady m space scope vars (2 * (size_of_term t).depth + 10) s
      → StandsAt m.code.instrs s.core.pc (term_code t s.core.pc (length scope))
      → Push m (term_code t s.core.pc (length scope)) (weight_of_term (size_of (world_in m)) t) (length scope)
      (operand_of k (value_in (world_in m) space t vars)) s
  pub formula : (p : Formula) (scope vars : List ℕ) (s : State) → is_typed m.code.schema p scope ≡ true
      → IsReady m space scope vars (2 * (size_of_formula p).depth + 10) s
      → StandsAt m.code.instrs s.core.pc (formula_code p s.core.pc (length scope))
      → Push m (formula_code p s.core.pc (length scope)) (weight_of_formula (size_of (world_in m)) p) (length scope)
      (Truth (truth_in (world_in m) space p vars)) s

-- so it is on valid data, where values lie in their static ranges
abbrev pub CodePushesValues : Type 0
CodePushesValues =
    (m : Setup) (space : List Abs) → is_valid m.code.schema m.inst ≡ true → ValuesAreRanged m.code.schema (world_in m) space
    → CodePushesIn m space

-- and so in every space above the first, if they lie in their ranges there
abbrev pub CodePushesAbove : Type 0
CodePushesAbove =
    ValuesHaveRanges → (m : Setup) (first space : List Abs) → is_valid m.code.schema m.inst ≡ true
    → initial (world_in m) ≡ Some first → IsAbove first space → CodePushesIn m space

-- in each code that begins with these instructions, those from a place on push the value of a term where it is well typed, and the
-- run goes on behind them
abbrev pub PushTerm : Term → ℕ → ℕ → List Instr → Type 0
PushTerm t variables place instrs =
    (m : Setup) (space : List Abs) (behind : List Instr) → m.code.instrs ≡ instrs ++ behind → is_valid m.code.schema m.inst ≡ true
    → ValuesAreRanged m.code.schema (world_in m) space
    → (scope vars : List ℕ) (k : Kind) (s : State) → length scope ≡ variables → kind_of m.code.schema t scope ≡ Some k → s.core.pc ≡ place
    → IsReady m space scope vars (2 * (size_of_term t).depth + 10) s
    → Reaches (step m) (IsQuiet m) s (weight_of_term (size_of (world_in m)) t)
    (HasPushed variables (length instrs) (operand_of k (value_in (world_in m) space t vars)) s)

-- the same of the truth of a formula
abbrev pub PushFormula : Formula → ℕ → ℕ → List Instr → Type 0
PushFormula p variables place instrs =
    (m : Setup) (space : List Abs) (behind : List Instr) → m.code.instrs ≡ instrs ++ behind → is_valid m.code.schema m.inst ≡ true
    → ValuesAreRanged m.code.schema (world_in m) space
    → (scope vars : List ℕ) (s : State) → length scope ≡ variables → is_typed m.code.schema p scope ≡ true → s.core.pc ≡ place
    → IsReady m space scope vars (2 * (size_of_formula p).depth + 10) s
    → Reaches (step m) (IsQuiet m) s (weight_of_formula (size_of (world_in m)) p)
    (HasPushed variables (length instrs) (Truth (truth_in (world_in m) space p vars)) s)
