-- The code of clauses, its weight and length, and what running it does.
use Rattle.std.specs.Prelude.{◌≡◌, ◌<◌, ℕ, ◌+◌, ◌*◌, List, [], ◌∷◌, ◌++◌, length, map, true}
use Rattle.std.specs.List.{list_all}
use Rattle.kts_abs.specs.Spaces.{IsSpace}
use Rattle.kts_abs.specs.Values.{Abs}
use Rattle.kts_base.specs.Limits.{most_depth}
use Rattle.kts_clause.specs.declared.clause.Clause.{Clause}
use Rattle.kts_clause.specs.declared.literal.Literal.{Literal}
use Rattle.kts_clause.specs.ClauseFacts.{ClauseFacts}
use Rattle.kts_code.specs.declared.instructions.Instr.{Instr}
use Rattle.kts_code.specs.declared.instructions.Instr.TheVariants as i
use Rattle.kts_code.specs.Machine.{step}
use Rattle.kts_code.specs.Reaches.{Reaches}
use Rattle.kts_code.specs.Setups.{Setup, world_in}
use Rattle.kts_code.specs.States.{Truth, State}
use Rattle.kts_code.specs.WellFormed.{is_instr}
use Rattle.kts_plan.specs.Walks.{clause_in}
use Rattle.kts_spec.specs.declared.schema.Schema.{Schema}
use Rattle.kts_spec.specs.Data.{is_valid}
use Rattle.kts_spec.specs.Worlds.{size_of}
use Rattle.kts_emit.specs.Fragments.{Fragment, operation, chain, nested_loops}
use Rattle.kts_emit.specs.Bodies.{literal_code}
use Rattle.kts_emit.specs.BodyWeights.{literal_weight}
use Rattle.kts_emit.specs.Effects.{Kept, IsOnTheWay}
use Rattle.kts_emit.specs.Pushes.{HasPushed, IsReady, StandsAt}
use Rattle.kts_emit.specs.Weights.{chain_weight, nested_weight, once}

-- ---- code

-- whether one of these literals is true: they are joined by `or`, and without literals none is
abbrev pub literals_code : List Literal → Fragment
literals_code [] = operation [] (i.False ∷ [])
literals_code (l ∷ ls) = chain i.Or (literal_code l ∷ map literal_code ls)

-- the same for all members of the indexes of the prefix
abbrev pub clause_code : Clause → Fragment
clause_code c = nested_loops i.True i.And c.prefix (literals_code c.literals)

-- ---- weight

-- `size` is the number of members of an index
module _ (size : ℕ → ℕ) where
  abbrev pub literals_weight : List Literal → ℕ
  literals_weight [] = 1
  literals_weight (l ∷ ls) = chain_weight (literal_weight size l ∷ map (literal_weight size) ls)

  abbrev pub clause_weight : Clause → ℕ
  clause_weight c = nested_weight size c.prefix (literals_weight c.literals)

-- the length of the code of a clause: its weight where each index has one member
abbrev pub length_of_clause : Clause → ℕ
length_of_clause = clause_weight once

-- wherever it stands, and with however many variables in scope
abbrev pub ClausesHaveLength : Type 0
ClausesHaveLength = (c : Clause) (place vars : ℕ) → length (clause_code c place vars) ≡ length_of_clause c

-- ---- where it may stand

-- each instruction of the code of a well typed clause is well formed, in code of so many places of which some place is behind it
abbrev pub ClausesAreWellFormed : Type 0
ClausesAreWellFormed =
    (schema : Schema) (c : Clause) (place places : ℕ) → ClauseFacts schema c → place + length (clause_code c place 0) < places
    → list_all (is_instr schema places) (clause_code c place 0) ≡ true

-- ---- runs

-- as many free places on the stack are enough for every clause
abbrev pub clause_places : ℕ
clause_places = 2 * most_depth + 14

-- from a state on, in as many steps as the clause weighs at most, its truth in the space is pushed, and the run goes on at a place
abbrev pub PushesTruth : Setup → List Abs → Clause → ℕ → State → Type 0
PushesTruth m space c place s =
    Reaches (step m) (IsOnTheWay m Kept) s (clause_weight (size_of (world_in m)) c) (HasPushed 0 place (Truth (clause_in (world_in m) space c)) s)

-- on valid data, in each space, the code of a well typed clause pushes its truth there, with no variable in scope
abbrev pub ClausesPushTruth : Type 0
ClausesPushTruth =
    (m : Setup) (space : List Abs) → is_valid m.code.schema m.inst ≡ true → IsSpace (world_in m) space
    → (c : Clause) (s : State) → ClauseFacts m.code.schema c → IsReady m space [] [] clause_places s
    → StandsAt m.code.instrs s.core.pc (clause_code c s.core.pc 0)
    → PushesTruth m space c (s.core.pc + length (clause_code c s.core.pc 0)) s

-- in each code that begins with these instructions, those from a place on push the truth of the clause where it is well typed, and
-- the run goes on behind them
abbrev pub PushClause : Clause → ℕ → List Instr → Type 0
PushClause c place instrs =
    (m : Setup) (space : List Abs) (behind : List Instr) → m.code.instrs ≡ instrs ++ behind → is_valid m.code.schema m.inst ≡ true
    → IsSpace (world_in m) space
    → (s : State) → ClauseFacts m.code.schema c → s.core.pc ≡ place → IsReady m space [] [] clause_places s
    → PushesTruth m space c (length instrs) s
