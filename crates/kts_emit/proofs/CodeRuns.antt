-- The code of every well typed term and formula pushes its abstract value: one induction over the language.
use Rattle.std.proofs.Common.{◌≡◌, ℕ, ◌+◌, ◌*◌, ◌≤◌, List, ◌∷◌, ◌++◌, length, take, Option, Some, None, Bool, true, false, refl, sym, ap, ◌∙◌, subst, arith}
use Rattle.std.specs.Prelude.{slice_get}
use Rattle.kts_abs.specs.InSpace.{in_space}
use Rattle.kts_abs.specs.Ranged.{ValuesAreRanged}
use Rattle.kts_abs.specs.Values.{Abs, window_of}
use Rattle.kts_base.specs.Limits.{most_variables}
use Rattle.kts_code.specs.declared.instructions.Instr.{Instr}
use Rattle.kts_code.specs.declared.instructions.Instr.TheVariants as i
use Rattle.kts_code.specs.declared.modes.Mode.{Mode}
use Rattle.kts_code.specs.declared.modes.Mode.TheVariants.{Going, Halted, Trapped}
use Rattle.kts_code.specs.Machine.{written}
use Rattle.kts_code.specs.NamedTasks.{takes_by, takes_in}
use Rattle.kts_code.specs.Setups.{Setup, world_in}
use Rattle.kts_code.specs.States.{Operand, Core, State}
use Rattle.kts_code.proofs.Places.{HasAt, has_front, has_all}
use Rattle.kts_code.proofs.Runs.{Quiet, is_inner}
use Rattle.kts_code.proofs.Systems.{and_then, at_once, less_known}
use Rattle.kts_code.proofs.Systems.{steps_are as systems_steps}
use Rattle.kts_spec.specs.declared.schema.Schema.{Schema}
use Rattle.kts_spec.specs.declared.tree.Term.{Term, roll-Term}
use Rattle.kts_spec.specs.declared.tree.Formula.{Formula, roll-Formula}
use Rattle.kts_spec.specs.declared.tree.Formula.TheOpen as one
use Rattle.kts_spec.specs.declared.tree.Formula.TheFolds.{ind-Term, ind-Formula}
use Rattle.kts_spec.specs.Data.{is_valid}
use Rattle.kts_spec.specs.Sizes.{Size, size_of_term, size_of_formula}
use Rattle.kts_spec.specs.Typing.{Kind}
use Rattle.kts_spec.specs.Worlds.{World, size_of}
use Rattle.kts_spec.proofs.Rolls.{kind_of-roll, is_typed-roll, value-roll, truth-roll, size_of_term-roll, size_of_formula-roll}
use Rattle.kts_emit.specs.Fragments.{Fragment}
use Rattle.kts_emit.specs.Codes.{term_code, formula_code}
use Rattle.kts_emit.specs.Weights.{weight_of_term, weight_of_formula}
use Rattle.kts_emit.specs.Pushes.{StandsAt, IsReady, HasPushed, IsQuiet, Push, CodePushesValues, CodePushesAbove}
use Rattle.kts_emit.proofs.CodeLevels.{term_code-roll, formula_code-roll, weight_of_term-roll, weight_of_formula-roll}
use Rattle.kts_emit.proofs.Contexts.{Context, at, StandsWith, Leads}
use Rattle.kts_emit.proofs.Variables.{scope_fits, same_lower}
use Rattle.kts_emit.proofs.Operations.{Pushes}
use Rattle.kts_emit.proofs.SumFits.{Reached}
use Rattle.kts_emit.proofs.Claims.{OfTerm, OfFormula, Part, FormulaPart, bare, bare_formula}
use Rattle.kts_emit.proofs.TermForms.{reached, term_case}
use Rattle.kts_emit.proofs.FormulaForms.{formula_case}

module _ (setup : Setup) (r : Context) (valid : is_valid setup.code.schema setup.inst ≡ true)
    (ranged : ValuesAreRanged setup.code.schema (world_in setup) r.space) where
  abbrev w : World
  w = world_in setup

  abbrev schema : Schema
  schema = setup.code.schema

  term_all : (y : one.Term-F (FormulaPart setup r) (Part setup r)) → OfTerm setup r (roll-Term (bare setup r y))
  term_all y scope k need le e room =
      let value_is = value-roll (size_of w) (in_space w r.space) (bare setup r y) in
      let kind_is = subst (λ (f : List ℕ → Option Kind). f scope ≡ Some k) (kind_of-roll schema (bare setup r y)) e in
      let room2 = subst (λ (s : Size). 2 * s.depth + 10 ≤ need + length scope) (size_of_term-roll (bare setup r y)) room in
      rw (term_code-roll (bare setup r y), weight_of_term-roll (size_of w) (bare setup r y), value_is)
      (term_case setup r valid ranged y scope k need le kind_is room2
      (λ v vars is inside. subst (λ (f : List ℕ → Abs). Reached 1 (window_of (f vars))) value_is
      (reached setup r valid ranged (roll-Term (bare setup r y)) scope vars v inside (e ∙ ap Some is))))

  formula_all : (y : one.Formula-F (FormulaPart setup r) (Part setup r)) → OfFormula setup r (roll-Formula (bare_formula setup r y))
  formula_all y scope need le e room =
      let typed_is = subst (λ (f : List ℕ → Bool). f scope ≡ true) (is_typed-roll schema (bare_formula setup r y)) e in
      let room2 = subst (λ (s : Size). 2 * s.depth + 10 ≤ need + length scope) (size_of_formula-roll (bare_formula setup r y)) room in
      rw (
        formula_code-roll (bare_formula setup r y),
        weight_of_formula-roll (size_of w) (bare_formula setup r y),
        truth-roll (size_of w)
            (in_space w r.space) (bare_formula setup r y),
      )
      (formula_case setup r y scope need le typed_is room2)

  pub term_pushes : (t : Term) → OfTerm setup r t
  term_pushes t = ind-Term (OfFormula setup r) (OfTerm setup r) (λ x y e. subst (λ z. OfFormula setup r (roll-Formula z)) e (formula_all y))
      (λ x y e. subst (λ z. OfTerm setup r (roll-Term z)) e (term_all y)) t

  pub formula_pushes : (p : Formula) → OfFormula setup r p
  formula_pushes p = ind-Formula (OfFormula setup r) (OfTerm setup r) (λ x y e. subst (λ z. OfFormula setup r (roll-Formula z)) e (formula_all y))
      (λ x y e. subst (λ z. OfTerm setup r (roll-Term z)) e (term_all y)) p

-- instructions that stand at a place
pub stands : (code : List Instr) (place : ℕ) (is : List Instr) → StandsAt code place is → HasAt code place is
stands code place is h =
    let all = has_front (h.before ++ (is ++ h.behind)) (length h.before) is h.behind (has_all (is ++ h.behind) h.before) in
    let moved = subst (λ n. HasAt (h.before ++ (is ++ h.behind)) n is) (sym h.begins) all in
    subst (λ l. HasAt l place is) (sym h.whole) moved

-- what is left as it is from a state on
abbrev pub context : State → List Abs → Context
context s space = record { space = space; queue = s.core.queue; choices = s.core.choices; path = s.core.path; items = s.items }

-- a state that goes on in a space
pub named : (s : State) (space : List Abs) → s.core.mode ≡ Going → s.core.space ≡ Some space
    → s ≡ at (context s space) s.core.pc s.core.stack s.core.registers
named s space going within =
    let with_space : Option (List Abs) → State = λ o. record s { core = record (s.core) { space = o } } in
    let with_mode : Mode → State = λ mode. record s { core = record (s.core) { space = Some space; mode = mode } } in
    ap with_space within ∙ ap with_mode going

-- an inner instruction takes no task and writes nothing
inner_takes : (o : Option Instr) (c : Core) → is_inner o ≡ true → takes_by o c ≡ false
inner_takes None c e = refl
inner_takes (Some (i.Take to)) c e = cc
inner_takes (Some _) c e = refl

inner_writes : (o : Option Instr) (c : Core) → is_inner o ≡ true → written o c ≡ None
inner_writes None c e = refl
inner_writes (Some i.Node) c e = cc
inner_writes (Some i.Emit) c e = cc
inner_writes (Some _) c e = refl

by_mode : (mode : Mode) (setup : Setup) (c : Core) → takes_by (slice_get setup.code.instrs c.pc) c ≡ false → takes_in mode setup c ≡ false
by_mode Going setup c e = e
by_mode Halted setup c e = refl
by_mode (Trapped _) setup c e = refl

quiet : (setup : Setup) (s : State) → Quiet setup s → IsQuiet setup s
quiet setup s h =
    let o = slice_get setup.code.instrs s.core.pc in
    record { takes_none = by_mode s.core.mode setup s.core (inner_takes o s.core h); writes_none = inner_writes o s.core h }

-- a run that stands behind the code with its operand has pushed it
pub has_pushed : (setup : Setup) (space : List Abs) (scope vars : List ℕ) (places place : ℕ) (x : Operand) (s s2 : State)
    → IsReady setup space scope vars places s → StandsWith setup (context s space) scope vars place (x ∷ s.core.stack) s2
    → HasPushed (length scope) place x s s2
has_pushed setup space scope vars places place x s s2 ready h =
    let lower = same_lower (world_in setup) scope vars s.core.registers h.left ready.variables h.holds in
    record {
      place_is = ap (λ (t : State). t.core.pc) h.is;
      stack = ap (λ (t : State). t.core.stack) h.is;
      lower = ap (λ (t : State). take (length scope) t.core.registers) h.is ∙ lower;
      registers = ap (λ (t : State). length t.core.registers) h.is ∙ h.count ∙ sym ready.registers;
      space = ap (λ (t : State). t.core.space) h.is ∙ sym ready.within;
      queue = ap (λ (t : State). t.core.queue) h.is;
      choices = ap (λ (t : State). t.core.choices) h.is;
      path = ap (λ (t : State). t.core.path) h.is;
      mode = ap (λ (t : State). t.core.mode) h.is ∙ sym ready.going;
      items = ap (λ (t : State). t.items) h.is;
    }

-- code that pushes an operand, from a state on
from_state : (setup : Setup) (space : List Abs) (code : Fragment) (weight need : ℕ) (scope vars : List ℕ) (value : List ℕ → Operand) (s : State)
    → Pushes setup (context s space) code weight need scope value → IsReady setup space scope vars need s
    → StandsAt setup.code.instrs s.core.pc (code s.core.pc (length scope))
    → Push setup (code s.core.pc (length scope)) weight (length scope) (value vars) s
from_state setup space code weight need scope vars value s pushes ready there =
    let p = s.core.pc in
    let has = stands setup.code.instrs p (code p (length scope)) there in
    let a = pushes.goes vars p s.core.stack s.core.registers has ready.registers ready.variables ready.room in
    let b = subst (λ z. Leads setup (context s space) z weight scope vars (p + length (code p (length scope))) (value vars ∷ s.core.stack))
    (sym (named s space ready.going ready.within)) a in
    let c = less_known (quiet setup) b in
    let same : weight + 0 ≡ weight = omega arith in
    systems_steps same
    (and_then c (λ s2 h. at_once (has_pushed setup space scope vars need (p + length (code p (length scope))) (value vars) s s2 ready h)))

-- the variables of a scope have registers
few_in_scope : (setup : Setup) (space : List Abs) (scope vars : List ℕ) (places : ℕ) (s : State) → IsReady setup space scope vars places s
    → length scope ≤ most_variables
few_in_scope setup space scope vars places s ready =
    let fits = scope_fits (world_in setup) scope vars s.core.registers ready.variables in
    omega (arith, ready.registers, fits)

pub code_pushes : CodePushesValues
code_pushes setup space valid ranged = record {
  term = λ t scope vars k s typed ready there.
      let need = 2 * (size_of_term t).depth + 10 in
      let le = few_in_scope setup space scope vars need s ready in
      let pushes = term_pushes setup (context s space) valid ranged t scope k need le typed (omega arith) in
      from_state setup space (term_code t) (weight_of_term (size_of (world_in setup)) t) need scope vars _ s pushes ready there;
  formula = λ p scope vars s typed ready there.
      let need = 2 * (size_of_formula p).depth + 10 in
      let le = few_in_scope setup space scope vars need s ready in
      let pushes = formula_pushes setup (context s space) valid ranged p scope need le typed (omega arith) in
      from_state setup space (formula_code p) (weight_of_formula (size_of (world_in setup)) p) need scope vars _ s pushes ready there;
}

pub code_pushes_above : CodePushesAbove
code_pushes_above ranges setup first space valid starts above =
    code_pushes setup space valid (ranges setup.code.schema setup.inst valid first space starts above)
