-- Code that is appended to a buffer pushes the value of its term or formula.
use Rattle.std.proofs.Common.{◌≡◌, ℕ, ◌+◌, List, ◌++◌, length, sym, ap, ◌∙◌, subst, append_assoc, length-append}
use Rattle.kts_code.specs.declared.instructions.Instr.{Instr}
use Rattle.kts_code.specs.Machine.{step}
use Rattle.kts_code.specs.Reaches.{Reaches}
use Rattle.kts_code.specs.Setups.{Setup, world_in}
use Rattle.kts_code.specs.States.{Operand, State}
use Rattle.kts_spec.specs.declared.tree.Term.{Term}
use Rattle.kts_spec.specs.declared.tree.Formula.{Formula}
use Rattle.kts_spec.specs.Worlds.{size_of}
use Rattle.kts_emit.specs.Fragments.{Fragment}
use Rattle.kts_emit.specs.Codes.{term_code, formula_code}
use Rattle.kts_emit.specs.Weights.{weight_of_term, weight_of_formula}
use Rattle.kts_emit.specs.Pushes.{StandsAt, HasPushed, IsQuiet, PushTerm, PushFormula}
use Rattle.kts_emit.proofs.CodeRuns.{code_pushes}

-- a fragment behind a buffer's instructions, in code that begins with both
module _ (code : Fragment) (old new behind instrs : List Instr) (variables : ℕ) (is : new ≡ old ++ code (length old) variables)
    (whole : instrs ≡ new ++ behind) (place : ℕ) (at : place ≡ length old) (count : ℕ) (many : count ≡ variables) where
  same : code (length old) variables ≡ code place count
  same = ap (λ n. code (length old) n) (sym many) ∙ ap (λ p. code p count) (sym at)

  pub there : StandsAt instrs place (code place count)
  there = record {
    before = old;
    behind = behind;
    whole = whole ∙ ap (λ l. l ++ behind) is ∙ append_assoc old (code (length old) variables) behind ∙ ap (λ l. old ++ (l ++ behind)) same;
    begins = at;
  }

  pub ends : place + length (code place count) ≡ length new
  ends =
      ap (λ p. p + length (code place count)) at ∙ sym (length-append old (code place count)) ∙ ap (λ l. length (old ++ l)) (sym same)
      ∙ ap length (sym is)

-- the end under another name
reaches_as : (m : Setup) (s : State) (steps a b p q : ℕ) (x : Operand) → a ≡ b → p ≡ q
    → Reaches (step m) (IsQuiet m) s steps (HasPushed a p x s) → Reaches (step m) (IsQuiet m) s steps (HasPushed b q x s)
reaches_as m s steps a b p q x e f h =
    subst (λ n. Reaches (step m) (IsQuiet m) s steps (HasPushed n q x s)) e
    (subst (λ n. Reaches (step m) (IsQuiet m) s steps (HasPushed a n x s)) f h)

pub term_runs : (t : Term) (old new : List Instr) (variables : ℕ) → new ≡ old ++ term_code t (length old) variables
    → PushTerm t variables (length old) new
term_runs t old new variables is m space behind whole valid ranged scope vars k s many typed at ready =
    let n = length scope in
    let p = s.core.pc in
    let code = term_code t in
    let stands = there code old new behind m.code.instrs variables is whole p at n many in
    let last = ends code old new behind m.code.instrs variables is whole p at n many in
    let run = (code_pushes m space valid ranged).term t scope vars k s typed ready stands in
    reaches_as m s (weight_of_term (size_of (world_in m)) t) n variables (p + length (code p n)) (length new) _ many last run

pub formula_runs : (f : Formula) (old new : List Instr) (variables : ℕ) → new ≡ old ++ formula_code f (length old) variables
    → PushFormula f variables (length old) new
formula_runs f old new variables is m space behind whole valid ranged scope vars s many typed at ready =
    let n = length scope in
    let p = s.core.pc in
    let code = formula_code f in
    let stands = there code old new behind m.code.instrs variables is whole p at n many in
    let last = ends code old new behind m.code.instrs variables is whole p at n many in
    let run = (code_pushes m space valid ranged).formula f scope vars s typed ready stands in
    reaches_as m s (weight_of_formula (size_of (world_in m)) f) n variables (p + length (code p n)) (length new) _ many last run
