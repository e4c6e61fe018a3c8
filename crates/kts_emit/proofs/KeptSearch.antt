-- The steps of terms, formulas, heads and jumps leave the choices and the path count as they are.
use Rattle.std.proofs.Common.{◌≡◌, ℕ, zero, suc, List, [], ◌∷◌, length, map, Option, Some, None, Bool, true, false, cond, refl, sym, ap, ◌∙◌}
use Rattle.std.specs.Prelude.{ℤ, slice_get, nat_lt, nat_eq}
use Rattle.std.proofs.lemmas.Bool.{true≢false}
use Rattle.kts_abs.specs.declared.demand.Op.{Op}
use Rattle.kts_abs.specs.declared.demand.Op.TheVariants.{AtLeast, AtMost, Within, Without}
use Rattle.kts_abs.specs.declared.truth.Tri.{Tri}
use Rattle.kts_abs.specs.declared.truth.Tri.TheVariants.{F, U, T}
use Rattle.kts_abs.specs.Demands.{Demand, meets, raised}
use Rattle.kts_abs.specs.InSpace.{only_of}
use Rattle.kts_abs.specs.Values.{Abs}
use Rattle.kts_abs.specs.Windows.{Window}
use Rattle.kts_code.specs.declared.instructions.Instr.{Instr}
use Rattle.kts_code.specs.declared.instructions.Instr.TheVariants as i
use Rattle.kts_code.specs.declared.modes.Mode.{Mode}
use Rattle.kts_code.specs.declared.modes.Mode.TheVariants.{Going, Halted, Trapped}
use Rattle.kts_code.specs.HeadSteps.{cell_in, bound_of, tuple_of, on_raised, on_cell, on_tuple, on_bound, on_head}
use Rattle.kts_code.specs.Machine.{act, written, step, step_in, add_item}
use Rattle.kts_code.specs.NamedTasks.{takes_by, takes_in}
use Rattle.kts_code.specs.Operands.{with_space, push, push_fitted, two_windows, two_truths, one_truth, on_test, on_need, on_gate, on_same, on_var, on_first, on_next, on_arguments, arguments_of, on_access}
use Rattle.kts_code.specs.Setups.{Setup, world_in}
use Rattle.kts_code.specs.States.{Operand, Win, Set, Truth, Register, Core}
use Rattle.kts_spec.specs.declared.declarations.Family.{Family}
use Rattle.kts_spec.specs.Places.{cell, entry}
use Rattle.kts_spec.specs.Worlds.{World, size_of, given_of, choice_of, table_of}
use Rattle.kts_emit.specs.Effects.{is_of_tasks}
use Rattle.kts_emit.specs.TaskSteps.{KeepsSearch, TaskStepsKeepTheSearch}

-- a core with the choices and the path count of another
record Keeps (s s2 : Core) : Type 0 where
  choices : s2.choices ≡ s.choices
  path : s2.path ≡ s.path

either : (s a b : Core) (t : Bool) → Keeps s a → Keeps s b → Keeps s (cond t a b)
either s a b true h k = h
either s a b false h k = k

module _ (places : ℕ) (s : Core) where
  push_keeps : (x : Operand) (rest : List Operand) → Keeps s (push places s x rest)
  push_keeps x rest = either s _ _ (nat_lt (length rest) places) (record { choices = refl; path = refl }) (record { choices = refl; path = refl })

  fitted_keeps : (o : Option Window) (rest : List Operand) → Keeps s (push_fitted places s o rest)
  fitted_keeps None rest = record { choices = refl; path = refl }
  fitted_keeps (Some v) rest = push_keeps (Win v) rest

  space_keeps : (o : Option (List Abs)) (go : List Abs → Core) → ((space : List Abs) → Keeps s (go space)) → Keeps s (with_space o s go)
  space_keeps None go h = record { choices = refl; path = refl }
  space_keeps (Some space) go h = h space

  windows_keep : (stack : List Operand) (go : Window → Window → List Operand → Core) → ((a b : Window) (rest : List Operand) → Keeps s (go a b rest))
      → Keeps s (two_windows stack s go)
  windows_keep (Win b ∷ Win a ∷ rest) go h = h a b rest
  windows_keep [] go h = record { choices = refl; path = refl }
  windows_keep (x ∷ []) go h = record { choices = refl; path = refl }
  windows_keep (x ∷ y ∷ rest) go h = record { choices = refl; path = refl }

  truths_keep : (stack : List Operand) (go : Tri → Tri → List Operand → Core) → ((a b : Tri) (rest : List Operand) → Keeps s (go a b rest))
      → Keeps s (two_truths stack s go)
  truths_keep (Truth b ∷ Truth a ∷ rest) go h = h a b rest
  truths_keep [] go h = record { choices = refl; path = refl }
  truths_keep (x ∷ []) go h = record { choices = refl; path = refl }
  truths_keep (x ∷ y ∷ rest) go h = record { choices = refl; path = refl }

  truth_keeps : (stack : List Operand) (go : Tri → List Operand → Core) → ((a : Tri) (rest : List Operand) → Keeps s (go a rest))
      → Keeps s (one_truth stack s go)
  truth_keeps (Truth a ∷ rest) go h = h a rest
  truth_keeps [] go h = record { choices = refl; path = refl }
  truth_keeps (x ∷ rest) go h = record { choices = refl; path = refl }

  test_keeps : (to : ℕ) (t : Tri) (rest : List Operand) → Keeps s (on_test to s t rest)
  test_keeps to F rest = record { choices = refl; path = refl }
  test_keeps to U rest = record { choices = refl; path = refl }
  test_keeps to T rest = record { choices = refl; path = refl }

  need_keeps : (to : ℕ) (t : Tri) (rest : List Operand) → Keeps s (on_need to s t rest)
  need_keeps to F rest = record { choices = refl; path = refl }
  need_keeps to U rest = record { choices = refl; path = refl }
  need_keeps to T rest = record { choices = refl; path = refl }

  gate_keeps : (stack : List Operand) → Keeps s (on_gate places s stack)
  gate_keeps (Win a ∷ Truth t ∷ rest) = push_keeps _ rest
  gate_keeps [] = record { choices = refl; path = refl }
  gate_keeps (x ∷ []) = record { choices = refl; path = refl }
  gate_keeps (x ∷ y ∷ rest) = record { choices = refl; path = refl }

  same_keeps : (stack : List Operand) → Keeps s (on_same places s stack)
  same_keeps (Set j ns ∷ Set index ms ∷ rest) = either s _ _ (nat_eq index j) (push_keeps _ rest) (record { choices = refl; path = refl })
  same_keeps [] = record { choices = refl; path = refl }
  same_keeps (x ∷ []) = record { choices = refl; path = refl }
  same_keeps (x ∷ y ∷ rest) = record { choices = refl; path = refl }

  var_keeps : (o : Option Register) → Keeps s (on_var places s o)
  var_keeps None = record { choices = refl; path = refl }
  var_keeps (Some None) = record { choices = refl; path = refl }
  var_keeps (Some (Some (index, m))) = push_keeps _ s.stack

  first_keeps : (n r index to : ℕ) → Keeps s (on_first n s r index to)
  first_keeps zero r index to = record { choices = refl; path = refl }
  first_keeps (suc n) r index to = record { choices = refl; path = refl }

  next_keeps : (w : World) (o : Option Register) (r to : ℕ) → Keeps s (on_next w s o r to)
  next_keeps w None r to = record { choices = refl; path = refl }
  next_keeps w (Some None) r to = record { choices = refl; path = refl }
  next_keeps w (Some (Some (index, m))) r to =
      either s _ _ (nat_lt (suc m) (size_of w index)) (record { choices = refl; path = refl }) (record { choices = refl; path = refl })

  access_keeps : (family : Family) (place : List ℤ → Option ℕ) (cells : List Abs) → Keeps s (on_access places s family place cells)
  access_keeps family place cells = either s _ _ (nat_lt (length s.stack) (length family.args)) (record { choices = refl; path = refl }) (by (arguments_of family s.stack))
    where
      by : (o : Option (List (List ℤ) × List Operand)) → Keeps s (on_arguments places s family place cells o)
      by None = record { choices = refl; path = refl }
      by (Some (sets, rest)) = push_keeps _ rest

module _ (m : Setup) (s : Core) (space : List Abs) where
  raised_keeps : (k to : ℕ) (below : List Operand) (o : Option Abs) → Keeps s (on_raised m s space k to below o)
  raised_keeps k to below None = record { choices = refl; path = refl }
  raised_keeps k to below (Some a) = record { choices = refl; path = refl }

  cell_keeps : (to : ℕ) (below : List Operand) (d : Demand) (o : Option ℕ) → Keeps s (on_cell m s space to below d o)
  cell_keeps to below d None = record { choices = refl; path = refl }
  cell_keeps to below d (Some k) =
      either s _ _ (meets d (cell_in space k)) (record { choices = refl; path = refl }) (raised_keeps k to below (raised d (cell_in space k)))

  tuple_keeps : (op : Op) (x to : ℕ) (b : Option Abs) (o : Option (List ℤ × List Operand)) → Keeps s (on_tuple m s space op x to b o)
  tuple_keeps op x to None o = record { choices = refl; path = refl }
  tuple_keeps op x to (Some b) None = record { choices = refl; path = refl }
  tuple_keeps op x to (Some b) (Some (tuple, below)) = cell_keeps to below (op, b) (cell (world_in m) x tuple)

  bound_keeps : (op : Op) (x to : ℕ) (family : Family) (stack : List Operand) → Keeps s (on_bound m s space op x to family stack)
  bound_keeps op x to family [] = record { choices = refl; path = refl }
  bound_keeps op x to family (b ∷ stack) = tuple_keeps op x to (bound_of op family.kind b) (tuple_of (arguments_of family stack))

  head_keeps : (op : Op) (x to : ℕ) → Keeps s (on_head m s op x to space)
  head_keeps op x to =
      let family = choice_of (world_in m) x in
      either s _ _ (nat_lt (length s.stack) (suc (length family.args))) (record { choices = refl; path = refl }) (bound_keeps op x to family s.stack)

act_keeps : (m : Setup) (pick : ℕ) (o : Option Instr) (s : Core) → is_of_tasks o ≡ true → Keeps s (act m pick o s)
act_keeps m pick None s e = absurd (true≢false (sym e))
act_keeps m pick (Some (i.Start to)) s e = absurd (true≢false (sym e))
act_keeps m pick (Some (i.Take to)) s e = absurd (true≢false (sym e))
act_keeps m pick (Some i.Node) s e = absurd (true≢false (sym e))
act_keeps m pick (Some (i.Pick to)) s e = absurd (true≢false (sym e))
act_keeps m pick (Some i.Emit) s e = absurd (true≢false (sym e))
act_keeps m pick (Some (i.Back to)) s e = absurd (true≢false (sym e))
act_keeps m pick (Some i.Halt) s e = absurd (true≢false (sym e))
act_keeps m pick (Some (i.Jump to)) s e = record { choices = refl; path = refl }
act_keeps m pick (Some (i.Test to)) s e = truth_keeps m.code.stack s s.stack _ (test_keeps m.code.stack s to)
act_keeps m pick (Some (i.Need to)) s e = truth_keeps m.code.stack s s.stack _ (need_keeps m.code.stack s to)
act_keeps m pick (Some (i.AtLeast x to)) s e = space_keeps m.code.stack s s.space (on_head m s AtLeast x to) (λ space. head_keeps m s space AtLeast x to)
act_keeps m pick (Some (i.AtMost x to)) s e = space_keeps m.code.stack s s.space (on_head m s AtMost x to) (λ space. head_keeps m s space AtMost x to)
act_keeps m pick (Some (i.Within x to)) s e = space_keeps m.code.stack s s.space (on_head m s Within x to) (λ space. head_keeps m s space Within x to)
act_keeps m pick (Some (i.Without x to)) s e = space_keeps m.code.stack s s.space (on_head m s Without x to) (λ space. head_keeps m s space Without x to)
act_keeps m pick (Some (i.Num n)) s e = push_keeps m.code.stack s _ s.stack
act_keeps m pick (Some (i.Var r)) s e = var_keeps m.code.stack s (slice_get s.registers r)
act_keeps m pick (Some (i.Given f)) s e =
    let w = world_in m in access_keeps m.code.stack s (given_of w f) (entry w f) (map only_of (table_of w f))
act_keeps m pick (Some (i.Choice x)) s e =
    let w = world_in m in
    space_keeps m.code.stack s s.space (on_access m.code.stack s (choice_of w x) (cell w x)) (λ space. access_keeps m.code.stack s (choice_of w x) (cell w x) space)
act_keeps m pick (Some i.Add) s e = windows_keep m.code.stack s s.stack _ (λ a b rest. fitted_keeps m.code.stack s _ rest)
act_keeps m pick (Some i.Sub) s e = windows_keep m.code.stack s s.stack _ (λ a b rest. fitted_keeps m.code.stack s _ rest)
act_keeps m pick (Some i.Mul) s e = windows_keep m.code.stack s s.stack _ (λ a b rest. fitted_keeps m.code.stack s _ rest)
act_keeps m pick (Some i.Min) s e = windows_keep m.code.stack s s.stack _ (λ a b rest. push_keeps m.code.stack s _ rest)
act_keeps m pick (Some i.Max) s e = windows_keep m.code.stack s s.stack _ (λ a b rest. push_keeps m.code.stack s _ rest)
act_keeps m pick (Some i.Le) s e = windows_keep m.code.stack s s.stack _ (λ a b rest. push_keeps m.code.stack s _ rest)
act_keeps m pick (Some i.Eq) s e = windows_keep m.code.stack s s.stack _ (λ a b rest. push_keeps m.code.stack s _ rest)
act_keeps m pick (Some i.Same) s e = same_keeps m.code.stack s s.stack
act_keeps m pick (Some i.And) s e = truths_keep m.code.stack s s.stack _ (λ a b rest. push_keeps m.code.stack s _ rest)
act_keeps m pick (Some i.Or) s e = truths_keep m.code.stack s s.stack _ (λ a b rest. push_keeps m.code.stack s _ rest)
act_keeps m pick (Some i.Not) s e = truth_keeps m.code.stack s s.stack _ (λ a rest. push_keeps m.code.stack s _ rest)
act_keeps m pick (Some i.Gate) s e = gate_keeps m.code.stack s s.stack
act_keeps m pick (Some (i.First r index to)) s e = first_keeps m.code.stack s (size_of (world_in m) index) r index to
act_keeps m pick (Some (i.Next r to)) s e = next_keeps m.code.stack s (world_in m) (slice_get s.registers r) r to
act_keeps m pick (Some i.True) s e = push_keeps m.code.stack s _ s.stack
act_keeps m pick (Some i.False) s e = push_keeps m.code.stack s _ s.stack

no_take : (o : Option Instr) (c : Core) → is_of_tasks o ≡ true → takes_by o c ≡ false
no_take None c e = refl
no_take (Some (i.Take to)) c e = absurd (true≢false (sym e))
no_take (Some _) c e = refl

no_write : (o : Option Instr) (c : Core) → is_of_tasks o ≡ true → written o c ≡ None
no_write None c e = refl
no_write (Some i.Node) c e = absurd (true≢false (sym e))
no_write (Some i.Emit) c e = absurd (true≢false (sym e))
no_write (Some _) c e = refl

pub task_steps_keep : TaskStepsKeepTheSearch
task_steps_keep m pick s e = by s.core.mode refl
  where
    by : (mode : Mode) → s.core.mode ≡ mode → KeepsSearch m s (step m pick s)
    by Going g =
        let kept = act_keeps m pick (slice_get m.code.instrs s.core.pc) s.core e in
        record {
          takes_none = ap (λ mode. takes_in mode m s.core) g ∙ no_take (slice_get m.code.instrs s.core.pc) s.core e;
          choices = ap (λ mode. (step_in mode m pick s).core.choices) g ∙ kept.choices;
          path = ap (λ mode. (step_in mode m pick s).core.path) g ∙ kept.path;
          items = ap (λ mode. (step_in mode m pick s).items) g ∙ ap (λ item. add_item item s.items) (no_write (slice_get m.code.instrs s.core.pc) s.core e);
        }
    by Halted g =
        record {
          takes_none = ap (λ mode. takes_in mode m s.core) g;
          choices = ap (λ mode. (step_in mode m pick s).core.choices) g;
          path = ap (λ mode. (step_in mode m pick s).core.path) g;
          items = ap (λ mode. (step_in mode m pick s).items) g;
        }
    by (Trapped kind) g =
        record {
          takes_none = ap (λ mode. takes_in mode m s.core) g;
          choices = ap (λ mode. (step_in mode m pick s).core.choices) g;
          path = ap (λ mode. (step_in mode m pick s).core.path) g;
          items = ap (λ mode. (step_in mode m pick s).items) g;
        }
