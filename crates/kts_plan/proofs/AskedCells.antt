-- What tasks ask of is a cell of the space, by an operation for its kind.
use Rattle.std.proofs.Common.{◌≡◌, refl, sym, ap, ◌∙◌, subst, ℕ, zero, suc, ◌<◌, List, [], ◌∷◌, length, map, nat_abs, Bool, true, false, Option, Some, None, arith}
use Rattle.std.specs.Prelude.{slice_get, option_map, option_and_then}
use Rattle.std.specs.List.{enumerate_from}
use Rattle.std.proofs.lemmas.Option.{slice_get_within, slice_get_past, slice_get-map, get_or_from_slice_get}
use Rattle.kts_spec.specs.declared.declarations.Family.{Family}
use Rattle.kts_spec.specs.declared.declarations.ValueType.{ValueType}
use Rattle.kts_spec.specs.declared.declarations.ValueType.TheVariants.{Int, Member}
use Rattle.kts_spec.specs.declared.instance.Instance.{Instance}
use Rattle.kts_spec.specs.declared.schema.Schema.{Schema}
use Rattle.kts_spec.specs.declared.spec.Spec.{Spec}
use Rattle.kts_spec.specs.declared.tree.Formula.{Formula}
use Rattle.kts_spec.specs.Answers.{formulas_of}
use Rattle.kts_spec.specs.MeaningEquations.{values_on}
use Rattle.kts_spec.specs.Related.{Pairs}
use Rattle.kts_spec.specs.Schedules.{Cell, cells}
use Rattle.kts_spec.specs.Schemas.{no_family}
use Rattle.kts_spec.specs.Specifications.{is_formula}
use Rattle.kts_spec.specs.Worlds.{World, world_of, choice_of}
use Rattle.kts_spec.proofs.CellPlaces.{cells_have_numbers}
use Rattle.kts_spec.proofs.Conditions.{spec_facts}
use Rattle.kts_abs.specs.declared.demand.Op.{Op}
use Rattle.kts_abs.specs.declared.demand.Op.TheVariants.{AtLeast, AtMost, Within, Without}
use Rattle.kts_abs.specs.Demands.{Demand, Suits}
use Rattle.kts_abs.specs.Spaces.{IsSpace, types, type_value}
use Rattle.kts_abs.specs.Values.{Abs, Win, Mem, Refines}
use Rattle.kts_abs.proofs.Listed.{In, each_in, map_in}
use Rattle.kts_clause.specs.declared.clause.Clause.{Clause}
use Rattle.kts_clause.specs.declared.literal.Literal.{Literal}
use Rattle.kts_clause.specs.ClauseFacts.{ClauseFacts, LiteralFacts}
use Rattle.kts_clause.specs.Clauses.{clauses_of}
use Rattle.kts_clause.proofs.ClauseKinds.{clauses_typed}
use Rattle.kts_index.specs.TaskOrder.{Task}
use Rattle.kts_plan.specs.declared.definite.Definite.{Definite}
use Rattle.kts_plan.specs.declared.head.Head.{Head}
use Rattle.kts_plan.specs.Asks.{all_false, bound_in, head_cell, asked, asks, task_asks, asks_in}
use Rattle.kts_plan.specs.Constraints.{Constraint, no_clause, constraint_of, constraints_of, tasks_of}
use Rattle.kts_plan.specs.Heads.{all_but, heads_of}
use Rattle.kts_plan.specs.Plans.{definites_of_literal, definites_of_clause, definites_of, clauses_of_spec}
use Rattle.kts_plan.specs.Solutions.{cell_at}
use Rattle.kts_plan.specs.TaskLaws.{AsksAreOfCells}
use Rattle.kts_plan.proofs.HeadKinds.{IsFor, HeadFits, literal_fits}
use Rattle.kts_plan.proofs.NumberedItems.{numbered_is, got_in, all_got, all_in, list_all_in}
use Rattle.kts_plan.proofs.UnreadCells.{space_length}

-- ---- where a constraint comes from

-- a definite constraint is of a literal of a clause that is there, and its head is one of the literal's
pub record IsDefinite (clauses : List Clause) (d : Definite) : Type 0 where
  pub clause : Clause
  pub there : slice_get clauses d.clause ≡ Some clause
  pub literal : Literal
  pub at : slice_get clause.literals d.literal ≡ Some literal
  pub head : In d.head (heads_of literal)

pub definite_is : (clauses : List Clause) (d : Definite) → In d (definites_of clauses) → IsDefinite clauses d
definite_is clauses d i =
    let c = each_in definites_of_clause d (enumerate_from 0 clauses) i in
    let n = numbered_is 0 clauses c.item c.held in
    let l = each_in (definites_of_literal c.item.0) d (enumerate_from 0 c.item.1.literals) c.is in
    let m = numbered_is 0 c.item.1.literals l.item l.held in
    let h = map_in (λ (h : Head). record { clause = c.item.0; literal = l.item.0; head = h }) d (heads_of l.item.1) l.is in
    let clause : n.place ≡ d.clause = (let a = n.number in let b = ap (λ (d : Definite). d.clause) h.is in omega arith) in
    let literal : m.place ≡ d.literal = (let a = m.number in let b = ap (λ (d : Definite). d.literal) h.is in omega arith) in
    record {
      clause = c.item.1;
      there = ap (slice_get clauses) (sym clause) ∙ n.is;
      literal = l.item.1;
      at = ap (slice_get c.item.1.literals) (sym literal) ∙ m.is;
      head = subst (λ h. In h (heads_of l.item.1)) (sym (ap (λ (d : Definite). d.head) h.is)) h.held;
    }

-- the constraint of it, in words of its clause
pub constraint_is : (clauses : List Clause) (d : Definite) (i : IsDefinite clauses d)
    → constraint_of clauses d ≡ record { prefix = i.clause.prefix; others = all_but d.literal i.clause.literals; head = d.head }
constraint_is clauses d i = ap (λ (c : Clause). record { prefix = c.prefix; others = all_but d.literal c.literals; head = d.head }) (get_or_from_slice_get clauses d.clause i.clause no_clause i.there)

-- the definite constraint of a number
pub record HasDefinite (clauses : List Clause) (c : Constraint) : Type 0 where
  pub definite : Definite
  pub held : In definite (definites_of clauses)
  pub is : constraint_of clauses definite ≡ c

some_map : {X Y : Type 0} (f : X → Y) (o : Option X) (y : Y) → option_map f o ≡ Some y → (x : X) × (o ≡ Some x) × (f x ≡ y)
some_map f None y e = cc
some_map f (Some x) y e = (x, refl, cc)

pub constraint_from : (clauses : List Clause) (k : ℕ) (c : Constraint) → slice_get (constraints_of clauses) k ≡ Some c → HasDefinite clauses c
constraint_from clauses k c e =
    let m = some_map (constraint_of clauses) (slice_get (definites_of clauses) k) c (sym (slice_get-map (constraint_of clauses) (definites_of clauses) k) ∙ e) in
    record { definite = m.0; held = got_in (definites_of clauses) k m.0 m.1; is = m.2 }

-- ---- what was asked

-- a task that asks: its constraint, and its head's cell
pub record IsAsked (w : World) (clauses : List Clause) (space : List Abs) (k : ℕ) (a : ℕ × Demand) : Type 0 where
  pub task : Task
  pub there : slice_get (tasks_of w clauses) k ≡ Some task
  pub constraint : Constraint
  pub at : slice_get (constraints_of clauses) task.definite ≡ Some constraint
  pub others : all_false w space task.tuple constraint.others ≡ true
  pub cell : head_cell w task.tuple constraint.head ≡ Some a.0
  pub demand : a.1 ≡ (constraint.head.op, bound_in w space task.tuple constraint.head.bound)

none_asked : (a : ℕ × Demand) → None ≡ Some a → ⊥
none_asked a e = cc

some_asked : (a b : ℕ × Demand) → Some a ≡ Some b → a ≡ b
some_asked a b e = cc

on_cell_is : (b : Bool) (o : Option ℕ) (d : Demand) (a : ℕ × Demand) → asked b o d ≡ Some a → (b ≡ true) × (o ≡ Some a.0) × (a.1 ≡ d)
on_cell_is false o d a e = absurd (none_asked a e)
on_cell_is true None d a e = absurd (none_asked a e)
on_cell_is true (Some c) d a e =
    let p = some_asked (c, d) a e in
    (refl, ap (λ (q : ℕ × Demand). Some q.0) p, sym (ap (λ (q : ℕ × Demand). q.1) p))

then_some : {X Y : Type 0} (f : X → Option Y) (o : Option X) (y : Y) → option_and_then f o ≡ Some y → (x : X) × (o ≡ Some x) × (f x ≡ Some y)
then_some f None y e = cc
then_some f (Some x) y e = (x, refl, e)

pub asked_is : (w : World) (clauses : List Clause) (space : List Abs) (k : ℕ) (a : ℕ × Demand) → asks_in w clauses k space ≡ Some a → IsAsked w clauses space k a
asked_is w clauses space k a e =
    let t = then_some (task_asks w clauses space) (slice_get (tasks_of w clauses) k) a e in
    let c = then_some (asks w t.0.tuple space) (slice_get (constraints_of clauses) t.0.definite) a t.2 in
    let p = on_cell_is _ (head_cell w t.0.tuple c.0.head) _ a c.2 in
    record { task = t.0; there = t.1; constraint = c.0; at = c.1; others = p.0; cell = p.1; demand = p.2 }

-- ---- the clauses of a specification

-- every clause of a specification is one of a formula of it
pub clauses_fit : (spec : Spec) → (c : Clause) → In c (clauses_of_spec spec) → ClauseFacts spec.schema c
clauses_fit spec c i =
    let f = each_in (λ (numbered : ℕ × Formula). clauses_of numbered.0 numbered.1) c (enumerate_from 0 (formulas_of spec)) i in
    let n = numbered_is 0 (formulas_of spec) f.item f.held in
    let m = map_in (λ (f : List ℕ × Formula). f.1) f.item.1 spec.formulas (got_in (formulas_of spec) n.place f.item.1 n.is) in
    let e = list_all_in (λ (f : List ℕ × Formula). is_formula spec.schema f.1) spec.formulas m.item (spec_facts spec).formulas m.held in
    all_in (ClauseFacts spec.schema) (clauses_of f.item.0 f.item.1) c (clauses_typed f.item.0 f.item.1 spec.schema (ap (is_formula spec.schema) m.is ∙ e)) f.is

-- every head fits
pub definite_fits : (spec : Spec) (d : Definite) (i : IsDefinite (clauses_of_spec spec) d) → HeadFits spec.schema i.clause.prefix d.head
definite_fits spec d i =
    let facts = clauses_fit spec i.clause (got_in (clauses_of_spec spec) d.clause i.clause i.there) in
    let l = all_got (LiteralFacts spec.schema i.clause.prefix) i.clause.literals d.literal i.literal facts.literals i.at in
    literal_fits spec.schema i.clause.prefix i.literal l.typed d.head i.head

pub constraint_fits : (spec : Spec) (k : ℕ) (c : Constraint) → slice_get (constraints_of (clauses_of_spec spec)) k ≡ Some c → HeadFits spec.schema c.prefix c.head
constraint_fits spec k c e =
    let h = constraint_from (clauses_of_spec spec) k c e in
    let i = definite_is (clauses_of_spec spec) h.definite h.held in
    subst (λ (c : Constraint). HeadFits spec.schema c.prefix c.head) (sym (constraint_is (clauses_of_spec spec) h.definite i) ∙ h.is) (definite_fits spec h.definite i)

-- ---- the cell

get_pairs : (s t : List Abs) (c : ℕ) → Pairs Refines t s → c < length t → Refines (cell_at t c) (cell_at s c)
get_pairs [] [] c h l = absurd (omega arith)
get_pairs [] (b ∷ t) c h l = absurd h
get_pairs (a ∷ s) [] c h l = absurd h
get_pairs (a ∷ s) (b ∷ t) zero h l = h.0
get_pairs (a ∷ s) (b ∷ t) (suc c) h l = get_pairs s t c h.1 (omega arith)

suits_within : (w : World) (op : Op) (kind : ValueType) (a : Abs) → IsFor op kind → Refines a (type_value w kind) → Suits op a
suits_within w AtLeast (Int lo hi) (Win v) f h = tt
suits_within w AtMost (Int lo hi) (Win v) f h = tt
suits_within w Within (Member i) (Mem ms) f h = tt
suits_within w Without (Member i) (Mem ms) f h = tt
suits_within w AtLeast (Int lo hi) (Mem ms) f h = absurd h
suits_within w AtMost (Int lo hi) (Mem ms) f h = absurd h
suits_within w Within (Member i) (Win v) f h = absurd h
suits_within w Without (Member i) (Win v) f h = absurd h
suits_within w AtLeast (Member i) a f h = absurd f
suits_within w AtMost (Member i) a f h = absurd f
suits_within w Within (Int lo hi) a f h = absurd f
suits_within w Without (Int lo hi) a f h = absurd f

-- the cell that a head names is one of the space, and of its kind
pub record IsHeadCell (op : Op) (t : List Abs) (c : ℕ) : Type 0 where
  pub inside : c < length t
  pub suits : Suits op (cell_at t c)

pub head_cell_is : (schema : Schema) (inst : Instance) (scope vars : List ℕ) (h : Head) (t : List Abs) (c : ℕ) → HeadFits schema scope h → IsSpace (world_of schema inst) t
    → head_cell (world_of schema inst) vars h ≡ Some c → IsHeadCell h.op t c
head_cell_is schema inst scope vars h t c fits space e =
    let w = world_of schema inst in
    let there = (cells_have_numbers w).access h.choice c (values_on w [] h.args vars) (slice_get_within schema.choices h.choice fits.family fits.there) e in
    let d : Cell = record { choice = h.choice; args = map nat_abs (values_on w [] h.args vars); kind = (choice_of w h.choice).kind } in
    let inside = slice_get_within (cells w) c d there in
    let same = space_length w t space.above in
    let here : c < length t = omega arith in
    let typed : cell_at (types w) c ≡ type_value w d.kind =
    get_or_from_slice_get (types w) c (type_value w d.kind) (Mem []) (slice_get-map (λ (c : Cell). type_value w c.kind) (cells w) c ∙ ap (option_map (λ (c : Cell). type_value w c.kind)) there) in
    let kind : d.kind ≡ fits.family.kind = ap (λ (f : Family). f.kind) (get_or_from_slice_get schema.choices h.choice fits.family no_family fits.there) in
    record {
      inside = here;
      suits = suits_within w h.op d.kind (cell_at t c) (subst (IsFor h.op) (sym kind) fits.op) (subst (Refines (cell_at t c)) typed (get_pairs (types w) t c space.above here));
    }

asked_cell : (spec : Spec) (inst : Instance) (k : ℕ) (t : List Abs) (a : ℕ × Demand) → IsSpace (world_of spec.schema inst) t
    → asks_in (world_of spec.schema inst) (clauses_of_spec spec) k t ≡ Some a → IsHeadCell a.1.0 t a.0
asked_cell spec inst k t a space e =
    let w = world_of spec.schema inst in
    let q = asked_is w (clauses_of_spec spec) t k a e in
    let fits = constraint_fits spec q.task.definite q.constraint q.at in
    let is = head_cell_is spec.schema inst q.constraint.prefix q.task.tuple q.constraint.head t a.0 fits space q.cell in
    subst (λ op. IsHeadCell op t a.0) (sym (ap (λ (d : Demand). d.0) q.demand)) is

pub asks_are_of_cells : AsksAreOfCells
asks_are_of_cells = record {
  cell = λ spec inst k t a space e. (asked_cell spec inst k t a space e).inside;
  suits = λ spec inst k t a space e. (asked_cell spec inst k t a space e).suits;
  none = λ w clauses k t l. ap (option_and_then (task_asks w clauses t)) (slice_get_past (tasks_of w clauses) k l);
}
