-- A search prints the schedules of the answer that its origin holds.
use Rattle.std.proofs.Common.{◌≡◌, ℕ, List, [], ◌∷◌, Option, Some, None, Bool, true, false, filter, refl, sym, ap, ◌∙◌, subst, ⊎_elim}
use Rattle.std.proofs.lemmas.Bool.{cases_Bool}
use Rattle.kts_abs.specs.Items.{Item, schedules_of}
use Rattle.kts_abs.specs.Spaces.{holds, initial}
use Rattle.kts_abs.specs.Values.{Abs}
use Rattle.kts_abs.proofs.Empty.{none_initial}
use Rattle.kts_abs.proofs.Sides.{initial_is}
use Rattle.kts_code.specs.Prints.{Prints}
use Rattle.kts_code.specs.Setups.{Setup, world_in}
use Rattle.kts_code.proofs.Whole.{schedules_of-append}
use Rattle.kts_code.specs.Machine.{run_of}
use Rattle.kts_plan.specs.Plans.{clauses_of_spec}
use Rattle.kts_plan.specs.SolutionLaws.{FitsDeclarations, WalksAnswer}
use Rattle.kts_plan.specs.Walks.{WalkFrom}
use Rattle.kts_plan.proofs.WalkedSchedules.{walks_answer}
use Rattle.kts_spec.specs.declared.spec.Spec.{Spec}
use Rattle.kts_spec.specs.Answers.{answer, formulas_of, is_kept, kept_of}
use Rattle.kts_spec.specs.Schedules.{schedules}
use Rattle.kts_spec.proofs.Conditions.{schema_facts}
use Rattle.kts_search.specs.SearchCodes.{SearchCode}
use Rattle.kts_search.specs.Searches.{IsOrigin, enough, answer_in, PrintsAnswers}
use Rattle.kts_search.proofs.WholeSearch.{code_searches}

-- two filters, in either order
filter_swap : {X : Type 0} (p q : X → Bool) (xs : List X) → filter p (filter q xs) ≡ filter q (filter p xs)
filter_swap p q [] = refl
filter_swap p q (x ∷ xs) =
    let ih = filter_swap p q xs in
    ⊎_elim
    (λ (h : p x ≡ true). ⊎_elim (λ (k : q x ≡ true). rw (k, h, k, ih) refl) (λ (k : q x ≡ false). rw (k, h, k) ih) (cases_Bool (q x)))
    (λ (h : p x ≡ false). ⊎_elim (λ (k : q x ≡ true). rw (k, h) ih) (λ (k : q x ≡ false). rw (k, h) ih) (cases_Bool (q x)))
    (cases_Bool (p x))

module _ (spec : Spec) (m : Setup) (task_weight filter_weight : ℕ) (code : SearchCode spec m task_weight filter_weight) where
  open code use {declared}

  -- the declarations and the data
  fits : FitsDeclarations spec m.inst
  fits = record { schema = m.code.schema; valid = declared.valid; world = declared.world; indexes = declared.indexes }

  walked : WalksAnswer (world_in m) spec
  walked = subst (λ w. WalksAnswer w spec) (sym declared.world) (walks_answer spec m.inst fits)

  -- the schedules of the walk
  walk_answer : (origin : Option (List Abs)) → IsOrigin (world_in m) origin → (items : List Item)
      → WalkFrom (world_in m) (clauses_of_spec spec) origin items
      → schedules_of items ≡ answer_in spec m origin
  walk_answer None is items h = ap schedules_of h
  walk_answer (Some s) is items h = walked s items is h

  pub prints_inside : IsOrigin (world_in m) m.origin → Prints m (answer_in spec m m.origin)
  prints_inside is =
      let s = code_searches spec m task_weight filter_weight code is in
      let list = walk_answer m.origin is s.walk.walk s.walk.is in
      record {
        front = λ picks n.
            let g = s.walk.front picks n in
            (schedules_of g.0, sym list ∙ ap schedules_of g.1 ∙ schedules_of-append (run_of m picks n).items g.0);
        whole = λ picks n halted. ap schedules_of (s.walk.whole picks n halted) ∙ list;
        safe = s.walk.safe;
        halts = (enough m task_weight filter_weight, s.ends.halts);
      }

  -- the space of all schedules is an origin, and holds the whole answer
  first_origin : (o : Option (List Abs)) → initial (world_in m) ≡ o → IsOrigin (world_in m) o
  first_origin None e = tt
  first_origin (Some s) e = (initial_is (world_in m) s e).space

  whole_answer : (o : Option (List Abs)) → initial (world_in m) ≡ o → answer_in spec m o ≡ kept_of (world_in m) (formulas_of spec)
  whole_answer None e = sym (ap (filter (is_kept (world_in m) (formulas_of spec))) (none_initial schema_facts m.code.schema m.inst e))
  whole_answer (Some s) e =
      let w = world_in m in
      let test = is_kept w (formulas_of spec) in
      filter_swap (holds s) test (schedules w) ∙ ap (filter test) (initial_is w s e).schedules

  pub prints_whole : m.origin ≡ initial (world_in m) → Prints m (answer spec m.inst)
  prints_whole begins =
      let is = subst (IsOrigin (world_in m)) (sym begins) (first_origin (initial (world_in m)) refl) in
      let list : answer_in spec m m.origin ≡ answer spec m.inst =
      ap (answer_in spec m) begins ∙ whole_answer (initial (world_in m)) refl ∙ ap (λ w. kept_of w (formulas_of spec)) declared.world in
      subst (Prints m) list (prints_inside is)

pub prints_answers : PrintsAnswers
prints_answers = record { inside = prints_inside; whole = prints_whole }
