-- What the code of a specification prints, as text.
use Rattle.std.proofs.Common.{◌≡◌, ℕ, ◌+◌, List, [], ◌∷◌, ◌++◌, length, Bool, true, false, Some, refl, sym, ap, ◌∙◌, take}
use Rattle.std.specs.Prelude.{ℤ, flat_map, codes, decimal}
use Rattle.kts_code.specs.Machine.{run}
use Rattle.kts_code.specs.Printed.{schedules_of}
use Rattle.kts_plan.specs.Constraints.{prefixes_of}
use Rattle.kts_plan.specs.Plans.{clauses_of_spec}
use Rattle.kts_spec.specs.declared.declarations.Decl.{Decl}
use Rattle.kts_spec.specs.declared.declarations.Decl.TheVariants.{Index, Given, Choose, Manifest}
use Rattle.kts_spec.specs.declared.ending.Ending.{Ending}
use Rattle.kts_spec.specs.declared.ending.Ending.TheVariants.{End, Budget}
use Rattle.kts_spec.specs.declared.instance.Instance.{Instance}
use Rattle.kts_spec.specs.declared.schema.Schema.{Schema}
use Rattle.kts_spec.specs.Schemas.{is_schema}
use Rattle.kts_spec.specs.Texts.{newline, declared_lines, choice_lines, schedule_text, schedules_text, ending_text, text}
use Rattle.kts_search.specs.RunTexts.{WholeTextIsRight}
use Rattle.kts_search.specs.WholeScheme.{schema_if, schema_with}
use Rattle.kts_search.proofs.WholeParts.{whole_schema, whole_code_searches}

-- ---- tasks have no text

module _ (s : Schema) (inst : Instance) (tasks : List (List ℕ)) (sound : is_schema s.name s.decls s.indexes s.givens s.choices tasks ≡ true) where
  -- the declarations of a schema with other tasks
  abbrev other : Schema
  other = record {
    name = s.name;
    decls = s.decls;
    indexes = s.indexes;
    givens = s.givens;
    choices = s.choices;
    tasks = tasks;
    is_schema = sound;
  }

  lines_same : (schedule : List ℤ) (d : Decl) → declared_lines other inst schedule d ≡ declared_lines s inst schedule d
  lines_same schedule (Index i) = refl
  lines_same schedule (Given f) = refl
  lines_same schedule (Choose x) = refl
  lines_same schedule (Manifest x) = refl

  manifests_same : (schedule : List ℤ) (ds : List Decl) → flat_map (declared_lines other inst schedule) ds ≡ flat_map (declared_lines s inst schedule) ds
  manifests_same schedule [] = refl
  manifests_same schedule (d ∷ ds) =
      ap (λ l. l ++ flat_map (declared_lines other inst schedule) ds) (lines_same schedule d)
      ∙ ap (λ l. declared_lines s inst schedule d ++ l) (manifests_same schedule ds)

  schedules_same : (k : ℕ) (list : List (List ℤ)) → schedules_text other inst k list ≡ schedules_text s inst k list
  schedules_same k [] = refl
  schedules_same k (schedule ∷ rest) =
      let later = schedules_text other inst (k + 1) rest in
      ap (λ l. (codes "schedule " ++ (decimal k ++ (newline ++ (choice_lines s inst schedule ++ l)))) ++ later) (manifests_same schedule s.decls)
      ∙ ap (λ l. schedule_text s inst k schedule ++ l) (schedules_same (k + 1) rest)

-- a schema with other tasks prints the same text
text_if : (s : Schema) (inst : Instance) (tasks : List (List ℕ)) (schema : Schema) (test : Bool) (e : is_schema s.name s.decls s.indexes s.givens s.choices tasks ≡ test)
    → schema_if s tasks test e ≡ Some schema → (list : List (List ℤ)) (ending : Ending) → text schema inst list ending ≡ text s inst list ending
text_if s inst tasks schema true e is list ending =
    let same : other s inst tasks e ≡ schema = cc in
    ap (λ (x : Schema). text x inst list ending) (sym same) ∙ ap (λ l. l ++ ending_text ending) (schedules_same s inst tasks e 1 list)
text_if s inst tasks schema false e is list ending = cc

text_same : (s : Schema) (inst : Instance) (tasks : List (List ℕ)) (schema : Schema) → schema_with s tasks ≡ Some schema
    → (list : List (List ℤ)) (ending : Ending) → text schema inst list ending ≡ text s inst list ending
unfolding schema_with
text_same s inst tasks schema e list ending = text_if s inst tasks schema _ refl e list ending

-- ---- the text of a run

front_taken : {X : Type 0} (xs ys : List X) → take (length xs) (xs ++ ys) ≡ xs
front_taken [] ys = refl
front_taken (x ∷ xs) ys = ap (λ l. x ∷ l) (front_taken xs ys)

pub text_is_right : WholeTextIsRight
text_is_right spec inst code made valid picks n =
    let right = whole_code_searches.answers spec inst code made valid in
    let printed = schedules_of (run code inst picks n).items in
    let rest = right.front picks n in
    let taken = ap (take (length printed)) rest.1 ∙ front_taken printed rest.0 in
    let same = text_same spec.schema inst (prefixes_of (clauses_of_spec spec)) code.schema (whole_schema spec code made) printed in
    record {
      whole = λ halted.
          same (End (length printed)) ∙ ap (λ (l : List (List ℤ)). text spec.schema inst l (End (length l))) (right.whole picks n halted);
      front = same (Budget (length printed)) ∙ ap (λ (l : List (List ℤ)). text spec.schema inst l (Budget (length printed))) (sym taken);
      safe = right.safe picks n;
    }
