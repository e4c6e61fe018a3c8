-- The first formula that a schedule breaks, among those that are left.
use Rattle.std.proofs.Common.{◌≡◌, sym, ◌∙◌, ap, ℕ, ◌+◌, ◌<◌, ◌≤◌, arith, List, [], length, map, drop, Bool, true, false, ◌&&◌, not, cond, Option, Some, None, slice_index_or, ℤ}
use Rattle.std.specs.List.{position_from}
use Rattle.std.proofs.lemmas.Bool.{and_parts}
use Rattle.std.proofs.lemmas.Iterator.Adapters.{position_from-zero}
use Rattle.std.proofs.lemmas.List.{drop_all}
use Rattle.kts_spec.specs.declared.instance.Instance.{Instance}
use Rattle.kts_spec.specs.declared.schema.Schema.{Schema}
use Rattle.kts_spec.specs.declared.spec.Spec.{Spec}
use Rattle.kts_spec.specs.declared.tree.Formula.{Formula}
use Rattle.kts_spec.specs.Answers.{formulas_of}
use Rattle.kts_spec.specs.Meaning.{truth_on}
use Rattle.kts_spec.specs.Sizes.{size_of_formula, keeps_limits, has_short_prefixes}
use Rattle.kts_spec.specs.Specifications.{is_formula}
use Rattle.kts_spec.specs.Typing.{is_typed}
use Rattle.kts_spec.specs.Worlds.{world_of}
use Rattle.kts_spec.proofs.Conditions.{spec_facts}
use Rattle.kts_spec.proofs.TermRanges.{all_get}
use Rattle.kts_mean.specs.Broken.{first_broken}
use Rattle.kts_mean.specs.Parts.{IsFormulaOf}
use Rattle.kts_mean.proofs.EvaluatorFacts.{drop_here}
use Rattle.kts_mean.proofs.FamilyFacts.{item_there}

formula_typed : (schema : Schema) (p : Formula) → is_formula schema p ≡ true → is_typed schema p [] ≡ true
unfolding is_formula
formula_typed schema p h = (and_parts (is_typed schema p []) (has_short_prefixes p 0) (and_parts (is_typed schema p [] && has_short_prefixes p 0) (keeps_limits (size_of_formula p)) h).0).0

-- each formula of a specification is well typed without variables
pub formula_of : (spec : Spec) (inst : Instance) (n : ℕ) (item : List ℕ × Formula) → n < length spec.formulas → item ≡ slice_index_or spec.formulas n item → IsFormulaOf spec.schema inst [] item.1
formula_of spec inst n item h e = record {
  scope = [];
  is_scope = record { few = omega arith; members = tt };
  typed = formula_typed spec.schema item.1 (all_get (λ f. is_formula spec.schema f.1) spec.formulas n item (spec_facts spec).formulas (item_there spec.formulas n item h e));
}

module _ (spec : Spec) (inst : Instance) (schedule : List ℤ) where
  abbrev broken : Formula → Bool
  broken p = not (truth_on (world_of spec.schema inst) schedule p [])

  -- the first that is broken of those from one on
  abbrev pub broken_from : ℕ → List (List ℕ × Formula) → Option ℕ
  broken_from n items = position_from broken n (map (λ f. f.1) items)

  pub broken_begins : broken_from 0 spec.formulas ≡ first_broken spec inst schedule
  broken_begins = sym (position_from-zero broken (formulas_of spec))

  pub broken_here : (items : List (List ℕ × Formula)) (n : ℕ) (item : List ℕ × Formula) → n < length items → item ≡ slice_index_or items n item → truth_on (world_of spec.schema inst) schedule item.1 [] ≡ false → broken_from n (drop n items) ≡ Some n
  broken_here items n item h e false_here =
      ap (broken_from n) (drop_here items n item h e) ∙ ap (λ b. cond (not b) (Some n) (broken_from (n + 1) (drop (n + 1) items))) false_here

  pub broken_later : (items : List (List ℕ × Formula)) (n : ℕ) (item : List ℕ × Formula) → n < length items → item ≡ slice_index_or items n item → truth_on (world_of spec.schema inst) schedule item.1 [] ≡ true → broken_from n (drop n items) ≡ broken_from (n + 1) (drop (n + 1) items)
  broken_later items n item h e true_here =
      ap (broken_from n) (drop_here items n item h e) ∙ ap (λ b. cond (not b) (Some n) (broken_from (n + 1) (drop (n + 1) items))) true_here

  pub none_broken : (items : List (List ℕ × Formula)) (n : ℕ) → length items ≤ n → broken_from n (drop n items) ≡ None
  none_broken items n h = ap (broken_from n) (drop_all n items h)
