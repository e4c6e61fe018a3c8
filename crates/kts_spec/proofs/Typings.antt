-- The typing of each variant of term and formula, as one equation.
use Rattle.std.proofs.Common.{◌≡◌, sym, ◌∙◌, ap, ℕ, List, [], ◌∷◌, ◌++◌, length, map, ℤ, Bool, ◌&&◌, nat_le, Option, None, if◌then◌else◌, slice_get}
use Rattle.std.specs.Prelude.{option_map, option_and_then}
use Rattle.std.specs.List.{list_all}
use Rattle.std.proofs.lemmas.List.Folds.{list_all-map}
use Rattle.std.proofs.lemmas.List.{length-map}
use Rattle.std.proofs.lemmas.Simd.{map-map}
use Rattle.kts_spec.specs.declared.tree.Comparison.{Comparison}
use Rattle.kts_spec.specs.declared.tree.Term.{Term}
use Rattle.kts_spec.specs.declared.tree.Term.TheVariants as term
use Rattle.kts_spec.specs.declared.tree.Formula.{Formula}
use Rattle.kts_spec.specs.declared.tree.Formula.TheVariants as formula
use Rattle.kts_spec.specs.declared.tree.Formula.TheOpen as one
use Rattle.kts_spec.specs.declared.schema.Schema.{Schema}
use Rattle.kts_base.specs.Limits.{most_parts}
use Rattle.kts_spec.specs.Ranges.{one_number, difference_range, product_range, least_range, greatest_range, total_range, sum_over_range}
use Rattle.kts_spec.specs.Typing.{Kind, MemberOf, whole_of, whole_within, ranges, two_wholes, kind_of_use, are_comparable, may_bind, kind_of, is_typed}
use Rattle.kts_spec.proofs.Rolls.{kind_of-roll, is_typed-roll}

module _ (schema : Schema) (scope : List ℕ) where
  abbrev kinds : List Term → List (Option Kind)
  kinds = map (λ t. kind_of schema t scope)

  pub kind_of-Number : (n : ℤ) → kind_of schema (term.Number n) scope ≡ whole_within (one_number n)
  kind_of-Number n = ap (λ (t : Term). kind_of schema t scope) (sym (term.rolls-Number n)) ∙ ap (λ (f : List ℕ → Option Kind). f scope) (kind_of-roll schema (one.Number n))

  pub kind_of-Var : (k : ℕ) → kind_of schema (term.Var k) scope ≡ option_map MemberOf (slice_get scope k)
  kind_of-Var k = ap (λ (t : Term). kind_of schema t scope) (sym (term.rolls-Var k)) ∙ ap (λ (f : List ℕ → Option Kind). f scope) (kind_of-roll schema (one.Var k))

  pub kind_of-Given : (f : ℕ) (args : List Term) → kind_of schema (term.Given f args) scope ≡ kind_of_use (slice_get schema.givens f) (kinds args)
  kind_of-Given f args = ap (λ (t : Term). kind_of schema t scope) (sym (term.rolls-Given f args)) ∙ ap (λ (f : List ℕ → Option Kind). f scope) (kind_of-roll schema (one.Given f args)) ∙ simp map-map

  pub kind_of-Choice : (x : ℕ) (args : List Term) → kind_of schema (term.Choice x args) scope ≡ kind_of_use (slice_get schema.choices x) (kinds args)
  kind_of-Choice x args = ap (λ (t : Term). kind_of schema t scope) (sym (term.rolls-Choice x args)) ∙ ap (λ (f : List ℕ → Option Kind). f scope) (kind_of-roll schema (one.Choice x args)) ∙ simp map-map

  pub kind_of-Add : (parts : List Term) → kind_of schema (term.Add parts) scope ≡ (if nat_le 2 (length parts) && nat_le (length parts) most_parts then option_and_then (λ ws. whole_within (total_range ws)) (ranges (kinds parts)) else None)
  kind_of-Add parts = ap (λ (t : Term). kind_of schema t scope) (sym (term.rolls-Add parts)) ∙ ap (λ (f : List ℕ → Option Kind). f scope) (kind_of-roll schema (one.Add parts)) ∙ simp (map-map, length-map)

  pub kind_of-Sub : (parts : List Term) → kind_of schema (term.Sub parts) scope ≡ two_wholes difference_range (kinds parts)
  kind_of-Sub parts = ap (λ (t : Term). kind_of schema t scope) (sym (term.rolls-Sub parts)) ∙ ap (λ (f : List ℕ → Option Kind). f scope) (kind_of-roll schema (one.Sub parts)) ∙ simp map-map

  pub kind_of-Mul : (parts : List Term) → kind_of schema (term.Mul parts) scope ≡ two_wholes product_range (kinds parts)
  kind_of-Mul parts = ap (λ (t : Term). kind_of schema t scope) (sym (term.rolls-Mul parts)) ∙ ap (λ (f : List ℕ → Option Kind). f scope) (kind_of-roll schema (one.Mul parts)) ∙ simp map-map

  pub kind_of-Min : (parts : List Term) → kind_of schema (term.Min parts) scope ≡ two_wholes least_range (kinds parts)
  kind_of-Min parts = ap (λ (t : Term). kind_of schema t scope) (sym (term.rolls-Min parts)) ∙ ap (λ (f : List ℕ → Option Kind). f scope) (kind_of-roll schema (one.Min parts)) ∙ simp map-map

  pub kind_of-Max : (parts : List Term) → kind_of schema (term.Max parts) scope ≡ two_wholes greatest_range (kinds parts)
  kind_of-Max parts = ap (λ (t : Term). kind_of schema t scope) (sym (term.rolls-Max parts)) ∙ ap (λ (f : List ℕ → Option Kind). f scope) (kind_of-roll schema (one.Max parts)) ∙ simp map-map

  pub kind_of-Sum : (i : ℕ) (p : Formula) (a : Term) → kind_of schema (term.Sum i p a) scope ≡ (if may_bind schema scope (i ∷ []) && is_typed schema p (scope ++ i ∷ []) then option_and_then (λ w. whole_within (sum_over_range w)) (option_and_then whole_of (kind_of schema a (scope ++ i ∷ []))) else None)
  kind_of-Sum i p a = ap (λ (t : Term). kind_of schema t scope) (sym (term.rolls-Sum i p a)) ∙ ap (λ (f : List ℕ → Option Kind). f scope) (kind_of-roll schema (one.Sum i p a))

  pub is_typed-Compare : (c : Comparison) (a b : Term) → is_typed schema (formula.Compare c a b) scope ≡ are_comparable c (kind_of schema a scope) (kind_of schema b scope)
  is_typed-Compare c a b = ap (λ (p : Formula). is_typed schema p scope) (sym (formula.rolls-Compare c a b)) ∙ ap (λ (f : List ℕ → Bool). f scope) (is_typed-roll schema (one.Compare c a b))

  pub is_typed-And : (parts : List Formula) → is_typed schema (formula.And parts) scope ≡ (nat_le 2 (length parts) && list_all (λ p. is_typed schema p scope) parts)
  is_typed-And parts = ap (λ (p : Formula). is_typed schema p scope) (sym (formula.rolls-And parts)) ∙ ap (λ (f : List ℕ → Bool). f scope) (is_typed-roll schema (one.And parts)) ∙ simp (list_all-map, length-map)

  pub is_typed-Or : (parts : List Formula) → is_typed schema (formula.Or parts) scope ≡ (nat_le 2 (length parts) && list_all (λ p. is_typed schema p scope) parts)
  is_typed-Or parts = ap (λ (p : Formula). is_typed schema p scope) (sym (formula.rolls-Or parts)) ∙ ap (λ (f : List ℕ → Bool). f scope) (is_typed-roll schema (one.Or parts)) ∙ simp (list_all-map, length-map)

  pub is_typed-Not : (p : Formula) → is_typed schema (formula.Not p) scope ≡ is_typed schema p scope
  is_typed-Not p = ap (λ (p : Formula). is_typed schema p scope) (sym (formula.rolls-Not p)) ∙ ap (λ (f : List ℕ → Bool). f scope) (is_typed-roll schema (one.Not p))

  pub is_typed-Implies : (p q : Formula) → is_typed schema (formula.Implies p q) scope ≡ (is_typed schema p scope && is_typed schema q scope)
  is_typed-Implies p q = ap (λ (p : Formula). is_typed schema p scope) (sym (formula.rolls-Implies p q)) ∙ ap (λ (f : List ℕ → Bool). f scope) (is_typed-roll schema (one.Implies p q))

  pub is_typed-Forall : (indexes : List ℕ) (p : Formula) → is_typed schema (formula.Forall indexes p) scope ≡ (may_bind schema scope indexes && is_typed schema p (scope ++ indexes))
  is_typed-Forall indexes p = ap (λ (p : Formula). is_typed schema p scope) (sym (formula.rolls-Forall indexes p)) ∙ ap (λ (f : List ℕ → Bool). f scope) (is_typed-roll schema (one.Forall indexes p))

  pub is_typed-Exists : (indexes : List ℕ) (p : Formula) → is_typed schema (formula.Exists indexes p) scope ≡ (may_bind schema scope indexes && is_typed schema p (scope ++ indexes))
  is_typed-Exists indexes p = ap (λ (p : Formula). is_typed schema p scope) (sym (formula.rolls-Exists indexes p)) ∙ ap (λ (f : List ℕ → Bool). f scope) (is_typed-roll schema (one.Exists indexes p))

pub ruleset typings = (kind_of-Number, kind_of-Var, kind_of-Given, kind_of-Choice, kind_of-Add, kind_of-Sub, kind_of-Mul, kind_of-Min, kind_of-Max, kind_of-Sum, is_typed-Compare, is_typed-And, is_typed-Or, is_typed-Not, is_typed-Implies, is_typed-Forall, is_typed-Exists)
