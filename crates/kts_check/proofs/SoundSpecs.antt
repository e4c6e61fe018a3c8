-- Sound declarations are those of a schema, and of a specification.
use Rattle.std.proofs.Common.{◌≡◌, refl, sym, ◌∙◌, ap, ℕ, ◌^◌, List, [], ◌∷◌, ◌++◌, append-nil, length, fold, Bool, true, false, not, ◌&&◌, ◌||◌, nat_lt, nat_le, nat_eq}
use Rattle.std.specs.List.{list_all}
use Rattle.std.proofs.lemmas.Bool.{and_parts, and_from}
use Rattle.std.proofs.lemmas.List.Folds.{list_all-append, list_any-append}
use Rattle.kts_spec.specs.Names.{same_name, is_language_name, is_among, is_distinct}
use Rattle.kts_spec.specs.Schemas.{nothing_declared, declared_with, are_declarations, has_counts, declared_names, is_schema}
use Rattle.kts_spec.specs.Specifications.{is_formula, formula_names, names_of, is_spec}
use Rattle.kts_base.specs.Limits.{most_indexes, most_givens, most_choices, most_formulas}
use Rattle.kts_spec.specs.declared.schema.Schema.{Schema}
use Rattle.kts_syntax.specs.Words.{is_word}
use Rattle.kts_syntax.specs.declared.form.Form.{Form}
use Rattle.kts_check.specs.Declarations.{Declarations}
use Rattle.kts_check.specs.Sound.{Extends, AreConsistent}
use Rattle.kts_base.proofs.Orders.{yes_nat_le}
use Rattle.kts_check.proofs.DeclarationLemmas.{yes_nat_eq}
use Rattle.kts_check.proofs.NameLemmas.{word_language}

or_front : (a b : Bool) → not (a || b) ≡ true → not a ≡ true
or_front true b e = absurd cc
or_front false b e = refl

distinct_front : (xs ys : List (List ℕ)) → is_distinct (xs ++ ys) ≡ true → is_distinct xs ≡ true
distinct_front [] ys e = refl
distinct_front (x ∷ xs) ys e =
    let both = and_parts (not (is_among (xs ++ ys) x)) (is_distinct (xs ++ ys)) e in
    and_from (not (is_among xs x)) (is_distinct xs)
    (or_front (is_among xs x) (is_among ys x) (ap not (sym (list_any-append (same_name x) xs ys)) ∙ both.0)) (distinct_front xs ys both.1)

pub sound_schema : (fs : List Form) (d : Declarations) (name : List ℕ) → AreConsistent fs d → is_word name ≡ true → is_schema name d.decls d.indexes d.givens d.choices [] ≡ true
unfolding is_schema
sound_schema fs d name s word =
    let own = declared_names d.indexes d.givens d.choices in
    let named = and_parts (list_all is_language_name own) (list_all is_language_name (formula_names d.formulas)) (sym (list_all-append is_language_name own (formula_names d.formulas)) ∙ s.names.named) in
    let declared : are_declarations d.givens d.choices nothing_declared d.decls ≡ true =
    ap (λ gs. are_declarations gs d.choices nothing_declared d.decls) (sym (append-nil d.givens)) ∙ ap (λ cs. are_declarations (d.givens ++ []) cs nothing_declared d.decls) (sym (append-nil d.choices)) ∙ s.declarations.declared [] [] in
    let last = fold declared_with nothing_declared d.decls in
    let counts : has_counts d.indexes d.givens d.choices last ≡ true =
    and_from (nat_eq last.indexes (length d.indexes) && nat_eq last.givens (length d.givens)) (nat_eq last.choices (length d.choices))
    (and_from (nat_eq last.indexes (length d.indexes)) (nat_eq last.givens (length d.givens)) (yes_nat_eq last.indexes (length d.indexes) s.declarations.indexes) (yes_nat_eq last.givens (length d.givens) s.declarations.givens))
    (yes_nat_eq last.choices (length d.choices) s.declarations.choices) in
    and_from _ true (and_from _ (nat_lt 0 (2 ^ 32)) (and_from _ (has_counts d.indexes d.givens d.choices last) (and_from _ (are_declarations d.givens d.choices nothing_declared d.decls) (and_from _ (is_distinct own) (and_from _ (list_all is_language_name own)
    (and_from _ (nat_le (length d.choices) most_choices) (and_from _ (nat_le (length d.givens) most_givens) (and_from (is_language_name name) (nat_le (length d.indexes) most_indexes)
    (word_language name word) (yes_nat_le (length d.indexes) most_indexes s.few.indexes)) (yes_nat_le (length d.givens) most_givens s.few.givens)) (yes_nat_le (length d.choices) most_choices s.few.choices))
    named.0) (distinct_front own (formula_names d.formulas) s.names.distinct)) declared) counts) refl) refl

-- a schema of these declarations alone begins with them
pub extends_same : (d : Declarations) (schema : Schema) → schema.indexes ≡ d.indexes → schema.givens ≡ d.givens → schema.choices ≡ d.choices → Extends d schema
extends_same d schema i g c = record {
  more_indexes = [];
  more_givens = [];
  more_choices = [];
  indexes = i ∙ sym (append-nil d.indexes);
  givens = g ∙ sym (append-nil d.givens);
  choices = c ∙ sym (append-nil d.choices);
}

pub sound_spec : (fs : List Form) (d : Declarations) (schema : Schema) → AreConsistent fs d → schema.indexes ≡ d.indexes → schema.givens ≡ d.givens → schema.choices ≡ d.choices → is_spec schema d.formulas ≡ true
unfolding is_spec
sound_spec fs d schema s i g c =
    let own = declared_names d.indexes d.givens d.choices in
    let named = and_parts (list_all is_language_name own) (list_all is_language_name (formula_names d.formulas)) (sym (list_all-append is_language_name own (formula_names d.formulas)) ∙ s.names.named) in
    let distinct : is_distinct (names_of schema d.formulas) ≡ true = rw (i, g, c) s.names.distinct in
    let ext = extends_same d schema i g c in
    and_from _ (list_all (λ f. is_formula schema f.1) d.formulas) (and_from _ (is_distinct (names_of schema d.formulas)) (and_from (nat_le (length d.formulas) most_formulas) (list_all is_language_name (formula_names d.formulas))
    (yes_nat_le (length d.formulas) most_formulas s.few.formulas) named.1) distinct) (s.typed schema ext)
