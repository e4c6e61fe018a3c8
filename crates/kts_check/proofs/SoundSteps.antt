-- Declarations stay sound with each form.
use Rattle.std.proofs.Common.{◌≡◌, refl, sym, ◌∙◌, ap, subst, ℕ, suc, ◌+◌, ◌≤◌, ◌<◌, List, [], ◌∷◌, ◌++◌, append_assoc, append-nil, length, map, fold, Bool, true, not, ◌&&◌, None, Some, Ok, nat_lt, nat_le, arith, inl, inr}
use Rattle.std.specs.Prelude.{count_by, cond}
use Rattle.std.specs.List.{list_all}
use Rattle.std.proofs.lemmas.Bool.{and_parts, and_from}
use Rattle.std.proofs.lemmas.List.{map-append, length-append}
use Rattle.std.proofs.lemmas.List.Folds.{list_all-append}
use Rattle.std.proofs.lemmas.List.Sums.{sum_by-append}
use Rattle.std.proofs.lemmas.Option.{get_or_from_slice_get, slice_get_within}
use Rattle.kts_spec.specs.Names.{same_name, is_language_name}
use Rattle.kts_spec.specs.Schemas.{nothing_declared, declared_with, is_declaration, are_declarations, family_at, no_family, is_family, is_type, assigns_members}
use Rattle.kts_spec.specs.Sizes.{size_of_formula, keeps_limits, has_short_prefixes}
use Rattle.kts_spec.specs.Specifications.{is_formula, formula_names}
use Rattle.kts_spec.specs.Typing.{is_typed}
use Rattle.kts_spec.specs.declared.declarations.Decl.{Decl}
use Rattle.kts_spec.specs.declared.declarations.Decl.TheVariants as decl
use Rattle.kts_spec.specs.declared.declarations.Family.{Family}
use Rattle.kts_spec.specs.declared.schema.Schema.{Schema}
use Rattle.kts_spec.specs.declared.tree.Formula.{Formula as Statement}
use Rattle.kts_syntax.specs.Fitting.{form_fits, family_fits, shape_fits, is_named}
use Rattle.kts_syntax.specs.Sizes.{trees, expr_nest, form_nest}
use Rattle.kts_syntax.specs.Tops.{has_room, is_index, is_given, is_choice, is_formula as is_formula_form}
use Rattle.kts_syntax.specs.declared.expr.Expr.{Expr}
use Rattle.kts_syntax.specs.declared.form.Form.{Form}
use Rattle.kts_syntax.specs.declared.form.Form.TheVariants as form
use Rattle.kts_syntax.specs.declared.form.Shape.{Shape}
use Rattle.kts_syntax.specs.declared.layout.Role.TheVariants as role
use Rattle.kts_syntax.specs.Fitting.{expr_fits}
use Rattle.kts_syntax.specs.declared.word.Word.{Word}
use Rattle.kts_check.specs.Forms.{declaration_of, family, with_declaration}
use Rattle.kts_check.specs.Declarations.{Declarations, no_declarations, entry_of, new_name}
use Rattle.kts_check.specs.Specs.{are_small}
use Rattle.kts_check.specs.Sound.{all_names, IsThere, AreCounted, AreNamed, Extends, AreDeclared, AreConsistent}
use Rattle.kts_check.specs.Trees.{phrase_of}
use Rattle.kts_check.specs.declared.phrase.Phrase.TheVariants as phrase
use Rattle.kts_check.specs.declared.entry.Entry.{Entry}
use Rattle.kts_check.specs.declared.entry.Entry.TheVariants as entry
use Rattle.kts_check.specs.declared.declaration.Declaration.{Declaration}
use Rattle.kts_check.specs.declared.declaration.Declaration.TheVariants.{Index, Given, Choice, Formula, Manifest}
use Rattle.kts_check.proofs.DeclarationLemmas.{declared_on, ending_on, family_at-here, no_manifest}
use Rattle.kts_check.proofs.FormFacts.{new_facts, FamilyFacts, family_facts, stated_facts, ManifestFacts, manifest_facts, args_there, type_there}
use Rattle.kts_check.proofs.Good.{well}
use Rattle.kts_check.proofs.GoodTrees.{slice_front}
use Rattle.kts_base.proofs.Orders.{nat_lt_yes, yes_nat_lt, yes_nat_le, nat_le_yes}
use Rattle.kts_check.proofs.DeclarationLemmas.{yes_nat_eq}
use Rattle.kts_check.proofs.Inversions.{ok_is, both_ok}
use Rattle.kts_check.proofs.NameLemmas.{all_in, among_in, distinct_in, look_none, look_some, word_language}

pub sound_none : AreConsistent [] no_declarations
sound_none = record {
  counted = record { indexes = refl; givens = refl; choices = refl; formulas = refl };
  few = record { indexes = omega arith; givens = omega arith; choices = omega arith; formulas = omega arith };
  names = record { named = refl; distinct = refl; known = (λ name e. refl); there = (λ name entry e. absurd (nothing entry e)) };
  declarations = record { declared = (λ gs cs. refl); indexes = refl; givens = refl; choices = refl };
  typed = (λ schema ext. refl);
  small = (λ schema ext. refl);
}
  where
    nothing : (entry : Entry) → None ≡ Some entry → ⊥
    nothing entry e = cc

-- ---- one more of a kind

count_on : (p : Form → Bool) (before : List Form) (f : Form) → count_by p (before ++ f ∷ []) ≡ count_by p before + count_by p (f ∷ [])
count_on p before f = sum_by-append (λ x. cond (p x) 1 0) before (f ∷ [])

counted_on : (before : List Form) (f : Form) (d e : Declarations) → AreCounted before d → length e.indexes ≡ length d.indexes + count_by is_index (f ∷ []) → length e.givens ≡ length d.givens + count_by is_given (f ∷ [])
    → length e.choices ≡ length d.choices + count_by is_choice (f ∷ []) → length e.formulas ≡ length d.formulas + count_by is_formula_form (f ∷ []) → AreCounted (before ++ f ∷ []) e
counted_on before f d e c i g x p = record {
  indexes = i ∙ ap (λ n. n + count_by is_index (f ∷ [])) c.indexes ∙ sym (count_on is_index before f);
  givens = g ∙ ap (λ n. n + count_by is_given (f ∷ [])) c.givens ∙ sym (count_on is_given before f);
  choices = x ∙ ap (λ n. n + count_by is_choice (f ∷ [])) c.choices ∙ sym (count_on is_choice before f);
  formulas = p ∙ ap (λ n. n + count_by is_formula_form (f ∷ [])) c.formulas ∙ sym (count_on is_formula_form before f);
}

-- ---- one more name

names_on : (d e : Declarations) (xs ys : List (List ℕ)) (n : List ℕ) (en : Entry) → AreNamed d → all_names d ≡ xs ++ ys → all_names e ≡ xs ++ n ∷ ys → e.names ≡ d.names ++ (n, en) ∷ [] → entry_of d.names n ≡ None
    → is_language_name n ≡ true → ((other : Entry) → IsThere d other → IsThere e other) → IsThere e en → AreNamed e
names_on d e xs ys n en named old new table fresh word keeps there = record {
  named = rw new (all_in is_language_name xs ys n (rw old at named.named) word);
  distinct = rw new (distinct_in xs ys n (rw old at named.distinct) (rw old at (named.known n fresh)));
  known = (λ name none.
      let both = look_none (same_name name) d.names n en (sym (ap (λ t. entry_of t name) table) ∙ none) in
      rw new (among_in xs ys n name (rw old at (named.known name both.0)) both.1));
  there = (λ name other found.
      elim (look_some (same_name name) d.names n en other (sym (ap (λ t. entry_of t name) table) ∙ found)) [
        | inl before ↦ keeps other (named.there name other before)
        | inr same ↦ subst (IsThere e) same there
      ]);
}

-- ---- one more declaration

declarations_on : (d e : Declarations) (x : Decl) (gs cs : List Family) → AreDeclared d → e.decls ≡ d.decls ++ x ∷ [] → e.givens ≡ d.givens ++ gs → e.choices ≡ d.choices ++ cs
    → ((hs es : List Family) → is_declaration (e.givens ++ hs) (e.choices ++ es) (fold declared_with nothing_declared d.decls) x ≡ true)
    → (declared_with (fold declared_with nothing_declared d.decls) x).indexes ≡ length e.indexes → (declared_with (fold declared_with nothing_declared d.decls) x).givens ≡ length e.givens
    → (declared_with (fold declared_with nothing_declared d.decls) x).choices ≡ length e.choices → AreDeclared e
declarations_on d e x gs cs a decls givens choices one i g c =
    let ending : fold declared_with nothing_declared e.decls ≡ declared_with (fold declared_with nothing_declared d.decls) x = ap (fold declared_with nothing_declared) decls ∙ ending_on nothing_declared d.decls x in
    record {
      declared = (λ hs es.
          let old : are_declarations (e.givens ++ hs) (e.choices ++ es) nothing_declared d.decls ≡ true =
          ap (λ fs. are_declarations fs (e.choices ++ es) nothing_declared d.decls) (ap (λ fs. fs ++ hs) givens ∙ append_assoc d.givens gs hs)
          ∙ ap (λ fs. are_declarations (d.givens ++ (gs ++ hs)) fs nothing_declared d.decls) (ap (λ fs. fs ++ es) choices ∙ append_assoc d.choices cs es)
          ∙ a.declared (gs ++ hs) (cs ++ es) in
          ap (are_declarations (e.givens ++ hs) (e.choices ++ es) nothing_declared) decls ∙ declared_on (e.givens ++ hs) (e.choices ++ es) nothing_declared d.decls x old (one hs es));
      indexes = ap (λ s. s.indexes) ending ∙ i;
      givens = ap (λ s. s.givens) ending ∙ g;
      choices = ap (λ s. s.choices) ending ∙ c;
    }

extends_on : (d e : Declarations) (is : List (List ℕ)) (gs cs : List Family) (schema : Schema) → e.indexes ≡ d.indexes ++ is → e.givens ≡ d.givens ++ gs → e.choices ≡ d.choices ++ cs → Extends e schema → Extends d schema
extends_on d e is gs cs schema i g c ext = record {
  more_indexes = is ++ ext.more_indexes;
  more_givens = gs ++ ext.more_givens;
  more_choices = cs ++ ext.more_choices;
  indexes = ext.indexes ∙ ap (λ l. l ++ ext.more_indexes) i ∙ append_assoc d.indexes is ext.more_indexes;
  givens = ext.givens ∙ ap (λ l. l ++ ext.more_givens) g ∙ append_assoc d.givens gs ext.more_givens;
  choices = ext.choices ∙ ap (λ l. l ++ ext.more_choices) c ∙ append_assoc d.choices cs ext.more_choices;
}

pub one_longer : {A : Type 0} (xs : List A) (x : A) → length (xs ++ x ∷ []) ≡ length xs + 1
one_longer xs x = length-append xs (x ∷ [])

none_more : {A : Type 0} (xs : List A) → xs ≡ xs ++ []
none_more xs = sym (append-nil xs)

index_step : (before : List Form) (d : Declarations) (word : Word) (name : List ℕ) → AreConsistent before d → is_language_name name ≡ true → entry_of d.names name ≡ None → has_room before (form.Index word) ≡ true → AreConsistent (before ++ form.Index word ∷ []) (with_declaration d (Index name))
unfolding with_declaration has_room
index_step before d word name s named fresh room =
    let e = with_declaration d (Index name) in
    let old = s.counted in let few = s.few in
    let longer = one_longer d.indexes name in
    let low : count_by is_index before < 8 = nat_lt_yes (count_by is_index before) 8 room in
    record {
      counted = counted_on before (form.Index word) d e s.counted longer (omega arith) (omega arith) (omega arith);
      few = record { indexes = (let c = old.indexes in omega arith); givens = few.givens; choices = few.choices; formulas = few.formulas };
      names = names_on d e d.indexes ((map (λ (f : Family). f.name) d.givens ++ map (λ (f : Family). f.name) d.choices) ++ formula_names d.formulas) name (entry.Index (length d.indexes)) s.names
          (simp append_assoc) (simp append_assoc) refl fresh named (by) (omega arith);
      declarations = declarations_on d e (decl.Index (length d.indexes)) [] [] s.declarations refl (none_more d.givens) (none_more d.choices)
          (λ hs es. yes_nat_eq (length d.indexes) _ (sym s.declarations.indexes))
          (let i = s.declarations.indexes in omega arith) s.declarations.givens s.declarations.choices;
      typed = (λ schema ext. s.typed schema (extends_on d e (name ∷ []) [] [] schema refl (none_more d.givens) (none_more d.choices) ext));
      small = (λ schema ext. s.small schema (extends_on d e (name ∷ []) [] [] schema refl (none_more d.givens) (none_more d.choices) ext));
    }
  where
    by : (other : Entry) → IsThere d other → IsThere (record d { names = d.names ++ (name, entry.Index (length d.indexes)) ∷ []; decls = d.decls ++ decl.Index (length d.indexes) ∷ []; indexes = d.indexes ++ name ∷ [] }) other
    by (entry.Index i) h = let longer = one_longer d.indexes name in omega arith
    by (entry.Given f) h = h
    by (entry.Choice x) h = h
    by entry.Formula h = tt

-- a family of a form that fits is over the indexes
family_there : (d : Declarations) (word : Word) (args : List Word) (shape : Shape) (f : Family) → AreNamed d → FamilyFacts d.names word args shape f → family_fits word args shape ≡ true → is_family (length d.indexes) f ≡ true
family_there d word args shape f names facts fit =
    let two = and_parts (is_named word && (nat_le (length args) 2 && list_all is_named args)) (shape_fits shape) fit in
    let one = and_parts (is_named word) (nat_le (length args) 2 && list_all is_named args) two.0 in
    let few = and_parts (nat_le (length args) 2) (list_all is_named args) one.1 in
    let is = args_there d names.there args f.args facts.indexes in
    and_from (nat_le (length f.args) 2 && list_all (λ i. nat_lt i (length d.indexes)) f.args) (is_type (length d.indexes) f.kind)
    (and_from (nat_le (length f.args) 2) (list_all (λ i. nat_lt i (length d.indexes)) f.args) (ap (λ n. nat_le n 2) is.0 ∙ few.0) is.1) (type_there d names.there shape f.kind facts.type)

given_step : (before : List Form) (d : Declarations) (word : Word) (args : List Word) (shape : Shape) (f : Family) → AreConsistent before d → is_language_name f.name ≡ true → entry_of d.names f.name ≡ None → is_family (length d.indexes) f ≡ true
    → has_room before (form.Given word args shape) ≡ true → AreConsistent (before ++ form.Given word args shape ∷ []) (with_declaration d (Given f))
unfolding with_declaration has_room
given_step before d word args shape f s named fresh fits room =
    let e = with_declaration d (Given f) in
    let old = s.counted in let few = s.few in
    let longer = one_longer d.givens f in
    let low : count_by is_given before < 32 = nat_lt_yes (count_by is_given before) 32 room in
    record {
      counted = counted_on before (form.Given word args shape) d e s.counted (omega arith) longer (omega arith) (omega arith);
      few = record { indexes = few.indexes; givens = (let c = old.givens in omega arith); choices = few.choices; formulas = few.formulas };
      names = names_on d e (d.indexes ++ map (λ (f : Family). f.name) d.givens) (map (λ (f : Family). f.name) d.choices ++ formula_names d.formulas) f.name (entry.Given (length d.givens)) s.names
          (simp append_assoc) (simp (map-append, append_assoc)) refl fresh named (by) (omega arith);
      declarations = declarations_on d e (decl.Given (length d.givens)) (f ∷ []) [] s.declarations refl refl (none_more d.choices)
          (λ hs es. and_from _ _ (yes_nat_eq (length d.givens) _ (sym s.declarations.givens))
          (ap (λ n. is_family n (family_at ((d.givens ++ f ∷ []) ++ hs) (length d.givens))) s.declarations.indexes
          ∙ ap (is_family (length d.indexes)) (ap (λ fs. family_at fs (length d.givens)) (append_assoc d.givens (f ∷ []) hs) ∙ family_at-here d.givens hs f) ∙ fits))
          s.declarations.indexes (let i = s.declarations.givens in omega arith) s.declarations.choices;
      typed = (λ schema ext. s.typed schema (extends_on d e [] (f ∷ []) [] schema (none_more d.indexes) refl (none_more d.choices) ext));
      small = (λ schema ext. s.small schema (extends_on d e [] (f ∷ []) [] schema (none_more d.indexes) refl (none_more d.choices) ext));
    }
  where
    by : (other : Entry) → IsThere d other → IsThere (record d { names = d.names ++ (f.name, entry.Given (length d.givens)) ∷ []; decls = d.decls ++ decl.Given (length d.givens) ∷ []; givens = d.givens ++ f ∷ [] }) other
    by (entry.Index i) h = h
    by (entry.Given g) h = let longer = one_longer d.givens f in omega arith
    by (entry.Choice x) h = h
    by entry.Formula h = tt

choice_step : (before : List Form) (d : Declarations) (word : Word) (args : List Word) (shape : Shape) (f : Family) → AreConsistent before d → is_language_name f.name ≡ true → entry_of d.names f.name ≡ None → is_family (length d.indexes) f ≡ true
    → has_room before (form.Choose word args shape) ≡ true → AreConsistent (before ++ form.Choose word args shape ∷ []) (with_declaration d (Choice f))
unfolding with_declaration has_room
choice_step before d word args shape f s named fresh fits room =
    let e = with_declaration d (Choice f) in
    let old = s.counted in let few = s.few in
    let longer = one_longer d.choices f in
    let low : count_by is_choice before < 16 = nat_lt_yes (count_by is_choice before) 16 room in
    record {
      counted = counted_on before (form.Choose word args shape) d e s.counted (omega arith) (omega arith) longer (omega arith);
      few = record { indexes = few.indexes; givens = few.givens; choices = (let c = old.choices in omega arith); formulas = few.formulas };
      names = names_on d e (d.indexes ++ (map (λ (f : Family). f.name) d.givens ++ map (λ (f : Family). f.name) d.choices)) (formula_names d.formulas) f.name (entry.Choice (length d.choices)) s.names
          refl (simp (map-append, append_assoc)) refl fresh named (by) (omega arith);
      declarations = declarations_on d e (decl.Choose (length d.choices)) [] (f ∷ []) s.declarations refl (none_more d.givens) refl
          (λ hs es. and_from _ _ (yes_nat_eq (length d.choices) _ (sym s.declarations.choices))
          (ap (λ n. is_family n (family_at ((d.choices ++ f ∷ []) ++ es) (length d.choices))) s.declarations.indexes
          ∙ ap (is_family (length d.indexes)) (ap (λ fs. family_at fs (length d.choices)) (append_assoc d.choices (f ∷ []) es) ∙ family_at-here d.choices es f) ∙ fits))
          s.declarations.indexes s.declarations.givens (let i = s.declarations.choices in omega arith);
      typed = (λ schema ext. s.typed schema (extends_on d e [] [] (f ∷ []) schema (none_more d.indexes) (none_more d.givens) refl ext));
      small = (λ schema ext. s.small schema (extends_on d e [] [] (f ∷ []) schema (none_more d.indexes) (none_more d.givens) refl ext));
    }
  where
    by : (other : Entry) → IsThere d other → IsThere (record d { names = d.names ++ (f.name, entry.Choice (length d.choices)) ∷ []; decls = d.decls ++ decl.Choose (length d.choices) ∷ []; choices = d.choices ++ f ∷ [] }) other
    by (entry.Index i) h = h
    by (entry.Given g) h = h
    by (entry.Choice x) h = let longer = one_longer d.choices f in omega arith
    by entry.Formula h = tt

-- a formula that an expression says is one of each schema that begins with the declarations
formula_there : (d : Declarations) (name : List ℕ) (expr : Expr) (p : Statement) (schema : Schema) → AreNamed d → Extends d schema → phrase_of d name expr [] (Some 0) ≡ Ok (phrase.Truth p) → trees expr ≤ 1000 → suc (expr_nest expr) ≤ 64 → is_formula schema p ≡ true
unfolding is_formula
formula_there d name expr p schema names ext says few low =
    let good = well schema d name ext names.there expr [] (Some 0) (phrase.Truth p) says in
    let size = good.2 in
    let a = size.trees in let b = size.depth in let c = size.widest in
    and_from (is_typed schema p [] && has_short_prefixes p 0) (keeps_limits (size_of_formula p))
    (and_from (is_typed schema p []) (has_short_prefixes p 0) good.0 (good.1 0 refl))
    (and_from (nat_le (size_of_formula p).trees 100000 && nat_le (size_of_formula p).depth 100) (nat_le (size_of_formula p).widest 1000)
    (and_from (nat_le (size_of_formula p).trees 100000) (nat_le (size_of_formula p).depth 100) (yes_nat_le (size_of_formula p).trees 100000 (omega arith)) (yes_nat_le (size_of_formula p).depth 100 (omega arith)))
    (yes_nat_le (size_of_formula p).widest 1000 (omega arith)))

-- it has no more trees than the expression
formula_small : (d : Declarations) (name : List ℕ) (expr : Expr) (p : Statement) (schema : Schema) → AreNamed d → Extends d schema → phrase_of d name expr [] (Some 0) ≡ Ok (phrase.Truth p) → trees expr ≤ 1000 → nat_le (size_of_formula p).trees 1000 ≡ true
formula_small d name expr p schema names ext says few =
    let good = well schema d name ext names.there expr [] (Some 0) (phrase.Truth p) says in
    let size = good.2 in
    let a = size.trees in
    yes_nat_le (size_of_formula p).trees 1000 (omega arith)

formula_step : (before : List Form) (d : Declarations) (word : Word) (expr : Expr) (name : List ℕ) (p : Statement) → AreConsistent before d → is_language_name name ≡ true → entry_of d.names name ≡ None
    → phrase_of d name expr [] (Some 0) ≡ Ok (phrase.Truth p) → trees expr ≤ 1000 → suc (expr_nest expr) ≤ 64
    → has_room before (form.Formula word expr) ≡ true → AreConsistent (before ++ form.Formula word expr ∷ []) (with_declaration d (Formula name p))
unfolding with_declaration has_room
formula_step before d word expr name p s named fresh says few_trees low_nest room =
    let e = with_declaration d (Formula name p) in
    let old = s.counted in let few = s.few in
    let longer = one_longer d.formulas (name, p) in
    let low : count_by is_formula_form before < 64 = nat_lt_yes (count_by is_formula_form before) 64 room in
    record {
      counted = counted_on before (form.Formula word expr) d e s.counted (omega arith) (omega arith) (omega arith) longer;
      few = record { indexes = few.indexes; givens = few.givens; choices = few.choices; formulas = (let c = old.formulas in omega arith) };
      names = names_on d e (all_names d) [] name entry.Formula s.names
          (none_more (all_names d)) (simp (map-append, append_assoc)) refl fresh named (by) tt;
      declarations = record { declared = s.declarations.declared; indexes = s.declarations.indexes; givens = s.declarations.givens; choices = s.declarations.choices };
      typed = (λ schema ext.
          let base : Extends d schema = record { more_indexes = ext.more_indexes; more_givens = ext.more_givens; more_choices = ext.more_choices; indexes = ext.indexes; givens = ext.givens; choices = ext.choices } in
          list_all-append (λ f. is_formula schema f.1) d.formulas ((name, p) ∷ [])
          ∙ and_from (list_all (λ f. is_formula schema f.1) d.formulas) (is_formula schema p && true) (s.typed schema base)
          (and_from (is_formula schema p) true (formula_there d name expr p schema s.names base says few_trees low_nest) refl));
      small = (λ schema ext.
          let base : Extends d schema = record { more_indexes = ext.more_indexes; more_givens = ext.more_givens; more_choices = ext.more_choices; indexes = ext.indexes; givens = ext.givens; choices = ext.choices } in
          list_all-append (λ f. nat_le (size_of_formula f.1).trees 1000) d.formulas ((name, p) ∷ [])
          ∙ and_from (are_small d.formulas) (nat_le (size_of_formula p).trees 1000 && true) (s.small schema base)
          (and_from (nat_le (size_of_formula p).trees 1000) true (formula_small d name expr p schema s.names base says few_trees) refl));
    }
  where
    by : (other : Entry) → IsThere d other → IsThere (record d { names = d.names ++ (name, entry.Formula) ∷ []; formulas = d.formulas ++ (name, p) ∷ [] }) other
    by (entry.Index i) h = h
    by (entry.Given g) h = h
    by (entry.Choice x) h = h
    by entry.Formula h = tt

manifest_step : (before : List Form) (d : Declarations) (word : Word) (m : Declaration) → AreConsistent before d → ManifestFacts d m → AreConsistent (before ++ form.Manifest word ∷ []) (with_declaration d m)
unfolding with_declaration
manifest_step before d word m s facts = subst (λ m. AreConsistent (before ++ form.Manifest word ∷ []) (with_declaration d m)) facts.is (record {
  counted = counted_on before (form.Manifest word) d (with_declaration d (Manifest facts.choice)) s.counted (omega arith) (omega arith) (omega arith) (omega arith);
  few = record { indexes = s.few.indexes; givens = s.few.givens; choices = s.few.choices; formulas = s.few.formulas };
  names = record { named = s.names.named; distinct = s.names.distinct; known = s.names.known; there = (λ name other found. by other (s.names.there name other found)) };
  declarations = declarations_on d (with_declaration d (Manifest facts.choice)) (decl.Manifest facts.choice) [] [] s.declarations refl (none_more d.givens) (none_more d.choices)
      (λ hs es.
      let at : family_at (d.choices ++ es) facts.choice ≡ facts.family = get_or_from_slice_get (d.choices ++ es) facts.choice facts.family no_family (slice_front d.choices es facts.choice facts.family facts.found) in
      let count = s.declarations.choices in
      let there = slice_get_within d.choices facts.choice facts.family facts.found in
      and_from _ _ (and_from _ _ (yes_nat_lt facts.choice _ (omega arith)) (ap assigns_members at ∙ facts.assigns))
      (ap not (no_manifest facts.choice nothing_declared d.decls facts.first refl)))
      s.declarations.indexes s.declarations.givens s.declarations.choices;
  typed = (λ schema ext. s.typed schema (extends_on d (with_declaration d (Manifest facts.choice)) [] [] [] schema (none_more d.indexes) (none_more d.givens) (none_more d.choices) ext));
  small = (λ schema ext. s.small schema (extends_on d (with_declaration d (Manifest facts.choice)) [] [] [] schema (none_more d.indexes) (none_more d.givens) (none_more d.choices) ext));
})
  where
    by : (other : Entry) → IsThere d other → IsThere (record d { decls = d.decls ++ decl.Manifest facts.choice ∷ [] }) other
    by (entry.Index i) h = h
    by (entry.Given g) h = h
    by (entry.Choice x) h = h
    by entry.Formula h = tt

word_named : (word : Word) (name : List ℕ) → word.name ≡ name → is_named word ≡ true → is_language_name name ≡ true
word_named word name same fit = subst (λ n. is_language_name n ≡ true) same (word_language word.name fit)

family_named : (word : Word) (args : List Word) (shape : Shape) → family_fits word args shape ≡ true → is_named word ≡ true
family_named word args shape fit =
    (and_parts (is_named word) (nat_le (length args) 2 && list_all is_named args) (and_parts (is_named word && (nat_le (length args) 2 && list_all is_named args)) (shape_fits shape) fit).0).0

pub sound_on : (before : List Form) (d : Declarations) (f : Form) (m : Declaration) → AreConsistent before d → form_fits f ≡ true → has_room before f ≡ true → form_nest f ≤ 64 → declaration_of d f ≡ Ok m → AreConsistent (before ++ f ∷ []) (with_declaration d m)
unfolding declaration_of form_fits form_nest
sound_on before d (form.Index word) m s fit room low e =
    let name = both_ok (new_name d.names word) _ m e in
    let facts = new_facts d.names word name.0 name.1 in
    subst (λ m. AreConsistent (before ++ form.Index word ∷ []) (with_declaration d m)) (ok_is (Index name.0) m name.2)
    (index_step before d word name.0 s (word_named word name.0 facts.same fit) facts.fresh room)
sound_on before d (form.Given word args shape) m s fit room low e =
    let f = both_ok (family d.names word args shape) _ m e in
    let facts = family_facts d.names word args shape f.0 f.1 in
    subst (λ m. AreConsistent (before ++ form.Given word args shape ∷ []) (with_declaration d m)) (ok_is (Given f.0) m f.2)
    (given_step before d word args shape f.0 s (word_named word f.0.name facts.named.same (family_named word args shape fit)) facts.named.fresh (family_there d word args shape f.0 s.names facts fit) room)
sound_on before d (form.Choose word args shape) m s fit room low e =
    let f = both_ok (family d.names word args shape) _ m e in
    let facts = family_facts d.names word args shape f.0 f.1 in
    subst (λ m. AreConsistent (before ++ form.Choose word args shape ∷ []) (with_declaration d m)) (ok_is (Choice f.0) m f.2)
    (choice_step before d word args shape f.0 s (word_named word f.0.name facts.named.same (family_named word args shape fit)) facts.named.fresh (family_there d word args shape f.0 s.names facts fit) room)
sound_on before d (form.Formula word expr) m s fit room low e =
    let facts = stated_facts d word expr m e in
    let two = and_parts (is_named word && expr_fits expr role.Formula) (nat_le (trees expr) 1000) fit in
    let one = and_parts (is_named word) (expr_fits expr role.Formula) two.0 in
    subst (λ m. AreConsistent (before ++ form.Formula word expr ∷ []) (with_declaration d m)) facts.is
    (formula_step before d word expr facts.name facts.statement s (word_named word facts.name facts.named.same one.0) facts.named.fresh facts.says (nat_le_yes (trees expr) 1000 two.1) low room)
sound_on before d (form.Manifest word) m s fit room low e = manifest_step before d word m s (manifest_facts d word.at (entry_of d.names word.name) m e)
