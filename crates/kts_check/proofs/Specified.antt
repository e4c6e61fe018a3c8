-- A specification is that of its parts.
use Rattle.std.proofs.Common.{◌≡◌, refl, ap, ◌∙◌, subst, ℕ, ◌≤◌, List, [], ◌∷◌, ◌++◌, Bool, true, false, ◌&&◌, Some, Ok, arith}
use Rattle.std.proofs.lemmas.Bool.{and_parts}
use Rattle.std.proofs.Math.Bool.{Bool-set}
use Rattle.std.specs.Prelude.{option_and_then}
use Rattle.kts_spec.specs.Specifications.{is_spec}
use Rattle.kts_spec.specs.declared.schema.Schema.{Schema}
use Rattle.kts_spec.specs.declared.spec.Spec.{Spec}
use Rattle.kts_spec.specs.declared.tree.Formula.{Formula}
use Rattle.kts_syntax.specs.Fitting.{ast_fits, form_fits, forms_fit}
use Rattle.kts_syntax.specs.Sizes.{forms_nest}
use Rattle.kts_syntax.specs.Tops.{Ast, has_room}
use Rattle.kts_syntax.specs.Words.{is_word}
use Rattle.kts_syntax.specs.declared.form.Form.{Form}
use Rattle.kts_check.specs.Forms.{Parts, parts, parts_with, declarations_of, declaration_of, with_declaration, parts_of}
use Rattle.kts_check.specs.Declarations.{Declarations, no_declarations}
use Rattle.kts_check.specs.Sound.{AreConsistent}
use Rattle.kts_check.specs.Specs.{has_schema, schema_if, spec_if, spec_of, are_small, IsSpecified}
use Rattle.kts_check.proofs.Inversions.{ok_is, both_ok}
use Rattle.kts_check.proofs.SoundSpecs.{extends_same, sound_schema, sound_spec}
use Rattle.kts_check.proofs.SoundSteps.{sound_none, sound_on}

schema_made : (p : Parts) (test : Bool) (e : has_schema p ≡ test) (is : has_schema p ≡ true) → test ≡ true
    → schema_if p test e ≡ Some (record { name = p.name; decls = p.decls; indexes = p.indexes; givens = p.givens; choices = p.choices; tasks = p.tasks; is_schema = is })
schema_made p true e is h =
    ap (λ (sound : has_schema p ≡ true). Some (let s : Schema = record { name = p.name; decls = p.decls; indexes = p.indexes; givens = p.givens; choices = p.choices; tasks = p.tasks; is_schema = sound } in s)) (Bool-set _ _ e is)
schema_made p false e is h = absurd cc

spec_made : (schema : Schema) (formulas : List (List ℕ × Formula)) (test : Bool) (e : is_spec schema formulas ≡ test) (is : is_spec schema formulas ≡ true) → test ≡ true
    → spec_if schema formulas test e ≡ Some (record { schema = schema; formulas = formulas; is_spec = is })
spec_made schema formulas true e is h =
    ap (λ (sound : is_spec schema formulas ≡ true). Some (let s : Spec = record { schema = schema; formulas = formulas; is_spec = sound } in s)) (Bool-set _ _ e is)
spec_made schema formulas false e is h = absurd cc

-- the parts of a specification give it back
pub spec_again : (spec : Spec) → spec_of (parts spec) ≡ Some spec
unfolding spec_of
spec_again spec =
    let schema = spec.schema in
    ap (option_and_then (λ s. spec_if s spec.formulas (is_spec s spec.formulas) refl)) (schema_made (parts spec) (has_schema (parts spec)) refl schema.is_schema schema.is_schema)
    ∙ spec_made schema spec.formulas (is_spec schema spec.formulas) refl spec.is_spec spec.is_spec

-- so do parts that keep the conditions
pub spec_there : (p : Parts) (schema : has_schema p ≡ true) → ((s : Schema) → s.indexes ≡ p.indexes → s.givens ≡ p.givens → s.choices ≡ p.choices → is_spec s p.formulas ≡ true) → p.tasks ≡ [] → are_small p.formulas ≡ true → IsSpecified p
spec_there p schema sound tasks small =
    let made : Schema = record { name = p.name; decls = p.decls; indexes = p.indexes; givens = p.givens; choices = p.choices; tasks = p.tasks; is_schema = schema } in
    let spec : Spec = record { schema = made; formulas = p.formulas; is_spec = sound made refl refl refl } in
    record { spec = spec; is = spec_again spec; same = refl; tasks = tasks; small = small }

-- the formulas of sound declarations are small
pub small_there : (fs : List Form) (d : Declarations) (schema : Schema) → AreConsistent fs d → schema.indexes ≡ d.indexes → schema.givens ≡ d.givens → schema.choices ≡ d.choices → are_small d.formulas ≡ true
small_there fs d schema s i g c = s.small schema (extends_same d schema i g c)

sound_small : (fs : List Form) (d : Declarations) (name : List ℕ) → AreConsistent fs d → has_schema (parts_with name d) ≡ true → are_small d.formulas ≡ true
sound_small fs d name s is =
    let schema : Schema = record { name = name; decls = d.decls; indexes = d.indexes; givens = d.givens; choices = d.choices; tasks = []; is_schema = is } in
    small_there fs d schema s refl refl refl

-- declarations stay sound over forms that fit
sound_all : (before fs : List Form) (d e : Declarations) → AreConsistent before d → forms_fit before fs ≡ true → forms_nest fs ≤ 64 → declarations_of d fs ≡ Ok e → (whole : List Form) × AreConsistent whole e
unfolding declarations_of forms_fit
sound_all before [] d e s fit low is = (before, subst (AreConsistent before) (ok_is d e is) s)
sound_all before (f ∷ fs) d e s fit low is =
    let one = both_ok (declaration_of d f) _ e is in
    let two = and_parts (form_fits f && has_room before f) (forms_fit (before ++ f ∷ []) fs) fit in
    let here = and_parts (form_fits f) (has_room before f) two.0 in
    sound_all (before ++ f ∷ []) fs (with_declaration d one.0) e (sound_on before d f one.0 s here.0 here.1 (omega arith) one.1) two.1 (omega arith) one.2

-- what forms say that may be written is a specification
pub specified_there : (ast : Ast) (p : Parts) → ast_fits ast ≡ true → forms_nest ast.forms ≤ 64 → parts_of ast ≡ Ok p → IsSpecified p
unfolding parts_of ast_fits
specified_there ast p fit low is =
    let all = both_ok (declarations_of no_declarations ast.forms) _ p is in
    let d = all.0 in
    let both = and_parts (is_word ast.name) (forms_fit [] ast.forms) fit in
    let sound = sound_all [] ast.forms no_declarations d sound_none both.1 low all.1 in
    let schema = sound_schema sound.0 d ast.name sound.1 both.0 in
    subst IsSpecified (ok_is (parts_with ast.name d) p all.2)
    (spec_there (parts_with ast.name d) schema (λ s i g c. sound_spec sound.0 d s sound.1 i g c) refl (sound_small sound.0 d ast.name sound.1 schema))
