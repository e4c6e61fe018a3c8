-- What forms that are well typed mean, one after another.
use Rattle.std.specs.Prelude.{pos, ◌≡◌, ◌≢◌, ℕ, ℤ, neg_ℤ, ◌≤ℤ◌, List, [], ◌∷◌, Some, slice_get}
use Rattle.std.specs.List.{AllByRecursion}
use Rattle.kts_spec.specs.declared.declarations.Decl.TheVariants as decl
use Rattle.kts_spec.specs.declared.declarations.Family.{Family}
use Rattle.kts_spec.specs.declared.declarations.ValueType.{ValueType}
use Rattle.kts_spec.specs.declared.declarations.ValueType.TheVariants as type
use Rattle.kts_base.specs.Limits.{most_type_end}
use Rattle.kts_spec.specs.declared.tree.Formula.{Formula}
use Rattle.kts_syntax.specs.Tops.{Ast}
use Rattle.kts_syntax.specs.declared.expr.Expr.{Expr}
use Rattle.kts_syntax.specs.declared.form.Form.{Form}
use Rattle.kts_syntax.specs.declared.form.Form.TheVariants as form
use Rattle.kts_syntax.specs.declared.form.Shape.{Shape}
use Rattle.kts_syntax.specs.declared.form.Shape.TheVariants as shape
use Rattle.kts_syntax.specs.declared.word.Word.{Word}
use Rattle.kts_check.specs.Forms.{with_declaration, Parts, parts_with}
use Rattle.kts_check.specs.Declarations.{Declarations, no_declarations}
use Rattle.kts_check.specs.Rules.{Declares, IsUndeclared, IsFormula}
use Rattle.kts_check.specs.declared.entry.Entry.TheVariants as entry
use Rattle.kts_check.specs.declared.declaration.Declaration.{Declaration}
use Rattle.kts_check.specs.declared.declaration.Declaration.TheVariants as declaration

-- at most a million away from 0
pub record IsEnd (n : ℤ) : Type 0 where
  pub low : neg_ℤ (pos most_type_end) ≤ℤ n
  pub high : n ≤ℤ (pos most_type_end)

-- a choice of one argument whose values are members
pub record AssignsMembers (family : Family) : Type 0 where
  pub argument : ℕ
  pub value : ℕ
  pub arguments : family.args ≡ argument ∷ []
  pub type : family.kind ≡ type.Member value

module _ (d : Declarations) where
  -- names are those of these indexes
  pub data AreIndexes : List Word → List ℕ → Type 0 where
    no_index : AreIndexes [] []
    index : {word : Word} {i : ℕ} {words : List Word} {is : List ℕ} → Declares d word.name (entry.Index i) → AreIndexes words is → AreIndexes (word ∷ words) (i ∷ is)

  -- what is written is this type: the numbers between two ends, or the members of an index
  pub data IsType : Shape → ValueType → Type 0 where
    -- `(int LOW HIGH)`
    numbers : {low high : ℤ} {at : ℕ} → IsEnd low → IsEnd high → low ≤ℤ high → IsType (shape.Int low high at) (type.Int low high)
    -- `I`
    members : {word : Word} {i : ℕ} → Declares d word.name (entry.Index i) → IsType (shape.Named word) (type.Member i)

  -- a given or a choice: its name is new, and its arguments and its type are what is written
  pub record IsFamily (word : Word) (args : List Word) (written : Shape) (family : Family) : Type 0 where
    pub name : family.name ≡ word.name
    pub new : IsUndeclared d word.name
    pub arguments : AreIndexes args family.args
    pub type : IsType written family.kind

  -- a form means this, after what is declared
  pub data Means : Form → Declaration → Type 0 where
    -- `(index I)`
    index : {word : Word} → IsUndeclared d word.name → Means (form.Index word) (declaration.Index word.name)
    -- `(given x (I ..) T)`
    given : {word : Word} {args : List Word} {written : Shape} {family : Family}
        → IsFamily word args written family → Means (form.Given word args written) (declaration.Given family)
    -- `(choose x (I ..) T)`
    choice : {word : Word} {args : List Word} {written : Shape} {family : Family}
        → IsFamily word args written family → Means (form.Choose word args written) (declaration.Choice family)
    -- `(formula f P)`: its body is the beginning of the way, with nothing in scope
    formula : {word : Word} {expr : Expr} {p : Formula}
        → IsUndeclared d word.name → IsFormula d word.name [] (Some 0) expr p → Means (form.Formula word expr) (declaration.Formula word.name p)
    -- `(manifest x)`: of a choice of which there is none yet
    manifest : {word : Word} {x : ℕ} {family : Family}
        → Declares d word.name (entry.Choice x) → slice_get d.choices x ≡ Some family → AssignsMembers family → AllByRecursion (λ other. other ≢ decl.Manifest x) d.decls
        → Means (form.Manifest word) (declaration.Manifest x)

-- forms in the order of the file take what is declared before them to what is declared after them
pub data AllMean : Declarations → List Form → Declarations → Type 0 where
  no_form : {d : Declarations} → AllMean d [] d
  one_form : {d end : Declarations} {form : Form} {declaration : Declaration} {forms : List Form} → Means d form declaration → AllMean (with_declaration d declaration) forms end → AllMean d (form ∷ forms) end

-- a file that is read is well typed, and says this specification
pub record Typed (ast : Ast) (parts : Parts) : Type 0 where
  pub end : Declarations
  pub forms : AllMean no_declarations ast.forms end
  pub says : parts ≡ parts_with ast.name end
