-- What a reader gives of trees, in the terms of the grammar and of the list of trees at fault.
use Rattle.std.proofs.Common.{◌≡◌, ℕ, List, Ok, Err, inl, inr}
use Rattle.std.specs.Prelude.{◌⊎◌, Result, IfOk, IfErr, MatchResult}
use Rattle.kts_base.specs.Reads.{Gives}
use Rattle.kts_text.specs.Forest.{Forest}
use Rattle.kts_text.specs.Grammar.{TreesOf}
use Rattle.kts_syntax.specs.Faults.{IsNoMemory, FormFault}
use Rattle.kts_syntax.specs.Faulty.{EndsFirst, faulty_trees}
use Rattle.kts_syntax.specs.FormsOf.{FormsOf}
use Rattle.kts_syntax.specs.Shown.{ast_of}
use Rattle.kts_syntax.specs.Tops.{Ast, forms_of}
use Rattle.kts_syntax.specs.declared.forms.Forms.{Forms}
use Rattle.kts_syntax.proofs.FormOrder.{fault_is_first}
use Rattle.kts_syntax.proofs.GrammarForms.{forms_if, forms_then}
use Rattle.kts_syntax.proofs.Inversions.{same_ok}

module _ (t : Forest) where
  pub found_from : (result : Result Forms FormFault) → Gives IsNoMemory ast_of result (forms_of t) → IfOk result (λ forms. FormsOf t (ast_of forms))
  found_from (Ok forms) read = forms_if t (ast_of forms) read
  found_from (Err f) read = tt

  no_error : (f : FormFault) (ast : Ast) → forms_of t ≡ Ok ast → (forms_of t ≡ Err f) → ⊥
  no_error f ast p q = cc

  pub only_from : (result : Result Forms FormFault) → Gives IsNoMemory ast_of result (forms_of t) → (ast : Ast) → FormsOf t ast → MatchResult result (λ forms. ast_of forms ≡ ast) IsNoMemory
  only_from (Ok forms) read ast is = same_ok (ast_of forms) ast (forms_of t) read (forms_then is)
  only_from (Err f) read ast is = elim read [ inl memory ↦ memory | inr fault ↦ absurd (no_error f ast (forms_then is) fault) ]

  pub first_from : (result : Result Forms FormFault) → Gives IsNoMemory ast_of result (forms_of t)
      → IfErr result (λ fault. IsNoMemory fault ⊎ ((bytes : List ℕ) → TreesOf bytes t → EndsFirst (faulty_trees t) fault))
  first_from (Ok forms) read = tt
  first_from (Err f) read = elim read [ inl memory ↦ inl memory | inr fault ↦ inr (λ bytes found. (fault_is_first bytes t found f).0 fault) ]
