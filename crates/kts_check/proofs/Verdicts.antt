-- What a result of the checker tells by the rules of typing and of faults.
use Rattle.std.proofs.Common.{◌≡◌, sym, ◌∙◌, ◌⊎◌, inl, inr, true, Some, Result, Ok, Err}
use Rattle.std.specs.Prelude.{IfOk, IfErr, MatchResult}
use Rattle.kts_base.specs.Reads.{Gives}
use Rattle.kts_spec.specs.declared.spec.Spec.{Spec}
use Rattle.kts_syntax.specs.Fitting.{ast_fits}
use Rattle.kts_syntax.specs.Tops.{Ast}
use Rattle.kts_check.specs.Faults.{SpecFault, IsNoMemory}
use Rattle.kts_check.specs.Faulty.{FirstFault}
use Rattle.kts_check.specs.Forms.{Parts, parts, parts_of}
use Rattle.kts_check.specs.Specs.{spec_of}
use Rattle.kts_check.specs.Typed.{Typed}
use Rattle.kts_check.proofs.Inversions.{ok_is, value_no_fault}
use Rattle.kts_check.proofs.Specified.{spec_again}
use Rattle.kts_check.proofs.RuleForms.{typing_holds}
use Rattle.kts_check.proofs.FaultForms.{fault_holds}

module _ (ast : Ast) (fit : ast_fits ast ≡ true) where
  pub typed_result : (result : Result Spec SpecFault) → Gives IsNoMemory parts result (parts_of ast) → IfOk result (λ spec. Typed ast (parts spec))
  typed_result (Ok spec) e = (typing_holds ast (parts spec) fit).0 e
  typed_result (Err f) e = tt

  pub only_result : (result : Result Spec SpecFault) → Gives IsNoMemory parts result (parts_of ast) → (p : Parts) → Typed ast p → MatchResult result (λ spec. parts spec ≡ p) IsNoMemory
  only_result (Ok spec) e p typed = ok_is (parts spec) p (sym e ∙ (typing_holds ast p fit).1 typed)
  only_result (Err f) e p typed =
      elim e [
        | inl refused ↦ refused
        | inr fault ↦ absurd (value_no_fault (parts_of ast) p f ((typing_holds ast p fit).1 typed) fault)
      ]

  pub first_result : (result : Result Spec SpecFault) → Gives IsNoMemory parts result (parts_of ast) → IfErr result (λ fault. IsNoMemory fault ⊎ FirstFault ast fault)
  first_result (Ok spec) e = tt
  first_result (Err f) e =
      elim e [
        | inl refused ↦ inl refused
        | inr fault ↦ inr ((fault_holds ast f fit).0 fault)
      ]

pub whole_result : (result : Result Spec SpecFault) → IfOk result (λ spec. spec_of (parts spec) ≡ Some spec)
whole_result (Ok spec) = spec_again spec
whole_result (Err f) = tt
