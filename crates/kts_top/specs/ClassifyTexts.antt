-- The text of a classification: each clause in order, with its constraints, or as a residual clause.
use Rattle.std.specs.Prelude.{ℕ, ◌+◌, List, [], ◌∷◌, ◌++◌, codes, decimal, length, flat_map, slice_index_or}
use Rattle.std.specs.List.{enumerate_from}
use Rattle.kts_spec.specs.declared.declarations.Family.{Family}
use Rattle.kts_spec.specs.declared.spec.Spec.{Spec}
use Rattle.kts_spec.specs.declared.tree.Formula.{Formula}
use Rattle.kts_spec.specs.Schemas.{family_at}
use Rattle.kts_spec.specs.Specifications.{formula_names}
use Rattle.kts_spec.specs.Texts.{newline, space}
use Rattle.kts_abs.specs.declared.demand.Op.{Op}
use Rattle.kts_abs.specs.declared.demand.Op.TheVariants.{AtLeast, AtMost, Within, Without}
use Rattle.kts_clause.specs.declared.clause.Clause.{Clause}
use Rattle.kts_plan.specs.declared.definite.Definite.{Definite}
use Rattle.kts_plan.specs.Plans.{clauses_of_spec, definites_of, definites_of_clause, residuals_of}

-- the word of what a constraint asks of its cell
abbrev pub op_word : Op → List ℕ
op_word AtLeast = codes "atleast"
op_word AtMost = codes "atmost"
op_word Within = codes "within"
op_word Without = codes "without"

-- how many residual clauses a clause with these constraints is
abbrev pub residual_count : List Definite → ℕ
residual_count [] = 1
residual_count (d ∷ ds) = 0

-- classified D R
abbrev pub totals_line : List Clause → List ℕ
totals_line clauses = codes "classified " ++ (decimal (length (definites_of clauses)) ++ (space ∷ (decimal (length (residuals_of clauses)) ++ newline)))

module _ (formulas : List (List ℕ × Formula)) (choices : List Family) where
  -- the name of the formula of this number
  abbrev pub formula_name : ℕ → List ℕ
  formula_name k = slice_index_or (formula_names formulas) k []

  -- definite D FORMULA CLAUSE LITERAL OP CHOICE
  abbrev pub definite_line : Clause → ℕ × Definite → List ℕ
  definite_line c (number, d) =
      codes "definite " ++ (decimal number ++ (space ∷ (formula_name c.formula ++ (space ∷ (decimal c.clause ++ (space ∷ (decimal d.literal
      ++ (space ∷ (op_word d.head.op ++ (space ∷ ((family_at choices d.head.choice).name ++ newline)))))))))))

  -- residual R FORMULA CLAUSE
  abbrev pub residual_line : Clause → ℕ → List ℕ
  residual_line c number = codes "residual " ++ (decimal number ++ (space ∷ (formula_name c.formula ++ (space ∷ (decimal c.clause ++ newline)))))

  -- the lines of a clause with these constraints, after so many constraints and so many residual clauses
  abbrev pub clause_lines : ℕ → ℕ → Clause → List Definite → List ℕ
  clause_lines definites residuals c [] = residual_line c residuals
  clause_lines definites residuals c (d ∷ ds) = flat_map (definite_line c) (enumerate_from definites (d ∷ ds))

  -- the lines of clauses, the first of this number, after so many constraints and so many residual clauses
  abbrev pub lines_from : ℕ → ℕ → ℕ → List Clause → List ℕ
  lines_from number definites residuals [] = []
  lines_from number definites residuals (c ∷ clauses) =
      clause_lines definites residuals c (definites_of_clause (number, c))
      ++ lines_from (number + 1) (definites + length (definites_of_clause (number, c))) (residuals + residual_count (definites_of_clause (number, c))) clauses

  -- the lines of all clauses, and the totals
  abbrev pub clauses_text : List Clause → List ℕ
  clauses_text clauses = lines_from 0 0 0 clauses ++ totals_line clauses

-- the text of a specification's classification
abbrev pub classification_text : Spec → List ℕ
classification_text spec = clauses_text spec.formulas spec.schema.choices (clauses_of_spec spec)
