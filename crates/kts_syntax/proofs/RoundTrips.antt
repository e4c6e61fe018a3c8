-- The text of forms is that of a file, which is read back.
use Rattle.std.proofs.Common.{◌≡◌, ◌≢◌, refl, sym, ◌∙◌, ap, subst, ℕ, ◌≤◌, List, [], append-nil, true, Result, Ok}
use Rattle.kts_text.specs.Forest.{Forest, none}
use Rattle.kts_text.specs.Grammar.{forest, spelled, TreesOf}
use Rattle.kts_text.specs.Reads.{trees_of}
use Rattle.kts_text.specs.Faults.{TreeFault}
use Rattle.kts_syntax.specs.Fitting.{ast_fits}
use Rattle.kts_syntax.specs.Places.{aside}
use Rattle.kts_syntax.specs.RoundTrip.{ReadsBack}
use Rattle.kts_syntax.specs.Sizes.{forms_nest}
use Rattle.kts_syntax.specs.Texts.{forms_text}
use Rattle.kts_syntax.specs.Tops.{Ast, forms_of}
use Rattle.kts_syntax.proofs.FormsAgain.{file_again}
use Rattle.kts_syntax.proofs.Inversions.{same_ok}
use Rattle.kts_syntax.proofs.TopsBack.{file, file_stands, file_spelled}

some_trees : (ast : Ast) → forest 0 (file ast) ≢ none
some_trees ast e = cc

file_text : (ast : Ast) → ast_fits ast ≡ true → forms_nest ast.forms ≤ 64 → TreesOf (forms_text ast) (forest 0 (file ast))
file_text ast fit low = ((file ast, [], file_stands ast fit low, tt, sym (file_spelled ast) ∙ sym (append-nil (spelled (file ast))), refl), some_trees ast)

pub reads_back : (ast : Ast) → ast_fits ast ≡ true → forms_nest ast.forms ≤ 64 → ReadsBack ast
reads_back ast fit low =
    let again = file_again ast fit in
    record { trees = forest 0 (file ast); text = file_text ast fit low; read = again.read; is = again.is; same = again.same }

abbrev ok_trees : Forest → Result Forest TreeFault
ok_trees t = Ok t

same_trees : (t u : Forest) → ok_trees t ≡ ok_trees u → t ≡ u
same_trees t u e = cc

module _ (has : (bytes : List ℕ) (t : Forest) → TreesOf bytes t → trees_of bytes ≡ Ok t) where
  -- a text has the trees of one file
  one_file : (bytes : List ℕ) (t u : Forest) → TreesOf bytes t → TreesOf bytes u → t ≡ u
  one_file bytes t u a b = same_trees t u (sym (has bytes t a) ∙ has bytes u b)

  pub same_forms : (a b : Ast) → ReadsBack a → ReadsBack b → forms_text a ≡ forms_text b → aside a ≡ aside b
  same_forms a b p q text =
      let trees = one_file (forms_text b) p.trees q.trees (subst (λ (bytes : List ℕ). TreesOf bytes p.trees) text p.text) q.text in
      sym p.same ∙ ap aside (same_ok p.read q.read (forms_of q.trees) (sym (ap forms_of trees) ∙ p.is) q.is) ∙ q.same
