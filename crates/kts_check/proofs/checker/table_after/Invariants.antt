use Rattle.std.proofs.Common.{◌≡◌, ◌≤◌, take, drop, true}
use Rattle.kts_syntax.specs.Fitting.{forms_fit}
use Rattle.kts_syntax.specs.Sizes.{forms_nest}
use Rattle.kts_check.specs.Forms.{declarations_of, declarations_in}
use Rattle.kts_check.specs.Declarations.{no_declarations}
use Rattle.kts_check.specs.Sound.{AreConsistent}
use Rattle.kts_check.proofs.checker.table_after.Given as goal

abbrev pub invariant-loop-form : goal.invariant-loop-form
invariant-loop-form l = record {
  so_far : declarations_of (declarations_in l.table) (drop l.form-index l.forms) ≡ declarations_of no_declarations l.forms;
  sound : AreConsistent (take l.form-index l.forms) (declarations_in l.table);
  fits : forms_fit (take l.form-index l.forms) (drop l.form-index l.forms) ≡ true;
  shallow : forms_nest (drop l.form-index l.forms) ≤ 64;
}
