use Rattle.kts_check.proofs.Verdicts.{typed_result, only_result, first_result, whole_result}
use Rattle.kts_check.proofs.checker.check.Goals as goal

pub returns-clause-typed : goal.returns-clause-typed
returns-clause-typed c = typed_result _ c.args.forms.now.fit c.specification.result c.specification.ensures.parts

pub returns-clause-only : goal.returns-clause-only
returns-clause-only c = only_result _ c.args.forms.now.fit c.specification.result c.specification.ensures.parts

pub returns-clause-first : goal.returns-clause-first
returns-clause-first c = first_result _ c.args.forms.now.fit c.specification.result c.specification.ensures.parts

pub returns-clause-whole : goal.returns-clause-whole
returns-clause-whole c = whole_result c.specification.result
