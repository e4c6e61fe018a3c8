use Rattle.kts_index.proofs.DigitRows.{skip_to_row, stay_in_row, skip_to_next_row}
use Rattle.kts_index.proofs.digit.first_with_digit.Goals as goal

pub returns-then-from-row-clause-skip : goal.returns-then-from-row-clause-skip
returns-then-from-row-clause-skip c = skip_to_row c.args.width c.args.base c.args.digit c.requires.width c.requires.digit c.args.from c.if-from-row.true

pub returns-then-from-row-2-clause-skip : goal.returns-then-from-row-2-clause-skip
returns-then-from-row-2-clause-skip c = stay_in_row c.args.width c.args.base c.args.digit c.requires.width c.requires.digit c.args.from c.if-from-row.false c.if-from-row-2.true

pub returns-else-from-row-2-clause-skip : goal.returns-else-from-row-2-clause-skip
returns-else-from-row-2-clause-skip c = skip_to_next_row c.args.width c.args.base c.args.digit c.requires.width c.requires.digit c.args.from c.if-from-row-2.false
