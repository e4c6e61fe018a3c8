use Rattle.kts_spec.specs.Typing.{kind_of}
use Rattle.kts_spec.proofs.KindParts.{whole_of_some}
use Rattle.kts_spec.proofs.TermRanges.{range_within}
use Rattle.kts_spec.proofs.laws.ranges_keep_the_limit.Goals as goal

pub returns : goal.returns
returns c schema scope t w e = range_within schema t scope w (whole_of_some (kind_of schema t scope) w e)
