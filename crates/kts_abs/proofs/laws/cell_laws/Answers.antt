use Rattle.kts_abs.proofs.Positions.{cell_is, above_is, room_is, value_is}
use Rattle.kts_abs.proofs.laws.cell_laws.Goals as goal

pub returns : goal.returns
returns c = record {
  cells = λ W a v. cell_is a v;
  order = λ W a b v w. above_is a b v w;
  room = λ W a v. room_is a v;
  equal = λ W a b e. value_is a b e;
}
