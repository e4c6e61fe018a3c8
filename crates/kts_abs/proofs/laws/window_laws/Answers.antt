use Rattle.kts_abs.proofs.Hulls.{hulls, gates}
use Rattle.kts_abs.proofs.Orders.{at_most, equal}
use Rattle.kts_abs.proofs.Products.{products}
use Rattle.kts_abs.proofs.Sums.{sums, differences, lesser, greater}
use Rattle.kts_abs.proofs.laws.window_laws.Goals as goal

pub returns : goal.returns
returns c = record {
  sum = sums;
  difference = differences;
  product = products;
  lesser = lesser;
  greater = greater;
  gate = gates;
  at_most = at_most;
  equal = equal;
  hull = hulls;
}
