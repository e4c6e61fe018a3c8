use Rattle.std.proofs.Common.{nat_eq}
use Rattle.kts_abs.specs.Members.{has_member}
use Rattle.kts_abs.proofs.Canonical.{same-value, union-value}
use Rattle.kts_abs.proofs.Pairings.{same_abstracts, positions}
use Rattle.kts_abs.proofs.Unions.{elem-union, union_within}
use Rattle.kts_abs.proofs.laws.member_laws.Goals as goal

pub returns : goal.returns
returns c = record {
  same = same_abstracts nat_eq has_member positions;
  union = λ a b m u v. elem-union a b m u.set v.set;
  union_monotone = union_within;
  same_values = same-value;
  union_values = λ a b u v. union-value a b u.set v.set;
}
