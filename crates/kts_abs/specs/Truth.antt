-- Truth values of which one is unknown, and strong Kleene logic on them.
use Rattle.std.specs.Prelude.{Bool, true, false, not, Option, Some, None}
use Rattle.kts_abs.specs.declared.truth.Tri.{Tri}
use Rattle.kts_abs.specs.declared.truth.Tri.TheVariants.{F, U, T}

-- whether the truth value may be the one that is meant
abbrev pub may_be : Tri → Bool → Bool
may_be F b = not b
may_be U b = true
may_be T b = b

-- whether the second is known to be no other than the first
abbrev pub surer : Tri → Tri → Bool
surer F F = true
surer F U = false
surer F T = false
surer U q = true
surer T F = false
surer T U = false
surer T T = true

-- the truth value where it is known
abbrev pub known : Tri → Option Bool
known F = Some false
known U = None
known T = Some true

-- a truth value that is known
abbrev pub certain : Bool → Tri
certain true = T
certain false = F

-- true where it surely holds, false where it surely fails
abbrev pub decided : Bool → Bool → Tri
decided true fails = T
decided false true = F
decided false false = U

-- unknown stays unknown
abbrev pub not_of : Tri → Tri
not_of F = T
not_of U = U
not_of T = F

-- false as soon as one of them is
abbrev pub and_of : Tri → Tri → Tri
and_of F q = F
and_of U F = F
and_of U U = U
and_of U T = U
and_of T q = q

-- true as soon as one of them is
abbrev pub or_of : Tri → Tri → Tri
or_of F q = q
or_of U F = U
or_of U U = U
or_of U T = T
or_of T q = T
