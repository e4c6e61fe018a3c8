-- Terms with their signs, as the code has them.
use Rattle.std.specs.Prelude.{List, map, Bool, true, false}
use Rattle.kts_spec.specs.declared.tree.Term.{Term}
use Rattle.kts_plan.specs.Heads.{signed_term}
use Rattle.kts_spec.specs.Addends.{Addend, Sign, Plus, Minus, opposite, addends}

-- the sign of an addend that may be taken away
abbrev pub sign_of : Bool → Sign
sign_of true = Minus
sign_of false = Plus

-- a term that may be taken away
abbrev pub addend_of : Bool → Term → Addend
addend_of minus t = record { sign = sign_of minus; term = t }

-- the addends of a term that may be taken away
abbrev pub signed_addends : Bool → Term → List Addend
signed_addends true t = map opposite (addends t)
signed_addends false t = addends t

-- an addend as plans have it, of its own sign or of the other
abbrev pub signed_as : Bool → Addend → Bool × Term
signed_as true a = signed_term (opposite a)
signed_as false a = signed_term a
