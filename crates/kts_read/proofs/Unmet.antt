-- What a reading gives is the first demand that isn't met.
use Rattle.std.proofs.Common.{◌≡◌, refl, sym, ◌∙◌, List, [], ◌∷◌, ◌++◌, Bool, true, false, not, ◌&&◌, if◌then◌else◌, Option, None, Some, Result, Ok, Err}
use Rattle.kts_base.specs.Reads.{and_then}
use Rattle.kts_read.specs.Demands.{Demand, first_unmet}
use Rattle.kts_read.specs.declared.fault.CodeKind.{CodeKind}

-- the kind of a reading's fault
abbrev pub unread : {X : Type 0} → Result X CodeKind → Option CodeKind
unread (Ok x) = None
unread (Err kind) = Some kind

pub met_on : (cs ds : List Demand) → None ≡ first_unmet cs → first_unmet (cs ++ ds) ≡ first_unmet ds
met_on [] ds e = refl
met_on ((kind, true) ∷ cs) ds e = met_on cs ds e
met_on ((kind, false) ∷ cs) ds e = absurd cc

pub unmet_on : (cs ds : List Demand) (k : CodeKind) → Some k ≡ first_unmet cs → first_unmet (cs ++ ds) ≡ Some k
unmet_on [] ds k e = absurd cc
unmet_on ((kind, true) ∷ cs) ds k e = unmet_on cs ds k e
unmet_on ((kind, false) ∷ cs) ds k e = sym e

-- a test before a reading
pub if_meets : {X : Type 0} (t : Bool) (kind : CodeKind) (r : Result X CodeKind) (ds : List Demand) → (t ≡ true → unread r ≡ first_unmet ds) → unread (if t then r else Err kind) ≡ first_unmet ((kind, t) ∷ ds)
if_meets true kind r ds h = h refl
if_meets false kind r ds h = refl

pub unless_meets : {X : Type 0} (t : Bool) (kind : CodeKind) (r : Result X CodeKind) (ds : List Demand) → (t ≡ false → unread r ≡ first_unmet ds) → unread (if t then Err kind else r) ≡ first_unmet ((kind, not t) ∷ ds)
unless_meets true kind r ds h = refl
unless_meets false kind r ds h = h refl

-- one of two readings
pub either_meets : {X : Type 0} (t : Bool) (r s : Result X CodeKind) (cs ds : List Demand) → (t ≡ true → unread r ≡ first_unmet cs) → (t ≡ false → unread s ≡ first_unmet ds) → unread (if t then r else s) ≡ first_unmet (if t then cs else ds)
either_meets true r s cs ds g h = g refl
either_meets false r s cs ds g h = h refl

-- one reading after another
pub then_meets : {X Y : Type 0} (r : Result X CodeKind) (f : X → Result Y CodeKind) (cs ds : List Demand) → unread r ≡ first_unmet cs → ((x : X) → r ≡ Ok x → unread (f x) ≡ first_unmet ds) → unread (and_then r f) ≡ first_unmet (cs ++ ds)
then_meets (Ok x) f cs ds e more = more x refl ∙ sym (met_on cs ds e)
then_meets (Err k) f cs ds e more = sym (unmet_on cs ds k e)

-- a reading that is made to something else
pub made_meets : {X Y : Type 0} (r : Result X CodeKind) (f : X → Y) (ds : List Demand) → unread r ≡ first_unmet ds → unread (and_then r (λ x. Ok (f x))) ≡ first_unmet ds
made_meets (Ok x) f ds e = e
made_meets (Err k) f ds e = e

-- a single test
pub test_meets : {X : Type 0} (t : Bool) (kind : CodeKind) (x : X) → unread (if t then Ok x else Err kind) ≡ first_unmet ((kind, t) ∷ [])
test_meets true kind x = refl
test_meets false kind x = refl

-- two tests with one fault are one
pub both_meet : (kind : CodeKind) (a b : Bool) (ds : List Demand) → first_unmet ((kind, a) ∷ (kind, b) ∷ ds) ≡ first_unmet ((kind, a && b) ∷ ds)
both_meet kind true b ds = refl
both_meet kind false b ds = refl
