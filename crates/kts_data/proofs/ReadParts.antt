-- What readings of parts give, where the whole is read.
use Rattle.std.proofs.Common.{◌≡◌, refl, ◌∙◌, ap, List, [], ◌∷◌, Bool, true, false, Option, Some, None, Ok, Err}
use Rattle.std.specs.Prelude.{if◌then◌else◌}
use Rattle.kts_base.specs.Reads.{and_then}
use Rattle.kts_data.specs.Faults.{Read, or_fault, fold_read}
use Rattle.kts_data.specs.declared.fault.DataFault.{DataFault}

-- a fault is no value
pub err_ok : {A : Type 0} {P : Type 0} (e : DataFault) (a : A) → ◌≡◌ {A = Read A} (Err e) (Ok a) → P
err_ok e a h = absurd cc

-- what was read is one thing
pub same_ok : {A : Type 0} (a b : A) → ◌≡◌ {A = Read A} (Ok a) (Ok b) → a ≡ b
same_ok a b h = cc

-- the first and the second reading of two
pub then_parts : {A B : Type 0} (r : Read A) (f : A → Read B) (b : B) → and_then r f ≡ Ok b → (a : A) × (r ≡ Ok a) × (f a ≡ Ok b)
then_parts (Ok a) f b h = (a, refl, h)
then_parts (Err e) f b h = err_ok e b h

-- a second reading goes on with what the first gave
pub then_from : {A B : Type 0} (r : Read A) (f : A → Read B) (a : A) → r ≡ Ok a → and_then r f ≡ f a
then_from r f a h = ap (λ r. and_then r f) h

-- what stands where it is asked for
pub or_fault_parts : {A : Type 0} (o : Option A) (e : DataFault) (a : A) → or_fault o e ≡ Ok a → o ≡ Some a
or_fault_parts (Some b) e a h = ap (λ x. Some x) (same_ok b a h)
or_fault_parts None e a h = err_ok e a h

-- what stands is given
pub or_fault_from : {A : Type 0} (o : Option A) (e : DataFault) (a : A) → o ≡ Some a → or_fault o e ≡ Ok a
or_fault_from o e a h = ap (λ o. or_fault o e) h

-- what a test lets pass
pub test_parts : {A : Type 0} (b : Bool) (r : Read A) (e : DataFault) (a : A) → if b then r else Err e ≡ Ok a → (b ≡ true) × (r ≡ Ok a)
test_parts true r e a h = (refl, h)
test_parts false r e a h = err_ok e a h

-- a test that holds lets pass
pub test_from : {A : Type 0} (b : Bool) (r s : Read A) → b ≡ true → if b then r else s ≡ r
test_from b r s h = rw h refl

-- what a test refuses not
pub refusal_parts : {A : Type 0} (b : Bool) (r : Read A) (e : DataFault) (a : A) → if b then Err e else r ≡ Ok a → (b ≡ false) × (r ≡ Ok a)
refusal_parts true r e a h = err_ok e a h
refusal_parts false r e a h = (refl, h)

-- a test that does not hold refuses nothing
pub refusal_from : {A : Type 0} (b : Bool) (r s : Read A) → b ≡ false → if b then s else r ≡ r
refusal_from b r s h = rw h refl

-- steps that read alike read alike of each of a list
pub fold_same : {S D : Type 0} (f g : S → D → Read S) → ((s : S) (d : D) → f s d ≡ g s d) → (s : S) (ds : List D)
    → fold_read f s ds ≡ fold_read g s ds
unfolding fold_read
fold_same f g e s [] = refl
fold_same {S = S} f g e s (d ∷ ds) = ap (λ r. and_then r (λ t. fold_read f t ds)) (e s d) ∙ after (λ t. fold_same f g e t ds) (g s d)
  where
    after : ((t : S) → fold_read f t ds ≡ fold_read g t ds) → (r : Read S) → and_then r (λ t. fold_read f t ds) ≡ and_then r (λ t. fold_read g t ds)
    after rest (Ok t) = rest t
    after rest (Err x) = refl

-- the first of a list is read, and then those after it
pub fold_parts : {S D : Type 0} (f : S → D → Read S) (s : S) (d : D) (ds : List D) (u : S) → fold_read f s (d ∷ ds) ≡ Ok u
    → (t : S) × (f s d ≡ Ok t) × (fold_read f t ds ≡ Ok u)
unfolding fold_read
fold_parts f s d ds u h = then_parts (f s d) (λ t. fold_read f t ds) u h

-- after the first of a list those after it are read
pub fold_from : {S D : Type 0} (f : S → D → Read S) (s : S) (d : D) (ds : List D) (t : S) → f s d ≡ Ok t → fold_read f s (d ∷ ds) ≡ fold_read f t ds
unfolding fold_read
fold_from f s d ds t h = then_from (f s d) (λ t. fold_read f t ds) t h

-- of an empty list nothing more is read
pub fold_end : {S D : Type 0} (f : S → D → Read S) (s : S) → fold_read f s [] ≡ Ok s
unfolding fold_read
fold_end f s = refl
