-- What a reading that gave a value was made of.
use Rattle.std.proofs.Common.{◌≡◌, refl, sym, ◌∙◌, ap, List, [], ◌∷◌, Bool, true, false, if◌then◌else◌, cond, Option, None, Some, Ok, Err, find}
use Rattle.std.proofs.lemmas.Bool.{and_parts}
use Rattle.std.specs.List.{list_all}
use Rattle.kts_base.specs.Reads.{and_then}
use Rattle.kts_syntax.specs.Readings.{Reading, or_fail}
use Rattle.kts_syntax.specs.Faults.{FormFault}

abbrev ok : {A : Type 0} → A → Reading A
ok x = Ok x

pub ok_is : {A : Type 0} (x y : A) → ok x ≡ ok y → x ≡ y
ok_is x y e = cc

pub same_ok : {A : Type 0} (x y : A) (r : Reading A) → r ≡ Ok x → r ≡ Ok y → x ≡ y
same_ok x y r p q = cc

-- both readings gave values
pub both_ok : {A B : Type 0} (r : Reading A) (f : A → Reading B) (y : B) → and_then r f ≡ Ok y → (x : A) × (r ≡ Ok x) × (f x ≡ Ok y)
both_ok (Ok x) f y e = (x, refl, e)
both_ok (Err g) f y e = absurd cc

-- a test was met, where the reading fails else
pub test_ok : {A : Type 0} (b : Bool) (r : Reading A) (f : FormFault) (y : A) → (if b then r else Err f) ≡ Ok y → (b ≡ true) × (r ≡ Ok y)
test_ok true r f y e = (refl, e)
test_ok false r f y e = absurd cc

pub some_ok : {A : Type 0} (o : Option A) (f : FormFault) (x : A) → or_fail o (Err f) ≡ Ok x → o ≡ Some x
some_ok (Some y) f x e = cc
some_ok None f x e = absurd cc

pub same_some : {A : Type 0} (x y : A) → Some x ≡ Some y → x ≡ y
same_some x y e = cc

-- a value that was found is one of those that were searched
pub find_among : {A : Type 0} (P : A → Bool) (test : A → Bool) (xs : List A) (x : A) → list_all P xs ≡ true → find test xs ≡ Some x → P x ≡ true
find_among P test [] x all e = absurd cc
find_among P test (y ∷ ys) x all e = by (test y) e (find_among P test ys x (and_parts (P y) (list_all P ys) all).1)
  where
    by : (b : Bool) → cond b (Some y) (find test ys) ≡ Some x → (find test ys ≡ Some x → P x ≡ true) → P x ≡ true
    by true e later = ap P (sym (same_some y x e)) ∙ (and_parts (P y) (list_all P ys) all).0
    by false e later = later e
