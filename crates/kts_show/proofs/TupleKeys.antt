-- The names of the tuple at a place, where a family is over one index or two.
use Rattle.std.proofs.Common.{◌≡◌, refl, sym, ◌∙◌, ap, ℕ, zero, suc, ◌+◌, ◌*◌, ◌/◌, ◌%◌, ◌<◌, ◌≤◌, arith, List, [], ◌∷◌, ◌++◌, length, map, get_or, true, false, ◌&&◌, nat_le, nat_lt, pos, Some, slice_get, slice_index, slice_index_or, append-nil}
use Rattle.std.specs.Prelude.{◌==◌}
use Rattle.std.specs.List.{list_all}
use Rattle.std.proofs.lemmas.Bool.{and_parts}
use Rattle.std.proofs.lemmas.List.{get_or_read}
use Rattle.std.proofs.lemmas.Option.{get_or_from_slice_get}
use Rattle.std.proofs.Math.Nat.{div-lt_iff_lt-mul, div-add-mod}
use Rattle.kts_base.specs.Limits.{most_arguments, most_members}
use Rattle.kts_base.proofs.Orders.{nat_le_yes}
use Rattle.kts_spec.specs.declared.declarations.Family.{Family}
use Rattle.kts_spec.specs.declared.instance.Instance.{Instance}
use Rattle.kts_spec.specs.Places.{count_of}
use Rattle.kts_spec.specs.Schedules.{tuples}
use Rattle.kts_spec.specs.Schemas.{is_type}
use Rattle.kts_spec.specs.Texts.{comma, key_text}
use Rattle.kts_spec.proofs.TuplePlaces.{tuple_at}
use Rattle.kts_spec.proofs.TypedAccesses.{few_members}
use Rattle.kts_spec.proofs.TypedData.{member_in}
use Rattle.kts_show.specs.Keys.{IsOver}

-- the size of an index is how many names it has
pub size_is : (members : List (List (List ℕ))) (i : ℕ) → slice_index (map length members) i ≡ length (slice_index_or members i [])
size_is [] i = refl
size_is (names ∷ members) zero = refl
size_is (names ∷ members) (suc i) = size_is members i

pub few_arguments : (inst : Instance) (family : Family) → IsOver inst family → length family.args ≤ most_arguments
few_arguments inst family o =
    let n = length inst.members in
    let args = list_all (λ i. nat_lt i n) family.args in
    let front = and_parts (nat_le (length family.args) most_arguments && args) (is_type n family.kind) o.declared in
    nat_le_yes (length family.args) most_arguments (and_parts (nat_le (length family.args) most_arguments) args front.0).0

-- an index has few names
pub few_names : (inst : Instance) (family : Family) (i : ℕ) (names : List (List ℕ)) → IsOver inst family → names ≡ slice_index_or inst.members i [] → length names ≤ most_members
few_names inst family i names o e =
    let same : length names ≡ slice_index (map length inst.members) i = ap length e ∙ sym (size_is inst.members i) in
    let few = few_members inst.members i o.members in
    omega (arith, same, few)

pub kind_fits : (inst : Instance) (family : Family) → IsOver inst family → is_type (length inst.members) family.kind ≡ true
kind_fits inst family o =
    let n = length inst.members in
    (and_parts (nat_le (length family.args) most_arguments && list_all (λ i. nat_lt i n) family.args) (is_type n family.kind) o.declared).1

-- neither none nor one
pub two_or_more : (args : List ℕ) → (length args == 0) ≡ false → (length args ≡ 1 → ⊥) → 2 ≤ length args
two_or_more [] some h = absurd (let no : true ≡ false = some in cc)
two_or_more (i ∷ []) some h = absurd (h refl)
two_or_more (i ∷ (j ∷ args)) some h = omega arith

-- the names of the index at a place of the arguments
pub names_of : (members : List (List (List ℕ))) (args indexes : List ℕ) (names : List (List ℕ)) (k : ℕ) → indexes ≡ args → names ≡ slice_index_or members (slice_index indexes k) [] → names ≡ slice_index_or members (slice_index args k) []
names_of members args indexes names k same e = e ∙ ap (λ (args : List ℕ). slice_index_or members (slice_index args k) []) same

-- ---- places of tuples

some_second : (n m k : ℕ) → k < n * (m * 1) → 0 < m
some_second n zero k h = absurd (omega arith)
some_second n (suc m) k h = omega arith

pub first_below : (n m k : ℕ) → k < n * (m * 1) → k / m < n
first_below n m k h =
    let one : n * (m * 1) ≡ n * m = ap (λ c. n * c) (let e : m * 1 ≡ m = omega arith in e) in
    (div-lt_iff_lt-mul {k = m} {x = k} {y = n} (some_second n m k h)).1 (omega (arith, one))

pub second_below : (n m k : ℕ) → k < n * (m * 1) → k % m < m
second_below n m k h = let some = some_second n m k h in omega arith

sum_is : (q m r k : ℕ) → m * q + r ≡ k → q * (m * 1) + (r * 1 + 0) ≡ k
sum_is q m r k e = omega (arith, e)

pair_at : (n m k : ℕ) → k < n * (m * 1) → slice_get (tuples (n ∷ m ∷ [])) k ≡ Some (k / m ∷ k % m ∷ [])
pair_at n m k h =
    let first = member_in n (k / m) (let b = first_below n m k h in omega (arith, b)) in
    let second = member_in m (k % m) (let b = second_below n m k h in omega (arith, b)) in
    tuple_at (n ∷ m ∷ []) (pos (k / m) ∷ pos (k % m) ∷ []) k (rw (first, second) (ap (λ p. Some p) (sum_is (k / m) m (k % m) k (div-add-mod k m))))

single_at : (n k : ℕ) → k < n * 1 → slice_get (tuples (n ∷ [])) k ≡ Some (k ∷ [])
single_at n k h =
    let first = member_in n k (omega arith) in
    let sum : k * 1 + 0 ≡ k = omega arith in
    tuple_at (n ∷ []) (pos k ∷ []) k (rw first (ap (λ p. Some p) sum))

-- ---- their names

module _ (inst : Instance) where
  abbrev size : ℕ → ℕ
  size i = slice_index (map length inst.members) i

  abbrev at : List ℕ → ℕ → List ℕ
  at args k = slice_index_or (tuples (map size args)) k []

  -- the only name
  pub one_name : (args : List ℕ) (k : ℕ) (names : List (List ℕ)) (x : List ℕ) → length args ≡ 1 → k < count_of (map size args) → names ≡ slice_index_or inst.members (slice_index args 0) [] → x ≡ get_or names k x
      → x ++ ([] ++ []) ≡ key_text inst args (at args k)
  one_name [] k names x one h e r = absurd (omega (arith, one))
  one_name (i ∷ []) k names x one h e r =
      let n : size i ≡ length names = size_is inst.members i ∙ sym (ap length e) in
      let l : k < length names = omega (arith, n) in
      append-nil x ∙ get_or_read names k x l r [] ∙ ap (λ (ns : List (List ℕ)). slice_index_or ns k []) e
      ∙ ap (key_text inst (i ∷ [])) (sym (get_or_from_slice_get (tuples (size i ∷ [])) k (k ∷ []) [] (single_at (size i) k h)))
  one_name (i ∷ (j ∷ args)) k names x one h e r = absurd (omega (arith, one))

  -- a quotient is a place of the first index
  pub quotient_within : (args : List ℕ) (k : ℕ) (names more : List (List ℕ)) → 2 ≤ length args → length args ≤ 2 → k < count_of (map size args)
      → names ≡ slice_index_or inst.members (slice_index args 0) [] → more ≡ slice_index_or inst.members (slice_index args 1) [] → k / length more < length names
  quotient_within [] k names more two few h e f = absurd (omega (arith, two))
  quotient_within (i ∷ []) k names more two few h e f = absurd (omega (arith, two))
  quotient_within (i ∷ (j ∷ [])) k names more two few h e f =
      let n : size i ≡ length names = size_is inst.members i ∙ sym (ap length e) in
      let m : size j ≡ length more = size_is inst.members j ∙ sym (ap length f) in
      first_below (length names) (length more) k (rw (n, m) at h)
  quotient_within (i ∷ (j ∷ (k' ∷ args))) k names more two few h e f = absurd (omega (arith, few))

  -- both names
  pub two_names : (args : List ℕ) (k : ℕ) (names more : List (List ℕ)) (x y : List ℕ) → 2 ≤ length args → length args ≤ 2 → k < count_of (map size args)
      → names ≡ slice_index_or inst.members (slice_index args 0) [] → more ≡ slice_index_or inst.members (slice_index args 1) []
      → x ≡ get_or names (k / length more) x → y ≡ get_or more (k % length more) y
      → x ++ ((comma ∷ []) ++ y) ≡ key_text inst args (at args k)
  two_names [] k names more x y two few h e f r s = absurd (omega (arith, two))
  two_names (i ∷ []) k names more x y two few h e f r s = absurd (omega (arith, two))
  two_names (i ∷ (j ∷ [])) k names more x y two few h e f r s =
      let n : length more ≡ size j = ap length f ∙ sym (size_is inst.members j) in
      let l = quotient_within (i ∷ (j ∷ [])) k names more two few h e f in
      let m : k % length more < length more = rw (n) (second_below (size i) (size j) k h) in
      ap (λ (z : List ℕ). z ++ (comma ∷ y)) (get_or_read names (k / length more) x l r [] ∙ ap (λ (ns : List (List ℕ)). slice_index_or ns (k / length more) []) e)
      ∙ ap (λ (z : List ℕ). slice_index_or (slice_index_or inst.members i []) (k / length more) [] ++ (comma ∷ z)) (get_or_read more (k % length more) y m s [] ∙ ap (λ (ns : List (List ℕ)). slice_index_or ns (k % length more) []) f)
      ∙ ap (λ c. key_text inst (i ∷ (j ∷ [])) (k / c ∷ k % c ∷ [])) n
      ∙ ap (key_text inst (i ∷ (j ∷ []))) (sym (get_or_from_slice_get (tuples (size i ∷ size j ∷ [])) k (k / size j ∷ k % size j ∷ []) [] (pair_at (size i) (size j) k h)))
  two_names (i ∷ (j ∷ (k' ∷ args))) k names more x y two few h e f r s = absurd (omega (arith, few))
