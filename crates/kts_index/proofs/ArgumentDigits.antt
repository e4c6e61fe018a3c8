-- Skips for one argument of a pattern: its variable is a digit of the tuple's number.
use Rattle.std.proofs.Common.{◌≡◌, refl, sym, ap, ◌∙◌, ℕ, zero, suc, ◌+◌, ◌-◌, ◌*◌, ◌/◌, ◌%◌, ◌<◌, ◌≤◌, inl, inr, List, [], ◌∷◌, length, map, take, drop, get_or, slice_index, add-one, length-drop, false, nat_eq, Some, arith}
use Rattle.std.proofs.lemmas.Bool.{ne_eqb}
use Rattle.std.proofs.lemmas.List.{length-map, drop-map, get_or-map, take_all}
use Rattle.std.proofs.Math.Nat.{mul_assoc, mul_comm, one-mul, zero-mul, mul-zero, mod-lt, le-mul_of_pos_right, eq-zero-or-pos}
use Rattle.kts_base.specs.Limits.{most_tasks}
use Rattle.kts_spec.specs.Places.{count_of}
use Rattle.kts_spec.specs.declared.instance.Instance.{Instance}
use Rattle.kts_index.specs.FirstNumbers.{IsSkip}
use Rattle.kts_index.specs.Pairs.{has_member, argument_agrees}
use Rattle.kts_index.specs.TupleNumbers.{sizes_in, tuple_at}
use Rattle.kts_index.proofs.Skips.{same_skip, never}

-- whether a tuple has a member at a place, by a digit of its number
has_member-tuple : (xs : List ℕ) (x k m : ℕ) → k < length xs → has_member (tuple_at xs x) k m ≡ nat_eq (x / count_of (drop (suc k) xs) % get_or xs k 0) m
has_member-tuple [] x k m h = absurd (omega arith)
has_member-tuple (n ∷ xs) x zero m h = refl
has_member-tuple (n ∷ xs) x (suc k) m h = has_member-tuple xs x k m (omega arith)

-- it has none past its end
has_member-outside : (xs : List ℕ) (x k m : ℕ) → length xs ≤ k → has_member (tuple_at xs x) k m ≡ false
has_member-outside [] x k m h = refl
has_member-outside (n ∷ xs) x zero m h = absurd (omega arith)
has_member-outside (n ∷ xs) x (suc k) m h = has_member-outside xs x k m (omega arith)

-- the number of tuples, by the places before one, that one and those after it
factors : (xs : List ℕ) (k : ℕ) → k < length xs → count_of xs ≡ count_of (take k xs) * (get_or xs k 0 * count_of (drop (suc k) xs))
factors [] k h = absurd (omega arith)
factors (n ∷ xs) zero h = sym (one-mul (n * count_of xs))
factors (n ∷ xs) (suc k) h = rw (factors xs k (omega arith)) (sym (mul_assoc n (count_of (take k xs)) (get_or xs k 0 * count_of (drop (suc k) xs))))

-- a factor of a positive number
pub record IsFactor (b c : ℕ) : Type 0 where
  pub positive : 0 < b
  pub at_most : b ≤ c

-- of a product of two
factor_of : (a b c : ℕ) → c ≡ a * b → 0 < c → IsFactor b c
factor_of a b c e h =
    elim (eq-zero-or-pos a) [
      | inl z ↦ absurd (let f : c ≡ 0 = e ∙ rw z (zero-mul b) in omega arith)
      | inr p ↦ elim (eq-zero-or-pos b) [
        | inl z ↦ absurd (let f : c ≡ 0 = e ∙ rw z (mul-zero a) in omega arith)
        | inr q ↦ record { positive = q; at_most = let m = le-mul_of_pos_right b p in omega (arith, mul_comm a b) }
      ]
    ]

-- a place of a prefix: how many members it has, and how many tuples those after it
module _ (inst : Instance) (prefix : List ℕ) (k : ℕ) (inside : k < length prefix) where
  -- the members of the index of this variable
  abbrev base : ℕ
  base = slice_index (map length inst.members) (get_or prefix k 0)

  -- the tuples for the variables after it
  abbrev width : ℕ
  width = count_of (sizes_in inst (drop (suc k) prefix))

  -- the variable is among all
  inside_sizes : k < length (sizes_in inst prefix)
  inside_sizes = rw (length-map prefix (slice_index (map length inst.members))) inside

  -- the members of the index, among all sizes
  base_is : get_or (sizes_in inst prefix) k 0 ≡ base
  base_is = get_or-map (slice_index (map length inst.members)) prefix k 0 0 inside

  -- and the tuples for the variables after it
  width_is : count_of (drop (suc k) (sizes_in inst prefix)) ≡ width
  width_is = ap count_of (drop-map (slice_index (map length inst.members)) (suc k) prefix)

  -- the numbers in which the digit takes each value once
  pub block : 0 < count_of (sizes_in inst prefix) → IsFactor (base * width) (count_of (sizes_in inst prefix))
  block h = factor_of (count_of (take k (sizes_in inst prefix))) (base * width) (count_of (sizes_in inst prefix))
      (rw (← base_is, ← width_is) (factors (sizes_in inst prefix) k inside_sizes)) h

  -- the variables after it, as a slice of all
  width_taken : count_of (sizes_in inst (take (length prefix - (k + 1)) (drop (k + 1) prefix))) ≡ width
  width_taken = rw (take_all (length prefix - (k + 1)) (drop (k + 1) prefix) (omega (arith, length-drop (k + 1) prefix)), add-one) refl

  -- where there is a tuple, there is a member
  pub base_positive : 0 < count_of (sizes_in inst prefix) → 0 < base
  base_positive h = elim (eq-zero-or-pos base) [
    | inl z ↦ absurd (let b = (block h).positive in let e : base * width ≡ 0 = rw z (zero-mul width) in omega arith)
    | inr p ↦ p
  ]

  -- and a tuple for the variables after it
  pub width_positive : 0 < count_of (sizes_in inst prefix) → 0 < count_of (sizes_in inst (take (length prefix - (k + 1)) (drop (k + 1) prefix)))
  width_positive h = rw width_taken (elim (eq-zero-or-pos width) [
    | inl z ↦ absurd (let b = (block h).positive in let e : base * width ≡ 0 = rw z (mul-zero base) in omega arith)
    | inr p ↦ p
  ])

  -- such a block has no more numbers than there are tasks
  pub block_few : (c : ℕ) → 0 < c → c ≡ count_of (sizes_in inst prefix) → c ≤ most_tasks
      → base * count_of (sizes_in inst (take (length prefix - (k + 1)) (drop (k + 1) prefix))) ≤ most_tasks
  block_few c h e few = rw width_taken (let b = (block (rw e at h)).at_most in omega arith)

  -- a skip for the argument is one for its digit
  pub argument_skip : (m from next : ℕ) → IsSkip (λ x. nat_eq (x / width % base) m) from next
      → IsSkip (λ x. argument_agrees (tuple_at (sizes_in inst prefix) x) (Some k) m) from next
  argument_skip m from next s =
      same_skip (λ x. has_member-tuple (sizes_in inst prefix) x k m inside_sizes ∙ rw (base_is, width_is) refl) s

  -- with that slice
  pub argument_skip_taken : (m from next : ℕ) → IsSkip (λ x. nat_eq (x / count_of (sizes_in inst (take (length prefix - (k + 1)) (drop (k + 1) prefix))) % base) m) from next
      → IsSkip (λ x. argument_agrees (tuple_at (sizes_in inst prefix) x) (Some k) m) from next
  argument_skip_taken m from next s = argument_skip m from next (rw width_taken at s)

  -- nothing agrees with a member that is not there
  pub no_member : (m from next : ℕ) → 0 < base → base ≤ m → from < next
      → IsSkip (λ x. argument_agrees (tuple_at (sizes_in inst prefix) x) (Some k) m) from next
  no_member m from next p h l = argument_skip m from next
      (never (λ x. ne_eqb (x / width % base) m (λ e. let r = mod-lt (x / width) p in omega arith)) l)

-- nor with a place that is not there
pub no_place : (inst : Instance) (prefix : List ℕ) (k m from next : ℕ) → length prefix ≤ k → from < next
    → IsSkip (λ x. argument_agrees (tuple_at (sizes_in inst prefix) x) (Some k) m) from next
no_place inst prefix k m from next h l =
    never (λ x. has_member-outside (sizes_in inst prefix) x k m (rw (length-map prefix (slice_index (map length inst.members))) h)) l
