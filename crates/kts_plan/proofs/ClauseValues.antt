-- The truth of a clause in a space, and on a schedule that the space holds.
use Rattle.std.proofs.Common.{◌≡◌, refl, sym, ap, ◌∙◌, inl, inr, ℕ, ℤ, List, [], ◌∷◌, ◌++◌, map, fold, filter, Bool, true, false, not, ◌&&◌, ◌||◌, cond}
use Rattle.std.specs.List.{range_with_len}
use Rattle.std.proofs.lemmas.Bool.{true≢false}
use Rattle.kts_spec.specs.Domain.{over}
use Rattle.kts_spec.specs.Meaning.{on_schedule, truth_on}
use Rattle.kts_spec.specs.Related.{Pairs}
use Rattle.kts_spec.specs.Worlds.{World, size_of}
use Rattle.kts_abs.specs.declared.truth.Tri.{Tri}
use Rattle.kts_abs.specs.declared.truth.Tri.TheVariants.{F, U, T}
use Rattle.kts_abs.specs.InSpace.{in_space, truth_in}
use Rattle.kts_abs.specs.Spaces.{holds}
use Rattle.kts_abs.specs.Truth.{may_be, certain, and_of, or_of}
use Rattle.kts_abs.specs.Values.{Abs, IsOne}
use Rattle.kts_abs.proofs.Kleene.{ands, ors, nots}
use Rattle.kts_abs.proofs.Listed.{In}
use Rattle.kts_abs.proofs.Sound.{truth_sound}
use Rattle.kts_clause.specs.declared.clause.Clause.{Clause}
use Rattle.kts_clause.specs.declared.literal.Literal.{Literal}
use Rattle.kts_clause.specs.ClauseTruth.{signed, literal_truth, some_true}
use Rattle.kts_plan.specs.Asks.{is_false, literal_in}
use Rattle.kts_plan.specs.Walks.{clause_in, residual_clauses, passes}
use Rattle.kts_plan.specs.Plans.{is_residual}
use Rattle.kts_plan.proofs.KeptSchedules.{clause_on}
use Rattle.kts_plan.proofs.NumberedItems.{in_list_all}
use Rattle.kts_plan.proofs.SingleSpaces.{literal_exact}

-- a relation of truth values in a space and on a schedule that the operations keep, and that literals have
record KeepsTruths (w : World) (t : List Abs) (ns : List ℤ) (S : Tri → Bool → Type 0) : Type 0 where
  either : (p q : Tri) (b c : Bool) → S p b → S q c → S (or_of p q) (b || c)
  both : (p q : Tri) (b c : Bool) → S p b → S q c → S (and_of p q) (b && c)
  yes : S T true
  no : S F false
  literal : (vars : List ℕ) (l : Literal) → S (literal_in w t vars l) (literal_truth (size_of w) (on_schedule w ns) vars l)

module _ (w : World) (t : List Abs) (ns : List ℤ) (S : Tri → Bool → Type 0) (keeps : KeepsTruths w t ns S) where
  some_keeps : (ls : List Literal) (vars : List ℕ) (p : Tri) (b : Bool) → S p b → S (fold or_of p (map (literal_in w t vars) ls)) (fold ◌||◌ b (map (literal_truth (size_of w) (on_schedule w ns) vars) ls))
  some_keeps [] vars p b h = h
  some_keeps (l ∷ ls) vars p b h =
      some_keeps ls vars (or_of p (literal_in w t vars l)) (b || literal_truth (size_of w) (on_schedule w ns) vars l) (keeps.either p (literal_in w t vars l) b (literal_truth (size_of w) (on_schedule w ns) vars l) h (keeps.literal vars l))

  each_keeps : (f : ℕ → Tri) (g : ℕ → Bool) (ms : List ℕ) (p : Tri) (b : Bool) → S p b → ((m : ℕ) → S (f m) (g m)) → S (fold and_of p (map f ms)) (fold ◌&&◌ b (map g ms))
  each_keeps f g [] p b h k = h
  each_keeps f g (m ∷ ms) p b h k = each_keeps f g ms (and_of p (f m)) (b && g m) (keeps.both p (f m) b (g m) h (k m)) k

  over_keeps : (f : List ℕ → Tri) (g : List ℕ → Bool) (sizes vars : List ℕ) → ((vs : List ℕ) → S (f vs) (g vs)) → S (over and_of T sizes f vars) (over ◌&&◌ true sizes g vars)
  over_keeps f g [] vars k = k vars
  over_keeps f g (n ∷ sizes) vars k =
      each_keeps (λ m. over and_of T sizes f (vars ++ m ∷ [])) (λ m. over ◌&&◌ true sizes g (vars ++ m ∷ [])) (range_with_len 0 n) T true keeps.yes (λ m. over_keeps f g sizes (vars ++ m ∷ []) k)

  clause_keeps : (c : Clause) → S (clause_in w t c) (clause_on w ns c)
  clause_keeps c =
      over_keeps (some_true (size_of w) (in_space w t) c.literals) (some_true (size_of w) (on_schedule w ns) c.literals) (map (size_of w) c.prefix) []
      (λ vars. some_keeps c.literals vars F false keeps.no)

-- ---- what may be

module _ (w : World) (t : List Abs) (ns : List ℤ) (held : holds t ns ≡ true) where
  sign_sound : (b : Bool) (p : Tri) (c : Bool) → may_be p c ≡ true → may_be (signed (size_of w) (in_space w t) b p) (signed (size_of w) (on_schedule w ns) b c) ≡ true
  sign_sound true p c h = nots.sound p c h
  sign_sound false p c h = h

  sound : KeepsTruths w t ns (λ p b. may_be p b ≡ true)
  sound = record {
    either = λ p q b c h k. ors.sound p q b c h k;
    both = λ p q b c h k. ands.sound p q b c h k;
    yes = refl;
    no = refl;
    literal = λ vars l. sign_sound l.negative (truth_in w t l.formula vars) (truth_on w ns l.formula vars) (truth_sound w t ns held l.formula vars);
  }

  not_false : (p : Tri) (b : Bool) → may_be p b ≡ true → b ≡ true → not (is_false p) ≡ true
  not_false F b h e = absurd (true≢false (sym h ∙ ap not e))
  not_false U b h e = refl
  not_false T b h e = refl

  -- a clause that is true on a schedule is not false in a space that holds it
  pub true_clause : (c : Clause) → clause_on w ns c ≡ true → not (is_false (clause_in w t c)) ≡ true
  true_clause c e = not_false (clause_in w t c) (clause_on w ns c) (clause_keeps w t ns (λ p b. may_be p b ≡ true) sound c) e

-- ---- a single space

module _ (w : World) (t : List Abs) (ns : List ℤ) (one : Pairs IsOne ns t) where
  either_certain : (p q : Tri) (b c : Bool) → p ≡ certain b → q ≡ certain c → or_of p q ≡ certain (b || c)
  either_certain p q true c h k = rw h refl
  either_certain p q false c h k = rw h k

  both_certain : (p q : Tri) (b c : Bool) → p ≡ certain b → q ≡ certain c → and_of p q ≡ certain (b && c)
  both_certain p q true c h k = rw h k
  both_certain p q false c h k = rw h refl

  exact : KeepsTruths w t ns (λ p b. p ≡ certain b)
  exact = record {
    either = either_certain;
    both = both_certain;
    yes = refl;
    no = refl;
    literal = λ vars l. literal_exact w ns t one vars l;
  }

  certain_true : (p : Tri) (b : Bool) → p ≡ certain b → not (is_false p) ≡ true → b ≡ true
  certain_true p true e h = refl
  certain_true p false e h = absurd (true≢false (sym h ∙ ap (λ q. not (is_false q)) e))

  -- a clause that is not false there is true
  pub clause_not_false : (c : Clause) → not (is_false (clause_in w t c)) ≡ true → clause_on w ns c ≡ true
  clause_not_false c h = certain_true (clause_in w t c) (clause_on w ns c) (clause_keeps w t ns (λ p b. p ≡ certain b) exact c) h

-- ---- residual clauses

pub filter_in : {X : Type 0} (f : X → Bool) (xs : List X) (x : X) → In x (filter f xs) → In x xs × (f x ≡ true)
filter_in f [] x h = absurd h
filter_in {X} f (y ∷ xs) x h = by (λ i. filter_in f xs x i) (f y) refl h
  where
    by : (In x (filter f xs) → In x xs × (f x ≡ true)) → (b : Bool) → f y ≡ b → In x (cond b (y ∷ filter f xs) (filter f xs)) → In x (y ∷ xs) × (f x ≡ true)
    by later true e (inl i) = (inl i, ap f i ∙ e)
    by later true e (inr i) = let r = later i in (inr r.0, r.1)
    by later false e i = let r = later i in (inr r.0, r.1)

pub in_filter : {X : Type 0} (f : X → Bool) (xs : List X) (x : X) → In x xs → f x ≡ true → In x (filter f xs)
in_filter f [] x h e = absurd h
in_filter {X} f (y ∷ xs) x h e = by (λ i. in_filter f xs x i e) (f y) refl h
  where
    by : (In x xs → In x (filter f xs)) → (b : Bool) → f y ≡ b → In x (y ∷ xs) → In x (cond b (y ∷ filter f xs) (filter f xs))
    by later true g (inl i) = inl i
    by later true g (inr i) = inr (later i)
    by later false g (inl i) = absurd (true≢false (sym e ∙ ap f i ∙ g))
    by later false g (inr i) = later i

-- where every clause is true on a schedule, none is false in a space that holds it
pub true_passes : (w : World) (clauses : List Clause) (t : List Abs) (ns : List ℤ) → holds t ns ≡ true → ((c : Clause) → In c clauses → clause_on w ns c ≡ true) → passes w clauses t ≡ true
true_passes w clauses t ns held all =
    in_list_all (λ c. not (is_false (clause_in w t c))) (residual_clauses clauses) (λ c i. true_clause w t ns held c (all c (filter_in is_residual clauses c i).0))
