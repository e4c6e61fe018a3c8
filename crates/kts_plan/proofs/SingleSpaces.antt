-- The space of one schedule: what it asks is what the schedule says.
use Rattle.std.proofs.Common.{◌≡◌, refl, sym, ap, ◌∙◌, subst, ⊎_elim, ℕ, zero, suc, ◌<◌, ℤ, pos, ◌+ℤ◌, ◌-ℤ◌, ◌≤ℤ◌, int_lt, List, [], ◌∷◌, map, fold, length, Bool, true, false, ◌||◌, Option, Some, None, cond, arith}
use Rattle.std.specs.Prelude.{option_map}
use Rattle.std.specs.List.{list_all}
use Rattle.std.proofs.lemmas.Int.{ints}
use Rattle.std.proofs.lemmas.Bool.{and_parts, and_from, true≢false}
use Rattle.kts_base.proofs.Orders.{int_le_yes}
use Rattle.kts_spec.specs.declared.tree.Term.{Term}
use Rattle.kts_spec.specs.Meaning.{on_schedule, value_on, truth_on}
use Rattle.kts_spec.specs.Places.{lookup}
use Rattle.kts_spec.specs.Related.{Pairs}
use Rattle.kts_spec.specs.Worlds.{World, size_of}
use Rattle.kts_abs.specs.declared.demand.Op.{Op}
use Rattle.kts_abs.specs.declared.demand.Op.TheVariants.{AtLeast, AtMost, Within, Without}
use Rattle.kts_abs.specs.declared.truth.Tri.{Tri}
use Rattle.kts_abs.specs.Demands.{IsOnly, Meets}
use Rattle.kts_abs.specs.InSpace.{in_space, value_in, truth_in}
use Rattle.kts_abs.specs.Spaces.{holds, is_wide, split_cell}
use Rattle.kts_abs.specs.Truth.{certain, not_of}
use Rattle.kts_abs.specs.Values.{Abs, Win, Mem, allows, has, is_cell, ends_of, IsOne, window_of, members_of}
use Rattle.kts_abs.specs.Windows.{Window}
use Rattle.kts_abs.specs.WindowLaws.{lies}
use Rattle.kts_abs.proofs.Exact.{value_exact, truth_exact}
use Rattle.kts_abs.proofs.Rising.{has_head, has_cases}
use Rattle.kts_abs.proofs.Splits.{numbers_one}
use Rattle.kts_abs.proofs.WindowEnds.{pair_is}
use Rattle.kts_clause.specs.declared.literal.Literal.{Literal}
use Rattle.kts_clause.specs.ClauseTruth.{signed, literal_truth, some_true}
use Rattle.kts_plan.specs.declared.bound.Bound.{Bound}
use Rattle.kts_plan.specs.declared.bound.Bound.TheVariants.{Rest, Side}
use Rattle.kts_plan.specs.Asks.{is_false, with_addend, literal_in, all_false, sum_in, bound_in}
use Rattle.kts_plan.specs.Solutions.{cell_at}
use Rattle.kts_plan.proofs.AssertionTruths.{Fulfils, with_signed, bound_on}
use Rattle.kts_plan.proofs.NumberedItems.{fold_or}

-- ---- single cells

pub not_lt : (a b : ℤ) → int_lt a b ≡ false → a ≤ℤ b → a ≡ b
not_lt a b h l = let k : b ≤ℤ a = grind (arith, ints) in omega (arith, ints)

single_cell : (a : Abs) (n : ℤ) → is_cell a ≡ true → is_wide a ≡ false → allows a n ≡ true → IsOne n a
single_cell (Win v) n c s h =
    let l = lies v n h in
    let e = not_lt v.0 v.1 s (int_le_yes v.0 v.1 c) in
    let low = l.low in let high = l.high in
    pair_is v (n, n) (omega (arith, ints)) (omega (arith, ints))
single_cell (Mem []) n c s h = absurd (true≢false (sym c))
single_cell (Mem (m ∷ [])) n c s h = ap (λ k. k ∷ []) (⊎_elim (λ e. sym e) (λ z. absurd (true≢false (sym z))) (has_cases m [] n h))
single_cell (Mem (m ∷ (k ∷ ms))) n c s h = absurd (true≢false s)

pub none_split : (b : Bool) (o : Option ℕ) → cond b (Some 0) (option_map suc o) ≡ None → (b ≡ false) × (o ≡ None)
none_split true o e = cc
none_split false None e = (refl, refl)
none_split false (Some k) e = cc

-- a single space that holds a schedule stands for it alone
pub single_one : (t : List Abs) (ns : List ℤ) → list_all is_cell t ≡ true → split_cell t ≡ None → holds t ns ≡ true → Pairs IsOne ns t
single_one [] [] c s h = tt
single_one [] (n ∷ ns) c s h = absurd (true≢false (sym h))
single_one (a ∷ t) [] c s h = absurd (true≢false (sym h))
single_one (a ∷ t) (n ∷ ns) c s h =
    let p = and_parts (is_cell a) (list_all is_cell t) c in
    let q = and_parts (allows a n) (holds t ns) h in
    let r = none_split (is_wide a) (split_cell t) s in
    (single_cell a n p.0 r.0 q.0, single_one t ns p.1 r.1 q.1)

-- a value that stands for one number, as a window and as a list
window_one : (n : ℤ) (a : Abs) → IsOne n a → window_of a ≡ (n, n)
window_one n (Win v) h = h
window_one n (Mem ms) h = ap ends_of h

members_one : (n : ℤ) (a : Abs) → IsOne n a → members_of a ≡ n ∷ []
members_one n (Win v) h = ap (λ v. members_of (Win v)) h ∙ numbers_one n
members_one n (Mem ms) h = h

-- ---- literals and bounds

module _ (w : World) (ns : List ℤ) (u : List Abs) (one : Pairs IsOne ns u) (vars : List ℕ) where
  abbrev pub literal_on : Literal → Bool
  literal_on = literal_truth (size_of w) (on_schedule w ns) vars

  sign_exact : (b c : Bool) (p : Tri) → p ≡ certain c → signed (size_of w) (in_space w u) b p ≡ certain (signed (size_of w) (on_schedule w ns) b c)
  sign_exact true true p e = ap not_of e
  sign_exact true false p e = ap not_of e
  sign_exact false c p e = e

  pub literal_exact : (l : Literal) → literal_in w u vars l ≡ certain (literal_on l)
  literal_exact l = sign_exact l.negative (truth_on w ns l.formula vars) (truth_in w u l.formula vars) (truth_exact w u ns one l.formula vars)

  -- literals that are surely false are false
  false_is : (b : Bool) → is_false (certain b) ≡ true → b ≡ false
  false_is true e = absurd (true≢false (sym e))
  false_is false e = refl

  pub all_false_is : (ls : List Literal) → all_false w u vars ls ≡ true → some_true (size_of w) (on_schedule w ns) ls vars ≡ false
  all_false_is [] e = refl
  all_false_is (l ∷ ls) e =
      let p = and_parts (is_false (literal_in w u vars l)) (all_false w u vars ls) e in
      let a = false_is (literal_on l) (ap is_false (sym (literal_exact l)) ∙ p.0) in
      let b = all_false_is ls p.1 in
      fold_or (literal_on l) (map literal_on ls) ∙ ap (λ x. x || fold ◌||◌ false (map literal_on ls)) a ∙ b

  neither : (b c : Bool) → (b || c) ≡ false → (b ≡ false) × (c ≡ false)
  neither true c h = absurd (true≢false h)
  neither false c h = (refl, h)

  pub false_all : (ls : List Literal) → some_true (size_of w) (on_schedule w ns) ls vars ≡ false → all_false w u vars ls ≡ true
  false_all [] e = refl
  false_all (l ∷ ls) e =
      let p = neither (literal_on l) (fold ◌||◌ false (map literal_on ls)) (sym (fold_or (literal_on l) (map literal_on ls)) ∙ e) in
      and_from (is_false (literal_in w u vars l)) (all_false w u vars ls) (ap is_false (literal_exact l) ∙ ap (λ b. is_false (certain b)) p.0) (false_all ls p.1)

  abbrev twice : ℤ → Window
  twice n = (n, n)

  added_exact : (b : Bool) (m n : ℤ) → with_addend (twice m) b (twice n) ≡ twice (cond b (m -ℤ n) (m +ℤ n))
  added_exact true m n = refl
  added_exact false m n = refl

  sum_exact : (addends : List (Bool × Term)) (n : ℤ) → sum_in w u vars (twice n) addends ≡ twice (fold (with_signed w ns vars) n addends)
  sum_exact [] n = refl
  sum_exact (a ∷ addends) n =
      ap (λ v. sum_in w u vars (with_addend (twice n) a.0 v) addends) (window_one (value_on w ns a.1 vars) (value_in w u a.1 vars) (value_exact w u ns one a.1 vars))
      ∙ ap (λ v. sum_in w u vars v addends) (added_exact a.0 n (value_on w ns a.1 vars))
      ∙ sum_exact addends (with_signed w ns vars n a)

  pub bound_exact : (b : Bound) → IsOne (bound_on w ns vars b) (bound_in w u vars b)
  bound_exact (Rest addends) = sum_exact addends (pos 0)
  bound_exact (Side t) = value_exact w u ns one t vars

-- ---- cells

pub cell_one : (ns : List ℤ) (u : List Abs) (c : ℕ) → Pairs IsOne ns u → c < length u → IsOne (lookup ns (Some c) (pos 0)) (cell_at u c)
cell_one [] [] c h l = absurd (omega arith)
cell_one [] (a ∷ u) c h l = absurd h
cell_one (n ∷ ns) [] c h l = absurd h
cell_one (n ∷ ns) (a ∷ u) zero h l = h.0
cell_one (n ∷ ns) (a ∷ u) (suc c) h l = cell_one ns u c h.1 (omega arith)

one_member : (m n : ℤ) → has (m ∷ []) n ≡ true → n ≡ m
one_member m n h = ⊎_elim (λ e. e) (λ z. absurd (true≢false (sym z))) (has_cases m [] n h)

-- a number that fulfils an operation is a cell that meets the demand, and the other way round
pub fulfils_meets : (op : Op) (m n : ℤ) (b c : Abs) → IsOne m b → IsOne n c → Fulfils op m n → Meets (op, b) c
fulfils_meets AtLeast m n b c h k f =
    let i = ap (λ (v : Window). v.0) (window_one m b h) in let j = ap (λ (v : Window). v.0) (window_one n c k) in omega (arith, ints)
fulfils_meets AtMost m n b c h k f =
    let i = ap (λ (v : Window). v.1) (window_one m b h) in let j = ap (λ (v : Window). v.1) (window_one n c k) in omega (arith, ints)
fulfils_meets Within m n b c h k f = λ z e.
    let is = one_member n z (subst (λ zs. has zs z ≡ true) (members_one n c k) e) in
    subst (λ zs. has zs z ≡ true) (sym (members_one m b h)) (subst (λ y. has (y ∷ []) z ≡ true) (is ∙ f) (has_head z []))
fulfils_meets Without m n b c h k f = λ z only e.
    let is = one_member n z (subst (λ zs. has zs z ≡ true) (members_one n c k) e) in
    let alone = one_member m z (subst (λ zs. has zs z ≡ true) (members_one m b h) only.held) in
    f (sym is ∙ alone)

pub meets_fulfils : (op : Op) (m n : ℤ) (b c : Abs) → IsOne m b → IsOne n c → Meets (op, b) c → Fulfils op m n
meets_fulfils AtLeast m n b c h k f =
    let i = ap (λ (v : Window). v.0) (window_one m b h) in let j = ap (λ (v : Window). v.0) (window_one n c k) in omega (arith, ints)
meets_fulfils AtMost m n b c h k f =
    let i = ap (λ (v : Window). v.1) (window_one m b h) in let j = ap (λ (v : Window). v.1) (window_one n c k) in omega (arith, ints)
meets_fulfils Within m n b c h k f =
    one_member m n (subst (λ zs. has zs n ≡ true) (members_one m b h) (f n (subst (λ zs. has zs n ≡ true) (sym (members_one n c k)) (has_head n []))))
meets_fulfils Without m n b c h k f = λ e.
    let only : IsOnly (members_of b) m = record {
      held = subst (λ zs. has zs m ≡ true) (sym (members_one m b h)) (has_head m []);
      alone = λ z l. one_member m z (subst (λ zs. has zs z ≡ true) (members_one m b h) l);
    } in
    f m only (subst (λ zs. has zs m ≡ true) (sym (members_one n c k)) (subst (λ y. has (n ∷ []) y ≡ true) e (has_head n [])))
