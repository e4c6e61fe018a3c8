-- The patterns of a constraint, among all.
use Rattle.std.proofs.Common.{◌≡◌, ◌≢◌, refl, sym, ap, ◌∙◌, ℕ, zero, suc, ◌+◌, ◌-◌, ◌<◌, ◌≤◌, List, length, take, drop, get_or, false, arith, take-append-drop, length-take, length-drop, get_or-take, get_or-drop}
use Rattle.std.specs.List.{list_any}
use Rattle.std.proofs.lemmas.Bool.{ne_eqb}
use Rattle.std.proofs.lemmas.List.{get_or_default}
use Rattle.std.proofs.lemmas.List.Folds.{list_any_none, list_any-append}
use Rattle.kts_index.specs.declared.pattern.Pattern.{Pattern}
use Rattle.kts_index.specs.FirstNumbers.{IsFirst}
use Rattle.kts_index.proofs.Skips.{same_first, or_false}
use Rattle.kts_index.specs.PatternOrder.{AreInOrder, IsGroup}
use Rattle.kts_index.specs.TaskOrder.{Task}
use Rattle.kts_index.specs.Pairs.{agrees, is_paired}

module _ (ps : List Pattern) (x : ℕ) (cell : List ℕ) (task : Task) where
  -- a pattern of another constraint pairs nothing
  other : (p : Pattern) → p.definite ≢ task.definite → agrees x cell task p ≡ false
  other p n = rw (ne_eqb p.definite task.definite n) refl

  -- only the patterns of its group pair a task
  pub paired_in_group : (from end : ℕ) → IsGroup ps task.definite from end
      → is_paired ps x cell task ≡ is_paired (take (end - from) (drop from ps)) x cell task
  unfolding is_paired
  paired_in_group from end g =
      let test = agrees x cell task in
      let group = take (end - from) (drop from ps) in
      let rest = drop (end - from) (drop from ps) in
      let o = g.ordered in
      let w = g.within in
      let none_before : list_any test (take from ps) ≡ false = list_any_none test (take from ps)
      (λ k p h. let l : k < from = omega (arith, length-take from ps) in
      rw (get_or-take from ps k p l) (other (get_or ps k p) (let b = g.before k p l in λ e. omega arith))) in
      let none_after : list_any test rest ≡ false = list_any_none test rest
      (λ k p h. let l : from + (end - from + k) < length ps = omega (arith, length-drop (end - from) (drop from ps), length-drop from ps) in
      rw (get_or-drop (end - from) (drop from ps) k p, get_or-drop from ps (end - from + k) p)
      (other (get_or ps (from + (end - from + k)) p) (let b = g.after (from + (end - from + k)) p (omega arith) l in λ e. omega arith))) in
      ap (list_any test) (sym (take-append-drop from ps)) ∙ (list_any-append test (take from ps) (drop from ps) ∙ rw none_before
      (ap (list_any test) (sym (take-append-drop (end - from) (drop from ps))) ∙ (list_any-append test group rest ∙ rw none_after (or_false (list_any test group)))))

-- in patterns that are in order, those after one are of its constraint or later ones
definite_rises : (ps : List Pattern) → AreInOrder ps → (k : ℕ) (p q : Pattern) (n : ℕ) → k + n < length ps → (get_or ps k p).definite ≤ (get_or ps (k + n) q).definite
definite_rises ps r k p q zero h = let e : k + zero ≡ k = omega arith in rw (e, get_or_default ps k p q (omega arith)) (omega arith)
definite_rises ps r k p q (suc n) h =
    let before = definite_rises ps r k p p n (omega arith) in
    let step = r (k + n) p q (omega arith) in
    let e : k + suc n ≡ k + n + 1 = omega arith in
    rw e (omega arith)

-- a pattern of a later constraint, and all after it
pub all_after : (ps : List Pattern) → AreInOrder ps → (d k : ℕ) (p : Pattern) → k < length ps → d < (get_or ps k p).definite
    → (j : ℕ) (q : Pattern) → k ≤ j → j < length ps → d < (get_or ps j q).definite
all_after ps r d k p h l j q more less =
    let on = definite_rises ps r k p q (j - k) (omega arith) in
    let same : k + (j - k) ≡ j = omega arith in
    let f : (get_or ps k p).definite ≤ (get_or ps j q).definite = rw same at on in
    omega arith

-- the first patterns are in order
abbrev pub AreInOrderBelow : List Pattern → ℕ → Type 0
AreInOrderBelow ps n = (k : ℕ) (p q : Pattern) → k + 1 < n → (get_or ps k p).definite ≤ (get_or ps (k + 1) q).definite

-- the first task that a pattern of the group pairs is the first that a pattern pairs
pub first_in_group : (ps : List Pattern) (x : ℕ) (cell : List ℕ) {d : ℕ} (tuple : ℕ → List ℕ) (from end a b found : ℕ) → IsGroup ps d from end
    → IsFirst (λ p. is_paired (take (end - from) (drop from ps)) x cell (record { definite = d; tuple = tuple p })) a b found
    → IsFirst (λ p. is_paired ps x cell (record { definite = d; tuple = tuple p })) a b found
first_in_group ps x cell {d = d} tuple from end a b found g f = same_first (λ p. paired_in_group ps x cell (record { definite = d; tuple = tuple p }) from end g) f
