-- What windows keep, by their ends.
use Rattle.std.proofs.Common.{◌≡◌, ◌∙◌, ap, ℤ, ◌≤ℤ◌, arith}
use Rattle.std.proofs.lemmas.Int.{ints}
use Rattle.kts_abs.specs.Abstraction.{Finer, Only, Abstracts}
use Rattle.kts_abs.specs.Windows.{Window, in_window}
use Rattle.kts_abs.specs.WindowLaws.{Lies, lies, lying, low_end, high_end, only_at, only_ends}

-- the first is not empty, and lies in the second
pub record Inside (v w : Window) : Type 0 where
  pub solid : v.0 ≤ℤ v.1
  pub low : w.0 ≤ℤ v.0
  pub high : v.1 ≤ℤ w.1

-- what is finer lies inside, by the ends
pub inside_from : (v w : Window) → Finer in_window v w → Inside v w
inside_from v w f =
    let n = lies v f.witness f.allowed in
    let s : v.0 ≤ℤ v.1 = omega (arith, ints) in
    record { solid = s; low = (lies w v.0 (f.within v.0 (low_end v s))).low; high = (lies w v.1 (f.within v.1 (high_end v s))).high }

-- what lies inside is finer
pub finer_from : (v w : Window) → Inside v w → Finer in_window v w
finer_from v w i = record {
  witness = v.0;
  allowed = low_end v i.solid;
  within = λ n h. let l = lies v n h in lying w n (record { low = omega (arith, ints); high = omega (arith, ints) });
}

-- ends that are the same are one window
pub pair_is : (v w : Window) → v.0 ≡ w.0 → v.1 ≡ w.1 → v ≡ w
pair_is v w e f = ap (λ z. (z, v.1)) e ∙ ap (λ z. (w.0, z)) f

-- a window of one number has it as both ends
pub only_is : (w : Window) (n : ℤ) → Only in_window n w → w ≡ (n, n)
only_is w n o = let p = only_ends w n o in pair_is w (n, n) p.0 p.1

-- what is to be shown of the ends
pub record OnEnds (f : ℤ → ℤ → ℤ) (g : Window → Window → Window) : Type 0 where
  pub sound : (a b : Window) (x y : ℤ) → Lies a x → Lies b y → Lies (g a b) (f x y)
  pub monotone : (a c b d : Window) → Inside a c → Inside b d → Inside (g a b) (g c d)
  pub exact : (x y : ℤ) → g (x, x) (y, y) ≡ (f x y, f x y)

-- what the ends keep, the windows keep
pub abstracts : (f : ℤ → ℤ → ℤ) (g : Window → Window → Window) → OnEnds f g → Abstracts in_window in_window in_window f g
abstracts f g e = record {
  sound = λ a b x y h k. lying (g a b) (f x y) (e.sound a b x y (lies a x h) (lies b y k));
  monotone = λ a c b d h k. finer_from (g a b) (g c d) (e.monotone a c b d (inside_from a c h) (inside_from b d k));
  exact = λ a b x y h k.
      let s : g a b ≡ (f x y, f x y) = rw (only_is a x h, only_is b y k) (e.exact x y) in
      only_at (g a b) (f x y) (ap (λ z. z.0) s) (ap (λ z. z.1) s);
}
