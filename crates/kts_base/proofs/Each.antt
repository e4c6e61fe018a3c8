-- A loop that collects what each of a list gives, until the first fault.
use Rattle.std.proofs.Common.{◌≡◌, refl, sym, ◌∙◌, ap, ℕ, ◌+◌, ◌<◌, ◌≤◌, add-one, List, [], ◌∷◌, ◌++◌, length, drop, get_or, append_assoc, append-nil, Result, Ok, Err}
use Rattle.std.proofs.Math.Seq.{drop-cons}
use Rattle.std.proofs.lemmas.List.{drop_all}
use Rattle.kts_base.specs.Reads.{and_then, each_from, with_front}

module _ {S A B F : Type 0} (f : S → A → Result B F) (next : S → A → S) where
  each_here : (s : S) (xs : List A) (i : ℕ) (x : A) → i < length xs → x ≡ get_or xs i x
      → each_from f next s (drop i xs) ≡ and_then (f s x) (λ b. and_then (each_from f next (next s x) (drop (i + 1) xs)) (λ bs. Ok (b ∷ bs)))
  unfolding each_from
  each_here s xs i x h e = ap (each_from f next s) (drop-cons xs i x h) ∙ rw (← e, add-one) refl

  regroup : (front : List B) (b : B) (r : Result (List B) F) → with_front front (and_then r (λ bs. Ok (b ∷ bs))) ≡ with_front (front ++ b ∷ []) r
  regroup front b (Ok bs) = ap Ok (sym (append_assoc front (b ∷ []) bs))
  regroup front b (Err e) = refl

  -- the fault of one is the fault of all
  pub each_fails : (s : S) (xs : List A) (i : ℕ) (x : A) (front : List B) (e : F) (total : Result (List B) F) → i < length xs → x ≡ get_or xs i x → f s x ≡ Err e
      → with_front front (each_from f next s (drop i xs)) ≡ total → total ≡ Err e
  each_fails s xs i x front e total h is fails so_far =
      let p : each_from f next s (drop i xs) ≡ Err e = rw (each_here s xs i x h is, fails) refl in sym so_far ∙ ap (with_front front) p

  -- one more is read
  pub each_on : (s : S) (xs : List A) (i : ℕ) (x : A) (front : List B) (b : B) (total : Result (List B) F) → i < length xs → x ≡ get_or xs i x → f s x ≡ Ok b
      → with_front front (each_from f next s (drop i xs)) ≡ total → with_front (front ++ b ∷ []) (each_from f next (next s x) (drop (i + 1) xs)) ≡ total
  each_on s xs i x front b total h is ok so_far =
      let rest = each_from f next (next s x) (drop (i + 1) xs) in
      let p : each_from f next s (drop i xs) ≡ and_then rest (λ bs. Ok (b ∷ bs)) = rw (each_here s xs i x h is, ok) refl in
      sym (ap (with_front front) p ∙ regroup front b rest) ∙ so_far

  -- none is left
  pub each_done : (s : S) (xs : List A) (i : ℕ) (front : List B) (total : Result (List B) F) → length xs ≤ i
      → with_front front (each_from f next s (drop i xs)) ≡ total → total ≡ Ok front
  unfolding each_from
  each_done s xs i front total h so_far =
      sym so_far ∙ ap (λ (ys : List A). with_front front (each_from f next s ys)) (drop_all i xs h) ∙ ap Ok (append-nil front)
