-- Where an item stands in lists that are joined end to end.
use Rattle.std.proofs.Common.{◌≡◌, refl, sym, ◌∙◌, ap, ⊎_elim, ℕ, zero, suc, ◌+◌, ◌-◌, ◌<◌, ◌≤◌, arith, List, [], ◌∷◌, ◌++◌, length, take, Some, None, length-append}
use Rattle.std.specs.Prelude.{slice_get}
use Rattle.std.specs.List.{flat_map}
use Rattle.std.proofs.lemmas.Bool.{cases_lt}
use Rattle.std.proofs.lemmas.Option.{slice_get_within}

-- an item of the first list, and of the second
get_first : {X : Type 0} (xs ys : List X) (k : ℕ) → k < length xs → slice_get (xs ++ ys) k ≡ slice_get xs k
get_first [] ys k h = absurd (omega arith)
get_first (x ∷ xs) ys zero h = refl
get_first (x ∷ xs) ys (suc k) h = get_first xs ys k (omega arith)

get_second : {X : Type 0} (xs ys : List X) (k j : ℕ) → k ≡ length xs + j → slice_get (xs ++ ys) k ≡ slice_get ys j
get_second [] ys k j e = let f : k ≡ j = omega (arith, e) in ap (slice_get ys) f
get_second (x ∷ xs) ys zero j e = absurd (omega (arith, e))
get_second (x ∷ xs) ys (suc k) j e = get_second xs ys k j (omega (arith, e))

-- the item at a place of joined pieces: which piece has it, and where
pub record InPiece {X A : Type 0} (f : X → List A) (xs : List X) (k : ℕ) (a : A) : Type 0 where
  pub piece : ℕ
  pub place : ℕ
  pub source : X
  pub stands : slice_get xs piece ≡ Some source
  pub is : slice_get (f source) place ≡ Some a
  pub sum : k ≡ length (flat_map f (take piece xs)) + place

-- an item of a piece stands after all earlier pieces
pub in_joined : {X A : Type 0} (f : X → List A) (xs : List X) (i j : ℕ) (x : X) (a : A) → slice_get xs i ≡ Some x → slice_get (f x) j ≡ Some a → slice_get (flat_map f xs) (length (flat_map f (take i xs)) + j) ≡ Some a
in_joined f [] i j x a e g = absurd (let none : None ≡ Some x = e in cc)
in_joined f (y ∷ xs) zero j x a e g =
    let same : y ≡ x = cc in
    let g' : slice_get (f y) j ≡ Some a = ap (λ z. slice_get (f z) j) same ∙ g in
    let at : 0 + j ≡ j = omega arith in
    ap (slice_get (f y ++ flat_map f xs)) at ∙ get_first (f y) (flat_map f xs) j (slice_get_within (f y) j a g') ∙ g'
in_joined f (y ∷ xs) (suc i) j x a e g =
    get_second (f y) (flat_map f xs) (length (f y ++ flat_map f (take i xs)) + j) (length (flat_map f (take i xs)) + j) (omega (arith, length-append (f y) (flat_map f (take i xs))))
    ∙ in_joined f xs i j x a e g

-- an item of joined pieces is in one of them
pub piece_of : {X A : Type 0} (f : X → List A) (xs : List X) (k : ℕ) (a : A) → slice_get (flat_map f xs) k ≡ Some a → InPiece f xs k a
piece_of f [] k a e = absurd (let none : None ≡ Some a = e in cc)
piece_of f (x ∷ xs) k a e =
    ⊎_elim
    (λ (h : k < length (f x)). record { piece = 0; place = k; source = x; stands = refl; is = sym (get_first (f x) (flat_map f xs) k h) ∙ e; sum = omega arith })
    (λ (h : length (f x) ≤ k). later (piece_of f xs (k - length (f x)) a (sym (get_second (f x) (flat_map f xs) k (k - length (f x)) (omega arith)) ∙ e)) h)
    (cases_lt k (length (f x)))
  where
    later : InPiece f xs (k - length (f x)) a → length (f x) ≤ k → InPiece f (x ∷ xs) k a
    later p h = record {
      piece = suc p.piece;
      place = p.place;
      source = p.source;
      stands = p.stands;
      is = p.is;
      sum = let e = p.sum in let l = length-append (f x) (flat_map f (take p.piece xs)) in omega (arith, e, l);
    }
