-- What a reader that takes memory has given, and loops that read each of a list.
use Rattle.std.specs.Prelude.{◌≡◌, ◌⊎◌, List, [], ◌∷◌, ◌++◌, Result, Ok, Err, MatchResult}

-- a reader gave the view of its value, or the fault that was read, or that memory was refused
abbrev pub Gives : {X Y F : Type 0} → (F → Type 0) → (X → Y) → Result X F → Result Y F → Type 0
Gives NoMemory view result read = MatchResult result (λ x. read ≡ Ok (view x)) (λ f. NoMemory f ⊎ (read ≡ Err f))

-- the second reading of what the first gave, or the first one's fault
abbrev pub and_then : {A B F : Type 0} → Result A F → (A → Result B F) → Result B F
and_then (Ok a) f = f a
and_then (Err e) f = Err e

-- what each gives, in order, where `next` says what those after it are read by; or the first fault
unfoldable pub each_from : {S A B F : Type 0} → (S → A → Result B F) → (S → A → S) → S → List A → Result (List B) F
each_from f next s [] = Ok []
each_from f next s (x ∷ xs) = and_then (f s x) (λ b. and_then (each_from f next (next s x) xs) (λ bs. Ok (b ∷ bs)))

-- what was read before, in front of what is read now
abbrev pub with_front : {B F : Type 0} → List B → Result (List B) F → Result (List B) F
with_front front (Ok bs) = Ok (front ++ bs)
with_front front (Err e) = Err e
