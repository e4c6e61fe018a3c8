-- The places of a pattern, one after another.
use Rattle.std.proofs.Common.{◌≡◌, ◌∙◌, ap, ℕ, ◌+◌, ◌<◌, ◌≤◌, List, [], ◌∷◌, ◌++◌, length, drop, get_or, Option, Result, Ok, Err, arith}
use Rattle.std.proofs.lemmas.List.{get_or_default}
use Rattle.kts_base.specs.Reads.{each_from, with_front}
use Rattle.kts_base.proofs.Each.{each_fails, each_on, each_done}
use Rattle.kts_read.specs.ConstraintLines.{place_in, places_in}
use Rattle.kts_read.specs.Words.{word}
use Rattle.kts_read.specs.declared.fault.CodeKind.{CodeKind}
use Rattle.kts_read.proofs.OperandWords.{with_nothing}

module _ (prefix : List ℕ) (words : List (List ℕ)) where
  -- the places from this word on
  abbrev pub places_at : ℕ → List ℕ → Result (List (Option ℕ)) CodeKind
  places_at = each_from (λ k index. place_in prefix index (word words k)) (λ k (index : ℕ). k + 1)

  module _ (args : List ℕ) where
    pub places_begin : with_front [] (places_at 3 args) ≡ places_in prefix args words
    unfolding places_in
    places_begin = with_nothing (places_at 3 args)

    pub places_fail : (front : List (Option ℕ)) (k : ℕ) (kind : CodeKind) (d : ℕ) → k < length args → place_in prefix (get_or args k d) (get_or words (k + 3) []) ≡ Err kind
        → with_front front (places_at (k + 3) (drop k args)) ≡ places_in prefix args words → places_in prefix args words ≡ Err kind
    places_fail front k kind d h is so_far = each_fails _ _ (k + 3) args k (get_or args k d) front kind _ h (get_or_default args k d (get_or args k d) h) is so_far

    pub places_go_on : (front : List (Option ℕ)) (k : ℕ) (place : Option ℕ) (d : ℕ) → k < length args → place_in prefix (get_or args k d) (get_or words (k + 3) []) ≡ Ok place
        → with_front front (places_at (k + 3) (drop k args)) ≡ places_in prefix args words
        → with_front (front ++ place ∷ []) (places_at (k + 1 + 3) (drop (k + 1) args)) ≡ places_in prefix args words
    places_go_on front k place d h is so_far =
        let next : k + 1 + 3 ≡ k + 3 + 1 = omega arith in
        ap (λ (at : ℕ). with_front (front ++ place ∷ []) (places_at at (drop (k + 1) args))) next
        ∙ each_on _ _ (k + 3) args k (get_or args k d) front place _ h (get_or_default args k d (get_or args k d) h) is so_far

    pub places_end : (front : List (Option ℕ)) (k : ℕ) → length args ≤ k → with_front front (places_at (k + 3) (drop k args)) ≡ places_in prefix args words → places_in prefix args words ≡ Ok front
    places_end front k h so_far = each_done _ _ (k + 3) args k front _ h so_far
