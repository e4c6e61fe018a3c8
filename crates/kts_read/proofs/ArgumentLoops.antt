-- The arguments of a family, one after another.
use Rattle.std.proofs.Common.{◌≡◌, ℕ, ◌+◌, ◌<◌, ◌≤◌, List, [], ◌∷◌, ◌++◌, length, drop, get_or, Result, Ok, Err}
use Rattle.std.proofs.lemmas.List.{get_or_default}
use Rattle.kts_base.specs.Reads.{each_from, with_front}
use Rattle.kts_base.proofs.Each.{each_fails, each_on, each_done}
use Rattle.kts_read.specs.DeclarationLines.{index_at, args_from}
use Rattle.kts_read.specs.declared.fault.CodeKind.{CodeKind}
use Rattle.kts_read.proofs.OperandWords.{with_nothing}

abbrev pub args_at : ℕ → List (List ℕ) → Result (List ℕ) CodeKind
args_at indexes words = each_from (λ (u : ℕ) word. index_at indexes word) (λ u (word : List ℕ). u) 0 words

pub args_begin : (indexes from : ℕ) (words : List (List ℕ)) → with_front [] (args_at indexes (drop from words)) ≡ args_from indexes from words
unfolding args_from
args_begin indexes from words = with_nothing (args_at indexes (drop from words))

module _ (indexes from : ℕ) (words : List (List ℕ)) where
  here : (k : ℕ) → k < length words → get_or words k [] ≡ get_or words k (get_or words k [])
  here k h = get_or_default words k [] (get_or words k []) h

  pub args_fail : (front : List ℕ) (k : ℕ) (kind : CodeKind) → k < length words → index_at indexes (get_or words k []) ≡ Err kind → with_front front (args_at indexes (drop k words)) ≡ args_from indexes from words → args_from indexes from words ≡ Err kind
  args_fail front k kind h is so_far = each_fails _ _ 0 words k (get_or words k []) front kind _ h (here k h) is so_far

  pub args_go_on : (front : List ℕ) (k index : ℕ) → k < length words → index_at indexes (get_or words k []) ≡ Ok index → with_front front (args_at indexes (drop k words)) ≡ args_from indexes from words → with_front (front ++ index ∷ []) (args_at indexes (drop (k + 1) words)) ≡ args_from indexes from words
  args_go_on front k index h is so_far = each_on _ _ 0 words k (get_or words k []) front index _ h (here k h) is so_far

  pub args_end : (front : List ℕ) (k : ℕ) → length words ≤ k → with_front front (args_at indexes (drop k words)) ≡ args_from indexes from words → args_from indexes from words ≡ Ok front
  args_end front k h so_far = each_done _ _ 0 words k front _ h so_far
