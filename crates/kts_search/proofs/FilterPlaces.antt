-- Parts of instructions that stand in code.
use Rattle.std.proofs.Common.{◌≡◌, ℕ, ◌+◌, List, [], ◌∷◌, ◌++◌, length, Some, sym, ap, ◌∙◌, append_assoc, length-append}
use Rattle.std.specs.Prelude.{slice_get}
use Rattle.kts_code.specs.declared.instructions.Instr.{Instr}
use Rattle.kts_emit.specs.Pushes.{StandsAt}
use Rattle.kts_emit.proofs.CodeRuns.{stands}

module _ (code : List Instr) (place : ℕ) where
  pub front_stands : (a b : List Instr) → StandsAt code place (a ++ b) → StandsAt code place a
  front_stands a b h = record {
    before = h.before;
    behind = b ++ h.behind;
    whole = h.whole ∙ ap (λ l. h.before ++ l) (append_assoc a b h.behind);
    begins = h.begins;
  }

  pub back_stands : (a b : List Instr) → StandsAt code place (a ++ b) → StandsAt code (place + length a) b
  back_stands a b h = record {
    before = h.before ++ a;
    behind = h.behind;
    whole = h.whole ∙ ap (λ l. h.before ++ l) (append_assoc a b h.behind) ∙ sym (append_assoc h.before a (b ++ h.behind));
    begins = ap (λ n. n + length a) h.begins ∙ sym (length-append h.before a);
  }

  pub next_stands : (i : Instr) (is : List Instr) → StandsAt code place (i ∷ is) → StandsAt code (place + 1) is
  next_stands i is h = back_stands (i ∷ []) is h

  pub first_is : (i : Instr) (is : List Instr) → StandsAt code place (i ∷ is) → slice_get code place ≡ Some i
  first_is i is h = (stands code place (i ∷ is) h).0
