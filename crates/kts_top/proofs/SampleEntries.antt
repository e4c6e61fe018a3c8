-- Entries of the sample data, one after another.
use Rattle.std.proofs.Common.{◌≡◌, ◌∙◌, refl, ap, ℕ, ◌+◌, List, ◌++◌, append_assoc, add-one}
use Rattle.kts_top.specs.SampleFiles.{entries_text, entry_text, separator}
use Rattle.kts_top.specs.declared.sample_texts.Entry.{Entry}

-- one entry more
pub next_entry : (entry : Entry) (k : ℕ) (old middle new : List ℕ) → middle ≡ old ++ entries_text entry k
    → new ≡ middle ++ (separator k ++ entry_text entry (k + 1)) → new ≡ old ++ entries_text entry (k + 1)
next_entry entry k old middle new before next =
    let here : List ℕ = separator k ++ entry_text entry (k + 1) in
    let more : entries_text entry (k + 1) ≡ entries_text entry k ++ here = rw add-one refl in
    rw more (next ∙ ap (λ (t : List ℕ). t ++ here) before ∙ append_assoc old (entries_text entry k) here)
