-- Lines that are read to a draft.
use Rattle.std.proofs.Common.{◌≡◌, refl, sym, ◌∙◌, ap, subst, ℕ, ◌+◌, List, [], ◌∷◌, ◌++◌, append_assoc, append-nil, length, length-append, map, Ok, arith}
use Rattle.std.specs.List.{AllByRecursion}
use Rattle.kts_read.specs.Lines.{line_of}
use Rattle.kts_read.specs.Reading.{nothing, words_line, line_step, read_from}
use Rattle.kts_read.specs.Written.{AllWords}
use Rattle.kts_read.specs.declared.draft.Draft.{Draft}
use Rattle.kts_read.specs.declared.draft.Part.TheVariants.{Header}
use Rattle.kts_read.proofs.Cleans.{AreClean, clean_line, words_again, no_end_of_line}
use Rattle.kts_read.proofs.Joins.{Pieces, Without}
use Rattle.kts_read.proofs.MoreDeclarations.{map_more}
use Rattle.kts_read.proofs.ReadLines.{on_pieces, step_words}

-- a line leads from one draft to another, whatever its number
pub record Leads (d : Draft) (words : List (List ℕ)) (e : Draft) : Type 0 where
  pub steps : (at : ℕ) → line_step at d (line_of words) ≡ Ok e
  pub whole : Without 10 (line_of words)

-- no line has a line's end in it
abbrev pub AreWhole : AllWords → Type 0
AreWhole lines = AllByRecursion (λ words. Without 10 (line_of words)) lines

-- after these lines, whatever follows them, this is known
pub record Arrives (front : AllWords) (d : Draft) : Type 0 where
  pub reads : (rest : List (List ℕ)) → Pieces rest → read_from nothing 1 (map line_of front ++ rest) ≡ read_from d (length front + 1) rest
  pub whole : AreWhole front

pub arrives_first : Arrives [] nothing
arrives_first = record { reads = (λ rest some. refl); whole = tt }

whole_more : (front : AllWords) (words : List (List ℕ)) → AreWhole front → Without 10 (line_of words) → AreWhole (front ++ words ∷ [])
whole_more [] words all one = (one, tt)
whole_more (line ∷ lines) words all one = (all.0, whole_more lines words all.1 one)

-- one line more
pub arrives_more : (front : AllWords) (words : List (List ℕ)) (d e : Draft) → Arrives front d → Leads d words e → Arrives (front ++ words ∷ []) e
arrives_more front words d e before leads = record {
  reads = (λ rest some.
      let count : length front + 1 + 1 ≡ length (front ++ words ∷ []) + 1 = omega (arith, length-append front (words ∷ [])) in
      ap (read_from nothing 1) (ap (λ (ls : List (List ℕ)). ls ++ rest) (map_more line_of front words) ∙ append_assoc (map line_of front) (line_of words ∷ []) rest)
      ∙ before.reads (line_of words ∷ rest) (line_of words, rest, refl) ∙ on_pieces d (length front + 1) (line_of words) rest some
      ∙ rw (leads.steps (length front + 1)) (ap (λ at. read_from e at rest) count));
  whole = whole_more front words before.whole leads.whole;
}

-- a line for each of a list
module _ {X : Type 0} (s : List X → Draft) (w : X → List (List ℕ)) (xs : List X) (each : (done : List X) (x : X) (more : List X) → done ++ x ∷ more ≡ xs → Leads (s done) (w x) (s (done ++ x ∷ []))) where
  arrives_on : (done more : List X) (front : AllWords) → done ++ more ≡ xs → Arrives front (s done) → Arrives (front ++ map w more) (s xs)
  arrives_on done [] front all before =
      let same : done ≡ xs = sym (append-nil done) ∙ all in
      subst (λ (ls : AllWords). Arrives ls (s xs)) (sym (append-nil front)) (subst (λ (ys : List X). Arrives front (s ys)) same before)
  arrives_on done (x ∷ more) front all before =
      subst (λ (ls : AllWords). Arrives ls (s xs)) (append_assoc front (w x ∷ []) (map w more))
      (arrives_on (done ++ x ∷ []) more (front ++ w x ∷ []) (append_assoc done (x ∷ []) more ∙ all) (arrives_more front (w x) (s done) (s (done ++ x ∷ [])) before (each done x more all)))

  pub arrives_all : (front : AllWords) → Arrives front (s []) → Arrives (front ++ map w xs) (s xs)
  arrives_all front before = arrives_on [] xs front refl before

-- a line of clean words, after the first line
pub leads_by : (d e : Draft) (w : List ℕ) (ws : List (List ℕ)) → (d.part ≡ Header → ⊥) → AreClean (w ∷ ws) → ((at : ℕ) → words_line at d (w ∷ ws) d.part ≡ Ok e) → Leads d (w ∷ ws) e
leads_by d e w ws later clean step = record {
  steps = (λ at. step_words at d (line_of (w ∷ ws)) later (clean_line w ws clean) ∙ ap (λ words. words_line at d words d.part) (words_again w ws clean) ∙ step at);
  whole = no_end_of_line w ws clean;
}
