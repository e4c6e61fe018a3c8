-- What a writer gets, step by step.
use Rattle.std.proofs.Common.{◌≡◌, ℕ, ◌+◌, ◌-◌, List, [], ◌++◌, length, Option, None, Some, Result, Ok, Err, refl, sym, ap, ◌∙◌, subst, take, drop, take-append-drop, append_assoc, append-nil}
use Rattle.std.proofs.Math.Seq.{take-add}
use Rattle.std.proofs.lemmas.List.{take_rest}
use Rattle.std.proofs.KnownBytes.{Appends-trans, Appends-nil}
use Rattle.std.specs.Io.KnownBytes.{Appends, Keeps}
use Rattle.kts.specs.Output.{WritesFront, Took, Sent}

appends_keeps : (a b c : Option (List ℕ)) (x : List ℕ) → Appends a b x → Keeps b c → Appends a c x
appends_keeps None b c x p q = tt
appends_keeps (Some a) None c x p q = absurd p
appends_keeps (Some a) (Some b) None x p q = absurd q
appends_keeps (Some a) (Some b) (Some c) x p q = q ∙ p

-- some bytes more of a text
pub more_written : (a b c : Option (List ℕ)) (text : List ℕ) (at count : ℕ) → Appends a b (take at text)
    → Appends b c (take count (take (length text - at) (drop at text))) → Appends a c (take (at + count) text)
more_written a b c text at count p q =
    subst (λ (x : List ℕ). Appends a c x) (ap (λ (x : List ℕ). take at text ++ take count x) (take_rest text at) ∙ sym (take-add at count text))
    (Appends-trans a b c _ _ p q)

-- a write that took nothing more
pub front_written : (a c : Option (List ℕ)) (text : List ℕ) (at : ℕ) → Appends a c (take at text) → WritesFront a c text
front_written a c text at p = (take at text, drop at text, take-append-drop at text, p)

-- a write that failed
pub front_kept : (a b c : Option (List ℕ)) (text : List ℕ) (at : ℕ) → Appends a b (take at text) → Keeps b c → WritesFront a c text
front_kept a b c text at p q = front_written a c text at (appends_keeps a b c _ p q)

-- the text is held back
pub text_held : (a b : Option (List ℕ)) (held left text : List ℕ) → b ≡ a → left ≡ held ++ text → Took a held b left text
text_held a b held left text same whole = record { front = []; written = subst (λ (w : Option (List ℕ)). Appends a w []) (sym same) (Appends-nil a); whole = whole }

-- two texts, one after the other
pub both_sent : (a b c : Option (List ℕ)) (held left last x y : List ℕ) → Took a held b left x → Took b left c last y → Took a held c last (x ++ y)
both_sent a b c held left last x y p q = record {
  front = p.front ++ q.front;
  written = Appends-trans a b c _ _ p.written q.written;
  whole = append_assoc p.front q.front last ∙ ap (λ (l : List ℕ). p.front ++ l) q.whole ∙ sym (append_assoc p.front left y) ∙ ap (λ (l : List ℕ). l ++ y) p.whole ∙ append_assoc held x y;
}

-- a fault in the second text
cut_later : (a b c : Option (List ℕ)) (held left x y : List ℕ) → Took a held b left x → WritesFront b c (left ++ y) → WritesFront a c (held ++ (x ++ y))
cut_later a b c held left x y p q = (
  p.front ++ q.0,
  q.1,
  append_assoc p.front q.0 q.1 ∙ ap (λ (l : List ℕ). p.front ++ l) q.2 ∙ sym (append_assoc p.front left y) ∙ ap (λ (l : List ℕ). l ++ y) p.whole ∙ append_assoc held x y,
  Appends-trans a b c _ _ p.written q.3,
)

-- a fault in the first text
pub cut_first : (a b : Option (List ℕ)) (held x : List ℕ) → WritesFront a b (held ++ []) → WritesFront a b (held ++ x)
cut_first a b held x q = (q.0, q.1 ++ x, sym (append_assoc q.0 q.1 x) ∙ ap (λ (l : List ℕ). l ++ x) (q.2 ∙ append-nil held), q.3)

-- a text was taken, and then another, or a fault stopped it
pub sent_then : {T E : Type 0} (result : Result T E) (a b c : Option (List ℕ)) (held left last x y : List ℕ)
    → Took a held b left x → Sent result b left c last y → Sent result a held c last (x ++ y)
sent_then (Ok u) a b c held left last x y p q = both_sent a b c held left last x y p q
sent_then (Err e) a b c held left last x y p q = cut_later a b c held left x y p q

-- the same where the second text is empty
pub sent_end : {T E : Type 0} (result : Result T E) (a b c : Option (List ℕ)) (held left last x : List ℕ)
    → Took a held b left x → Sent result b left c last [] → Sent result a held c last x
sent_end result a b c held left last x p q =
    subst (λ (t : List ℕ). Sent result a held c last t) (append-nil x) (sent_then result a b c held left last x [] p q)
