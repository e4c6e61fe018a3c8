-- Writing one piece after another.
use Rattle.std.proofs.Common.{◌≡◌, refl, sym, ◌∙◌, ap, ℕ, ◌+◌, ◌<◌, List, [], ◌++◌, append_assoc, append-nil, Result, Ok, Err, subst, length, length-append, drop, arith, get_or, add-one, map, Bor}
use Rattle.std.proofs.Math.Seq.{drop-cons}
use Rattle.kts_base.specs.Bytes.{Written, untold, counted, told, added, Appends, joined}
use Rattle.kts_base.specs.Counts.{Rose}
use Rattle.kts_base.specs.Writes.{Log, Wrote, Done, Stopped, Part}

-- what is told after two pieces is what is told after both as one
added_twice : (a : Written) (x y : List ℕ) → added (added a x) y ≡ added a (x ++ y)
added_twice untold x y = refl
added_twice (counted n) x y = ap counted (omega (arith, length-append x y))
added_twice (told w) x y = ap told (append_assoc w x y)

appends_twice : (a b c : Written) (x y : List ℕ) → Appends a b x → Appends b c y → Appends a c (x ++ y)
appends_twice a b c x y p q = q ∙ ap (λ (w : Written). added w y) p ∙ added_twice a x y

pub appends_nothing : (a : Written) → Appends a a []
appends_nothing untold = refl
appends_nothing (counted n) = ap counted (omega arith)
appends_nothing (told w) = ap told (sym (append-nil w))

-- nothing written yet
pub starts : (a : Log) (all : List ℕ) → Part a a all all
starts a all = record { front = []; done = record { appended = appends_nothing a.written; calm = refl }; whole = refl }

-- two texts, one after the other
pub both : {a b c : Log} {x y : List ℕ} → Done a b x → Done b c y → Done a c (x ++ y)
both p q = record { appended = appends_twice _ _ _ _ _ p.appended q.appended; calm = q.calm ∙ p.calm }

-- a fault in the second text
pub stops_later : {a b c : Log} {x y : List ℕ} → Done a b x → Stopped b c y → Stopped a c (x ++ y)
stops_later {c = c} {x} {y} p q = record {
  appended = (x ++ q.appended.0, q.appended.1, append_assoc x q.appended.0 q.appended.1 ∙ ap (λ (l : List ℕ). x ++ l) q.appended.2, appends_twice _ _ _ _ _ p.appended q.appended.3);
  rose = subst (λ (n : ℕ). Rose n c.faults) p.calm q.rose;
}

-- a fault in the first text
pub stops_first : {a b : Log} {x : List ℕ} → (y : List ℕ) → Stopped a b x → Stopped a b (x ++ y)
stops_first y q = record {
  appended = (q.appended.0, q.appended.1 ++ y, sym (append_assoc q.appended.0 q.appended.1 y) ∙ ap (λ (l : List ℕ). l ++ y) q.appended.2, q.appended.3);
  rose = q.rose;
}

-- a text, and then a writer of another
pub after : {T E : Type 0} {a b : Log} {x : List ℕ} → (result : Result T E) (c : Log) (y : List ℕ) → Done a b x → Wrote result b c y → Wrote result a c (x ++ y)
after (Ok u) c y p q = both p q
after (Err e) c y p q = stops_later p q

-- in the midst of a text: one piece more
pub goes_on : {a b c : Log} {x left all : List ℕ} → (rest : List ℕ) → Part a b left all → left ≡ x ++ rest → Done b c x → Part a c rest all
goes_on {x = x} rest p e q = record {
  front = p.front ++ x;
  done = both p.done q;
  whole = append_assoc p.front x rest ∙ ap (λ (l : List ℕ). p.front ++ l) (sym e) ∙ p.whole;
}

-- a fault at the next piece
pub stops : {a b c : Log} {x left all : List ℕ} → (rest : List ℕ) → Part a b left all → left ≡ x ++ rest → Stopped b c x → Stopped a c all
stops {a} {c = c} rest p e q =
    subst (λ (t : List ℕ). Stopped a c t) (ap (λ (l : List ℕ). p.front ++ l) (sym e) ∙ p.whole) (stops_later p.done (stops_first rest q))

-- nothing is left
pub ends : {a b : Log} {left all : List ℕ} → Part a b left all → left ≡ [] → Done a b all
ends {a} {b} p e = subst (λ (t : List ℕ). Done a b t) (sym (append-nil p.front) ∙ ap (λ (l : List ℕ). p.front ++ l) (sym e) ∙ p.whole) p.done

-- the pieces from a place on
pub pieces_here : (ps : List (Bor (List ℕ))) (i : ℕ) (d : Bor (List ℕ)) → i < length ps → joined (map (λ p. p.now) (drop i ps)) ≡ (get_or ps i d).now ++ joined (map (λ p. p.now) (drop (i + 1) ps))
pieces_here ps i d h = ap (λ (qs : List (Bor (List ℕ))). joined (map (λ p. p.now) qs)) (drop-cons ps i d h) ∙ rw add-one refl
