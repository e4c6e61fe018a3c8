-- Binders one after another.
use Rattle.std.proofs.Common.{◌≡◌, refl, sym, ◌∙◌, ap, ℕ, ◌+◌, ◌<◌, ◌≤◌, add-one, List, [], ◌∷◌, ◌++◌, append_assoc, append-nil, length, drop, take, get_or, Option, None, Ok, Err}
use Rattle.std.proofs.Math.Seq.{drop-cons, take-append_seam}
use Rattle.std.proofs.lemmas.List.{drop_all}
use Rattle.kts_base.specs.Reads.{and_then}
use Rattle.kts_syntax.specs.declared.head.Head.{Head}
use Rattle.kts_syntax.specs.declared.head.Head.TheVariants.{Sum, And, Forall, Exists}
use Rattle.kts_syntax.specs.declared.word.Word.{Word}
use Rattle.kts_check.specs.Faults.{Judged}
use Rattle.kts_check.specs.Declarations.{Names}
use Rattle.kts_check.specs.Scopes.{Scope}
use Rattle.kts_check.specs.Contexts.{Context, binder_index, bind, further, operator_context, plain_context, with_variable}
use Rattle.kts_check.specs.Faults.{SpecFault}
use Rattle.kts_check.proofs.Inversions.{ok, ok_is, both_ok}

abbrev Binder : Type 0
Binder = Word × Word × ℕ

module _ (names : Names) (own : List ℕ) where
  bind_here : (p : Context) (bs : List Binder) (i : ℕ) (b : Binder) → i < length bs → b ≡ get_or bs i b
      → bind names own p (drop i bs) ≡ and_then (binder_index names own p b) (λ k. bind names own (with_variable p b.0.name k) (drop (i + 1) bs))
  unfolding bind
  bind_here p bs i b h e = ap (bind names own p) (drop-cons bs i b h) ∙ rw (← e, add-one) refl

  same_index : (p : Context) (b : Binder) → binder_index names own p b ≡ binder_index names own (plain_context p.scope p.way) b
  unfolding binder_index
  same_index p (word, index, at) = refl

  -- the fault of one binder is the fault of all
  pub bind_fails : (p : Context) (bs : List Binder) (i : ℕ) (b : Binder) (f : SpecFault) (whole : Judged Context) → i < length bs → b ≡ get_or bs i b → binder_index names own (plain_context p.scope p.way) b ≡ Err f
      → bind names own p (drop i bs) ≡ whole → whole ≡ Err f
  bind_fails p bs i b f whole h e fails so_far =
      let fault = same_index p b ∙ fails in
      let here : bind names own p (drop i bs) ≡ Err f = rw (bind_here p bs i b h e, fault) refl in sym so_far ∙ here

  -- one binder more
  pub bind_on : (p : Context) (bs : List Binder) (i : ℕ) (b : Binder) (k : ℕ) (scope : Scope) (indexes : List ℕ) (way : Option ℕ) (whole : Judged Context) → i < length bs → b ≡ get_or bs i b
      → binder_index names own (plain_context p.scope p.way) b ≡ Ok k → scope ≡ p.scope ++ (b.0.name, k) ∷ [] → indexes ≡ p.indexes ++ k ∷ [] → way ≡ further p.way → bind names own p (drop i bs) ≡ whole
      → bind names own (record { scope = scope; indexes = indexes; way = way }) (drop (i + 1) bs) ≡ whole
  bind_on p bs i b k scope indexes way whole h e is s x w so_far =
      let found = same_index p b ∙ is in
      let here : bind names own p (drop i bs) ≡ bind names own (with_variable p b.0.name k) (drop (i + 1) bs) = rw (bind_here p bs i b h e, found) refl in
      rw (s, x, w) (sym here ∙ so_far)

  -- no binder is left
  pub bind_end : (p : Context) (bs : List Binder) (i : ℕ) (whole : Judged Context) → length bs ≤ i → bind names own p (drop i bs) ≡ whole → whole ≡ Ok p
  unfolding bind
  bind_end p bs i whole h so_far = sym so_far ∙ ap (bind names own p) (drop_all i bs h)

-- what was in scope stays there
module _ (names : Names) (own : List ℕ) where
  bind_keeps : (p : Context) (bs : List Binder) (q : Context) → bind names own p bs ≡ Ok q → (more : Scope) × (q.scope ≡ p.scope ++ more)
  unfolding bind
  bind_keeps p [] q e = ([], ap (λ (r : Context). r.scope) (sym (ok_is p q e)) ∙ sym (append-nil p.scope))
  bind_keeps p (b ∷ bs) q e =
      let one = both_ok (binder_index names own p b) _ q e in
      let others = bind_keeps (with_variable p b.0.name one.0) bs q one.2 in
      ((b.0.name, one.0) ∷ others.0, others.1 ∙ append_assoc p.scope ((b.0.name, one.0) ∷ []) others.0)

  plain_keeps : (scope : Scope) (way : Option ℕ) (q : Context) → ok (plain_context scope way) ≡ Ok q → (more : Scope) × (q.scope ≡ scope ++ more)
  plain_keeps scope way q e = ([], ap (λ (r : Context). r.scope) (sym (ok_is (plain_context scope way) q e)) ∙ sym (append-nil scope))

  operator_keeps : (head : Head) (bs : List Binder) (scope : Scope) (way : Option ℕ) (q : Context) → operator_context names own head bs scope way ≡ Ok q → (more : Scope) × (q.scope ≡ scope ++ more)
  unfolding operator_context
  operator_keeps Sum bs scope way q e = bind_keeps (plain_context scope None) bs q e
  operator_keeps Exists bs scope way q e = bind_keeps (plain_context scope None) bs q e
  operator_keeps Forall bs scope way q e = bind_keeps (plain_context scope way) bs q e
  operator_keeps And bs scope way q e = plain_keeps scope way q e
  operator_keeps head bs scope way q e = plain_keeps scope None q e

  -- the variables that a tree binds end with it
  pub scope_ends : (head : Head) (bs : List Binder) (scope after : Scope) (way : Option ℕ) (q : Context) → operator_context names own head bs scope way ≡ Ok q → after ≡ q.scope → take (length scope) after ≡ scope
  scope_ends head bs scope after way q e same =
      let kept = operator_keeps head bs scope way q e in ap (take (length scope)) (same ∙ kept.1) ∙ take-append_seam scope kept.0
