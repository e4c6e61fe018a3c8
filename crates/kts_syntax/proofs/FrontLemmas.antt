-- Reading names and forms, one after another.
use Rattle.std.proofs.Common.{◌≡◌, refl, sym, ◌∙◌, ap, ℕ, List, [], ◌∷◌, ◌++◌, append_assoc, append-nil, true, false, Ok, Err}
use Rattle.kts_base.specs.Reads.{and_then, with_front}
use Rattle.kts_text.specs.Forest.{Forest, none, atom, list}
use Rattle.kts_syntax.specs.Faults.{FormFault, fault}
use Rattle.kts_syntax.specs.Readings.{Reading, name_at}
use Rattle.kts_syntax.specs.Tops.{names, has_room, roomy, later_form, later_forms}
use Rattle.kts_syntax.specs.declared.fault.FormKind.TheVariants.{NotAForm, TooMany}
use Rattle.kts_syntax.specs.declared.form.Form.{Form}
use Rattle.kts_syntax.specs.declared.word.Word.{Word}

module _ {A : Type 0} (front : List A) (read : Reading A) (more : A → Reading (List A)) (total : Reading (List A))
    (so_far : with_front front (and_then read (λ a. and_then (more a) (λ as_read. Ok (a ∷ as_read)))) ≡ total) where
  -- the fault of one is the fault of all
  pub one_fails : (f : FormFault) → read ≡ Err f → total ≡ Err f
  one_fails f fails = sym so_far ∙ ap (λ (r : Reading A). with_front front (and_then r (λ a. and_then (more a) (λ as_read. Ok (a ∷ as_read))))) fails

  regroup : (a : A) (rest : Reading (List A)) → with_front front (and_then rest (λ as_read. Ok (a ∷ as_read))) ≡ with_front (front ++ a ∷ []) rest
  regroup a (Ok as_read) = ap Ok (sym (append_assoc front (a ∷ []) as_read))
  regroup a (Err f) = refl

  -- one more is read
  pub one_on : (a : A) → read ≡ Ok a → with_front (front ++ a ∷ []) (more a) ≡ total
  one_on a is = sym (regroup a (more a)) ∙ sym (ap (λ (r : Reading A). with_front front (and_then r (λ a. and_then (more a) (λ as_read. Ok (a ∷ as_read))))) is) ∙ so_far

-- ---- names at a cursor

module _ (front : List Word) (total : Reading (List Word)) (trees : Forest) (so_far : with_front front (names trees) ≡ total) where
  at_trees : (t : Forest) → t ≡ trees → with_front front (names t) ≡ total
  at_trees t here = ap (λ (t : Forest). with_front front (names t)) here ∙ so_far

  pub names_end : none ≡ trees → total ≡ Ok front
  unfolding names
  names_end here = sym (at_trees none here) ∙ ap Ok (append-nil front)

  pub names_list : (start end : ℕ) (inside after : Forest) → list start end inside after ≡ trees → total ≡ Err (fault NotAForm start)
  unfolding names
  names_list start end inside after here = sym (at_trees (list start end inside after) here)

  module _ (at : ℕ) (bytes : List ℕ) (after : Forest) (here : atom at bytes after ≡ trees) where
    pub name_fails : (f : FormFault) → name_at at bytes ≡ Err f → total ≡ Err f
    unfolding names
    name_fails f fails = one_fails front (name_at at bytes) (λ _. names after) total (at_trees (atom at bytes after) here) f fails

    pub name_on : (word : Word) (now : List Word) → name_at at bytes ≡ Ok word → now ≡ front ++ word ∷ [] → with_front now (names after) ≡ total
    unfolding names
    name_on word now is is_now = rw is_now (one_on front (name_at at bytes) (λ _. names after) total (at_trees (atom at bytes after) here) word is)

-- ---- forms at a cursor

no_room : (before : List Form) (start : ℕ) (form : Form) (read : Reading Form) → read ≡ Ok form → false ≡ has_room before form → and_then read (roomy before start) ≡ Err (fault TooMany start)
unfolding roomy
no_room before start form read is full = rw (is, ← full) refl

some_room : (before : List Form) (start : ℕ) (form : Form) (read : Reading Form) → read ≡ Ok form → true ≡ has_room before form → and_then read (roomy before start) ≡ Ok form
unfolding roomy
some_room before start form read is free = rw (is, ← free) refl

module _ (front : List Form) (total : Reading (List Form)) (trees : Forest) (so_far : with_front front (later_forms front trees) ≡ total) where
  at_forms : (t : Forest) → t ≡ trees → with_front front (later_forms front t) ≡ total
  at_forms t here = ap (λ (t : Forest). with_front front (later_forms front t)) here ∙ so_far

  pub forms_end : none ≡ trees → total ≡ Ok front
  unfolding later_forms
  forms_end here = sym (at_forms none here) ∙ ap Ok (append-nil front)

  pub forms_atom : (at : ℕ) (bytes : List ℕ) (after : Forest) → atom at bytes after ≡ trees → total ≡ Err (fault NotAForm at)
  unfolding later_forms
  forms_atom at bytes after here = sym (at_forms (atom at bytes after) here)

  module _ (start end : ℕ) (inside after : Forest) (here : list start end inside after ≡ trees) where
    abbrev more : Form → Reading (List Form)
    more form = later_forms (front ++ form ∷ []) after

    pub form_fails : (f : FormFault) → later_form start inside ≡ Err f → total ≡ Err f
    unfolding later_forms
    form_fails f fails =
        one_fails front (and_then (later_form start inside) (roomy front start)) more total (at_forms (list start end inside after) here) f (ap (λ (r : Reading Form). and_then r (roomy front start)) fails)

    pub form_full : (form : Form) → later_form start inside ≡ Ok form → false ≡ has_room front form → total ≡ Err (fault TooMany start)
    unfolding later_forms
    form_full form is full =
        one_fails front (and_then (later_form start inside) (roomy front start)) more total (at_forms (list start end inside after) here) _ (no_room front start form (later_form start inside) is full)

    pub form_on : (form : Form) (now : List Form) → later_form start inside ≡ Ok form → true ≡ has_room front form → now ≡ front ++ form ∷ [] → with_front now (later_forms now after) ≡ total
    unfolding later_forms
    form_on form now is free is_now =
        rw is_now (one_on front (and_then (later_form start inside) (roomy front start)) more total (at_forms (list start end inside after) here) form (some_room front start form (later_form start inside) is free))
