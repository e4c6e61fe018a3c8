-- Forms one after another.
use Rattle.std.proofs.Common.{◌≡◌, refl, sym, ◌∙◌, ap, ℕ, suc, ◌+◌, ◌<◌, ◌≤◌, add-one, List, [], ◌∷◌, ◌++◌, length, take, drop, get_or, max, true, ◌&&◌, Ok, Err, arith}
use Rattle.std.proofs.Math.Seq.{drop-cons, take-suc}
use Rattle.std.proofs.lemmas.List.{drop_all}
use Rattle.std.proofs.lemmas.Bool.{and_parts}
use Rattle.kts_base.specs.Reads.{and_then}
use Rattle.kts_syntax.specs.Fitting.{form_fits, forms_fit}
use Rattle.kts_syntax.specs.Sizes.{form_nest, forms_nest}
use Rattle.kts_syntax.specs.Tops.{has_room}
use Rattle.kts_syntax.specs.declared.form.Form.{Form}
use Rattle.kts_check.specs.Faults.{Judged}
use Rattle.kts_check.specs.Forms.{declarations_of, declaration_of, with_declaration}
use Rattle.kts_check.specs.Declarations.{Declarations}
use Rattle.kts_check.specs.Faults.{SpecFault}
use Rattle.kts_check.specs.declared.declaration.Declaration.{Declaration}

module _ (fs : List Form) (i : ℕ) (f : Form) (h : i < length fs) (is : f ≡ get_or fs i f) where
  here : drop i fs ≡ f ∷ drop (i + 1) fs
  here = drop-cons fs i f h ∙ rw (← is, add-one) refl

  before : take (i + 1) fs ≡ take i fs ++ f ∷ []
  before =
      let here : take (suc i) fs ≡ take i fs ++ f ∷ [] = take-suc fs i f h ∙ ap (λ (x : Form). take i fs ++ x ∷ []) (sym is) in rw add-one here

  all_here : (d : Declarations) → declarations_of d (drop i fs) ≡ and_then (declaration_of d f) (λ m. declarations_of (with_declaration d m) (drop (i + 1) fs))
  unfolding declarations_of
  all_here d = ap (declarations_of d) here

  -- the fault of one form is the fault of all
  pub form_fails : (d : Declarations) (e : SpecFault) (whole : Judged Declarations) → declaration_of d f ≡ Err e → declarations_of d (drop i fs) ≡ whole → whole ≡ Err e
  form_fails d e whole fails so_far =
      let now : declarations_of d (drop i fs) ≡ Err e = all_here d ∙ rw fails refl in sym so_far ∙ now

  -- one form more
  pub form_on : (d : Declarations) (m : Declaration) (whole : Judged Declarations) → declaration_of d f ≡ Ok m → declarations_of d (drop i fs) ≡ whole → declarations_of (with_declaration d m) (drop (i + 1) fs) ≡ whole
  form_on d m whole met so_far =
      let now : declarations_of d (drop i fs) ≡ declarations_of (with_declaration d m) (drop (i + 1) fs) = all_here d ∙ rw met refl in sym now ∙ so_far

  fit_here : forms_fit (take i fs) (drop i fs) ≡ true → (form_fits f && has_room (take i fs) f && forms_fit (take (i + 1) fs) (drop (i + 1) fs)) ≡ true
  unfolding forms_fit
  fit_here fit =
      let now : forms_fit (take i fs) (f ∷ drop (i + 1) fs) ≡ true = ap (forms_fit (take i fs)) (sym here) ∙ fit in
      ap (λ (bs : List Form). form_fits f && has_room (take i fs) f && forms_fit bs (drop (i + 1) fs)) before ∙ now

  pub form_fit : forms_fit (take i fs) (drop i fs) ≡ true → form_fits f ≡ true
  form_fit fit = (and_parts (form_fits f) (has_room (take i fs) f) (and_parts (form_fits f && has_room (take i fs) f) _ (fit_here fit)).0).0

  pub form_room : forms_fit (take i fs) (drop i fs) ≡ true → has_room (take i fs) f ≡ true
  form_room fit = (and_parts (form_fits f) (has_room (take i fs) f) (and_parts (form_fits f && has_room (take i fs) f) _ (fit_here fit)).0).1

  pub others_fit : forms_fit (take i fs) (drop i fs) ≡ true → forms_fit (take (i + 1) fs) (drop (i + 1) fs) ≡ true
  others_fit fit = (and_parts (form_fits f && has_room (take i fs) f) (forms_fit (take (i + 1) fs) (drop (i + 1) fs)) (fit_here fit)).1

  nest_here : forms_nest (drop i fs) ≡ max (form_nest f) (forms_nest (drop (i + 1) fs))
  nest_here = ap forms_nest here

  pub form_low : forms_nest (drop i fs) ≤ 64 → form_nest f ≤ 64
  form_low low = let e = nest_here in omega arith

  pub others_low : forms_nest (drop i fs) ≤ 64 → forms_nest (drop (i + 1) fs) ≤ 64
  others_low low = let e = nest_here in omega arith

  pub now_before : take (i + 1) fs ≡ take i fs ++ f ∷ []
  now_before = before

pub forms_end : (fs : List Form) (i : ℕ) (d : Declarations) (whole : Judged Declarations) → length fs ≤ i → declarations_of d (drop i fs) ≡ whole → whole ≡ Ok d
unfolding declarations_of
forms_end fs i d whole h so_far = sym so_far ∙ ap (declarations_of d) (drop_all i fs h)
