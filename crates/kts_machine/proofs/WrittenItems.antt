-- The text of items, one item more.
use Rattle.std.proofs.Common.{◌≡◌, refl, sym, ◌∙◌, ap, arith, append_assoc}
use Rattle.std.proofs.Common.{ℕ, suc, ◌+◌, List, [], ◌∷◌, ◌++◌, length, Bool, cond, Option, Some, None, ℤ}
use Rattle.std.proofs.lemmas.List.{append-nil}
use Rattle.kts_abs.specs.NodeTexts.{node_text}
use Rattle.kts_abs.specs.Values.{Abs}
use Rattle.kts_code.specs.Machine.{add_item}
use Rattle.kts_code.specs.Printed.{items_text, schedules_of}
use Rattle.kts_code.specs.States.{Item, node, schedule}
use Rattle.kts_machine.specs.Steps.{count_with, item_text}
use Rattle.kts_spec.specs.declared.instance.Instance.{Instance}
use Rattle.kts_spec.specs.declared.schema.Schema.{Schema}
use Rattle.kts_spec.specs.Texts.{schedule_text}

module _ (traced : Bool) (schema : Schema) (inst : Instance) where
  abbrev text : ℕ → List Item → List ℕ
  text n items = items_text traced schema inst n items

  abbrev line : List Abs → List ℕ
  line space = cond traced (node_text schema inst space) []

  -- the text of two parts, of which the second goes on counting
  pub items_text-append : (n : ℕ) (a b : List Item) →
      items_text traced schema inst n (a ++ b) ≡ items_text traced schema inst n a ++ items_text traced schema inst (n + length (schedules_of a)) b
  items_text-append n [] b = let e : n + 0 ≡ n = omega arith in ap (λ k. text k b) (sym e)
  items_text-append n (node space ∷ a) b =
      ap (λ t. line space ++ t) (items_text-append n a b) ∙ sym (append_assoc (line space) (text n a) (text (n + length (schedules_of a)) b))
  items_text-append n (schedule values ∷ a) b =
      let first = schedule_text schema inst (n + 1) values in
      let e : n + 1 + length (schedules_of a) ≡ n + suc (length (schedules_of a)) = omega arith in
      ap (λ t. first ++ t) (items_text-append (n + 1) a b ∙ ap (λ k. text (n + 1) a ++ text k b) e)
      ∙ sym (append_assoc first (text (n + 1) a) (text (n + suc (length (schedules_of a))) b))

  pub items_text-add : (n : ℕ) (o : Option Item) (items : List Item) →
      items_text traced schema inst n (add_item o items)
      ≡ items_text traced schema inst n items ++ item_text traced schema inst (n + length (schedules_of items)) o
  items_text-add n None items = sym (append-nil (text n items))
  items_text-add n (Some (node space)) items = items_text-append n items (node space ∷ []) ∙ ap (λ t. text n items ++ t) (append-nil (line space))
  items_text-add n (Some (schedule values)) items =
      items_text-append n items (schedule values ∷ [])
      ∙ ap (λ t. text n items ++ t) (append-nil (schedule_text schema inst (n + length (schedules_of items) + 1) values))

schedules_of-append : (a b : List Item) → schedules_of (a ++ b) ≡ schedules_of a ++ schedules_of b
schedules_of-append [] b = refl
schedules_of-append (node space ∷ a) b = schedules_of-append a b
schedules_of-append (schedule values ∷ a) b = ap (λ l. values ∷ l) (schedules_of-append a b)

length-one : (xs : List (List ℤ)) (x : List ℤ) → length (xs ++ x ∷ []) ≡ length xs + 1
length-one [] x = refl
length-one (y ∷ xs) x = omega (arith, length-one xs x)

-- the number of schedules with one item more
pub count_with-add : (o : Option Item) (items : List Item) → count_with o (length (schedules_of items)) ≡ length (schedules_of (add_item o items))
count_with-add None items = refl
count_with-add (Some (node space)) items = ap length (sym (schedules_of-append items (node space ∷ []) ∙ append-nil (schedules_of items)))
count_with-add (Some (schedule values)) items = sym (ap length (schedules_of-append items (schedule values ∷ [])) ∙ length-one (schedules_of items) values)
