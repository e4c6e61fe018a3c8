-- The text of items without a trace.
use Rattle.std.proofs.Common.{◌≡◌, ℕ, ◌+◌, List, [], ◌∷◌, ◌++◌, false, refl, ap}
use Rattle.kts_spec.specs.declared.instance.Instance.{Instance}
use Rattle.kts_spec.specs.declared.schema.Schema.{Schema}
use Rattle.kts_spec.specs.Texts.{schedule_text, schedules_text}
use Rattle.kts_code.specs.Printed.{Item, node, schedule, schedules_of, items_text}

-- it is the text of their schedules
pub untraced : (schema : Schema) (inst : Instance) (n : ℕ) (items : List Item) → items_text false schema inst n items ≡ schedules_text schema inst (n + 1) (schedules_of items)
untraced schema inst n [] = refl
untraced schema inst n (node space ∷ items) = untraced schema inst n items
untraced schema inst n (schedule values ∷ items) = ap (λ rest. schedule_text schema inst (n + 1) values ++ rest) (untraced schema inst (n + 1) items)
