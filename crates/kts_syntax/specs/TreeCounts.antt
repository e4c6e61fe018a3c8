-- How many terms and formulas there are among trees, role by role.
use Rattle.std.specs.Prelude.{ℕ, suc, ◌+◌, Option, None, Some}
use Rattle.kts_text.specs.Forest.{Forest, none, atom, list}
use Rattle.kts_syntax.specs.Heads.{head_of, layout_of, role_in, layout_after}
use Rattle.kts_syntax.specs.Readings.{is_none}
use Rattle.kts_syntax.specs.declared.head.Head.{Head}
use Rattle.kts_syntax.specs.declared.layout.Layout.{Layout}
use Rattle.kts_syntax.specs.declared.layout.Role.{Role}
use Rattle.kts_syntax.specs.declared.layout.Role.TheVariants.{Binder, Term, Formula}

-- a tree in a role, with the terms and formulas in it; a binder has none
abbrev pub with_itself : Role → ℕ → ℕ
with_itself Binder inside = 0
with_itself Term inside = suc inside
with_itself Formula inside = suc inside

-- what follows a head, by how many there are in a layout; a word that is no head has no parts
abbrev pub after_head : Option Head → (Layout → ℕ) → ℕ
after_head None parts = 0
after_head (Some head) parts = parts (layout_of head)

unfoldable mutual
  -- among trees, as the parts of a list with this layout
  pub count_in_parts : Layout → Forest → ℕ
  count_in_parts layout none = 0
  count_in_parts layout (atom at bytes after) = with_itself (role_in layout (is_none after)) 0 + count_in_parts (layout_after layout) after
  count_in_parts layout (list start end inside after) =
      with_itself (role_in layout (is_none after)) (count_in_list (role_in layout (is_none after)) inside) + count_in_parts (layout_after layout) after

  -- in a list in a role
  pub count_in_list : Role → Forest → ℕ
  count_in_list role none = 0
  count_in_list role (atom at word after) = after_head (head_of role at word) (λ layout. count_in_parts layout after)
  count_in_list role (list start end inside after) = 0

-- in the first tree, as a formula, with itself
unfoldable pub count_in_formula : Forest → ℕ
count_in_formula none = 0
count_in_formula (atom at bytes after) = 1
count_in_formula (list start end inside after) = suc (count_in_list Formula inside)
