-- Where a tuple of members stands among all tuples, and which cell an access names.
use Rattle.std.specs.Prelude.{ℕ, ◌+◌, ◌*◌, ℤ, pos, int_le, int_lt, nat_abs, List, [], ◌∷◌, map, sum, take, slice_index_or, Bool, ◌&&◌, Option, Some, None, option_map, if◌then◌else◌}
use Rattle.kts_spec.specs.declared.declarations.Family.{Family}
use Rattle.kts_spec.specs.Worlds.{World, sizes_of, given_of, choice_of}

-- whether a number is a member of an index of this size
abbrev pub is_in : ℕ → ℤ → Bool
is_in n m = int_le (pos 0) m && int_lt m (pos n)

-- the number of tuples of members of indexes of these sizes
abbrev pub count_of : List ℕ → ℕ
count_of [] = 1
count_of (n ∷ sizes) = n * count_of sizes

-- the place of a tuple in their lexicographic order, where it is one
abbrev pub place : List ℕ → List ℤ → Option ℕ
place [] [] = Some 0
place [] (m ∷ args) = None
place (n ∷ sizes) [] = None
place (n ∷ sizes) (m ∷ args) =
    if is_in n m then option_map (λ p. nat_abs m * count_of sizes + p) (place sizes args) else None

-- the number of cells of these choices
abbrev pub cell_count : World → List Family → ℕ
cell_count w families = sum (map (λ (family : Family). count_of (sizes_of w family)) families)

-- the number of cells before those of a choice
abbrev pub offset : World → ℕ → ℕ
offset w x = cell_count w (take x w.choices)

-- the cell of a choice at these members
abbrev pub cell : World → ℕ → List ℤ → Option ℕ
cell w x args = option_map (λ p. offset w x + p) (place (sizes_of w (choice_of w x)) args)

-- the entry of a given at these members
abbrev pub entry : World → ℕ → List ℤ → Option ℕ
entry w f args = place (sizes_of w (given_of w f)) args

-- the item at a place, where there is one
abbrev pub lookup : {X : Type 0} → List X → Option ℕ → X → X
lookup xs None default = default
lookup xs (Some p) default = slice_index_or xs p default
