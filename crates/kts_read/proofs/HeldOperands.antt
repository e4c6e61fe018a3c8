-- Operands that an instruction holds, one case each.
use Rattle.std.proofs.Common.{◌≡◌, refl, ℕ, ℤ, pos, List, [], ◌∷◌}
use Rattle.kts_code.specs.declared.instructions.Instr.{Instr}
use Rattle.kts_code.specs.declared.instructions.Instr.TheVariants as i
use Rattle.kts_code.specs.CodeTexts.{values_of}
use Rattle.kts_write.specs.declared.table.OperandKind.{OperandKind}
use Rattle.kts_write.specs.declared.table.OperandKind.TheVariants as kinds
use Rattle.kts_write.specs.Encodings.{kinds_of, with_values, place_of, register_of}

pos_same : (a b : ℕ) → pos a ≡ pos b → a ≡ b
pos_same a b e = cc

-- a number of a kind that the code can hold
abbrev pub Holds : OperandKind → ℤ → Type 0
Holds kinds.Label z = pos (place_of z) ≡ z
Holds kinds.Given z = pos (place_of z) ≡ z
Holds kinds.Choice z = pos (place_of z) ≡ z
Holds kinds.Number z = Unit {0}
Holds kinds.Register z = pos (register_of z) ≡ z
Holds kinds.Index z = pos (place_of z) ≡ z

-- each number is of its kind, and there are as many
abbrev pub HoldsAll : List OperandKind → List ℤ → Type 0
HoldsAll [] [] = Unit {0}
HoldsAll [] (z ∷ zs) = ⊥
HoldsAll (kind ∷ kinds) [] = ⊥
HoldsAll (kind ∷ kinds) (z ∷ zs) = Holds kind z × HoldsAll kinds zs

-- operands that were set are those
pub values_set : (instr : Instr) (values : List ℤ) → HoldsAll (kinds_of instr) values → values_of (with_values instr values) ≡ values
unfolding kinds_of with_values values_of
values_set (i.Start a) [] h = absurd h
values_set (i.Start a) (v ∷ []) h = rw (h.0) refl
values_set (i.Start a) (v ∷ y ∷ values) h = absurd h.1
values_set (i.Take a) [] h = absurd h
values_set (i.Take a) (v ∷ []) h = rw (h.0) refl
values_set (i.Take a) (v ∷ y ∷ values) h = absurd h.1
values_set i.Node [] h = refl
values_set i.Node (v ∷ values) h = absurd h
values_set (i.Pick a) [] h = absurd h
values_set (i.Pick a) (v ∷ []) h = rw (h.0) refl
values_set (i.Pick a) (v ∷ y ∷ values) h = absurd h.1
values_set i.Emit [] h = refl
values_set i.Emit (v ∷ values) h = absurd h
values_set (i.Back a) [] h = absurd h
values_set (i.Back a) (v ∷ []) h = rw (h.0) refl
values_set (i.Back a) (v ∷ y ∷ values) h = absurd h.1
values_set i.Halt [] h = refl
values_set i.Halt (v ∷ values) h = absurd h
values_set (i.Jump a) [] h = absurd h
values_set (i.Jump a) (v ∷ []) h = rw (h.0) refl
values_set (i.Jump a) (v ∷ y ∷ values) h = absurd h.1
values_set (i.Test a) [] h = absurd h
values_set (i.Test a) (v ∷ []) h = rw (h.0) refl
values_set (i.Test a) (v ∷ y ∷ values) h = absurd h.1
values_set (i.Need a) [] h = absurd h
values_set (i.Need a) (v ∷ []) h = rw (h.0) refl
values_set (i.Need a) (v ∷ y ∷ values) h = absurd h.1
values_set (i.AtLeast a b) [] h = absurd h
values_set (i.AtLeast a b) (v ∷ []) h = absurd h.1
values_set (i.AtLeast a b) (v ∷ w ∷ []) h = rw (h.0, h.1.0) refl
values_set (i.AtLeast a b) (v ∷ w ∷ y ∷ values) h = absurd h.1.1
values_set (i.AtMost a b) [] h = absurd h
values_set (i.AtMost a b) (v ∷ []) h = absurd h.1
values_set (i.AtMost a b) (v ∷ w ∷ []) h = rw (h.0, h.1.0) refl
values_set (i.AtMost a b) (v ∷ w ∷ y ∷ values) h = absurd h.1.1
values_set (i.Within a b) [] h = absurd h
values_set (i.Within a b) (v ∷ []) h = absurd h.1
values_set (i.Within a b) (v ∷ w ∷ []) h = rw (h.0, h.1.0) refl
values_set (i.Within a b) (v ∷ w ∷ y ∷ values) h = absurd h.1.1
values_set (i.Without a b) [] h = absurd h
values_set (i.Without a b) (v ∷ []) h = absurd h.1
values_set (i.Without a b) (v ∷ w ∷ []) h = rw (h.0, h.1.0) refl
values_set (i.Without a b) (v ∷ w ∷ y ∷ values) h = absurd h.1.1
values_set (i.Num a) [] h = absurd h
values_set (i.Num a) (v ∷ []) h = refl
values_set (i.Num a) (v ∷ y ∷ values) h = absurd h.1
values_set (i.Var a) [] h = absurd h
values_set (i.Var a) (v ∷ []) h = rw (h.0) refl
values_set (i.Var a) (v ∷ y ∷ values) h = absurd h.1
values_set (i.Given a) [] h = absurd h
values_set (i.Given a) (v ∷ []) h = rw (h.0) refl
values_set (i.Given a) (v ∷ y ∷ values) h = absurd h.1
values_set (i.Choice a) [] h = absurd h
values_set (i.Choice a) (v ∷ []) h = rw (h.0) refl
values_set (i.Choice a) (v ∷ y ∷ values) h = absurd h.1
values_set i.Add [] h = refl
values_set i.Add (v ∷ values) h = absurd h
values_set i.Sub [] h = refl
values_set i.Sub (v ∷ values) h = absurd h
values_set i.Mul [] h = refl
values_set i.Mul (v ∷ values) h = absurd h
values_set i.Min [] h = refl
values_set i.Min (v ∷ values) h = absurd h
values_set i.Max [] h = refl
values_set i.Max (v ∷ values) h = absurd h
values_set i.Le [] h = refl
values_set i.Le (v ∷ values) h = absurd h
values_set i.Eq [] h = refl
values_set i.Eq (v ∷ values) h = absurd h
values_set i.Same [] h = refl
values_set i.Same (v ∷ values) h = absurd h
values_set i.And [] h = refl
values_set i.And (v ∷ values) h = absurd h
values_set i.Or [] h = refl
values_set i.Or (v ∷ values) h = absurd h
values_set i.Not [] h = refl
values_set i.Not (v ∷ values) h = absurd h
values_set i.Gate [] h = refl
values_set i.Gate (v ∷ values) h = absurd h
values_set (i.First a b c) [] h = absurd h
values_set (i.First a b c) (v ∷ []) h = absurd h.1
values_set (i.First a b c) (v ∷ w ∷ []) h = absurd h.1.1
values_set (i.First a b c) (v ∷ w ∷ x ∷ []) h = rw (h.0, h.1.0, h.1.1.0) refl
values_set (i.First a b c) (v ∷ w ∷ x ∷ y ∷ values) h = absurd h.1.1.1
values_set (i.Next a b) [] h = absurd h
values_set (i.Next a b) (v ∷ []) h = absurd h.1
values_set (i.Next a b) (v ∷ w ∷ []) h = rw (h.0, h.1.0) refl
values_set (i.Next a b) (v ∷ w ∷ y ∷ values) h = absurd h.1.1
values_set i.True [] h = refl
values_set i.True (v ∷ values) h = absurd h
values_set i.False [] h = refl
values_set i.False (v ∷ values) h = absurd h

-- an instruction has its own operands
pub with_own : (instr : Instr) → HoldsAll (kinds_of instr) (values_of instr) → with_values instr (values_of instr) ≡ instr
unfolding kinds_of with_values values_of
with_own (i.Start a) h = let e0 : place_of (pos a) ≡ a = pos_same (place_of (pos a)) a h.0 in rw (e0) refl
with_own (i.Take a) h = let e0 : place_of (pos a) ≡ a = pos_same (place_of (pos a)) a h.0 in rw (e0) refl
with_own i.Node h = refl
with_own (i.Pick a) h = let e0 : place_of (pos a) ≡ a = pos_same (place_of (pos a)) a h.0 in rw (e0) refl
with_own i.Emit h = refl
with_own (i.Back a) h = let e0 : place_of (pos a) ≡ a = pos_same (place_of (pos a)) a h.0 in rw (e0) refl
with_own i.Halt h = refl
with_own (i.Jump a) h = let e0 : place_of (pos a) ≡ a = pos_same (place_of (pos a)) a h.0 in rw (e0) refl
with_own (i.Test a) h = let e0 : place_of (pos a) ≡ a = pos_same (place_of (pos a)) a h.0 in rw (e0) refl
with_own (i.Need a) h = let e0 : place_of (pos a) ≡ a = pos_same (place_of (pos a)) a h.0 in rw (e0) refl
with_own (i.AtLeast a b) h = let e0 : place_of (pos a) ≡ a = pos_same (place_of (pos a)) a h.0 in let e1 : place_of (pos b) ≡ b = pos_same (place_of (pos b)) b h.1.0 in rw (e0, e1) refl
with_own (i.AtMost a b) h = let e0 : place_of (pos a) ≡ a = pos_same (place_of (pos a)) a h.0 in let e1 : place_of (pos b) ≡ b = pos_same (place_of (pos b)) b h.1.0 in rw (e0, e1) refl
with_own (i.Within a b) h = let e0 : place_of (pos a) ≡ a = pos_same (place_of (pos a)) a h.0 in let e1 : place_of (pos b) ≡ b = pos_same (place_of (pos b)) b h.1.0 in rw (e0, e1) refl
with_own (i.Without a b) h = let e0 : place_of (pos a) ≡ a = pos_same (place_of (pos a)) a h.0 in let e1 : place_of (pos b) ≡ b = pos_same (place_of (pos b)) b h.1.0 in rw (e0, e1) refl
with_own (i.Num a) h = refl
with_own (i.Var a) h = let e0 : register_of (pos a) ≡ a = pos_same (register_of (pos a)) a h.0 in rw (e0) refl
with_own (i.Given a) h = let e0 : place_of (pos a) ≡ a = pos_same (place_of (pos a)) a h.0 in rw (e0) refl
with_own (i.Choice a) h = let e0 : place_of (pos a) ≡ a = pos_same (place_of (pos a)) a h.0 in rw (e0) refl
with_own i.Add h = refl
with_own i.Sub h = refl
with_own i.Mul h = refl
with_own i.Min h = refl
with_own i.Max h = refl
with_own i.Le h = refl
with_own i.Eq h = refl
with_own i.Same h = refl
with_own i.And h = refl
with_own i.Or h = refl
with_own i.Not h = refl
with_own i.Gate h = refl
with_own (i.First a b c) h = let e0 : register_of (pos a) ≡ a = pos_same (register_of (pos a)) a h.0 in let e1 : place_of (pos b) ≡ b = pos_same (place_of (pos b)) b h.1.0 in let e2 : place_of (pos c) ≡ c = pos_same (place_of (pos c)) c h.1.1.0 in rw (e0, e1, e2) refl
with_own (i.Next a b) h = let e0 : register_of (pos a) ≡ a = pos_same (register_of (pos a)) a h.0 in let e1 : place_of (pos b) ≡ b = pos_same (place_of (pos b)) b h.1.0 in rw (e0, e1) refl
with_own i.True h = refl
with_own i.False h = refl
