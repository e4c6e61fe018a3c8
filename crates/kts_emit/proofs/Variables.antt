-- Registers that have the variables of a scope.
use Rattle.std.proofs.Common.{◌≡◌, ℕ, zero, suc, ◌<◌, ◌≤◌, List, [], ◌∷◌, ◌++◌, length, take, Some, refl, ap, ◌∙◌, sym, arith}
use Rattle.std.specs.Prelude.{slice_get, slice_set, slice_index}
use Rattle.kts_code.specs.States.{Register}
use Rattle.kts_spec.specs.TypedValues.{InScope}
use Rattle.kts_spec.specs.Worlds.{World, size_of}
use Rattle.kts_emit.specs.Pushes.{HasVariables}

pub in_scope : (w : World) (scope vars : List ℕ) (registers : List Register) → HasVariables w scope vars registers → InScope w scope vars
in_scope w [] [] registers h = tt
in_scope w [] (m ∷ vars) registers h = absurd h
in_scope w (i ∷ scope) [] registers h = absurd h
in_scope w (i ∷ scope) (m ∷ vars) [] h = absurd h
in_scope w (i ∷ scope) (m ∷ vars) (r ∷ registers) h = (h.1, in_scope w scope vars registers h.2)

-- no more variables than registers
pub scope_fits : (w : World) (scope vars : List ℕ) (registers : List Register) → HasVariables w scope vars registers → length scope ≤ length registers
scope_fits w [] [] registers h = omega arith
scope_fits w [] (m ∷ vars) registers h = absurd h
scope_fits w (i ∷ scope) [] registers h = absurd h
scope_fits w (i ∷ scope) (m ∷ vars) [] h = absurd h
scope_fits w (i ∷ scope) (m ∷ vars) (r ∷ registers) h = omega (arith, scope_fits w scope vars registers h.2)

-- the register of a variable
pub held_at : (w : World) (scope vars : List ℕ) (registers : List Register) (k i : ℕ) → HasVariables w scope vars registers
    → slice_get scope k ≡ Some i → slice_get registers k ≡ Some (Some (i, slice_index vars k))
held_at w [] vars registers k i h e = cc
held_at w (j ∷ scope) [] registers k i h e = absurd h
held_at w (j ∷ scope) (m ∷ vars) [] k i h e = absurd h
held_at w (j ∷ scope) (m ∷ vars) (r ∷ registers) zero i h e = let f = h.0 in cc
held_at w (j ∷ scope) (m ∷ vars) (r ∷ registers) (suc k) i h e = held_at w scope vars registers k i h.2 e

-- the next register is set to one variable more
pub held_more : (w : World) (scope vars : List ℕ) (registers : List Register) (i m : ℕ) → length scope < length registers → m < size_of w i
    → HasVariables w scope vars registers → HasVariables w (scope ++ i ∷ []) (vars ++ m ∷ []) (slice_set registers (length scope) (Some (i, m)))
held_more w [] [] [] i m less member h = absurd (omega arith)
held_more w [] [] (r ∷ registers) i m less member h = (refl, member, tt)
held_more w [] (n ∷ vars) registers i m less member h = absurd h
held_more w (j ∷ scope) [] registers i m less member h = absurd h
held_more w (j ∷ scope) (n ∷ vars) [] i m less member h = absurd h
held_more w (j ∷ scope) (n ∷ vars) (r ∷ registers) i m less member h = (h.0, h.1, held_more w scope vars registers i m (omega arith) member h.2)

-- the last variable goes
pub held_less : (w : World) (scope vars : List ℕ) (registers : List Register) (i m : ℕ) → HasVariables w (scope ++ i ∷ []) (vars ++ m ∷ []) registers
    → HasVariables w scope vars registers
held_less w [] [] registers i m h = tt
held_less w [] (n ∷ []) [] i m h = absurd h
held_less w [] (n ∷ []) (r ∷ registers) i m h = absurd h.2
held_less w [] (n ∷ (o ∷ vars)) [] i m h = absurd h
held_less w [] (n ∷ (o ∷ vars)) (r ∷ registers) i m h = absurd h.2
held_less w (j ∷ []) [] [] i m h = absurd h
held_less w (j ∷ []) [] (r ∷ registers) i m h = absurd h.2
held_less w (j ∷ (o ∷ scope)) [] [] i m h = absurd h
held_less w (j ∷ (o ∷ scope)) [] (r ∷ registers) i m h = absurd h.2
held_less w (j ∷ scope) (n ∷ vars) [] i m h = absurd h
held_less w (j ∷ scope) (n ∷ vars) (r ∷ registers) i m h = (h.0, h.1, held_less w scope vars registers i m h.2)

-- the register of the last variable
pub held_last : (w : World) (scope vars : List ℕ) (registers : List Register) (i m : ℕ) → HasVariables w scope vars registers
    → HasVariables w (scope ++ i ∷ []) (vars ++ m ∷ []) registers → slice_get registers (length scope) ≡ Some (Some (i, m))
held_last w [] [] [] i m g h = absurd h
held_last w [] [] (r ∷ registers) i m g h = ap Some h.0
held_last w [] (n ∷ vars) registers i m g h = absurd g
held_last w (j ∷ scope) [] registers i m g h = absurd g
held_last w (j ∷ scope) (n ∷ vars) [] i m g h = absurd g
held_last w (j ∷ scope) (n ∷ vars) (r ∷ registers) i m g h = held_last w scope vars registers i m g.2 h.2

-- the registers of the scope stay where the next one is set
pub held_still : (w : World) (scope vars : List ℕ) (registers : List Register) (x : Register) → HasVariables w scope vars registers
    → HasVariables w scope vars (slice_set registers (length scope) x)
held_still w [] [] registers x h = tt
held_still w [] (n ∷ vars) registers x h = absurd h
held_still w (j ∷ scope) [] registers x h = absurd h
held_still w (j ∷ scope) (n ∷ vars) [] x h = absurd h
held_still w (j ∷ scope) (n ∷ vars) (r ∷ registers) x h = (h.0, h.1, held_still w scope vars registers x h.2)

-- one variable more
pub scope_more : (w : World) (scope vars : List ℕ) (i m : ℕ) → InScope w scope vars → m < size_of w i → InScope w (scope ++ i ∷ []) (vars ++ m ∷ [])
scope_more w [] [] i m h l = (l, tt)
scope_more w [] (n ∷ vars) i m h l = absurd h
scope_more w (j ∷ scope) [] i m h l = absurd h
scope_more w (j ∷ scope) (n ∷ vars) i m h l = (h.0, scope_more w scope vars i m h.1 l)

-- registers that have the same variables are the same, as many as there are variables
pub same_lower : (w : World) (scope vars : List ℕ) (registers registers2 : List Register) → HasVariables w scope vars registers
    → HasVariables w scope vars registers2 → take (length scope) registers2 ≡ take (length scope) registers
same_lower w [] [] registers registers2 h g = refl
same_lower w [] (m ∷ vars) registers registers2 h g = absurd h
same_lower w (i ∷ scope) [] registers registers2 h g = absurd h
same_lower w (i ∷ scope) (m ∷ vars) [] registers2 h g = absurd h
same_lower w (i ∷ scope) (m ∷ vars) (x ∷ registers) [] h g = absurd g
same_lower w (i ∷ scope) (m ∷ vars) (x ∷ registers) (y ∷ registers2) h g =
    let e : y ≡ x = g.0 ∙ sym h.0 in
    let rest = same_lower w scope vars registers registers2 h.2 g.2 in
    ap (λ z. z ∷ take (length scope) registers2) e ∙ ap (λ l. x ∷ l) rest
