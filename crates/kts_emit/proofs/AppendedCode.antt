-- Lists that instructions are appended to, and cut off from.
use Rattle.std.proofs.Common.{◌≡◌, ℕ, ◌<◌, ◌≤◌, List, [], ◌∷◌, ◌++◌, length, take, sym, ap, ◌∙◌, arith, length-append}
use Rattle.std.proofs.Math.Seq.{take-append_seam}
use Rattle.std.proofs.lemmas.List.{take-append-le}
use Rattle.kts_code.specs.declared.instructions.Instr.{Instr}

-- what was there before stays in front
pub front_stays : (list more : List Instr) → take (length list) (list ++ more) ≡ list
front_stays list more = take-append_seam list more

-- the front stays where the last item goes
pub front_left : (count : ℕ) (list left : List Instr) (last : Instr) → list ≡ left ++ last ∷ [] → count < length list → take count left ≡ take count list
front_left count list left last e less =
    let le : count ≤ length left = omega (arith, ap length e, length-append left (last ∷ [])) in
    sym (ap (take count) e ∙ take-append-le count left (last ∷ []) le)
