use Rattle.std.proofs.Common.{◌≡◌, ◌++◌, map, take}
use Rattle.std.specs.Prelude.{flat_map}
use Rattle.kts_classify.specs.SignedTerms.{addend_of, signed_addends}
use Rattle.kts_classify.proofs.addends.+addends.Given as goal

-- the addends of the parts so far are appended
abbrev pub invariant-add_each-loop-part : goal.invariant-add_each-loop-part
invariant-add_each-loop-part l = map (λ t. addend_of t.0 t.1.now) l.sum ≡ map (λ t. addend_of t.0 t.1.now) l.initial.sum ++ flat_map (signed_addends l.minus) (take l.part-index l.parts)
