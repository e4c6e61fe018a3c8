use Rattle.std.proofs.Common.{◌≡◌, ◌+◌, ◌++◌, drop, length}
use Rattle.kts_emit.specs.Bodies.{later_code}
use Rattle.kts_emit.proofs.draft_body.draft_later.Given as goal

abbrev pub invariant-loop-addend : goal.invariant-loop-addend
invariant-loop-addend l =
    l.draft ++ later_code (drop l.addend-index l.addends) (l.base + length l.draft) l.scope
    ≡ l.initial.draft ++ later_code l.addends (l.base + length l.initial.draft) l.scope
