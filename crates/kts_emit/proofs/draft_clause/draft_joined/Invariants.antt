use Rattle.std.proofs.Common.{◌≡◌, ◌+◌, ◌++◌, drop, length, map}
use Rattle.kts_code.specs.declared.instructions.Instr.TheVariants.{Or}
use Rattle.kts_emit.specs.Fragments.{chain_rest}
use Rattle.kts_emit.specs.Bodies.{literal_code}
use Rattle.kts_emit.proofs.draft_clause.draft_joined.Given as goal

abbrev pub invariant-loop-literal : goal.invariant-loop-literal
invariant-loop-literal l =
    l.draft ++ chain_rest Or (map literal_code (drop l.literal-index l.literals)) (l.base + length l.draft) l.scope
    ≡ l.initial.draft ++ chain_rest Or (map literal_code l.literals) (l.base + length l.initial.draft) l.scope
