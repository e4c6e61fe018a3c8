use Rattle.std.proofs.Common.{◌≡◌, ◌+◌, ◌++◌, drop, map, length, true}
use Rattle.kts_code.specs.declared.instructions.Instr.TheVariants.{Add}
use Rattle.kts_emit.specs.Fragments.{sequence}
use Rattle.kts_emit.specs.Codes.{term_code, formula_code}
use Rattle.kts_emit.proofs.DraftedCode.{chain_left}
use Rattle.kts_emit.proofs.draft.+draft.Given as goal

abbrev pub invariant-draft_terms-loop-part : goal.invariant-draft_terms-loop-part
invariant-draft_terms-loop-part l =
    l.draft ++ sequence (map term_code (drop l.part-index l.parts)) (l.base + length l.draft) l.scope
    ≡ l.initial.draft ++ sequence (map term_code l.parts) (l.base + length l.initial.draft) l.scope

abbrev pub invariant-draft_sum-loop-part : goal.invariant-draft_sum-loop-part
invariant-draft_sum-loop-part l =
    l.draft ++ chain_left l.first Add (map term_code (drop l.part-index l.parts)) (l.base + length l.draft) l.scope
    ≡ l.initial.draft ++ chain_left true Add (map term_code l.parts) (l.base + length l.initial.draft) l.scope

abbrev pub invariant-draft_chain-loop-part : goal.invariant-draft_chain-loop-part
invariant-draft_chain-loop-part l =
    l.draft ++ chain_left l.first l.join (map formula_code (drop l.part-index l.parts)) (l.base + length l.draft) l.scope
    ≡ l.initial.draft ++ chain_left true l.join (map formula_code l.parts) (l.base + length l.initial.draft) l.scope
