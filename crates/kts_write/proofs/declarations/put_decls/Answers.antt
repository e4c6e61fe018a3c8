use Rattle.std.proofs.Common.{ℕ, zero, suc, ◌+◌, ◌<◌, List, [], ◌∷◌, length, get_or, drop, map, arith}
use Rattle.std.specs.List.{AllByRecursion}
use Rattle.std.proofs.lemmas.Result.{err_from_is_err_and}
use Rattle.kts_base.proofs.Pieces.{goes_on, stops}
use Rattle.kts_code.specs.CodeTexts.{decl_words}
use Rattle.kts_write.specs.Declarations.{IsIn}
use Rattle.kts_write.proofs.LineTexts.{lines_text, lines_at}
use Rattle.kts_write.proofs.declarations.put_decls.Goals as goal

at_item : {X : Type 0} (P : X → Type 0) (xs : List X) (k : ℕ) (d : X) → k < length xs → AllByRecursion P xs → P (get_or xs k d)
at_item P [] k d h all = absurd (omega (arith, h))
at_item P (x ∷ xs) zero d h all = all.0
at_item P (x ∷ xs) (suc k) d h all = at_item P xs k d (omega (arith, h)) all.1

pub put_decl-requires : goal.put_decl-requires
put_decl-requires g c = at_item (IsIn c.args.schema.now) c.args.decls.now c.loop-decl.decl-index _ c.loop-decl-test.true c.requires

pub returns-in_err-put_decl : goal.returns-in_err-put_decl
returns-in_err-put_decl g c =
    let p = err_from_is_err_and c.from_residual.result c.from_residual.ensures.1 in
    let words = decl_words c.args.schema.now in
    rw p.1 (stops (lines_text (map words (drop (c.loop-decl.decl-index + 1) c.args.decls.now))) c.loop-decl.invariant
    (lines_at words c.args.decls.now c.loop-decl.decl-index _ c.loop-decl-test.true) c.in_err-put_decl.ensures)

pub loop-decl-preserved : goal.loop-decl-preserved
loop-decl-preserved g c =
    let words = decl_words c.args.schema.now in
    goes_on (lines_text (map words (drop (c.loop-decl.decl-index + 1) c.args.decls.now))) c.loop-decl.invariant
    (lines_at words c.args.decls.now c.loop-decl.decl-index _ c.loop-decl-test.true) c.in_ok-put_decl.ensures
