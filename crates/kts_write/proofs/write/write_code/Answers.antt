use Rattle.std.proofs.Common.{◌≡◌, ℕ, List, ◌++◌, ◌∷◌, [], map, length, subst, Result}
use Rattle.std.specs.Prelude.{zip}
use Rattle.std.proofs.lemmas.Result.{err_from_is_err_and}
use Rattle.kts_base.specs.Writes.{Log, Done, Stopped, Wrote}
use Rattle.kts_base.proofs.Pieces.{after, stops_first, stops_later}
use Rattle.kts_code.specs.CodeTexts.{header_words, name_words, decl_words, task_words, wake_words, stack_words, size_words, instr_words, end_words}
use Rattle.kts_spec.specs.declared.schema.Schema.{Schema}
use Rattle.kts_write.proofs.LineTexts.{lines_text, code_pieces}
use Rattle.kts_write.proofs.write.write_code.Goals as goal

abbrev schema_lines : Schema → List ℕ
schema_lines schema = lines_text (header_words ∷ name_words schema.name ∷ map (decl_words schema) schema.decls)

-- what was written of an equal schema
done_of : (a b : Log) (s t : Schema) → s ≡ t → Done a b (schema_lines s) → Done a b (schema_lines t)
done_of a b s t e h = subst (λ (schema : Schema). Done a b (schema_lines schema)) e h

stopped_of : (a b : Log) (s t : Schema) → s ≡ t → Stopped a b (schema_lines s) → Stopped a b (schema_lines t)
stopped_of a b s t e h = subst (λ (schema : Schema). Stopped a b (schema_lines schema)) e h

-- what was written of an equal text
stopped_as : (a b : Log) (x y : List ℕ) → x ≡ y → Stopped a b x → Stopped a b y
stopped_as a b x y e h = subst (λ (text : List ℕ). Stopped a b text) e h

wrote_as : {T E : Type 0} (result : Result T E) (a b : Log) (x y : List ℕ) → x ≡ y → Wrote result a b x → Wrote result a b y
wrote_as result a b x y e h = subst (λ (text : List ℕ). Wrote result a b text) e h

pub returns-in_err-put_schema : goal.returns-in_err-put_schema
returns-in_err-put_schema g c =
    let p = err_from_is_err_and c.from_residual.result c.from_residual.ensures.1 in
    let code = c.args.code.now in
    let constraints = lines_text (map task_words (zip code.entries code.schema.tasks)) ++ lines_text (map wake_words code.index) in
    let body = lines_text (stack_words code.stack ∷ size_words (length code.instrs) ∷ (map instr_words code.instrs ++ end_words ∷ [])) in
    let front = stopped_of _ _ c.schema.result.now code.schema c.schema.ensures c.in_err-put_schema.ensures in
    rw p.1 (stopped_as _ _ _ _ (code_pieces code) (stops_first (constraints ++ body) front))

pub returns-in_err-put_constraints : goal.returns-in_err-put_constraints
returns-in_err-put_constraints g c =
    let p = err_from_is_err_and c.from_residual-in_err-put_constraints.result c.from_residual-in_err-put_constraints.ensures.1 in
    let code = c.args.code.now in
    let body = lines_text (stack_words code.stack ∷ size_words (length code.instrs) ∷ (map instr_words code.instrs ++ end_words ∷ [])) in
    let front = done_of _ _ c.schema.result.now code.schema c.schema.ensures c.in_ok-put_schema.ensures in
    rw p.1 (stopped_as _ _ _ _ (code_pieces code) (stops_later front (stops_first body c.in_err-put_constraints.ensures)))

pub returns : goal.returns
returns g c =
    let code = c.args.code.now in
    let constraints = lines_text (map task_words (zip code.entries code.schema.tasks)) ++ lines_text (map wake_words code.index) in
    let body = lines_text (stack_words code.stack ∷ size_words (length code.instrs) ∷ (map instr_words code.instrs ++ end_words ∷ [])) in
    let front = done_of _ _ c.schema.result.now code.schema c.schema.ensures c.in_ok-put_schema.ensures in
    let rest = after c.put_body.result _ body c.in_ok-put_constraints.ensures c.put_body.ensures in
    wrote_as c.put_body.result _ _ _ _ (code_pieces code) (after c.put_body.result _ (constraints ++ body) front rest)
