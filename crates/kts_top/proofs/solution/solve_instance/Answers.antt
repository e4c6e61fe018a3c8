use Rattle.std.proofs.Common.{subst}
use Rattle.kts_top.specs.Endings.{EndsOrLacks}
use Rattle.kts_top.specs.Lines.{Owed}
use Rattle.kts_top.proofs.ProgramAnswers.{run_is_answer}
use Rattle.kts_top.proofs.solution.solve_instance.Goals as goal

pub returns : goal.returns
returns g c =
    let spec = c.args.spec.now in
    let code = c.args.code.now in
    let inst = c.args.inst.now in
    let prints = c.whole_code_searches.ensures.answers spec inst code c.requires.code c.requires.valid in
    subst (λ (o : Owed). EndsOrLacks c.run_code.result (g.S.Sink.log c.args.out.now) (g.S.Sink.log c.run_code.new.out) o)
    (run_is_answer spec code inst c.requires.code prints c.progress_law.ensures.stopped c.args.options) c.run_code.ensures
