use Rattle.std.proofs.Common.{subst}
use Rattle.kts_top.specs.Endings.{EndsOrLacks}
use Rattle.kts_top.specs.Lines.{Owed}
use Rattle.kts_top.specs.Options.{first_hundred}
use Rattle.kts_top.specs.Samples.{summary}
use Rattle.kts_top.proofs.ProgramAnswers.{run_is_answer}
use Rattle.kts_top.proofs.sample.summarize_instance.Goals as goal

pub returns : goal.returns
returns g c =
    let spec = c.args.spec.now in
    let code = c.args.code.now in
    let inst = c.args.inst.now in
    let prints = c.whole_code_searches.ensures.answers spec inst code c.requires.code c.requires.valid in
    subst (λ (o : Owed). EndsOrLacks c.summarize_code.result (g.S.Sink.log c.args.out.now) (g.S.Sink.log c.summarize_code.new.out) (summary c.args.size o))
    (run_is_answer spec code inst c.requires.code prints c.progress_law.ensures.stopped first_hundred) c.summarize_code.ensures
