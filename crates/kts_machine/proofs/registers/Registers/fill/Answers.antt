use Rattle.std.proofs.Common.{◌≡◌, ◌∙◌, length, None, arith}
use Rattle.std.proofs.lemmas.List.{length-set}
use Rattle.kts_base.specs.Limits.{most_variables}
use Rattle.kts_code.specs.Queues.{registers_of}
use Rattle.kts_machine.proofs.RegisterLists.{length-registers_of, agree_more, set_small}
use Rattle.kts_machine.proofs.registers.Registers.fill.Goals as goal

pub loop-r-preserved : goal.loop-r-preserved
loop-r-preserved c =
    let registers = registers_of most_variables c.args.prefix.now c.args.tuple.now in
    let long = c.loop-r.invariant.long in
    let whole : length registers ≡ most_variables = length-registers_of most_variables c.args.prefix.now c.args.tuple.now in
    record {
      long = length-set c.loop-r.slots c.loop-r.r c.register_at.result ∙ long;
      same = agree_more c.loop-r.slots registers c.loop-r.r None c.register_at.result (omega (arith, long, c.loop-r-test.true)) (omega (arith, whole, c.loop-r-test.true)) c.loop-r.invariant.same c.register_at.ensures.value;
      small = set_small c.loop-r.slots c.loop-r.r c.register_at.result c.loop-r.invariant.small c.register_at.ensures.small;
    }
