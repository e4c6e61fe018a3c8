use Rattle.std.proofs.Common.{sym, ap, ◌∙◌, map, option_map, Option}
use Rattle.std.specs.Prelude.{string_bytes}
use Rattle.kts_top.specs.Shown.{plain_command}
use Rattle.kts_top.specs.declared.command.Command.{Command}
use Rattle.kts_top.proofs.CommandWords.{sized}
use Rattle.kts_top.proofs.top.answer.Goals as goal

pub answer_command-requires : goal.answer_command-requires
answer_command-requires g c = record {
  sized = sized (map string_bytes c.args.words.now) (plain_command c.in-Some.command) (sym c.read_command.ensures ∙ ap (λ (o : Option Command). option_map plain_command o) c.in-Some.is);
}
