use Rattle.std.proofs.Common.{◌≡◌, ◌<◌, ◌≤◌, ◌∙◌, ap, sym, subst, length, rules, arith}
use Rattle.kts_base.specs.Limits.{most_arguments}
use Rattle.kts_spec.specs.declared.schema.Schema.{Schema}
use Rattle.kts_spec.specs.Schemas.{family_at}
use Rattle.kts_spec.specs.Worlds.{world_of, choice_of}
use Rattle.kts_machine.proofs.DataFacts.{choice_facts}
use Rattle.kts_machine.proofs.machine.Machine.choice.Goals as goal

pub arguments-requires : goal.arguments-requires
arguments-requires g c =
    let few = c.self.invariant.fits.few_words in
    let declared : c.args.x < length c.self.inside.code.schema.choices = rw (← c.self.view_is) at c.requires.declared in
    let args = (choice_facts c.self.inside.code.schema c.self.inside.inst c.self.invariant.fits.valid c.args.x declared).few in
    let same : c.choice_args-indexes.result.now ≡ (choice_of (world_of c.self.inside.code.schema c.self.inside.inst) c.args.x).args =
    c.choice_args-indexes.ensures ∙ ap (λ (s : Schema). (family_at s.choices c.args.x).args) c.schema-schema.ensures in
    (omega arith, (search rules, (few, subst (λ l. length l ≤ most_arguments) (sym same) args)))
