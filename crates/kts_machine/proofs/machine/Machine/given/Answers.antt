use Rattle.std.proofs.Common.{◌≡◌, ◌<◌, ◌≤◌, ◌∙◌, ap, sym, subst, length, rules, arith}
use Rattle.kts_base.specs.Limits.{most_arguments}
use Rattle.kts_spec.specs.declared.schema.Schema.{Schema}
use Rattle.kts_spec.specs.Schemas.{family_at}
use Rattle.kts_spec.specs.Worlds.{world_of, given_of}
use Rattle.kts_machine.proofs.DataFacts.{given_facts}
use Rattle.kts_machine.proofs.machine.Machine.given.Goals as goal

pub arguments-requires : goal.arguments-requires
arguments-requires g c =
    let few = c.self.invariant.fits.few_words in
    let declared : c.args.f < length c.self.inside.code.schema.givens = rw (← c.self.view_is) at c.requires.declared in
    let args = (given_facts c.self.inside.code.schema c.self.inside.inst c.self.invariant.fits.valid c.args.f declared).few in
    let same : c.given_args-indexes.result.now ≡ (given_of (world_of c.self.inside.code.schema c.self.inside.inst) c.args.f).args =
    c.given_args-indexes.ensures ∙ ap (λ (s : Schema). (family_at s.givens c.args.f).args) c.schema-schema.ensures in
    (omega arith, (search rules, (few, subst (λ l. length l ≤ most_arguments) (sym same) args)))
