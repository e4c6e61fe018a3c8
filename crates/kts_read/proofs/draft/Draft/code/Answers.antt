use Rattle.std.proofs.Common.{◌^◌, ◌<◌, ℕ, List, sym, subst}
use Rattle.std.specs.Prelude.{All}
use Rattle.kts_read.proofs.WholeCode.{schema_of, small_entries, entries_same, code_parts}
use Rattle.kts_read.proofs.draft.Draft.code.Goals as goal

pub entries_of-requires : goal.entries_of-requires
entries_of-requires c =
    subst (λ (es : List ℕ). All (λ entry. entry < 2 ^ 32) es) (sym c.as_slice.ensures) (small_entries c.args.self.constraints.entries c.args.self.size c.requires.whole.2.small c.requires.whole.2.placed)

pub new-schema-requires : goal.new-schema-requires
new-schema-requires c = schema_of c.args.self c.in-Some.name c.requires.whole.0 c.in-Some.is

pub new-requires : goal.new-requires
new-requires c =
    code_parts c.args.self c.new-schema.result c.in-Ok.entries c.new-index.result c.requires.whole
    (record { indexes = c.new-schema.ensures.indexes; givens = c.new-schema.ensures.givens; choices = c.new-schema.ensures.choices; tasks = c.new-schema.ensures.tasks })
    (entries_same c.as_slice.result.now c.in-Ok.entries c.args.self.constraints.entries c.in-Ok.ensures c.as_slice.ensures) c.new-index.ensures
