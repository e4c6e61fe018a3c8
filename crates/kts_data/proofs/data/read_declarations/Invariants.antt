use Rattle.std.proofs.Common.{◌≡◌, drop}
use Rattle.serde_json.specs.View.{view}
use Rattle.kts_data.specs.Drafts.{instance_in}
use Rattle.kts_data.specs.Faults.{fold_read}
use Rattle.kts_data.specs.Instances.{empty_instance, with_declaration}
use Rattle.kts_data.proofs.data.read_declarations.Given as goal

abbrev pub invariant-loop-decl : goal.invariant-loop-decl
invariant-loop-decl l =
    fold_read (with_declaration l.schema (view l.value)) (instance_in l.draft) (drop l.decl-index l.schema.decls)
    ≡ fold_read (with_declaration l.schema (view l.value)) empty_instance l.schema.decls
