use Rattle.std.proofs.Common.{ap, ◌∙◌}
use Rattle.kts_spec.specs.declared.schema.Schema.{Schema}
use Rattle.kts_classify.proofs.TaskPrefixes.{copied_schema, tasks_are}
use Rattle.kts_classify.proofs.schema_of_tasks.task_schema.Goals as goal

pub new-requires : goal.new-requires
new-requires c =
    let s = c.schema-schema.ensures in
    let name = c.name.ensures ∙ ap (λ (x : Schema). x.name) s in
    let decls = c.in_ok-decls.ensures ∙ c.as_slice.ensures ∙ c.decls.ensures ∙ ap (λ (x : Schema). x.decls) s in
    let indexes = c.in_ok-indexes.ensures ∙ c.as_slice-2.ensures ∙ c.indexes.ensures ∙ ap (λ (x : Schema). x.indexes) s in
    let givens = c.in_ok-givens.ensures ∙ c.as_slice-3.ensures ∙ c.givens.ensures ∙ ap (λ (x : Schema). x.givens) s in
    let choices = c.in_ok-choices.ensures ∙ c.as_slice-4.ensures ∙ c.choices.ensures ∙ ap (λ (x : Schema). x.choices) s in
    let tasks = c.in_ok-tasks.ensures ∙ tasks_are c.args.spec.now c.args.plan.now c.requires in
    copied_schema c.args.spec.now c.name.result c.in_ok-decls.decls c.in_ok-indexes.indexes c.in_ok-givens.givens c.in_ok-choices.choices c.in_ok-tasks.tasks name decls indexes givens choices tasks

pub returns : goal.returns
returns c =
    let s = c.schema-schema.ensures in
    let name = c.name.ensures ∙ ap (λ (x : Schema). x.name) s in
    let decls = c.in_ok-decls.ensures ∙ c.as_slice.ensures ∙ c.decls.ensures ∙ ap (λ (x : Schema). x.decls) s in
    let indexes = c.in_ok-indexes.ensures ∙ c.as_slice-2.ensures ∙ c.indexes.ensures ∙ ap (λ (x : Schema). x.indexes) s in
    let givens = c.in_ok-givens.ensures ∙ c.as_slice-3.ensures ∙ c.givens.ensures ∙ ap (λ (x : Schema). x.givens) s in
    let choices = c.in_ok-choices.ensures ∙ c.as_slice-4.ensures ∙ c.choices.ensures ∙ ap (λ (x : Schema). x.choices) s in
    let tasks = c.in_ok-tasks.ensures ∙ tasks_are c.args.spec.now c.args.plan.now c.requires in
    record {
      name = c.new.ensures.name ∙ name;
      decls = c.new.ensures.decls ∙ decls;
      indexes = c.new.ensures.indexes ∙ indexes;
      givens = c.new.ensures.givens ∙ givens;
      choices = c.new.ensures.choices ∙ choices;
      tasks = c.new.ensures.tasks ∙ tasks;
    }
