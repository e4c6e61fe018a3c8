use Rattle.kts_data.proofs.PlanLaws.{plan_sound, plan_complete}
use Rattle.kts_data.proofs.law.plan_law.Goals as goal

pub returns : goal.returns
returns c schema inst valid named bytes schedule = (plan_sound schema inst bytes schedule, plan_complete schema inst valid named bytes schedule)
