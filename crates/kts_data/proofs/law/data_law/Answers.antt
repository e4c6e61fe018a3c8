use Rattle.kts_data.proofs.DataLaws.{data_sound, data_complete}
use Rattle.kts_data.proofs.law.data_law.Goals as goal

pub returns : goal.returns
returns c schema bytes inst = (data_sound schema bytes inst, data_complete schema bytes inst)
