use Rattle.kts_spec.proofs.CellPlaces.{cells_have_numbers, entries_have_values, tables_have_values}
use Rattle.kts_spec.proofs.TuplePlaces.{tuples_have_places}
use Rattle.kts_spec.proofs.laws.places_law.Goals as goal

pub returns : goal.returns
returns c = record { tuples = tuples_have_places; cells = cells_have_numbers; entries = entries_have_values; tables = tables_have_values }
