use Rattle.kts_spec.proofs.Worked.{one_choice_prints, one_choice_prints_at_first, no_choice_prints, no_choice_prints_none, one_trip_prints, late_release_prints_none, no_request_prints, no_trip_prints_none, nothing_prints, two_trips_allow, idle_allows, capacity_prints, separation_prints, full_row_prints_at_first}
use Rattle.kts_spec.proofs.examples.worked_examples.Goals as goal

pub returns : goal.returns
returns c = record {
  one_choice = one_choice_prints;
  one_choice_in_part = one_choice_prints_at_first;
  no_choice = no_choice_prints;
  no_choice_none = no_choice_prints_none;
  one_trip = one_trip_prints;
  late_release = late_release_prints_none;
  no_request = no_request_prints;
  no_trip = no_trip_prints_none;
  nothing = nothing_prints;
  two_trips = two_trips_allow;
  idle_trip = idle_allows;
  manifest = capacity_prints;
  inner_access = separation_prints;
  two_arguments = full_row_prints_at_first;
}
