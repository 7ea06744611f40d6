-- The worked runs with stops, by computing.
use Rattle.std.proofs.Common.{refl}
use Rattle.std.specs.Fmt.{digits}
use Rattle.uuid.specs.Text.{by_index}
use Rattle.server_model.specs.Pictures.{picture_of}
use Rattle.world_model.specs.Report.{frame_line, object_line, done_line, session_line}
use Rattle.world_model.specs.StopRuns.{WorkedKeptStop, WorkedLostStop, WorkedRaisingStop, WorkedStops}

pub worked_kept_stop : WorkedKeptStop
unfolding digits by_index frame_line object_line done_line session_line picture_of
worked_kept_stop = record { answers = refl; told = refl }

pub worked_lost_stop : WorkedLostStop
unfolding digits by_index frame_line object_line done_line session_line picture_of
worked_lost_stop = record { told = refl; none_made = refl; none_opened = refl; goes_on = refl }

pub worked_raising_stop : WorkedRaisingStop
unfolding digits by_index frame_line object_line done_line session_line picture_of
worked_raising_stop = record { kept = refl; lost = refl; unasked = refl }

pub worked_stops : WorkedStops
worked_stops = record {
  kept_stop = worked_kept_stop;
  lost_stop = worked_lost_stop;
  raising_stop = worked_raising_stop;
}
