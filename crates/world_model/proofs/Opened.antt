-- The worked runs of files that are opened, by computing.
use Rattle.std.proofs.Common.{refl}
use Rattle.std.specs.Fmt.{digits}
use Rattle.uuid.specs.Text.{by_index}
use Rattle.server_model.specs.Pictures.{picture_of}
use Rattle.world_model.specs.Report.{frame_line, object_line, done_line, session_line}
use Rattle.world_model.specs.OpenRuns.{WorkedFirstOpen, WorkedOpenBeside, WorkedOpens, WorkedRefusedOpens}

pub worked_open_beside : WorkedOpenBeside
unfolding digits by_index frame_line object_line done_line session_line picture_of
worked_open_beside = record { answers = refl; session = refl; told = refl; run = refl; run_told = refl }

pub worked_refused_opens : WorkedRefusedOpens
unfolding picture_of
worked_refused_opens = record {
  borne = refl;
  no_size = refl;
  missing = refl;
  broken = refl;
  too_many = refl;
  frames = refl;
  two_frames = refl;
  three_objects = refl;
}

pub worked_first_open : WorkedFirstOpen
unfolding digits by_index frame_line object_line done_line session_line picture_of
worked_first_open = record { session = refl; told = refl; spent = refl }

pub worked_opens : WorkedOpens
worked_opens = record {
  open_beside = worked_open_beside;
  refused_opens = worked_refused_opens;
  first_open = worked_first_open;
}
