-- The worked runs, by computing.
use Rattle.std.proofs.Common.{refl}
use Rattle.std.specs.Fmt.{digits}
use Rattle.server_model.specs.Pictures.{picture_of}
use Rattle.world_model.specs.Report.{frame_line, object_line, done_line, session_line}
use Rattle.world_model.specs.Runs.{WorkedSave, WorkedEarlyCrash, WorkedLateCrash, WorkedDoubt, WorkedRepeats}
use Rattle.world_model.specs.Runs.{WorkedReload, WorkedBadEdit, WorkedLimits}
use Rattle.world_model.specs.Runs.{WorkedDelete, WorkedWrites, WorkedClose, WorkedSession, WorkedSpelling, WorkedFile}
use Rattle.world_model.specs.Runs.{WorkedRuns}

pub worked_save : WorkedSave
unfolding digits frame_line object_line done_line session_line picture_of
worked_save = record { answers = refl; told = refl }

pub worked_early_crash : WorkedEarlyCrash
unfolding digits frame_line object_line done_line session_line picture_of
worked_early_crash = record { answers = refl; told = refl }

pub worked_late_crash : WorkedLateCrash
unfolding digits frame_line object_line done_line session_line picture_of
worked_late_crash = record { answers = refl; told = refl }

pub worked_doubt : WorkedDoubt
unfolding digits frame_line object_line done_line session_line picture_of
worked_doubt = record {
  kept_answers = refl;
  kept_told = refl;
  lost_answers = refl;
  lost_told = refl;
  in_doubt = refl;
  not_asked = refl;
  not_in_doubt = refl;
  not_done = refl;
}

pub worked_repeats : WorkedRepeats
unfolding picture_of
worked_repeats = record { answers = refl; told = refl }

pub worked_reload : WorkedReload
unfolding digits frame_line object_line done_line session_line picture_of
worked_reload = record { answers = refl; told = refl; out_of_stock = refl }

pub worked_bad_edit : WorkedBadEdit
unfolding digits frame_line object_line done_line session_line picture_of
worked_bad_edit = record { answers = refl; told = refl }

pub worked_limits : WorkedLimits
worked_limits = record {
  frames = refl;
  objects = refl;
  servers = refl;
  three_numbers = refl;
  one_number = refl;
  undelivered = refl;
}

pub worked_delete : WorkedDelete
unfolding digits frame_line object_line done_line session_line picture_of
worked_delete = record { answers = refl; told = refl }

pub worked_writes : WorkedWrites
unfolding digits frame_line object_line done_line session_line picture_of
worked_writes = record { answers = refl; told = refl }

pub worked_close : WorkedClose
unfolding digits frame_line object_line done_line session_line picture_of
worked_close = record { answers = refl; told = refl }

pub worked_session : WorkedSession
unfolding digits frame_line session_line picture_of
worked_session = record {
  answers = refl;
  told = refl;
  kept_answers = refl;
  kept_told = refl;
  frameless_answers = refl;
  frameless_told = refl;
  spent_answers = refl;
  spent_told = refl;
}

pub worked_spelling : WorkedSpelling
unfolding digits frame_line
worked_spelling = record { in_doubt = refl; streams = refl; empty = refl }

pub worked_file : WorkedFile
worked_file = record { stored = refl; in_doubt = refl }

pub worked_runs : WorkedRuns
worked_runs = record {
  save = worked_save;
  early_crash = worked_early_crash;
  late_crash = worked_late_crash;
  doubt = worked_doubt;
  repeats = worked_repeats;
  reload = worked_reload;
  bad_edit = worked_bad_edit;
  limits = worked_limits;
  delete = worked_delete;
  writes = worked_writes;
  close = worked_close;
  session = worked_session;
  spelling = worked_spelling;
  file = worked_file;
}
