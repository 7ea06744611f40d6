-- The worked runs of frames' grants, by computing.
use Rattle.std.proofs.Common.{refl}
use Rattle.std.specs.Fmt.{digits}
use Rattle.server_model.specs.Pictures.{picture_of}
use Rattle.world_model.specs.Report.{frame_line, object_line, done_line, hold_line, session_line}
use Rattle.world_model.specs.GrantRuns.{WorkedTurns, WorkedFreeing, WorkedOffer, WorkedHeldClose, WorkedGrants}

pub worked_turns : WorkedTurns
unfolding digits frame_line object_line done_line hold_line session_line picture_of
worked_turns = record { answers = refl; told = refl }

pub worked_freeing : WorkedFreeing
unfolding digits frame_line object_line done_line hold_line session_line picture_of
worked_freeing = record { answers = refl; crashed = refl; told = refl }

pub worked_offer : WorkedOffer
unfolding digits frame_line object_line done_line hold_line session_line picture_of
worked_offer = record { answers = refl; held = refl; wide = refl }

pub worked_held_close : WorkedHeldClose
unfolding digits frame_line object_line done_line hold_line session_line picture_of
worked_held_close = record { answers = refl; told = refl }

pub worked_grants : WorkedGrants
worked_grants = record {
  turns = worked_turns;
  freeing = worked_freeing;
  offer = worked_offer;
  held_close = worked_held_close;
}
