-- The worked runs of saves under another name, by computing.
use Rattle.std.proofs.Common.{◌≡◌, ◌++◌, List, [], ◌∷◌, codes, refl}
use Rattle.std.specs.Fmt.{digits}
use Rattle.server_model.specs.Pictures.{picture_of}
use Rattle.container_model.specs.Opens.{Given}
use Rattle.container_model.specs.declared.fault.ContainerFault.TheVariants.{Busy, NoSuch}
use Rattle.world_model.specs.declared.logs.EventAnswer.TheVariants.{Refused}
use Rattle.world_model.specs.OpenRuns.{stored_note}
use Rattle.world_model.specs.Report.{frame_line, object_line, done_line, session_line}
use Rattle.world_model.specs.RenameRuns.{WorkedLostRename, WorkedNames, WorkedPassiveRename, WorkedRename}
use Rattle.world_model.specs.RenameRuns.{WorkedRenames, WorkedReopen}
use Rattle.world_model.specs.RenameRuns.{opened_again, opened_as, renamed_answers}

pub worked_rename : WorkedRename
unfolding digits frame_line object_line done_line session_line picture_of
worked_rename = record { answers = refl; told = refl; away = refl }

borne : opened_as (codes "b") Given.Missing ≡ renamed_answers ++ Refused Busy ∷ []
unfolding picture_of
borne = refl

old : opened_as (codes "a") (Given.Holding (record { session = 0; objects = stored_note ∷ [] }))
    ≡ renamed_answers ++ opened_again ∷ []
unfolding picture_of
old = refl

missing : opened_as (codes "c") Given.Missing ≡ renamed_answers ++ Refused NoSuch ∷ []
unfolding picture_of
missing = refl

pub worked_reopen : WorkedReopen
unfolding picture_of
worked_reopen = record { borne = borne; old = old; missing = missing; undelivered = refl }

pub worked_passive_rename : WorkedPassiveRename
unfolding digits frame_line object_line done_line session_line picture_of
worked_passive_rename = record { answers = refl; told = refl; passive_answers = refl; passive_told = refl }

pub worked_lost_rename : WorkedLostRename
unfolding digits frame_line object_line done_line session_line picture_of
worked_lost_rename = record { answers = refl; told = refl }

pub worked_names : WorkedNames
unfolding picture_of
worked_names = record { busy = refl; asked = refl }

pub worked_renames : WorkedRenames
worked_renames = record {
  rename = worked_rename;
  reopen = worked_reopen;
  passive_rename = worked_passive_rename;
  lost_rename = worked_lost_rename;
  names = worked_names;
}
