use Rattle.write_parts.proofs.Sent.{sends_into}
use Rattle.write_files.proofs.sent_streams.send_minis.Goals as goal

pub returns : goal.returns
returns g c = sends_into _ _ _ _ _ _ c.in_ok-make_room.ensures c.in_ok-push_minis.ensures
