use Rattle.std.proofs.Common.{◌≡◌, true}
use Rattle.store_disk.proofs.Runs.{either_way}
use Rattle.store_disk.proofs.file_disk.FileDiskDisk.sync.Goals as goal

pub invariant_of-self-in-Ok : goal.invariant_of-self-in-Ok
invariant_of-self-in-Ok g c = record {
  sound = λ is. c.in-Ok.ensures.sound;
  named = λ is. either_way c.args.self.now.names_synced (g.F.DiskFiles.has_names c.sync_with_names.new.files ≡ true)
      (λ was. c.in-Ok.ensures.named (c.args.self.now.named was)) c.in-Ok.ensures.made;
}

pub invariant_of-self-in-Err : goal.invariant_of-self-in-Err
invariant_of-self-in-Err g c =
    record { sound = λ is. cc; named = λ is. c.sync_with_names.ensures.named (c.args.self.now.named is) }

pub returns-in-Ok-clause-named : goal.returns-in-Ok-clause-named
returns-in-Ok-clause-named g c = either_way c.args.self.now.names_synced
    (g.F.DiskFiles.has_names c.sync_with_names.new.files ≡ true)
    (λ was. c.in-Ok.ensures.named (c.args.self.now.named was)) c.in-Ok.ensures.made
