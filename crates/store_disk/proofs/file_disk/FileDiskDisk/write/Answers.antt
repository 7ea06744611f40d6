use Rattle.store_disk.proofs.file_disk.FileDiskDisk.write.Goals as goal

pub invariant_of-self : goal.invariant_of-self
invariant_of-self g c = record {
  sound = λ is. c.in-Ok.ensures.sound.written (c.args.self.now.sound is);
  named = λ is. c.write_whole.ensures.sound.named (c.args.self.now.named is);
}

pub invariant_of-self-in-Err : goal.invariant_of-self-in-Err
invariant_of-self-in-Err g c = record {
  sound = λ is. c.in-Err.ensures.sound.refused (c.may_lie_after-self.ensures.room is)
      (c.args.self.now.sound (c.may_lie_after-self.ensures.before is));
  named = λ is. c.write_whole.ensures.sound.named (c.args.self.now.named is);
}
