use Rattle.store_disk.proofs.file_disk.FileDiskDisk.length.Goals as goal

pub invariant_of-self : goal.invariant_of-self
invariant_of-self g c = record {
  sound = λ is. c.length.ensures.sound.sound (c.args.self.now.sound is);
  named = λ is. c.length.ensures.sound.named (c.args.self.now.named is);
}

pub invariant_of-self-in-Err : goal.invariant_of-self-in-Err
invariant_of-self-in-Err g c = record {
  sound = λ is. c.length.ensures.sound.sound (c.args.self.now.sound is);
  named = λ is. c.length.ensures.sound.named (c.args.self.now.named is);
}
