use Rattle.store_disk.proofs.file_disk.FileDiskDisk.cut.Goals as goal

pub invariant_of-self : goal.invariant_of-self
invariant_of-self g c = record {
  sound = λ is. c.cut_longer.ensures.sound.sound (c.args.self.now.sound is);
  named = λ is. c.cut_longer.ensures.sound.named (c.args.self.now.named is);
}

pub invariant_of-self-in-Err : goal.invariant_of-self-in-Err
invariant_of-self-in-Err g c = record {
  sound = λ is. c.cut_longer.ensures.sound.sound (c.args.self.now.sound is);
  named = λ is. c.cut_longer.ensures.sound.named (c.args.self.now.named is);
}
