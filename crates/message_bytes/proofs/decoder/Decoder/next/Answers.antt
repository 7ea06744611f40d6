use Rattle.std.proofs.Common.{refl, ◌∙◌, ap, drop, subst, Option}
use Rattle.message_model.specs.declared.fault.WireFault.{WireFault}
use Rattle.message_model.specs.Frames.{Reads}
use Rattle.message_bytes.proofs.Fronts.{next_some, next_none, emptied}
use Rattle.message_bytes.proofs.decoder.Decoder.next.Goals as goal

pub returns-in-Some : goal.returns-in-Some
returns-in-Some c fed taken s = next_some c.args.self.now _ c.in-Some.frame fed taken c.in-Some.ensures.items refl
    refl s

pub returns-in-Some-fault : goal.returns-in-Some-fault
returns-in-Some-fault c fed taken s =
    let n = next_none c.args.self.now
    (record {
      alloc = c.args.self.now.alloc;
      waiting = c.pop_front.new.self;
      bytes = c.args.self.now.bytes;
      fault = c.args.self.now.fault;
    }) fed taken c.in-None.ensures.items
    (emptied c.pop_front.new.self.items (c.in-None.ensures.rest ∙ ap (drop 1) c.in-None.ensures.items)) refl
    refl s in
    (n.0, subst (λ (e : Option WireFault). Reads fed taken e) c.in-Some-fault.is n.1)

pub returns-in-None-fault : goal.returns-in-None-fault
returns-in-None-fault c fed taken s =
    let n = next_none c.args.self.now
    (record {
      alloc = c.args.self.now.alloc;
      waiting = c.pop_front.new.self;
      bytes = c.args.self.now.bytes;
      fault = c.args.self.now.fault;
    }) fed taken c.in-None.ensures.items
    (emptied c.pop_front.new.self.items (c.in-None.ensures.rest ∙ ap (drop 1) c.in-None.ensures.items)) refl
    refl s in
    (n.0, subst (λ (e : Option WireFault). Reads fed taken e) c.in-None-fault.is n.1)
