-- What a reply makes of an object, from what it makes of its link.
use Rattle.std.proofs.Common.{◌≡◌, Bool, List, Option, Result, Ok, Err, is_some, refl, ap, ◌∙◌}
use Rattle.tree_streams.specs.declared.stored.Stored.{Stored}
use Rattle.message_values.specs.declared.refusal.Refusal.{Refusal}
use Rattle.container_model.specs.declared.answer.Action.{Action}
use Rattle.container_model.specs.declared.fault.ContainerFault.{ContainerFault}
use Rattle.container_model.specs.declared.record.Link.{Link}
use Rattle.container_model.specs.declared.record.Object.{Object}
use Rattle.container_model.specs.declared.grants.Tells.{Tells}
use Rattle.container_model.specs.Messages.{Replied}
use Rattle.container_model.specs.Replies.{Resumed, resumed}
use Rattle.container_model.specs.Saves.{kept_in}
use Rattle.container_objects.specs.Told.{ToldObject, told_of}

abbrev told_from_resumed : Object → Result Resumed ContainerFault → Result ToldObject ContainerFault
told_from_resumed o (Err fault) = Err fault
told_from_resumed o (Ok w) =
    Ok (record {
      object = record o { work = kept_in o.work w.taken; link = w.link };
      taken = is_some w.taken;
      refused = w.refused;
      grant = w.grant;
      actions = w.actions;
    })

told_resumed : (o : Object) (R : Result Replied ContainerFault) → told_of o R ≡ told_from_resumed o (resumed R)
told_resumed o (Err fault) = refl
told_resumed o (Ok x) = refl

pub told_from : (o mid new : Object) (R : Result Replied ContainerFault) (link : Option Link)
    (taken given : Option Stored) (is_taken : Bool) (refused : Option Refusal) (grant : Option Tells)
    (actions : List Action)
    → resumed R ≡ Ok (record { link = link; taken = taken; refused = refused; grant = grant; actions = actions })
    → given ≡ taken → is_taken ≡ is_some given → mid ≡ record o { link = link }
    → new ≡ record mid { work = kept_in mid.work given }
    → told_of o R ≡ Ok (record { object = new; taken = is_taken; refused = refused; grant = grant; actions = actions })
told_from o mid new R link taken given is_taken refused grant actions e g t m n =
    told_resumed o R ∙ (ap (told_from_resumed o) e ∙ rw (n, m, t, g) refl)
