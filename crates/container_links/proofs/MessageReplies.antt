-- What a reply gives once the first operation that waits is called.
use Rattle.std.proofs.Common.{◌≡◌, List, [], ◌∷◌, Option, Some, None, Result, Ok, Err, refl, ap, ◌∙◌}
use Rattle.message_values.specs.declared.operation.Operation.{Operation}
use Rattle.message_values.specs.declared.refusal.Refusal.{Refusal}
use Rattle.tree_streams.specs.declared.stored.Stored.{Stored}
use Rattle.container_model.specs.declared.record.Link.{Link}
use Rattle.container_model.specs.declared.answer.Action.{Action}
use Rattle.container_model.specs.declared.fault.ContainerFault.{ContainerFault}
use Rattle.container_model.specs.Record.{sends}
use Rattle.container_model.specs.declared.grants.Tells.{Tells}
use Rattle.container_model.specs.Messages.{Replied, granted_link, next_at, saved_link}
use Rattle.container_model.specs.Replies.{Resumed, resumed}

-- a content that waits for its save changes nothing of what is called next
next_saved : (content : Stored) (l : Link) (ops : List Operation)
    → (next_at (record l { saved = Some content }) ops).link
    ≡ record ((next_at l ops).link) { saved = Some content }
next_saved content l [] = refl
next_saved content l (op ∷ ops) = refl

next_same : (content : Stored) (l : Link) (ops : List Operation)
    → (next_at (record l { saved = Some content }) ops).sent ≡ (next_at l ops).sent
next_same content l [] = refl
next_same content l (op ∷ ops) = refl

abbrev pub link_in : Result Resumed ContainerFault → Option Link
link_in (Ok w) = w.link
link_in (Err fault) = None

abbrev refused_in : Result Resumed ContainerFault → Option Refusal
refused_in (Ok w) = w.refused
refused_in (Err fault) = None

abbrev taken_in : Result Resumed ContainerFault → Option Stored
taken_in (Ok w) = w.taken
taken_in (Err fault) = None

abbrev grant_in : Result Resumed ContainerFault → Option Tells
grant_in (Ok w) = w.grant
grant_in (Err fault) = None

abbrev actions_in : Result Resumed ContainerFault → List Action
actions_in (Ok w) = w.actions
actions_in (Err fault) = []

saved_ok : (content : Stored) (link : Option Link) (had has : Option Stored) (why told : Option Refusal)
    (tells says : Option Tells) (next : Link) (actions : List Action)
    → resumed (Ok (record { link = link; taken = had; refused = why; grant = tells }))
    ≡ Ok (record { link = Some next; taken = has; refused = told; grant = says; actions = actions })
    → resumed (saved_link content (Ok (record { link = link; taken = had; refused = why; grant = tells })))
    ≡ Ok (record {
      link = Some (record next { saved = Some content });
      taken = has;
      refused = told;
      grant = says;
      actions = actions;
    })
saved_ok content None had has why told tells says next actions e = let l : None ≡ Some next = ap link_in e in cc
saved_ok content (Some l) had has why told tells says next actions e =
    let m : Some (next_at l l.waiting).link ≡ Some next = ap link_in e in
    let n : (next_at l l.waiting).link ≡ next = cc in
    let s : sends (next_at l l.waiting).sent ≡ actions = ap actions_in e in
    let w : why ≡ told = ap refused_in e in
    let x : had ≡ has = ap taken_in e in
    let g : tells ≡ says = ap grant_in e in
    rw (next_saved content l l.waiting, next_same content l l.waiting, n, s, w, x, g) refl

-- the content is saved after what waits is called
pub saved_as : (content : Stored) (R : Result Replied ContainerFault) (has : Option Stored) (told : Option Refusal)
    (says : Option Tells) (next : Link) (actions : List Action)
    → resumed R ≡ Ok (record { link = Some next; taken = has; refused = told; grant = says; actions = actions })
    → resumed (saved_link content R)
    ≡ Ok (record {
      link = Some (record next { saved = Some content });
      taken = has;
      refused = told;
      grant = says;
      actions = actions;
    })
saved_as content (Err fault) has told says next actions e = cc
saved_as content (Ok replied) has told says next actions e = saved_ok content replied.link replied.taken has
    replied.refused told replied.grant says next actions e

-- what is told of the frame's grant, once an operation was done
abbrev tells_after : Tells → Result Resumed ContainerFault → Result Resumed ContainerFault
tells_after told (Err fault) = Err fault
tells_after told (Ok w) = Ok (record w { grant = Some told })

granted_resumed : (told : Tells) (R : Result Replied ContainerFault) → resumed (granted_link told R)
    ≡ tells_after told (resumed R)
granted_resumed told (Err fault) = refl
granted_resumed told (Ok replied) = refl

pub granted_as : (told : Tells) (R : Result Replied ContainerFault) (has : Option Stored) (why : Option Refusal)
    (says : Option Tells) (next : Link) (actions : List Action)
    → resumed R ≡ Ok (record { link = Some next; taken = has; refused = why; grant = says; actions = actions })
    → resumed (granted_link told R)
    ≡ Ok (record { link = Some next; taken = has; refused = why; grant = Some told; actions = actions })
granted_as told R has why says next actions e = granted_resumed told R ∙ ap (tells_after told) e
