-- An operation that is asked of all objects of a frame: all memory is taken first, then the objects change.
use Rattle.std.specs.Prelude.{◌++◌, ◌+◌, ◌==◌, ◌≡◌, ◌≤◌, List, [], ◌∷◌, None, Option, Some, if◌then◌else◌, length, map}
use Rattle.std.specs.Prelude.{ℕ}
use Rattle.message_values.specs.declared.operation.Operation.{Operation}
use Rattle.container_model.specs.declared.answer.Action.{Action}
use Rattle.container_model.specs.declared.answer.Action.TheVariants.{Send}
use Rattle.container_links.specs.declared.asking.Prepared.{Prepared}
use Rattle.container_links.specs.declared.asking.Prepared.TheVariants.{Nothing, Now, Behind}
use Rattle.container_model.specs.declared.record.Link.{Link}
use Rattle.container_model.specs.declared.record.Object.{Object}
use Rattle.container_model.specs.Record.{asked_all, call, sends}
use Rattle.container_model.specs.Room.{IfLinked}

-- one more call of an object's activation can be numbered
abbrev pub HasNumber : Object → Type 0
HasNumber o = IfLinked (λ l. l.last + length l.waiting ≤ 1000000) o.link

-- what an object takes up where it is asked: the operation itself, or all that wait from then on
abbrev pub prepared_at : Operation → Link → Option Operation → Prepared
prepared_at op l None = Now (l.last + 1) op
prepared_at op l (Some before) = Behind (l.waiting ++ op ∷ [])

abbrev pub prepared_link : Operation → Option Link → Prepared
prepared_link op None = Nothing
prepared_link op (Some l) = prepared_at op l l.pending

abbrev pub prepared : ℕ → Operation → Object → Prepared
prepared f op o = if o.frame == f then prepared_link op o.link else Nothing

-- what is sent to it then, if anything
abbrev pub called_at : Operation → Link → Option Operation → Option Action
called_at op l None = Some (Send (call l (l.last + 1) op))
called_at op l (Some before) = None

abbrev pub called : Operation → Option Link → Option Action
called op None = None
called op (Some l) = called_at op l l.pending

-- what it is once it has taken that up
abbrev pub installed_link : Prepared → Option Link → Option Link
installed_link p None = None
installed_link Nothing (Some l) = Some l
installed_link (Now last op) (Some l) = Some (record l { last = last; pending = Some op })
installed_link (Behind ops) (Some l) = Some (record l { waiting = ops })

abbrev pub installed : Prepared → Object → Object
installed p o = record o { link = installed_link p o.link }

abbrev pub installed_all : List Prepared → List Object → List Object
installed_all [] os = os
installed_all (p ∷ ps) [] = []
installed_all (p ∷ ps) (o ∷ os) = installed p o ∷ installed_all ps os

-- what is sent, and what the objects take up
pub record IsAsking (f : ℕ) (op : Operation) (os : List Object) (actions : List Action) (ps : List Prepared) : Type
    0 where
  pub sent : actions ≡ sends (asked_all f op os)
  pub few : length actions ≤ length os
  pub takes : ps ≡ map (prepared f op) os

-- what an activation is once it has taken up operations: the first is pending where none was, and these wait
abbrev pub stepped_by : Option Operation → List Operation → Link → Link
stepped_by None ops l = record l { waiting = ops }
stepped_by (Some op) ops l = record l { last = l.last + 1; pending = Some op; waiting = ops }
