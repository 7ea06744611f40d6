-- Documents as values.
use Rattle.std.specs.Prelude.{◌≡◌, ◌<◌, ◌≤◌, ◌^◌, List, [], ◌∷◌, true, length, Result, Ok, Err, IsOk}
use Rattle.tree_streams.specs.declared.area.Area.{Area}
use Rattle.tree_streams.specs.Streams.{AreInOrder}
use Rattle.ole_model.specs.CompObjs.{CLASS_BYTES}
use Rattle.ole_model.specs.DocOf.{is_object}
use Rattle.ole_model.specs.Documents.{Doc}
use Rattle.ole_model.specs.Layouts.{MOST_OBJECTS}
use Rattle.ole_model.specs.declared.object.DocObject.{DocObject}
use Rattle.ole_model.specs.declared.fault.OleFault.{OleFault}
use Rattle.ole_model.specs.declared.fault.OleFault.TheVariants.{NoMemory}

-- numbers of two bytes each
pub record IsArea (a : Area) : Type 0 where
  pub x : a.x < 2 ^ 16
  pub y : a.y < 2 ^ 16
  pub w : a.w < 2 ^ 16
  pub h : a.h < 2 ^ 16

-- An object as a document holds it: within its limits, its class id of 16 bytes, its streams in name order.
pub record IsHeld (o : DocObject) : Type 0 where
  pub class : length o.class ≡ CLASS_BYTES
  pub area : IsArea o.area
  pub within : is_object o ≡ true
  pub in_order : AreInOrder o.stored.streams

abbrev pub AreHeld : List DocObject → Type 0
AreHeld [] = Unit {0}
AreHeld (o ∷ os) = IsHeld o × AreHeld os

-- a session of four bytes, and at most 64 objects, each as a document holds it
pub record IsDoc (d : Doc) : Type 0 where
  pub session : d.session < 2 ^ 32
  pub few : length d.objects ≤ MOST_OBJECTS
  pub held : AreHeld d.objects

-- What a call did, given what it is to do: it did this, or refused for this fault and changed nothing. Only what could
-- be done is refused for want of memory.
abbrev pub Pushes : Result (Unit {0}) OleFault → Result Doc OleFault → Doc → Doc → Type 0
Pushes (Ok u) told old new = told ≡ Ok new
Pushes (Err NoMemory) told old new = IsOk told × (new ≡ old)
Pushes (Err fault) told old new = (told ≡ Err fault) × (new ≡ old)
