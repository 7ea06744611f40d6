use Rattle.std.proofs.Common.{arith}
use Rattle.container_links.proofs.turns.when_done.Goals as goal

pub overflow_add-result : goal.overflow_add-result
overflow_add-result c = omega (arith, c.requires)

pub returns-in-InitNew : goal.returns-in-InitNew
returns-in-InitNew c = rw c.in-InitNew.is

pub returns-in-Load : goal.returns-in-Load
returns-in-Load c = rw c.in-Load.is

pub returns-in-InPlace : goal.returns-in-InPlace
returns-in-InPlace c = rw c.in-InPlace.is

pub returns-in-UiActivate : goal.returns-in-UiActivate
returns-in-UiActivate c = rw c.in-UiActivate.is

pub returns-in-UiDeactivate : goal.returns-in-UiDeactivate
returns-in-UiDeactivate c = rw c.in-UiDeactivate.is

pub returns-in-InPlaceDeactivate : goal.returns-in-InPlaceDeactivate
returns-in-InPlaceDeactivate c = rw c.in-InPlaceDeactivate.is

pub returns-in-OpenWindow : goal.returns-in-OpenWindow
returns-in-OpenWindow c = rw c.in-OpenWindow.is

pub returns-in-Edit : goal.returns-in-Edit
returns-in-Edit c = rw c.in-Edit.is

pub returns-in-Save : goal.returns-in-Save
returns-in-Save c = rw c.in-Save.is

pub returns-in-HandsOff : goal.returns-in-HandsOff
returns-in-HandsOff c = rw c.in-HandsOff.is

pub returns-in-SaveCompleted : goal.returns-in-SaveCompleted
returns-in-SaveCompleted c = rw c.in-SaveCompleted.is

pub returns-in-SaveDropped : goal.returns-in-SaveDropped
returns-in-SaveDropped c = rw c.in-SaveDropped.is

pub returns-in-SaveIfDirty : goal.returns-in-SaveIfDirty
returns-in-SaveIfDirty c = rw (c.in-Close.is, c.in-SaveIfDirty.is)

pub returns-in-NoSave : goal.returns-in-NoSave
returns-in-NoSave c = rw (c.in-Close.is, c.in-NoSave.is)
