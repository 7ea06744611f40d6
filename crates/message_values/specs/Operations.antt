-- Operations without what they carry.
use Rattle.object_state.specs.declared.operations.Op.{Op}
use Rattle.object_state.specs.declared.operations.Op.TheVariants as op
use Rattle.message_values.specs.declared.operation.Operation.{Operation}
use Rattle.message_values.specs.declared.operation.Operation.TheVariants.{InitNew, Load, InPlace, UiActivate}
use Rattle.message_values.specs.declared.operation.Operation.TheVariants.{UiDeactivate, InPlaceDeactivate, OpenWindow}
use Rattle.message_values.specs.declared.operation.Operation.TheVariants.{Edit, Save, HandsOff, SaveCompleted}
use Rattle.message_values.specs.declared.operation.Operation.TheVariants.{SaveDropped, Close}

abbrev pub op_of : Operation → Op
op_of (InitNew class) = op.InitNew
op_of (Load class content) = op.Load
op_of InPlace = op.InPlace
op_of (UiActivate grant) = op.UiActivate grant
op_of UiDeactivate = op.UiDeactivate
op_of InPlaceDeactivate = op.InPlaceDeactivate
op_of OpenWindow = op.OpenWindow
op_of (Edit bytes) = op.Edit
op_of (Save save) = op.Save save
op_of HandsOff = op.HandsOff
op_of (SaveCompleted save storage) = op.SaveCompleted save storage
op_of (SaveDropped save) = op.SaveDropped save
op_of (Close option) = op.Close option
