-- The names of the stops of a run.
use Rattle.std.specs.Prelude.{ℕ, List, codes}
use Rattle.world_model.specs.declared.event.Stop.{Stop}
use Rattle.world_model.specs.declared.event.Stop.TheVariants.{NotEnabled, OutOfStock, EventLimit, NoMemory}

abbrev pub stop_name : Stop → List ℕ
stop_name NotEnabled = codes "NotEnabled"
stop_name OutOfStock = codes "OutOfStock"
stop_name EventLimit = codes "EventLimit"
stop_name NoMemory = codes "NoMemory"
