-- Places that are told wherever there is one.
use Rattle.std.proofs.Common.{◌≢◌, List, ℕ, Option, Some, None, IfNone, Result, Ok, Err, IfOk}
use Rattle.cfb_header.specs.declared.fault.ChainFault.{ChainFault}
use Rattle.cfb_header.specs.declared.fault.ChainFault.TheVariants as chain
use Rattle.cfb_names.specs.declared.fault.DirFault.{DirFault}
use Rattle.tell_faults.specs.Places.{IsNowhere as IsNoPart}
use Rattle.tell_chains.specs.Streams.{IsNoStream}
use Rattle.tell_entries.specs.Ways.{IsNoEntry, IsOfLinks}
use Rattle.tell_checks.specs.Spots.{IsNowhere, IsPlaceOf, IsPromised}
use Rattle.tell_checks.specs.declared.spot.Place.{Place}
use Rattle.tell_checks.specs.declared.spot.Place.TheVariants as place
use Rattle.read_files.specs.declared.fault.ReadFault.{ReadFault}
use Rattle.read_files.specs.declared.fault.ReadFault.TheVariants as read

no_chain : (file : List ℕ) (fault : ChainFault) → IsNoPart file fault
    → (fault ≢ chain.CrossLinked → IsNoStream file fault) → IsNowhere file (read.Chain fault)
no_chain file fault none spared (place.Chain p) promised h = none p h
no_chain file fault none spared (place.Stream p) promised h = spared promised p h
no_chain file fault none spared (place.Entry p) promised h = h

no_directory : (file : List ℕ) (fault : DirFault) → ((IsOfLinks fault → ⊥) → IsNoEntry file fault)
    → IsNowhere file (read.Directory fault)
no_directory file fault none (place.Chain p) promised h = h
no_directory file fault none (place.Stream p) promised h = h
no_directory file fault none (place.Entry p) promised h = none promised p h

pub no_memory : (file : List ℕ) → IsNowhere file read.NoMemory
no_memory file (place.Chain p) promised h = h
no_memory file (place.Stream p) promised h = h
no_memory file (place.Entry p) promised h = h

pub chain_nowhere : {E : Type 0} (file : List ℕ) (fault : ChainFault) (r : Result (Option Place) E)
    → IfOk r (λ p. IfNone p (IsNoPart file fault))
    → (fault ≢ chain.CrossLinked → IfOk r (λ p. IfNone p (IsNoStream file fault)))
    → IfOk r (λ p. IfNone p (IsNowhere file (read.Chain fault)))
chain_nowhere file fault (Ok None) h s = no_chain file fault h s
chain_nowhere file fault (Ok (Some p)) h s = tt
chain_nowhere file fault (Err e) h s = tt

pub directory_nowhere : {E : Type 0} (file : List ℕ) (fault : DirFault) (r : Result (Option Place) E)
    → ((IsOfLinks fault → ⊥) → IfOk r (λ p. IfNone p (IsNoEntry file fault)))
    → IfOk r (λ p. IfNone p (IsNowhere file (read.Directory fault)))
directory_nowhere file fault (Ok None) h = no_directory file fault h
directory_nowhere file fault (Ok (Some p)) h = tt
directory_nowhere file fault (Err e) h = tt
