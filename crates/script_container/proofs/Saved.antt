-- What is saved: the disk that is given back holds the file of a frame.
use Rattle.std.proofs.Common.{◌≡◌, inl, inr, ℕ, List, ◌∷◌, Some, Result, Ok, Err, IfOk, sym, ap, ◌∙◌, subst}
use Rattle.message_values.specs.Found.{nth}
use Rattle.container_model.specs.declared.record.Frame.{Frame}
use Rattle.container_model.specs.declared.fault.ContainerFault.TheVariants.{Full}
use Rattle.container_model.specs.Record.{Record}
use Rattle.container_model.specs.Saves.{image}
use Rattle.store_model.specs.declared.fault.StoreFault.{StoreFault}
use Rattle.store_model.specs.declared.disk.Disk.{Ghosts as Disks}
use Rattle.script_model.specs.Containers.{record_of}
use Rattle.script_model.specs.Events.{Event, Opened, Shut}
use Rattle.script_model.specs.Saved.{IsFileOf, IsLost, IsLostOn, IsMissing, IsRefusedOn, IsSaved, IsSavedOn, IsShutWith}
use Rattle.script_model.specs.Saved.{IsShutWithout, file_name}
use Rattle.store_core.specs.declared.outcome.Outcome.{Outcome}
use Rattle.store_core.specs.declared.outcome.Outcome.TheVariants.{Kept, Lost}
use Rattle.script_container.specs.Told.{IfKept, IfLost, IsImage, IsTold}

module _ {D : Type 0} (disks : Disks D) where
  -- A disk on which bytes were saved is given back.
  pub shut_with : {E : Type 0} (told : Result Outcome E) (es mid after : List (Event D)) (name bytes : List ℕ)
      (given disk : D) → mid ≡ Opened name (Some given) ∷ es → after ≡ Shut name disk ∷ mid
      → IfOk told (λ o. IfKept o (IsSavedOn disks given bytes disk))
      → IfOk told (λ o. IfKept o (IsShutWith disks after name bytes))
  shut_with (Ok Kept) es mid after name bytes given disk opened shut saved =
      record {
        given = given;
        disk = disk;
        before = es;
        last = shut ∙ ap (λ h. Shut name disk ∷ h) opened;
        saved = saved;
      }
  shut_with (Ok (Lost fault)) es mid after name bytes given disk opened shut saved = tt
  shut_with (Err e) es mid after name bytes given disk opened shut saved = tt

  -- A disk on which bytes weren't saved is given back.
  pub shut_without : {E : Type 0} (told : Result Outcome E) (es mid after : List (Event D)) (name bytes : List ℕ)
      (given disk : D) → mid ≡ Opened name (Some given) ∷ es → after ≡ Shut name disk ∷ mid
      → (disks.follows_model → IfOk told (λ o. IfLost o (IsLostOn disks given bytes disk)))
      → IfOk told (λ o. IfLost o (IsRefusedOn disks given bytes disk))
      → IfOk told (λ o. IfLost o (IsShutWithout disks after name bytes))
  shut_without (Ok Kept) es mid after name bytes given disk opened shut lost cause = tt
  shut_without (Ok (Lost fault)) es mid after name bytes given disk opened shut lost cause =
      record {
        given = given;
        disk = disk;
        before = es;
        last = shut ∙ ap (λ h. Shut name disk ∷ h) opened;
        lost = lost;
        cause = inl cause;
      }
  shut_without (Err e) es mid after name bytes given disk opened shut lost cause = tt

  -- A disk that wasn't given at first is given back without these bytes.
  pub shut_missing : {E : Type 0} (told : Result Outcome E) (es mid after : List (Event D)) (name bytes : List ℕ)
      (given disk : D) → mid ≡ Opened name (Some given) ∷ es → after ≡ Shut name disk ∷ mid → IsMissing name es
      → (disks.follows_model → IfOk told (λ o. IfLost o (IsLostOn disks given bytes disk)))
      → IfOk told (λ o. IfLost o (IsShutWithout disks after name bytes))
  shut_missing (Ok Kept) es mid after name bytes given disk opened shut missing lost = tt
  shut_missing (Ok (Lost fault)) es mid after name bytes given disk opened shut missing lost =
      record {
        given = given;
        disk = disk;
        before = es;
        last = shut ∙ ap (λ h. Shut name disk ∷ h) opened;
        lost = lost;
        cause = inr missing;
      }
  shut_missing (Err e) es mid after name bytes given disk opened shut missing lost = tt

module _ {D : Type 0} {disks : Disks D} where
  file_by : (es : List (Event D)) (r : Record) (f : ℕ) (frame : Frame) (name bytes : List ℕ) → IsTold disks es r
      → nth r.frames f ≡ Some frame → name ≡ file_name frame → IsImage r f bytes
      → IsFileOf (record_of es) f name bytes
  file_by es r f frame name bytes t found named image =
      subst (λ (q : Record). IsFileOf q f name bytes) (sym t.recorded)
      (record {
        frame = frame;
        found = found;
        named = named;
        saved = image.0;
        counted = image.1;
        denotes = image.2;
        holds = image.3;
        zeroed = image.4;
      })

  pub saved_by : (es : List (Event D)) (r : Record) (f : ℕ) (frame : Frame) (name bytes : List ℕ)
      (outcome : Outcome) → outcome ≡ Kept → IsTold disks es r → IfKept outcome (IsShutWith disks es name bytes)
      → nth r.frames f ≡ Some frame → name ≡ file_name frame → IsImage r f bytes → IsSaved disks es f
  saved_by es r f frame name bytes (Lost fault) kept t shut found named image = absurd (cc)
  saved_by es r f frame name bytes Kept kept t shut found named image =
      record { name = name; bytes = bytes; shut = shut; file = file_by es r f frame name bytes t found named image }

  pub left_by : (es : List (Event D)) (r : Record) (f : ℕ) (frame : Frame) (name bytes : List ℕ) (outcome : Outcome)
      (fault : StoreFault) → outcome ≡ Lost fault → IsTold disks es r
      → IfLost outcome (IsShutWithout disks es name bytes) → nth r.frames f ≡ Some frame → name ≡ file_name frame
      → IsImage r f bytes → IsLost disks es f
  left_by es r f frame name bytes Kept fault lost t shut found named image = absurd (cc)
  left_by es r f frame name bytes (Lost e) fault lost t shut found named image =
      inr (record {
        name = name;
        bytes = bytes;
        shut = shut;
        file = file_by es r f frame name bytes t found named image;
      })

  pub full_by : (es : List (Event D)) (r : Record) (f : ℕ) → IsTold disks es r → image r f ≡ Err Full
      → IsLost disks es f
  full_by es r f t full = inl (ap (λ q. image q f) t.recorded ∙ full)
