-- What a host is asked and answers, and what happens to the container meanwhile. A history has the newest event first.
use Rattle.std.specs.Prelude.{◌+◌, ◌-◌, ◌==◌, ◌&&◌, ℕ, Bool, List, [], ◌∷◌, if◌then◌else◌, Option, Some, None, Result}
use Rattle.std.specs.Prelude.{Ok, Err}
use Rattle.script_model.specs.declared.step.Step.{Step}

-- A server is started in a session, and a link to it made; the link is made anew; bytes are sent; bytes came, none
-- where the other side has closed the link; a server is ended and awaited. Each says whose it is, and whether it was
-- done. The disk of a file is opened, and the file made where it is missing; the disk of a file is looked for; each
-- says which disk was given, or none. The disk of a file is given back.
pub data Event (D : Type 0) : Type 0 where
  Started : (session inc : ℕ) → Bool → Event D
  Connected : ℕ → Bool → Event D
  Sent : ℕ → List ℕ → Bool → Event D
  Heard : ℕ → List ℕ → Bool → Event D
  Ended : ℕ → Event D
  Opened : List ℕ → Option D → Event D
  Found : List ℕ → Option D → Event D
  Shut : List ℕ → D → Event D
  Stepped : Step → Event D

-- the disk that was given
abbrev pub disk_given : {D E : Type 0} → Result D E → Option D
disk_given (Ok disk) = Some disk
disk_given (Err e) = None

abbrev pub disk_found : {D E : Type 0} → Result (Option D) E → Option D
disk_found (Ok found) = found
disk_found (Err e) = None

-- how often a server was started and not ended since
abbrev pub running : {D : Type 0} → ℕ → List (Event D) → ℕ
running s [] = 0
running s (Started session inc ok ∷ es) = if ok && (inc == s) then running s es + 1 else running s es
running s (Ended inc ∷ es) = if inc == s then running s es - 1 else running s es
running s (Connected inc ok ∷ es) = running s es
running s (Sent inc bytes ok ∷ es) = running s es
running s (Heard inc bytes ok ∷ es) = running s es
running s (Opened name disk ∷ es) = running s es
running s (Found name disk ∷ es) = running s es
running s (Shut name disk ∷ es) = running s es
running s (Stepped step ∷ es) = running s es

-- how many reads were made
abbrev pub reads : {D : Type 0} → List (Event D) → ℕ
reads [] = 0
reads (Heard inc bytes ok ∷ es) = reads es + 1
reads (Started session inc ok ∷ es) = reads es
reads (Ended inc ∷ es) = reads es
reads (Connected inc ok ∷ es) = reads es
reads (Sent inc bytes ok ∷ es) = reads es
reads (Opened name disk ∷ es) = reads es
reads (Found name disk ∷ es) = reads es
reads (Shut name disk ∷ es) = reads es
reads (Stepped step ∷ es) = reads es

-- how many starts failed, and of which server the last one was
abbrev pub failed_starts : {D : Type 0} → ℕ → List (Event D) → ℕ
failed_starts s [] = 0
failed_starts s (Started session inc ok ∷ es) = if ok then failed_starts s es else if inc == s
    then failed_starts s es + 1 else failed_starts s es
failed_starts s (Ended inc ∷ es) = failed_starts s es
failed_starts s (Connected inc ok ∷ es) = failed_starts s es
failed_starts s (Sent inc bytes ok ∷ es) = failed_starts s es
failed_starts s (Heard inc bytes ok ∷ es) = failed_starts s es
failed_starts s (Opened name disk ∷ es) = failed_starts s es
failed_starts s (Found name disk ∷ es) = failed_starts s es
failed_starts s (Shut name disk ∷ es) = failed_starts s es
failed_starts s (Stepped step ∷ es) = failed_starts s es
