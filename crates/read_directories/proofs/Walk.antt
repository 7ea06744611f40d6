-- Steps of a walk over linked entries.
use Rattle.std.proofs.Common.{◌≡◌, ◌≢◌, ◌<◌, ◌*◌, ℕ, true, List, [], ◌∷◌, ◌++◌, length, get_or, sym, ◌∙◌, ap, subst}
use Rattle.std.proofs.Common.{arith}
use Rattle.cfb_entries.specs.Entries.{EntriesValue, IsFree, AreFree, MayRefuseLinked, NO_STREAM, Reaches, marked}
use Rattle.cfb_entries.specs.Walk.{IsTaken}
use Rattle.cfb_names.specs.declared.fault.DirFault.{DirFault}
use Rattle.cfb_names.specs.declared.fault.DirFault.TheVariants.{NameEmpty, NameTooLong, NameNotAscii, NameForbidden}
use Rattle.cfb_names.specs.declared.fault.DirFault.TheVariants.{DuplicateName, BadEntry, TreeCycle, TooNested, NoMemory}
use Rattle.cfb_entries.proofs.Inside.{Begins, Begins-next}
use Rattle.cfb_entries.proofs.Marks.{AreFree-next}

-- an entry at which a walk stops is why it may be refused
pub taken_refused : (e s : EntriesValue) (top : ℕ) (found ws : List ℕ) (id : ℕ) (fault : DirFault) → s ≡ marked e found
    → Begins e.directory top found (ws ++ id ∷ []) → Reaches e.directory top id → id ≢ NO_STREAM
    → IsTaken s id fault → MayRefuseLinked e top fault
taken_refused e s top found ws id NameEmpty is h r ne t = absurd t
taken_refused e s top found ws id NameTooLong is h r ne t = absurd t
taken_refused e s top found ws id NameNotAscii is h r ne t = absurd t
taken_refused e s top found ws id NameForbidden is h r ne t = absurd t
taken_refused e s top found ws id DuplicateName is h r ne t = absurd t
taken_refused e s top found ws id BadEntry is h r ne t =
    let same : length s.directory ≡ length e.directory = ap (λ v. length v.directory) is in (id, r, ne, omega arith)
taken_refused e s top found ws id TreeCycle is h r ne t = λ ids a f.
    let inside : 128 * id < length e.directory = subst (λ (v : EntriesValue). 128 * id < length v.directory) is t.0 in
    let n : (rest : List ℕ) × (ids ≡ found ++ (id ∷ rest)) = Begins-next e.directory top found ws id ne inside h ids
    a in
    let free : IsFree (marked e found) id = AreFree-next e found id n.0 (subst (AreFree e) n.1 f) in
    let set : get_or (marked e found).used id true ≡ true = sym (ap (λ v. get_or v.used id true) is) ∙ t.1 in
    absurd (cc (free.1, set))
taken_refused e s top found ws id TooNested is h r ne t = absurd t
taken_refused e s top found ws id NoMemory is h r ne t = absurd t
