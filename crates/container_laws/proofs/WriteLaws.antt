-- The laws of writes.
use Rattle.std.proofs.Common.{◌≡◌, ◌==◌, ℕ, Bool, true, false, Option, Some, None, Ok, Err, Result, refl, ap, sym}
use Rattle.std.proofs.Common.{if◌then◌else◌, eq-eqb}
use Rattle.std.proofs.lemmas.Bool.{eqb-true}
use Rattle.message_values.specs.Found.{find, put}
use Rattle.message_values.specs.declared.message.Said.TheVariants.{Write}
use Rattle.tree_streams.specs.Limits.{is_within}
use Rattle.tree_streams.specs.declared.stored.Stored.{Stored}
use Rattle.container_model.specs.declared.record.Link.{Link}
use Rattle.container_model.specs.declared.record.Object.{Object}
use Rattle.container_model.specs.declared.fault.ContainerFault.{ContainerFault}
use Rattle.container_model.specs.declared.fault.ContainerFault.TheVariants.{BadAnswer, Stale, WrongLink}
use Rattle.container_model.specs.Record.{Record, Took, is_alive, is_linked}
use Rattle.container_model.specs.Messages.{is_open_to, on_write, write_found, write_link, write_made, written_object}
use Rattle.container_model.proofs.SaidOn.{is_said_on, own_stale, said_on}
use Rattle.container_laws.specs.Laws.{OtherWritesAreStale, WritesAreKept, is_open_in, takes_write}

-- what is done on a test that holds, where it is refused otherwise
pub taken_if : {A : Type 0} (b : Bool) (next : Result A ContainerFault) (fault : ContainerFault) (t : A)
    → (if b then next else Err fault) ≡ Ok t → (b ≡ true) × (next ≡ Ok t)
taken_if true next fault t e = (refl, e)
taken_if false next fault t e = cc

-- what a write that is taken was to, and made
pub record WriteTaken (r : Record) (link inc act s w : ℕ) (content : Stored) (t : Took) : Type 0 where
  pub o : Object
  pub l : Link
  pub same : inc ≡ link
  pub alive : is_alive r inc ≡ true
  pub found : find (is_linked inc act) r.objects ≡ Some o
  pub is : o.link ≡ Some l
  pub opened : is_open_to l s w ≡ true
  pub within : is_within content ≡ true
  pub took : write_made r inc act o l w content ≡ t
  pub made : t.rec ≡ record r { objects = put (is_linked inc act) (written_object o l w content) r.objects }

module _ (r : Record) (link inc act s w : ℕ) (content : Stored) (t : Took) (same : inc ≡ link)
    (alive : is_alive r inc ≡ true) where
  linked_taken : (o : Object) (k : Option Link) → find (is_linked inc act) r.objects ≡ Some o → o.link ≡ k
      → write_link r inc act s w content o k ≡ Ok t → WriteTaken r link inc act s w content t
  linked_taken o None found is e = cc
  linked_taken o (Some l) found is e =
      let a = taken_if (is_open_to l s w) (if is_within content then Ok (write_made r inc act o l w content)
      else Err BadAnswer) Stale t e in
      let b = taken_if (is_within content) (Ok (write_made r inc act o l w content)) BadAnswer t a.1 in
      let q = b.1 in
      let took : write_made r inc act o l w content ≡ t = cc in
      record {
        o = o;
        l = l;
        same = same;
        alive = alive;
        found = found;
        is = is;
        opened = a.0;
        within = b.0;
        took = took;
        made = sym (ap (λ (z : Took). z.rec) took);
      }

  found_taken : (o : Option Object) → find (is_linked inc act) r.objects ≡ o
      → write_found r inc act s w content o ≡ Ok t → WriteTaken r link inc act s w content t
  found_taken None found e = cc
  found_taken (Some o) found e = linked_taken o o.link found refl e

pub write_taken : (r : Record) (link inc act s w : ℕ) (content : Stored) (t : Took)
    → said_on r link (Write inc act s w content) ≡ Ok t → WriteTaken r link inc act s w content t
write_taken r link inc act s w content t e =
    let a = taken_if (inc == link) (on_write r inc act s w content) WrongLink t e in
    let b = taken_if (is_alive r inc) (write_found r inc act s w content (find (is_linked inc act) r.objects)) Stale
    t a.1 in
    found_taken r link inc act s w content t (eqb-true inc link a.0) b.0 (find (is_linked inc act) r.objects) refl b.1

pub writes-are_kept : WritesAreKept
writes-are_kept r link session inc act s w content t e =
    let h = write_taken r link.inc inc act s w content t
    (is_said_on r link (record { session = session; said = Write inc act s w content }) t e).said in
    (h.o, h.l, h.found, h.is, h.made)

-- other writes
stale_link : (r : Record) (inc act s w : ℕ) (content : Stored) (o : Object) (link : Option Link)
    → is_open_in s w link ≡ false → write_link r inc act s w content o link ≡ Err Stale
stale_link r inc act s w content o None h = refl
stale_link r inc act s w content o (Some l) h = rw h refl

stale_found : (r : Record) (inc act s w : ℕ) (content : Stored) (o : Option Object) → takes_write s w o ≡ false
    → write_found r inc act s w content o ≡ Err Stale
stale_found r inc act s w content None h = refl
stale_found r inc act s w content (Some o) h = stale_link r inc act s w content o o.link h

stale_alive : (b : Bool) (R : Result Took ContainerFault) → R ≡ Err Stale → (if b then R else Err Stale) ≡ Err Stale
stale_alive true R e = e
stale_alive false R e = refl

pub other-writes_are_stale : OtherWritesAreStale
other-writes_are_stale r session inc act s w content h = own_stale r session inc (Write inc act s w content)
    (eq-eqb inc inc refl)
    (stale_alive (is_alive r inc) (write_found r inc act s w content (find (is_linked inc act) r.objects))
    (stale_found r inc act s w content (find (is_linked inc act) r.objects) h))
