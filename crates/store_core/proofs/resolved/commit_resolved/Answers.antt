use Rattle.std.proofs.Common.{◌≡◌, List, Some, length, ℕ, subst, sym}
use Rattle.store_model.specs.Crash.{StaysIn}
use Rattle.store_model.specs.Image.{Image}
use Rattle.store_model.specs.Journal.{restored}
use Rattle.store_model.specs.Store.{IsBeforeOrAfter, StandsAsOneOf, StandsFor}
use Rattle.store_core.specs.Opened.{disk_of, needs_reopen_of}
use Rattle.store_core.specs.Resolved.{Ends, IsTold}
use Rattle.store_core.proofs.Again.{as_before, both_ok, ends, err_then, for_either, ok_then, unchanged}
use Rattle.store_core.proofs.Moments.{joined, then_leaves}
use Rattle.store_core.proofs.resolved.commit_resolved.Goals as goal

pub returns-in-Ok-reopen-clause-ends : goal.returns-in-Ok-reopen-clause-ends
returns-in-Ok-reopen-clause-ends g c model ready =
    let reads = g.D.Disk.reads in
    let old : List ℕ = (reads (disk_of c.args.store)).document in
    let bytes : List ℕ = c.args.bytes.now in
    let opened = c.in-Ok-reopen.opened in
    let is = c.in-Ok-reopen.ensures.either model old bytes (c.commit.ensures.any_moment model ready).now in
    both_ok c.compared.result
    (λ r. IsTold r.0 bytes (reads (disk_of opened)).document)
    (λ r. reads (disk_of r.1) ≡ reads (disk_of opened))
    (λ r. Ends r.0 old bytes (reads (disk_of r.1)).document)
    (λ r tells same. subst (λ (i : Image). Ends r.0 old bytes i.document) (sym same)
    (ends r.0 old bytes (reads (disk_of opened)).document is tells))
    (c.compared.ensures.told model)
    (c.compared.ensures.same model)

pub returns-in-Ok-reopen-clause-any_moment : goal.returns-in-Ok-reopen-clause-any_moment
returns-in-Ok-reopen-clause-any_moment g c model ready =
    let reads = g.D.Disk.reads in
    let old : List ℕ = (reads (disk_of c.args.store)).document in
    let bytes : List ℕ = c.args.bytes.now in
    let opened = c.in-Ok-reopen.opened in
    let first = c.commit.ensures.any_moment model ready in
    let is = c.in-Ok-reopen.ensures.either model old bytes first.now in
    let so_far = joined g.D.Disk.may_leave g.D.Disk.moment g.D.Disk.left_since (disk_of c.args.store)
    (disk_of c.commit.new.self) (disk_of opened) (IsBeforeOrAfter old bytes) first
    (c.in-Ok-reopen.ensures.any_moment model old bytes first.now) in
    ok_then c.compared.result
    (λ r. StaysIn g.D.Disk.may_leave g.D.Disk.moment g.D.Disk.left_since (disk_of opened) (disk_of r.1)
    (StandsFor (reads (disk_of opened)).document))
    (λ r. StaysIn g.D.Disk.may_leave g.D.Disk.moment g.D.Disk.left_since (disk_of c.args.store) (disk_of r.1)
    (IsBeforeOrAfter old bytes))
    (λ r run. then_leaves g.D.Disk.may_leave g.D.Disk.moment g.D.Disk.left_since (disk_of c.args.store)
    (disk_of opened) (disk_of r.1) (StandsFor (reads (disk_of opened)).document) (IsBeforeOrAfter old bytes)
    so_far run (for_either old bytes (reads (disk_of opened)).document is))
    (c.compared.ensures.any_moment model)

pub returns-in-Ok-reopen-clause-any_moment_refused : goal.returns-in-Ok-reopen-clause-any_moment_refused
returns-in-Ok-reopen-clause-any_moment_refused g c model ready =
    let reads = g.D.Disk.reads in
    let old : List ℕ = (reads (disk_of c.args.store)).document in
    let bytes : List ℕ = c.args.bytes.now in
    let opened = c.in-Ok-reopen.opened in
    let first = c.commit.ensures.any_moment model ready in
    let is = c.in-Ok-reopen.ensures.either model old bytes first.now in
    let so_far = joined g.D.Disk.may_leave g.D.Disk.moment g.D.Disk.left_since (disk_of c.args.store)
    (disk_of c.commit.new.self) (disk_of opened) (IsBeforeOrAfter old bytes) first
    (c.in-Ok-reopen.ensures.any_moment model old bytes first.now) in
    err_then c.compared.result
    (λ r. StaysIn g.D.Disk.may_leave g.D.Disk.moment g.D.Disk.left_since (disk_of opened) r.disk
    (StandsFor (reads (disk_of opened)).document))
    (λ r. StaysIn g.D.Disk.may_leave g.D.Disk.moment g.D.Disk.left_since (disk_of c.args.store) r.disk
    (IsBeforeOrAfter old bytes))
    (λ r run. then_leaves g.D.Disk.may_leave g.D.Disk.moment g.D.Disk.left_since (disk_of c.args.store)
    (disk_of opened) r.disk (StandsFor (reads (disk_of opened)).document) (IsBeforeOrAfter old bytes) so_far run
    (for_either old bytes (reads (disk_of opened)).document is))
    (c.compared.ensures.any_moment_refused model)

pub returns-in-Err-reopen-clause-any_moment_refused : goal.returns-in-Err-reopen-clause-any_moment_refused
returns-in-Err-reopen-clause-any_moment_refused g c model ready =
    let old : List ℕ = (g.D.Disk.reads (disk_of c.args.store)).document in
    let bytes : List ℕ = c.args.bytes.now in
    let first = c.commit.ensures.any_moment model ready in
    joined g.D.Disk.may_leave g.D.Disk.moment g.D.Disk.left_since (disk_of c.args.store) (disk_of c.commit.new.self)
    c.in-Err-reopen.refused.disk (IsBeforeOrAfter old bytes) first
    (c.in-Err-reopen.ensures.any_moment_refused model old bytes first.now)

pub returns-in-Ok-reopen-clause-as_before : goal.returns-in-Ok-reopen-clause-as_before
returns-in-Ok-reopen-clause-as_before g c model was =
    let reads = g.D.Disk.reads in
    let opened = c.in-Ok-reopen.opened in
    let store = c.args.store in
    let same : c.commit.new.self ≡ store = unchanged c.in-Err.first (length c.args.bytes.now)
    (needs_reopen_of store) (needs_reopen_of c.commit.new.self) (g.D.Disk.failed (disk_of store))
    (g.D.Disk.failed (disk_of c.commit.new.self)) (c.commit.new.self ≡ store) was c.in-Err.ensures.refuses
    c.in-Err.ensures.untouched in
    let so_far = subst (λ s. StaysIn g.D.Disk.may_leave g.D.Disk.moment g.D.Disk.left_since (disk_of s)
    (disk_of opened) (StandsAsOneOf (g.D.Disk.may_leave (disk_of s)))) same
    (c.in-Ok-reopen.ensures.as_before model) in
    let document = subst (λ s. restored (reads (disk_of s)) ≡ Some (reads (disk_of opened)).document) same
    (c.in-Ok-reopen.ensures.document model) in
    let outcomes : Image → Type 0 = StandsAsOneOf (g.D.Disk.may_leave (disk_of store)) in
    ok_then c.compared.result
    (λ r. StaysIn g.D.Disk.may_leave g.D.Disk.moment g.D.Disk.left_since (disk_of opened) (disk_of r.1)
    (StandsFor (reads (disk_of opened)).document))
    (λ r. StaysIn g.D.Disk.may_leave g.D.Disk.moment g.D.Disk.left_since (disk_of store) (disk_of r.1) outcomes)
    (λ r run. then_leaves g.D.Disk.may_leave g.D.Disk.moment g.D.Disk.left_since (disk_of store) (disk_of opened)
    (disk_of r.1) (StandsFor (reads (disk_of opened)).document) outcomes so_far run
    (as_before (g.D.Disk.may_leave (disk_of store)) (reads (disk_of store)) (reads (disk_of opened)).document
    (g.met.D.Disk.reads_are_left (disk_of store)) document))
    (c.compared.ensures.any_moment model)

pub returns-in-Ok-reopen-clause-as_before_refused : goal.returns-in-Ok-reopen-clause-as_before_refused
returns-in-Ok-reopen-clause-as_before_refused g c model was =
    let reads = g.D.Disk.reads in
    let opened = c.in-Ok-reopen.opened in
    let store = c.args.store in
    let same : c.commit.new.self ≡ store = unchanged c.in-Err.first (length c.args.bytes.now)
    (needs_reopen_of store) (needs_reopen_of c.commit.new.self) (g.D.Disk.failed (disk_of store))
    (g.D.Disk.failed (disk_of c.commit.new.self)) (c.commit.new.self ≡ store) was c.in-Err.ensures.refuses
    c.in-Err.ensures.untouched in
    let so_far = subst (λ s. StaysIn g.D.Disk.may_leave g.D.Disk.moment g.D.Disk.left_since (disk_of s)
    (disk_of opened) (StandsAsOneOf (g.D.Disk.may_leave (disk_of s)))) same
    (c.in-Ok-reopen.ensures.as_before model) in
    let document = subst (λ s. restored (reads (disk_of s)) ≡ Some (reads (disk_of opened)).document) same
    (c.in-Ok-reopen.ensures.document model) in
    let outcomes : Image → Type 0 = StandsAsOneOf (g.D.Disk.may_leave (disk_of store)) in
    err_then c.compared.result
    (λ r. StaysIn g.D.Disk.may_leave g.D.Disk.moment g.D.Disk.left_since (disk_of opened) r.disk
    (StandsFor (reads (disk_of opened)).document))
    (λ r. StaysIn g.D.Disk.may_leave g.D.Disk.moment g.D.Disk.left_since (disk_of store) r.disk outcomes)
    (λ r run. then_leaves g.D.Disk.may_leave g.D.Disk.moment g.D.Disk.left_since (disk_of store) (disk_of opened)
    r.disk (StandsFor (reads (disk_of opened)).document) outcomes so_far run
    (as_before (g.D.Disk.may_leave (disk_of store)) (reads (disk_of store)) (reads (disk_of opened)).document
    (g.met.D.Disk.reads_are_left (disk_of store)) document))
    (c.compared.ensures.any_moment_refused model)

pub returns-in-Err-reopen-clause-as_before_refused : goal.returns-in-Err-reopen-clause-as_before_refused
returns-in-Err-reopen-clause-as_before_refused g c model was =
    let store = c.args.store in
    let same : c.commit.new.self ≡ store = unchanged c.in-Err.first (length c.args.bytes.now)
    (needs_reopen_of store) (needs_reopen_of c.commit.new.self) (g.D.Disk.failed (disk_of store))
    (g.D.Disk.failed (disk_of c.commit.new.self)) (c.commit.new.self ≡ store) was c.in-Err.ensures.refuses
    c.in-Err.ensures.untouched in
    subst (λ s. StaysIn g.D.Disk.may_leave g.D.Disk.moment g.D.Disk.left_since (disk_of s)
    c.in-Err-reopen.refused.disk (StandsAsOneOf (g.D.Disk.may_leave (disk_of s)))) same
    (c.in-Err-reopen.ensures.as_before_refused model)
