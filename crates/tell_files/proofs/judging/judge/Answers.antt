use Rattle.std.proofs.Common.{◌≡◌, ◌≤◌, ◌∙◌, ℕ, List, Option, IfSome, ap, length, subst, sym}
use Rattle.cfb_entries.specs.Tree.{Tree}
use Rattle.cfb_file.specs.Alike.{Alike}
use Rattle.cfb_file.specs.Denotes.{Denotes}
use Rattle.cfb_file.specs.Outline.{outline_of}
use Rattle.cfb_file.proofs.AlikeFiles.{alike_back, alike_denotes}
use Rattle.tell_lists.proofs.Listed.{places_refused, some_both, some_map}
use Rattle.read_source.specs.Filled.{MayRefusePlaces}
use Rattle.read_source.specs.declared.fault.PlacesFault.{PlacesFault}
use Rattle.read_source.specs.declared.fault.PlacesFault.TheVariants.{Header}
use Rattle.read_files.specs.Reads.{MayRefuseRead, chain_fault}
use Rattle.text_io.specs.Input.{most}
use Rattle.tell_files.specs.Checks.{IsTaken}
use Rattle.tell_files.proofs.Input.{some_none, told_alike}
use Rattle.tell_files.proofs.judging.judge.Goals as goal

pub returns-in-Ok-clause-sound : goal.returns-in-Ok-clause-sound
returns-in-Ok-clause-sound g c = λ none.
    let b : List ℕ = c.in-Ok.catalog.file in
    let p : (x : Tree) × Denotes b x = c.fault_of.ensures.sound none in
    some_both (g.S.Source.bytes c.args.source.now) (λ a. Alike a b) (λ a. length a ≤ most) IsTaken
    (λ a h few. let q : (x : Tree) × Denotes a x × (outline_of x ≡ outline_of p.0) =
    alike_denotes b a (alike_back a b h) p.0 p.1 in
    (q.0, ∣ q.1 ∣₁, few))
    c.in-Ok.ensures.alike c.in-Ok.ensures.few

pub returns-in-Ok-clause-at_fault : goal.returns-in-Ok-clause-at_fault
returns-in-Ok-clause-at_fault g c =
    told_alike (g.S.Source.bytes c.args.source.now) c.in-Ok.catalog.file c.fault_of.result c.in-Ok.ensures.alike
    c.fault_of.ensures.at_fault

pub returns-in-Err-Header-clause-sound : goal.returns-in-Err-Header-clause-sound
returns-in-Err-Header-clause-sound g c = λ e. absurd (some_none e)

pub returns-in-Err-Header-clause-at_fault : goal.returns-in-Err-Header-clause-at_fault
returns-in-Err-Header-clause-at_fault g c =
    let known : Option (List ℕ) = g.S.Source.bytes c.args.source.now in
    some_map known (λ a. MayRefusePlaces a (Header c.in-Err-Header.fault)) (λ a. MayRefuseRead a c.from.result)
    (λ a r. subst (MayRefuseRead a) (sym (c.from.ensures ∙ ap chain_fault c.in-Err-Header.fault-is))
    (places_refused a (Header c.in-Err-Header.fault) r))
    (subst (λ (f : PlacesFault). IfSome known (λ a. MayRefusePlaces a f)) c.in-Err-Header.field-0-is
    c.in-Err-Header.ensures.refused)
