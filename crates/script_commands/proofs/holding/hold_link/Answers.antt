use Rattle.std.proofs.Common.{◌≡◌, true, ◌≤◌, ◌<◌, ◌∙◌, ap, length, subst, sym, List, ℕ}
use Rattle.script_links.specs.Links.{IsLinkAt, links_of}
use Rattle.script_links.specs.declared.links.Link.{Link}
use Rattle.script_commands.proofs.Held.{linked_there, set_none}
use Rattle.script_commands.proofs.Lines.{told_none, told_some}
use Rattle.script_commands.proofs.holding.hold_link.Goals as goal

pub returns-clause-holding : goal.returns-clause-holding
returns-clause-holding c = λ f few hold. c.hold.ensures.holding f c.args.inc
    (subst (λ (ls : List Link). IsLinkAt ls c.in-Some.place c.args.inc) c.deref.ensures.value
    c.in-Some.ensures.there) few hold

pub returns-in_default-clause-first : goal.returns-in_default-clause-first
returns-in_default-clause-first c = λ n many. told_none n
    (many ∙ ap (links_of c.args.inc) (sym c.deref.ensures.value) ∙ c.in_default.ensures.none)

pub returns-clause-first : goal.returns-clause-first
returns-clause-first c = λ n many.
    told_some n
    (subst (λ (k : ℕ). 1 ≤ k) (sym many)
    (linked_there c.args.inc c.args.links.now.items c.in-Some.place
    (subst (λ (ls : List Link). c.in-Some.place < length ls) c.deref.ensures.value c.in-Some.ensures.within)
    (subst (λ (ls : List Link). IsLinkAt ls c.in-Some.place c.args.inc) c.deref.ensures.value
    c.in-Some.ensures.there)))

pub returns-in_default-clause-holding : goal.returns-in_default-clause-holding
returns-in_default-clause-holding c =
    let none : links_of c.args.inc c.deref.result.now ≡ 0 = c.in_default.ensures.none in
    λ f few hold. set_none f c.args.inc true c.args.links.now.items
    (ap (links_of c.args.inc) (sym c.deref.ensures.value) ∙ none) hold
