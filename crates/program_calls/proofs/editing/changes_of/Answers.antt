use Rattle.std.proofs.Common.{◌≡◌, ◌++◌, ◌∷◌, [], ◌∙◌, ℕ, List, ap, append_assoc, refl, rules, subst, sym}
use Rattle.std.specs.Vec.Iter.{into_iter_items}
use Rattle.tree_edits.proofs.Given.{given_more}
use Rattle.tree_edits.specs.Given.{AreGiven, IsGiven, NamesFile}
use Rattle.tree_edits.specs.declared.change.Change.{Change}
use Rattle.tree_edits.specs.declared.change.Line.{Line}
use Rattle.program_calls.specs.Edits.{no_file}
use Rattle.program_calls.proofs.editing.changes_of.Goals as goal

pub loop-numbered-preserved : goal.loop-numbered-preserved
loop-numbered-preserved c =
    let taken : into_iter_items c.loop-numbered.numbered-iterator ≡ c.in-Some.numbered
    ∷ into_iter_items c.next.new.self = search (rules, c.in-Some.ensures.steps) in
    let given : IsGiven no_file c.in-Some.numbered.1 c.in-Plain.change =
    subst (λ (l : Line). IsGiven no_file l c.in-Plain.change) (sym c.in-Plain.is) refl in (
      subst (λ (cs : List (ℕ × Change)). AreGiven no_file (c.loop-numbered.yielded ++ c.in-Some.numbered ∷ []) cs)
          (sym c.in-Ok.ensures.items)
          (given_more no_file c.loop-numbered.yielded c.loop-numbered.changes.items c.in-Some.numbered.0
          c.in-Some.numbered.1 c.in-Plain.change c.loop-numbered.invariant.0 given),
      append_assoc c.loop-numbered.yielded (c.in-Some.numbered ∷ []) (into_iter_items c.next.new.self)
          ∙ ap (λ rest. c.loop-numbered.yielded ++ rest) (sym taken) ∙ c.loop-numbered.invariant.1,
    )

pub returns-in-File-clause-refused : goal.returns-in-File-clause-refused
returns-in-File-clause-refused c =
    let taken : into_iter_items c.loop-numbered.numbered-iterator ≡ c.in-Some.numbered
    ∷ into_iter_items c.next.new.self = search (rules, c.in-Some.ensures.steps) in
    let names : NamesFile c.in-Some.numbered.1 c.in-File.field-1 =
    subst (λ (l : Line). NamesFile l c.in-File.field-1) (sym c.in-File.is) refl in
    let all : c.loop-numbered.yielded ++ c.in-Some.numbered ∷ into_iter_items c.next.new.self ≡ c.args.lines.items =
    ap (λ rest. c.loop-numbered.yielded ++ rest) (sym taken) ∙ c.loop-numbered.invariant.1 in (
      c.in-File.field-1,
      record {
        n = c.in-Some.numbered.0;
        before = c.loop-numbered.yielded;
        line = c.in-Some.numbered.1;
        behind = into_iter_items c.next.new.self;
        all = sym all;
        names = names;
      },
      refl,
    )
