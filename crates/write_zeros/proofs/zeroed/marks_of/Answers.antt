use Rattle.std.proofs.Common.{◌≡◌, ◌∙◌, Bool, List, ℕ, ap, subst, sym}
use Rattle.std.proofs.lemmas.List.Elements.{All-contains}
use Rattle.std.specs.List.{All, Contains}
use Rattle.write_zeros.specs.Taken.{AreWithin, IsTaken}
use Rattle.write_zeros.proofs.Ends.{none_within, within_kept}
use Rattle.write_zeros.proofs.zeroed.marks_of.Goals as goal

pub returns : goal.returns
returns c = λ ids longs shorts taken zero own.
    let p = c.args.parts.now in
    let W : List ℕ → List Bool → Type 0 = λ ns ms. AreWithin ms ns in
    let read : IsTaken c.deref.result.now p.next.items p.next_mini.items ids longs shorts =
    subst (λ (s : List ℕ). IsTaken s p.next.items p.next_mini.items ids longs shorts) (sym c.deref.ensures.value)
    taken in
    let met : All (Contains ids) c.in_ok-met.met.items = c.in_ok-met.ensures p.next.items p.next_mini.items ids
    longs shorts read zero in
    let first_ids : AreWithin c.in_ok-ids.ids.items ids =
    subst (W ids) (sym (c.in_ok-ids.ensures.items_if_clones_equal (λ y e. cc))) (none_within _ ids) in
    let first_sectors : AreWithin c.in_ok-sectors.sectors.items longs =
    subst (W longs) (sym (c.in_ok-sectors.ensures.items_if_clones_equal (λ y e. cc))) (none_within _ longs) in
    let first_minis : AreWithin c.in_ok-minis.minis.items shorts =
    subst (W shorts) (sym (c.in_ok-minis.ensures.items_if_clones_equal (λ y e. cc))) (none_within _ shorts) in
    let met_in : (n : ℕ) → Contains c.deref-2.result.now n → Contains ids n =
    λ n d. All-contains (Contains ids) c.in_ok-met.met.items n met
    (subst (λ (s : List ℕ). Contains s n) c.deref-2.ensures.value d) in
    let own_sectors : AreWithin c.mark_parts.new.sectors longs =
    c.mark_parts.ensures longs own (subst (W longs) (sym c.deref_mut-2.ensures.value) first_sectors) in
    let mid = within_kept c.in_ok-sectors.sectors.len c.mark_parts.new.sectors c.in_ok-sectors.sectors.items longs
    own_sectors first_sectors in
    let all_met : All (Contains ids) c.deref-3.result.now = subst (All (Contains ids)) (sym c.deref-3.ensures.value)
    met in
    record {
      entries = within_kept c.in_ok-ids.ids.len c.mark_all.new.marks c.in_ok-ids.ids.items ids
          (c.mark_all.ensures ids met_in (subst (W ids) (sym c.deref_mut.ensures.value) first_ids)) first_ids;
      sectors = within_kept c.in_ok-sectors.sectors.len c.mark_streams.new.sectors _ longs
          (c.mark_streams.ensures.sectors ids longs shorts taken all_met
          (subst (W longs) (sym c.deref_mut-3.ensures.value) mid)) mid;
      minis = within_kept c.in_ok-minis.minis.len c.mark_streams.new.minis c.in_ok-minis.minis.items shorts
          (c.mark_streams.ensures.minis ids longs shorts taken all_met
          (subst (W shorts) (sym c.deref_mut-4.ensures.value) first_minis)) first_minis;
    }
