use Rattle.std.proofs.Common.{◌≡◌, ◌∙◌, [], Bool, List, ℕ, ap, arith, false, length, replicate, subst}
use Rattle.std.proofs.lemmas.List.{length-replicate}
use Rattle.cfb_bytes.specs.Marks.{set_all}
use Rattle.cfb_chains.proofs.Marks.{length-set_all}
use Rattle.tell_chains.specs.Fates.{AreFates}
use Rattle.tell_chains.proofs.fates.fates_in.Goals as goal

pub fates_of-requires : goal.fates_of-requires
fates_of-requires c =
    omega (
      arith,
      ap length c.deref-2.ensures.value,
      ap length c.in_ok-stops.ensures,
      length-set_all (replicate c.len.result false) c.args.taken.now,
      length-replicate c.len.result false,
      ap length c.deref.ensures.value,
    )

pub returns : goal.returns
returns c =
    let sectors : c.len.result ≡ length c.args.parts.now.table.items = omega arith in
    let minis : c.len-2.result ≡ length c.args.parts.now.minis.items = omega arith in
    record {
      stops = c.in_ok-stops.ensures ∙ ap (λ (n : ℕ). set_all (replicate n false) c.args.taken.now) sectors;
      mini_stops = c.in_ok-mini_stops.ensures ∙ ap (λ (n : ℕ). set_all (replicate n false) []) minis;
      sectors = subst (λ (t : List ℕ). AreFates t c.in_ok-stops.stops.items c.in_ok-sectors.sectors.items)
          c.deref.ensures.value
          (subst (λ (s : List Bool). AreFates c.deref.result.now s c.in_ok-sectors.sectors.items)
          c.deref-2.ensures.value c.in_ok-sectors.ensures);
      minis = subst (λ (t : List ℕ). AreFates t c.in_ok-mini_stops.mini_stops.items c.in_ok-minis.minis.items)
          c.deref-3.ensures.value
          (subst (λ (s : List Bool). AreFates c.deref-3.result.now s c.in_ok-minis.minis.items)
          c.deref-4.ensures.value c.in_ok-minis.ensures);
    }
