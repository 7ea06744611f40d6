use Rattle.std.proofs.Common.{◌≡◌, ◌≤◌, ◌∙◌, List, ℕ, ap, length, subst, sym, take}
use Rattle.cfb_header.specs.Bytes.{joined, sector}
use Rattle.cfb_chains.specs.Chain.{END_OF_CHAIN}
use Rattle.write_zeros.specs.Parts.{AreFollowed}
use Rattle.write_zeros.specs.Taken.{IsTableIn}
use Rattle.write_zeros.specs.declared.parts.Parts.{Parts}
use Rattle.write_zeros.proofs.Read.{few_entries, parts_read}
use Rattle.write_zeros.proofs.parts.parts_of.Goals as goal

pub returns : goal.returns
returns c = λ t d.
    let file : List ℕ = c.args.file.now in
    let p : Parts = record {
      own = c.in_ok-own.own;
      next = c.in_ok-next.next;
      chains = c.in_ok-chains.chains;
      next_mini = c.in_ok-next_mini.next_mini;
      shorts = c.in_ok-shorts.shorts;
    } in
    let next : IsTableIn file p.own.fat.items p.next.items = subst (λ (s : List ℕ). IsTableIn file s p.next.items)
    c.deref.ensures.value c.in_ok-next.ensures in
    parts_read file c.args.header.now p
    (record {
      fat = c.in_ok-own.ensures.fat;
      difat = c.in_ok-own.ensures.difat;
      next = next;
      chains = subst (λ (s : List ℕ). AreFollowed file s c.args.header.now p.chains) c.deref-2.ensures.value
          c.in_ok-chains.ensures;
      next_mini = subst (λ (s : List ℕ). IsTableIn file (take c.args.header.now.mini_fat_count s) p.next_mini.items)
          c.deref-3.ensures.value
          (subst (λ n. IsTableIn file (take n c.deref-3.result.now) p.next_mini.items) c.mini_fat_count.ensures
          c.in_ok-next_mini.ensures);
      shorts = c.in_ok-shorts.ensures ∙ ap (joined (sector file)) c.deref-4.ensures.value;
    })
    c.requires (few_entries file p.own.fat.items p.next.items next c.in_ok-own.ensures.few) t d
