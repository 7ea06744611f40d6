use Rattle.std.proofs.Common.{◌≡◌, ◌≤◌, ◌∙◌, List, ℕ, ap, get_or, length, subst, sym}
use Rattle.cfb_header.specs.Bytes.{joined, sector}
use Rattle.cfb_chains.specs.Chain.{END_OF_CHAIN, Leads}
use Rattle.cfb_entries.specs.Entries.{entry_at, first_of, size_of}
use Rattle.write_zeros.specs.Taken.{IsLinked}
use Rattle.write_zeros.proofs.parts.chains_of.Goals as goal

pub returns : goal.returns
returns c =
    let next : List ℕ = c.args.next.now in
    let bytes : c.deref-2.result.now ≡ c.in_ok-entries.entries.items = c.deref-2.ensures.value in
    record {
      directory = λ ns few h below.
          c.in_ok-directory.ensures ns few (subst (λ x. Leads (λ n. get_or next n 0) x ns END_OF_CHAIN)
          (sym c.first_directory.ensures) h) below;
      entries = c.in_ok-entries.ensures ∙ ap (joined (sector c.args.file.now)) c.deref.ensures.value;
      mini_fat = λ ns few h.
          c.in_ok-mini_fat.ensures ns few
          (subst (λ x. IsLinked next x c.mini_fat_count.result ns) (sym c.first_mini_fat.ensures)
          (subst (λ x. IsLinked next c.args.header.now.first_mini_fat x ns) (sym c.mini_fat_count.ensures) h));
      first = c.mini_start-root.result.first;
      size = c.mini_start-root.result.size;
      first_is = λ w. c.mini_start-root.ensures.first (subst (λ (s : List ℕ). 128 ≤ length s) (sym bytes) w)
          ∙ ap (λ (s : List ℕ). first_of (entry_at s 0)) bytes;
      size_is = λ w. c.mini_start-root.ensures.size (subst (λ (s : List ℕ). 128 ≤ length s) (sym bytes) w)
          ∙ ap (λ (s : List ℕ). size_of (entry_at s 0)) bytes;
      mini_stream = c.in_ok-mini_stream.ensures;
    }
