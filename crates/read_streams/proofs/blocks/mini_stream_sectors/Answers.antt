use Rattle.std.proofs.Common.{◌≡◌, ◌∙◌, ◌+◌, ◌/◌, ℕ, ap, subst, sym}
use Rattle.cfb_chains.specs.Chain.{IsChainOf}
use Rattle.cfb_entries.specs.Entries.{first_of, size_of}
use Rattle.cfb_file.specs.Denotes.{Layout, root_of, sectors}
use Rattle.read_streams.proofs.Fronts.{front_read}
use Rattle.read_streams.proofs.blocks.mini_stream_sectors.Goals as goal

pub returns : goal.returns
returns c = record {
  found = λ a h t d o.
      let l : Layout = d.layout in
      let start : c.in_ok-root.root.first ≡ first_of (root_of a l) = c.in_ok-root.ensures.first a h t d in
      let size : c.in_ok-root.root.size ≡ size_of (root_of a l) = c.in_ok-root.ensures.size a h t d in
      let chain : IsChainOf (sectors a l) c.in_ok-root.root.first (size_of (root_of a l)) l.mini_stream =
      subst (λ (x : ℕ). IsChainOf (sectors a l) x (size_of (root_of a l)) l.mini_stream) (sym start)
      d.laid_out.mini_stream in
      c.in_ok-sectors.ensures
      ∙ front_read a l c.args.table.now o c.in_ok-root.root.first (size_of (root_of a l))
      l.mini_stream chain c.count_sectors.result
      (c.count_sectors.ensures ∙ ap (λ n. (n + 511) / 512) size);
}
