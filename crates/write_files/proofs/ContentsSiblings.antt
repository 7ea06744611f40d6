-- The links of siblings as the writer keeps them are the balanced ones.
use Rattle.std.proofs.Common.{◌≡◌, ◌<◌, ℕ, List, slice_index, arith}
use Rattle.cfb_entries.specs.SearchTree.{IsSearchTree}
use Rattle.cfb_layout.specs.Directory.{balanced, IsLink}
use Rattle.cfb_layout.proofs.ContentsIds.{top-link, links-at}
use Rattle.cfb_layout.proofs.ContentsBalanced.{are-balanced, one-top, same-links}

module _ (ls rs : List ℕ) (n top : ℕ) (search : IsSearchTree ls rs 0 n top) where
  pub top-named : IsLink n top
  top-named = top-link ls rs 0 n top search

  pub top-same : top ≡ (balanced n).top
  top-same = one-top ls rs (balanced n).left (balanced n).right 0 n top (balanced n).top search (are-balanced n)

  pub left-named : (place : ℕ) → place < n → IsLink n (slice_index ls place)
  left-named place l = (links-at ls rs 0 n top search place (omega arith) l).to_left

  pub right-named : (place : ℕ) → place < n → IsLink n (slice_index rs place)
  right-named place l = (links-at ls rs 0 n top search place (omega arith) l).to_right

  pub left-same : (place : ℕ) → place < n → slice_index ls place ≡ slice_index (balanced n).left place
  left-same place l = (same-links ls rs (balanced n).left (balanced n).right 0 n top (balanced n).top search
      (are-balanced n)).left place (omega arith) l

  pub right-same : (place : ℕ) → place < n → slice_index rs place ≡ slice_index (balanced n).right place
  right-same place l = (same-links ls rs (balanced n).left (balanced n).right 0 n top (balanced n).top search
      (are-balanced n)).right place (omega arith) l
