use Rattle.std.proofs.Common.{drop, ◌*◌, ◌++◌, ◌-◌, ◌≡◌, ap, length, replicate, take, ◌∙◌}
use Rattle.std.specs.Int.{to_le_bytes, w16, w32}
use Rattle.std.specs.List.{flat_map}
use Rattle.cfb_header.proofs.Headers.{fields_of, fields_written, put}
use Rattle.cfb_header.proofs.header.Header.write.Goals as goal

pub returns : goal.returns
returns c =
    let h = c.args.self.now in
    let inner = c.self.inside in
    let all : c.write_u32-7.new.bytes ≡ fields_of inner.fat_count inner.first_directory inner.first_mini_fat
    inner.mini_fat_count inner.first_difat inner.difat_count =
    c.write_u32-7.ensures ∙ ap (put 72 (to_le_bytes w32 inner.difat_count))
    (c.write_u32-6.ensures ∙ ap (put 68 (to_le_bytes w32 inner.first_difat))
    (c.write_u32-5.ensures ∙ ap (put 64 (to_le_bytes w32 inner.mini_fat_count))
    (c.write_u32-4.ensures ∙ ap (put 60 (to_le_bytes w32 inner.first_mini_fat))
    (c.write_u32-3.ensures ∙ ap (put 56 (to_le_bytes w32 4096))
    (c.write_u32-2.ensures ∙ ap (put 48 (to_le_bytes w32 inner.first_directory))
    (c.write_u32.ensures ∙ ap (put 44 (to_le_bytes w32 inner.fat_count))
    (c.write_u16-5.ensures ∙ ap (put 32 (to_le_bytes w16 6))
    (c.write_u16-4.ensures ∙ ap (put 30 (to_le_bytes w16 9))
    (c.write_u16-3.ensures ∙ ap (put 28 (to_le_bytes w16 0xFFFE))
    (c.write_u16-2.ensures ∙ ap (put 26 (to_le_bytes w16 3))
    (c.write_u16.ensures ∙ ap (put 24 (to_le_bytes w16 0x3E))
    (ap (λ x. x ++ replicate 504 0) c.copy_from_slice.ensures.after)))))))))))) in
    fields_written h c.write_u32-7.new.bytes c.write_listed.new.entries
    (all ∙ (λ i. fields_of (c.self.view_is i).fat_count (c.self.view_is i).first_directory
    (c.self.view_is i).first_mini_fat (c.self.view_is i).mini_fat_count (c.self.view_is i).first_difat
    (c.self.view_is i).difat_count))
    (c.write_listed.ensures
    ∙ ap (λ x. flat_map (to_le_bytes w32) x ++ replicate
    (length (take 436 (drop 76 c.write_u32-7.new.bytes)) - 4 * length x) 255) c.fat.ensures)
