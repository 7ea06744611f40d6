use Rattle.std.proofs.Common.{◌∙◌, ℕ, List}
use Rattle.cfb_header.specs.Header.{HeaderValue}
use Rattle.tell_maps.proofs.Found.{directory_found, mini_fat_found, mini_stream_found}
use Rattle.tell_maps.proofs.Told.{storage_told}
use Rattle.tell_maps.proofs.parts.parts_of.Goals as goal

pub returns : goal.returns
returns c = record {
  found = λ a h t d o told.
      let file : List ℕ = c.args.file.now in
      let header : HeaderValue = c.args.header.now in
      let table : List ℕ = c.args.table.now in
      record {
        mini_fat = c.in_ok-mini_fat.ensures
            ∙ mini_fat_found a t d table o file h header c.requires.read c.first_mini_fat.result
            c.mini_fat_count.result c.first_mini_fat.ensures c.mini_fat_count.ensures;
        directory = c.in_ok-directory.ensures
            ∙ directory_found a t d table o file h header c.requires.read c.first_directory.result c.len.result
            c.first_directory.ensures c.len.ensures;
        mini_stream = c.in_ok-mini_stream.ensures
            ∙ mini_stream_found a t d table o c.in_ok-root.root.first c.in_ok-root.root.size
            (c.in_ok-root.ensures.first a h t d) (c.in_ok-root.ensures.size a h t d);
        streams = c.in_ok-streams.ensures
            ∙ storage_told a d.layout table o 0 c.args.outline.now t d.used told d.holds;
      };
}
