use Rattle.std.proofs.Common.{◌≡◌, ◌+◌, ◌∙◌, length, min, refl, sym, ap, arith}
use Rattle.tree_streams.specs.declared.stored.Stored.{Stored}
use Rattle.cfb_file.specs.Limits.{MANY}
use Rattle.cfb_file.specs.Need.{long_pieces, short_pieces}
use Rattle.ole_model.specs.CompObjs.{comp_obj_bytes}
use Rattle.ole_model.specs.OleStreams.{ole_bytes}
use Rattle.container_model.specs.Saves.{kept}
use Rattle.container_documents.specs.Sums.{comp_obj_size, long_of, one, one_of, picture_sum, short_of, streams_sum}
use Rattle.container_documents.proofs.DocumentsRoom.{comp_obj-long}
use Rattle.container_documents.proofs.RoomSteps.{adds, picture_step, sized}
use Rattle.container_documents.proofs.room.Room.object.Goals as goal

module _ (c : goal.After-picture) where
  abbrev content : Stored
  content = kept c.args.object.now

  own : c.as_slice.result.now ≡ content.streams
  own = c.as_slice.ensures.streams ∙ ap (λ (s : Stored). s.streams) c.kept-stored.ensures

  shown : c.len-2.result ≡ length content.picture
  shown = c.len-2.ensures ∙ ap (λ (s : Stored). length s.picture) c.kept-stored.ensures

  named : c.comp_obj_size.result ≡ length (comp_obj_bytes c.args.object.now.class c.args.object.now.user_type)
  named = c.comp_obj_size.ensures ∙ ap comp_obj_size c.len.ensures
      ∙ sym (comp_obj-long c.args.object.now.class c.args.object.now.user_type c.is_typed.ensures.class)

pub returns-clause-entries : goal.returns-clause-entries
returns-clause-entries c = adds MANY c.args.self.entries c.storage.result.entries c.streams-own.result.entries
    c.stream-linked.result.entries c.stream-named.result.entries c.picture.result.entries
    1 (streams_sum one (content c).streams) 1 1 (picture_sum one (content c).picture)
    c.storage.ensures.entries
    (c.streams-own.ensures.entries ∙ ap (λ ss. min MANY (c.storage.result.entries + streams_sum one ss)) (own c))
    c.stream-linked.ensures.entries
    c.stream-named.ensures.entries
    (picture_step MANY c.picture.result.entries c.stream-named.result.entries c.len-2.result one one_of (λ b. refl)
    (content c).picture (shown c) c.picture.ensures.entries)

pub returns-clause-minis : goal.returns-clause-minis
returns-clause-minis c = adds MANY c.args.self.minis c.storage.result.minis c.streams-own.result.minis
    c.stream-linked.result.minis c.stream-named.result.minis c.picture.result.minis
    0 (streams_sum short_pieces (content c).streams) (short_pieces ole_bytes)
    (short_pieces (comp_obj_bytes c.args.object.now.class c.args.object.now.user_type))
    (picture_sum short_pieces (content c).picture)
    (omega (arith, c.storage.ensures.minis))
    (c.streams-own.ensures.minis ∙ ap (λ ss. min MANY (c.storage.result.minis + streams_sum short_pieces ss)) (own c))
    c.stream-linked.ensures.minis
    (sized MANY c.stream-linked.result.minis c.stream-named.result.minis c.comp_obj_size.result
    (length (comp_obj_bytes c.args.object.now.class c.args.object.now.user_type)) short_of (named c)
    c.stream-named.ensures.minis)
    (picture_step MANY c.picture.result.minis c.stream-named.result.minis c.len-2.result short_pieces short_of
    (λ b. refl) (content c).picture (shown c) c.picture.ensures.minis)

pub returns-clause-longs : goal.returns-clause-longs
returns-clause-longs c = adds MANY c.args.self.longs c.storage.result.longs c.streams-own.result.longs
    c.stream-linked.result.longs c.stream-named.result.longs c.picture.result.longs
    0 (streams_sum long_pieces (content c).streams) (long_pieces ole_bytes)
    (long_pieces (comp_obj_bytes c.args.object.now.class c.args.object.now.user_type))
    (picture_sum long_pieces (content c).picture)
    (omega (arith, c.storage.ensures.longs))
    (c.streams-own.ensures.longs ∙ ap (λ ss. min MANY (c.storage.result.longs + streams_sum long_pieces ss)) (own c))
    c.stream-linked.ensures.longs
    (sized MANY c.stream-linked.result.longs c.stream-named.result.longs c.comp_obj_size.result
    (length (comp_obj_bytes c.args.object.now.class c.args.object.now.user_type)) long_of (named c)
    c.stream-named.ensures.longs)
    (picture_step MANY c.picture.result.longs c.stream-named.result.longs c.len-2.result long_pieces long_of
    (λ b. refl) (content c).picture (shown c) c.picture.ensures.longs)
