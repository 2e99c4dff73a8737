use Rattle.std.proofs.Common.{subst, arith}
use Rattle.boxes.specs.Codes.{phdr_code}
use Rattle.writer.specs.Puts.{Puts}
use Rattle.writer.specs.Written.{phdr_contents, collection_bytes}
use Rattle.writer.proofs.Puts.{room_next, puts_next}
use Rattle.writer.proofs.Boxed.{boxed}
use Rattle.writer.proofs.buffer.Cursor.put_page_header.Goals as goal

pub put_collection-requires : goal.put_collection-requires
put_collection-requires c =
    let h = c.args.header in
    room_next c.args.self.now _ (collection_bytes h.collection) c.requires c.put_fields.new.self c.put_fields.ensures

pub returns : goal.returns
returns c =
    let h = c.args.header in
    let a = c.args.self.now in
    let b = c.put_collection.new.self in
    subst (Puts a b) (boxed phdr_code c.page_header_size.result (phdr_contents h c.args.nlobj) (omega arith))
    (puts_next a _ (collection_bytes h.collection) c.requires c.put_fields.new.self c.put_fields.ensures b c.put_collection.ensures)
