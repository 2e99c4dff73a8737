use Rattle.writer.proofs.Boxed.{room_head, room_objects, puts_row}
use Rattle.writer.proofs.buffer.Cursor.put_row.Goals as goal

pub put_layout_header-requires : goal.put_layout_header-requires
put_layout_header-requires c = room_head c.args.row c.row_size.result c.row_size.ensures.value c.args.self.now c.requires c.put_box_header.new.self c.put_box_header.ensures

pub put_objects-requires : goal.put_objects-requires
put_objects-requires c = room_objects c.args.row c.row_size.result c.row_size.ensures.value c.args.self.now c.requires c.put_box_header.new.self c.put_box_header.ensures c.put_layout_header.new.self c.put_layout_header.ensures

pub returns : goal.returns
returns c = puts_row c.args.row c.row_size.result c.row_size.ensures.value c.args.self.now c.requires c.put_box_header.new.self c.put_box_header.ensures c.put_layout_header.new.self c.put_layout_header.ensures c.put_objects.new.self c.put_objects.ensures
