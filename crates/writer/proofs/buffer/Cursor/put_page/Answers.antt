use Rattle.plan.specs.Page.{page_of}
use Rattle.writer.proofs.Boxed.{room_header, room_resolution, room_rows, puts_page}
use Rattle.writer.proofs.buffer.Cursor.put_page.Goals as goal

pub put_page_header-requires : goal.put_page_header-requires
put_page_header-requires c = room_header (page_of c.args.plan.now) c.args.size c.count.result c.requires.size c.count.ensures.value c.args.self.now c.requires.room c.put_box_header.new.self c.put_box_header.ensures

pub put_resolution-requires : goal.put_resolution-requires
put_resolution-requires c = room_resolution (page_of c.args.plan.now) c.args.size c.count.result c.requires.size c.count.ensures.value c.args.self.now c.requires.room c.put_box_header.new.self c.put_box_header.ensures c.put_page_header.new.self c.put_page_header.ensures

pub put_rows-requires : goal.put_rows-requires
put_rows-requires c = rw c.rows.ensures.value (room_rows (page_of c.args.plan.now) c.args.size c.count.result c.requires.size c.count.ensures.value c.args.self.now c.requires.room c.put_box_header.new.self c.put_box_header.ensures c.put_page_header.new.self c.put_page_header.ensures c.put_resolution.new.self c.put_resolution.ensures)

pub returns : goal.returns
returns c = puts_page (page_of c.args.plan.now) c.args.size c.count.result c.requires.size c.count.ensures.value c.args.self.now c.requires.room c.put_box_header.new.self c.put_box_header.ensures c.put_page_header.new.self c.put_page_header.ensures c.put_resolution.new.self c.put_resolution.ensures c.put_rows.new.self (rw c.rows.ensures.value at c.put_rows.ensures)
