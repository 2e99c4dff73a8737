use Rattle.std.proofs.Common.{arith}
use Rattle.writer.specs.Written.{lobj}
use Rattle.writer.proofs.Puts.{puts_none, room_more, puts_more}
use Rattle.writer.proofs.buffer.Cursor.put_rows.Goals as goal

pub loop-row-init : goal.loop-row-init
loop-row-init c = puts_none c.args.self.now

pub put_row-requires : goal.put_row-requires
put_row-requires c = room_more lobj c.args.rows.now c.loop-row.row-index _ (omega arith) c.args.self.now c.loop-row.self c.requires c.loop-row.invariant

pub loop-row-preserved : goal.loop-row-preserved
loop-row-preserved c =
    puts_more lobj c.args.rows.now c.loop-row.row-index _ (omega arith) c.args.self.now c.loop-row.self c.requires c.loop-row.invariant c.put_row.new.self c.put_row.ensures
