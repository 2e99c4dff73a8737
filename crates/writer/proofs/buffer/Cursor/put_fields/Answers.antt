use Rattle.std.proofs.Common.{arith}
use Rattle.writer.specs.Fields.{field_bytes}
use Rattle.writer.proofs.Puts.{puts_none, room_more, puts_more}
use Rattle.writer.proofs.buffer.Cursor.put_fields.Goals as goal

pub loop-field-init : goal.loop-field-init
loop-field-init c = puts_none c.args.self.now

pub put_field-requires : goal.put_field-requires
put_field-requires c = room_more field_bytes c.args.fields.now c.loop-field.field-index _ (omega arith) c.args.self.now c.loop-field.self c.requires c.loop-field.invariant

pub loop-field-preserved : goal.loop-field-preserved
loop-field-preserved c =
    puts_more field_bytes c.args.fields.now c.loop-field.field-index _ (omega arith) c.args.self.now c.loop-field.self c.requires c.loop-field.invariant c.put_field.new.self c.put_field.ensures
