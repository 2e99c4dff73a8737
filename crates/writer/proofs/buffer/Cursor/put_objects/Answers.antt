-- A mask and an image, one after the other.
use Rattle.plan.specs.declared.headers.ObjectType.TheVariants as types
use Rattle.writer.specs.Written.{objc}
use Rattle.writer.proofs.Puts.{room_next, puts_next}
use Rattle.writer.proofs.buffer.Cursor.put_objects.Goals as goal

pub put_object-requires-in-Separate : goal.put_object-requires-in-Separate
put_object-requires-in-Separate c =
    let a = c.in-Separate in
    room_next c.args.self.now (objc a.mask types.Mask) (objc a.image types.Image) (rw a.is at c.requires) c.put_object.new.self c.put_object.ensures

pub returns-in-Separate : goal.returns-in-Separate
returns-in-Separate c =
    let a = c.in-Separate in
    rw a.is (puts_next c.args.self.now (objc a.mask types.Mask) (objc a.image types.Image) (rw a.is at c.requires) c.put_object.new.self c.put_object.ensures c.put_object-in-Separate.new.self c.put_object-in-Separate.ensures)
