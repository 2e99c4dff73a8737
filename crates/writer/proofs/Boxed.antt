-- A row and a page as the parts that are put one after the other: there is room for each part, and together they are the box. Assumes nothing.
use Rattle.std.proofs.Common.{◌≡◌, ℕ, ◌+◌, List, ◌++◌, length, ap, ◌∙◌, subst, arith}
use Rattle.std.specs.List.{flat_map}
use Rattle.boxes.specs.Codes.{page_code, lobj_code}
use Rattle.boxes.specs.Field.{digits}
use Rattle.plan.specs.Headers.{style_number}
use Rattle.plan.specs.Page.{Page}
use Rattle.plan.specs.declared.layout.Row.{Row}
use Rattle.writer.specs.Puts.{HasRoom, Puts}
use Rattle.writer.specs.Written.{box, lhdr, objcs, lobj, phdr, res, written}
use Rattle.writer.specs.declared.buffer.Cursor.{Cursor}
use Rattle.writer.proofs.Puts.{room_first, room_next, puts_next}

-- the header of a box
abbrev box_header : ℕ → ℕ → List ℕ
box_header size code = digits 4 size ++ digits 4 code

-- the length that is written is that of the box
pub boxed : (code size : ℕ) (contents : List ℕ) → size ≡ 8 + length contents → box_header size code ++ contents ≡ box code contents
boxed code size contents is = ap (λ n. digits 4 n ++ (digits 4 code ++ contents)) is

-- a row
module _ (row : Row) (size : ℕ) (size_is : size ≡ length (lobj row)) (a : Cursor) (room : HasRoom a (lobj row)) where
  abbrev head : List ℕ
  head = lhdr row.layout (style_number row.objects)

  abbrev objects : List ℕ
  objects = objcs row.objects

  room-row : HasRoom a (box_header size lobj_code ++ (head ++ objects))
  unfolding lobj
  room-row = omega arith

  module _ (b : Cursor) (first : Puts a b (box_header size lobj_code)) where
    room-head : HasRoom b (head ++ objects)
    room-head = room_next a (box_header size lobj_code) (head ++ objects) room-row b first

    pub room_head : HasRoom b head
    room_head = room_first b head objects room-head

    module _ (c : Cursor) (second : Puts b c head) where
      pub room_objects : HasRoom c objects
      room_objects = room_next b head objects room-head c second

      pub puts_row : (d : Cursor) → Puts c d objects → Puts a d (lobj row)
      unfolding lobj
      puts_row d third =
          subst (Puts a d)
          (boxed lobj_code size (head ++ objects) (omega arith))
          (puts_next a (box_header size lobj_code) (head ++ objects) room-row b first d (puts_next b head objects room-head c second d third))

-- a page
module _ (p : Page) (size count : ℕ) (size_is : size ≡ length (written p)) (count_is : count ≡ length p.rows) (a : Cursor) (room : HasRoom a (written p)) where
  abbrev header : List ℕ
  header = phdr p.header count

  abbrev resolution : List ℕ
  resolution = res p.resolution

  abbrev rows : List ℕ
  rows = flat_map lobj p.rows

  room-page : HasRoom a (box_header size page_code ++ (header ++ (resolution ++ rows)))
  unfolding written
  room-page = omega arith

  module _ (b : Cursor) (first : Puts a b (box_header size page_code)) where
    room-header : HasRoom b (header ++ (resolution ++ rows))
    room-header = room_next a (box_header size page_code) (header ++ (resolution ++ rows)) room-page b first

    pub room_header : HasRoom b header
    room_header = room_first b header (resolution ++ rows) room-header

    module _ (c : Cursor) (second : Puts b c header) where
      room-resolution : HasRoom c (resolution ++ rows)
      room-resolution = room_next b header (resolution ++ rows) room-header c second

      pub room_resolution : HasRoom c resolution
      room_resolution = room_first c resolution rows room-resolution

      module _ (d : Cursor) (third : Puts c d resolution) where
        pub room_rows : HasRoom d rows
        room_rows = room_next c resolution rows room-resolution d third

        pub puts_page : (e : Cursor) → Puts d e rows → Puts a e (written p)
        unfolding written
        puts_page e fourth =
            subst (Puts a e)
            (boxed page_code size (header ++ (resolution ++ rows)) (omega arith) ∙ ap (λ n. box page_code (phdr p.header n ++ (resolution ++ rows))) count_is)
            (puts_next a (box_header size page_code) (header ++ (resolution ++ rows)) room-page b first e
            (puts_next b header (resolution ++ rows) room-header c second e
            (puts_next c resolution rows room-resolution d third e fourth)))
