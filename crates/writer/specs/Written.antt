-- The written form of a page: its bytes, box by box and field by field. Assumes nothing.
use Rattle.std.specs.Prelude.{ℕ, ◌+◌, Bool, true, false, List, [], ◌∷◌, ◌++◌, length, ℤ, Some, None, Option}
use Rattle.std.specs.Int.{w8}
use Rattle.std.proofs.Common.{of_z}
use Rattle.std.specs.List.{flat_map}
use Rattle.boxes.specs.Codes.{page_code, phdr_code, res_code, resd_code, lobj_code, lhdr_code, objc_code, ohdr_code}
use Rattle.boxes.specs.Field.{digits}
use Rattle.plan.specs.Headers.{style_number, type_number}
use Rattle.plan.specs.Page.{Page}
use Rattle.plan.specs.declared.headers.ObjectType.{ObjectType}
use Rattle.plan.specs.declared.headers.ObjectType.TheVariants as types
use Rattle.plan.specs.declared.layout.Layout.{Layout}
use Rattle.plan.specs.declared.layout.Object.{Object}
use Rattle.plan.specs.declared.layout.Objects.{Objects}
use Rattle.plan.specs.declared.layout.Objects.TheVariants.{Separate, Both, Image, Mask}
use Rattle.plan.specs.declared.layout.Row.{Row}
use Rattle.plan.specs.declared.page.Collection.{Collection}
use Rattle.plan.specs.declared.page.PageHeader.{PageHeader}
use Rattle.plan.specs.declared.page.Resolution.{Resolution}

-- fields in their order, each by its width in bytes and its value
abbrev pub fields : List (ℕ × ℕ) → List ℕ
fields [] = []
fields (f ∷ fs) = digits f.0 f.1 ++ fields fs

-- a box: the length of the whole in four bytes, the type's code in four, and the contents
abbrev pub box : ℕ → List ℕ → List ℕ
box code contents = fields ((4, 8 + length contents) ∷ (4, code) ∷ []) ++ contents

-- PCOff, PCLen, PCDR, where the page belongs to a collection
abbrev pub collection_bytes : Option Collection → List ℕ
collection_bytes None = []
collection_bytes (Some c) = fields ((8, c.pcoff) ∷ (4, c.pclen) ∷ (2, c.pcdr) ∷ [])

-- PageID, NLobj, PHeight, PWidth, OR, PColor, and the collection
abbrev pub phdr_contents : PageHeader → ℕ → List ℕ
phdr_contents h nlobj =
    fields ((2, h.pageid) ∷ (2, nlobj) ∷ (4, h.pheight) ∷ (4, h.pwidth) ∷ (2, h.or) ∷ (2, h.pcolor) ∷ []) ++ collection_bytes h.collection

-- the page header, for a number of layout objects
abbrev pub phdr : PageHeader → ℕ → List ℕ
phdr h nlobj = box phdr_code (phdr_contents h nlobj)

-- a signed byte as the number that its bits are
abbrev pub signed_byte : ℤ → ℕ
signed_byte z = of_z w8 z

-- VRdN, VRdD, HRdN, HRdD, VRdE, HRdE
abbrev pub resd_contents : Resolution → List ℕ
resd_contents r = fields ((2, r.vrdn) ∷ (2, r.vrdd) ∷ (2, r.hrdn) ∷ (2, r.hrdd) ∷ (1, signed_byte r.vrde) ∷ (1, signed_byte r.hrde) ∷ [])

-- the default display resolution
abbrev pub resd : Resolution → List ℕ
resd r = box resd_code (resd_contents r)

-- the resolution, around its one box
abbrev pub res : Resolution → List ℕ
res r = box res_code (resd r)

-- LObjID, LHeight, LWidth, LVoff, LHoff, Style
abbrev pub lhdr_contents : Layout → ℕ → List ℕ
lhdr_contents l style = fields ((2, l.lobjid) ∷ (4, l.lheight) ∷ (4, l.lwidth) ∷ (4, l.lvoff) ∷ (4, l.lhoff) ∷ (2, style) ∷ [])

-- the layout object header, with a Style
abbrev pub lhdr : Layout → ℕ → List ℕ
lhdr l style = box lhdr_code (lhdr_contents l style)

-- NoCodestream as a number
abbrev pub flag : Bool → ℕ
flag false = 0
flag true = 1

-- ObjID, ObjType, NoCodestream, OVoff, OHoff, OFF, LEN, DR
abbrev pub ohdr_contents : Object → ObjectType → List ℕ
ohdr_contents o type =
    fields
    ((2, o.objid)
    ∷ (2, type_number type)
    ∷ (2, flag o.nocodestream)
    ∷ (4, o.ovoff)
    ∷ (4, o.ohoff)
    ∷ (8, o.off)
    ∷ (4, o.len)
    ∷ (2, o.dr)
    ∷ [])

-- the object header, with an ObjType
abbrev pub ohdr : Object → ObjectType → List ℕ
ohdr o type = box ohdr_code (ohdr_contents o type)

-- an object, around its header
abbrev pub objc : Object → ObjectType → List ℕ
objc o type = box objc_code (ohdr o type)

-- the objects of a layout object, the mask before the image
abbrev pub objcs : Objects → List ℕ
objcs (Separate mask image) = objc mask types.Mask ++ objc image types.Image
objcs (Both object) = objc object types.Both
objcs (Image object) = objc object types.Image
objcs (Mask object) = objc object types.Mask

-- a layout object: its header and then its objects
unfoldable pub lobj : Row → List ℕ
lobj row = box lobj_code (lhdr row.layout (style_number row.objects) ++ objcs row.objects)

-- the boxes of a page: its header, the resolution, and a layout object for each row in the order of the rows
abbrev pub page_contents : Page → List ℕ
page_contents p = phdr p.header (length p.rows) ++ (res p.resolution ++ flat_map lobj p.rows)

-- the written form of a page
unfoldable pub written : Page → List ℕ
written p = box page_code (page_contents p)

-- how many bytes that is: the page box's header, the phdr box, the res box, and the lobj boxes
abbrev pub page_size : Page → ℕ
page_size p = 8 + (24 + length (collection_bytes p.header.collection)) + 26 + length (flat_map lobj p.rows)
