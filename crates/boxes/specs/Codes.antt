-- The codes of the box types of the table: each is the type's four letters in ASCII. Assumes nothing.
use Rattle.std.specs.Prelude.{ℕ}

-- page: a page
abbrev pub page_code : ℕ
page_code = 0x7061_6765

-- phdr: the page header
abbrev pub phdr_code : ℕ
phdr_code = 0x7068_6472

-- res and a blank: the resolution
abbrev pub res_code : ℕ
res_code = 0x7265_7320

-- resd: the default display resolution
abbrev pub resd_code : ℕ
resd_code = 0x7265_7364

-- lobj: a layout object
abbrev pub lobj_code : ℕ
lobj_code = 0x6c6f_626a

-- lhdr: the layout object header
abbrev pub lhdr_code : ℕ
lhdr_code = 0x6c68_6472

-- objc: an object
abbrev pub objc_code : ℕ
objc_code = 0x6f62_6a63

-- ohdr: the object header
abbrev pub ohdr_code : ℕ
ohdr_code = 0x6f68_6472
