-- The table of box types, and the tests of where a box stands. Assumes nothing.
use Rattle.std.specs.Prelude.{ℕ, Bool, true, false, cond, not, ◌&&◌, List, [], ◌∷◌, Some, None, Option, ◌==◌, nat_le}
use Rattle.boxes.specs.declared.reason.Reason.TheVariants.{Misplaced, TooManyObjects}
use Rattle.boxes.specs.declared.table.Entry.{Entry}
use Rattle.boxes.specs.declared.table.Kind.{Kind}
use Rattle.boxes.specs.declared.table.Kind.TheVariants as kinds
use Rattle.boxes.specs.declared.table.Place.{Place}
use Rattle.boxes.specs.declared.table.Place.TheVariants as places
use Rattle.boxes.specs.Codes.{page_code, phdr_code, res_code, resd_code, lobj_code, lhdr_code, objc_code, ohdr_code}
use Rattle.boxes.specs.Tests.{Test}

-- the layer of a container
abbrev pub layer_of : Place → ℕ
layer_of places.File = 0
layer_of places.Page = 1
layer_of places.Resolution = 1
layer_of places.LayoutObject = 2
layer_of places.Object = 3

-- the containers by a number each, to compare them
abbrev pub place_index : Place → ℕ
place_index places.File = 0
place_index places.Page = 1
place_index places.Resolution = 2
place_index places.LayoutObject = 3
place_index places.Object = 4

abbrev pub same_place : Place → Place → Bool
same_place p q = place_index p == place_index q

-- a line of the table: code, kind, container, least and most, first
abbrev line : ℕ → Kind → Place → ℕ → Option ℕ → Bool → Entry
line c k p l m f = record { code = c; kind = k; inside = p; least = l; most = m; first = f }

-- the types, where each stands, and how often
abbrev pub table : List Entry
table =
    line page_code kinds.Page places.File 0 None false
    ∷ line phdr_code kinds.PageHeader places.Page 1 (Some 1) true
    ∷ line res_code kinds.Resolution places.Page 1 (Some 1) false
    ∷ line resd_code kinds.DisplayResolution places.Resolution 1 (Some 1) false
    ∷ line lobj_code kinds.LayoutObject places.Page 0 (Some 64) false
    ∷ line lhdr_code kinds.LayoutHeader places.LayoutObject 1 (Some 1) true
    ∷ line objc_code kinds.Object places.LayoutObject 1 (Some 2) false
    ∷ line ohdr_code kinds.ObjectHeader places.Object 1 (Some 1) true
    ∷ []

-- the first of some lines that has a code
abbrev pub looked_up : ℕ → List Entry → Option Entry
looked_up c [] = None
looked_up c (e ∷ es) = cond (e.code == c) (Some e) (looked_up c es)

-- the line of a code
abbrev pub entry_of : ℕ → Option Entry
entry_of c = looked_up c table

-- n boxes of a type are as many as there may be
abbrev pub reached : Option ℕ → ℕ → Bool
reached None n = false
reached (Some m) n = nat_le m n

-- the types by a number each, to compare them
abbrev pub kind_index : Kind → ℕ
kind_index kinds.Page = 0
kind_index kinds.PageHeader = 1
kind_index kinds.Resolution = 2
kind_index kinds.DisplayResolution = 3
kind_index kinds.LayoutObject = 4
kind_index kinds.LayoutHeader = 5
kind_index kinds.Object = 6
kind_index kinds.ObjectHeader = 7

abbrev pub same_kind : Kind → Kind → Bool
same_kind k l = kind_index k == kind_index l

-- the tests of where a box stands, in their order: p is its container, n how many boxes of its type stand there already,
-- and first says that it is the container's first box
abbrev pub place_tests : Place → Entry → ℕ → Bool → List Test
place_tests p e n first =
    (same_kind e.kind kinds.LayoutObject && reached e.most n, TooManyObjects)
    ∷ (not (same_place e.inside p), Misplaced)
    ∷ (reached e.most n, Misplaced)
    ∷ (e.first && not first, Misplaced)
    ∷ []
