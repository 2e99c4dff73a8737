-- How each kind of colour is blended, and the bytes that it shows as.
-- Assumes nothing.
use Rattle.std.specs.Prelude.{ℕ, ◌+◌, ◌-◌, ◌*◌, ◌/◌, ◌≤◌, min, max, cond, List, [], ◌∷◌, nat_le}
use Rattle.raster.specs.Covers.{full}
use Rattle.raster.specs.declared.covers.Cover.{Cover}
use Rattle.raster.specs.declared.greys.Grey.{Grey}
use Rattle.raster.specs.declared.papers.Paper.{Paper}
use Rattle.raster.specs.declared.papers.Paper.TheVariants.{Blank, Ink}
use Rattle.raster.specs.declared.tints.Tint.{Tint}

-- the exact blend of two shades, times full cover: below × (255 − cover) + above × cover
abbrev pub exact : ℕ → ℕ → Cover → ℕ
exact below above cover = below * (full - cover.amount) + above * cover.amount

-- the blend of two shades, rounded: the whole part of (below × (255 − cover) + above × cover + 127) / 255
abbrev pub blended_shade : ℕ → ℕ → Cover → ℕ
blended_shade below above cover = (exact below above cover + full / 2) / full

-- how far two numbers lie apart
abbrev pub apart : ℕ → ℕ → ℕ
apart m n = (m - n) + (n - m)

-- the shade is the whole number nearest to the exact blend, never more than one half away, and between below and above
pub record Nearest (below above : ℕ) (cover : Cover) (shade : ℕ) : Type 0 where
  pub half : 2 * apart (full * shade) (exact below above cover) ≤ full
  pub closest : (other : ℕ) → apart (full * shade) (exact below above cover) ≤ apart (full * other) (exact below above cover)
  pub low : min below above ≤ shade
  pub high : shade ≤ max below above

-- a grey is blended by its shade
abbrev pub grey_blended : Grey → Grey → Cover → Grey
grey_blended below above cover = record { shade = blended_shade below.shade above.shade cover }

-- a grey shows as its shade
abbrev pub grey_shown : Grey → List ℕ
grey_shown grey = grey.shade ∷ []

-- a tint is blended like three greys
abbrev pub tint_blended : Tint → Tint → Cover → Tint
tint_blended below above cover =
    record {
      red = blended_shade below.red above.red cover;
      green = blended_shade below.green above.green cover;
      blue = blended_shade below.blue above.blue cover;
    }

-- a tint shows as its red, its green and its blue
abbrev pub tint_shown : Tint → List ℕ
tint_shown tint = tint.red ∷ tint.green ∷ tint.blue ∷ []

-- the least amount of a cover at which a paper shows what lies above
abbrev pub paper_half : ℕ
paper_half = 128

-- a paper is what lies above from half cover on, otherwise what lies below
abbrev pub paper_blended : Paper → Paper → Cover → Paper
paper_blended below above cover = cond (nat_le paper_half cover.amount) above below

-- 0 for blank, 1 for ink
abbrev pub paper_byte : Paper → ℕ
paper_byte Blank = 0
paper_byte Ink = 1

-- a paper shows as that byte
abbrev pub paper_shown : Paper → List ℕ
paper_shown paper = paper_byte paper ∷ []
