-- A blend of two shades, rounded to the nearest whole number.
-- Assumes nothing.
use Rattle.std.proofs.Common.{◌≡◌, ℕ, ◌+◌, ◌-◌, ◌*◌, ◌/◌, ◌≤◌, min, max, ap, ◌∙◌, subst, mul-le-mul_right, mul-add, arith}
use Rattle.raster.specs.Covers.{full}
use Rattle.raster.specs.Blends.{exact, apart, Nearest}
use Rattle.raster.specs.declared.covers.Cover.{Cover}

-- a shade laid over itself
same : (shade amount : ℕ) → amount ≤ full → shade * full ≡ shade * (full - amount) + shade * amount
same shade amount fits =
    let whole : full ≡ (full - amount) + amount = omega arith in
    ap (λ n. shade * n) whole ∙ mul-add shade (full - amount) amount

-- the exact blend lies between below and above
pub exact-low : (below above : ℕ) (cover : Cover) → cover.amount ≤ full → full * min below above ≤ exact below above cover
exact-low below above cover fits =
    let b : min below above * (full - cover.amount) ≤ below * (full - cover.amount) = mul-le-mul_right _ (omega arith) in
    let a : min below above * cover.amount ≤ above * cover.amount = mul-le-mul_right _ (omega arith) in
    omega (arith, same (min below above) cover.amount fits)

pub exact-high : (below above : ℕ) (cover : Cover) → cover.amount ≤ full → exact below above cover ≤ full * max below above
exact-high below above cover fits =
    let b : below * (full - cover.amount) ≤ max below above * (full - cover.amount) = mul-le-mul_right _ (omega arith) in
    let a : above * cover.amount ≤ max below above * cover.amount = mul-le-mul_right _ (omega arith) in
    omega (arith, same (max below above) cover.amount fits)

-- the whole part of (x + 127) / 255 is the whole number nearest to x / 255
closest : (x other : ℕ) → apart (full * ((x + full / 2) / full)) x ≤ apart (full * other) x
closest x other = omega arith

-- so rounded, the exact blend x is nearest, and between below and above
pub nearest : (below above : ℕ) (cover : Cover) (x : ℕ) → cover.amount ≤ full → x ≡ exact below above cover → Nearest below above cover ((x + full / 2) / full)
nearest below above cover x fits is =
    let low : full * min below above ≤ x = omega (arith, exact-low below above cover fits) in
    let high : x ≤ full * max below above = omega (arith, exact-high below above cover fits) in
    record {
      half = omega (arith, is);
      closest = λ other. subst (λ (e : ℕ). apart (full * ((x + full / 2) / full)) e ≤ apart (full * other) e) is (closest x other);
      low = omega arith;
      high = omega arith;
    }
