-- The promise over whole runs.
-- Assumes nothing.
use Rattle.std.proofs.Common.{◌≡◌, ℕ, zero, suc, ◌+◌, ◌-◌, ◌*◌, ◌<◌, ◌≤◌, Bool, true, false, cond, leb, List, [], ◌∷◌, length, is_some, Some, None, Ok, Err, Option, Result, sym, refl, ap, ◌∙◌, subst, ap₂, add-zero, zero-add, arith}
use Rattle.std.specs.List.{slice_get}
use Rattle.std.specs.Option.{option_map}
use Rattle.std.proofs.lemmas.Nat.{mul-add-lt}
use Rattle.std.proofs.lemmas.Bool.{cond-true, leb-true}
use Rattle.plan.specs.declared.layout.Row.{Row}
use Rattle.raster.specs.Covers.{full_cover}
use Rattle.raster.specs.Meanings.{Meaning}
use Rattle.raster.specs.Touches.{touch_at}
use Rattle.raster.specs.declared.covers.Cover.{Cover}
use Rattle.raster.specs.declared.touches.Placement.{Placement}
use Rattle.raster.specs.declared.touches.Touch.{Touch}
use Rattle.cells.specs.Gathers.{changed, total, first, or_else}
use Rattle.cells.specs.Outcomes.{in_the_way, lay_counts, laid_cells}
use Rattle.cells.specs.Passes.{fresh, laid_cell, level_of, out_of_turn, missing}
use Rattle.cells.specs.Windows.{wide, high, holds, index_at, inside, granted}
use Rattle.cells.specs.declared.rectangles.Rectangle.{Rectangle}
use Rattle.cells.specs.declared.refusals.Refusal.{Refusal}
use Rattle.cells.specs.declared.refusals.Refusal.TheVariants.{Window}
use Rattle.cells.specs.declared.stored.Cell.{Cell}
use Rattle.cells.proofs.Places.{Held, held_from, column-index, row-index}
use Rattle.canvas.proofs.Each.{Each, each_nth, changed-length}
use Rattle.canvas.proofs.Opening.{memory-is}
use Rattle.canvas.proofs.Running.{Sound, each_laid, each-wiped, each-fresh, standing-laid, standing-wiped, standing-fresh}
use Rattle.canvas.proofs.Stacking.{agreed}
use Rattle.canvas.specs.Placements.{placement_of}
use Rattle.canvas.specs.Runs.{Run, opening, laying, wiping, showing, raised_by, wiped_by, Stands, Promise}
use Rattle.canvas.specs.Sheets.{Sheet, Handed, colour_to}
use Rattle.canvas.specs.Views.{View, lawful, check_answer, area_by, opened, object_at, lay_object, object_cells, lay_answer, laid, levels_wiped, wiped, standing, cell_at}

-- what each step of a run keeps: the page, the colours, the balance, and memory enough for every cell
pub record Keeps {C : Type 0} (blended : C → C → Cover → C) (sheet : Sheet C) (v : View C) (up down : ℕ) : Type 0 where
  pub page : v.page ≡ sheet.page
  pub each : Each (Sound blended sheet v.area) 0 v.cells
  pub sum : up ≡ down + standing v
  pub room : wide v.area * high v.area ≤ length v.cells

-- an element that is there
nth-there : {X : Type 0} (xs : List X) (n : ℕ) → n < length xs → is_some (slice_get xs n) ≡ true
nth-there [] n h = absurd (omega arith)
nth-there (x ∷ xs) zero h = refl
nth-there (x ∷ xs) (suc n) h = nth-there xs n (omega arith)

nth-within : {X : Type 0} (xs : List X) (n : ℕ) (x : X) → slice_get xs n ≡ Some x → n < length xs
nth-within [] n x e = absurd cc
nth-within (y ∷ xs) zero x e = omega arith
nth-within (y ∷ xs) (suc n) x e = let h = nth-within xs n x e in omega arith

-- the row of an object that is there
row_of : (o : Option Row) (place : Placement) → option_map placement_of o ≡ Some place → (r : Row) × (o ≡ Some r) × (placement_of r ≡ place)
row_of None place e = absurd cc
row_of (Some r) place e = let same : placement_of r ≡ place = cc in (r, refl, same)

-- nothing is in the way
module _ {C : Type 0} (k : ℕ) (touch : ℕ → ℕ → Touch C) (area window : Rectangle) (cells : List (Cell C)) where
  clear-window : (b : Bool) (o : Option Refusal) (r : Refusal) → cond b o (Some r) ≡ None → (b ≡ true) × (o ≡ None)
  clear-window true o r e = (refl, e)
  clear-window false o r e = absurd cc

  clear_both : (o p : Option Refusal) → or_else o p ≡ None → p ≡ None
  clear_both None p e = e
  clear_both (Some r) p e = absurd cc

  clear-way : in_the_way k touch area window cells ≡ None → (granted area window ≡ true) × (first area window (missing k touch) cells ≡ None)
  unfolding in_the_way
  clear-way e =
      let p = clear-window (granted area window) (or_else (first area window (out_of_turn k) cells) (first area window (missing k touch) cells)) _ e in
      (p.0, clear_both (first area window (out_of_turn k) cells) (first area window (missing k touch) cells) p.1)

changed-long : {X : Type 0} (area window : Rectangle) (f : ℕ → ℕ → X → X) (xs : List X) → length (changed area window f xs) ≡ length xs
unfolding changed
changed-long area window f xs = changed-length _ 0 xs

module _ {C : Type 0} (blended : C → C → Cover → C) (sheet : Sheet C) where
  -- opening
  room_open : (b m : Bool) (n : ℕ) (r s : Refusal) (cells : ℕ) → cond b (cond m (Ok n) (Err r)) (Err s) ≡ Ok cells → m ≡ true
  room_open true true n r s cells e = refl
  room_open true false n r s cells e = absurd cc
  room_open false m n r s cells e = absurd cc

  open-room : (area : Rectangle) (memory : List (Cell C)) (answer : Result ℕ Refusal) → check_answer sheet.page area (length memory) ≡ answer →
      wide (area_by area answer) * high (area_by area answer) ≤ length memory
  open-room area memory (Ok cells) e =
      leb-true (wide area * high area) (length memory)
      (room_open (lawful sheet.page area) (leb (wide area * high area) (length memory)) (wide area * high area) _ _ cells e)
  open-room area memory (Err r) e = omega arith

  keep-open : (area : Rectangle) (memory : List (Cell C)) → Keeps blended sheet (opened sheet.page area memory sheet.colour) 0 0
  keep-open area memory =
      let answer = check_answer sheet.page area (length memory) in
      let a = area_by area answer in
      let is = memory-is sheet.colour area memory answer in
      record {
        page = refl;
        each = subst (λ xs. Each (Sound blended sheet a) 0 xs) is (each-fresh blended sheet a a memory);
        sum = sym (zero-add _ ∙ ap (total a a level_of) (sym is) ∙ standing-fresh a sheet.colour memory);
        room = subst (λ xs. wide a * high a ≤ length xs) is (subst (λ n. wide a * high a ≤ n) (sym (changed-long a a (fresh sheet.colour) memory)) (open-room area memory answer refl));
      }

  -- laying
  module _ (v : View C) (up down : ℕ) (k : ℕ) (window : Rectangle) (mask : Meaning Cover) (image : Meaning C) (handed : Handed sheet k mask image) (kept : Keeps blended sheet v up down) where
    lay-way : (place : Placement) → object_at v.page k ≡ Some place → (way : Option Refusal) → in_the_way k (touch_at place mask image) v.area window v.cells ≡ way →
        Keeps blended sheet (record { page = v.page; area = v.area; cells = laid_cells blended k (touch_at place mask image) v.area window v.cells way })
        (up + raised_by (lay_counts k v.area window v.cells way)) down
    lay-way place there (Some r) e = record { page = kept.page; each = kept.each; sum = add-zero up ∙ kept.sum; room = kept.room }
    lay-way place there None e =
        let touch = touch_at place mask image in
        let way = clear-way k touch v.area window v.cells e in
        let r = row_of (slice_get v.page.rows k) place there in
        let at : slice_get sheet.page.rows k ≡ Some r.0 = ap (λ p. slice_get p.rows k) (sym kept.page) ∙ r.1 in
        let within = nth-within sheet.page.rows k r.0 at in
        let has = subst (λ p. first v.area window (missing k (touch_at p mask image)) v.cells ≡ None) (sym r.2) way.1 in
        let each = each_laid blended sheet v.area window k r.0 at mask image (handed.masks within) (handed.images within) v.cells has kept.each in
        record {
          page = kept.page;
          each = subst (λ p. Each (Sound blended sheet v.area) 0 (changed v.area window (laid_cell blended k (touch_at p mask image)) v.cells)) r.2 each;
          sum = omega (arith, kept.sum, standing-laid v.area window way.0 blended k touch v.cells);
          room = omega (arith, kept.room, changed-long v.area window (laid_cell blended k touch) v.cells);
        }

    lay-object : (o : Option Placement) → object_at v.page k ≡ o →
        Keeps blended sheet (record { page = v.page; area = v.area; cells = object_cells blended k window mask image v.area v.cells o })
        (up + raised_by (lay_object k window mask image v.area v.cells o)) down
    lay-object None e = record { page = kept.page; each = kept.each; sum = add-zero up ∙ kept.sum; room = kept.room }
    lay-object (Some place) e = lay-way place e (in_the_way k (touch_at place mask image) v.area window v.cells) refl

    keep-lay : Keeps blended sheet (laid blended v k window mask image) (up + raised_by (lay_answer v k window mask image)) down
    keep-lay = lay-object (object_at v.page k) refl

  -- wiping
  module _ (v : View C) (up down : ℕ) (window : Rectangle) (kept : Keeps blended sheet v up down) where
    wipe-by : (b : Bool) → granted v.area window ≡ b →
        Keeps blended sheet (record { page = v.page; area = v.area; cells = cond b (changed v.area window (fresh sheet.colour) v.cells) v.cells }) up
        (down + wiped_by (cond b (Ok (total v.area window level_of v.cells)) (Err Window)))
    wipe-by true grant =
        record {
          page = kept.page;
          each = each-wiped blended sheet v.area window v.cells kept.each;
          sum = omega (arith, kept.sum, standing-wiped v.area window grant sheet.colour v.cells);
          room = omega (arith, kept.room, changed-long v.area window (fresh sheet.colour) v.cells);
        }
    wipe-by false grant =
        record { page = kept.page; each = kept.each; sum = kept.sum ∙ ap (λ n. n + standing v) (sym (add-zero down)); room = kept.room }

    keep-wipe : Keeps blended sheet (wiped v window sheet.colour) up (down + wiped_by (levels_wiped v window))
    keep-wipe = wipe-by (granted v.area window) refl

  -- every run keeps these
  pub keeps : {v : View C} {up down : ℕ} → Run blended sheet v up down → Keeps blended sheet v up down
  keeps (opening area memory) = keep-open area memory
  keeps (laying {v} {up} {down} k window mask image handed run) = keep-lay v up down k window mask image handed (keeps run)
  keeps (wiping {v} {up} {down} window run) = keep-wipe v up down window (keeps run)
  keeps (showing run) = keeps run

-- what is kept says of each position of the canvas
module _ {C : Type 0} (blended : C → C → Cover → C) (sheet : Sheet C) (v : View C) (up down : ℕ) (kept : Keeps blended sheet v up down) where
  -- the cell of a position is there
  cell-there : (column row : ℕ) → Held v.area column row → is_some (slice_get v.cells (index_at v.area column row)) ≡ true
  cell-there column row held =
      let a = v.area in
      let few : (row - a.top) * wide a + (column - a.left) < wide a * high a
      = mul-add-lt (row - a.top) (wide a) (column - a.left) (high a) (omega (arith, held.top, held.bottom)) (omega (arith, held.left, held.right)) in
      nth-there v.cells (index_at a column row) (omega (arith, kept.room))

  pub positions-whole : (column row : ℕ) → holds v.area column row ≡ true → is_some (cell_at v column row) ≡ true
  positions-whole column row h =
      ap is_some (cond-true (holds v.area column row) (slice_get v.cells (index_at v.area column row)) None h)
      ∙ cell-there column row (held_from v.area column row h)

  holds-some : {X : Type 0} (b : Bool) (o : Option X) (x : X) → cond b o None ≡ Some x → (b ≡ true) × (o ≡ Some x)
  holds-some true o x e = (refl, e)
  holds-some false o x e = absurd cc

  pub cells-sound : (column row : ℕ) (cell : Cell C) → Stands v column row cell → cell.colour ≡ colour_to blended sheet cell.level column row
  unfolding inside
  cells-sound column row cell stands =
      let p = holds-some (holds v.area column row) (slice_get v.cells (index_at v.area column row)) cell stands in
      let held = held_from v.area column row p.0 in
      let at = index_at v.area column row in
      let c = column-index v.area column row held.left held.right held.top in
      let r = row-index v.area column row held.left held.right held.top in
      let sound = each_nth (Sound blended sheet v.area) 0 at at v.cells cell (zero-add at) p.1 kept.each in
      sound (ap₂ (holds v.area) c r ∙ p.0) ∙ ap₂ (colour_to blended sheet cell.level) c r

-- the promise, from the law that full cover hides what lies below
pub promise : {C : Type 0} (blended : C → C → Cover → C) → ((below above : C) → blended below above full_cover ≡ above) → Promise blended
promise blended hides sheet v up down run =
    let kept = keeps blended sheet run in
    record {
      whole = positions-whole blended sheet v up down kept;
      colours = cells-sound blended sheet v up down kept;
      balanced = kept.sum;
      alike = λ other w up' down' run' column row cell stands full column' row' cell' stands' full' agree.
          let kept' = keeps blended other run' in
          cells-sound blended sheet v up down kept column row cell stands
          ∙ ap (λ n. colour_to blended sheet n column row) (full ∙ ap (λ p. length p.rows) kept.page)
          ∙ agreed blended hides sheet other column row column' row' agree
          ∙ sym (ap (λ n. colour_to blended other n column' row') (full' ∙ ap (λ p. length p.rows) kept'.page))
          ∙ sym (cells-sound blended other w up' down' kept' column' row' cell' stands');
    }
