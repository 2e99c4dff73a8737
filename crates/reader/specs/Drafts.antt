-- What holds of what has been read so far. Assumes nothing.
use Rattle.std.specs.Prelude.{◌≡◌, ℕ, ◌≤◌, Bool, true, List, length, Some, None, Option}
use Rattle.plan.specs.Laws.{sized_page, whole_resolution, distinct_below, BlankFrom}
use Rattle.plan.specs.declared.headers.PageHead.{PageHead}
use Rattle.plan.specs.declared.layout.Row.{Row}
use Rattle.plan.specs.declared.page.Resolution.{Resolution}

-- what holds of a header that may not have come yet
abbrev pub lawful_maybe : {A : Type 0} → (A → Bool) → Option A → Bool
lawful_maybe lawful None = true
lawful_maybe lawful (Some h) = lawful h

abbrev pub sized_maybe : Option PageHead → Bool
sized_maybe = lawful_maybe (λ h. sized_page h.header)

abbrev pub whole_maybe : Option Resolution → Bool
whole_maybe = lawful_maybe whole_resolution

-- What holds of a page that is being read: its headers so far, how many rows there are, and the array that begins with them. A plan needs the same.
pub record IsLawful (head : Option PageHead) (resolution : Option Resolution) (used : ℕ) (rows : List Row) : Type 0 where
  pub sized : sized_maybe head ≡ true
  pub whole : whole_maybe resolution ≡ true
  pub few : used ≤ 64
  pub places : length rows ≡ 64
  pub distinct : distinct_below used rows ≡ true
  pub blank : BlankFrom used rows
