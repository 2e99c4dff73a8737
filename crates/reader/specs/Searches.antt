-- The search for one page box of a file, by its number among them. Assumes nothing.
use Rattle.std.specs.Prelude.{ℕ, zero, suc, Bool, true, false, cond, Some, None, Option}

-- How many page boxes stand before the one that is wanted, or none where it has come; and what was kept of it.
pub record SearchState (A : Type 0) : Type 0 where
  pub left : Option ℕ
  pub found : Option A

abbrev pub search_state : {A : Type 0} → Option ℕ → Option A → SearchState A
search_state l f = record { left = l; found = f }

-- the next page box is the one that is wanted
abbrev pub due : Option ℕ → Bool
due None = false
due (Some zero) = true
due (Some (suc n)) = false

-- how many stand before it after one page box more, or none where it has come
abbrev pub one_less : Option ℕ → Option ℕ
one_less None = None
one_less (Some zero) = None
one_less (Some (suc n)) = Some n

-- one page box more, of which something is kept where it is the one that is wanted
abbrev pub sought : {A : Type 0} → Option ℕ → Option A → Option A → SearchState A
sought left found kept = search_state (one_less left) (cond (due left) kept found)
