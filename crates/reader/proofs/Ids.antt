-- Identifiers among rows. Assumes nothing.
use Rattle.std.proofs.Common.{◌≡◌, ℕ, ◌+◌, ◌-◌, ◌<◌, true, false, cond, not, ◌&&◌, ◌||◌, List, [], ◌∷◌, ◌++◌, length, take, drop, set, replicate, sym, refl, ap, ◌∙◌, arith, lt-ltb, ne_eqb}
use Rattle.std.proofs.lemmas.Bool.{and_parts, eqb-false, ne_eqb, not-true, or_from, or_parts}
use Rattle.std.specs.List.{list_any}
use Rattle.plan.specs.Laws.{named, has_id, distinct_ids, blank_row, BlankFrom}
use Rattle.plan.specs.declared.layout.Row.{Row}
use Rattle.reader.specs.Pages.{pushed}
use Rattle.std.proofs.lemmas.List.{drop-set-lt, drop-drop, drop-replicate, take_more_set}

-- whether some row has an identifier, by a test of each
pub any_named : (id : ℕ) (rows : List Row) → list_any (named id) rows ≡ has_id id rows
any_named id [] = refl
any_named id (row ∷ rows) = ap (λ b. named id row || b) (any_named id rows)

-- an identifier among one row more
has_id-push : (id : ℕ) (xs : List Row) (row : Row) → has_id id xs ≡ false → named id row ≡ false → has_id id (xs ++ (row ∷ [])) ≡ false
has_id-push id [] row e f = or_from (named id row) false f refl
has_id-push id (x ∷ xs) row e f =
    let p = or_parts (named id x) (has_id id xs) e in
    or_from (named id x) (has_id id (xs ++ (row ∷ []))) p.0 (has_id-push id xs row p.1 f)

-- a row with a new identifier leaves the identifiers distinct
pub distinct_push : (xs : List Row) (row : Row) → distinct_ids xs ≡ true → has_id row.layout.lobjid xs ≡ false → distinct_ids (xs ++ (row ∷ [])) ≡ true
distinct_push [] row e f = refl
distinct_push (x ∷ xs) row e f =
    let p = and_parts (not (has_id x.layout.lobjid xs)) (distinct_ids xs) e in
    let q = or_parts (named row.layout.lobjid x) (has_id row.layout.lobjid xs) f in
    let new = has_id-push x.layout.lobjid xs row (not-true _ p.0) (ne_eqb row.layout.lobjid x.layout.lobjid (λ same. eqb-false x.layout.lobjid row.layout.lobjid q.0 (sym same))) in
    ap (λ b. not b && distinct_ids (xs ++ (row ∷ []))) new ∙ distinct_push xs row p.1 q.1

-- the array of rows after one row more
module _ (rows : List Row) (n : ℕ) (row : Row) (room : n < 64) (places : length rows ≡ 64) where
  pub used-push : take (n + 1) (set rows n row) ≡ take n rows ++ (row ∷ [])
  used-push = let h : n < length rows = omega arith in take_more_set rows n row h

  pub blank-push : BlankFrom n rows → BlankFrom (n + 1) (set rows n row)
  blank-push b =
      let h : n < n + 1 = omega arith in
      let less : 64 - n - 1 ≡ 64 - (n + 1) = omega arith in
      drop-set-lt (n + 1) rows n row h ∙ sym (drop-drop 1 n rows) ∙ ap (drop 1) b ∙ drop-replicate 1 (64 - n) blank_row ∙ ap (λ k. replicate k blank_row) less

pub pushed-new : (xs : List Row) (row : Row) → length xs < 64 → has_id row.layout.lobjid xs ≡ false → pushed xs row ≡ xs ++ (row ∷ [])
pushed-new xs row room new =
    ap (λ b. cond (b && not (has_id row.layout.lobjid xs)) (xs ++ (row ∷ [])) xs) (lt-ltb (length xs) 64 room)
    ∙ ap (λ b. cond (not b) (xs ++ (row ∷ [])) xs) new
