-- A page in the written form, as it is read. Assumes nothing.
use Rattle.std.proofs.Common.{◌≡◌, ℕ, suc, ◌+◌, ◌*◌, ◌<◌, ◌≤◌, true, false, List, [], ◌∷◌, ◌++◌, length, Some, None, Ok, Option, sym, refl, ap, ◌∙◌, append_assoc, arith, lit<, length-append}
use Rattle.std.proofs.lemmas.List.{append-nil}
use Rattle.std.proofs.lemmas.Bool.Decides.{nat_tests}
use Rattle.std.specs.List.{flat_map}
use Rattle.boxes.specs.Codes.{page_code, phdr_code, res_code, lobj_code}
use Rattle.boxes.specs.Tests.{first_failure}
use Rattle.boxes.specs.declared.table.Kind.TheVariants as kinds
use Rattle.boxes.specs.declared.table.Place.TheVariants as places
use Rattle.plan.specs.Headers.{page_header_tests, style_number}
use Rattle.plan.specs.Laws.{named, has_id, distinct_ids, sized_page, whole_resolution}
use Rattle.plan.specs.Page.{Page}
use Rattle.plan.specs.declared.headers.PageHead.{PageHead}
use Rattle.plan.specs.declared.layout.Objects.{Objects}
use Rattle.plan.specs.declared.layout.Row.{Row}
use Rattle.plan.specs.declared.page.Collection.{Collection}
use Rattle.plan.specs.declared.page.PageHeader.{PageHeader}
use Rattle.plan.specs.declared.page.Resolution.{Resolution}
use Rattle.reader.proofs.Ids.{pushed-new}
use Rattle.reader.proofs.Walks.{walk-empty}
use Rattle.reader.specs.Pages.{page_state, new_page, page_rules, page_taken, with_row, page_from, file_rules, file_state, file_taken, counted}
use Rattle.reader.specs.Reading.{file_page, page_at}
use Rattle.reader.specs.Walk.{then, walked, end_tests, superbox}
use Rattle.writer.specs.Written.{collection_bytes, phdr, phdr_contents, res, resd, lhdr, objcs, lobj, page_contents, written}
use Rattle.roundtrip.specs.Fits.{InBytes, PageFits, RowFits, RowsFit}
use Rattle.roundtrip.proofs.Boxes.{tested-passes, walk-box, walk-last, superbox_passes}
use Rattle.roundtrip.proofs.Headers.{page-fields, page-passes}
use Rattle.roundtrip.proofs.Objects.{resolution_read, row_read_lem}

-- among rows with distinct identifiers, those before a row do not have its identifier
pub new_id : (done : List Row) (row : Row) (rows : List Row) → distinct_ids (done ++ (row ∷ rows)) ≡ true → has_id row.layout.lobjid done ≡ false
new_id [] row rows distinct = refl
new_id (d ∷ done) row rows distinct = grind (arith, nat_tests, new_id done row rows, not_named d.layout.lobjid done row rows)
  where
    not_named : (id : ℕ) (done : List Row) (row : Row) (rows : List Row) → has_id id (done ++ (row ∷ rows)) ≡ false → named id row ≡ false
    not_named id [] row rows e = grind (arith, nat_tests)
    not_named id (d ∷ done) row rows e = grind (arith, nat_tests, not_named id done row rows)

-- the size of a lobj box
objcs-size : (os : Objects) → length (objcs os) ≤ 88
objcs-size os = grind arith

collection_size : (c : Option Collection) → length (collection_bytes c) ≤ 14
collection_size c = grind arith

phdr-size : (h : PageHeader) (n : ℕ) → length (phdr_contents h n) ≤ 30
phdr-size h n = let m = collection_size h.collection in omega arith

lobj-size : (row : Row) → length (lobj row) ≤ 124
unfolding lobj
lobj-size row = let m = objcs-size row.objects in omega arith

lobjs_size : (rows : List Row) → length (flat_map lobj rows) ≤ 124 * length rows
lobjs_size [] = omega arith
lobjs_size (row ∷ rows) =
    let m = lobj-size row in
    let l = length-append (lobj row) (flat_map lobj rows) in
    let k = lobjs_size rows in
    omega arith

-- the layout objects of a page, after those of the rows that are done
module _ (h : Option PageHead) (r : Option Resolution) where
  row-taken : (done : List Row) (row : Row) → RowFits row → length done < 64 → has_id row.layout.lobjid done ≡ false → (at body : ℕ) → page_taken (page_state h r done) kinds.LayoutObject at body (lhdr row.layout (style_number row.objects) ++ objcs row.objects) ≡ Ok (page_state h r (done ++ (row ∷ [])))
  row-taken done row f room new at body =
      ap (λ q. then q (λ x. Ok (with_row (page_state h r done) x))) (row_read_lem done row.layout f.layout new row.objects f.objects at body)
      ∙ ap (λ rows. Ok (page_state h r rows)) (pushed-new done row room new)

  rows_walked : (done rows : List Row) → RowsFit rows → distinct_ids (done ++ rows) ≡ true → length done + length rows ≤ 64 → (at : ℕ) → walked page_rules (length (flat_map lobj rows)) at false (flat_map lobj rows) (page_state h r done) ≡ Ok (page_state h r (done ++ rows))
  unfolding lobj
  rows_walked done [] f distinct few at = walk-empty page_rules at false [] (page_state h r done) refl ∙ ap (λ rows. Ok (page_state h r rows)) (sym (append-nil done))
  rows_walked done (row ∷ rows) f distinct few at =
      let new = new_id done row rows distinct in
      let m = objcs-size row.objects in
      let contents = lhdr row.layout (style_number row.objects) ++ objcs row.objects in
      let fits : InBytes 4 (8 + length contents) = omega arith in
      let room : length done < 64 = omega arith in
      let again : (done ++ (row ∷ [])) ++ rows ≡ done ++ (row ∷ rows) = append_assoc done (row ∷ []) rows in
      let l = length-append done (row ∷ []) in
      walk-box lobj_code contents (flat_map lobj rows) (lit< tt) fits page_rules at false (page_state h r done) (page_state h r (done ++ (row ∷ []))) _ refl
      (grind (arith, nat_tests)) (row-taken done row (f 0 row (omega arith)) room new at (at + 8))
      ∙ rows_walked (done ++ (row ∷ [])) rows (λ k d below. f (suc k) d (omega arith)) (ap distinct_ids again ∙ distinct) (omega arith) (at + (8 + length contents))
      ∙ ap (λ x. Ok (page_state h r x)) again

-- a whole page
module _ (p : Page) (f : PageFits p) (sized : sized_page p.header ≡ true) (whole : whole_resolution p.resolution ≡ true) (few : length p.rows ≤ 64) (distinct : distinct_ids p.rows ≡ true) where
  abbrev count : ℕ
  count = length p.rows

  abbrev head : PageHead
  head = record { header = p.header; nlobj = count }

  abbrev lobjs : List ℕ
  lobjs = flat_map lobj p.rows

  head-taken : (at body : ℕ) → page_taken new_page kinds.PageHeader at body (phdr_contents p.header count) ≡ Ok (page_state (Some head) None [])
  head-taken at body =
      let fits : InBytes 2 count = omega arith in
      tested-passes places.Page at (page_header_tests (phdr_contents p.header count)) _ (page-passes p.header count f.header fits sized)
      ∙ ap (λ x. Ok (page_state (Some x) None [])) (page-fields p.header count f.header fits)

  resolution-taken : (at body : ℕ) → page_taken (page_state (Some head) None []) kinds.Resolution at body (resd p.resolution) ≡ Ok (page_state (Some head) (Some p.resolution) [])
  resolution-taken at body = ap (λ q. then q (λ x. Ok (page_state (Some head) x []))) (resolution_read p.resolution f.resolution whole at body)

  page-walked : (body : ℕ) → walked page_rules (length (page_contents p)) body true (page_contents p) new_page ≡ Ok (page_state (Some head) (Some p.resolution) p.rows)
  page-walked body =
      let size = length (phdr_contents p.header count) in
      let m : length (phdr_contents p.header count) ≤ 30 = phdr-size p.header count in
      let fits : InBytes 4 (8 + size) = omega arith in
      let next = body + (8 + size) in
      walk-box phdr_code (phdr_contents p.header count) (res p.resolution ++ lobjs) (lit< tt) fits page_rules body true new_page (page_state (Some head) None []) _ refl refl (head-taken body (body + 8))
      ∙ walk-box res_code (resd p.resolution) lobjs (lit< tt) (lit< tt) page_rules next false (page_state (Some head) None []) (page_state (Some head) (Some p.resolution) []) _ refl refl (resolution-taken next (next + 8))
      ∙ rows_walked (Some head) (Some p.resolution) [] p.rows f.rows distinct (omega arith) (next + 26)

  page-ends : first_failure (end_tests page_rules (page_state (Some head) (Some p.resolution) p.rows)) ≡ None
  page-ends = grind (arith, nat_tests)

  page-read : (at body : ℕ) → superbox page_rules at body (page_contents p) new_page ≡ Ok (page_state (Some head) (Some p.resolution) p.rows)
  page-read at body = superbox_passes page_rules at body (page_contents p) new_page (page_state (Some head) (Some p.resolution) p.rows) (page-walked body) page-ends

  page-taken : (at body : ℕ) → file_taken (file_state (Some 0) None) kinds.Page at body (page_contents p) ≡ Ok (file_state None (Some p))
  page-taken at body = ap (λ q. then q (λ x. Ok (counted (Some 0) None (page_from x)))) (page-read at body)

  pub reads_back : page_at 0 (written p) ≡ Ok p
  unfolding written
  reads_back =
      let m : length (phdr_contents p.header count) ≤ 30 = phdr-size p.header count in
      let k = lobjs_size p.rows in
      let l = length-append (phdr p.header count) (res p.resolution ++ lobjs) in
      let fits : InBytes 4 (8 + length (page_contents p)) = omega arith in
      ap file_page (walk-last page_code (page_contents p) (lit< tt) fits file_rules 0 true (file_state (Some 0) None) (file_state None (Some p)) _ refl refl (page-taken 0 8))
