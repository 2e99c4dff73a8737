-- Two plans that say the same are equal: the places past the last row are blank, and what a ghost field says is said in one way. Assumes nothing.
use Rattle.std.proofs.Common.{◌≡◌, ◌-◌, ◌++◌, length, replicate, Ok, Result, sym, ap, ◌∙◌, ap₂, arith, take-append-drop}
use denote.Struct.Record.{values_one}
use Rattle.plan.specs.Laws.{blank_row}
use Rattle.plan.specs.Page.{Page, page_of}
use Rattle.plan.specs.declared.lawful.Plan.{Plan}
use Rattle.plan.specs.contracts.lawful.Plan as plans
use Rattle.plan.specs.contracts.layout.Row as rows
use Rattle.plan.specs.contracts.page.PageHeader as headers
use Rattle.plan.specs.contracts.page.Resolution as resolutions
use Rattle.plan.proofs.Rows.{count-rows}
use Rattle.reader.specs.Reading.{page_at}
use Rattle.reader.specs.declared.read.Refusal.{Refusal}
use Rattle.writer.specs.Written.{written}
use Rattle.roundtrip.specs.Fits.{PageFits}
use Rattle.roundtrip.specs.RoundTrip.{ReadsBack, WritesBack, OneForm, RoundTrip}
use Rattle.roundtrip.proofs.Pages.{reads_back}

ok_same : {a b : Page} → ◌≡◌ {A = Result Page Refusal} (Ok a) (Ok b) → a ≡ b
ok_same e = cc

module _ (p q : Plan) (same : page_of p ≡ page_of q) where
  same_count : p.count ≡ q.count
  same_count =
      count-rows p ∙ ap (λ x. length x.rows) same ∙ sym (count-rows q)

  same_rows : p.rows ≡ q.rows
  same_rows =
      sym (take-append-drop p.count p.rows)
      ∙ ap₂ (λ a b. a ++ b) (ap (λ x. x.rows) same) (p.blank ∙ ap (λ n. replicate (64 - n) blank_row) same_count ∙ sym q.blank)
      ∙ take-append-drop q.count q.rows

  pub same_plan : p ≡ q
  same_plan =
      values_one plans.struct (plans.the_propositions (headers.the_row).coded (resolutions.the_row).coded (rows.the_row).coded) p q
      (λ i. ((same i).header, ((same i).resolution, (same_rows i, (same_count i, tt)))))

-- the round trip of a plan whose fields fit
module _ (p : Plan) (fits : PageFits (page_of p)) where
  read_back : ReadsBack p
  read_back =
      let used = count-rows p in
      reads_back (page_of p) fits p.sized p.whole (omega (arith, p.few)) p.distinct

module _ (p : Plan) (fits : PageFits (page_of p)) where
  write-back : WritesBack p
  write-back bytes page is found =
      let same : Ok (page_of p) ≡ Ok page = sym (read_back p fits) ∙ ap (page_at 0) (sym is) ∙ found in
      ap written (sym (ok_same same)) ∙ sym is

  one_form : OneForm p
  one_form q other same = same_plan q p (ok_same (sym (read_back q other) ∙ ap (page_at 0) same ∙ read_back p fits))

  pub round_trip : RoundTrip p
  round_trip = record { reads_back = read_back p fits; writes_back = write-back; one_form = one_form }
