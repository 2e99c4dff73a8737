-- A box in the written form, met by the walk of a container. Assumes nothing.
use Rattle.std.proofs.Common.{◌≡◌, ℕ, ◌+◌, ◌-◌, ◌<◌, ◌≤◌, Bool, true, false, cond, not, ◌&&◌, eqb, ltb, List, [], ◌∷◌, ◌++◌, length, drop, Some, None, Ok, Result, sym, refl, ap, ◌∙◌, ap₂, arith, length-append}
use Rattle.std.proofs.lemmas.List.{append-nil, take_at, drop_at}
use Rattle.std.proofs.lemmas.Bool.Decides.{nat_tests}
use Rattle.boxes.specs.Frame.{framed, frame_made, length_tests, long_length}
use Rattle.boxes.specs.Table.{entry_of, place_tests, same_place}
use Rattle.boxes.specs.Tests.{Test, or_else, judged, first_failure}
use Rattle.boxes.specs.declared.frame.Frame.{Frame}
use Rattle.boxes.specs.declared.reason.Reason.{Reason}
use Rattle.boxes.specs.declared.reason.Reason.TheVariants.{Truncated, BadLength}
use Rattle.boxes.specs.declared.table.Entry.{Entry}
use Rattle.boxes.specs.declared.table.Place.{Place}
use Rattle.boxes.specs.declared.table.Place.TheVariants as places
use Rattle.reader.proofs.Walks.{walk-on, walk-empty}
use Rattle.reader.specs.Walk.{Rules, then, located, tested, contents_of, sized, listed, framed_box, met, walked, end_tests, superbox}
use Rattle.writer.specs.Written.{box}
use Rattle.roundtrip.specs.Fits.{InBytes}
use Rattle.roundtrip.proofs.Digits.{field-digits}

-- what a header says, by its numbers: left is all that is left of the container, and long is the eight-byte length
abbrev said : Bool → ℕ → ℕ → ℕ → ℕ → Result Frame Reason
said top left long short code =
    judged
    ((ltb left 8, Truncated)
    ∷ (ltb left (cond (eqb short 1) 16 8), Truncated)
    ∷ (eqb short 0 && not top, BadLength)
    ∷ length_tests (cond (eqb short 1) 16 8) (cond (eqb short 0) left (cond (eqb short 1) long short)) left)
    (frame_made code (cond (eqb short 1) 16 8) (cond (eqb short 0) left (cond (eqb short 1) long short)))

-- a length of 8 and above that lies within the container is granted
said-short : (top : Bool) (left long n code : ℕ) → 8 ≤ n → n ≤ left → said top left long n code ≡ Ok (frame_made code 8 n)
said-short top left long n code low high = grind (arith, nat_tests)

-- a value whose tests pass
pub tested-passes : {A : Type 0} (p : Place) (at : ℕ) (ts : List Test) (a : A) → first_failure ts ≡ None → tested p at ts a ≡ Ok a
tested-passes p at ts a e = ap (λ o. located p at (or_else o a)) e

module _ (code : ℕ) (contents rest : List ℕ) (known : InBytes 4 code) (fits : InBytes 4 (8 + length contents)) where
  pub box-framed : (top : Bool) → framed top (box code contents ++ rest) ≡ Ok (frame_made code 8 (8 + length contents))
  box-framed top =
      let l = length-append contents rest in
      ap₂ (said top (length (box code contents ++ rest)) (long_length (box code contents ++ rest))) (field-digits 4 (8 + length contents) fits) (field-digits 4 code known)
      ∙ said-short top (length (box code contents ++ rest)) (long_length (box code contents ++ rest)) (8 + length contents) code (omega arith) (omega arith)

  box-contents : contents_of (frame_made code 8 (8 + length contents)) (box code contents ++ rest) ≡ contents
  box-contents = take_at contents rest (8 + length contents - 8) (omega arith)

  -- a box whose place passes, and that the container takes
  module _ {S : Type 0} (r : Rules S) (at : ℕ) (first : Bool) (s s' : S) (e : Entry) (is : entry_of code ≡ Some e) (passes : first_failure (place_tests r.place e (r.count s e.kind) first) ≡ None) (takes : r.taken s e.kind at (at + 8) contents ≡ Ok s') where
    box-listed : listed r at first (box code contents ++ rest) s (frame_made code 8 (8 + length contents)) (Some e) ≡ Ok s'
    box-listed =
        ap (λ q. then q (λ t. r.taken t e.kind at (at + 8) (contents_of (frame_made code 8 (8 + length contents)) (box code contents ++ rest)))) (tested-passes r.place at (place_tests r.place e (r.count s e.kind) first) s passes)
        ∙ ap (r.taken s e.kind at (at + 8)) box-contents
        ∙ takes

    box-met : met r at first (box code contents ++ rest) s ≡ Ok (8 + length contents, s')
    box-met =
        ap (framed_box r at first (box code contents ++ rest) s) (box-framed (same_place r.place places.File))
        ∙ ap (λ o. sized r (frame_made code 8 (8 + length contents)) (listed r at first (box code contents ++ rest) s (frame_made code 8 (8 + length contents)) o)) is
        ∙ ap (sized r (frame_made code 8 (8 + length contents))) box-listed

    pub walk-box : walked r (length (box code contents ++ rest)) at first (box code contents ++ rest) s ≡ walked r (length rest) (at + (8 + length contents)) false rest s'
    walk-box =
        let over : drop (8 + length contents) (box code contents ++ rest) ≡ rest = drop_at (box code contents) rest (8 + length contents) (omega arith) in
        let some : 0 < length (box code contents ++ rest) = omega arith in
        walk-on r at first (box code contents ++ rest) s (8 + length contents, s') some box-met
        ∙ ap (λ l. walked r (length l) (at + (8 + length contents)) false l s') over

module _ (code : ℕ) (contents : List ℕ) (known : InBytes 4 code) (fits : InBytes 4 (8 + length contents)) {S : Type 0} (r : Rules S) (at : ℕ) (first : Bool) (s s' : S) (e : Entry) (is : entry_of code ≡ Some e) (passes : first_failure (place_tests r.place e (r.count s e.kind) first) ≡ None) (takes : r.taken s e.kind at (at + 8) contents ≡ Ok s') where
  -- the last box of a container
  pub walk-last : walked r (length (box code contents)) at first (box code contents) s ≡ Ok s'
  walk-last =
      ap (λ l. walked r (length l) at first l s) (sym (append-nil (box code contents)))
      ∙ walk-box code contents [] known fits r at first s s' e is passes takes
      ∙ walk-empty r (at + (8 + length contents)) false [] s' refl

-- a superbox whose walk is granted, and whose tests at its end pass
pub superbox_passes : {S : Type 0} (r : Rules S) (at body : ℕ) (bs : List ℕ) (s t : S) → walked r (length bs) body true bs s ≡ Ok t → first_failure (end_tests r t) ≡ None → superbox r at body bs s ≡ Ok t
superbox_passes r at body bs s t goes ends =
    ap (λ q. then q (λ u. tested r.place at (end_tests r u) u)) goes ∙ tested-passes r.place at (end_tests r t) t ends
