-- Laws of a record that is made field by field: what is known before a row, and how a row is passed. Assumes nothing.
use Prim.Native.Nat.{ℕ, ◌+◌, ◌-◌, ◌≤◌, ◌<◌}
use mathlib.Core.Bool.{Bool, true, false, cond, and-eq-true_iff}
use mathlib.Core.List.{List, [], ◌∷◌, ◌++◌, map, append_assoc, append-nil}
use mathlib.Core.Path.{◌≡◌, refl, sym, ap, ◌∙◌}
use native.Mathlib.Numerals.{add-one}
use native.Mathlib.Omega.{arith}
use borrow.Author.Tests.{eq-eqb, eqb-true}
use lib.ListN.{length, get_or, take, drop, drop_of_length-le, length-append, length-drop}
use lib.Seq.{drop-cons, take_all, length-take-le, take_at, drop-drop, get_or-drop}
use Rattle.answer.specs.declared.Reason.{Reason}
use Rattle.answer.specs.Answers.{Answer, Accepted, Refused}
use Rattle.answer.specs.Refusals.{answer_place}
use Rattle.answer.specs.Orders.{◌then◌, moved_by, behind, capped_behind}
use Rattle.answer.proofs.Orders.{behind_is_exact}
use Rattle.decimal.specs.Places.{width_of}
use Rattle.layout.specs.declared.Field.{Field}
use Rattle.layout.specs.declared.Kind.TheVariants as kind
use Rattle.layout.specs.declared.Record.{Record}
use Rattle.layout.specs.Layouts.{record_length, row, layout_of, stretch_of, given_of, given_at, given_length, widths_of, covers, InRecord}
use Rattle.layout.proofs.Layouts.{Next, next, covers_end, fields_cover}
use Rattle.layout.proofs.Tables.{every}
use Rattle.kinds.specs.Terms.{Terms, version_answer}
use Rattle.fields.specs.Making.{written_of, is_money, written_answer, given_width, field_made, field_made_answer, amounts_after, made_of, making_answer, make_answer}
use Rattle.fields.proofs.Parts.{given_width_is, fits_field, written_length, layout_fits}
use Rattle.fields.proofs.Writes.{put_place}

-- What is known before a field: the bytes made so far and those to come are the record, and so the answers.
pub record Making (t : Terms) (rows : List Field) (given amounts made : List ℕ) (done at used : ℕ) (r : Answer) (whole : List ℕ) : Type 0 where
  pub size : length made ≡ record_length
  pub cover : covers (done + 1) rows ≡ true
  pub fits : every fits_field rows ≡ true
  pub left : at + widths_of (map given_at rows) ≡ length given
  pub few : used + length rows ≤ 28
  pub bytes : take done made ++ made_of rows (drop at given) (drop used amounts) ≡ whole
  pub answer : making_answer t rows (drop at given) (drop used amounts) ≡ r

pub start : (t : Terms) (r : Record) {rows : List Field} (given amounts made : List ℕ) → rows ≡ layout_of r → length made ≡ record_length → length given ≡ given_length r
    → Making t rows given amounts made 0 0 0 (making_answer t (layout_of r) given amounts) (made_of (layout_of r) given amounts)
unfolding given_length
start t r given amounts made e n g =
    rw e (record {
      size = n;
      cover = fields_cover r;
      fits = (layout_fits r).0;
      left = omega (arith, g);
      few = omega (arith, (layout_fits r).1);
      bytes = refl;
      answer = refl;
    })

finish : {t : Terms} {given amounts made : List ℕ} {done at used : ℕ} {r : Answer} {whole : List ℕ} → Making t [] given amounts made done at used r whole
    → (Accepted ≡ r) × (made ≡ whole)
finish {made = made} {done = done} m =
    let d : done ≡ record_length = omega (arith, eqb-true (done + 1) (record_length + 1) m.cover) in
    let t : take done made ≡ made = take_all done made (omega (arith, m.size)) in
    (m.answer, sym t ∙ sym (append-nil (take done made)) ∙ m.bytes)

used_on : (t : Bool) (used : ℕ) (amounts : List ℕ) → drop (cond t (used + 1) used) amounts ≡ cond t (drop 1 (drop used amounts)) (drop used amounts)
used_on true used amounts = sym (drop-drop 1 used amounts)
used_on false used amounts = refl

used_few : (t : Bool) (used : ℕ) {u : ℕ} → u ≡ cond t (used + 1) used → u ≤ used + 1
used_few true used e = omega arith
used_few false used e = omega arith

-- One field: what the code needs to know of it, and what is known after it.
module _ {t : Terms} {f : Field} {fs : List Field} {given amounts made : List ℕ} {done at used : ℕ} {r : Answer} {whole : List ℕ} (m : Making t (f ∷ fs) given amounts made done at used r whole) where
  here : Next (done + 1) f fs
  here = next (done + 1) f fs m.cover

  fit : (fits_field f ≡ true) × (every fits_field fs ≡ true)
  fit = (and-eq-true_iff (fits_field f) (every fits_field fs)).0 m.fits

  pub ends : (done ≤ f.last) × (f.last ≤ record_length) × (used ≤ 28)
  ends = (omega (arith, here.wide), omega (arith, covers_end fs (f.last + 1) here.rest), omega (arith, m.few))

  front : f.first - 1 ≡ done
  front = omega (arith, here.here)

  width : length (take (f.last - done) (drop done made)) ≡ width_of (stretch_of f)
  width =
      let l = length-take-le (f.last - done) (drop done made) (omega (arith, length-drop done made, m.size, ends.0, ends.1)) in
      l ∙ omega (arith, front)

  pub placed : InRecord f
  placed = record { start = omega (arith, here.here); order = omega (arith, here.here, here.wide); end = ends.1 }

  piece_length_holds : length (take (given_width f) (drop at given)) ≡ (given_of f.kind (width_of (stretch_of f))).to - (given_of f.kind (width_of (stretch_of f))).from
  piece_length_holds = length-take-le (given_width f) (drop at given) (omega (arith, length-drop at given, m.left)) ∙ sym (given_width_is f placed.start)

  -- the bytes of the record up to it, and all of them
  filled : (ys : List ℕ) → length ys ≡ width_of (stretch_of f)
      → (length (take done made ++ ys) ≡ f.last) × (length (take done made ++ (ys ++ drop (f.last - done) (drop done made))) ≡ record_length)
  filled ys ly =
      let lt : length (take done made) ≡ done = length-take-le done made (omega (arith, m.size, ends.0, ends.1)) in
      let rest = drop (f.last - done) (drop done made) in
      let lr : length rest ≡ record_length - f.last = length-drop (f.last - done) (drop done made) ∙ omega (arith, length-drop done made, m.size, ends.0) in (
        length-append (take done made) ys ∙ omega (arith, front, ends.0),
        length-append (take done made) (ys ++ rest) ∙ omega (arith, length-append ys rest, front, ends.0, ends.1),
      )

  -- the bytes that are given for it
  module _ {wide : ℕ} (e : wide ≡ given_width f) where
    piece : take (at + wide - at) (drop at given) ≡ take (given_width f) (drop at given)
    piece = let n : at + wide - at ≡ given_width f = omega arith in ap (λ (k : ℕ). take k (drop at given)) n

    pub fits_part : (x : ℕ)
        → length (written_of f.kind (length (take (f.last - done) (drop done made))) (take (at + wide - at) (drop at given)) x) ≡ length (take (f.last - done) (drop done made))
    fits_part x = rw (width, piece) (written_length f.kind (width_of (stretch_of f)) (take (given_width f) (drop at given)) x fit.0 piece_length_holds)

    -- the answer of the call, in the table's words
    module _ {a : Answer} {x : ℕ} (ax : x ≡ get_or amounts used 0)
        (q : a ≡ written_answer t f.kind (length (take (f.last - done) (drop done made))) (take (at + wide - at) (drop at given)) x) where
      amount : x ≡ get_or (drop used amounts) 0 0
      amount = let z : used + 0 ≡ used = omega arith in ax ∙ ap (λ (k : ℕ). get_or amounts k 0) (sym z) ∙ sym (get_or-drop used amounts 0 0)

      answered_as : a ≡ written_answer t f.kind (width_of (stretch_of f)) (take (given_width f) (drop at given)) (get_or (drop used amounts) 0 0)
      answered_as = q ∙ rw (width, piece, ← amount)

      near : (answer_place a ≤ 151) × (done ≤ 150)
      near =
          let l = written_length f.kind (width_of (stretch_of f)) (take (given_width f) (drop at given)) (get_or (drop used amounts) 0 0) fit.0 piece_length_holds in
          let s : width_of (stretch_of f) ≤ 150 = omega (arith, ends.1) in
          (rw answered_as (put_place t f.kind (width_of (stretch_of f)) (take (given_width f) (drop at given)) (get_or (drop used amounts) 0 0) l s), omega (arith, ends.0, ends.1))

      pub refuses : {b : Answer} {why : Reason} {p : ℕ} → a ≡ Refused why p → b ≡ moved_by (capped_behind done) a → b ≡ r
      refuses {b} {why} {p} e2 h =
          let z : field_made_answer t f (drop at given) (drop used amounts) ≡ Refused why (behind done p) =
          ap (moved_by (behind (f.first - 1))) (sym answered_as ∙ e2) ∙ ap (λ (k : ℕ). Refused why (behind k p)) front in
          h ∙ behind_is_exact done a (omega (arith, near)) ∙ rw e2 (rw z at m.answer)

      pub step : {n u : ℕ} {ys : List ℕ} → a ≡ Accepted → n ≡ at + wide → u ≡ cond (is_money f.kind) (used + 1) used
          → ys ≡ written_of f.kind (length (take (f.last - done) (drop done made))) (take (at + wide - at) (drop at given)) x
          → Making t fs given amounts (take done made ++ (ys ++ drop (f.last - done) (drop done made))) f.last n u r whole
      step {n} {u} {ys} e2 en eu ey =
          let y : ys ≡ field_made f (drop at given) (drop used amounts) = ey ∙ rw (width, piece, ← amount) in
          let ly : length ys ≡ width_of (stretch_of f) = rw y (written_length f.kind (width_of (stretch_of f)) (take (given_width f) (drop at given)) (get_or (drop used amounts) 0 0) fit.0 piece_length_holds) in
          let rest = drop (f.last - done) (drop done made) in
          let tk : take f.last (take done made ++ (ys ++ rest)) ≡ take done made ++ ys = rw (← append_assoc (take done made) ys rest) (take_at (take done made ++ ys) rest f.last (filled ys ly).0) in
          let gn : drop n given ≡ drop (given_width f) (drop at given) = rw (en, e) (sym (drop-drop (given_width f) at given)) in
          let un : drop u amounts ≡ amounts_after f (drop used amounts) = rw eu (used_on (is_money f.kind) used amounts) in
          let z : field_made_answer t f (drop at given) (drop used amounts) ≡ Accepted = ap (moved_by (behind (f.first - 1))) (sym answered_as ∙ e2) in
          record {
            size = (filled ys ly).1;
            cover = here.rest;
            fits = fit.1;
            left = omega (arith, m.left);
            few = omega (arith, m.few, used_few (is_money f.kind) used eu);
            bytes = rw (tk, gn, un, y) (append_assoc (take done made) (field_made f (drop at given) (drop used amounts)) (made_of fs (drop (given_width f) (drop at given)) (amounts_after f (drop used amounts))) ∙ m.bytes);
            answer = rw (gn, un) (rw z at m.answer);
          }

-- at a row
pub at_row : (rows : List Field) (k : ℕ) {t : Terms} {given amounts made : List ℕ} {done at used : ℕ} {r : Answer} {whole : List ℕ}
    → k < length rows → Making t (drop k rows) given amounts made done at used r whole
    → Making t (get_or rows k (row 0 0 (kind.Mark 0)) ∷ drop (k + 1) rows) given amounts made done at used r whole
at_row rows k h m = rw add-one (rw (drop-cons rows k (row 0 0 (kind.Mark 0)) h) at m)

pub at_end : (rows : List Field) (k : ℕ) {t : Terms} {given amounts made : List ℕ} {done at used : ℕ} {r : Answer} {whole : List ℕ} → length rows ≤ k
    → Making t (drop k rows) given amounts made done at used r whole → (Accepted ≡ r) × (made ≡ whole)
at_end rows k h m = finish (rw (drop_of_length-le rows h) at m)

-- Both lengths first, then the fields.
module _ (t : Terms) (r : Record) (given amounts : List ℕ) {size : ℕ} where
  pub goes_on : {a : Answer} → size ≡ record_length → length given ≡ given_length r → a ≡ (version_answer t.version r then making_answer t (layout_of r) given amounts) → a ≡ make_answer t r given amounts size
  unfolding make_answer
  goes_on e q h = rw (eq-eqb size record_length e, eq-eqb (length given) (given_length r) q) h
