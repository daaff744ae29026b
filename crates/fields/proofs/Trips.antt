-- The round trips: a record's fields make it again, and what is made has the fields it was given. Assumes nothing.
use Prim.Native.Nat.{ℕ, ◌+◌, ◌-◌, ◌^◌, ◌≤◌, ◌<◌}
use mathlib.Core.Bool.{Bool, true, false, cond, ◌&&◌, and-eq-true_iff}
use mathlib.Core.List.{List, [], ◌∷◌, ◌++◌, map, append_assoc, append-nil}
use mathlib.Core.Path.{◌≡◌, refl, sym, ap, ◌∙◌}
use native.Mathlib.Omega.{arith}
use borrow.Author.Tests.{lt-ltb, eqb-true}
use lib.Dec.{eqb, ltb}
use lib.ListN.{length, get_or, take, drop, replicate, length-append, length-drop, drop_of_length-le, take-append-drop}
use lib.Seq.{length-take-le, take_all, take_at, drop_at, drop-drop}
use Rattle.answer.specs.declared.Reason.TheVariants.{NoDigit, FixedDiffers, TooWide}
use Rattle.answer.specs.Answers.{Accepted}
use Rattle.answer.specs.Orders.{◌then◌, first_refusal, moved_by, behind}
use Rattle.answer.proofs.Orders.{require_accepts, then_accepts, moved_accepts}
use Rattle.decimal.specs.declared.Class.TheVariants.{Digit, Blank}
use Rattle.decimal.specs.Bytes.{is_of, all}
use Rattle.decimal.specs.Numbers.{number_of, digits_of, width_answer}
use Rattle.decimal.proofs.Bytes.{length_zero, each_accepts}
use Rattle.decimal.proofs.Numbers.{number_fits, digits_of_number}
use Rattle.decimal.specs.Places.{width_of, part_at, gather}
use Rattle.decimal.proofs.Places.{part_of_part}
use Rattle.layout.specs.declared.Field.{Field}
use Rattle.layout.specs.declared.Kind.{Kind}
use Rattle.layout.specs.declared.Kind.TheVariants as kind
use Rattle.layout.specs.Layouts.{record_length, layout_of, stretch_of, given_of, given_at, given_length, widths_of, covers}
use Rattle.layout.proofs.Layouts.{next, covers_end, fields_cover}
use Rattle.layout.proofs.Tables.{every}
use Rattle.kinds.specs.Terms.{Terms}
use Rattle.kinds.specs.Kinds.{service_of, is_spelling, is_service, same, kind_answer}
use Rattle.record.specs.Records.{field_bytes, field_answer}
use Rattle.fields.specs.Making.{written_of, is_money, written_answer, given_width, field_made, field_made_answer, amounts_after, made_of, making_answer}
use Rattle.fields.specs.Promises.{amounts_in, FieldsMakeTheRecord, MadeIsAccepted}
use Rattle.kinds.proofs.KindLaws.{same_equal}
use Rattle.fields.proofs.Writes.{other_is}
use Rattle.fields.proofs.Parts.{layout_fits, given_order, given_width_is, fits_kind, fits_field, written_length, given_in, part_length}

blanks : (bs : List ℕ) → all (is_of Blank) bs ≡ true → replicate (length bs) 32 ≡ bs
unfolding is_of
blanks [] t = refl
blanks (b ∷ bs) t =
    let both = (and-eq-true_iff (eqb b 32) (all (is_of Blank) bs)).0 t in
    rw (eqb-true b 32 both.0, blanks bs both.1)

-- an accepted field's bytes are written again from what is given of them, and from their number
written_back : (t : Terms) (k : Kind) (w : ℕ) (bs : List ℕ) → length bs ≡ w → fits_kind k w ≡ true → kind_answer t k bs ≡ Accepted
    → written_of k w (take ((given_of k w).to - (given_of k w).from) (drop (given_of k w).from bs)) (number_of bs) ≡ bs
unfolding kind_answer is_service
written_back t (kind.Mark byte) w bs n q a = sym (same_equal bs (byte ∷ []) ((require_accepts (same bs (byte ∷ [])) FixedDiffers 1).0 a))
written_back t kind.Version w bs n q a = take_all (w - 0) bs (omega arith)
written_back t kind.Service w bs n q a =
    let s = (require_accepts (is_spelling (get_or bs 1 0) && same bs (service_of (get_or bs 1 0))) FixedDiffers 1).0 a in
    let e = same_equal bs (service_of (get_or bs 1 0)) ((and-eq-true_iff (is_spelling (get_or bs 1 0)) (same bs (service_of (get_or bs 1 0)))).0 s).1 in
    let g : get_or (take 1 (drop 1 bs)) 0 0 ≡ get_or bs 1 0 = ap (λ (l : List ℕ). get_or (take 1 (drop 1 l)) 0 0) e in
    ap service_of g ∙ sym e
written_back t kind.Blank w bs n q a =
    ap (λ (m : ℕ). replicate m 32) (sym n) ∙ blanks bs ((require_accepts (all (is_of Blank) bs) FixedDiffers 1).0 a)
written_back t kind.Text w bs n q a = take_all (w - 0) bs (omega arith)
written_back t kind.Digits w bs n q a = take_all (w - 0) bs (omega arith)
written_back t kind.Money w bs n q a =
    ap (λ (m : ℕ). digits_of m (number_of bs)) (sym n) ∙ digits_of_number bs ((each_accepts (is_of Digit) NoDigit 1 bs).0 a)
written_back t kind.Date w bs n q a = take_all (w - 0) bs (omega arith)
written_back t kind.Barcode w bs n q a = take_all (w - 0) bs (omega arith)
written_back t kind.Capture w bs n q a = take_all (w - 0) bs (omega arith)
written_back t kind.Form w bs n q a = take_all (w - 0) bs (omega arith)

-- a number that was read fits where it was read
number_fits_back : (k : Kind) (w : ℕ) (bs : List ℕ) → length bs ≡ w → cond (is_money k) (width_answer w (number_of bs)) Accepted ≡ Accepted
number_fits_back k w bs n =
    let h : number_of bs < 10 ^ w = rw (sym n) (number_fits bs) in
    let a : width_answer w (number_of bs) ≡ Accepted = (require_accepts (ltb (number_of bs) (10 ^ w)) TooWide 1).1 (lt-ltb (number_of bs) (10 ^ w) h) in
    elim (is_money k) as (λ (b : Bool). cond b (width_answer w (number_of bs)) Accepted ≡ Accepted) [ true ↦ a | false ↦ refl ]

-- what is given of a field, from the field's bytes
given_part : (f : Field) (rec : List ℕ) → 1 ≤ f.first → fits_field f ≡ true
    → take ((given_of f.kind (width_of (stretch_of f))).to - (given_of f.kind (width_of (stretch_of f))).from) (drop (given_of f.kind (width_of (stretch_of f))).from (field_bytes f rec))
    ≡ part_at (given_at f) rec
given_part f rec h t =
    let w = width_of (stretch_of f) in
    let from = (given_of f.kind w).from in
    let to = (given_of f.kind w).to in
    let o : from ≤ to = given_order f.kind w in
    let i : to ≤ w = given_in f.kind w t in
    let a : f.first - 1 + from ≡ f.first + from - 1 = omega arith in
    part_of_part rec (f.first - 1) w from (to - from) (omega arith) ∙ rw (a, given_width_is f h)

given_length_holds : (f : Field) (rec : List ℕ) → 1 ≤ f.first → fits_field f ≡ true → f.first ≤ f.last → f.last ≤ record_length → length rec ≡ record_length
    → length (part_at (given_at f) rec) ≡ given_width f
given_length_holds f rec h t o e n =
    let i : (given_of f.kind (width_of (stretch_of f))).to ≤ width_of (stretch_of f) = given_in f.kind (width_of (stretch_of f)) t in
    part_length {f = f} rec (record { start = h; order = o; end = e }) n (omega arith)

-- the amount in a field's turn, and those after it
after_is : (t : Bool) (x : ℕ) (rest : List ℕ) → cond t (drop 1 (cond t (x ∷ rest) rest)) (cond t (x ∷ rest) rest) ≡ rest
after_is true x rest = refl
after_is false x rest = refl

put_back : (t : Terms) (k : Kind) (w : ℕ) (piece rest bs : List ℕ) → length bs ≡ w → kind_answer t k bs ≡ Accepted → written_of k w piece (number_of bs) ≡ bs
    → (written_answer t k w piece (get_or (cond (is_money k) (number_of bs ∷ rest) rest) 0 0) ≡ Accepted) × (written_of k w piece (get_or (cond (is_money k) (number_of bs ∷ rest) rest) 0 0) ≡ bs)
unfolding written_answer
put_back t k w piece rest bs n a e = go (is_money k) refl
  where
    go : (m : Bool) → is_money k ≡ m
        → (cond m (width_answer w (get_or (cond m (number_of bs ∷ rest) rest) 0 0)) Accepted then kind_answer t k (written_of k w piece (get_or (cond m (number_of bs ∷ rest) rest) 0 0)) ≡ Accepted)
        × (written_of k w piece (get_or (cond m (number_of bs ∷ rest) rest) 0 0) ≡ bs)
    go true q =
        let wide : width_answer w (number_of bs) ≡ Accepted = rw q at (number_fits_back k w bs n) in
        ((then_accepts (width_answer w (number_of bs)) (kind_answer t k (written_of k w piece (number_of bs)))).1 (wide, ap (kind_answer t k) e ∙ a), e)
    go false q =
        let f = other_is k w piece (get_or rest 0 0) q ∙ sym (other_is k w piece (number_of bs) q) ∙ e in
        (ap (kind_answer t k) f ∙ a, f)

seam : (place last : ℕ) → 1 ≤ place → place ≤ last → last + 1 - 1 ≡ (place - 1) + (last - (place - 1))
seam place last h k = omega arith

-- Trip one, from a field on.
made_from : (t : Terms) (fs : List Field) (place : ℕ) (rec : List ℕ) → 1 ≤ place → length rec ≡ record_length → covers place fs ≡ true → every fits_field fs ≡ true
    → first_refusal (field_answer t rec) fs ≡ Accepted
    → (making_answer t fs (gather (map given_at fs) rec) (amounts_in fs rec) ≡ Accepted) × (made_of fs (gather (map given_at fs) rec) (amounts_in fs rec) ≡ drop (place - 1) rec)
unfolding field_answer
made_from t [] place rec h n cv q a =
    let l : length rec ≤ place - 1 = omega (arith, eqb-true place (record_length + 1) cv) in
    (refl, sym (drop_of_length-le rec l))
made_from t (f ∷ fs) place rec h n cv q a =
    let x = next place f fs cv in
    let fit = (and-eq-true_iff (fits_field f) (every fits_field fs)).0 q in
    let both = (then_accepts (field_answer t rec f) (first_refusal (field_answer t rec) fs)).0 a in
    let k = (moved_accepts (behind (f.first - 1)) (kind_answer t f.kind (field_bytes f rec))).0 both.0 in
    let one : 1 ≤ f.first = omega (arith, x.here) in
    let end : f.last ≤ record_length = omega (arith, covers_end fs (f.last + 1) x.rest) in
    let w = width_of (stretch_of f) in
    let lb : length (field_bytes f rec) ≡ w = length-take-le w (drop (f.first - 1) rec) (omega (arith, length-drop (f.first - 1) rec, x.here, x.wide)) in
    let g = part_at (given_at f) rec in
    let rest = gather (map given_at fs) rec in
    let amounts = amounts_in fs rec in
    let gp = given_part f rec one fit.0 in
    let wb : written_of f.kind w g (number_of (field_bytes f rec)) ≡ field_bytes f rec =
    ap (λ (l : List ℕ). written_of f.kind w l (number_of (field_bytes f rec))) (sym gp) ∙ written_back t f.kind w (field_bytes f rec) lb fit.0 k in
    let p = put_back t f.kind w g amounts (field_bytes f rec) lb k wb in
    let lg : length g ≡ given_width f = given_length_holds f rec one fit.0 (omega (arith, x.here, x.wide)) end n in
    let tg : take (given_width f) (g ++ rest) ≡ g = take_at g rest (given_width f) lg in
    let dg : drop (given_width f) (g ++ rest) ≡ rest = drop_at g rest (given_width f) lg in
    let am = after_is (is_money f.kind) (number_of (field_bytes f rec)) amounts in
    let ih = made_from t fs (f.last + 1) rec (omega arith) n x.rest fit.1 both.1 in
    let e = seam place f.last h x.wide in (
      rw (tg, dg, am) ((then_accepts _ _).1 (ap (moved_by (behind (f.first - 1))) p.0, ih.0)),
      rw (tg, dg, am, p.1, ih.1, x.here, e, ← drop-drop (f.last - (place - 1)) (place - 1) rec) (take-append-drop (f.last - (place - 1)) (drop (place - 1) rec)),
    )

pub fields_make_the_record : FieldsMakeTheRecord
fields_make_the_record t r rec n a = made_from t (layout_of r) 1 rec (omega arith) n (fields_cover r) (layout_fits r).0 a

one_byte : (l : List ℕ) → length l ≡ 1 → get_or l 0 0 ∷ [] ≡ l
one_byte [] e = absurd (omega arith)
one_byte (x ∷ l) e = ap (λ (r : List ℕ). x ∷ r) (sym (length_zero l (omega arith)))

joint : (p w a z : ℕ) → a ≡ p + 1 → p + 1 ≤ z → w ≡ z - (a - 1) → p + w + 1 ≡ z + 1
joint p w a z e h k = omega arith

-- what is given of a field that was written is what was given for it
written_given : (k : Kind) (w : ℕ) (piece : List ℕ) (n : ℕ) → length piece ≡ (given_of k w).to - (given_of k w).from
    → take ((given_of k w).to - (given_of k w).from) (drop (given_of k w).from (written_of k w piece n)) ≡ piece
written_given (kind.Mark byte) w piece n e = sym (length_zero piece e)
written_given kind.Version w piece n e = take_all (w - 0) piece (omega arith)
written_given kind.Service w piece n e = one_byte piece e
written_given kind.Blank w piece n e = sym (length_zero piece e)
written_given kind.Text w piece n e = take_all (w - 0) piece (omega arith)
written_given kind.Digits w piece n e = take_all (w - 0) piece (omega arith)
written_given kind.Money w piece n e = sym (length_zero piece e)
written_given kind.Date w piece n e = take_all (w - 0) piece (omega arith)
written_given kind.Barcode w piece n e = take_all (w - 0) piece (omega arith)
written_given kind.Capture w piece n e = take_all (w - 0) piece (omega arith)
written_given kind.Form w piece n e = take_all (w - 0) piece (omega arith)

-- Trip two, from a field on: the bytes before it, what it makes, and what follows.
module _ (pre piece rest : List ℕ) (a w : ℕ) (lp : length pre ≡ a) (lw : length piece ≡ w) where
  middle : take w (drop a (pre ++ (piece ++ rest))) ≡ piece
  middle = rw (drop_at pre (piece ++ rest) a lp) (take_at piece rest w lw)

checked_kind : (t : Terms) (k : Kind) (w : ℕ) (piece : List ℕ) (n : ℕ) → written_answer t k w piece n ≡ Accepted → kind_answer t k (written_of k w piece n) ≡ Accepted
unfolding written_answer
checked_kind t k w piece n e = ((then_accepts (cond (is_money k) (width_answer w n) Accepted) (kind_answer t k (written_of k w piece n))).0 e).1

made_accepts : (t : Terms) (fs : List Field) (pre given amounts : List ℕ) → covers (length pre + 1) fs ≡ true → every fits_field fs ≡ true → widths_of (map given_at fs) ≡ length given
    → making_answer t fs given amounts ≡ Accepted
    → (length (pre ++ made_of fs given amounts) ≡ record_length)
    × (first_refusal (field_answer t (pre ++ made_of fs given amounts)) fs ≡ Accepted)
    × (gather (map given_at fs) (pre ++ made_of fs given amounts) ≡ given)
unfolding field_answer
made_accepts t [] pre given amounts cv q n a =
    let z : given ≡ [] = length_zero given (sym n) in
    (rw append-nil (omega (arith, eqb-true (length pre + 1) (record_length + 1) cv)), refl, sym z)
made_accepts t (f ∷ fs) pre given amounts cv q n a =
    let x = next (length pre + 1) f fs cv in
    let fit = (and-eq-true_iff (fits_field f) (every fits_field fs)).0 q in
    let both = (then_accepts (field_made_answer t f given amounts) (making_answer t fs (drop (given_width f) given) (amounts_after f amounts))).0 a in
    let w = width_of (stretch_of f) in
    let one : 1 ≤ f.first = omega (arith, x.here) in
    let front : length pre ≡ f.first - 1 = omega (arith, x.here) in
    let lt : length (take (given_width f) given) ≡ given_width f = length-take-le (given_width f) given (omega arith) in
    let lg = lt ∙ sym (given_width_is f one) in
    let piece = field_made f given amounts in
    let lw : length piece ≡ w = written_length f.kind w (take (given_width f) given) (get_or amounts 0 0) fit.0 lg in
    let rest = made_of fs (drop (given_width f) given) (amounts_after f amounts) in
    let k = checked_kind t f.kind w (take (given_width f) given) (get_or amounts 0 0) ((moved_accepts (behind (f.first - 1)) (written_answer t f.kind w (take (given_width f) given) (get_or amounts 0 0))).0 both.0) in
    let m : field_bytes f (pre ++ (piece ++ rest)) ≡ piece = middle pre piece rest (f.first - 1) w front lw in
    let lp : length (pre ++ piece) + 1 ≡ f.last + 1 = ap (λ (v : ℕ). v + 1) (length-append pre piece) ∙ joint (length pre) (length piece) f.first f.last x.here x.wide lw in
    let on : covers (length (pre ++ piece) + 1) fs ≡ true = rw lp x.rest in
    let ln : widths_of (map given_at fs) ≡ length (drop (given_width f) given) = rw (length-drop (given_width f) given) (omega arith) in
    let ih = made_accepts t fs (pre ++ piece) (drop (given_width f) given) (amounts_after f amounts) on fit.1 ln both.1 in
    let al : (pre ++ piece) ++ rest ≡ pre ++ (piece ++ rest) = append_assoc pre piece rest in
    let i0 = rw al at ih.0 in
    let i1 = rw al at ih.1 in
    let i2 = rw al at ih.2 in
    let g : part_at (given_at f) (pre ++ (piece ++ rest)) ≡ take (given_width f) given =
    sym (given_part f (pre ++ (piece ++ rest)) one fit.0) ∙ rw m (written_given f.kind w (take (given_width f) given) (get_or amounts 0 0) lg) in (
      i0,
      (then_accepts _ _).1 (ap (moved_by (behind (f.first - 1))) (ap (kind_answer t f.kind) m ∙ k), i1),
      rw (g, i2) (take-append-drop (given_width f) given),
    )

pub made_is_accepted : MadeIsAccepted
unfolding given_length
made_is_accepted t r given amounts n a = made_accepts t (layout_of r) [] given amounts (fields_cover r) (layout_fits r).0 (sym n) a
