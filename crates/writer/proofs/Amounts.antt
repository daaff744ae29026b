-- The amounts that were written are read back. Assumes nothing.
use Prim.Native.Nat.{ℕ, ◌-◌, ◌^◌, ◌<◌}
use mathlib.Core.Bool.{Bool, true, false, cond}
use mathlib.Core.List.{List, [], ◌∷◌, ◌++◌, append-nil}
use mathlib.Core.Path.{◌≡◌, refl, sym, ap, ◌∙◌}
use borrow.Author.Tests.{ltb-true}
use lib.Dec.{ltb}
use lib.ListN.{length, get_or, take, drop}
use lib.Seq.{take_at, drop_at, take-append_seam, drop-append_seam}
use Rattle.answer.specs.declared.Reason.TheVariants.{TooWide}
use Rattle.answer.specs.Answers.{Accepted}
use Rattle.answer.specs.Orders.{◌then◌, behind}
use Rattle.answer.proofs.Orders.{require_accepts, then_accepts, moved_accepts}
use Rattle.decimal.specs.Numbers.{number_of, digits_of, width_answer}
use Rattle.decimal.specs.Places.{width_of}
use Rattle.decimal.proofs.Numbers.{number_of_digits, digits_fill}
use Rattle.layout.specs.declared.Field.{Field}
use Rattle.layout.specs.declared.Kind.{Kind}
use Rattle.layout.specs.declared.Kind.TheVariants as kind
use Rattle.layout.specs.declared.Record.{Record}
use Rattle.layout.specs.declared.Record.TheVariants.{Payment, Trailer}
use Rattle.layout.specs.Layouts.{record_length, layout_of, stretch_of, given_length, joined_of, row_at, table, count_row}
use Rattle.kinds.specs.Terms.{Terms}
use Rattle.kinds.specs.Kinds.{kind_answer}
use Rattle.record.specs.Records.{field_bytes}
use Rattle.record.specs.Values.{trailer_shown}
use Rattle.fields.specs.Making.{written_of, is_money, written_answer, given_width, field_made, field_made_answer, amounts_after, made_of, making_answer, make_answer}
use Rattle.fields.specs.Promises.{amounts_in}
use Rattle.fields.proofs.Trips.{fields_make_the_record, made_is_accepted}
use Rattle.file.specs.Files.{figures_of, closing_answer}
use Rattle.file.proofs.Files.{closing_accepts, figures_fit}
use Rattle.writer.specs.declared.Writer.{Writer}
use Rattle.writer.specs.Writers.{writer_terms, call_answer, count_bytes, trailer_bytes}
use Rattle.writer.specs.Promises.{WrittenAmountsAreRead, TrailerShowsTheFigures}
use Rattle.writer.proofs.Written.{making_is, written_alone, make_passes}

-- One field: what is written for two amounts is as long, and tells them apart.
module _ (w : ℕ) (g : List ℕ) (m n : ℕ) where
  same_length : (k : Kind) → length (written_of k w g m) ≡ length (written_of k w g n)
  same_length (kind.Mark byte) = refl
  same_length kind.Version = refl
  same_length kind.Service = refl
  same_length kind.Blank = refl
  same_length kind.Text = refl
  same_length kind.Digits = refl
  same_length kind.Money = (digits_fill w m).0 ∙ sym (digits_fill w n).0
  same_length kind.Date = refl
  same_length kind.Barcode = refl
  same_length kind.Capture = refl
  same_length kind.Form = refl

fits : (t : Terms) (w : ℕ) (g : List ℕ) (n : ℕ) → written_answer t kind.Money w g n ≡ Accepted → n < 10 ^ w
unfolding written_answer
fits t w g n a =
    ltb-true n (10 ^ w) ((require_accepts (ltb n (10 ^ w)) TooWide 1).0 ((then_accepts (width_answer w n) (kind_answer t kind.Money (digits_of w n))).0 a).0)

same_amount : (t : Terms) (k : Kind) (w : ℕ) (g : List ℕ) (m n : ℕ) → is_money k ≡ true → written_answer t k w g m ≡ Accepted → written_answer t k w g n ≡ Accepted
    → written_of k w g m ≡ written_of k w g n → m ≡ n
same_amount t (kind.Mark byte) w g m n y a b e = cc
same_amount t kind.Version w g m n y a b e = cc
same_amount t kind.Service w g m n y a b e = cc
same_amount t kind.Blank w g m n y a b e = cc
same_amount t kind.Text w g m n y a b e = cc
same_amount t kind.Digits w g m n y a b e = cc
same_amount t kind.Money w g m n y a b e =
    sym (number_of_digits w m (fits t w g m a)) ∙ ap number_of e ∙ number_of_digits w n (fits t w g n b)
same_amount t kind.Date w g m n y a b e = cc
same_amount t kind.Barcode w g m n y a b e = cc
same_amount t kind.Capture w g m n y a b e = cc
same_amount t kind.Form w g m n y a b e = cc

split : (p q x y : List ℕ) → length p ≡ length q → p ++ x ≡ q ++ y → (p ≡ q) × (x ≡ y)
split p q x y n e = (
  sym (take_at p x (length q) n) ∙ ap (take (length q)) e ∙ take-append_seam q y,
  sym (drop_at p x (length q) n) ∙ ap (drop (length q)) e ∙ drop-append_seam q y,
)

cons_if : (t : Bool) (x y : ℕ) (l m : List ℕ) → (t ≡ true → x ≡ y) → l ≡ m → cond t (x ∷ l) l ≡ cond t (y ∷ m) m
cons_if true x y l m h e = ap (λ (k : ℕ). k ∷ l) (h refl) ∙ ap (λ (k : List ℕ). y ∷ k) e
cons_if false x y l m h e = e

-- the amounts that rows take, in their order
abbrev moneys : List Field → List ℕ → List ℕ
moneys [] amounts = []
moneys (f ∷ fs) amounts = cond (is_money f.kind) (get_or amounts 0 0 ∷ moneys fs (amounts_after f amounts)) (moneys fs (amounts_after f amounts))

module _ (t : Terms) (f : Field) (given xs ys : List ℕ) where
  put_accepts : (l : List ℕ) → field_made_answer t f given l ≡ Accepted → written_answer t f.kind (width_of (stretch_of f)) (take (given_width f) given) (get_or l 0 0) ≡ Accepted
  put_accepts l e = (moved_accepts (behind (f.first - 1)) (written_answer t f.kind (width_of (stretch_of f)) (take (given_width f) given) (get_or l 0 0))).0 e

  amount_back : field_made_answer t f given xs ≡ Accepted → field_made_answer t f given ys ≡ Accepted → field_made f given xs ≡ field_made f given ys → is_money f.kind ≡ true → get_or xs 0 0 ≡ get_or ys 0 0
  amount_back a b e y =
      same_amount t f.kind (width_of (stretch_of f)) (take (given_width f) given) (get_or xs 0 0) (get_or ys 0 0) y (put_accepts xs a) (put_accepts ys b) e

amounts_back : (t : Terms) (rows : List Field) (given xs ys : List ℕ) → making_answer t rows given xs ≡ Accepted → making_answer t rows given ys ≡ Accepted
    → made_of rows given xs ≡ made_of rows given ys → moneys rows xs ≡ moneys rows ys
amounts_back t [] given xs ys a b e = refl
amounts_back t (f ∷ fs) given xs ys a b e =
    let rest = drop (given_width f) given in
    let pa = (then_accepts (field_made_answer t f given xs) (making_answer t fs rest (amounts_after f xs))).0 a in
    let pb = (then_accepts (field_made_answer t f given ys) (making_answer t fs rest (amounts_after f ys))).0 b in
    let cut =
    split (field_made f given xs) (field_made f given ys) (made_of fs rest (amounts_after f xs)) (made_of fs rest (amounts_after f ys))
    (same_length (width_of (stretch_of f)) (take (given_width f) given) (get_or xs 0 0) (get_or ys 0 0) f.kind) e in
    cons_if (is_money f.kind) (get_or xs 0 0) (get_or ys 0 0) (moneys fs (amounts_after f xs)) (moneys fs (amounts_after f ys)) (amount_back t f given xs ys pa.0 pb.0 cut.0)
    (amounts_back t fs rest (amounts_after f xs) (amounts_after f ys) pa.1 pb.1 cut.1)

-- what was made has the amounts it was made of
read_back : (t : Terms) (r : Record) (given amounts : List ℕ) (size : ℕ) → make_answer t r given amounts size ≡ Accepted
    → moneys (layout_of r) (amounts_in (layout_of r) (made_of (layout_of r) given amounts)) ≡ moneys (layout_of r) amounts
read_back t r given amounts size e =
    let making = making_is t r given amounts size e in
    let made = made_is_accepted t r given amounts making.0 making.2 in
    let rec = made_of (layout_of r) given amounts in
    let again = fields_make_the_record t r rec made.0 made.1 in
    amounts_back t (layout_of r) given (amounts_in (layout_of r) rec) amounts (rw made.2 at again.0) making.2 (rw made.2 at again.1)

pub written_amounts_are_read : WrittenAmountsAreRead
unfolding layout_of row_at table
written_amounts_are_read t given received tariff size e =
    let back = read_back t Payment given (received ∷ tariff ∷ []) size (make_passes t Payment given (received ∷ tariff ∷ []) size e).1 in
    (ap (λ (l : List ℕ). get_or l 0 0) back, ap (λ (l : List ℕ). get_or l 1 0) back)

-- The trailer: its count is its field bytes, its total its one amount.
pub count_back : (rec : List ℕ) → joined_of Trailer rec ≡ field_bytes (row_at count_row) rec
unfolding layout_of row_at table
count_back rec = append-nil (field_bytes (row_at count_row) rec)

count_written : (w : Writer) → closing_answer w.file ≡ Accepted → number_of (count_bytes w) ≡ (figures_of w.file).count
unfolding given_length layout_of
count_written w c = number_of_digits 6 (figures_of w.file).count (figures_fit w.file ((closing_accepts w.file).0 c)).0

total_back : (w : Writer)
    → make_answer (writer_terms [] w) Trailer (count_bytes w) ((figures_of w.file).total ∷ 0 ∷ []) record_length ≡ Accepted
    → (trailer_shown (trailer_bytes w)).total ≡ w.file.total
unfolding layout_of row_at table
total_back w e =
    ap (λ (l : List ℕ). get_or l 0 0)
    (read_back (writer_terms [] w) Trailer (count_bytes w) ((figures_of w.file).total ∷ 0 ∷ []) record_length e)

pub trailer_shows_the_figures : TrailerShowsTheFigures
trailer_shows_the_figures w size e =
    let amounts = (figures_of w.file).total ∷ 0 ∷ [] in
    let call = call_answer w Trailer (given_length Trailer) size in
    let make = make_answer (writer_terms [] w) Trailer (count_bytes w) amounts record_length in
    let behind-call = ((then_accepts call (closing_answer w.file then make)).0 e).1 in
    let both = (then_accepts (closing_answer w.file) make).0 behind-call in
    let joined = (written_alone (writer_terms [] w) Trailer (count_bytes w) amounts record_length both.1).1 in
    (ap number_of (sym (count_back (trailer_bytes w)) ∙ joined) ∙ count_written w both.0, total_back w both.1)
