-- What a record is told is ignored where it is joined or made, unless it is a G. Assumes nothing.
use Rattle.std.specs.Prelude.{None, Option, Some}
use Prim.Native.Nat.{ℕ}
use mathlib.Core.Bool.{false}
use mathlib.Core.List.{List}
use mathlib.Core.Path.{◌≡◌, refl, sym}
use borrow.Author.Tests.{eq-eqb}
use lib.ListN.{length, get_or}
use Rattle.answer.proofs.Tests.{never}
use Rattle.layout.specs.declared.Record.{Record}
use Rattle.layout.specs.declared.Record.TheVariants.{Header, Payment, Trailer}
use Rattle.layout.specs.Layouts.{record_length, named_by, layout_of, given_length}
use Rattle.kinds.specs.Terms.{Terms, version_answer}
use Rattle.kinds.specs.Kinds.{kind_answer}
use Rattle.record.specs.Records.{field_answer, is_payment}
use Rattle.fields.specs.Joining.{named_join, join_answer}
use Rattle.fields.specs.Making.{written_answer, make_answer}
use Rattle.fields.specs.Promises.{OtherJoinsIgnoreTerms, OtherMakesIgnoreTerms, PaymentsJoinUnderAVersion}

join_ignores : (t u : Terms) (m : Option Record) (rec : List ℕ) (size : ℕ) → is_payment m ≡ false → named_join t m rec size ≡ named_join u m rec size
unfolding version_answer field_answer kind_answer layout_of
join_ignores t u (Some Header) rec size p = refl
join_ignores t u (Some Payment) rec size p = never (sym p)
join_ignores t u (Some Trailer) rec size p = refl
join_ignores t u None rec size p = refl

pub other_joins_ignore_terms : OtherJoinsIgnoreTerms
unfolding join_answer
other_joins_ignore_terms t u rec size same p = rw (same, join_ignores t u (named_by (get_or rec 0 0)) rec size p)

pub make_ignores : (t u : Terms) (r : Record) (given amounts : List ℕ) (size : ℕ) → is_payment (Some r) ≡ false
    → make_answer t r given amounts size ≡ make_answer u r given amounts size
unfolding make_answer version_answer written_answer kind_answer layout_of
make_ignores t u Header given amounts size p = refl
make_ignores t u Payment given amounts size p = never (sym p)
make_ignores t u Trailer given amounts size p = refl

pub other_makes_ignore_terms : OtherMakesIgnoreTerms
other_makes_ignore_terms t u r given amounts size same p = rw (same, make_ignores t u r given amounts size p)

pub payments_join_under_a_version : PaymentsJoinUnderAVersion
unfolding join_answer version_answer
payments_join_under_a_version t rec right n e f =
    rw (right, eq-eqb (length rec) record_length n, e, eq-eqb (given_length Payment) (given_length Payment) refl, f)
