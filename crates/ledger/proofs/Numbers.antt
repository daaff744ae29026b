-- Sequence numbers over any history. Assumes nothing.
use Rattle.std.specs.Prelude.{None, Option as Maybe, Some}
use Prim.Native.Nat.{ℕ}
use mathlib.Core.Bool.{Bool, true, false, cond}
use mathlib.Core.List.{List, [], ◌∷◌, ◌++◌, map, append-nil}
use mathlib.Core.Option.{Option, none, some}
use mathlib.Core.Path.{◌≡◌, refl, sym, ap, ap₂, subst, ◌∙◌}
use native.Mathlib.Omega.{arith}
use borrow.Author.Tests.{eqb-true}
use lib.ListN.{length, get_or}
use Rattle.answer.specs.Refusals.{sequence_place}
use Rattle.answer.specs.declared.Reason.TheVariants.{NotFollowing}
use Rattle.answer.specs.Answers.{Accepted}
use Rattle.answer.proofs.Steps.{passed}
use Rattle.answer.proofs.Tests.{never}
use Rattle.layout.specs.declared.Record.{Record}
use Rattle.layout.specs.declared.Record.TheVariants.{Header, Payment, Trailer}
use Rattle.layout.specs.Layouts.{named_by}
use Rattle.file.specs.Forms.{body_of, has_line_end}
use Rattle.pairs.specs.Pairs.{next_number, remembered_for, follows}
use Rattle.pairs.proofs.Searches.{in_use}
use Rattle.session.specs.Sessions.{pair_in}
use Rattle.ledger.specs.Ledgers.{Opened, Filed, Ledger, fresh_ledger, headers_of, number_shown, are_of_one_pair, first_of, latest_number, ledger_expects, filed_with, state_answer, with_record}
use Rattle.ledger.specs.Promises.{reached, ledger_of}
use Rattle.ledger.specs.Numbers.{unnumbered, numbers_of, FollowingOn, Following, LastNumberIsRemembered, PairsInOrder, NumbersFollow}
use Rattle.ledger.proofs.Headers.{one_pair_alike, first_none, remembered_of, headers_joined, remembered_in_order, count_pairs}
use Rattle.ledger.proofs.Histories.{all_keep}
use Rattle.ledger.proofs.Agreement.{session_agrees}

pub last_number_is_remembered : LastNumberIsRemembered
last_number_is_remembered steps a =
    ap (remembered_for (pair_in a)) (session_agrees steps).memory ∙ remembered_of a (ledger_of steps).accepted

pub pairs_in_order : PairsInOrder
pairs_in_order steps =
    let agrees = session_agrees steps in
    let hs = headers_of (ledger_of steps).accepted in
    let memory = (reached steps).memory in
    let sound = agrees.sound_memory in
    let count = ap length agrees.memory ∙ count_pairs hs in
    (ap (map unnumbered) agrees.memory ∙ remembered_in_order hs, omega (arith, count, in_use memory sound.whole, sound.within), sound.within)

-- The last of some numbers, and one more behind them.

abbrev last_of : List ℕ → Option ℕ
last_of [] = none
last_of (n ∷ ns) = first_of (last_of ns) (some n)

first_of_two : (x : Option ℕ) (m n : ℕ) → first_of (first_of x (some m)) (some n) ≡ first_of x (some m)
first_of_two none m n = refl
first_of_two (some k) m n = refl

following_on : (last : ℕ) (ns : List ℕ) (n : ℕ) → FollowingOn last ns → follows (first_of (last_of ns) (some last)) n ≡ true
    → FollowingOn last (ns ++ (n ∷ []))
following_on last [] n h e = (eqb-true n (next_number last) e, tt)
following_on last (m ∷ ns) n h e =
    (h.0, following_on m ns n h.1 (ap (λ (o : Option ℕ). follows o n) (sym (first_of_two (last_of ns) m last)) ∙ e))

following_more : (ns : List ℕ) (n : ℕ) → Following ns → follows (last_of ns) n ≡ true → Following (ns ++ (n ∷ []))
following_more [] n h e = tt
following_more (m ∷ ns) n h e = following_on m ns n h e

-- The numbers of a pair, and the latest of them.

latest_is_last : (a : List ℕ) (hs : List (List ℕ)) → latest_number a hs ≡ last_of (numbers_of a hs)
latest_is_last a [] = refl
latest_is_last a (h ∷ hs) = go (are_of_one_pair h a) (latest_is_last a hs)
  where
    go : (t : Bool) → latest_number a hs ≡ last_of (numbers_of a hs)
        → first_of (latest_number a hs) (cond t (some (number_shown h)) none)
        ≡ last_of (cond t (number_shown h ∷ numbers_of a hs) (numbers_of a hs))
    go true e = ap (λ (o : Option ℕ). first_of o (some (number_shown h))) e
    go false e = first_none (latest_number a hs) ∙ e

latest_alike : (a h : List ℕ) (hs : List (List ℕ)) → are_of_one_pair h a ≡ true → latest_number h hs ≡ latest_number a hs
latest_alike a h [] e = refl
latest_alike a h (x ∷ hs) e =
    ap₂ (λ (o : Option ℕ) (t : Bool). first_of o (cond t (some (number_shown x)) none)) (latest_alike a h hs e) (one_pair_alike a h x e)

numbers_joined : (a h : List ℕ) (hs : List (List ℕ))
    → numbers_of a (hs ++ (h ∷ [])) ≡ numbers_of a hs ++ cond (are_of_one_pair h a) (number_shown h ∷ []) []
numbers_joined a h [] = refl
numbers_joined a h (x ∷ hs) = go (are_of_one_pair x a) (numbers_joined a h hs)
  where
    more : List ℕ
    more = cond (are_of_one_pair h a) (number_shown h ∷ []) []

    go : (t : Bool) → numbers_of a (hs ++ (h ∷ [])) ≡ numbers_of a hs ++ more
        → cond t (number_shown x ∷ numbers_of a (hs ++ (h ∷ []))) (numbers_of a (hs ++ (h ∷ [])))
        ≡ cond t (number_shown x ∷ numbers_of a hs) (numbers_of a hs) ++ more
    go true e = ap (λ (ns : List ℕ). number_shown x ∷ ns) e
    go false e = e

-- Of every pair the numbers follow.

abbrev AllFollow : List (List ℕ) → Type 0
AllFollow hs = (a : List ℕ) → Following (numbers_of a hs)

all_follow : (hs : List (List ℕ)) (h : List ℕ) → AllFollow hs → follows (latest_number h hs) (number_shown h) ≡ true
    → AllFollow (hs ++ (h ∷ []))
all_follow hs h all e a = subst Following (sym (numbers_joined a h hs)) (go (are_of_one_pair h a) refl)
  where
    go : (t : Bool) → are_of_one_pair h a ≡ t → Following (numbers_of a hs ++ cond t (number_shown h ∷ []) [])
    go true same =
        let last : latest_number h hs ≡ last_of (numbers_of a hs) = latest_alike a h hs same ∙ latest_is_last a hs in
        following_more (numbers_of a hs) (number_shown h) (all a) (ap (λ (o : Option ℕ). follows o (number_shown h)) (sym last) ∙ e)
    go false other = subst Following (sym (append-nil (numbers_of a hs))) (all a)

abbrev FollowsIfOpen : List Filed → Option Opened → Type 0
FollowsIfOpen files none = Unit {0}
FollowsIfOpen files (some f) = follows (latest_number f.header (headers_of files)) (number_shown f.header) ≡ true

record Numbered (k : Ledger) : Type 0 where
  files : AllFollow (headers_of k.accepted)
  opened : FollowsIfOpen k.accepted k.opened

with_record_holds : (files : List Filed) (o : Option Opened) (n : Maybe Record) (ended : Bool) (rec : List ℕ) → AllFollow (headers_of files)
    → FollowsIfOpen files o → ledger_expects o n ≡ true → state_answer files o n rec ≡ Accepted
    → Numbered (with_record files o n ended rec)
with_record_holds files none (Some Header) ended rec all h x e =
    record { files = all; opened = (passed (follows (latest_number rec (headers_of files)) (number_shown rec)) NotFollowing sequence_place e).0 }
with_record_holds files none (Some Payment) ended rec all h x e = never x
with_record_holds files none (Some Trailer) ended rec all h x e = never x
with_record_holds files none None ended rec all h x e = never x
with_record_holds files (some f) (Some Header) ended rec all h x e = never x
with_record_holds files (some f) (Some Payment) ended rec all h x e = record { files = all; opened = h }
with_record_holds files (some f) (Some Trailer) ended rec all h x e =
    record {
      files = subst AllFollow (sym (headers_joined files (filed_with f rec))) (all_follow (headers_of files) f.header all h);
      opened = tt;
    }
with_record_holds files (some f) None ended rec all h x e = never x

pub numbers_follow : NumbersFollow
numbers_follow steps =
    (all_keep Numbered (λ k h. record { files = h.files; opened = tt })
    (λ k rec h e.
    with_record_holds k.accepted k.opened (named_by (get_or rec 0 0)) (has_line_end rec) (body_of rec) h.files h.opened e.expected e.state)
    fresh_ledger steps (record { files = λ a. tt; opened = tt })).files
