-- What the ledger reads off headers is what a memory has of them. Assumes nothing.
use Prim.Native.Nat.{ℕ, suc, ◌+◌, ◌≤◌}
use mathlib.Core.Bool.{Bool, true, false, cond, false≢true}
use mathlib.Core.List.{List, [], ◌∷◌, ◌++◌, map, append-nil, append_assoc}
use mathlib.Core.Option.{Option, none, some}
use mathlib.Core.Path.{◌≡◌, refl, sym, ap, ap₂, ◌∙◌}
use native.Mathlib.Omega.{arith}
use borrow.Author.Tests.{le-leb}
use lib.Dec.{leb}
use lib.ListN.{length, length-map, length-append}
use Rattle.answer.specs.Refusals.{sequence_place, agreement_place}
use Rattle.answer.specs.declared.Reason.TheVariants.{NotFollowing, PairsFull}
use Rattle.answer.specs.Orders.{require, ◌then◌}
use Rattle.answer.proofs.Tests.{split}
use Rattle.pairs.specs.declared.Pair.{Pair}
use Rattle.pairs.specs.Pairs.{most_pairs, is_same_pair, remembered_for, follows, has_room, pair_answer, remembering}
use Rattle.pairs.proofs.Remembering.{pair_refl, pair_sym, pair_bytes, pair_alike, remembered_own, remembered_other}
use Rattle.session.specs.Sessions.{pair_in}
use Rattle.ledger.specs.Ledgers.{Filed, headers_of, number_shown, are_of_one_pair, first_of, latest_number, is_pair_seen, first_of_pairs, header_state_answer}
use Rattle.ledger.specs.Promises.{remembered_after, remembered}
use Rattle.ledger.specs.Numbers.{unnumbered}

pub one_pair : (a b : List ℕ) → is_same_pair (pair_in a) (pair_in b) ≡ are_of_one_pair a b
unfolding is_same_pair
one_pair a b = refl

pub one_pair_self : (a : List ℕ) → are_of_one_pair a a ≡ true
one_pair_self a = sym (one_pair a a) ∙ pair_refl (pair_in a)

-- of two headers of one pair every other is of the pair or not
pub one_pair_alike : (a h x : List ℕ) → are_of_one_pair h a ≡ true → are_of_one_pair x h ≡ are_of_one_pair x a
one_pair_alike a h x e =
    sym (one_pair x h) ∙ pair_sym (pair_in x) (pair_in h)
    ∙ pair_alike (pair_in h) (pair_in a) (pair_in x) (one_pair h a ∙ e) ∙ pair_sym (pair_in a) (pair_in x) ∙ one_pair x a

-- The number remembered.

-- the same pair has the same number
number_alike : (p q : Pair) (qs : List Pair) → is_same_pair p q ≡ true → remembered_for p qs ≡ remembered_for q qs
number_alike p q [] e = refl
number_alike p q (r ∷ qs) e =
    let tested : is_same_pair r p ≡ is_same_pair r q = pair_sym r p ∙ pair_alike p q r e ∙ pair_sym q r in
    ap₂ (λ (t : Bool) (o : Option ℕ). cond t (some r.sequence) o) tested (number_alike p q qs e)

-- of a pair, behind a header
remembered_behind : (a h : List ℕ) (qs : List Pair)
    → remembered_for (pair_in a) (remembering (pair_in h) qs)
    ≡ first_of (cond (are_of_one_pair h a) (some (number_shown h)) none) (remembered_for (pair_in a) qs)
remembered_behind a h qs = go (are_of_one_pair h a) (one_pair h a)
  where
    go : (t : Bool) → is_same_pair (pair_in h) (pair_in a) ≡ t
        → remembered_for (pair_in a) (remembering (pair_in h) qs)
        ≡ first_of (cond t (some (number_shown h)) none) (remembered_for (pair_in a) qs)
    go true e =
        number_alike (pair_in a) (pair_in h) (remembering (pair_in h) qs) (pair_sym (pair_in a) (pair_in h) ∙ e)
        ∙ remembered_own (pair_in h) qs
    go false e = remembered_other (pair_in h) (pair_in a) qs e

first_groups : (x y z : Option ℕ) → first_of x (first_of y z) ≡ first_of (first_of x y) z
first_groups none y z = refl
first_groups (some n) y z = refl

pub remembered_latest : (a : List ℕ) (hs : List (List ℕ)) (qs : List Pair)
    → remembered_for (pair_in a) (remembered_after qs hs) ≡ first_of (latest_number a hs) (remembered_for (pair_in a) qs)
remembered_latest a [] qs = refl
remembered_latest a (h ∷ hs) qs =
    remembered_latest a hs (remembering (pair_in h) qs)
    ∙ ap (first_of (latest_number a hs)) (remembered_behind a h qs)
    ∙ first_groups (latest_number a hs) (cond (are_of_one_pair h a) (some (number_shown h)) none) (remembered_for (pair_in a) qs)

pub first_none : (x : Option ℕ) → first_of x none ≡ x
first_none none = refl
first_none (some n) = refl

pub remembered_of : (a : List ℕ) (files : List Filed)
    → remembered_for (pair_in a) (remembered files) ≡ latest_number a (headers_of files)
remembered_of a files = remembered_latest a (headers_of files) [] ∙ first_none (latest_number a (headers_of files))

-- Which pairs, and how many.

abbrev is_known : Option ℕ → Bool
is_known none = false
is_known (some n) = true

-- The pairs without their numbers: a known one leaves them, a new one comes at the end.

alike_unnumbered : (p q : Pair) → is_same_pair q p ≡ true → unnumbered p ≡ unnumbered q
alike_unnumbered p q e =
    let equal = pair_bytes q p e in
    ap₂ {C = Pair} (λ (b a : List ℕ). record { bank = b; agreement = a; sequence = 0 }) (sym equal.0) (sym equal.1)

remembering_pairs : (p : Pair) (qs : List Pair)
    → map unnumbered (remembering p qs)
    ≡ map unnumbered qs ++ cond (is_known (remembered_for p qs)) [] (unnumbered p ∷ [])
remembering_pairs p [] = refl
remembering_pairs p (q ∷ qs) = go (is_same_pair q p) refl (remembering_pairs p qs)
  where
    go : (t : Bool) → is_same_pair q p ≡ t
        → map unnumbered (remembering p qs) ≡ map unnumbered qs ++ cond (is_known (remembered_for p qs)) [] (unnumbered p ∷ [])
        → map unnumbered (cond t (p ∷ qs) (q ∷ remembering p qs))
        ≡ unnumbered q ∷ (map unnumbered qs ++ cond (is_known (cond t (some q.sequence) (remembered_for p qs))) [] (unnumbered p ∷ []))
    go true e later = ap₂ (λ (r : Pair) (rs : List Pair). r ∷ rs) (alike_unnumbered p q e) (sym (append-nil (map unnumbered qs)))
    go false e later = ap (λ (rs : List Pair). unnumbered q ∷ rs) later

-- so one pair more, unless it is known
remembering_length : (p : Pair) (qs : List Pair)
    → length (remembering p qs) ≡ cond (is_known (remembered_for p qs)) (length qs) (suc (length qs))
remembering_length p qs =
    sym (length-map (remembering p qs) unnumbered) ∙ ap length (remembering_pairs p qs)
    ∙ length-append (map unnumbered qs) (cond (is_known (remembered_for p qs)) [] (unnumbered p ∷ []))
    ∙ go (is_known (remembered_for p qs))
  where
    go : (t : Bool) → length (map unnumbered qs) + length (cond t [] (unnumbered p ∷ [])) ≡ cond t (length qs) (suc (length qs))
    go true = omega (arith, length-map qs unnumbered)
    go false = omega (arith, length-map qs unnumbered)

-- a header more among those seen, or a pair more among those known
seen_more : (a h : List ℕ) (seen : List (List ℕ))
    → is_pair_seen a (seen ++ (h ∷ [])) ≡ cond (are_of_one_pair h a) true (is_pair_seen a seen)
seen_more a h [] = refl
seen_more a h (x ∷ seen) =
    ap (λ (t : Bool). cond (are_of_one_pair x a) true t) (seen_more a h seen) ∙ swap (are_of_one_pair x a) (are_of_one_pair h a)
  where
    swap : (t u : Bool) → cond t true (cond u true (is_pair_seen a seen)) ≡ cond u true (cond t true (is_pair_seen a seen))
    swap true true = refl
    swap true false = refl
    swap false u = refl

known_more : (a h : List ℕ) (qs : List Pair)
    → is_known (remembered_for (pair_in a) (remembering (pair_in h) qs))
    ≡ cond (are_of_one_pair h a) true (is_known (remembered_for (pair_in a) qs))
known_more a h qs = ap is_known (remembered_behind a h qs) ∙ go (are_of_one_pair h a)
  where
    go : (t : Bool) → is_known (first_of (cond t (some (number_shown h)) none) (remembered_for (pair_in a) qs))
        ≡ cond t true (is_known (remembered_for (pair_in a) qs))
    go true = refl
    go false = refl

-- the pairs known are those seen
abbrev Sees : List (List ℕ) → List Pair → Type 0
Sees seen qs = (a : List ℕ) → is_known (remembered_for (pair_in a) qs) ≡ is_pair_seen a seen

-- a header whose pair was seen adds none
seen_again : (a h : List ℕ) (seen : List (List ℕ)) → is_pair_seen h seen ≡ true → are_of_one_pair h a ≡ true → is_pair_seen a seen ≡ true
seen_again a h [] e f = e
seen_again a h (x ∷ seen) e f =
    go (are_of_one_pair x h) (are_of_one_pair x a) (one_pair_alike a h x f) e (λ k. seen_again a h seen k f)
  where
    go : (t u : Bool) → t ≡ u → cond t true (is_pair_seen h seen) ≡ true
        → (is_pair_seen h seen ≡ true → is_pair_seen a seen ≡ true) → cond u true (is_pair_seen a seen) ≡ true
    go t true q e later = refl
    go true false q e later = absurd (false≢true (sym q))
    go false false q e later = later e

-- the pair of a header, without its number
abbrev pair_alone : List ℕ → Pair
pair_alone h = unnumbered (pair_in h)

abbrev InOrder : List (List ℕ) → Type 0
InOrder hs =
    (seen : List (List ℕ)) (qs : List Pair) → Sees seen qs
    → map unnumbered (remembered_after qs hs) ≡ map unnumbered qs ++ map pair_alone (first_of_pairs seen hs)

in_order : (hs : List (List ℕ)) → InOrder hs
in_order [] seen qs sees = sym (append-nil (map unnumbered qs))
in_order (h ∷ hs) seen qs sees = go (is_pair_seen h seen) refl (in_order hs)
  where
    next : List Pair
    next = remembering (pair_in h) qs

    grown : (t : Bool) → is_pair_seen h seen ≡ t → map unnumbered next ≡ map unnumbered qs ++ cond t [] (pair_alone h ∷ [])
    grown t e = remembering_pairs (pair_in h) qs ∙ rw (sees h, e)

    known_then : (seen' : List (List ℕ)) → ((a : List ℕ) → is_pair_seen a seen' ≡ cond (are_of_one_pair h a) true (is_pair_seen a seen))
        → Sees seen' next
    known_then seen' more a = known_more a h qs ∙ ap (cond (are_of_one_pair h a) true) (sees a) ∙ sym (more a)

    stays : is_pair_seen h seen ≡ true → (a : List ℕ) → is_pair_seen a seen ≡ cond (are_of_one_pair h a) true (is_pair_seen a seen)
    stays e a = split (λ (t : Bool). is_pair_seen a seen ≡ t) (are_of_one_pair h a) (seen_again a h seen e) (λ f. refl)

    go : (t : Bool) → is_pair_seen h seen ≡ t → InOrder hs
        → map unnumbered (remembered_after next hs)
        ≡ map unnumbered qs ++ map pair_alone (cond t (first_of_pairs seen hs) (h ∷ first_of_pairs (seen ++ (h ∷ [])) hs))
    go true e later =
        later seen next (known_then seen (stays e))
        ∙ ap (λ (ps : List Pair). ps ++ map pair_alone (first_of_pairs seen hs)) (grown true e ∙ append-nil (map unnumbered qs))
    go false e later =
        let more = map pair_alone (first_of_pairs (seen ++ (h ∷ [])) hs) in
        later (seen ++ (h ∷ [])) next (known_then (seen ++ (h ∷ [])) (λ a. seen_more a h seen))
        ∙ ap (λ (ps : List Pair). ps ++ more) (grown false e)
        ∙ append_assoc (map unnumbered qs) (pair_alone h ∷ []) more

-- from no pair on
pub remembered_in_order : (hs : List (List ℕ)) → map unnumbered (remembered_after [] hs) ≡ map pair_alone (first_of_pairs [] hs)
remembered_in_order hs = in_order hs [] [] (λ a. refl)

pub count_pairs : (hs : List (List ℕ)) → length (remembered_after [] hs) ≡ length (first_of_pairs [] hs)
count_pairs hs =
    sym (length-map (remembered_after [] hs) unnumbered) ∙ ap length (remembered_in_order hs) ∙ length-map (first_of_pairs [] hs) pair_alone

-- headers joined
pub after_joined : (hs ks : List (List ℕ)) (qs : List Pair)
    → remembered_after qs (hs ++ ks) ≡ remembered_after (remembered_after qs hs) ks
after_joined [] ks qs = refl
after_joined (h ∷ hs) ks qs = after_joined hs ks (remembering (pair_in h) qs)

pub headers_joined : (files : List Filed) (f : Filed) → headers_of (files ++ (f ∷ [])) ≡ headers_of files ++ (f.header ∷ [])
headers_joined [] f = refl
headers_joined (g ∷ files) f = ap (λ (hs : List (List ℕ)). g.header ∷ hs) (headers_joined files f)

pub remembered_joined : (files : List Filed) (f : Filed)
    → remembered (files ++ (f ∷ [])) ≡ remembering (pair_in f.header) (remembered files)
remembered_joined files f =
    ap (remembered_after []) (headers_joined files f) ∙ after_joined (headers_of files) (f.header ∷ []) []

-- 26 and 27 are the memory's, if it has no more pairs than it can have.
module _ (files : List Filed) (a : List ℕ) (few : length (remembered files) ≤ most_pairs) where
  pairs_with : length (first_of_pairs [] (headers_of files ++ (a ∷ []))) ≡ length (remembering (pair_in a) (remembered files))
  pairs_with =
      sym (count_pairs (headers_of files ++ (a ∷ []))) ∙ ap length (after_joined (headers_of files) (a ∷ []) [])

  room_by : (o : Option ℕ)
      → has_room o (length (remembered files))
      ≡ leb (cond (is_known o) (length (remembered files)) (suc (length (remembered files)))) most_pairs
  room_by (some n) = sym (le-leb (length (remembered files)) most_pairs few)
  room_by none = refl

  room : has_room (remembered_for (pair_in a) (remembered files)) (length (remembered files))
      ≡ leb (length (first_of_pairs [] (headers_of files ++ (a ∷ [])))) most_pairs
  room =
      room_by (remembered_for (pair_in a) (remembered files))
      ∙ ap (λ (n : ℕ). leb n most_pairs) (sym (pairs_with ∙ remembering_length (pair_in a) (remembered files)))

  pub header_answer_holds : pair_answer (remembered files) (pair_in a) ≡ header_state_answer files a
  header_answer_holds =
      ap₂ (λ (o : Option ℕ) (t : Bool). require (follows o (number_shown a)) NotFollowing sequence_place then require t PairsFull agreement_place)
      (remembered_of a files) room
