-- Laws of what is remembered, by the index where it is found and by the pair. Assumes nothing.
use Prim.Native.Nat.{ℕ, suc, ◌+◌, ◌≤◌, ◌<◌, min}
use mathlib.Core.Bool.{Bool, true, false, cond, ◌&&◌, and-eq-true_iff}
use mathlib.Core.List.{List, [], ◌∷◌, ◌++◌}
use mathlib.Core.Option.{none, some}
use mathlib.Core.Path.{◌≡◌, refl, sym, ap, ap₂, ◌∙◌}
use native.Mathlib.Numerals.{add-one}
use native.Mathlib.Omega.{arith}
use borrow.Author.Tests.{lt-ltb, ltb-true, ltb-false, eq-eqb}
use lib.Dec.{eqb, ltb}
use lib.ListN.{length, get_or, set, take}
use lib.Seq.{take-set-lt, take-suc-set, get_or-take}
use Rattle.answer.specs.Refusals.{sequence_place, agreement_place}
use Rattle.answer.specs.declared.Reason.TheVariants.{NotFollowing, PairsFull}
use Rattle.answer.specs.Answers.{Accepted}
use Rattle.answer.specs.Orders.{require, ◌then◌}
use Rattle.answer.proofs.Orders.{then_accepted}
use Rattle.answer.proofs.Tests.{eqb_sym}
use Rattle.kinds.specs.Kinds.{same}
use Rattle.kinds.proofs.KindLaws.{same_equal}
use Rattle.pairs.specs.declared.Pair.{Pair}
use Rattle.pairs.specs.declared.Memory.{Memory}
use Rattle.pairs.proofs.Searches.{past, in_use, index_within}
use Rattle.pairs.specs.Pairs.{most_pairs, next_number, is_same_pair, remembered_for, remembering, pairs_of, index_of, memory_answer, memory_with}

-- Pairs with the same bytes.

same_refl : (bs : List ℕ) → same bs bs ≡ true
same_refl [] = refl
same_refl (b ∷ bs) = rw (eq-eqb b b refl, same_refl bs)

same_sym : (xs bs : List ℕ) → same xs bs ≡ same bs xs
same_sym [] [] = refl
same_sym [] (b ∷ bs) = refl
same_sym (a ∷ xs) [] = refl
same_sym (a ∷ xs) (b ∷ bs) = ap₂ ◌&&◌ (eqb_sym a b) (same_sym xs bs)

pub pair_refl : (p : Pair) → is_same_pair p p ≡ true
unfolding is_same_pair
pair_refl p = rw (same_refl p.bank, same_refl p.agreement)

pub pair_sym : (p q : Pair) → is_same_pair p q ≡ is_same_pair q p
unfolding is_same_pair
pair_sym p q = ap₂ ◌&&◌ (same_sym p.bank q.bank) (same_sym p.agreement q.agreement)

pub pair_bytes : (p q : Pair) → is_same_pair p q ≡ true → (p.bank ≡ q.bank) × (p.agreement ≡ q.agreement)
unfolding is_same_pair
pair_bytes p q e =
    let both = (and-eq-true_iff (same p.bank q.bank) (same p.agreement q.agreement)).0 e in
    (same_equal p.bank q.bank both.0, same_equal p.agreement q.agreement both.1)

-- what is the same as one is the same as the other
pub pair_alike : (p q r : Pair) → is_same_pair p q ≡ true → is_same_pair p r ≡ is_same_pair q r
unfolding is_same_pair
pair_alike p q r e = rw ((pair_bytes p q e).0, (pair_bytes p q e).1)

-- By the index.

module _ (p : Pair) where
  pub found_number : (qs : List Pair) → index_of p qs < length qs
      → remembered_for p qs ≡ some (get_or qs (index_of p qs) past).sequence
  found_number [] h = absurd (omega arith)
  found_number (q ∷ qs) h = go (is_same_pair q p) h (found_number qs)
    where
      go : (t : Bool) → cond t 0 (suc (index_of p qs)) < suc (length qs)
          → (index_of p qs < length qs → remembered_for p qs ≡ some (get_or qs (index_of p qs) past).sequence)
          → cond t (some q.sequence) (remembered_for p qs)
          ≡ some (get_or (q ∷ qs) (cond t 0 (suc (index_of p qs))) past).sequence
      go true k later = refl
      go false k later = later (omega arith)

  pub not_found : (qs : List Pair) → length qs ≤ index_of p qs → remembered_for p qs ≡ none
  not_found [] h = refl
  not_found (q ∷ qs) h = go (is_same_pair q p) h (not_found qs)
    where
      go : (t : Bool) → suc (length qs) ≤ cond t 0 (suc (index_of p qs))
          → (length qs ≤ index_of p qs → remembered_for p qs ≡ none)
          → cond t (some q.sequence) (remembered_for p qs) ≡ none
      go true k later = absurd (omega arith)
      go false k later = later (omega arith)

  -- storing at the index that was found, or behind the last, is `remembering`
  stored_found : (qs : List Pair) → index_of p qs < length qs → set qs (index_of p qs) p ≡ remembering p qs
  stored_found [] h = absurd (omega arith)
  stored_found (q ∷ qs) h = go (is_same_pair q p) h (stored_found qs)
    where
      go : (t : Bool) → cond t 0 (suc (index_of p qs)) < suc (length qs)
          → (index_of p qs < length qs → set qs (index_of p qs) p ≡ remembering p qs)
          → set (q ∷ qs) (cond t 0 (suc (index_of p qs))) p ≡ cond t (p ∷ qs) (q ∷ remembering p qs)
      go true k later = refl
      go false k later = ap (λ (rs : List Pair). q ∷ rs) (later (omega arith))

  stored_new : (qs : List Pair) → length qs ≤ index_of p qs → qs ++ (p ∷ []) ≡ remembering p qs
  stored_new [] h = refl
  stored_new (q ∷ qs) h = go (is_same_pair q p) h (stored_new qs)
    where
      go : (t : Bool) → suc (length qs) ≤ cond t 0 (suc (index_of p qs))
          → (length qs ≤ index_of p qs → qs ++ (p ∷ []) ≡ remembering p qs)
          → q ∷ (qs ++ (p ∷ [])) ≡ cond t (p ∷ qs) (q ∷ remembering p qs)
      go true k later = absurd (omega arith)
      go false k later = ap (λ (rs : List Pair). q ∷ rs) (later (omega arith))

-- The memory at the index that a search found.

module _ (m : Memory) (full : length m.pairs ≡ most_pairs) (p : Pair) {at : ℕ} (is : at ≡ index_of p (pairs_of m)) where
  known_here : at < min m.used most_pairs → remembered_for p (pairs_of m) ≡ some (get_or m.pairs at past).sequence
  known_here h =
      found_number p (pairs_of m) (omega (arith, is, in_use m full))
      ∙ rw (← is) (ap (λ (q : Pair). some q.sequence) (get_or-take m.used m.pairs at past (omega arith)))

  none_here : min m.used most_pairs ≤ at → remembered_for p (pairs_of m) ≡ none
  none_here h = not_found p (pairs_of m) (omega (arith, is, in_use m full))

  pub check_known : {t : Bool} → at < min m.used most_pairs
      → t ≡ eqb p.sequence (next_number (get_or m.pairs at past).sequence)
      → require t NotFollowing sequence_place ≡ memory_answer m p
  check_known {t} h e =
      let all : memory_answer m p ≡ require t NotFollowing sequence_place then Accepted = rw (known_here h, e) in
      sym (all ∙ then_accepted (require t NotFollowing sequence_place))

  pub check_new : min m.used most_pairs ≤ at → require (ltb at most_pairs) PairsFull agreement_place ≡ memory_answer m p
  check_new h =
      let last : length (pairs_of m) ≡ at = omega (arith, is, index_within p (pairs_of m), in_use m full) in
      rw (none_here h, last)

  -- what storing the pair there leaves
  pub stored : at < most_pairs → pairs_of (memory_with m p) ≡ remembering p (pairs_of m)
  unfolding memory_with
  stored h = rw (← is, lt-ltb at most_pairs h) (go (ltb at m.used) refl)
    where
      go : (t : Bool) → ltb at m.used ≡ t → take (cond t m.used (at + 1)) (set m.pairs at p) ≡ remembering p (pairs_of m)
      go true e =
          let used = ltb-true at m.used e in
          take-set-lt m.used m.pairs at p used
          ∙ rw is (stored_found p (pairs_of m) (omega (arith, is, in_use m full)))
      go false e =
          let used = ltb-false at m.used e in
          let last : length (pairs_of m) ≡ at = omega (arith, is, index_within p (pairs_of m), in_use m full) in
          let all : at ≡ m.used = omega (arith, is, index_within p (pairs_of m), in_use m full) in
          rw (add-one at) (take-suc-set m.pairs at p (omega (arith, full)) ∙ rw all (stored_new p (pairs_of m) (omega (arith, is, last))))

-- By the pair.

pub remembered_own : (p : Pair) (qs : List Pair) → remembered_for p (remembering p qs) ≡ some p.sequence
remembered_own p [] = rw (pair_refl p)
remembered_own p (q ∷ qs) = go (is_same_pair q p) refl (remembered_own p qs)
  where
    go : (t : Bool) → is_same_pair q p ≡ t → remembered_for p (remembering p qs) ≡ some p.sequence
        → remembered_for p (cond t (p ∷ qs) (q ∷ remembering p qs)) ≡ some p.sequence
    go true e later = rw (pair_refl p)
    go false e later = rw e later

pub remembered_other : (p r : Pair) (qs : List Pair) → is_same_pair p r ≡ false
    → remembered_for r (remembering p qs) ≡ remembered_for r qs
remembered_other p r [] other = rw other
remembered_other p r (q ∷ qs) other = go (is_same_pair q p) refl (remembered_other p r qs other)
  where
    go : (t : Bool) → is_same_pair q p ≡ t → remembered_for r (remembering p qs) ≡ remembered_for r qs
        → remembered_for r (cond t (p ∷ qs) (q ∷ remembering p qs)) ≡ remembered_for r (q ∷ qs)
    go true e later = rw (other, pair_alike q p r e ∙ other)
    go false e later = ap (cond (is_same_pair q r) (some q.sequence)) later
