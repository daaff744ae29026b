-- The promises of a memory. Assumes nothing.
use Prim.Native.Nat.{ℕ, ◌+◌, ◌≤◌, ◌<◌}
use mathlib.Core.Bool.{Bool, true, false, cond}
use mathlib.Core.Logic.{⊎_elim}
use mathlib.Core.Option.{Option}
use mathlib.Core.Path.{◌≡◌, refl, sym, ap, ◌∙◌}
use native.Mathlib.Omega.{arith}
use borrow.Author.Tests.{lt-ltb, ltb-true, eqb-true, eqb-false}
use lib.Dec.{eqb, ltb}
use lib.ListN.{length, set, length-set}
use Rattle.answer.specs.Refusals.{sequence_place, agreement_place}
use Rattle.answer.specs.declared.Reason.TheVariants.{NotFollowing, PairsFull}
use Rattle.answer.specs.Orders.{require}
use Rattle.answer.proofs.Orders.{require_accepts, then_accepts}
use Rattle.answer.proofs.Tests.{lt_or_le}
use Rattle.pairs.specs.declared.Pair.{Pair}
use Rattle.pairs.specs.declared.Memory.{Memory}
use Rattle.pairs.specs.Pairs.{most_pairs, last_number, next_number, remembered_for, follows, has_room, remembering, pairs_of, index_of, memory_with, has_room_for, NextIsShown, NoNumberFollowsItself, OneFollowsTheLast, PairAccepted, PairIsRemembered, OthersStay, NoRoomChangesNothing, SoundMemory, MemoryStaysSound}
use Rattle.pairs.proofs.Searches.{in_use, index_within}
use Rattle.pairs.proofs.Remembering.{found_number, not_found, stored, remembered_own, remembered_other}

-- The numbers.

pub next_is_shown : NextIsShown
unfolding next_number
next_is_shown n h = go (eqb n last_number) refl
  where
    go : (t : Bool) → eqb n last_number ≡ t → (1 ≤ cond t 1 (n + 1)) × (cond t 1 (n + 1) ≤ last_number)
    go true e = (omega arith, omega arith)
    go false e = (omega arith, omega (arith, h, eqb-false n last_number e))

pub no_number_follows_itself : NoNumberFollowsItself
unfolding next_number
no_number_follows_itself n = go (eqb n last_number) refl
  where
    go : (t : Bool) → eqb n last_number ≡ t → n ≡ cond t 1 (n + 1) → ⊥
    go true e q = omega (arith, q, eqb-true n last_number e)
    go false e q = omega (arith, q)

pub one_follows_the_last : OneFollowsTheLast
unfolding next_number
one_follows_the_last = (refl, refl, refl)

-- The memory.

pub pair_accepted : PairAccepted
pair_accepted m p =
    let last = remembered_for p (pairs_of m) in
    let follow = require (follows last p.sequence) NotFollowing sequence_place in
    let both = then_accepts follow (require (has_room_for m p) PairsFull agreement_place) in
    let first = require_accepts (follows last p.sequence) NotFollowing sequence_place in
    let second = require_accepts (has_room_for m p) PairsFull agreement_place in
    (λ e. (first.0 (both.0 e).0, second.0 (both.0 e).1), λ h. both.1 (first.1 h.0, second.1 h.1))

pub memory_stays_sound : MemoryStaysSound
unfolding memory_with
memory_stays_sound = (record { whole = refl; within = omega arith }, λ m p h. go m p h (ltb (index_of p (pairs_of m)) most_pairs) refl)
  where
    used : (m : Memory) (at : ℕ) → m.used ≤ most_pairs → at < most_pairs → (t : Bool) → cond t m.used (at + 1) ≤ most_pairs
    used m at h k true = h
    used m at h k false = omega arith

    go : (m : Memory) (p : Pair) → SoundMemory m → let at = index_of p (pairs_of m) in
        (t : Bool) → ltb at most_pairs ≡ t
        → SoundMemory (cond t (record { pairs = set m.pairs at p; used = cond (ltb at m.used) m.used (at + 1) }) m)
    go m p h true e =
        let at = index_of p (pairs_of m) in
        record {
          whole = length-set m.pairs at p ∙ h.whole;
          within = used m at h.within (ltb-true at most_pairs e) (ltb at m.used);
        }
    go m p h false e = h

-- there is room exactly where the index is one of the array's
module _ (m : Memory) (p : Pair) (full : length m.pairs ≡ most_pairs) where
  abbrev at : ℕ
  at = index_of p (pairs_of m)

  room : has_room_for m p ≡ ltb at most_pairs
  room = ⊎_elim here new (lt_or_le at (length (pairs_of m)))
    where
      here : at < length (pairs_of m) → has_room_for m p ≡ ltb at most_pairs
      here h =
          ap (λ (o : Option ℕ). has_room o (length (pairs_of m))) (found_number p (pairs_of m) h)
          ∙ sym (lt-ltb at most_pairs (omega (arith, h, in_use m full)))

      new : length (pairs_of m) ≤ at → has_room_for m p ≡ ltb at most_pairs
      new h =
          let last : length (pairs_of m) ≡ at = omega (arith, h, index_within p (pairs_of m)) in
          rw (not_found p (pairs_of m) h, last)

  pub in_order : has_room_for m p ≡ true → pairs_of (memory_with m p) ≡ remembering p (pairs_of m)
  in_order h = stored m full p refl (ltb-true at most_pairs (sym room ∙ h))

  pub no_room : has_room_for m p ≡ false → memory_with m p ≡ m
  unfolding memory_with
  no_room h = rw (sym room ∙ h)

pub pair_is_remembered : PairIsRemembered
pair_is_remembered m p full h =
    let stays = in_order m p full h in
    (stays, ap (remembered_for p) stays ∙ remembered_own p (pairs_of m))

pub no_room_changes_nothing : NoRoomChangesNothing
no_room_changes_nothing m p full h = no_room m p full h

pub others_stay : OthersStay
others_stay m p q full other = go (has_room_for m p) refl
  where
    go : (t : Bool) → has_room_for m p ≡ t → remembered_for q (pairs_of (memory_with m p)) ≡ remembered_for q (pairs_of m)
    go true e = ap (remembered_for q) (in_order m p full e) ∙ remembered_other p q (pairs_of m) other
    go false e = ap (λ (x : Memory). remembered_for q (pairs_of x)) (no_room m p full e)
