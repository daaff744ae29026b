-- Sequence numbers (SPEC.md, "Sequence numbers"): the last accepted number of each pair of bank and agreement, whether
-- a header's number follows, and what an accepted file leaves. Assumes nothing.
use Rattle.std.specs.Prelude.{ℕ, suc, ◌+◌, ◌≤◌, Bool, true, false, cond, ◌&&◌, List, [], ◌∷◌, ◌↔◌, ◌≡◌, eqb, ltb, length, set, take, replicate}
use Rattle.std.proofs.Math.Option.{Option, none, some}
use Rattle.answer.specs.Refusals.{sequence_place, agreement_place}
use Rattle.answer.specs.declared.Reason.TheVariants.{NotFollowing, PairsFull}
use Rattle.answer.specs.Answers.{Answer, Accepted}
use Rattle.answer.specs.Orders.{require, ◌then◌}
use Rattle.kinds.specs.Kinds.{same}
use Rattle.pairs.specs.declared.Pair.{Pair}
use Rattle.pairs.specs.declared.Memory.{Memory}

-- the most pairs of a memory, and the last of the numbers that six digits can show
abbrev pub most_pairs : ℕ
most_pairs = 16

abbrev pub last_number : ℕ
last_number = 999_999

-- the number that must follow: 1 behind the last, else one more
unfoldable pub next_number : ℕ → ℕ
next_number n = cond (eqb n last_number) 1 (n + 1)

-- two pairs are the same if their bytes are; their numbers do not count
unfoldable pub is_same_pair : Pair → Pair → Bool
is_same_pair p q = same p.bank q.bank && same p.agreement q.agreement

-- the number remembered for a pair, if there is one
abbrev pub remembered_for : Pair → List Pair → Option ℕ
remembered_for p [] = none
remembered_for p (q ∷ qs) = cond (is_same_pair q p) (some q.sequence) (remembered_for p qs)

-- a number behind the one remembered, or the first of its pair
abbrev pub follows : Option ℕ → ℕ → Bool
follows none n = true
follows (some last) n = eqb n (next_number last)

-- the pair is remembered, or fewer than the most are
abbrev pub has_room : Option ℕ → ℕ → Bool
has_room none used = ltb used most_pairs
has_room (some last) used = true

-- a header's pair and number: 26, then 27
abbrev pub pair_answer : List Pair → Pair → Answer
pair_answer qs p =
    require (follows (remembered_for p qs) p.sequence) NotFollowing sequence_place
    then require (has_room (remembered_for p qs) (length qs)) PairsFull agreement_place

-- the pairs with this one's number, at its place or as a new one at the end
abbrev pub remembering : Pair → List Pair → List Pair
remembering p [] = p ∷ []
remembering p (q ∷ qs) = cond (is_same_pair q p) (p ∷ qs) (q ∷ remembering p qs)

-- The memory of a session.

-- no file: the array's entry that is not in use
abbrev pub no_pair : Pair
no_pair = record { bank = replicate 3 0; agreement = replicate 20 0; sequence = 0 }

abbrev pub fresh_memory : Memory
fresh_memory = record { pairs = replicate most_pairs no_pair; used = 0 }

-- the pairs in use; all of them if a memory in an arbitrary state says more
abbrev pub pairs_of : Memory → List Pair
pairs_of m = take m.used m.pairs

-- the index of the pair, counted from 0; the number of pairs if it is not there
abbrev pub index_of : Pair → List Pair → ℕ
index_of p [] = 0
index_of p (q ∷ qs) = cond (is_same_pair q p) 0 (suc (index_of p qs))

abbrev pub memory_answer : Memory → Pair → Answer
memory_answer m p = pair_answer (pairs_of m) p

-- the memory with this pair's number; as it was if the pair is new and there is no room
unfoldable pub memory_with : Memory → Pair → Memory
memory_with m p =
    let at = index_of p (pairs_of m) in
    cond (ltb at most_pairs)
    (record { pairs = set m.pairs at p; used = cond (ltb at m.used) m.used (at + 1) }) m

-- what holds of a fresh memory, and stays: it has its 16 entries, as every array of the code has, and no more are in
-- use
pub record SoundMemory (m : Memory) : Type 0 where
  pub whole : length m.pairs ≡ most_pairs
  pub within : m.used ≤ most_pairs

-- whether the memory has this pair, or room for it
abbrev pub has_room_for : Memory → Pair → Bool
has_room_for m p = has_room (remembered_for p (pairs_of m)) (length (pairs_of m))

-- Promises, of the numbers: what follows a number that six digits can show can be shown too, and is not 0; it is never
-- the same number.

abbrev pub NextIsShown : Type 0
NextIsShown = (n : ℕ) → n ≤ last_number → (1 ≤ next_number n) × (next_number n ≤ last_number)

abbrev pub NoNumberFollowsItself : Type 0
NoNumberFollowsItself = (n : ℕ) → n ≡ next_number n → ⊥

abbrev pub OneFollowsTheLast : Type 0
OneFollowsTheLast = (next_number 999_999 ≡ 1) × (next_number 0 ≡ 1) × (next_number 999_998 ≡ 999_999)

-- Promises, of any memory; that its array has 16 entries is a premise, since an array is a list here. A header is
-- accepted exactly if its number follows and its pair is there or has room. A pair that is there or has room is then
-- remembered with its number, at its place or as the last; the number of every other pair is as it was. One that has no
-- room changes nothing.

abbrev pub PairAccepted : Type 0
PairAccepted =
    (m : Memory) (p : Pair)
    → (memory_answer m p ≡ Accepted)
    ↔ ((follows (remembered_for p (pairs_of m)) p.sequence ≡ true) × (has_room_for m p ≡ true))

abbrev pub PairIsRemembered : Type 0
PairIsRemembered =
    (m : Memory) (p : Pair) → length m.pairs ≡ most_pairs → has_room_for m p ≡ true
    → (pairs_of (memory_with m p) ≡ remembering p (pairs_of m))
    × (remembered_for p (pairs_of (memory_with m p)) ≡ some p.sequence)

abbrev pub OthersStay : Type 0
OthersStay =
    (m : Memory) (p q : Pair) → length m.pairs ≡ most_pairs → is_same_pair p q ≡ false
    → remembered_for q (pairs_of (memory_with m p)) ≡ remembered_for q (pairs_of m)

abbrev pub NoRoomChangesNothing : Type 0
NoRoomChangesNothing =
    (m : Memory) (p : Pair) → length m.pairs ≡ most_pairs → has_room_for m p ≡ false → memory_with m p ≡ m

abbrev pub MemoryStaysSound : Type 0
MemoryStaysSound =
    SoundMemory fresh_memory × ((m : Memory) (p : Pair) → SoundMemory m → SoundMemory (memory_with m p))
