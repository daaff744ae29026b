-- Only for the proofs about typing errors: what one byte that is set changes in the pieces that a plan gathers. Assumes
-- nothing.
use Rattle.std.specs.Prelude.{ℕ, ◌+◌, ◌-◌, ◌≤◌, ◌<◌, List, [], ◌∷◌, ◌⊎◌, ◌≡◌, length, get_or, set}
use Rattle.decimal.specs.Places.{Stretch, width_of, gather}

-- every stretch lies in a list of n bytes
abbrev pub Lies : ℕ → List Stretch → Type 0
Lies n [] = Unit {0}
Lies n (s ∷ plan) = (1 ≤ s.first) × (s.first ≤ s.last) × (s.last ≤ n) × Lies n plan

-- the byte at index i is outside a stretch, and outside every stretch of a plan
abbrev pub Beside : Stretch → ℕ → Type 0
Beside s i = (i + 1 < s.first) ⊎ (s.last ≤ i)

abbrev pub OutOfPlan : List Stretch → ℕ → Type 0
OutOfPlan [] i = Unit {0}
OutOfPlan (s ∷ plan) i = Beside s i × OutOfPlan plan i

-- the byte at index i is in exactly one stretch of a plan, and at index j of what is gathered
abbrev pub InPlan : List Stretch → ℕ → ℕ → Type 0
InPlan [] i j = ⊥
InPlan (s ∷ plan) i j =
    ((s.first ≤ i + 1) × (i < s.last) × (j + s.first ≡ i + 1) × OutOfPlan plan i)
    ⊎ (Beside s i × (width_of s ≤ j) × InPlan plan i (j - width_of s))

abbrev pub GatherOutside : Type 0
GatherOutside =
    (plan : List Stretch) (l : List ℕ) (i d : ℕ) → OutOfPlan plan i → gather plan (set l i d) ≡ gather plan l

abbrev pub GatherWithin : Type 0
GatherWithin =
    (plan : List Stretch) (l : List ℕ) (i j d : ℕ) → Lies (length l) plan → InPlan plan i j
    → (gather plan (set l i d) ≡ set (gather plan l) j d) × (get_or (gather plan l) j 0 ≡ get_or l i 0)
    × (j < length (gather plan l))
