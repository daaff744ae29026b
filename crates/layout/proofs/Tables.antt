-- Laws of a table of any type: what a test of every entry says of each, and the entry at an index. Assumes nothing.
use Prim.Native.Nat.{ℕ, zero, suc, ◌<◌}
use mathlib.Core.Bool.{Bool, true, ◌&&◌, and-eq-true_iff}
use mathlib.Core.List.{List, [], ◌∷◌}
use mathlib.Core.Path.{◌≡◌, refl}
use native.Mathlib.Nat.{le_of_suc-le-suc, not-suc-le-zero}
use lib.ListN.{length, get_or}

abbrev pub every : {A : Type 0} → (A → Bool) → List A → Bool
every ok [] = true
every ok (x ∷ xs) = ok x && every ok xs

pub each : {A : Type 0} (ok : A → Bool) (xs : List A) (k : ℕ) (d : A) → every ok xs ≡ true → k < length xs
    → ok (get_or xs k d) ≡ true
each ok [] k d t h = absurd (not-suc-le-zero h)
each ok (x ∷ xs) zero d t h = ((and-eq-true_iff (ok x) (every ok xs)).0 t).0
each ok (x ∷ xs) (suc k) d t h = each ok xs k d ((and-eq-true_iff (ok x) (every ok xs)).0 t).1 (le_of_suc-le-suc h)

-- within the list the default does not matter
pub get_d_any : {A : Type 0} (xs : List A) (k : ℕ) (d e : A) → k < length xs → get_or xs k d ≡ get_or xs k e
get_d_any [] k d e h = absurd (not-suc-le-zero h)
get_d_any (x ∷ xs) zero d e h = refl
get_d_any (x ∷ xs) (suc k) d e h = get_d_any xs k d e (le_of_suc-le-suc h)
