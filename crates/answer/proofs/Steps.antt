-- How early returns in code meet an order of refusals: a test that failed ends it, one that held goes on.
-- Assumes nothing.
use Prim.Native.Nat.{ℕ}
use mathlib.Core.Bool.{Bool, true, false}
use mathlib.Core.Path.{◌≡◌, refl}
use Rattle.answer.specs.declared.Reason.{Reason}
use Rattle.answer.specs.Answers.{Answer, Accepted, Refused}
use Rattle.answer.specs.Orders.{require, ◌then◌}

-- one test
module _ (t : Bool) (why : Reason) (p : ℕ) where
  pub pass : t ≡ true → Accepted ≡ require t why p
  pass h = rw h

  pub stops : (next : Answer) → t ≡ false → Refused why p ≡ require t why p then next
  stops next h = rw h

  pub goes : {next b : Answer} → t ≡ true → b ≡ next → b ≡ require t why p then next
  goes h e = rw h e

-- an order that accepts: its first test held, and the rest accepts
pub passed : (t : Bool) (why : Reason) (p : ℕ) {next : Answer} → require t why p then next ≡ Accepted
    → (t ≡ true) × (next ≡ Accepted)
passed true why p h = (refl, h)
passed false why p h = (cc, cc)

-- an answer that is handed on, and one that goes on
pub handed : {a b : Answer} (next : Answer) {why : Reason} {p : ℕ} → a ≡ b → a ≡ Refused why p → a ≡ b then next
handed {a} {b} next {why} {p} e f = let g : b ≡ Refused why p = cc in rw (g, f)
