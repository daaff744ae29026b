-- What a contract allows: the clauses of a function's `ensures`, as the toolchain makes them from src/. They are
-- assertions of the logic: `fact` makes one of a plain fact, `sep` is two at once, `ent` says that the second follows
-- from the first. Assumes nothing.
use seplogic.Ra.Ura.{Ura}
use base.Logic.{SProp}
use prog.Memory.{Memory}
use prog.Routine.{Routine}
use types.Logic.{Logic}
use contract.Lifetimes.{Lfts}
use contract.Monad.{Fun}
use denote.Triple.Entry.{Args, Res}
use denote.Triple.Clauses.{Ended, Clauses, Lasts, at_exit}
use borrow.Fn.World.{World, Pr}

-- the clauses at each model of the logic, for a function with this signature
abbrev pub Contract : Ended → Type 2
Contract T =
    (M : Type 1) (𝓤 : Ura M) (𝓛 : Logic 𝓤) → (Memory → SProp 𝓤) → (Routine → Fun 𝓤) → Clauses 𝓤 T

-- the lifetimes of the references; the arguments, in the order of the parameters; the result
abbrev pub Lent : Ended → Type 0
Lent T = Lfts T.signature.lifetimes

abbrev pub Given : (T : Ended) → Lent T → Type 0
Given T κs = Args T.signature κs

abbrev pub Result : (T : Ended) → Lent T → Type 0
Result T κs = Res T.signature κs

module _ (T : Ended) (contract : Contract T) where
  abbrev pub clauses_at : (w : World) → Clauses w.𝓤 T
  clauses_at w = contract w.M w.𝓤 w.𝓛 w.𝓜.mem w.𝓡.run

  abbrev pub Ghost : (w : World) (κs : Lent T) → Given T κs → Type 0
  Ghost w κs given = (clauses_at w κs given).ghost

  -- what the clauses say of the result, and of the bytes left in each buffer of the caller
  abbrev pub allowed :
      (w : World) (κs : Lent T) (given : Given T κs) → Ghost w κs given → Result T κs → Lasts T κs given → Pr w
  allowed w κs given g r left = (clauses_at w κs given).ensures g r (at_exit T κs given left)
