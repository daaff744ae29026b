-- 25 before everything, from the definitions of the calls. Assumes nothing.
use mathlib.Core.List.{List}
use mathlib.Core.Logic.{⊎_elim}
use Prim.Native.Nat.{ℕ}
use Rattle.barcode.specs.Agreed.{RightList, list_answer}
use Rattle.barcode.proofs.Lists.{one_list_refusal}
use Rattle.promises.specs.WrongLists.{Wrong, WrongListsAreFirst}

wrong_list : (agreed : List ℕ) → ¬ RightList agreed → Wrong (list_answer agreed)
wrong_list agreed not = ⊎_elim (λ right. absurd (not right)) (λ wrong. wrong) (one_list_refusal agreed)

pub wrong_lists_are_first : WrongListsAreFirst
wrong_lists_are_first agreed not =
    let wrong = wrong_list agreed not in (
      λ code. rw wrong,
      λ size i kind amount rest. rw wrong,
      λ line. rw wrong,
      λ size line. rw wrong,
      λ size code. rw wrong,
      λ version rec. rw wrong,
      λ version rec size. rw wrong,
      λ version r given amounts size. rw wrong,
      λ s rec. rw wrong,
      λ s more bytes. rw wrong,
      λ w given received tariff size. rw wrong,
    )
