-- The refusals of SPEC.md, "Refusals": their numbers, and the number and place that an answer shows. Assumes nothing.
use Rattle.std.specs.Prelude.{Err, ℕ, ◌↔◌, ◌≡◌}
use Rattle.answer.specs.declared.Reason.{Reason}
use Rattle.answer.specs.declared.Reason.TheVariants as reason
use Rattle.answer.specs.Answers.{Answer, Accepted}

-- each reason's number, and when it is given
abbrev pub reason_number : Reason → ℕ
reason_number reason.WrongLength = 1  -- a length is not exactly the one called for
reason_number reason.NoDigit = 2  -- a byte is no digit
reason_number reason.WrongProduct = 3  -- product not 8
reason_number reason.UnknownSegment = 4  -- segment not 1 to 7 or 9
reason_number reason.UnknownKind = 5  -- value kind not 6 to 9
reason_number reason.WrongBoxCheck = 6  -- a box check is wrong
reason_number reason.WrongGeneralCheck = 7  -- general check is wrong
reason_number reason.NoText = 8  -- no text byte
reason_number reason.NotExpected = 9  -- first byte names no record expected now
reason_number reason.FixedDiffers = 10  -- fixed field differs
reason_number reason.NoDate = 11  -- eight digits, no date
reason_number reason.UnknownCode = 12  -- capture or payment form unknown
reason_number reason.CountDiffers = 13  -- trailer count differs
reason_number reason.TotalDiffers = 14  -- trailer total differs
reason_number reason.FileFull = 15  -- a payment when as many were taken as a file can have
reason_number reason.FileTotalPassed = 16  -- a payment takes the file's total past its limit
reason_number reason.BoardFull = 17  -- new issuer, all lanes taken
reason_number reason.BoardTotalPassed = 18  -- a payment takes a board total past its limit
reason_number reason.FileOpen = 19  -- end with a file open
reason_number reason.TooWide = 21  -- builder's or writer's number too wide
reason_number reason.NoLineEnd = 22  -- a later record of a lined file, not followed by CR and LF
reason_number reason.WrongList = 25  -- list of agreed issuers too long, an entry that names none, or one twice
reason_number reason.NotFollowing = 26  -- a file's number is not the next of its bank and agreement
reason_number reason.PairsFull = 27  -- new bank and agreement, as many remembered as can be

-- accepted is 0, with place 0
abbrev pub answer_number : Answer → ℕ
answer_number Accepted = 0
answer_number (Err refusal) = reason_number refusal.why

abbrev pub answer_place : Answer → ℕ
answer_place Accepted = 0
answer_place (Err refusal) = refusal.place

-- The places of a payment record that refusals 16 to 18 point at: its received centavos, its tariff, and the issuer in
-- its barcode.

abbrev pub received_place : ℕ
received_place = 82

abbrev pub tariff_place : ℕ
tariff_place = 94

abbrev pub issuer_place : ℕ
issuer_place = 53

-- The places of a header that refusals 26 and 27 point at: its sequence number, and its agreement.

abbrev pub sequence_place : ℕ
sequence_place = 74

abbrev pub agreement_place : ℕ
agreement_place = 3

-- Promises.

-- a number names one reason
abbrev pub NumbersDiffer : Type 0
NumbersDiffer = (a b : Reason) → reason_number a ≡ reason_number b → a ≡ b

-- 20 is retired: no reason has it
abbrev pub TwentyIsRetired : Type 0
TwentyIsRetired = (why : Reason) → reason_number why ≡ 20 → ⊥

-- 0 names acceptance alone
abbrev pub ZeroIsAccepted : Type 0
ZeroIsAccepted = (a : Answer) → (answer_number a ≡ 0) ↔ (a ≡ Accepted)
