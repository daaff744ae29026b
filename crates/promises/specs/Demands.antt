-- The three demands, each as one statement that gathers the promises of the crates in the demand's own order. Words in
-- quotation marks are the demand's. Assumes nothing.
use Rattle.answer.specs.Refusals.{NumbersDiffer, TwentyIsRetired, ZeroIsAccepted}
use Rattle.answer.specs.Orders.{ThenRefuses, FirstRefuses}
use Rattle.decimal.specs.Bytes.{EachRefuses}
use Rattle.decimal.specs.Places.{Stretch}
use Rattle.modulus.specs.Checks.{RuleIsOneDigit, CheckIsOneDigit, CheckIsADigit}
use Rattle.barcode.specs.Agreed.{KeysNameIssuers, OneListRefusal, EmptyListIsRight, DueIsAsked, DueIsAskedLast}
use Rattle.barcode.specs.Agreed.{AcceptedOrNoDueDate}
use Rattle.barcode.specs.RoundTrips.{DecodedAnswers, DueIsShown, FieldsAreItsPlaces, BuiltIsRead}
use Rattle.barcode.specs.RoundTrips.{FieldsWithinRangesBuild, CodeIsItsFields}
use Rattle.line.specs.RoundTrips.{LineIsBoxesAndCode, AcceptedIsBoxesAndCode, FieldsGiveALine}
use Rattle.line.specs.RoundTrips.{DueOfLineIsAsked, DueOfLineIsShown, LineAcceptedOrNoDueDate, NoDueDatePassesChecks}
use Rattle.line.specs.RoundTrips.{EmptyListAsksNothing}
use Rattle.line.specs.RoundTrips.{OnlySevenBehindBoxes, DecodedLineAnswers}
use Rattle.line.specs.RoundTrips.{CodeToLineAndBack, LineToCodeAndBack, LineIsItsFields}
use Rattle.layout.specs.declared.Field.{Field}
use Rattle.layout.specs.Layouts.{FieldsCover, RecordIsItsFields, MarkNames, GivenLengths}
use Rattle.record.specs.Promises.{DecodeAnswers, RightFieldsAreAccepted, FieldsAreTheirPlaces}
use Rattle.record.specs.Promises.{DueOfRecordIsAsked, DueOfRecordIsShown}
use Rattle.kinds.specs.Kinds.{VersionsAreTwoTexts, OtherKindsIgnoreTerms}
use Rattle.record.specs.Promises.{HeadersNameAVersion, OtherRecordsIgnoreTerms, PaymentsNeedAVersion, FourIsWithinSix}
use Rattle.fields.specs.Promises.{FieldsMakeTheRecord, MadeIsAccepted}
use Rattle.fields.specs.Promises.{OtherJoinsIgnoreTerms, OtherMakesIgnoreTerms, PaymentsJoinUnderAVersion}
use Rattle.file.specs.Files.{OneRightTrailer}
use Rattle.file.specs.Forms.{LineEndIsCrAndLf, FittingIsInForm}
use Rattle.board.specs.Lanes.{PastThirtyTwoBits}
use Rattle.pairs.specs.Pairs.{NextIsShown, NoNumberFollowsItself, OneFollowsTheLast}
use Rattle.pairs.specs.Pairs.{PairAccepted, PairIsRemembered, OthersStay, NoRoomChangesNothing, MemoryStaysSound}
use Rattle.writer.specs.Promises.{FieldsWriteTheHeader, FieldsWriteThePayment, FieldsWriteTheTrailer}
use Rattle.writer.specs.Promises.{WrittenAmountsAreRead, WrittenIsAccepted, TrailerShowsTheFigures}
use Rattle.writer.specs.Promises.{PaymentsWrittenUnderAVersion}
use Rattle.page.specs.Pages.{PrintedHolds}
use Rattle.page.specs.Fits.{PageFits}
use Rattle.page.specs.Plain.{ShownReadsBack}
use Rattle.typos.specs.Typos.{PassesByChecks, BoxesAreNumbered}
use Rattle.typos.specs.Typos.{OneChangedDigitIsRefused, ExchangeOfNeighbours, OneChangedDigitUnderEleven}
use Rattle.typos.specs.UnderLists.{AcceptedByChecks, OneChangedDigitUnderAList, ExchangeUnderAList}
use Rattle.typos.specs.UnderLists.{OneChangedDigitUnderElevenAndAList}
use Rattle.typos.specs.Samples.{DirectionsMayDiffer, BordersHold, SegmentTypoPasses, KindTypoPasses}
use Rattle.typos.specs.Samples.{DatedExchangeIsRefused, DatedChangeIsRefused, SegmentTypoMeetsAnAgreement}
use Rattle.ledger.specs.Records.{LaneIsTheSessions, EqualIsTheBoards, IssuersAreTheLanes, LimitsAreTheBoards}
use Rattle.ledger.specs.Promises.{SessionAgrees, AnswersAreTheLedgers, NextAnswerIsTheLedgers, TrueTrailersOnly}
use Rattle.ledger.specs.Promises.{LanesAreThePayments, LanesInOrder, EachLaneIsExact, NoIssuerHasTwoLanes}
use Rattle.ledger.specs.Promises.{SumsAreTheRecords, TotalsAreTheRecords, WithinLimits}
use Rattle.ledger.specs.Promises.{OnlyTrailersShow, NothingShowsBefore, TrailersShowAll}
use Rattle.ledger.specs.Promises.{OnlyTrailersRemember, TrailersRemember}
use Rattle.ledger.specs.Promises.{AbandonKeepsBoard, AbandonKeepsMemory, AbandonDropsFile, AbandonNothing}
use Rattle.ledger.specs.Promises.{FinishAnswers, FinishKeepsSession}
use Rattle.ledger.specs.Promises.{OpenFilesHaveAVersion, PaymentsTakenUnderAVersion, TariffsAreAskedLast}
use Rattle.session.specs.Runs.{RunIsItsTakes, WrongListTakesNothing, RunLeavesFew, FeedingIsOneRun}
use Rattle.ledger.specs.Forms.{FormsAgree, OnlyEndedRecords}
use Rattle.ledger.specs.Runs.{RunIsTheLedgers, FileBytesRun, PiecesAreTheRecords}
use Rattle.ledger.specs.Calls.{CallsAgree, RepliesAreTheLedgers, CallsAreSteps}
use Rattle.ledger.specs.WholeFiles.{LedgerFilesAreWhole, HeadersAskTheMemory}
use Rattle.ledger.specs.WholeFiles.{FileAccepted, FilePosted, AcceptedFileIsWhole}
use Rattle.ledger.specs.WholeFiles.{FreshSessionAccepts, FreshSessionShows}
use Rattle.ledger.specs.Numbers.{LastNumberIsRemembered, PairsInOrder, NumbersFollow}
use Rattle.ledger.specs.Numbers.{FileAgainIsRefused, FileTwiceIsRefused}
use Rattle.ledger.specs.WrittenFiles.{ClosedFileIsWhole, ClosedFileIsAccepted, ClosedFileBytesRun, FieldsWriteTheFile}
use Rattle.day.specs.Inputs.{BuffersPrintOnePage}
use Rattle.day.specs.Samples.{WorkedInput, OpenInput, LinedInput, TwiceInput, ChargedInput, RefusedInput}
use Rattle.promises.specs.Calls.{CallsMakeOneFile, OpenWritersHaveAVersion}
use Rattle.promises.specs.OneOutcome.{OneOutcome}
use Rattle.promises.specs.Refusals.{RefusalsChangeNothing}
use Rattle.promises.specs.Samples.{samples, Hold, P5IsAnExchange, P6IsAChange, P9IsAChange, BoxAloneIsRefused}
use Rattle.promises.specs.Shown.{RefusalsPointAtPlaces, RecordsShowTheirPlaces, PairsAreTheirPlaces}
use Rattle.promises.specs.WrongLists.{WrongListsAreFirst}

-- "It takes every input without a fault and ends" is not stated here: the toolchain proves it of every function that it
-- admits, and no public function has a `requires`. The rest of demand 1:
pub record Demand1 : Type 2 where
  -- "a bad line, record or call gets one numbered refusal with its place,"
  pub one : OneOutcome
  pub numbered : NumbersDiffer
  pub accepted : ZeroIsAccepted
  pub places : RefusalsPointAtPlaces
  -- under either rule a check is one digit, so no refusal has number 20, which stood for a check of two
  pub checks : RuleIsOneDigit × CheckIsOneDigit × CheckIsADigit
  pub retired : TwentyIsRetired
  -- before everything else 25, of the list of agreed issuers that is lent: the empty one is right, and a run under a
  -- wrong one takes nothing
  pub lists : OneListRefusal × EmptyListIsRight × EmptyListAsksNothing × KeysNameIssuers
  pub wrong_lists : WrongListsAreFirst × WrongListTakesNothing
  -- "by a fixed order": the first refusal of two checks, of a row of fields, of the boxes from the first on, and of
  -- bytes from left to right
  pub order : ThenRefuses
  pub row : FirstRefuses Field
  pub boxes : FirstRefuses Stretch
  pub behind_boxes : OnlySevenBehindBoxes
  pub bytes : EachRefuses
  -- of 18's two places that of the tariff is last
  pub tariffs : TariffsAreAskedLast
  -- "and then the session, the board and the buffers we lent are what they were"
  pub keeps : RefusalsChangeNothing
  pub finishing : FinishKeepsSession
  -- the memory of sequence numbers is in the session: besides, of any session only an accepted Z changes it, by the
  -- number of the file that it closes, and abandoning leaves it
  pub memory : OnlyTrailersRemember × TrailersRemember × AbandonKeepsMemory
  pub remembered : PairIsRemembered × OthersStay × NoRoomChangesNothing × MemoryStaysSound
  -- after a run of many records they are what the accepted records before the refusal left
  pub running : RunIsItsTakes

-- "It agrees with the FEBRABAN layout," the version the header names. A statement about a record is under any terms,
-- one about a file under the version of its own header's bytes: each covers 04 and 06. A statement about a file is over
-- its form too: each covers files whose records are followed by CR and LF, and files without. All are under any list of
-- agreed issuers, or under any right one.
pub record Demand2 : Type 0 where
  pub table : FieldsCover × RecordIsItsFields × MarkNames × GivenLengths
  pub versions :
      VersionsAreTwoTexts × HeadersNameAVersion × FourIsWithinSix × OpenFilesHaveAVersion × OpenWritersHaveAVersion
  -- only payments depend on the terms: on the version by their two codes, on the list by their barcode;
  pub ignored : OtherKindsIgnoreTerms × OtherRecordsIgnoreTerms × OtherJoinsIgnoreTerms × OtherMakesIgnoreTerms
  -- they need a version,
  pub needed :
      PaymentsNeedAVersion × PaymentsJoinUnderAVersion × PaymentsTakenUnderAVersion × PaymentsWrittenUnderAVersion
  -- in either form, the one that the header has: records, sums and lanes are those of the bare file,
  pub forms : LineEndIsCrAndLf × FittingIsInForm × FormsAgree × OnlyEndedRecords
  -- a due date only where it is agreed: asked there, and shown; of any other issuer neither,
  pub agreed : DueIsAsked × DueIsAskedLast × DueOfLineIsAsked × DueOfRecordIsAsked
  pub due : DueIsShown × DueOfLineIsShown × DueOfRecordIsShown
  -- "Lines, barcodes and records decode to their fields,"
  pub codes : DecodedAnswers × FieldsAreItsPlaces × BuiltIsRead
  pub lines : DecodedLineAnswers × LineIsBoxesAndCode × AcceptedIsBoxesAndCode × FieldsGiveALine
  pub records : DecodeAnswers × RecordsShowTheirPlaces × FieldsAreTheirPlaces × MadeIsAccepted × WrittenAmountsAreRead
  -- and nothing is refused that the layout allows,
  pub allowed : FieldsWithinRangesBuild × RightFieldsAreAccepted
  -- "and the fields write back the same bytes."
  pub codes_back : CodeIsItsFields
  pub lines_back : CodeToLineAndBack × LineToCodeAndBack × LineIsItsFields
  pub records_back : FieldsMakeTheRecord × FieldsWriteTheHeader × FieldsWriteThePayment × FieldsWriteTheTrailer
  pub files_back : FieldsWriteTheFile
  -- "A file is accepted only if its trailer's count and total are the true ones,"
  pub trailers : OneRightTrailer × TrueTrailersOnly × LedgerFilesAreWhole
  pub files : FileAccepted × FilePosted × AcceptedFileIsWhole × FreshSessionAccepts × FreshSessionShows
  pub written :
      ClosedFileIsWhole × ClosedFileIsAccepted × CallsMakeOneFile × WrittenIsAccepted × TrailerShowsTheFigures
  -- and no file twice: what is remembered of a bank and an agreement is the number of their latest accepted file, the
  -- numbers of their files follow each other, and an accepted file is refused when it comes again,
  pub numbers : LastNumberIsRemembered × PairsInOrder × NumbersFollow
  pub again : FileAgainIsRefused × FileTwiceIsRefused
  -- in any session, since an A is answered by its memory, exactly as its number follows there,
  pub following : HeadersAskTheMemory × PairAccepted × PairsAreTheirPlaces
  pub next : NextIsShown × NoNumberFollowsItself × OneFollowsTheLast
  -- also as bytes, run at once or in parts,
  pub bytes_run : PiecesAreTheRecords × FileBytesRun × ClosedFileBytesRun
  pub fed : RunLeavesFew × FeedingIsOneRun
  -- "and each lane shows exactly the payments of accepted files,"
  pub answers : SessionAgrees × AnswersAreTheLedgers × NextAnswerIsTheLedgers × RunIsTheLedgers
  pub calls : CallsAgree × RepliesAreTheLedgers × CallsAreSteps
  -- by the ledger, which reads payment records as the session and the board do,
  pub ledger : LaneIsTheSessions × EqualIsTheBoards × IssuersAreTheLanes × LimitsAreTheBoards
  pub lanes : LanesAreThePayments × LanesInOrder × EachLaneIsExact × NoIssuerHasTwoLanes
  pub sums : SumsAreTheRecords × TotalsAreTheRecords
  pub together : OnlyTrailersShow × NothingShowsBefore × TrailersShowAll
  pub abandoned : AbandonKeepsBoard × AbandonDropsFile × AbandonNothing × FinishAnswers
  -- "at full size."
  pub full : PastThirtyTwoBits × WithinLimits
  pub printed : PageFits × PrintedHolds × ShownReadsBack

-- "For lines that demand 2 accepts": first the checks alone, which is under the empty list, then any right list
pub record Demand3 : Type 0 where
  pub accepted : PassesByChecks × BoxesAreNumbered
  -- "under modulo 10": "The one changed digit is always refused."
  pub changed : OneChangedDigitIsRefused
  -- "The exchange passes exactly when the two are 0 and 9 among the eleven digits of one box."
  pub exchanged : ExchangeOfNeighbours
  -- "Under modulo 11": "It passes exactly when it is none of the five check digits and the remainders of its box and of
  -- the whole code both move between 0 and 1."
  pub changed_eleven : OneChangedDigitUnderEleven
  -- Under a right list, whatever it says of the two issuers: what is accepted under it passes the checks, and what
  -- passes them is accepted or refused 11 for its due date,
  pub accepted_under : AcceptedByChecks × AcceptedOrNoDueDate × LineAcceptedOrNoDueDate × NoDueDatePassesChecks
  -- so the one changed digit is always refused, and never 11,
  pub changed_under : OneChangedDigitUnderAList
  -- and "passes" reads "is accepted or refused 11"; if the changed line's issuer is not agreed, "is accepted"
  pub exchanged_under : ExchangeUnderAList
  pub changed_eleven_under : OneChangedDigitUnderElevenAndAList
  pub dated : DatedExchangeIsRefused × DatedChangeIsRefused × SegmentTypoMeetsAnAgreement
  -- each case occurs, and a typo that the demand leaves out may pass
  pub real_refused : P6IsAChange × BoxAloneIsRefused
  pub real : P5IsAnExchange × P9IsAChange × DirectionsMayDiffer × BordersHold
  pub beyond : SegmentTypoPasses × KindTypoPasses

-- All three, with the proved samples (SPEC.md, "Samples"), under the empty list, and what the program prints (SPEC.md,
-- "The program quadro").
pub record Promised : Type 2 where
  pub first : Demand1
  pub second : Demand2
  pub third : Demand3
  pub p1_to_p12 : Hold samples
  -- `quadro` prints `page_of_input` of the input's bytes, in whatever buffers they come; inputs and their pages.
  -- That a day of the program that is over is the day of the bytes it read is `OverIsTheInputs`, in its own crate.
  pub program : BuffersPrintOnePage × WorkedInput × OpenInput × LinedInput × TwiceInput × ChargedInput × RefusedInput
