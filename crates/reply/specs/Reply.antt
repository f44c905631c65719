-- The number of each reply.
use Rattle.std.specs.Prelude.{ℕ}
use Rattle.reply.specs.declared.Reply.{Reply}
use Rattle.reply.specs.declared.Reply.TheVariants.{Done, FileEnds, MalformedNumber, WrongVersion, OutOfRange, BadPair, BadChannel, BadAction, BytesLeft, TooLarge, ShortBuffer, WrongProcessor, BeforeRelease, EndsLate, Overlaps, BeforePredecessor, BadSample, WrongTurn, LongDuration, MissesDeadline}

abbrev pub reply_number : Reply → ℕ
reply_number Done = 0
reply_number FileEnds = 1
reply_number MalformedNumber = 2
reply_number WrongVersion = 3
reply_number OutOfRange = 4
reply_number BadPair = 5
reply_number BadChannel = 6
reply_number BadAction = 7
reply_number BytesLeft = 8
reply_number TooLarge = 9
reply_number ShortBuffer = 10
reply_number WrongProcessor = 11
reply_number BeforeRelease = 12
reply_number EndsLate = 13
reply_number Overlaps = 14
reply_number BeforePredecessor = 15
reply_number BadSample = 16
reply_number WrongTurn = 17
reply_number LongDuration = 18
reply_number MissesDeadline = 19
