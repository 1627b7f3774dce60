-- A run of messages into one buffer, each with its answer.
use Rattle.std.specs.Prelude.{◌≡◌, ℕ, ◌+◌, ◌<◌, ◌≤◌, Vec, vec_len, vec_capacity, List, [], ◌∷◌, ◌++◌, length, Bool, true, false, Result, Ok, Err, OnOk, OnErr, IsErrOf, drop, IfOk}
use Rattle.pg_base.specs.declared.error.Error.{Error}
use Rattle.pg_base.specs.declared.error.Error.TheVariants.{Protocol, OutOfMemory}
use Rattle.std.specs.declared.alloc.Global.{Global}
use Rattle.pg_base.specs.Cutting.{IsCutInto}
use Rattle.pg_base.specs.Encode.{IsAnswer, IsShort}
use Rattle.pg_send.specs.FrontendMessage as law
use Rattle.pg_send.specs.Message.{Message, law_of, tag, body, hint, fault, text, line, Meant, CanRoundTrip, RoundTrips, RoundTripsIfItCan}
use Rattle.pg_format.specs.Format.{Means}

abbrev pub Answer : Type 0
Answer = Result (Unit {0}) Error

-- the texts of the accepted messages, in order
abbrev pub added : List Message → List Answer → List ℕ
added [] answers = []
added (m ∷ ms) [] = []
added (m ∷ ms) (Ok _ ∷ answers) = text m ++ added ms answers
added (m ∷ ms) (Err _ ∷ answers) = added ms answers

-- what the answer to one message adds
abbrev pub added_by : Message → Answer → List ℕ
added_by m (Ok _) = text m
added_by m (Err _) = []

-- the accepted messages, each as its tag and body
abbrev pub accepted : List Message → List Answer → List (ℕ × List ℕ)
accepted [] answers = []
accepted (m ∷ ms) [] = []
accepted (m ∷ ms) (Ok _ ∷ answers) = (tag m, body m) ∷ accepted ms answers
accepted (m ∷ ms) (Err _ ∷ answers) = accepted ms answers

-- one answer a message, each as its rule says
abbrev pub AreAnswers : (Message → Answer → Type 0) → List Message → List Answer → Type 0
AreAnswers IsAnswerTo [] [] = Unit {0}
AreAnswers IsAnswerTo [] (answer ∷ answers) = ⊥
AreAnswers IsAnswerTo (m ∷ ms) [] = ⊥
AreAnswers IsAnswerTo (m ∷ ms) (answer ∷ answers) = IsAnswerTo m answer × AreAnswers IsAnswerTo ms answers

-- refused exactly where it breaks a limit, for the first that it breaks
abbrev pub IsLimitAnswer : Message → Answer → Type 0
IsLimitAnswer m answer = IsAnswer (fault m) answer

-- refused exactly where it breaks a limit, or else where a reader wouldn't get it back
abbrev pub IsStrictAnswer : Message → Answer → Type 0
IsStrictAnswer m answer = law.IsStrictAnswer (law_of m) answer

-- the rule of a run, which may be strict
abbrev pub IsAnswerOf : Bool → Message → Answer → Type 0
IsAnswerOf false = IsLimitAnswer
IsAnswerOf true = IsStrictAnswer

-- each accepted message makes the round trip
abbrev pub EachRoundTrips : List Message → List Answer → Type 0
EachRoundTrips [] answers = Unit {0}
EachRoundTrips (m ∷ ms) [] = Unit {0}
EachRoundTrips (m ∷ ms) (Ok _ ∷ answers) = RoundTrips m × EachRoundTrips ms answers
EachRoundTrips (m ∷ ms) (Err _ ∷ answers) = EachRoundTrips ms answers

-- each accepted message that can make the round trip makes it
abbrev pub AllRoundTrip : List Message → List Answer → Type 0
AllRoundTrip [] answers = Unit {0}
AllRoundTrip (m ∷ ms) [] = Unit {0}
AllRoundTrip (m ∷ ms) (Ok _ ∷ answers) = RoundTripsIfItCan m × AllRoundTrip ms answers
AllRoundTrip (m ∷ ms) (Err _ ∷ answers) = AllRoundTrip ms answers

-- memory ran out only where the capacity that there was before the run, and len bytes of which were
-- taken, had less room after the messages before than the hint and five
abbrev pub RanOutWhereShort : ℕ → ℕ → List Message → List Answer → Type 0
RanOutWhereShort capacity len [] answers = Unit {0}
RanOutWhereShort capacity len (m ∷ ms) [] = Unit {0}
RanOutWhereShort capacity len (m ∷ ms) (Ok _ ∷ answers) = RanOutWhereShort capacity (len + length (text m)) ms answers
RanOutWhereShort capacity len (m ∷ ms) (Err (Protocol _ _) ∷ answers) = RanOutWhereShort capacity len ms answers
RanOutWhereShort capacity len (m ∷ ms) (Err OutOfMemory ∷ answers) = (capacity < len + (hint m + 5)) × RanOutWhereShort capacity len ms answers

-- the spare room that the messages within the limits ask for: those that were accepted, or would have
-- been but for memory
abbrev pub run_room : List Message → List Answer → ℕ
run_room [] answers = 0
run_room (m ∷ ms) [] = 0
run_room (m ∷ ms) (Ok _ ∷ answers) = hint m + 5 + run_room ms answers
run_room (m ∷ ms) (Err (Protocol _ _) ∷ answers) = run_room ms answers
run_room (m ∷ ms) (Err OutOfMemory ∷ answers) = hint m + 5 + run_room ms answers

-- no answer is out of memory
abbrev pub NoneRanOut : List Answer → Type 0
NoneRanOut [] = Unit {0}
NoneRanOut (Ok _ ∷ answers) = NoneRanOut answers
NoneRanOut (Err (Protocol _ _) ∷ answers) = NoneRanOut answers
NoneRanOut (Err OutOfMemory ∷ answers) = ⊥

-- what the answer to one message says of the buffer: it gains the text of an accepted message alone; a
-- reader that is given the kind gets the message back where it can make the round trip; memory ran out
-- only where the spare room is less than the hint and five; and no room is given back
pub record EncodesOne (IsAnswerTo : Message → Answer → Type 0) (m : Message) (answer : Answer) (old new : Vec ℕ Global) : Type 0 where
  pub ok : OnOk answer (new.items ≡ old.items ++ text m)
  pub err : OnErr answer (new.items ≡ old.items)
  pub is : IsAnswerTo m answer
  pub round_trip : OnOk answer (RoundTripsIfItCan m)
  pub memory : IsErrOf answer OutOfMemory → IsShort old (hint m + 5)
  pub capacity : vec_capacity old ≤ vec_capacity new

-- What a run gives. The buffer gains the texts of exactly the accepted messages; each message has its
-- answer; tags and lengths cut what was added into the accepted messages, and into no others; a reader
-- that is given the kinds gets back each accepted message that can make the round trip; memory ran out
-- only where the room that there was at first was short, and not where it was enough for all; and no
-- room is given back.
pub record EncodesRun (IsAnswerTo : Message → Answer → Type 0) (ms : List Message) (answers : List Answer) (old new : Vec ℕ Global) : Type 0 where
  pub adds : new.items ≡ old.items ++ added ms answers
  pub answered : AreAnswers IsAnswerTo ms answers
  pub cut : IsCutInto (added ms answers) (accepted ms answers)
  pub round_trip : AllRoundTrip ms answers
  pub room : RanOutWhereShort (vec_capacity old) (vec_len old) ms answers
  pub spare : vec_len old + run_room ms answers ≤ vec_capacity old → NoneRanOut answers
  pub capacity : vec_capacity old ≤ vec_capacity new

-- ---- what a reader of tags makes of a run

-- the page means the message by the tag and the body of its frame
pub record IsMeantByTag (m : Message) (frame : ℕ × List ℕ) : Type 0 where
  pub is_tag : frame.0 ≡ tag m
  pub is_body : frame.1 ≡ body m
  pub value : (line m).Value
  pub meant : Meant m value
  pub means : Means (line m).format frame.1 value

-- the same of a message that can make the round trip
abbrev pub IsMeantIfItCan : Message → ℕ × List ℕ → Type 0
IsMeantIfItCan m frame = CanRoundTrip m → IsMeantByTag m frame

-- one frame an accepted message, each as it must be of its message
abbrev pub AreFrames : (Message → ℕ × List ℕ → Type 0) → List Message → List Answer → List (ℕ × List ℕ) → Type 0
AreFrames IsFrameOf [] answers frames = frames ≡ []
AreFrames IsFrameOf (m ∷ ms) [] frames = frames ≡ []
AreFrames IsFrameOf (m ∷ ms) (Ok _ ∷ answers) [] = ⊥
AreFrames IsFrameOf (m ∷ ms) (Ok _ ∷ answers) (frame ∷ frames) = IsFrameOf m frame × AreFrames IsFrameOf ms answers frames
AreFrames IsFrameOf (m ∷ ms) (Err _ ∷ answers) frames = AreFrames IsFrameOf ms answers frames

-- tags and lengths cut the bytes into frames, and into no others; each is its message, as a relation has it
pub record AreReadByTag (IsFrameOf : Message → ℕ × List ℕ → Type 0) (ms : List Message) (answers : List Answer) (bytes : List ℕ) : Type 0 where
  pub frames : List (ℕ × List ℕ)
  pub cut : IsCutInto bytes frames
  pub read : AreFrames IsFrameOf ms answers frames

-- what was added to a buffer
abbrev pub added_since : Vec ℕ Global → Vec ℕ Global → List ℕ
added_since old new = drop (length old.items) new.items

-- ---- what a call gives

-- what holds of the answers, where there are answers
abbrev pub OnAnswers : Result (Vec Answer Global) Error → (List Answer → Type 0) → Type 0
OnAnswers result Holds = IfOk result (λ answers. Holds answers.items)

abbrev pub OneIsRead : (Message → ℕ × List ℕ → Type 0) → Message → Answer → Vec ℕ Global → Vec ℕ Global → Type 0
OneIsRead IsFrameOf m answer old new = AreReadByTag IsFrameOf (m ∷ []) (answer ∷ []) (added_since old new)

abbrev pub GivesRun : (Message → Answer → Type 0) → List Message → Vec ℕ Global → Vec ℕ Global → Result (Vec Answer Global) Error → Type 0
GivesRun IsAnswerTo ms old new result = OnAnswers result (λ answers. EncodesRun IsAnswerTo ms answers old new)

abbrev pub GivesRead : (Message → ℕ × List ℕ → Type 0) → List Message → Vec ℕ Global → Vec ℕ Global → Result (Vec Answer Global) Error → Type 0
GivesRead IsFrameOf ms old new result = OnAnswers result (λ answers. AreReadByTag IsFrameOf ms answers (added_since old new))

-- ---- by a rule that may be strict

-- the message is added
abbrev pub AddsOne : Bool → Message → Vec ℕ Global → Vec ℕ Global → Type 0
AddsOne strict m old new = EncodesOne (IsAnswerOf strict) m (Ok tt) old new

abbrev pub AddsRun : Bool → List Message → List Answer → Vec ℕ Global → Vec ℕ Global → Type 0
AddsRun strict ms answers old new = EncodesRun (IsAnswerOf strict) ms answers old new

-- the rule accepts the message, and the spare room is less than the message asks for
abbrev pub IsShortByRule : Bool → Message → Vec ℕ Global → Type 0
IsShortByRule strict m buf = IsAnswerOf strict m (Ok tt) → IsShort buf (hint m + 5)
