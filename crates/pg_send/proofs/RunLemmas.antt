-- A run goes on by one message and its answer.
use Rattle.std.proofs.Common.{add-zero, ◌≡◌, ℕ, suc, ◌+◌, ◌<◌, ◌≤◌, true, false, List, [], ◌∷◌, ◌++◌, length, take, drop, set, get_or, Option, MatchOption, Bool, Some, None, Ok, Err, OnOk, OnErr, IsErrOf, refl, sym, ap, ◌∙◌, arith, append_assoc, length-append, Vec, Global, vec_len, vec_capacity}
use Rattle.std.proofs.Math.Seq.{drop-append_seam, take-append_seam}
use Rattle.std.proofs.lemmas.List.{append-nil, map_push, take_more}
use Rattle.pg_base.specs.declared.error.ProtocolFault.{ProtocolFault}
use Rattle.pg_base.specs.declared.error.Error.TheVariants.{Protocol, OutOfMemory}
use Rattle.pg_base.specs.Cutting.{Cut, IsCutInto}
use Rattle.pg_base.specs.Numbers.{be32}
use Rattle.pg_base.proofs.CuttingLemmas.{cut_frame, is_cut_into}
use Rattle.pg_base.specs.Encode.{IsAnswer}
use Rattle.pg_format.specs.Format.{AreBytes, Means}
use Rattle.pg_format.proofs.FormatLaws.Parts.{are_bytes_before, are_bytes_after}
use Rattle.pg_send.specs.FrontendMessage.{EncodesMessage}
use Rattle.pg_send.specs.Message.{Message, law_of, line, Meant, tag, body, hint, fault, text, IsInRange, CanRoundTrip, RoundTrips, message_of, messages_of}
use Rattle.pg_send.specs.Run.{IsAnswerOf, IsStrictAnswer, EachRoundTrips, Answer, added, added_by, accepted, run_room, EncodesOne, EncodesRun, AreAnswers, AllRoundTrip, NoneRanOut, RanOutWhereShort, IsMeantByTag, IsMeantIfItCan, AreFrames, AreReadByTag}
use Rattle.pg_send.specs.declared.message.tagged.TaggedMessage.{TaggedMessage}
use Rattle.pg_base.proofs.TaggedLemmas.{len_fits}
use Rattle.pg_send.proofs.FrontendMessageLemmas.{accepted_fits}
use Rattle.pg_send.proofs.MessageLemmas.{hint_covers, means, round_trips_if_ok}

-- memory ran out for a message only where there was less room than its hint and five
abbrev pub RanOutIfShort : ℕ → ℕ → Message → Answer → Type 0
RanOutIfShort capacity len m (Ok _) = Unit {0}
RanOutIfShort capacity len m (Err (Protocol _ _)) = Unit {0}
RanOutIfShort capacity len m (Err OutOfMemory) = capacity < len + (hint m + 5)

-- the answer at an index is found
pub record AnswersOne (IsAnswerTo : Message → Answer → Type 0) (m : Message) (index : ℕ) (answers found : List Answer) (old new : Vec ℕ Global) : Type 0 where
  pub answer : Answer
  pub sets : found ≡ set answers index answer
  pub encodes : EncodesOne IsAnswerTo m answer old new

-- what was written over the front of a list that was as long
pub written_back : (n : ℕ) (new rest : List Answer) → length new ≡ n → take n (new ++ rest) ≡ new
written_back n new rest long = rw (← long) (take-append_seam new rest)

-- a message that is accepted is within the limits
abbrev pub FitsIfOk : (Message → Answer → Type 0) → Type 0
FitsIfOk IsAnswerTo = (m : Message) (u : Unit {0}) → IsAnswerTo m (Ok u) → fault m ≡ None

short_one : (capacity len : ℕ) (m : Message) (a : Answer) → RanOutIfShort capacity len m a → RanOutWhereShort capacity len (m ∷ []) (a ∷ [])
short_one capacity len m (Ok u) h = tt
short_one capacity len m (Err (Protocol r f)) h = tt
short_one capacity len m (Err OutOfMemory) h = (h, tt)

read_one : (m : Message) (a : Answer) → OnOk a (CanRoundTrip m → RoundTrips m) → AllRoundTrip (m ∷ []) (a ∷ [])
read_one m (Ok u) h = (h, tt)
read_one m (Err e) h = tt

module _ (IsAnswerTo : Message → Answer → Type 0) where
  module _ (m : Message) (a : Answer) where
    pub added_more : (ms : List Message) (answers : List Answer) → AreAnswers IsAnswerTo ms answers → added (ms ++ m ∷ []) (answers ++ a ∷ []) ≡ added ms answers ++ added_by m a
    added_more [] [] h = elim a as (λ b. added (m ∷ []) (b ∷ []) ≡ added_by m b) [ Ok _ ↦ append-nil (text m) | Err _ ↦ refl ]
    added_more [] (b ∷ answers) h = absurd h
    added_more (n ∷ ms) [] h = absurd h
    added_more (n ∷ ms) (Ok _ ∷ answers) h = ap (λ (l : List ℕ). text n ++ l) (added_more ms answers h.1) ∙ sym (append_assoc (text n) (added ms answers) (added_by m a))
    added_more (n ∷ ms) (Err _ ∷ answers) h = added_more ms answers h.1

    pub answers_more : (ms : List Message) (answers : List Answer) → AreAnswers IsAnswerTo ms answers → IsAnswerTo m a → AreAnswers IsAnswerTo (ms ++ m ∷ []) (answers ++ a ∷ [])
    answers_more [] [] h one = (one, tt)
    answers_more [] (b ∷ answers) h one = absurd h
    answers_more (n ∷ ms) [] h one = absurd h
    answers_more (n ∷ ms) (b ∷ answers) h one = (h.0, answers_more ms answers h.1 one)

    pub read_more : (ms : List Message) (answers : List Answer) → AreAnswers IsAnswerTo ms answers → AllRoundTrip ms answers → OnOk a (CanRoundTrip m → RoundTrips m) → AllRoundTrip (ms ++ m ∷ []) (answers ++ a ∷ [])
    read_more [] [] h read one = read_one m a one
    read_more [] (b ∷ answers) h read one = absurd h
    read_more (n ∷ ms) [] h read one = absurd h
    read_more (n ∷ ms) (Ok _ ∷ answers) h read one = (read.0, read_more ms answers h.1 read.1 one)
    read_more (n ∷ ms) (Err _ ∷ answers) h read one = read_more ms answers h.1 read one

    pub short_more : (capacity len : ℕ) (ms : List Message) (answers : List Answer) → AreAnswers IsAnswerTo ms answers → RanOutWhereShort capacity len ms answers
        → RanOutIfShort capacity (len + length (added ms answers)) m a → RanOutWhereShort capacity len (ms ++ m ∷ []) (answers ++ a ∷ [])
    short_more capacity len [] [] h s one = short_one capacity len m a (rw add-zero at one)
    short_more capacity len [] (b ∷ answers) h s one = absurd h
    short_more capacity len (n ∷ ms) [] h s one = absurd h
    short_more capacity len (n ∷ ms) (Ok _ ∷ answers) h s one =
        let e : len + length (text n ++ added ms answers) ≡ len + length (text n) + length (added ms answers) = omega (arith, length-append (text n) (added ms answers)) in
        short_more capacity (len + length (text n)) ms answers h.1 s (rw e at one)
    short_more capacity len (n ∷ ms) (Err (Protocol _ _) ∷ answers) h s one = short_more capacity len ms answers h.1 s one
    short_more capacity len (n ∷ ms) (Err OutOfMemory ∷ answers) h s one = (s.0, short_more capacity len ms answers h.1 s.1 one)

  module _ (fits : FitsIfOk IsAnswerTo) where
    pub cut_added : (ms : List Message) (answers : List Answer) → AreAnswers IsAnswerTo ms answers → Cut (added ms answers) (accepted ms answers)
    cut_added [] [] h = refl
    cut_added [] (b ∷ answers) h = absurd h
    cut_added (n ∷ ms) [] h = absurd h
    cut_added (n ∷ ms) (Ok u ∷ answers) h =
        cut_frame (tag n) (body n) (added ms answers) (accepted ms answers) (len_fits (law_of n).count_fault (length (body n)) (fits n u h.0)) (cut_added ms answers h.1)
    cut_added (n ∷ ms) (Err _ ∷ answers) h = cut_added ms answers h.1

    pub run_is_cut : (ms : List Message) (answers : List Answer) → AreAnswers IsAnswerTo ms answers → IsCutInto (added ms answers) (accepted ms answers)
    run_is_cut ms answers h = is_cut_into (added ms answers) (accepted ms answers) (cut_added ms answers h)

    -- with room for all of it, memory doesn't run out
    pub none_runs_out : (capacity len : ℕ) (ms : List Message) (answers : List Answer) → AreAnswers IsAnswerTo ms answers → RanOutWhereShort capacity len ms answers → len + run_room ms answers ≤ capacity → NoneRanOut answers
    none_runs_out capacity len [] [] h s room = tt
    none_runs_out capacity len [] (b ∷ answers) h s room = absurd h
    none_runs_out capacity len (n ∷ ms) [] h s room = absurd h
    none_runs_out capacity len (n ∷ ms) (Ok u ∷ answers) h s room =
        none_runs_out capacity (len + length (text n)) ms answers h.1 s (omega (arith, room, hint_covers n (fits n u h.0)))
    none_runs_out capacity len (n ∷ ms) (Err (Protocol _ _) ∷ answers) h s room = none_runs_out capacity len ms answers h.1 s room
    none_runs_out capacity len (n ∷ ms) (Err OutOfMemory ∷ answers) h s room = absurd (omega (arith, s.0, room))

-- ---- the rules of runs

-- a strict answer that accepts
strict_fits : (f : Option ProtocolFault) (P : Type 0) (u : Unit {0}) → MatchOption f P (λ f. Ok u ≡ Err (Protocol None f)) → f ≡ None
strict_fits None P u h = refl
strict_fits (Some f) P u h = absurd (let clash : Ok u ≡ Err (Protocol None f) = h in cc)

strict_part : (f : Option ProtocolFault) (P : Type 0) (u : Unit {0}) → MatchOption f P (λ f. Ok u ≡ Err (Protocol None f)) → P
strict_part None P u h = h
strict_part (Some f) P u h = absurd (let clash : Ok u ≡ Err (Protocol None f) = h in cc)

strict_answer : (f : Option ProtocolFault) (P : Type 0) (u : Unit {0}) → f ≡ None → P → MatchOption f P (λ f. Ok u ≡ Err (Protocol None f))
strict_answer None P u e p = p
strict_answer (Some f) P u e p = absurd (let clash : Some f ≡ None = e in cc)

strict_can : (m : Message) (u : Unit {0}) → IsStrictAnswer m (Ok u) → CanRoundTrip m
strict_can m u h = strict_part (fault m) (CanRoundTrip m) u h

-- a message that is accepted is within the limits, whatever the rule
pub answers_fit : (strict : Bool) → FitsIfOk (IsAnswerOf strict)
answers_fit false m u h = accepted_fits (fault m) u h
answers_fit true m u h = strict_fits (fault m) (CanRoundTrip m) u h

-- each accepted message of a strict run makes the round trip
pub each_round_trips : (ms : List Message) (answers : List Answer) → AreAnswers IsStrictAnswer ms answers → AllRoundTrip ms answers → EachRoundTrips ms answers
each_round_trips [] answers h read = tt
each_round_trips (n ∷ ms) [] h read = tt
each_round_trips (n ∷ ms) (Ok u ∷ answers) h read = (read.0 (strict_can n u h.0), each_round_trips ms answers h.1 read.1)
each_round_trips (n ∷ ms) (Err _ ∷ answers) h read = each_round_trips ms answers h.1 read

-- ---- what a reader of tags makes of a run

are_bytes : (bytes : List ℕ) → ((i : ℕ) → i < length bytes → get_or bytes i 0 < 256) → AreBytes bytes
are_bytes [] h = tt
are_bytes (b ∷ bytes) h = (h 0 (omega arith), are_bytes bytes (λ i within. h (suc i) (omega (arith, within))))

one_by_tag : (m : Message) → AreBytes (text m) → (CanRoundTrip m → RoundTrips m) → IsMeantIfItCan m (tag m, body m)
one_by_tag m h round_trip can =
    let found : (v : (line m).Value) × Meant m v × Means (line m).format (body m) v = means m (body m) (are_bytes_after (text m) (tag m ∷ be32 (length (body m) + 4)) (body m) refl h) (round_trip can).reads.1 in
    record { is_tag = refl; is_body = refl; value = found.0; meant = found.1; means = found.2 }

frames_by_tag : (ms : List Message) (answers : List Answer) → AreBytes (added ms answers) → AllRoundTrip ms answers → AreFrames IsMeantIfItCan ms answers (accepted ms answers)
frames_by_tag [] answers h read = refl
frames_by_tag (n ∷ ms) [] h read = refl
frames_by_tag (n ∷ ms) (Ok u ∷ answers) h read = (
  one_by_tag n (are_bytes_before (text n ++ added ms answers) (text n) (added ms answers) refl h) read.0,
  frames_by_tag ms answers (are_bytes_after (text n ++ added ms answers) (text n) (added ms answers) refl h) read.1,
)
frames_by_tag (n ∷ ms) (Err _ ∷ answers) h read = frames_by_tag ms answers h read

pub run_by_tag : (ms : List Message) (answers : List Answer) (old new : List ℕ) → new ≡ old ++ added ms answers → ((i : ℕ) → i < length new → get_or new i 0 < 256) → IsCutInto (added ms answers) (accepted ms answers) → AllRoundTrip ms answers
    → AreReadByTag IsMeantIfItCan ms answers (drop (length old) new)
run_by_tag ms answers old new adds h cut read =
    let more : drop (length old) new ≡ added ms answers = rw adds (drop-append_seam old (added ms answers)) in
    record {
      frames = accepted ms answers;
      cut = rw more cut;
      read = frames_by_tag ms answers (are_bytes_after new old (added ms answers) adds (are_bytes new h)) read;
    }

-- a strict run accepts those alone that can make the round trip
strict_frames : (ms : List Message) (answers : List Answer) (frames : List (ℕ × List ℕ)) → AreAnswers IsStrictAnswer ms answers → AreFrames IsMeantIfItCan ms answers frames → AreFrames IsMeantByTag ms answers frames
strict_frames [] answers frames h read = read
strict_frames (n ∷ ms) [] frames h read = read
strict_frames (n ∷ ms) (Ok u ∷ answers) [] h read = absurd read
strict_frames (n ∷ ms) (Ok u ∷ answers) (frame ∷ frames) h read = (read.0 (strict_can n u h.0), strict_frames ms answers frames h.1 read.1)
strict_frames (n ∷ ms) (Err _ ∷ answers) frames h read = strict_frames ms answers frames h.1 read

pub strict_by_tag : (ms : List Message) (answers : List Answer) (bytes : List ℕ) → AreAnswers IsStrictAnswer ms answers → AreReadByTag IsMeantIfItCan ms answers bytes → AreReadByTag IsMeantByTag ms answers bytes
strict_by_tag ms answers bytes h run = record { frames = run.frames; cut = run.cut; read = strict_frames ms answers run.frames h run.read }

-- the same of one message
one_added : (m : Message) (a : Answer) (old new : List ℕ) → OnOk a (new ≡ old ++ text m) → OnErr a (new ≡ old) → new ≡ old ++ added (m ∷ []) (a ∷ [])
one_added m (Ok u) old new ok err = ok ∙ ap (λ (l : List ℕ). old ++ l) (sym (append-nil (text m)))
one_added m (Err e) old new ok err = err ∙ sym (append-nil old)

one_cut : (m : Message) (a : Answer) → OnOk a (IsCutInto (text m) ((tag m, body m) ∷ [])) → IsCutInto (added (m ∷ []) (a ∷ [])) (accepted (m ∷ []) (a ∷ []))
one_cut m (Ok u) cut = rw (append-nil (text m)) cut
one_cut m (Err e) cut = is_cut_into [] [] refl

pub message_by_tag : (m : Message) (a : Answer) (old new : Vec ℕ Global) → EncodesMessage (law_of m) old new a → ((i : ℕ) → i < length new.items → get_or new.items i 0 < 256) → OnOk a (CanRoundTrip m → RoundTrips m)
    → AreReadByTag IsMeantIfItCan (m ∷ []) (a ∷ []) (drop (length old.items) new.items)
message_by_tag m a old new is h read =
    run_by_tag (m ∷ []) (a ∷ []) old.items new.items (one_added m a old.items new.items is.encodes.ok is.encodes.err) h (one_cut m a is.cut) (read_one m a read)

module _ (IsAnswerTo : Message → Answer → Type 0) (fits : FitsIfOk IsAnswerTo) where
  -- ---- a run that reserves for each message

  -- the run so far: what it added, its answers, and where memory ran out
  pub record Ran (ms : List Message) (answers : List Answer) (old new : List ℕ) (capacity len : ℕ) : Type 0 where
    pub adds : new ≡ old ++ added ms answers
    pub answered : AreAnswers IsAnswerTo ms answers
    pub read : AllRoundTrip ms answers
    pub short : RanOutWhereShort capacity len ms answers

  -- one more message and its answer, which leaves new where mid was
  pub record Answered (m : Message) (a : Answer) (mid new : List ℕ) (capacity len : ℕ) : Type 0 where
    pub ok : OnOk a (new ≡ mid ++ text m)
    pub err : OnErr a (new ≡ mid)
    pub answer : IsAnswerTo m a
    pub reads : OnOk a (CanRoundTrip m → RoundTrips m)
    pub short : IsErrOf a OutOfMemory → capacity < len + (hint m + 5)

  adds_one : (m : Message) (a : Answer) (mid new : List ℕ) → OnOk a (new ≡ mid ++ text m) → OnErr a (new ≡ mid) → new ≡ mid ++ added_by m a
  adds_one m (Ok u) mid new ok err = ok
  adds_one m (Err e) mid new ok err = err ∙ sym (append-nil mid)

  ran_out : (capacity len : ℕ) (m : Message) (a : Answer) → (IsErrOf a OutOfMemory → capacity < len + (hint m + 5)) → RanOutIfShort capacity len m a
  ran_out capacity len m (Ok u) h = tt
  ran_out capacity len m (Err (Protocol r f)) h = tt
  ran_out capacity len m (Err OutOfMemory) h = h refl

  pub ran_more : (ms : List Message) (answers : List Answer) (m : Message) (a : Answer) (old mid new : List ℕ) (capacity len room : ℕ)
      → Ran ms answers old mid capacity len → length old ≡ len → capacity ≤ room → Answered m a mid new room (length mid) → Ran (ms ++ m ∷ []) (answers ++ a ∷ []) old new capacity len
  ran_more ms answers m a old mid new capacity len room run starts grows one =
      let mid_len : length mid ≡ len + length (added ms answers) = omega (arith, ap length run.adds, length-append old (added ms answers), starts) in
      record {
        adds = rw (added_more IsAnswerTo m a ms answers run.answered) (adds_one m a mid new one.ok one.err ∙ ap (λ (l : List ℕ). l ++ added_by m a) run.adds ∙ append_assoc old (added ms answers) (added_by m a));
        answered = answers_more IsAnswerTo m a ms answers run.answered one.answer;
        read = read_more IsAnswerTo m a ms answers run.answered run.read one.reads;
        short = short_more IsAnswerTo m a capacity len ms answers run.answered run.short (ran_out capacity (len + length (added ms answers)) m a (λ e. omega (arith, one.short e, mid_len)));
      }

  -- ---- the same at an index of the list of messages

  module _ (xs : List TaggedMessage) (i : ℕ) (x : TaggedMessage) (before : i < length xs) (is : x ≡ get_or xs i x) where
    one_later : messages_of (take (i + 1) xs) ≡ messages_of (take i xs) ++ message_of x ∷ []
    one_later = rw (take_more xs i x before, ← is) (map_push message_of (take i xs) x)

    pub ran_at : (answers : List Answer) (a : Answer) (old mid new : List ℕ) (capacity len room : ℕ) → Answered (message_of x) a mid new room (length mid) → length old ≡ len → capacity ≤ room
        → Ran (messages_of (take i xs)) answers old mid capacity len → Ran (messages_of (take (i + 1) xs)) (answers ++ a ∷ []) old new capacity len
    ran_at answers a old mid new capacity len room one starts grows run =
        rw one_later (ran_more (messages_of (take i xs)) answers (message_of x) a old mid new capacity len room run starts grows one)

  -- ---- the whole run

  pub run_ran : (ms : List Message) (answers : List Answer) (old new : Vec ℕ Global) → AreAnswers IsAnswerTo ms answers → RanOutWhereShort (vec_capacity old) (vec_len old) ms answers → new.items ≡ old.items ++ added ms answers → AllRoundTrip ms answers
      → vec_capacity old ≤ vec_capacity new → EncodesRun IsAnswerTo ms answers old new
  run_ran ms answers old new answered short adds read capacity = record {
    adds = adds;
    answered = answered;
    cut = run_is_cut IsAnswerTo fits ms answers answered;
    round_trip = read;
    room = short;
    spare = λ room. none_runs_out IsAnswerTo fits (vec_capacity old) (vec_len old) ms answers answered short room;
    capacity = capacity;
  }

-- an accepted message is answered by its rule
accepted_by_rule : (strict : Bool) (m : Message) (u : Unit {0}) → IsAnswer (fault m) (Ok u) → (strict ≡ true → CanRoundTrip m) → IsAnswerOf strict m (Ok u)
accepted_by_rule false m u h can = h
accepted_by_rule true m u h can = strict_answer (fault m) (CanRoundTrip m) u (accepted_fits (fault m) u h) (can refl)

pub put_one : (strict : Bool) (m : Message) (u : Unit {0}) (old new : Vec ℕ Global) → EncodesMessage (law_of m) old new (Ok u) → IsInRange m → (strict ≡ true → CanRoundTrip m) → EncodesOne (IsAnswerOf strict) m (Ok u) old new
put_one strict m u old new put range can = record {
  ok = put.encodes.ok;
  err = tt;
  is = accepted_by_rule strict m u put.encodes.answer can;
  round_trip = round_trips_if_ok m (Ok u) put.encodes.answer range;
  memory = put.encodes.memory;
  capacity = put.encodes.capacity;
}
