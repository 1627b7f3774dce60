use Rattle.std.proofs.Common.{rules, ◌≡◌, ℕ, List, Option, Some, None, Result, Ok, Err, IfOk, IfErr, IfSome, IfNone, IsSome, refl}
use Rattle.std.specs.Result.{MatchResult}
use Rattle.pg_base.specs.Cutting.{Begins}
use Rattle.pg_base.specs.Format.{backend_tag}
use Rattle.pg_base.specs.declared.error.Error.{Error}
use Rattle.pg_base.specs.declared.error.Error.TheVariants.{Protocol, OutOfMemory}
use Rattle.pg_base.specs.declared.error.ProtocolFault.{ProtocolFault}
use Rattle.pg_format.specs.declared.received.ReceivedMessage.{ReceivedMessage}
use Rattle.pg_frames.specs.Stream.{of_server, Whole, WantsMore, IsStreamFault, IsReaderError}
use Rattle.pg_frames.proofs.FramingLemmas.{whole_wants_none, fault_not_whole, fault_wants_none, one_fault}
use Rattle.pg_frames.proofs.StreamLemmas.{too_few, known_whole}
use Rattle.pg_frames.proofs.reader.FrameReader.next_message.Goals as goal

-- A reader's answer is the one that is due, for any type of message that it hands out.

-- what the answers say
abbrev IsMessage : List ℕ → List ℕ → Result (Option ReceivedMessage) Error → Type 0
IsMessage old new r = IfOk r (λ some. IfSome some (λ message. Begins old (backend_tag message.format) message.contents new))

abbrev IsPartial : List ℕ → List ℕ → Result (Option ReceivedMessage) Error → Type 0
IsPartial old new r = IfOk r (λ some. IfNone some (WantsMore old × (new ≡ old)))

whole_due : (old new : List ℕ) (r : Result (Option ReceivedMessage) Error) → IsPartial old new r → IfErr r (IsReaderError old) → Whole old → MatchResult r IsSome (λ e. e ≡ OutOfMemory)
whole_due old new (Ok (Some m)) p e w = refl
whole_due old new (Ok None) p e w = absurd (whole_wants_none of_server old w p.0)
whole_due old new (Err (Protocol reading f)) p e w = absurd (fault_not_whole of_server old f e.1 w)
whole_due old new (Err OutOfMemory) p e w = refl

partial_due : (old new : List ℕ) (r : Result (Option ReceivedMessage) Error) → IsMessage old new r → IfErr r (IsReaderError old) → WantsMore old → r ≡ Ok None
partial_due old new (Ok (Some m)) p e w = absurd (whole_wants_none of_server old (known_whole old m.format m.contents new p) w)
partial_due old new (Ok None) p e w = refl
partial_due old new (Err (Protocol reading f)) p e w = absurd (fault_wants_none of_server old f e.1 w)
partial_due old new (Err OutOfMemory) p e w = absurd (whole_wants_none of_server old e w)

fault_due : (old new : List ℕ) (r : Result (Option ReceivedMessage) Error) → IsMessage old new r → IsPartial old new r → IfErr r (IsReaderError old) → (fault : ProtocolFault) → IsStreamFault old fault → r ≡ Err (Protocol None fault)
fault_due old new (Ok (Some m)) q p e fault f = absurd (fault_not_whole of_server old fault f (known_whole old m.format m.contents new q))
fault_due old new (Ok None) q p e fault f = absurd (fault_wants_none of_server old fault f p.0)
fault_due old new (Err (Protocol reading g)) q p e fault f = let one = one_fault of_server old g fault e.1 f in rw (e.0, one) refl
fault_due old new (Err OutOfMemory) q p e fault f = absurd (fault_not_whole of_server old fault f e)

pub returns-clause-whole_due : goal.returns-clause-whole_due
returns-clause-whole_due c = whole_due c.args.self.now c.take_next.new.self c.take_next.result c.take_next.ensures.partial c.take_next.ensures.error

pub returns-clause-partial_due : goal.returns-clause-partial_due
returns-clause-partial_due c = partial_due c.args.self.now c.take_next.new.self c.take_next.result c.take_next.ensures.message c.take_next.ensures.error

pub returns-clause-fault_due : goal.returns-clause-fault_due
returns-clause-fault_due c = fault_due c.args.self.now c.take_next.new.self c.take_next.result c.take_next.ensures.message c.take_next.ensures.partial c.take_next.ensures.error

pub returns-then-len-self-clause-whole_due : goal.returns-then-len-self-clause-whole_due
returns-then-len-self-clause-whole_due c =
    let wants : WantsMore c.args.self.now = rw (← c.self.view_is) (too_few c.self.inside.block c.self.inside.least c.self.invariant (search rules)) in
    λ whole. absurd (whole_wants_none of_server c.args.self.now whole wants)

pub returns-then-len-self-clause-fault_due : goal.returns-then-len-self-clause-fault_due
returns-then-len-self-clause-fault_due c =
    let wants : WantsMore c.args.self.now = rw (← c.self.view_is) (too_few c.self.inside.block c.self.inside.least c.self.invariant (search rules)) in
    λ fault f. absurd (fault_wants_none of_server c.args.self.now fault f wants)
