-- What is made of a message by its law, whichever type it has.
use Rattle.std.specs.Prelude.{◌≡◌, ℕ, ◌+◌, ◌≤◌, ◌++◌, List, length, Bool, Result, None, OnOk, IfErr, Vec}
use Rattle.std.specs.Bool.{OnTrue, OnFalse}
use Rattle.std.specs.declared.alloc.Global.{Global}
use Rattle.pg_base.specs.declared.error.Error.{Error}
use Rattle.pg_base.specs.declared.error.ProtocolFault.{ProtocolFault}
use Rattle.pg_send.specs.FrontendMessage.{Law, CannotRoundTrip, fault, text, EncodesMessage, IsShortFor, IsShortIfItCan, Adds}

-- the frame is added, or the buffer stays: where a limit is broken or the spare room is short
pub record PutsIfFits (law : Law) (old new : Vec ℕ Global) (result : Bool) : Type 0 where
  pub encodes : OnTrue result (Adds law old new)
  pub range : OnTrue result law.IsInRange
  pub same : OnFalse result (new ≡ old)
  pub short : OnFalse result (IsShortFor law old)

-- the same of a message that can make the round trip
pub record PutsIfReadBack (law : Law) (old new : Vec ℕ Global) (result : Bool) : Type 0 where
  pub encodes : OnTrue result (Adds law old new)
  pub range : OnTrue result law.IsInRange
  pub can : OnTrue result law.CanRoundTrip
  pub same : OnFalse result (new ≡ old)
  pub short : OnFalse result (IsShortIfItCan law old)

-- Ok where it can, else why not
pub record IsRoundTripCheck (law : Law) (result : Result (Unit {0}) ProtocolFault) : Type 0 where
  pub ok : OnOk result law.CanRoundTrip
  pub fault_is : IfErr result (CannotRoundTrip law)

-- the frame is added, or refused as its law says
pub record EncodesInRange (law : Law) (old new : Vec ℕ Global) (result : Result (Unit {0}) Error) : Type 0 where
  pub encodes : EncodesMessage law old new result
  pub range : OnOk result law.IsInRange

-- a message within the limits, and room for its frame
pub record FrameFits {S : Type 0} (written : S → List ℕ) (capacity : S → ℕ) (law : Law) (sink : S) : Type 0 where
  pub limits : fault law ≡ None
  pub room : length (written sink) + (length law.body + 5) ≤ capacity sink

-- the frame is added
pub record PutsFrame {S L : Type 0} (written : S → List ℕ) (capacity : S → ℕ) (loan : S → L) (law : Law) (old new : S) : Type 0 where
  pub written_is : written new ≡ written old ++ text law
  pub capacity_is : capacity old ≤ capacity new
  pub loan_is : loan new ≡ loan old
  pub range : law.IsInRange
