-- What reading a message from a client answers, by its kind.
use Rattle.std.specs.Prelude.{◌≡◌, ℕ, List, Result, Ok, Err, MatchResult}
use Rattle.pg_server.specs.declared.frontend.error.FrontendFault.{FrontendFault}
use Rattle.pg_server.specs.Frontend.FirstMessageRef.{ReadsFirst}
use Rattle.pg_server.specs.Frontend.FrontendMessageRef.{ReadsKind}
use Rattle.pg_frames.specs.declared.frontend.message.ClientMessageKind.{ClientMessageKind}
use Rattle.pg_frames.specs.declared.frontend.message.ClientMessageKind.TheVariants as kinds
use Rattle.pg_frames.specs.declared.frontend.message.ClientMessageRef.{ClientMessageRef}
use Rattle.pg_frames.specs.declared.frontend.message.ClientMessageRef.TheVariants as messages

-- the answer is what was read, as this case, or the fault of that reading
pub record Reads {A : Type 0} (case : A → ClientMessageRef) (IsAnswer : Result A FrontendFault → Type 0) (result : Result ClientMessageRef FrontendFault) : Type 0 where
  pub answer : Result A FrontendFault
  pub reads : IsAnswer answer
  pub is : MatchResult answer (λ value. result ≡ Ok (case value)) (λ fault. result ≡ Err fault)

abbrev pub ReadsMessage : ClientMessageKind → List ℕ → Result ClientMessageRef FrontendFault → Type 0
ReadsMessage kinds.First body result = Reads messages.First (ReadsFirst body) result
ReadsMessage (kinds.Tagged format) body result = Reads messages.Tagged (ReadsKind format body) result
