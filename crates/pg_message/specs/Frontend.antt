-- What is read of a message that was written.
use Rattle.std.specs.Prelude.{◌≡◌, ℕ, List, Ok}
use Rattle.pg_send.specs.Message as message
use Rattle.pg_send.specs.Message.{Message, body, Meant, CanRoundTrip}
use Rattle.pg_send.specs.Page.{MeantByBind}
use Rattle.pg_server.specs.declared.frontend.frontend_message_ref.FrontendMessageRef.{FrontendMessageRef}
use Rattle.pg_server.specs.declared.frontend.frontend_message_ref.FrontendMessageRef.TheVariants as messages
use Rattle.pg_server.specs.Frontend.Page.{shown_bind, shown_execute, shown_call, shown_parse, shown_targeted}
use Rattle.pg_server.specs.Frontend.FrontendMessageRef.{Answer, Gives, ReadsTagged}
use Rattle.pg_send.specs.Run as run
use Rattle.pg_send.specs.Run.{AreReadByTag}

-- a message of this case, whose value is so
pub record IsRead {A V : Type 0} (case : A → FrontendMessageRef) (shown : A → V) (Is : V → Type 0) (result : Answer) : Type 0 where
  pub value : A
  pub is_case : result ≡ Ok (case value)
  pub is : Is (shown value)

-- what the page means by the message; of one with the tag of passwords, its body
abbrev pub IsReadBack : Message → Answer → Type 0
IsReadBack (message.Bind b) result = IsRead messages.Bind shown_bind (MeantByBind b) result
IsReadBack (message.CleartextPassword text) result = Gives messages.PasswordPolymorphic (body (message.CleartextPassword text)) result
IsReadBack (message.Close t) result = IsRead messages.Close shown_targeted (Meant (message.Close t)) result
IsReadBack (message.CopyData bytes) result = Gives messages.CopyData bytes result
IsReadBack message.CopyDone result = result ≡ Ok messages.CopyDone
IsReadBack (message.CopyFail text) result = IsRead messages.CopyFail (λ read. read.now) (Meant (message.CopyFail text)) result
IsReadBack (message.Describe t) result = IsRead messages.Describe shown_targeted (Meant (message.Describe t)) result
IsReadBack (message.Execute e) result = IsRead messages.Execute shown_execute (Meant (message.Execute e)) result
IsReadBack message.Flush result = result ≡ Ok messages.Flush
IsReadBack (message.FunctionCall f) result = IsRead messages.FunctionCall shown_call (Meant (message.FunctionCall f)) result
IsReadBack (message.Md5Password digest) result = Gives messages.PasswordPolymorphic (body (message.Md5Password digest)) result
IsReadBack (message.Parse p) result = IsRead messages.Parse shown_parse (Meant (message.Parse p)) result
IsReadBack (message.Query text) result = IsRead messages.Query (λ read. read.now) (Meant (message.Query text)) result
IsReadBack (message.RawBind b) result = IsRead messages.Bind shown_bind (Meant (message.RawBind b)) result
IsReadBack (message.RawClose t) result = IsRead messages.Close shown_targeted (Meant (message.RawClose t)) result
IsReadBack (message.RawDescribe t) result = IsRead messages.Describe shown_targeted (Meant (message.RawDescribe t)) result
IsReadBack (message.RawExecute e) result = IsRead messages.Execute shown_execute (Meant (message.RawExecute e)) result
IsReadBack (message.RawParse p) result = IsRead messages.Parse shown_parse (Meant (message.RawParse p)) result
IsReadBack (message.SaslInitial s) result = Gives messages.PasswordPolymorphic (body (message.SaslInitial s)) result
IsReadBack (message.SaslInitialResponse s) result = Gives messages.PasswordPolymorphic (body (message.SaslInitialResponse s)) result
IsReadBack (message.SaslResponse bytes) result = Gives messages.PasswordPolymorphic bytes result
IsReadBack message.Sync result = result ≡ Ok messages.Sync
IsReadBack message.Terminate result = result ≡ Ok messages.Terminate

-- what a reader answers to a frame's tag and body alone is the message
abbrev pub IsReadByTag : Message → ℕ × List ℕ → Type 0
IsReadByTag m frame = (result : Answer) → ReadsTagged frame.0 frame.1 result → IsReadBack m result

-- the same of a message that can make the round trip
abbrev pub IsReadIfItCan : Message → ℕ × List ℕ → Type 0
IsReadIfItCan m frame = CanRoundTrip m → IsReadByTag m frame

-- whatever a run adds: where each of its frames is of its message by one relation, it is by the other
abbrev pub AreReadIfMeant : (Message → ℕ × List ℕ → Type 0) → (Message → ℕ × List ℕ → Type 0) → Type 0
AreReadIfMeant One Other = (ms : List Message) (answers : List run.Answer) (added : List ℕ) → AreReadByTag One ms answers added → AreReadByTag Other ms answers added
