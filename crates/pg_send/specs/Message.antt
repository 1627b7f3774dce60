-- Any tagged message to the server as a plain value: that of each message of the program, its law, what the page means
-- by it, and what follows of these.
use Rattle.std.specs.Prelude.{◌≡◌, ◌↔◌, ◌≤◌, ◌+◌, ℕ, List, length, map, Option, None, option_copied, string_bytes}
use Rattle.pg_base.specs.declared.error.ProtocolFault.{ProtocolFault}
use Rattle.pg_base.specs.declared.format.FrontendMessageFormat.{FrontendMessageFormat}
use Rattle.pg_base.specs.declared.format.FrontendMessageFormat.TheVariants as formats
use Rattle.pg_base.specs.Part.{saturated}
use Rattle.pg_format.specs.Format.{AreBytes, Means}
use Rattle.pg_format.specs.Messages as page
use Rattle.pg_format.specs.Messages.{Meaning}
use Rattle.pg_send.specs.declared.message.password.Password.{Password}
use Rattle.pg_send.specs.declared.message.password.Password.TheVariants as password
use Rattle.pg_send.specs.declared.message.tagged.TaggedMessage.{TaggedMessage}
use Rattle.pg_send.specs.declared.message.tagged.TaggedMessage.TheVariants as tagged
use Rattle.pg_send.specs.Bind.{BindFields, bind_law, bind_fields}
use Rattle.pg_send.specs.Execute.{ExecuteFields, execute_law, execute_fields, execute_value}
use Rattle.pg_send.specs.FunctionCall.{function_call_law, function_call_fields}
use Rattle.pg_send.specs.FrontendMessage as law
use Rattle.pg_send.specs.FrontendMessage.{Form, Law, plain, sasl_response}
use Rattle.pg_send.specs.Page.{IsWritten, MeantByBind, line_of}
use Rattle.pg_send.specs.Parse.{ParseFields, parse_law, parse_fields, parse_value}
use Rattle.pg_send.specs.Password.{cleartext_law, md5_law, md5_value}
use Rattle.pg_send.specs.RawBind.{raw_bind_law, raw_bind_fields}
use Rattle.pg_send.specs.RawExecute.{raw_execute_law, raw_execute_fields}
use Rattle.pg_send.specs.RawParse.{raw_parse_law, raw_parse_fields}
use Rattle.pg_send.specs.RawTarget.{raw_close_law, raw_describe_law, raw_target_of}
use Rattle.pg_send.specs.SaslInitial.{any_sasl_law, any_sasl_fields}
use Rattle.pg_send.specs.SaslInitialResponse.{SaslInitialFields, sasl_initial_law, sasl_initial_fields, sasl_initial_value}
use Rattle.pg_send.specs.Shapes.{empty_law, bytes_law, text_law}
use Rattle.pg_send.specs.Target.{Target, close_law, describe_law, target_of, target_value}

pub data Message : Type 0 where
  Bind : BindFields → Message
  CleartextPassword : List ℕ → Message
  Close : Target → Message
  CopyData : List ℕ → Message
  CopyDone : Message
  CopyFail : List ℕ → Message
  Describe : Target → Message
  Execute : ExecuteFields → Message
  Flush : Message
  FunctionCall : page.FunctionCall → Message
  Md5Password : List ℕ → Message
  Parse : ParseFields → Message
  Query : List ℕ → Message
  RawBind : page.Bind → Message
  RawClose : page.Targeted → Message
  RawDescribe : page.Targeted → Message
  RawExecute : page.Execute → Message
  RawParse : page.Parse → Message
  SaslInitial : page.SaslInitial → Message
  SaslInitialResponse : SaslInitialFields → Message
  SaslResponse : List ℕ → Message
  Sync : Message
  Terminate : Message

-- the message of either form of a password
abbrev pub password_message : Password → Message
password_message (password.Cleartext text) = CleartextPassword text.now
password_message (password.Bytes bytes) = CleartextPassword bytes.now
password_message (password.Md5 digest) = Md5Password digest

-- the plain value of each message of the program
abbrev pub message_of : TaggedMessage → Message
message_of (tagged.Bind bind) = Bind (bind_fields bind)
message_of (tagged.Close close) = Close (target_of close)
message_of (tagged.CopyData copy) = CopyData copy.0.now
message_of (tagged.CopyDone copy) = CopyDone
message_of (tagged.CopyFail copy) = CopyFail (string_bytes copy.now.message)
message_of (tagged.Describe describe) = Describe (target_of describe)
message_of (tagged.Execute execute) = Execute (execute_fields execute)
message_of (tagged.Flush flush) = Flush
message_of (tagged.FunctionCall call) = FunctionCall (function_call_fields (λ value. option_copied value) call)
message_of (tagged.Parse parse) = Parse (parse_fields parse)
message_of (tagged.Password password) = password_message password
message_of (tagged.Query query) = Query query.0.now
message_of (tagged.RawBind bind) = RawBind (raw_bind_fields (λ value. option_copied value) bind)
message_of (tagged.RawClose close) = RawClose (raw_target_of close)
message_of (tagged.RawDescribe describe) = RawDescribe (raw_target_of describe)
message_of (tagged.RawExecute execute) = RawExecute (raw_execute_fields execute)
message_of (tagged.RawParse parse) = RawParse (raw_parse_fields (λ oid. oid.0) parse)
message_of (tagged.SaslInitial sasl) = SaslInitial (any_sasl_fields sasl)
message_of (tagged.SaslInitialResponse sasl) = SaslInitialResponse (sasl_initial_fields sasl)
message_of (tagged.SaslResponse sasl) = SaslResponse sasl.0.now
message_of (tagged.Sync sync) = Sync
message_of (tagged.Terminate terminate) = Terminate

abbrev pub messages_of : List TaggedMessage → List Message
messages_of messages = map message_of messages

abbrev pub law_of : Message → Law
law_of (Bind b) = bind_law b
law_of (CleartextPassword text) = cleartext_law text
law_of (Close target) = close_law target
law_of (CopyData bytes) = bytes_law formats.CopyData plain bytes
law_of CopyDone = empty_law formats.CopyDone
law_of (CopyFail text) = text_law formats.CopyFail plain saturated text
law_of (Describe target) = describe_law target
law_of (Execute e) = execute_law e
law_of Flush = empty_law formats.Flush
law_of (FunctionCall f) = function_call_law f
law_of (Md5Password digest) = md5_law digest
law_of (Parse p) = parse_law p
law_of (Query text) = text_law formats.Query plain saturated text
law_of (RawBind b) = raw_bind_law b
law_of (RawClose target) = raw_close_law target
law_of (RawDescribe target) = raw_describe_law target
law_of (RawExecute e) = raw_execute_law e
law_of (RawParse p) = raw_parse_law p
law_of (SaslInitial s) = any_sasl_law s
law_of (SaslInitialResponse s) = sasl_initial_law s
law_of (SaslResponse bytes) = bytes_law formats.PasswordPolymorphic sasl_response bytes
law_of Sync = empty_law formats.Sync
law_of Terminate = empty_law formats.Terminate

-- ---- what its law says of a message

-- a tag, and which of the messages that have it
abbrev pub Kind : Type 0
Kind = FrontendMessageFormat × Form

abbrev pub kind_of : Message → Kind
kind_of m = ((law_of m).format, (law_of m).form)

abbrev pub line : Message → Meaning
line m = line_of (law_of m).form (law_of m).format

abbrev pub tag : Message → ℕ
tag m = law.tag (law_of m)

abbrev pub body : Message → List ℕ
body m = (law_of m).body

abbrev pub fault : Message → Option ProtocolFault
fault m = law.fault (law_of m)

abbrev pub hint : Message → ℕ
hint m = law.hint (law_of m)

abbrev pub text : Message → List ℕ
text m = law.text (law_of m)

abbrev pub IsInRange : Message → Type 0
IsInRange m = (law_of m).IsInRange

abbrev pub CanRoundTrip : Message → Type 0
CanRoundTrip m = (law_of m).CanRoundTrip

abbrev pub round_trip_fault : Message → Option ProtocolFault
round_trip_fault m = (law_of m).round_trip_fault

-- what the page means by a message
abbrev pub Meant : (m : Message) → (line m).Value → Type 0
Meant (Bind b) v = MeantByBind b v
Meant (CleartextPassword text) v = v ≡ text
Meant (Close target) v = v ≡ target_value target
Meant (CopyData bytes) v = v ≡ bytes
Meant CopyDone v = v ≡ tt
Meant (CopyFail text) v = v ≡ text
Meant (Describe target) v = v ≡ target_value target
Meant (Execute e) v = v ≡ execute_value e
Meant Flush v = v ≡ tt
Meant (FunctionCall f) v = v ≡ f
Meant (Md5Password digest) v = v ≡ md5_value digest
Meant (Parse p) v = v ≡ parse_value p
Meant (Query text) v = v ≡ text
Meant (RawBind b) v = v ≡ b
Meant (RawClose target) v = v ≡ target
Meant (RawDescribe target) v = v ≡ target
Meant (RawExecute e) v = v ≡ e
Meant (RawParse s) v = v ≡ s
Meant (SaslInitial s) v = v ≡ s
Meant (SaslInitialResponse s) v = v ≡ sasl_initial_value s
Meant (SaslResponse bytes) v = v ≡ bytes
Meant Sync v = v ≡ tt
Meant Terminate v = v ≡ tt

-- a reader that is given the kind takes the bytes apart into this message, with nothing left
abbrev pub Reads : Kind → List ℕ → Message → Type 0
Reads kind bytes m = (kind_of m ≡ kind) × (law_of m).Reads bytes

-- it gets the message back from its body, and no other message of its kind
pub record RoundTrips (m : Message) : Type 0 where
  pub reads : Reads (kind_of m) (body m) m
  pub only : (other : Message) → Reads (kind_of m) (body m) other → other ≡ m

abbrev pub RoundTripsIfItCan : Message → Type 0
RoundTripsIfItCan m = CanRoundTrip m → RoundTrips m

-- what holds of a message within the limits whose numbers are in range and that can make the round trip
abbrev pub IfReadable : Message → Type 0 → Type 0
IfReadable m Holds = fault m ≡ None → IsInRange m → CanRoundTrip m → Holds

-- the frame of a message fits into the capacity, after what is written
abbrev pub FitsInto : ℕ → List ℕ → Message → Type 0
FitsInto capacity written m = length written + (length (body m) + 5) ≤ capacity

-- two messages have one frame
abbrev pub HaveOneText : Message → Message → Type 0
HaveOneText m n = text m ≡ text n

-- messages of one kind with one frame are one
abbrev pub AreOneIfAlike : Message → Message → Type 0
AreOneIfAlike m n = kind_of m ≡ kind_of n → HaveOneText m n → m ≡ n

-- the body of a message is what is written of what the page means by it
abbrev pub IsWrittenOfPage : Message → Type 0
IsWrittenOfPage m = (v : (line m).Value) × Meant m v × IsWritten (line m).format (body m) v

-- the bytes mean what the page means by a message
abbrev pub IsMeantBy : Message → List ℕ → Type 0
IsMeantBy m bytes = (v : (line m).Value) × Meant m v × Means (line m).format bytes v

-- a reader takes bytes apart into a message exactly where they mean what the page means by the message
abbrev pub IsReadWhereMeant : Message → Type 0
IsReadWhereMeant m = (bytes : List ℕ) → IsInRange m → AreBytes bytes → Reads (kind_of m) bytes m ↔ IsMeantBy m bytes

-- a Bind has the text of each raw Bind that the page means by the Bind
abbrev pub HasTextOfRaw : BindFields → Type 0
HasTextOfRaw b = (v : page.Bind) → MeantByBind b v → HaveOneText (Bind b) (RawBind v)
