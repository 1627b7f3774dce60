-- The numbers by which a call refuses, and what is reported of a fault.
use Rattle.std.specs.Prelude.{◌≡◌, ◌<ℤ◌, ◌⊎◌, ℕ, ℤ, pos, negsuc, List, None, take, drop, Result, IfOk, String, string_bytes}
use Rattle.std.specs.declared.alloc.Global.{Global}
use Rattle.pg_base.specs.Error.{error_words}
use Rattle.pg_base.specs.declared.error.ProtocolFault.{ProtocolFault}
use Rattle.pg_base.specs.declared.error.ProtocolFault.TheVariants as faults
use Rattle.pg_base.specs.declared.error.Error.{Error}
use Rattle.pg_base.specs.declared.error.Error.TheVariants.{Protocol, OutOfMemory}
use Rattle.pg_server.specs.Frontend.Error.{fault_words}
use Rattle.pg_server.specs.declared.frontend.error.FrontendFault.{FrontendFault}
use Rattle.pg_server.specs.declared.frontend.error.FrontendFault.TheVariants as client
use Rattle.pg_c.specs.declared.refusal.PgmsgFault.{PgmsgFault}

-- the number of any message or value that is too long
abbrev pub too_long_number : ℤ
too_long_number = negsuc 4

-- that of a Describe or a Close that names neither a statement nor a portal
abbrev pub unknown_target_number : ℤ
unknown_target_number = negsuc 22

-- below 0, in the order of the header; negsuc n is -n - 1
abbrev pub fault_number : ProtocolFault → ℤ
fault_number (faults.TooManyParamFormats count) = negsuc 1
fault_number (faults.TooManyResultFormats count) = negsuc 2
fault_number (faults.TooManyParamTypes count) = negsuc 3
fault_number (faults.TooMany count) = negsuc 26
fault_number (faults.MessageTooLong length) = too_long_number
fault_number (faults.WrongFormat expected got) = negsuc 5
fault_number (faults.BodyTooLong length) = negsuc 6
fault_number (faults.UnknownMessageType tag) = negsuc 7
fault_number (faults.UnknownLetter letter) = negsuc 29
fault_number (faults.UnknownAuthentication method) = negsuc 8
fault_number (faults.UnknownStatus status) = negsuc 9
fault_number faults.UnknownSeverity = negsuc 10
fault_number (faults.Short at needed got) = negsuc 11
fault_number (faults.MissingNul at) = negsuc 12
fault_number faults.NotUtf8 = negsuc 13
fault_number faults.NoticeNotUtf8 = negsuc 14
fault_number faults.ShortSaslItem = negsuc 15
fault_number faults.Base64 = negsuc 16
fault_number (faults.BadLength length) = negsuc 17
fault_number faults.TextHoldsNul = negsuc 18
fault_number faults.BadParams = negsuc 19
fault_number (faults.BadKeyLength length) = negsuc 20
fault_number (faults.UnknownCode code) = negsuc 21
fault_number (faults.ValueLength at length) = negsuc 23
fault_number (faults.TrailingBytes at) = negsuc 24

abbrev pub refusal_number : Error → ℤ
refusal_number (Protocol reading fault) = fault_number fault
refusal_number OutOfMemory = negsuc 0

-- the offset that a fault names, or 0
abbrev pub place_in : ProtocolFault → ℕ
place_in (faults.Short at needed got) = at
place_in (faults.MissingNul at) = at
place_in (faults.ValueLength at length) = at
place_in (faults.TrailingBytes at) = at
place_in fault = 0

abbrev pub fault_place : Error → ℕ
fault_place (Protocol reading fault) = place_in fault
fault_place OutOfMemory = 0

-- the same of what is wrong with a message from a client
abbrev pub client_number : FrontendFault → ℤ
client_number (client.UnknownTag tag) = negsuc 7
client_number (client.UnknownCode code) = negsuc 21
client_number (client.UnknownTarget letter) = unknown_target_number
client_number (client.Short at needed got) = negsuc 11
client_number (client.MissingNul at) = negsuc 12
client_number (client.ValueLength at length) = negsuc 23
client_number (client.KeyLength length) = negsuc 20
client_number (client.TrailingBytes at) = negsuc 24
client_number (client.BadLength length) = negsuc 17
client_number (client.FirstTooLong length limit) = negsuc 25

abbrev pub client_place : FrontendFault → ℕ
client_place (client.Short at needed got) = at
client_place (client.MissingNul at) = at
client_place (client.ValueLength at length) = at
client_place (client.TrailingBytes at) = at
client_place fault = 0

-- a number is reported with an offset and words, or without words; what follows the words is as it was
pub record IsReportOf (is : ℤ) (place : ℕ) (said : List ℕ) (old fault : PgmsgFault) (result : ℤ) : Type 0 where
  pub returned : result ≡ is
  pub number : fault.number ≡ is
  pub at : fault.at ≡ place
  pub words : (fault.words_len ≡ 0) ⊎ (take fault.words_len fault.words ≡ said)
  pub rest : drop fault.words_len fault.words ≡ drop fault.words_len old.words

-- a number is reported with an offset and with these words, where there are some
abbrev pub IsReportWith : {E : Type 0} → ℤ → ℕ → Result (String Global) E → PgmsgFault → PgmsgFault → ℤ → Type 0
IsReportWith number at words old fault result = (said : List ℕ) → IfOk words (λ text. string_bytes text ≡ said) → IsReportOf number at said old fault result

-- that of an error, and of what is wrong with a message from a client
abbrev pub IsReport : Error → PgmsgFault → PgmsgFault → ℤ → Type 0
IsReport error = IsReportOf (refusal_number error) (fault_place error) (error_words error)

abbrev pub IsClientReport : FrontendFault → PgmsgFault → PgmsgFault → ℤ → Type 0
IsClientReport fault = IsReportOf (client_number fault) (client_place fault) (fault_words fault)

-- a fault that the bytes have, of no message read as a kind; never out of memory
abbrev pub IsErrorOf : (ProtocolFault → Type 0) → Error → Type 0
IsErrorOf IsFault (Protocol reading fault) = (reading ≡ None) × IsFault fault
IsErrorOf IsFault OutOfMemory = ⊥

-- a call that reads refuses for a fault that the bytes have
pub record Refuses (IsFault : ProtocolFault → Type 0) (old fault : PgmsgFault) (result : ℤ) : Type 0 where
  pub error : Error
  pub is : IsErrorOf IsFault error
  pub report : IsReport error old fault result

-- the same for a fault of a client's
pub record RefusesClient (IsFault : FrontendFault → Type 0) (old fault : PgmsgFault) (result : ℤ) : Type 0 where
  pub why : FrontendFault
  pub is : IsFault why
  pub report : IsClientReport why old fault result

-- a result below 0 refuses for such a fault of the bytes
abbrev pub RefusesFor : (ProtocolFault → Type 0) → PgmsgFault → PgmsgFault → ℤ → Type 0
RefusesFor IsFault old fault result = result <ℤ pos 0 → Refuses IsFault old fault result

-- a result below 0 refuses for such a fault of a client's message
abbrev pub RefusesClientFor : (FrontendFault → Type 0) → PgmsgFault → PgmsgFault → ℤ → Type 0
RefusesClientFor IsFault old fault result = result <ℤ pos 0 → RefusesClient IsFault old fault result
