-- What faults and errors print, and faults that several kinds of body share.
use Rattle.std.specs.Prelude.{◌≡◌, ℕ, ◌+◌, ◌-◌, ◌<◌, List, ◌++◌, length, codes, decimal, Some, None}
use Rattle.std.specs.Fmt.{signed_decimal}
use Rattle.pg_base.specs.declared.error.ProtocolFault.{ProtocolFault}
use Rattle.pg_base.specs.declared.error.ProtocolFault.TheVariants as faults
use Rattle.pg_base.specs.declared.error.Error.{Error}
use Rattle.pg_base.specs.declared.error.Error.TheVariants.{Protocol, OutOfMemory}
use Rattle.pg_base.specs.Format.{format_name}

abbrev pub fault_words : ProtocolFault → List ℕ
fault_words (faults.TooManyParamFormats count) = codes "too many parameter format codes (" ++ decimal count ++ codes ")"
fault_words (faults.TooManyResultFormats count) = codes "too many result format codes (" ++ decimal count ++ codes ")"
fault_words (faults.TooManyParamTypes count) = codes "param_types.len() too large for binary protocol: " ++ decimal count
fault_words (faults.TooMany count) = codes "too many items for a message: " ++ decimal count
fault_words (faults.MessageTooLong length) = codes "message size out of range for protocol: " ++ decimal length
fault_words (faults.WrongFormat expected got) = codes "Postgres protocol error: expected " ++ format_name expected ++ codes ", got " ++ format_name got
fault_words (faults.BodyTooLong length) = codes "message body out of range for protocol: " ++ decimal length
fault_words (faults.UnknownMessageType tag) = codes "unknown message type: " ++ decimal tag
fault_words (faults.UnknownLetter letter) = codes "unknown letter: " ++ decimal letter
fault_words (faults.UnknownAuthentication method) = codes "unknown authentication method: " ++ decimal method
fault_words (faults.UnknownStatus status) = codes "unknown transaction status: " ++ decimal status
fault_words faults.UnknownSeverity = codes "unknown severity"
fault_words (faults.Short at needed got) = codes "expected " ++ (decimal needed ++ (codes " bytes at offset " ++ (decimal at ++ (codes ", got " ++ decimal got))))
fault_words (faults.MissingNul at) = codes "expected NUL after offset " ++ decimal at
fault_words faults.NotUtf8 = codes "text is not UTF-8"
fault_words faults.NoticeNotUtf8 = codes "Postgres returned a non-UTF-8 string for its error message. This is most likely due to an error that occurred during authentication and the default lc_messages locale is not binary-compatible with UTF-8. See the server logs for the error details."
fault_words faults.ShortSaslItem = codes "SASL item of fewer than two bytes"
fault_words faults.Base64 = codes "SASL value is not base64"
fault_words (faults.BadLength length) = codes "bad message length: " ++ signed_decimal length
fault_words faults.TextHoldsNul = codes "text holds NUL"
fault_words faults.BadParams = codes "params are not num_params values"
fault_words (faults.BadKeyLength length) = codes "secret key length out of range for protocol: " ++ decimal length
fault_words (faults.UnknownCode code) = codes "unknown code: " ++ decimal code
fault_words (faults.ValueLength at length) = codes "bad value length at offset " ++ (decimal at ++ (codes ": " ++ signed_decimal length))
fault_words (faults.TrailingBytes at) = codes "expected the end of the message at offset " ++ decimal at

abbrev pub error_words : Error → List ℕ
error_words (Protocol None fault) = fault_words fault
error_words (Protocol (Some format) fault) = codes "Postgres protocol error (reading " ++ format_name format ++ codes "): " ++ fault_words fault
error_words OutOfMemory = codes "out of memory"

-- fewer than `needed` bytes follow the offset
pub record IsShort (body : List ℕ) (at needed : ℕ) (fault : ProtocolFault) : Type 0 where
  pub lacks : length body < at + needed
  pub is : fault ≡ faults.Short at needed (length body - at)
