-- Faults of messages from a client: their words, and what the page of all messages calls them.
use Rattle.std.specs.Prelude.{◌≡◌, ℕ, List, ◌++◌, codes, decimal, ◌<◌, length}
use Rattle.std.specs.Fmt.{signed_decimal}
use Rattle.pg_base.specs.declared.error.ProtocolFault.{ProtocolFault}
use Rattle.pg_base.specs.declared.error.ProtocolFault.TheVariants as page
use Rattle.pg_server.specs.declared.frontend.error.FrontendFault.{FrontendFault}
use Rattle.pg_server.specs.declared.frontend.error.FrontendFault.TheVariants as faults
use Rattle.pg_server.specs.declared.frontend.error.FrontendFault.TheVariants.{TrailingBytes}

abbrev pub fault_words : FrontendFault → List ℕ
fault_words (faults.UnknownTag tag) = codes "unknown message type: " ++ decimal tag
fault_words (faults.UnknownCode code) = codes "unknown code: " ++ decimal code
fault_words (faults.UnknownTarget letter) = codes "neither a statement nor a portal: " ++ decimal letter
fault_words (faults.Short at needed got) = codes "expected " ++ (decimal needed ++ (codes " bytes at offset " ++ (decimal at ++ (codes ", got " ++ decimal got))))
fault_words (faults.MissingNul at) = codes "expected NUL after offset " ++ decimal at
fault_words (faults.ValueLength at length) = codes "bad value length at offset " ++ (decimal at ++ (codes ": " ++ signed_decimal length))
fault_words (faults.KeyLength length) = codes "bad secret key length: " ++ decimal length
fault_words (faults.TrailingBytes at) = codes "expected the end of the message at offset " ++ decimal at
fault_words (faults.BadLength length) = codes "bad message length: " ++ signed_decimal length
fault_words (faults.FirstTooLong length limit) = codes "expected a first message of at most " ++ (decimal limit ++ (codes " bytes, got " ++ decimal length))

-- a fault of a body, as the page has it; no body has an unknown tag, or the length of its message
abbrev pub IsOnPage : FrontendFault → ProtocolFault → Type 0
IsOnPage (faults.UnknownTag tag) fault = ⊥
IsOnPage (faults.UnknownCode code) fault = fault ≡ page.UnknownCode code
IsOnPage (faults.UnknownTarget letter) fault = fault ≡ page.UnknownLetter letter
IsOnPage (faults.Short at needed got) fault = fault ≡ page.Short at needed got
IsOnPage (faults.MissingNul at) fault = fault ≡ page.MissingNul at
IsOnPage (faults.ValueLength at length) fault = fault ≡ page.ValueLength at length
IsOnPage (faults.KeyLength length) fault = fault ≡ page.BadKeyLength length
IsOnPage (faults.TrailingBytes at) fault = fault ≡ page.TrailingBytes at
IsOnPage (faults.BadLength length) fault = ⊥
IsOnPage (faults.FirstTooLong length limit) fault = ⊥

-- bytes follow an offset
pub record TrailsAt (body : List ℕ) (at : ℕ) (fault : FrontendFault) : Type 0 where
  pub some : at < length body
  pub is : fault ≡ TrailingBytes at
