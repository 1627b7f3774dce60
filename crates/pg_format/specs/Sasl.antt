-- What may be wrong with the data of a SASL exchange: items between commas, a key, a byte that isn't
-- looked at, and a value. Documentation: "SCRAM-SHA-256 Authentication"; RFC 5802, section 5.1.
use Rattle.std.specs.Prelude.{ℕ, ◌==◌, List, [], ◌∷◌, Option, Some, None, is_some, if◌then◌else◌}
use Rattle.std.specs.List.{slice_split}
use Rattle.std.specs.Option.{option_or}
use Rattle.std.specs.Str.{is_utf8}
use Rattle.base64.specs.Engines.{standard}
use Rattle.base64.specs.GeneralPurpose.{decoded_of}
use Rattle.pg_base.specs.declared.error.ProtocolFault.{ProtocolFault}
use Rattle.pg_base.specs.declared.error.ProtocolFault.TheVariants.{ShortSaslItem, Base64, NotUtf8}
use Rattle.pg_format.specs.Keyed.{plain, first_fault_of, last}

-- s, r and v
abbrev pub salt_key : ℕ
salt_key = 115

abbrev pub nonce_key : ℕ
nonce_key = 114

abbrev pub verifier_key : ℕ
verifier_key = 118

abbrev pub items_in : List ℕ → List (List ℕ)
items_in bytes = slice_split (λ byte. byte == 44) bytes

-- the key and the value of each item
abbrev pub keyed : List (List ℕ) → List (ℕ × List ℕ)
keyed [] = []
keyed ([] ∷ items) = keyed items
keyed ((key ∷ []) ∷ items) = keyed items
keyed ((key ∷ separator ∷ value) ∷ items) = (key, value) ∷ keyed items

-- the bytes that a value is the base64 of, where it is base64
unfoldable pub base64_of : List ℕ → Option (List ℕ)
base64_of value = decoded_of standard value

abbrev pub base64_fault : List ℕ → Option ProtocolFault
base64_fault value = if is_some (base64_of value) then None else Some Base64

-- what is wrong with an item, where the value of one key is base64
abbrev pub item_fault : ℕ → List ℕ → Option ProtocolFault
item_fault base64_key [] = Some ShortSaslItem
item_fault base64_key (key ∷ []) = Some ShortSaslItem
item_fault base64_key (key ∷ separator ∷ value) = if key == base64_key then base64_fault value else None

abbrev pub utf8_fault : List ℕ → Option ProtocolFault
utf8_fault bytes = if is_utf8 bytes then None else Some NotUtf8

-- server-first-message: the first fault of an item, then that of the nonce, then that of the whole
abbrev pub first_message_fault : List ℕ → Option ProtocolFault
first_message_fault bytes =
    option_or (first_fault_of (item_fault salt_key) (items_in bytes)) (option_or (utf8_fault (last plain [] nonce_key (keyed (items_in bytes)))) (utf8_fault bytes))

-- server-final-message
abbrev pub final_message_fault : List ℕ → Option ProtocolFault
final_message_fault bytes = first_fault_of (item_fault verifier_key) (items_in bytes)
