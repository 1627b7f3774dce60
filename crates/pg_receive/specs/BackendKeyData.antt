-- The values of a BackendKeyData.
use Rattle.pg_format.specs.Messages.{BackendKey, Cancel}
use Rattle.pg_receive.specs.declared.message.backend_key_data.BackendKeyData.{BackendKeyData}
use Rattle.pg_receive.specs.declared.message.backend_key_data.RawKeyData.{RawKeyData}

-- the key that a value of the type is
abbrev pub key_shown : BackendKeyData → BackendKey
key_shown key = record { process_id = key.process_id; secret_key = key.secret_key }

-- the same of a key of 4 to 256 bytes: the session and the key are those of the request to cancel
abbrev pub raw_key : RawKeyData → Cancel
raw_key key = record { process_id = key.process_id; secret_key = key.secret_key.now }
