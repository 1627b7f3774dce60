-- What a C program reads of a notification, a setting, a key, a command and a status.
use Rattle.std.specs.Prelude.{◌≡◌, ℕ, ℤ, pos, List, Some}
use Rattle.pg_format.specs.Format.{Means}
use Rattle.pg_format.specs.Messages.{Cancel, Notification, notification, Setting, Status, status_letter, ready_for_query, backend_key}
use Rattle.pg_receive.specs.CommandComplete.{row_count, tag_text}
use Rattle.pg_receive.specs.ParameterStatus.{raw_parameter_status}
use Rattle.pg_c.specs.Place.{part}
use Rattle.pg_c.specs.declared.read.status.PgmsgCommand.{PgmsgCommand}
use Rattle.pg_c.specs.declared.read.status.PgmsgKeyData.{PgmsgKeyData}
use Rattle.pg_c.specs.declared.read.status.PgmsgNotification.{PgmsgNotification}
use Rattle.pg_c.specs.declared.read.status.PgmsgParameterStatus.{PgmsgParameterStatus}

-- the body means a notification, and this is it
pub record ReadsNotification (body : List ℕ) (read : PgmsgNotification) : Type 0 where
  pub value : Notification
  pub means : Means notification body value
  pub process_id : read.process_id ≡ value.process_id
  pub channel : part body read.channel ≡ Some value.channel
  pub payload : part body read.payload ≡ Some value.payload

-- the body means a setting of any bytes, and this is it
pub record ReadsSetting (body : List ℕ) (status : PgmsgParameterStatus) : Type 0 where
  pub setting : Setting
  pub means : Means raw_parameter_status body setting
  pub name : part body status.name ≡ Some setting.name
  pub value : part body status.value ≡ Some setting.value

-- the body means a session with a key, and this is it
pub record ReadsKey (body : List ℕ) (read : PgmsgKeyData) : Type 0 where
  pub key : Cancel
  pub means : Means backend_key body key
  pub process_id : read.process_id ≡ key.process_id
  pub secret_key : part body read.secret_key ≡ Some key.secret_key

-- the body means the text of a tag, and this is it, with its rows
pub record ReadsCommand (body : List ℕ) (read : PgmsgCommand) : Type 0 where
  pub text : List ℕ
  pub means : Means tag_text body text
  pub place : part body read.tag ≡ Some text
  pub rows : read.rows ≡ row_count text

-- the letter of the status that the body means, as a number
pub record IsStatusLetter (body : List ℕ) (result : ℤ) : Type 0 where
  pub status : Status
  pub means : Means ready_for_query body status
  pub letter : result ≡ pos (status_letter status)
