-- ParameterStatus: where no memory is asked for, and texts in the encoding of the server.
use Rattle.std.specs.Prelude.{ℕ, List, length, string_bytes}
use Rattle.pg_format.specs.Format.{Format, IsBroken}
use Rattle.pg_format.specs.Format.Ends.{loosely}
use Rattle.pg_format.specs.Format.Parts.{until_nul}
use Rattle.pg_format.specs.Format.Sequences.{◌⨾◌, record_of}
use Rattle.pg_format.specs.Messages.{Setting, parameter_status}
use Rattle.pg_receive.specs.declared.message.parameter_status.ParameterStatus.{ParameterStatus}
use Rattle.pg_receive.specs.declared.message.parameter_status.ParameterStatusRef.{ParameterStatusRef}
use Rattle.pg_receive.specs.declared.message.parameter_status.RawParameterStatus.{RawParameterStatus}

-- a body with a fault is refused before a text is copied
abbrev pub SettingNeedsNoMemory : List ℕ → Type 0
SettingNeedsNoMemory body = IsBroken parameter_status (length body) body

-- texts of any bytes
abbrev pub raw_parameter_status : Format Setting
raw_parameter_status = loosely (record_of (λ s. (s.name, s.value)) (until_nul ⨾ until_nul))

-- ---- what is shown of the types

abbrev pub setting_shown : ParameterStatus → Setting
setting_shown status = record { name = string_bytes status.name; value = string_bytes status.value }

abbrev pub setting_borrowed : ParameterStatusRef → Setting
setting_borrowed status = record { name = status.name.now; value = status.value.now }

abbrev pub raw_setting : RawParameterStatus → Setting
raw_setting status = record { name = status.name.now; value = status.value.now }
