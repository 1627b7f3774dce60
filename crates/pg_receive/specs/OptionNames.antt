-- The names of options that a server doesn't know.
use Rattle.std.specs.Prelude.{ℕ, List}
use Rattle.pg_format.specs.Listed.{values_in}
use Rattle.pg_format.proofs.FormatLaws.Parts.{total_until_nul}
use Rattle.pg_receive.specs.declared.message.option_names.OptionNames.{OptionNames}

abbrev pub option_names : OptionNames → List (List ℕ)
option_names names = values_in total_until_nul names.left names.bytes.now
