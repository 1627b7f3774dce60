-- What may be done while an answer has come so far.
use Rattle.pg_flow.specs.declared.mode.Mode.TheVariants as modes
use Rattle.pg_flow.specs.declared.mode.Mode.{Mode}
use Rattle.pg_flow.specs.declared.place.Place.{Place}
use Rattle.pg_flow.specs.declared.place.Place.TheVariants.{Asked, Both, BothIn, BothOut, Out}

abbrev pub mode_in : Place → Mode
mode_in Asked = modes.CopyIn
mode_in Out = modes.CopyOut
mode_in Both = modes.CopyBoth
mode_in BothIn = modes.CopyIn
mode_in BothOut = modes.CopyOut
mode_in _ = modes.Busy
