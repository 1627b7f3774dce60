-- A position as its number and query.
use Rattle.pg_receive.specs.declared.database_error.PgErrorPosition.{PgErrorPosition}
use Rattle.pg_receive.specs.declared.database_error.PgErrorPosition.TheVariants as positions
use Rattle.pg_receive.specs.DatabaseError.{ErrorPosition, original, internal}

abbrev pub position_shown : PgErrorPosition → ErrorPosition
position_shown (positions.Original position) = original position
position_shown (positions.Internal position query) = internal position query.now
