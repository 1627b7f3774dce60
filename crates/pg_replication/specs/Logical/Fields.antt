-- The fields of a message whose transaction may be streamed.
use Rattle.std.specs.Prelude.{ℕ, Bool, Option}
use Rattle.pg_format.specs.Format.{Format}
use Rattle.pg_format.specs.Format.Ends.{exactly}
use Rattle.pg_format.specs.Format.Sequences.{◌⨾◌}
use Rattle.pg_format.specs.Logical.{transaction}

-- these fields up to the end, after the number of the transaction where it is streamed
abbrev pub rest_of : {V : Type 0} → Bool → Format V → Format (Option ℕ × V)
rest_of streamed fields = exactly (transaction streamed ⨾ fields)

-- a transaction's number, and what the other fields show
abbrev pub with_transaction : {F V : Type 0} → (F → V) → Option ℕ × F → Option ℕ × V
with_transaction shown fields = (fields.0, shown fields.1)
