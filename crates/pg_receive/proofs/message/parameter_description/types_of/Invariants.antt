use Rattle.std.proofs.Common.{◌≡◌, ◌+◌, ◌*◌, ◌≤◌}
use Rattle.smallvec.specs.SmallVec.{small_vec_len}
use Rattle.pg_base.specs.Numbers.{numbers_of}
use Rattle.pg_format.specs.Format.Lists.{times}
use Rattle.pg_format.specs.Format.Parts.{be_u32}
use Rattle.pg_format.specs.Format.Places.{IsReadAt}
use Rattle.pg_receive.proofs.message.parameter_description.types_of.Given as goal

abbrev pub invariant-loop-index : goal.invariant-loop-index
invariant-loop-index l = record {
  counted : small_vec_len l.types ≡ l.index;
  room : l.count ≤ l.types.capacity;
  read : IsReadAt (times l.index be_u32) l.body 2 (numbers_of l.types.items) (2 + 4 * l.index);
}
