use Rattle.std.proofs.Common.{◌≡◌, ◌+◌, ◌*◌, vec_len, vec_capacity}
use Rattle.pg_format.specs.Format.Lists.{times}
use Rattle.pg_format.specs.Format.Parts.{be_i16}
use Rattle.pg_format.specs.Format.Places.{IsReadAt}
use Rattle.pg_receive.proofs.message.copy.decode_formats.Given as goal

abbrev pub invariant-loop-index : goal.invariant-loop-index
invariant-loop-index l = record {
  counted : vec_len l.format_codes ≡ l.index;
  room : vec_capacity l.format_codes ≡ l.count;
  read : IsReadAt (times l.index be_i16) l.body 3 l.format_codes.items (3 + 2 * l.index);
}
