-- Columns whose names are any bytes but NUL: their law.
use Rattle.pg_format.specs.Format.{Lawful}
use Rattle.pg_format.specs.Messages.{table, table_number, attribute, attribute_number}
use Rattle.pg_format.proofs.FormatLaws.FromServer.{u32, i16, numbers_take}
use Rattle.pg_format.proofs.FormatLaws.Parts.{lawful_until_nul, lawful_signed}
use Rattle.pg_format.proofs.FormatLaws.Sequences.{◌l⨾◌, lawful_record_of, lawful_mapped}
use Rattle.pg_format.proofs.FormatLaws.Takes.{takes_until_nul, takes_pair, takes_record_of, takes_with_room}
use Rattle.pg_format.proofs.FormatLaws.Tests.{Takes, lawful_with_room}
use Rattle.pg_receive.specs.RowDescription.Raw.{raw_column}

pub lawful_raw_column : Lawful raw_column
lawful_raw_column =
    lawful_record_of _ (λ a b e i. record {
      name = (e i).0;
      relation_id = (e i).1.0;
      relation_attribute_no = (e i).1.1.0;
      data_type_id = (e i).1.1.1.0;
      data_type_size = (e i).1.1.1.1.0;
      type_modifier = (e i).1.1.1.1.1.0;
      format = (e i).1.1.1.1.1.1;
    })
    (lawful_until_nul
    l⨾ lawful_with_room 18 numbers_take (lawful_mapped table table_number u32 l⨾ lawful_mapped attribute attribute_number i16 l⨾ u32 l⨾ i16 l⨾ lawful_signed 4 tt l⨾ i16))

pub raw_column_takes : Takes 19 raw_column
raw_column_takes = takes_record_of 19 _ (takes_pair 1 18 takes_until_nul (takes_with_room 18 18 numbers_take))
