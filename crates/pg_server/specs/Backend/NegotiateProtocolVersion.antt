-- NegotiateProtocolVersion: a version, and names of options. Documentation: "Message Formats",
-- NegotiateProtocolVersion (B).
use Rattle.std.specs.Prelude.{ℕ, List, ◌++◌, length}
use Rattle.std.specs.List.{flat_map, list_any}
use Rattle.pg_base.specs.Numbers.{be32}
use Rattle.pg_base.specs.Part.{PartLaw}
use Rattle.pg_format.specs.Format.Parts.{until_nul}
use Rattle.pg_server.specs.Backend.OutboundItem.{holds_nul, nul_fault}

-- the names after their count
abbrev pub options_part : List (List ℕ) → PartLaw
options_part names = record {
  text = be32 (length names) ++ flat_map until_nul.Writes names;
  fault = nul_fault (list_any holds_nul names);
  IsInRange = Unit {0};
}
