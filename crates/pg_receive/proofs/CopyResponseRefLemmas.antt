-- How the data of a COPY is spelled, borrowed: the codes are read after their count.
use Rattle.std.specs.Prelude.{◌≡◌, ℕ, ◌+◌, ◌*◌, ◌≤◌, ℤ, List, length, drop}
use Rattle.std.proofs.Common.{arith, inr, length-drop}
use Rattle.pg_base.specs.declared.error.ProtocolFault.{ProtocolFault}
use Rattle.pg_format.specs.Format.{IsFaultOf}
use Rattle.pg_format.specs.Format.Lists.{times}
use Rattle.pg_format.specs.Format.Parts.{be_i16}
use Rattle.pg_format.specs.Format.Places.{BreaksAt}
use Rattle.pg_format.specs.Messages.{columns_of, copy_response}
use Rattle.pg_receive.proofs.CopyLemmas.{Counts}

-- codes that can't be read
pub codes_break : (body : List ℕ) (format count : ℤ) (n : ℕ) (fault : ProtocolFault) → Counts body format count → 3 + 2 * columns_of count ≤ length body → n ≡ columns_of count → BreaksAt (times n be_i16) body 3 fault
    → IsFaultOf copy_response body fault
codes_break body format count n fault p holds e q =
    let room : 2 * columns_of count ≤ length (drop 3 body) = omega (arith, holds, length-drop 3 body) in
    let broken : BreaksAt (times (columns_of count) be_i16) body 3 fault = rw e at q in
    inr (record { value = format; mid = p.mid; reads = p.first; breaks = inr (record { value = count; mid = drop 3 body; reads = p.second; breaks = inr (room, broken) }) })
