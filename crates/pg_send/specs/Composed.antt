-- A message that is made of parts.
use Rattle.std.specs.Prelude.{◌≡◌, ◌≤◌, length, Option, None}
use Rattle.std.proofs.Common.{ℕ, arith}
use Rattle.pg_base.specs.declared.error.ProtocolFault.{ProtocolFault}
use Rattle.pg_base.specs.Part.{PartLaw, saturated}
use Rattle.pg_base.specs.Tagged.{first_fault, IsSame}
use Rattle.pg_send.specs.FrontendMessage.{Law, part_of, hint, ReservesEnough}

-- the parts are the body, and break the limits on counts that the message breaks
abbrev pub IsBodyOf : PartLaw → Law → Type 0
IsBodyOf part law = IsSame part (part_of law)

-- a body within the limits is shorter than what a `usize` holds
fits_snugly : (counts : Option ProtocolFault) (len : ℕ) → first_fault counts len ≡ None → len ≤ saturated len
fits_snugly counts len h = grind arith

pub snug_is_enough : (law : Law) → hint law ≡ saturated (length law.body) → ReservesEnough law
snug_is_enough law snug fits = omega (arith, snug, fits_snugly law.count_fault (length law.body) fits)
