-- Faults that are equal by their `==` are the same.
use Rattle.std.proofs.Common.{◌≡◌, true, false, rules}
use Rattle.pg_server.specs.declared.frontend.error.FrontendFault.{FrontendFault}
use Rattle.pg_server.specs.declared.frontend.error.FrontendFault.TheVariants as faults
use Rattle.pg_server.specs.contracts.frontend.error.FrontendFaultPartialEq.TheImpl as faults-eq

pub same_faults : (a b : FrontendFault) → faults-eq.ghosts.eq a b ≡ true → a ≡ b
same_faults (faults.UnknownTag n) (faults.UnknownTag m) e = search rules
same_faults (faults.UnknownCode n) (faults.UnknownCode m) e = search rules
same_faults (faults.UnknownTarget n) (faults.UnknownTarget m) e = search rules
same_faults (faults.Short k l m) (faults.Short n o p) e = search rules
same_faults (faults.MissingNul n) (faults.MissingNul m) e = search rules
same_faults (faults.ValueLength k l) (faults.ValueLength m n) e = search rules
same_faults (faults.KeyLength n) (faults.KeyLength m) e = search rules
same_faults (faults.TrailingBytes n) (faults.TrailingBytes m) e = search rules
same_faults (faults.BadLength n) (faults.BadLength m) e = search rules
same_faults (faults.FirstTooLong k l) (faults.FirstTooLong m n) e = search rules
same_faults a b e = absurd (let clash : false ≡ true = e in cc)
