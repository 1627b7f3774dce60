-- A whole body means one value, or has a fault.
use Rattle.std.specs.Prelude.{◌≡◌, ℕ, List, [], length}
use Rattle.pg_base.specs.declared.error.ProtocolFault.{ProtocolFault}
use Rattle.pg_format.specs.Format.{Format, Lawful, Means, IsFaultOf}

pub one_meaning : {A : Type 0} {g : Format A} → Lawful g → (body : List ℕ) (v w : A) → Means g body v → Means g body w → v ≡ w
one_meaning lawful body v w p q = (lawful.one_value body [] [] v w p q).0

pub meaning_or_fault : {A : Type 0} {g : Format A} → Lawful g → (body : List ℕ) (v : A) (fault : ProtocolFault) → Means g body v → IsFaultOf g body fault → ⊥
meaning_or_fault lawful body v fault p q = lawful.never_both (length body) body [] v fault p q
