-- One part or another.
use Rattle.pg_base.specs.declared.io.part.Either.{Either}
use Rattle.pg_base.specs.declared.io.part.Either.TheVariants.{First, Second}
use Rattle.pg_base.specs.Part.{PartLaw}

abbrev pub either : {A B : Type 0} → (A → PartLaw) → (B → PartLaw) → Either A B → PartLaw
either a b (First part) = a part
either a b (Second part) = b part
