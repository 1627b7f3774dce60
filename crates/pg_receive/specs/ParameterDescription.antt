-- ParameterDescription: where no memory is asked for.
use Rattle.std.specs.Prelude.{ℕ, List}
use Rattle.smallvec.specs.SmallVec.{SmallVec}
use Rattle.pg_base.specs.declared.io.Oid.{Oid}
use Rattle.pg_base.specs.Numbers.{numbers_of}
use Rattle.pg_receive.specs.CountedItems.{ItemsNeedNoMemory}

-- how many types have room in place
abbrev pub types_in_place : ℕ
types_in_place = 6

abbrev pub TypesNeedsNoMemory : List ℕ → Type 0
TypesNeedsNoMemory body = ItemsNeedNoMemory 4 types_in_place body

-- the numbers of the types
abbrev pub types_shown : SmallVec Oid → List ℕ
types_shown types = numbers_of types.items
