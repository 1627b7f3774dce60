-- How a reader takes bytes apart: of these bytes, this value, and that rest. Documentation: "Message
-- Data Types".
use Rattle.std.specs.Prelude.{◌≡◌, ◌≢◌, ◌≤◌, ◌+◌, ◌⊎◌, ℕ, zero, suc, ℤ, pos, negsuc, List, [], ◌∷◌, ◌++◌, length, take, drop, codes}
use Rattle.pg_base.specs.Atoi.{AreDigits, decimal_value}
use Rattle.pg_base.specs.Id.{max_id}
use Rattle.pg_base.specs.Numbers.{num, int}

-- so many bytes of a body, from an offset on
abbrev pub IsPartAt : List ℕ → ℕ → ℕ → List ℕ → Type 0
IsPartAt body at count part = (at + count ≤ length body) × (part ≡ take count (drop at body))

-- a number of so many bytes
pub record Number (width : ℕ) (bytes : List ℕ) (n : ℕ) (rest : List ℕ) : Type 0 where
  pub spelled : List ℕ
  pub wide : length spelled ≡ width
  pub is : n ≡ num spelled
  pub parts : bytes ≡ spelled ++ rest

-- a signed number of so many bytes
pub record Signed (width : ℕ) (bytes : List ℕ) (z : ℤ) (rest : List ℕ) : Type 0 where
  pub spelled : List ℕ
  pub wide : length spelled ≡ width
  pub is : z ≡ int spelled
  pub parts : bytes ≡ spelled ++ rest

-- the byte stands nowhere among these
abbrev pub HoldsNo : ℕ → List ℕ → Type 0
HoldsNo byte [] = Unit {0}
HoldsNo byte (b ∷ bs) = (b ≢ byte) × HoldsNo byte bs

-- a text, which the first 0 ends
pub record Text (bytes text rest : List ℕ) : Type 0 where
  pub clean : HoldsNo 0 text
  pub parts : bytes ≡ text ++ 0 ∷ rest

-- the first of these is that byte
abbrev pub BeginsWith : ℕ → List ℕ → Type 0
BeginsWith byte [] = ⊥
BeginsWith byte (b ∷ bs) = b ≡ byte

-- a text that names an id: nothing names 0, and the prefix and the digits of a number name it
pub record NamesId (prefix text : List ℕ) (id : ℕ) : Type 0 where
  pub digits : List ℕ
  pub are_digits : AreDigits digits
  pub no_leading_zero : BeginsWith 48 digits → ⊥
  pub is : id ≡ decimal_value digits
  pub low : 1 ≤ id
  pub high : id ≤ max_id
  pub parts : text ≡ prefix ++ digits

abbrev pub Id : List ℕ → List ℕ → ℕ → Type 0
Id prefix text id = ((text ≡ []) × (id ≡ 0)) ⊎ NamesId prefix text id

-- a text that names a prepared statement, and one that names a portal
abbrev pub StatementName : List ℕ → ℕ → Type 0
StatementName text id = Id (codes "sqlx_s_") text id

abbrev pub PortalName : List ℕ → ℕ → Type 0
PortalName text id = Id (codes "sqlx_p_") text id

-- numbers of so many bytes each, one after the other
abbrev pub Numbers : ℕ → List ℕ → List ℕ → List ℕ → Type 0
Numbers width bytes [] rest = rest ≡ bytes
Numbers width bytes (n ∷ ns) rest = (more : List ℕ) × Number width bytes n more × Numbers width more ns rest

-- the same after their count in two bytes
pub record Counted (width : ℕ) (bytes ns rest : List ℕ) : Type 0 where
  pub after : List ℕ
  pub count : Number 2 bytes (length ns) after
  pub numbers : Numbers width after ns rest

-- a parameter's value: a length in four bytes and that many bytes, or -1 and none
pub record Value (bytes rest : List ℕ) : Type 0 where
  pub field : List ℕ
  pub value : List ℕ
  pub wide : length field ≡ 4
  pub counts : ((int field ≡ negsuc 0) × (value ≡ [])) ⊎ (int field ≡ pos (length value))
  pub parts : bytes ≡ field ++ value ++ rest

-- so many values, one after the other
abbrev pub Values : ℕ → List ℕ → List ℕ → Type 0
Values zero bytes rest = rest ≡ bytes
Values (suc k) bytes rest = (more : List ℕ) × Value bytes more × Values k more rest
