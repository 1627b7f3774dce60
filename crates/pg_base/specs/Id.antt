-- The names of prepared statements and portals, and the order in which they are handed out.
use Rattle.std.specs.Prelude.{◌≡◌, ◌≢◌, ℕ, ◌+◌, ◌≤◌, ◌==◌, List, [], ◌++◌, codes, decimal, if◌then◌else◌}
use Rattle.pg_base.specs.Ended.{ended}

-- the greatest id; 0 is the one without a name
abbrev pub max_id : ℕ
max_id = 4294967295

abbrev pub statement_prefix : List ℕ
statement_prefix = codes "sqlx_s_"

abbrev pub portal_prefix : List ℕ
portal_prefix = codes "sqlx_p_"

-- the name of an id: nothing for 0, else the prefix and the number in decimal
abbrev pub name : List ℕ → ℕ → List ℕ
name prefix id = if id == 0 then [] else prefix ++ decimal id

-- no two numbers up to the greatest have one text
abbrev pub AreDistinctUpTo : ℕ → (ℕ → List ℕ) → Type 0
AreDistinctUpTo top text = (a b : ℕ) → a ≤ top → b ≤ top → text a ≡ text b → a ≡ b

-- an id has a name, and this text is the name
abbrev pub IsNameOf : List ℕ → ℕ → List ℕ → Type 0
IsNameOf prefix id text = (id ≢ 0) × (text ≡ name prefix id)

-- the name as a text of a message
abbrev pub named : List ℕ → ℕ → List ℕ
named prefix id = ended (name prefix id)

abbrev pub statement_text : ℕ → List ℕ
statement_text id = named statement_prefix id

abbrev pub portal_text : ℕ → List ℕ
portal_text id = named portal_prefix id

-- the id that is handed out after another
abbrev pub next_id : ℕ → ℕ
next_id id = if id == 0 then 0 else (if id == max_id then 1 else id + 1)
