-- How a client's state covers where a server is, with what is on its way to it.
use Rattle.std.proofs.Common.{◌≡◌, ◌≤◌, ℕ, suc, ◌+◌, List, [], ◌∷◌, length, Bool, true, false}
use Rattle.std.specs.Prelude.{if◌then◌else◌}
use Rattle.pg_flow.specs.declared.place.Place.{Place}
use Rattle.pg_flow.specs.declared.place.Place.TheVariants.{Asked, Given, Skipping, Start, Withheld}
use Rattle.pg_flow.specs.declared.request.Request.{Request}
use Rattle.pg_flow.specs.declared.request.Request.TheVariants.{Execute, Sync}
use Rattle.pg_flow.specs.ClientFlow.{Client, Copying, Group, Plain}
use Rattle.pg_flow.specs.Plain.{State, given, is_sync, state}
use Rattle.pg_flow.specs.ServerFlow.{Asks, Busy, Ends, Idle, Server, Skips, Up}
use Rattle.pg_flow.proofs.PlainLemmas.{Alone, Tidy, asks, has_end, pushes_up}
use Rattle.pg_flow.proofs.RestLemmas.{rest}

-- where a client knows what the server will say, but for what a COPY decides

abbrev pub plain_of : Server → State
plain_of (Idle quiet) = state [] Start
plain_of Skips = state [] Skipping
plain_of (Busy r place quiet j) = state (r ∷ []) place

abbrev pub Numbered : Server → ℕ → Type 0
Numbered (Busy r place quiet j) count = j + 1 ≡ count
Numbered _ count = Unit {0}

pub record Plain_covers (c : State) (p : List Up) (s : Server) (count : ℕ) : Type 0 where
  pub like : c ≡ pushes_up p (plain_of s)
  pub tidy : Tidy (plain_of s) p
  pub alone : Alone c p
  pub numbered : Numbered s count

-- a server reads the data of a COPY: j Syncs at most are on their way before the end of the data

abbrev pub Reads : List Up → ℕ → List Request → Place → Type 0
Reads [] j rest place = (place ≡ Asked) × (rest ≡ [])
Reads (Asks Sync ∷ p) (suc j) rest place = Reads p j rest place
Reads (Asks _ ∷ p) j rest place = ⊥
Reads (Ends b ∷ p) j rest place = (place ≡ given b Asked) × (asks p ≡ rest) × (has_end p ≡ false)

abbrev pub Copy_at : Place → ℕ → List Request → Place → List Up → Type 0
Copy_at Asked k rest place p = Reads p (suc k) rest place
Copy_at Given k rest place p = (place ≡ Given) × (asks p ≡ rest) × (has_end p ≡ false)
Copy_at Withheld k rest place p = (place ≡ Withheld) × (asks p ≡ rest) × (has_end p ≡ false)
Copy_at _ k rest place p = ⊥

abbrev pub Sync_first : List Request → Type 0
Sync_first [] = Unit {0}
Sync_first (r ∷ rs) = is_sync r ≡ true

pub record Copy_as (q : Place) (k : ℕ) (rest : List Request) (place : Place) (p : List Up) (i n count : ℕ) : Type 0 where
  pub reads : Copy_at q k rest place p
  pub numbered : i + (length rest + (k + 2)) ≡ n
  pub before : i + 1 ≤ count
  pub syncs : Sync_first rest

abbrev pub Copy_covers : ℕ → List Request → Place → List Up → Server → ℕ → ℕ → Type 0
Copy_covers k rest place p (Busy Execute q quiet i) n count = Copy_as q k rest place p i n count
Copy_covers k rest place p _ n count = ⊥

-- what is on its way: some Syncs, among them one end of data at most, and what is behind them

abbrev pub lead_up : List Up → ℕ
lead_up [] = 0
lead_up (Asks r ∷ p) = if is_sync r then lead_up p + 1 else 0
lead_up (Ends b ∷ p) = lead_up p

abbrev pub behind_up : List Up → List Request
behind_up [] = []
behind_up (Asks r ∷ p) = if is_sync r then behind_up p else r ∷ asks p
behind_up (Ends b ∷ p) = behind_up p

abbrev pub Neat : List Up → Type 0
Neat [] = Unit {0}
Neat (Asks Sync ∷ p) = Neat p
Neat (Asks _ ∷ p) = has_end p ≡ false
Neat (Ends b ∷ p) = has_end p ≡ false

-- t ReadyForQuery are to come for the group
pub record Awaits (t first l m : ℕ) (rest : List Request) (skips : Bool) (p : List Up) (count : ℕ) : Type 0 where
  pub low : l ≤ t
  pub high : t ≤ l + m + 1
  pub same : behind_up p ≡ rest
  pub neat : Neat p
  pub from : first ≤ count
  pub quiet : skips ≡ true → rest ≡ []

pub record Rest_is (l : ℕ) (rest : List Request) (r : Request) (p : List Up) (i count : ℕ) : Type 0 where
  pub none : l ≡ 0
  pub same : rest ≡ r ∷ asks p
  pub neat : has_end p ≡ false
  pub numbered : i + 1 ≡ count

abbrev pub Group_busy : Bool → Place → Bool → ℕ → ℕ → ℕ → List Request → Bool → Request → List Up → ℕ → ℕ → Type 0
Group_busy true Start true first l m rest skips r p i count = Awaits (lead_up p + 1) first l m rest skips p i × (i + 1 ≡ count)
Group_busy false Start quiet first l m rest skips r p i count = Rest_is l rest r p i count
Group_busy _ _ _ first l m rest skips r p i count = ⊥

abbrev pub Group_covers : ℕ → ℕ → ℕ → List Request → Bool → List Up → Server → ℕ → Type 0
Group_covers first l m rest skips p (Idle true) count = Awaits (lead_up p) first l m rest skips p count
Group_covers first l m rest skips p (Idle false) count = ⊥
Group_covers first l m rest skips p Skips count = Awaits (lead_up p) first l m rest skips p count × (skips ≡ false → 1 ≤ lead_up p)
Group_covers first l m rest skips p (Busy r place quiet i) count = Group_busy (is_sync r) place quiet first l m rest skips r p i count

-- The client's state covers where the server is, with p on its way to it.
abbrev pub Covers : Client → List Up → Server → ℕ → ℕ → Type 0
Covers (Plain c) p s n count = Plain_covers c p s count
Covers (Copying k rest place) p s n count = Copy_covers k rest place p s n count
Covers (Group first l m rest skips) p s n count = Group_covers first l m rest skips p s count
