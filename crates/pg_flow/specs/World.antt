-- A client and a server, and what is on its way between them.
use Rattle.std.specs.Prelude.{ℕ, ◌+◌, Bool, true, List, [], ◌∷◌, ◌++◌, Option, Some, None, if◌then◌else◌, nat_le}
use Rattle.pg_flow.specs.declared.answer.Answer.{Answer}
use Rattle.pg_flow.specs.declared.place.Place.TheVariants.{Start}
use Rattle.pg_flow.specs.declared.request.Request.{Request}
use Rattle.pg_flow.specs.ClientFlow.{Client, Plain, end_data, hear, highest, lowest, say}
use Rattle.pg_flow.specs.Plain.{opens_data, state}
use Rattle.pg_flow.specs.ServerFlow.{Asks, Ends, Idle, Server, Up, counted, number_of, take, tell}

-- an answer, and the number of the request that the server gave it to
pub data Told : Type 0 where
  Told_as : Answer → ℕ → Told

pub data Outcome : Type 0 where
  Fine : Outcome
  Behind_copy : Outcome  -- the client had said more behind a COPY that asks for data
  Disagreed : Outcome

-- what may happen next
pub data Choice : Type 0 where
  Says : Request → Choice
  Ends_data : (is_whole : Bool) → Choice
  Takes : Choice
  Answers : Answer → Choice
  Hears : Choice

pub record World : Type 0 where
  pub client : Client
  pub said_count : ℕ  -- how many requests the client said
  pub server : Server
  pub taken_count : ℕ  -- how many requests the server took
  pub up : List Up
  pub down : List Told
  pub outcome : Outcome

abbrev pub world : Client → ℕ → Server → ℕ → List Up → List Told → World
world c n s k up down = record { client = c; said_count = n; server = s; taken_count = k; up = up; down = down; outcome = Fine }

abbrev pub ends_with : World → Outcome → World
ends_with w o = record { client = w.client; said_count = w.said_count; server = w.server; taken_count = w.taken_count; up = w.up; down = w.down; outcome = o }

abbrev pub says_next : World → Request → Option Client → World
says_next w r None = w
says_next w r (Some c) = world c (w.said_count + 1) w.server w.taken_count (w.up ++ Asks r ∷ []) w.down

abbrev pub ends_next : World → Bool → Option Client → World
ends_next w b None = w
ends_next w b (Some c) = world c w.said_count w.server w.taken_count (w.up ++ Ends b ∷ []) w.down

abbrev pub takes_it : World → Up → List Up → Option Server → World
takes_it w u up None = w
takes_it w u up (Some s) = world w.client w.said_count s (counted u w.taken_count) up w.down

abbrev pub takes_next : World → List Up → World
takes_next w [] = w
takes_next w (u ∷ up) = takes_it w u up (take u w.server w.taken_count)

abbrev pub tells_next : World → Answer → Option Server → World
tells_next w m None = w
tells_next w m (Some s) = world w.client w.said_count s w.taken_count w.up (w.down ++ Told_as m (number_of w.server) ∷ [])

abbrev pub hears_it : World → List Told → Answer → ℕ → Option Client → World
hears_it w down m j None = ends_with w (if opens_data m then Behind_copy else Disagreed)
hears_it w down m j (Some c) =
    if nat_le (lowest w.said_count m w.client) j
    then (if nat_le j (highest w.said_count m w.client) then world c w.said_count w.server w.taken_count w.up down else ends_with w Disagreed)
    else ends_with w Disagreed

abbrev pub hears_next : World → List Told → World
hears_next w [] = w
hears_next w (Told_as m j ∷ down) = hears_it w down m j (hear w.said_count m w.client)

abbrev pub picked : Choice → World → World
picked (Says r) w = says_next w r (say r w.client)
picked (Ends_data b) w = ends_next w b (end_data b w.client)
picked Takes w = takes_next w w.up
picked (Answers m) w = tells_next w m (tell m w.server)
picked Hears w = hears_next w w.down

-- nothing happens any more once the client has refused something
abbrev pub while_agreed : Outcome → World → World → World
while_agreed Fine next w = next
while_agreed _ next w = w

abbrev pub schedule : List Choice → World → World
schedule [] w = w
schedule (c ∷ cs) w = schedule cs (while_agreed w.outcome (picked c w) w)

abbrev pub at_first : World
at_first = world (Plain (state [] Start)) 0 (Idle true) 0 [] []
