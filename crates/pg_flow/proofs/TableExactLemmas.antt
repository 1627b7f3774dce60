-- The table takes all that the grammar allows: what may follow a message, computed from the pattern of a place, is the pattern of
-- the place where it leads.
use Rattle.std.proofs.Common.{◌≡◌, List, [], ◌++◌, refl, ap, ◌∙◌, append_assoc, Bool, true, false}
use Rattle.pg_flow.specs.declared.answer.Answer.{Answer}
use Rattle.pg_flow.specs.declared.answer.Answer.TheVariants.{CommandComplete, CopyBoth, CopyIn, CopyOut, Failure, Ready, RowDescription}
use Rattle.pg_flow.specs.declared.place.Place.{Place}
use Rattle.pg_flow.specs.declared.place.Place.TheVariants.{Asked, Both, BothDone, BothOut, Failed, Given, Out, OutDone, Over, Parameters, Rows, Start, Value}
use Rattle.pg_flow.specs.declared.request.Request.{Request}
use Rattle.pg_flow.specs.declared.request.Request.TheVariants.{Bind, Call, Close, DescribePortal, DescribeStatement, Execute, Parse, Query, Sync}
use Rattle.pg_flow.specs.declared.table.Next.{Next}
use Rattle.pg_flow.specs.declared.table.Next.TheVariants.{At, Done, Wrong}
use Rattle.pg_flow.specs.Answered.{Choose}
use Rattle.pg_flow.specs.Grammar.{broken, copy_out, failed, sets_end, statement}
use Rattle.pg_flow.specs.Pattern.{Either, Is, Many, Matches, Pattern, Then}
use Rattle.pg_flow.specs.Plain.{ends_ready}
use Rattle.pg_flow.specs.Table.{next_of}
use Rattle.pg_flow.proofs.DeriveLemmas.{derived, nullable}
use Rattle.pg_flow.proofs.PatternLemmas.{both}
use Rattle.pg_flow.proofs.RestLemmas.{cut, data_end, rest, row_sets}

-- the places that an answer to the request can come to, where the client ends the data of a COPY as soon as they are asked for
abbrev pub over_rows : Request → Bool
over_rows Query = true
over_rows Execute = true
over_rows _ = false

abbrev pub over_statements : Request → Bool
over_statements Query = true
over_statements _ = false

abbrev pub over_parameters : Request → Bool
over_parameters DescribeStatement = true
over_parameters _ = false

abbrev pub over_value : Request → Bool
over_value Call = true
over_value _ = false

abbrev pub usual : Place → Request → Bool
usual Start r = true
usual Over r = over_statements r
usual Rows r = over_rows r
usual Out r = over_rows r
usual OutDone r = over_rows r
usual Given r = over_rows r
usual BothOut r = over_statements r
usual BothDone r = over_statements r
usual Parameters r = over_parameters r
usual Value r = over_value r
usual Failed r = ends_ready r
usual _ r = false

-- where an answer leads is where the pattern does
abbrev pub Leads_to : Request → Place → Answer → Next → Type 0
Leads_to r place m (At p) =
    ((w : List Answer) → Matches (derived m (rest place r)) w → Matches (rest p r) w)
    × Choose (ends_ready r) (Unit {0}) ((w : List Answer) → Matches (derived m (cut place r)) w → Matches (cut p r) w) × (usual p r ≡ true)
Leads_to r place m Done =
    ((w : List Answer) → Matches (derived m (rest place r)) w → w ≡ []) × Choose (ends_ready r) (Unit {0}) ((w : List Answer) → Matches (derived m (cut place r)) w → ⊥) × (true ≡ true)
Leads_to r place m Wrong =
    ((w : List Answer) → Matches (derived m (rest place r)) w → ⊥) × Choose (ends_ready r) (Unit {0}) ((w : List Answer) → Matches (derived m (cut place r)) w → ⊥) × (true ≡ true)

-- where the client then ends the data of a COPY
abbrev pub soon : Next → Next
soon (At Asked) = At Given
soon (At Both) = At BothOut
soon next = next

-- an error is looked at apart
abbrev pub Exact : Request → Place → Answer → Type 0
Exact r place Failure = Unit {0}
Exact r place m = Leads_to r place m (soon (next_of r place m))

query_start : (m : Answer) → Exact Query Start m
query_start Failure = tt
query_start _ = ((λ w h. h), tt, refl)

regroup : (x y z : Pattern) (w : List Answer) → Matches (Then (Then x y) z) w → Matches (Then x (Then y z)) w
regroup x y z w (a, b, e, (c, d, f, h, k), l) = (c, d ++ b, e ∙ ap (λ (v : List Answer). v ++ b) f ∙ append_assoc c d b, h, (d, b, refl, k, l))

query_over : (m : Answer) → Exact Query Over m
query_over Failure = tt
query_over RowDescription = ((λ w h. both (regroup (Then row_sets (Is CommandComplete)) (Many statement) (Either (Is Ready) (Then broken failed)) w) (λ k. k) h), tt, refl)
query_over CopyIn = ((λ w h. both (regroup (Is CommandComplete) (Many statement) (Either (Is Ready) (Then broken failed)) w) (λ k. k) h), tt, refl)
query_over CopyBoth = ((λ w h. both (regroup (Then data_end sets_end) (Many statement) (Either (Is Ready) (Then broken failed)) w) (λ k. k) h), tt, refl)
query_over CopyOut = ((λ w h. both (regroup (Then (Then data_end (Many copy_out)) sets_end) (Many statement) (Either (Is Ready) (Then broken failed)) w) (λ k. k) h), tt, refl)
query_over _ = ((λ w h. h), tt, refl)

query_rows : (m : Answer) → Exact Query Rows m
query_rows Failure = tt
query_rows _ = ((λ w h. h), tt, refl)

query_out : (m : Answer) → Exact Query Out m
query_out Failure = tt
query_out _ = ((λ w h. h), tt, refl)

query_out_done : (m : Answer) → Exact Query OutDone m
query_out_done Failure = tt
query_out_done _ = ((λ w h. h), tt, refl)

query_given : (m : Answer) → Exact Query Given m
query_given Failure = tt
query_given _ = ((λ w h. h), tt, refl)

query_both_out : (m : Answer) → Exact Query BothOut m
query_both_out Failure = tt
query_both_out _ = ((λ w h. h), tt, refl)

query_both_done : (m : Answer) → Exact Query BothDone m
query_both_done Failure = tt
query_both_done _ = ((λ w h. h), tt, refl)

query_failed : (m : Answer) → Exact Query Failed m
query_failed Failure = tt
query_failed _ = ((λ w h. h), tt, refl)

call_start : (m : Answer) → Exact Call Start m
call_start Failure = tt
call_start _ = ((λ w h. h), tt, refl)

call_value : (m : Answer) → Exact Call Value m
call_value Failure = tt
call_value _ = ((λ w h. h), tt, refl)

call_failed : (m : Answer) → Exact Call Failed m
call_failed Failure = tt
call_failed _ = ((λ w h. h), tt, refl)

sync_start : (m : Answer) → Exact Sync Start m
sync_start Failure = tt
sync_start _ = ((λ w h. h), tt, refl)

sync_failed : (m : Answer) → Exact Sync Failed m
sync_failed Failure = tt
sync_failed _ = ((λ w h. h), tt, refl)

parse_start : (m : Answer) → Exact Parse Start m
parse_start Failure = tt
parse_start _ = ((λ w h. h), (λ w h. h), refl)

bind_start : (m : Answer) → Exact Bind Start m
bind_start Failure = tt
bind_start _ = ((λ w h. h), (λ w h. h), refl)

close_start : (m : Answer) → Exact Close Start m
close_start Failure = tt
close_start _ = ((λ w h. h), (λ w h. h), refl)

portal_start : (m : Answer) → Exact DescribePortal Start m
portal_start Failure = tt
portal_start _ = ((λ w h. h), (λ w h. h), refl)

statement_start : (m : Answer) → Exact DescribeStatement Start m
statement_start Failure = tt
statement_start _ = ((λ w h. h), (λ w h. h), refl)

statement_parameters : (m : Answer) → Exact DescribeStatement Parameters m
statement_parameters Failure = tt
statement_parameters _ = ((λ w h. h), (λ w h. h), refl)

execute_start : (m : Answer) → Exact Execute Start m
execute_start Failure = tt
execute_start _ = ((λ w h. h), (λ w h. h), refl)

execute_rows : (m : Answer) → Exact Execute Rows m
execute_rows Failure = tt
execute_rows _ = ((λ w h. h), (λ w h. h), refl)

execute_out : (m : Answer) → Exact Execute Out m
execute_out Failure = tt
execute_out _ = ((λ w h. h), (λ w h. h), refl)

execute_out_done : (m : Answer) → Exact Execute OutDone m
execute_out_done Failure = tt
execute_out_done _ = ((λ w h. h), (λ w h. h), refl)

execute_given : (m : Answer) → Exact Execute Given m
execute_given Failure = tt
execute_given _ = ((λ w h. h), (λ w h. h), refl)

impossible : {A : Type 0} → false ≡ true → A
impossible e = cc

pub exact : (r : Request) (place : Place) → usual place r ≡ true → (m : Answer) → Exact r place m
exact Query Start e m = query_start m
exact Query Over e m = query_over m
exact Query Rows e m = query_rows m
exact Query Out e m = query_out m
exact Query OutDone e m = query_out_done m
exact Query Given e m = query_given m
exact Query BothOut e m = query_both_out m
exact Query BothDone e m = query_both_done m
exact Query Failed e m = query_failed m
exact Call Start e m = call_start m
exact Call Value e m = call_value m
exact Call Failed e m = call_failed m
exact Sync Start e m = sync_start m
exact Sync Failed e m = sync_failed m
exact Parse Start e m = parse_start m
exact Bind Start e m = bind_start m
exact Close Start e m = close_start m
exact DescribePortal Start e m = portal_start m
exact DescribeStatement Start e m = statement_start m
exact DescribeStatement Parameters e m = statement_parameters m
exact Execute Start e m = execute_start m
exact Execute Rows e m = execute_rows m
exact Execute Out e m = execute_out m
exact Execute OutDone e m = execute_out_done m
exact Execute Given e m = execute_given m
exact _ _ e m = impossible e

-- an error: of what ends in ReadyForQuery that is left, and nothing once one came; of the others nothing
abbrev pub Fails_to : Bool → Request → Place → Type 0
Fails_to true r Failed = (w : List Answer) → Matches (derived Failure (rest Failed r)) w → ⊥
Fails_to true r place = (w : List Answer) → Matches (derived Failure (rest place r)) w → Matches (Is Ready) w
Fails_to false r place =
    ((w : List Answer) → Matches (derived Failure (rest place r)) w → ⊥) × ((w : List Answer) → Matches (derived Failure (Then (cut place r) (Is Failure))) w → w ≡ [])

pub fails_to : (r : Request) (place : Place) → usual place r ≡ true → Fails_to (ends_ready r) r place
fails_to Query Start e = λ w h. h
fails_to Query Over e = λ w h. h
fails_to Query Rows e = λ w h. h
fails_to Query Out e = λ w h. h
fails_to Query OutDone e = λ w h. h
fails_to Query Given e = λ w h. h
fails_to Query BothOut e = λ w h. h
fails_to Query BothDone e = λ w h. h
fails_to Query Failed e = λ w h. h
fails_to Call Start e = λ w h. h
fails_to Call Value e = λ w h. h
fails_to Call Failed e = λ w h. h
fails_to Sync Start e = λ w h. h
fails_to Sync Failed e = λ w h. h
fails_to Parse Start e = ((λ w h. h), (λ w h. h))
fails_to Bind Start e = ((λ w h. h), (λ w h. h))
fails_to Close Start e = ((λ w h. h), (λ w h. h))
fails_to DescribePortal Start e = ((λ w h. h), (λ w h. h))
fails_to DescribeStatement Start e = ((λ w h. h), (λ w h. h))
fails_to DescribeStatement Parameters e = ((λ w h. h), (λ w h. h))
fails_to Execute Start e = ((λ w h. h), (λ w h. h))
fails_to Execute Rows e = ((λ w h. h), (λ w h. h))
fails_to Execute Out e = ((λ w h. h), (λ w h. h))
fails_to Execute OutDone e = ((λ w h. h), (λ w h. h))
fails_to Execute Given e = ((λ w h. h), (λ w h. h))
fails_to _ _ e = impossible e

pub not_over : (r : Request) (place : Place) → usual place r ≡ true → nullable (rest place r) ≡ false
not_over Query Start e = refl
not_over Query Over e = refl
not_over Query Rows e = refl
not_over Query Out e = refl
not_over Query OutDone e = refl
not_over Query Given e = refl
not_over Query BothOut e = refl
not_over Query BothDone e = refl
not_over Query Failed e = refl
not_over Call Start e = refl
not_over Call Value e = refl
not_over Call Failed e = refl
not_over Sync Start e = refl
not_over Sync Failed e = refl
not_over Parse Start e = refl
not_over Bind Start e = refl
not_over Close Start e = refl
not_over DescribePortal Start e = refl
not_over DescribeStatement Start e = refl
not_over DescribeStatement Parameters e = refl
not_over Execute Start e = refl
not_over Execute Rows e = refl
not_over Execute Out e = refl
not_over Execute OutDone e = refl
not_over Execute Given e = refl
not_over _ _ e = impossible e
