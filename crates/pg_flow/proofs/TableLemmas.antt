-- Each step of the table leads along the grammar: what is left at the place where a message leads is what may follow the message,
-- computed from the pattern of the place that it comes to.
use Rattle.std.proofs.Common.{◌≡◌, List, [], ◌++◌, refl, sym, ap, ◌∙◌, append_assoc}
use Rattle.pg_flow.specs.declared.answer.Answer.{Answer}
use Rattle.pg_flow.specs.declared.answer.Answer.TheVariants.{CommandComplete, CopyBoth, CopyIn, CopyOut, Failure, Ready, RowDescription}
use Rattle.pg_flow.specs.declared.place.Place.{Place}
use Rattle.pg_flow.specs.declared.place.Place.TheVariants.{Both, BothDone, BothOut, Failed, Given, Out, OutDone, Over, Parameters, Rows, Start, Value}
use Rattle.pg_flow.specs.declared.request.Request.{Request}
use Rattle.pg_flow.specs.declared.request.Request.TheVariants.{Bind, Call, Close, DescribePortal, DescribeStatement, Execute, Parse, Query, Sync}
use Rattle.pg_flow.specs.declared.table.Next.{Next}
use Rattle.pg_flow.specs.declared.table.Next.TheVariants.{At, Done, Wrong}
use Rattle.pg_flow.specs.Answered.{Choose}
use Rattle.pg_flow.specs.Grammar.{broken, copy_out, failed, sets_end, statement}
use Rattle.pg_flow.specs.Pattern.{Either, Is, Many, Matches, Pattern, Then}
use Rattle.pg_flow.specs.Plain.{ends_ready}
use Rattle.pg_flow.specs.Table.{next_of}
use Rattle.pg_flow.proofs.DeriveLemmas.{derived}
use Rattle.pg_flow.proofs.PatternLemmas.{both}
use Rattle.pg_flow.proofs.RestLemmas.{both_cut, copies_cut, cut, data_end, rest, row_sets}

-- the step from a place is along the grammar, of an answer that is whole and of one that fails
abbrev pub Follows : Request → Place → Answer → Next → Type 0
Follows r place m (At p) =
    ((w : List Answer) → Matches (rest p r) w → Matches (derived m (rest place r)) w)
    × Choose (ends_ready r) (Unit {0}) ((w : List Answer) → Matches (cut p r) w → Matches (derived m (cut place r)) w)
Follows r place m Done =
    ((w : List Answer) → w ≡ [] → Matches (derived m (rest place r)) w) × Choose (ends_ready r) (Unit {0}) ((w : List Answer) → ⊥ → Matches (derived m (cut place r)) w)
Follows r place m Wrong =
    ((w : List Answer) → ⊥ → Matches (derived m (rest place r)) w) × Choose (ends_ready r) (Unit {0}) ((w : List Answer) → ⊥ → Matches (derived m (cut place r)) w)

-- a Query

from_statement : (m : Answer) → Follows Query Start m (next_of Query Start m)
from_statement Failure = ((λ w h. absurd h), tt)
from_statement _ = ((λ w h. h), tt)

regroup : (x y z : Pattern) (w : List Answer) → Matches (Then x (Then y z)) w → Matches (Then (Then x y) z) w
regroup x y z w (a, b, e, h, (c, d, f, k, l)) = (a ++ c, d, e ∙ ap (λ (v : List Answer). a ++ v) f ∙ sym (append_assoc a c d), (a, c, refl, h, k), l)

over_by : (x y : Pattern) (w : List Answer) → Matches (Either (Then x (Then (Many statement) (Either (Is Ready) (Then broken failed)))) y) w →
    Matches (Either (Then (Then x (Many statement)) (Either (Is Ready) (Then broken failed))) y) w
over_by x y w h = both (regroup x (Many statement) (Either (Is Ready) (Then broken failed)) w) (λ k. k) h

from_over : (m : Answer) → Follows Query Over m (next_of Query Over m)
from_over Failure = ((λ w h. absurd h), tt)
from_over RowDescription = (over_by (Then row_sets (Is CommandComplete)) (Then row_sets failed), tt)
from_over CopyOut = (over_by (Then (Then data_end (Many copy_out)) sets_end) (Then copies_cut failed), tt)
from_over CopyIn = (over_by (Is CommandComplete) failed, tt)
from_over CopyBoth = (over_by (Then data_end sets_end) (Then both_cut failed), tt)
from_over _ = ((λ w h. h), tt)

from_rows : (m : Answer) → Follows Query Rows m (next_of Query Rows m)
from_rows Failure = ((λ w h. absurd h), tt)
from_rows _ = ((λ w h. h), tt)

from_out : (m : Answer) → Follows Query Out m (next_of Query Out m)
from_out Failure = ((λ w h. absurd h), tt)
from_out _ = ((λ w h. h), tt)

from_out_done : (m : Answer) → Follows Query OutDone m (next_of Query OutDone m)
from_out_done Failure = ((λ w h. absurd h), tt)
from_out_done _ = ((λ w h. h), tt)

from_given : (m : Answer) → Follows Query Given m (next_of Query Given m)
from_given Failure = ((λ w h. absurd h), tt)
from_given _ = ((λ w h. h), tt)

from_both : (m : Answer) → Follows Query Both m (next_of Query Both m)
from_both Failure = ((λ w h. absurd h), tt)
from_both _ = ((λ w h. h), tt)

from_both_out : (m : Answer) → Follows Query BothOut m (next_of Query BothOut m)
from_both_out Failure = ((λ w h. absurd h), tt)
from_both_out _ = ((λ w h. h), tt)

from_both_done : (m : Answer) → Follows Query BothDone m (next_of Query BothDone m)
from_both_done Failure = ((λ w h. absurd h), tt)
from_both_done _ = ((λ w h. h), tt)

from_failed : (m : Answer) → Follows Query Failed m (next_of Query Failed m)
from_failed Failure = ((λ w h. absurd h), tt)
from_failed _ = ((λ w h. h), tt)

of_query : (place : Place) (m : Answer) → Follows Query place m (next_of Query place m)
of_query Start m = from_statement m
of_query Over m = from_over m
of_query Rows m = from_rows m
of_query Out m = from_out m
of_query OutDone m = from_out_done m
of_query Given m = from_given m
of_query Both m = from_both m
of_query BothOut m = from_both_out m
of_query BothDone m = from_both_done m
of_query Failed m = from_failed m
of_query _ m = ((λ w h. absurd h), tt)

-- an Execute

from_portal : (m : Answer) → Follows Execute Start m (next_of Execute Start m)
from_portal Failure = ((λ w h. absurd h), (λ w h. absurd h))
from_portal _ = ((λ w h. h), (λ w h. h))

from_portal_rows : (m : Answer) → Follows Execute Rows m (next_of Execute Rows m)
from_portal_rows Failure = ((λ w h. absurd h), (λ w h. absurd h))
from_portal_rows _ = ((λ w h. h), (λ w h. h))

from_portal_out : (m : Answer) → Follows Execute Out m (next_of Execute Out m)
from_portal_out Failure = ((λ w h. absurd h), (λ w h. absurd h))
from_portal_out _ = ((λ w h. h), (λ w h. h))

execute_complete : (m : Answer) → Follows Execute OutDone m (next_of Execute OutDone m)
execute_complete Failure = ((λ w h. absurd h), (λ w h. absurd h))
execute_complete _ = ((λ w h. h), (λ w h. h))

execute_given : (m : Answer) → Follows Execute Given m (next_of Execute Given m)
execute_given Failure = ((λ w h. absurd h), (λ w h. absurd h))
execute_given _ = ((λ w h. h), (λ w h. h))

of_execute : (place : Place) (m : Answer) → Follows Execute place m (next_of Execute place m)
of_execute Start m = from_portal m
of_execute Rows m = from_portal_rows m
of_execute Out m = from_portal_out m
of_execute OutDone m = execute_complete m
of_execute Given m = execute_given m
of_execute _ m = ((λ w h. absurd h), (λ w h. absurd h))

-- the others

from_call : (m : Answer) → Follows Call Start m (next_of Call Start m)
from_call Failure = ((λ w h. absurd h), tt)
from_call _ = ((λ w h. h), tt)

from_value : (m : Answer) → Follows Call Value m (next_of Call Value m)
from_value Failure = ((λ w h. absurd h), tt)
from_value _ = ((λ w h. h), tt)

call_failed : (m : Answer) → Follows Call Failed m (next_of Call Failed m)
call_failed Failure = ((λ w h. absurd h), tt)
call_failed _ = ((λ w h. h), tt)

of_call : (place : Place) (m : Answer) → Follows Call place m (next_of Call place m)
of_call Start m = from_call m
of_call Value m = from_value m
of_call Failed m = call_failed m
of_call _ m = ((λ w h. absurd h), tt)

from_sync_start : (m : Answer) → Follows Sync Start m (next_of Sync Start m)
from_sync_start Failure = ((λ w h. absurd h), tt)
from_sync_start _ = ((λ w h. h), tt)

sync_failed : (m : Answer) → Follows Sync Failed m (next_of Sync Failed m)
sync_failed Failure = ((λ w h. absurd h), tt)
sync_failed _ = ((λ w h. h), tt)

of_sync : (place : Place) (m : Answer) → Follows Sync place m (next_of Sync place m)
of_sync Start m = from_sync_start m
of_sync Failed m = sync_failed m
of_sync _ m = ((λ w h. absurd h), tt)

from_parameters : (m : Answer) → Follows DescribeStatement Start m (next_of DescribeStatement Start m)
from_parameters Failure = ((λ w h. absurd h), (λ w h. absurd h))
from_parameters _ = ((λ w h. h), (λ w h. h))

from_description : (m : Answer) → Follows DescribeStatement Parameters m (next_of DescribeStatement Parameters m)
from_description Failure = ((λ w h. absurd h), (λ w h. absurd h))
from_description _ = ((λ w h. h), (λ w h. h))

of_statement : (place : Place) (m : Answer) → Follows DescribeStatement place m (next_of DescribeStatement place m)
of_statement Start m = from_parameters m
of_statement Parameters m = from_description m
of_statement _ m = ((λ w h. absurd h), (λ w h. absurd h))

portal_description : (m : Answer) → Follows DescribePortal Start m (next_of DescribePortal Start m)
portal_description Failure = ((λ w h. absurd h), (λ w h. absurd h))
portal_description _ = ((λ w h. h), (λ w h. h))

of_portal : (place : Place) (m : Answer) → Follows DescribePortal place m (next_of DescribePortal place m)
of_portal Start m = portal_description m
of_portal _ m = ((λ w h. absurd h), (λ w h. absurd h))

from_parse : (m : Answer) → Follows Parse Start m (next_of Parse Start m)
from_parse Failure = ((λ w h. absurd h), (λ w h. absurd h))
from_parse _ = ((λ w h. h), (λ w h. h))

of_parse : (place : Place) (m : Answer) → Follows Parse place m (next_of Parse place m)
of_parse Start m = from_parse m
of_parse _ m = ((λ w h. absurd h), (λ w h. absurd h))

from_bind : (m : Answer) → Follows Bind Start m (next_of Bind Start m)
from_bind Failure = ((λ w h. absurd h), (λ w h. absurd h))
from_bind _ = ((λ w h. h), (λ w h. h))

of_bind : (place : Place) (m : Answer) → Follows Bind place m (next_of Bind place m)
of_bind Start m = from_bind m
of_bind _ m = ((λ w h. absurd h), (λ w h. absurd h))

from_close : (m : Answer) → Follows Close Start m (next_of Close Start m)
from_close Failure = ((λ w h. absurd h), (λ w h. absurd h))
from_close _ = ((λ w h. h), (λ w h. h))

of_close : (place : Place) (m : Answer) → Follows Close place m (next_of Close place m)
of_close Start m = from_close m
of_close _ m = ((λ w h. absurd h), (λ w h. absurd h))

pub follows : (r : Request) (place : Place) (m : Answer) → Follows r place m (next_of r place m)
follows Query place m = of_query place m
follows Call place m = of_call place m
follows Parse place m = of_parse place m
follows Bind place m = of_bind place m
follows DescribeStatement place m = of_statement place m
follows DescribePortal place m = of_portal place m
follows Execute place m = of_execute place m
follows Close place m = of_close place m
follows Sync place m = of_sync place m
