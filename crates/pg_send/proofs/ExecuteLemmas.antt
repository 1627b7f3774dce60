-- An Execute makes the round trip.
use Rattle.std.proofs.Common.{◌≡◌, ℕ, List, []}
use Rattle.std.proofs.lemmas.List.{append-nil}
use Rattle.pg_base.specs.Id.{name, portal_prefix}
use Rattle.pg_base.specs.Numbers.{be32}
use Rattle.pg_base.proofs.ReadingLemmas.{one_number, one_text}
use Rattle.pg_base.proofs.RoundTripLemmas.{id_of_name, text_of_name, one_id, portal_prefix_holds_no_0, number_of_be32}
use Rattle.pg_send.specs.Execute.{ExecuteFields, execute_body, IsExecuteInRange, ReadsExecute}

pub read_execute : (e : ExecuteFields) → IsExecuteInRange e → ReadsExecute (execute_body e) e
read_execute e h = record {
  name = name portal_prefix e.portal;
  after_name = be32 e.limit;
  first = text_of_name portal_prefix e.portal (be32 e.limit) portal_prefix_holds_no_0 h.portal;
  portal = id_of_name portal_prefix e.portal h.portal;
  limit = rw append-nil at (number_of_be32 e.limit [] h.limit);
}

pub one_execute : (body : List ℕ) (d e : ExecuteFields) → ReadsExecute body d → ReadsExecute body e → d ≡ e
one_execute body d e p q =
    let first = one_text body p.name q.name p.after_name q.after_name p.first q.first in
    let portals : d.portal ≡ e.portal = one_id portal_prefix q.name d.portal e.portal (rw first.0 at p.portal) q.portal in
    let limits : d.limit ≡ e.limit = (one_number 4 q.after_name d.limit e.limit [] [] (rw first.1 at p.limit) q.limit).0 in
    λ i. record { portal = portals i; limit = limits i }
