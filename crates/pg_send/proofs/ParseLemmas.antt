-- A Parse makes the round trip.
use Rattle.std.proofs.Common.{◌≡◌, ℕ, ◌^◌, ◌<◌, List, [], ◌∷◌, ◌++◌, length, refl, append_assoc}
use Rattle.std.proofs.lemmas.List.{append-nil}
use Rattle.pg_base.specs.Id.{name, named, statement_prefix}
use Rattle.pg_base.specs.Reading.{HoldsNo}
use Rattle.pg_base.proofs.ReadingLemmas.{one_text}
use Rattle.pg_base.proofs.RoundTripLemmas.{id_of_name, text_of_name, one_id, statement_prefix_holds_no_0, one_counted}
use Rattle.pg_send.specs.Counted.{counted32}
use Rattle.pg_send.specs.Parse.{ParseFields, parse_body, IsParseInRange, ReadsParse}
use Rattle.pg_send.proofs.CountedLemmas.{read_counted32}

pub read_parse : (p : ParseFields) → IsParseInRange p → length p.param_types < 2 ^ 16 → HoldsNo 0 p.query → ReadsParse (parse_body p) p
read_parse p h few clean =
    let after : List ℕ = p.query ++ 0 ∷ counted32 p.param_types in
    let regrouped : parse_body p ≡ named statement_prefix p.statement ++ after = simp append_assoc in
    record {
      name = name statement_prefix p.statement;
      after_name = after;
      after_query = counted32 p.param_types;
      first = rw regrouped (text_of_name statement_prefix p.statement after statement_prefix_holds_no_0 h.statement);
      statement = id_of_name statement_prefix p.statement h.statement;
      second = record { clean = clean; parts = refl };
      types = rw append-nil at (read_counted32 p.param_types [] few h.param_types);
    }

pub one_parse : (body : List ℕ) (a b : ParseFields) → ReadsParse body a → ReadsParse body b → a ≡ b
one_parse body a b p q =
    let first = one_text body p.name q.name p.after_name q.after_name p.first q.first in
    let statements : a.statement ≡ b.statement = one_id statement_prefix q.name a.statement b.statement (rw first.0 at p.statement) q.statement in
    let second = one_text q.after_name a.query b.query p.after_query q.after_query (rw first.1 at p.second) q.second in
    let types = one_counted 4 q.after_query a.param_types b.param_types [] [] (rw second.1 at p.types) q.types in
    λ i. record { statement = statements i; query = second.0 i; param_types = types.0 i }
